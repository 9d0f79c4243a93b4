use Rattle.std.proofs.Common.{◌≡◌, ◌-◌, length, map, take, drop, get_or, reverse, ap, ◌∙◌, rules, FitsSigned, to_z, of_z, w64}
use Rattle.std.proofs.lemmas.Int.{to_z-of_z}
use Rattle.std.proofs.lemmas.List.{reverse-reverse}
use Rattle.flow_journal.specs.Setting.{first_prev}
use Rattle.run_report.specs.Report.{report}
use Rattle.run_report.specs.Tallies.{finished}
use Rattle.run_report.proofs.Reports.{report-made}
use Rattle.run_report.proofs.counting.counters.Goals as goal

pub returns : goal.returns
returns c =
    let p = c.args.plan.now in
    let t = c.in_ok-feed.field-0 in
    let x = c.first_prev-first_prev.result in
    let last = to_z w64 (of_z w64 x) in
    let fits : FitsSigned w64 x = search rules in
    let first : last ≡ first_prev p.ids = to_z-of_z w64 x fits ∙ c.first_prev-first_prev.ensures ∙ ap first_prev c.as_slice-ids.ensures in
    let driver : c.finished-driver.result ≡ finished last (get_or t.nodes.items 0 c.index.result.now) =
    c.finished-driver.ensures ∙ ap (finished last) c.index.ensures in
    let nodes : c.new.result ≡ map (finished last) (take (length t.nodes.items - 1) (drop 1 t.nodes.items)) =
    c.new.ensures ∙ c.in_ok-counts.ensures ∙ ap (λ ts. map (finished last) (take (length ts - 1) (drop 1 ts))) c.deref.ensures.value in
    report-made p (reverse c.entries.result.now) t c.as_slice-ids.result.now last c.finished-driver.result c.index.result.now c.new.result c.in_ok-feed.ensures
    c.as_slice-ids.ensures first driver nodes
    ∙ ap (report p) (ap reverse c.entries.ensures ∙ reverse-reverse c.args.log.now.past)
