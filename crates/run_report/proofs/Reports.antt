-- The counters that the tallies of a whole log give.
use Rattle.std.proofs.Common.{◌≡◌, ℕ, ◌+◌, ◌-◌, arith, List, [], ◌∷◌, ap, ◌∙◌, length, map, get_or, take, drop, ℤ}
use Rattle.std.specs.List.{count_by}
use Rattle.std.proofs.lemmas.List.{take_all, length-drop}
use Rattle.nd_base.specs.declared.plan.Plan.{Plan}
use Rattle.flow_journal.specs.Pasts.{Past}
use Rattle.flow_journal.specs.Setting.{node_numbers, first_prev}
use Rattle.flow_journal.specs.Breaks.{breaks}
use Rattle.run_report.specs.declared.counts.Counters.{Counters}
use Rattle.run_report.specs.declared.counts.NodeCount.{NodeCount}
use Rattle.run_report.specs.declared.counting.Tally.{Tally}
use Rattle.run_report.specs.declared.tally.NodeTally.{NodeTally}
use Rattle.run_report.specs.Report.{loaded, node_count, plan_setting, report}
use Rattle.flow_journal.specs.EntryTests.{is_refused_load, says_regrown}
use Rattle.run_report.specs.Tallies.{finished}
use Rattle.run_report.specs.Tallied.{IsTallied}

-- the first and the others of a list that is mapped
first-mapped : {X Y : Type 0} (f : X → Y) (xs : List X) (y : Y) (ys : List Y) (d : X) → map f xs ≡ y ∷ ys → f (get_or xs 0 d) ≡ y
first-mapped f [] y ys d h = cc
first-mapped f (x ∷ xs) y ys d h = cc

others-mapped : {X Y : Type 0} (f : X → Y) (xs : List X) (y : Y) (ys : List Y) → map f xs ≡ y ∷ ys → map f (drop 1 xs) ≡ ys
others-mapped f [] y ys h = cc
others-mapped f (x ∷ xs) y ys h = cc

-- all but the first, as a slice from 1 on
others-sliced : {X : Type 0} (xs : List X) → take (length xs - 1) (drop 1 xs) ≡ drop 1 xs
others-sliced xs = let left = length-drop 1 xs in take_all (length xs - 1) (drop 1 xs) (omega (arith, left))

-- counters of these numbers
abbrev counters_of : (frames loads refusals breaks grants : ℕ) → List NodeCount → Counters
counters_of f l r b g ns = record { frames = f; offered = l + r; loaded = l; refused = r; breaks = b; regrown = g; nodes = ns }

pub report-made : (p : Plan) (P : Past) (t : Tally) (ids : List ℤ) (last : ℤ) (driver : NodeCount) (d : NodeTally) (counts : List NodeCount) → IsTallied p P t
    → ids ≡ p.ids → last ≡ first_prev p.ids → driver ≡ finished last (get_or t.nodes.items 0 d)
    → counts ≡ map (finished last) (take (length t.nodes.items - 1) (drop 1 t.nodes.items))
    → record {
      frames = length ids;
      offered = t.feed.loaded + t.feed.refused;
      loaded = t.feed.loaded;
      refused = t.feed.refused;
      breaks = driver.breaks;
      regrown = t.feed.regrown;
      nodes = counts;
    } ≡ report p P
report-made p P t ids last driver d counts h same_ids same_last at_driver at_nodes =
    let s = plan_setting p in
    let ns = map (node_count s P) (node_numbers s) in
    let first : driver ≡ node_count s P 0 =
    at_driver
    ∙ ap (λ (i : ℤ). finished i (get_or t.nodes.items 0 d)) same_last
    ∙ first-mapped (finished (first_prev p.ids)) t.nodes.items (node_count s P 0) ns d h.nodes in
    let others : counts ≡ ns =
    at_nodes
    ∙ ap (map (finished last)) (others-sliced t.nodes.items)
    ∙ ap (λ (i : ℤ). map (finished i) (drop 1 t.nodes.items)) same_last
    ∙ others-mapped (finished (first_prev p.ids)) t.nodes.items (node_count s P 0) ns h.nodes in
    ap (λ (i : List ℤ). counters_of (length i) t.feed.loaded t.feed.refused driver.breaks t.feed.regrown counts) same_ids
    ∙ ap (λ (i : ℕ). counters_of (length p.ids) i t.feed.refused driver.breaks t.feed.regrown counts) h.loaded
    ∙ ap (λ (i : ℕ). counters_of (length p.ids) (loaded P) i driver.breaks t.feed.regrown counts) h.refused
    ∙ ap (λ (i : NodeCount). counters_of (length p.ids) (loaded P) (count_by is_refused_load P) i.breaks t.feed.regrown counts) first
    ∙ ap (λ (i : ℕ). counters_of (length p.ids) (loaded P) (count_by is_refused_load P) (breaks s 0 P) i counts) h.regrown
    ∙ ap (counters_of (length p.ids) (loaded P) (count_by is_refused_load P) (breaks s 0 P) (count_by says_regrown P)) others
