use Rattle.std.proofs.Common.{◌≡◌, true, false, List, Option, Some, sym, ap, subst, ◌∙◌}
use Rattle.std.specs.Prelude.{All, IfOk}
use Rattle.std.specs.Str.{bytes_eq}
use Rattle.std.proofs.lemmas.List.Elements.{All-nil}
use Rattle.nd_base.specs.GraphRules.{rule_at}
use Rattle.edge_traits.specs.Files.{Files}
use Rattle.data_check.specs.ComparedFiles.{ComparedFile, log_node, IsSame, IsFound, IsFirstUnread, TellsFault}
use Rattle.data_check.proofs.NodeFiles.{rule-node, log-node, stats-node, other-node}
use Rattle.data_check.proofs.compare.difference_at.Goals as goal

pub returns-in-Stats-clause-found : goal.returns-in-Stats-clause-found
returns-in-Stats-clause-found g c =
    let h = c.args.history.now in
    let v = c.args.node in
    let n = c.in-Some.rule.now in
    let held : Option Files = g.L.Library.holds c.args.library.now in
    let rule : rule_at h.graph.nodes v ≡ Some n = sym c.in-Some.ensures.value in
    let same : bytes_eq n.name log_node ≡ true = ap (λ q. bytes_eq q log_node) (sym c.text.ensures) ∙ (sym c.has_log_name.ensures ∙ c.if-has_log_name.true) in
    subst (All (IsSame held)) (sym (rule-node h.graph h.stack h.prefix h.past v n rule
    ∙ log-node h.graph h.stack h.prefix h.past v n c.in-Stats.field-0 c.in-Stats.is same)) (All-nil (IsSame held))

pub returns-in-Stats-2-clause-found : goal.returns-in-Stats-2-clause-found
returns-in-Stats-2-clause-found g c =
    let h = c.args.history.now in
    let v = c.args.node in
    let n = c.in-Some.rule.now in
    let held : Option Files = g.L.Library.holds c.args.library.now in
    let rule : rule_at h.graph.nodes v ≡ Some n = sym c.in-Some.ensures.value in
    let other : bytes_eq n.name log_node ≡ false =
    ap (λ q. bytes_eq q log_node) (sym c.text.ensures) ∙ (sym c.has_log_name.ensures ∙ c.if-has_log_name.false) in
    subst (λ (fs : List ComparedFile). IfOk c.rows_difference.result (λ found. IsFound held fs found)) (sym (rule-node h.graph h.stack h.prefix h.past v n rule
    ∙ stats-node h.graph h.stack h.prefix h.past v n c.in-Stats-2.stats c.in-Stats-2.is other)) c.rows_difference.ensures.found

pub returns-in-Stats-2-clause-unread : goal.returns-in-Stats-2-clause-unread
returns-in-Stats-2-clause-unread g c =
    let h = c.args.history.now in
    let v = c.args.node in
    let n = c.in-Some.rule.now in
    let held : Option Files = g.L.Library.holds c.args.library.now in
    let rule : rule_at h.graph.nodes v ≡ Some n = sym c.in-Some.ensures.value in
    let other : bytes_eq n.name log_node ≡ false =
    ap (λ q. bytes_eq q log_node) (sym c.text.ensures) ∙ (sym c.has_log_name.ensures ∙ c.if-has_log_name.false) in
    let before = g.L.Library.faults_at c.args.library.now in
    let now = g.L.Library.faults_at c.rows_difference.new.library in
    subst (λ (fs : List ComparedFile). TellsFault c.rows_difference.result (IsFirstUnread held before now fs) before now)
    (sym (rule-node h.graph h.stack h.prefix h.past v n rule
    ∙ stats-node h.graph h.stack h.prefix h.past v n c.in-Stats-2.stats c.in-Stats-2.is other)) c.rows_difference.ensures.unread

pub returns-in-Roi-clause-found : goal.returns-in-Roi-clause-found
returns-in-Roi-clause-found g c =
    let h = c.args.history.now in
    let v = c.args.node in
    let n = c.in-Some.rule.now in
    let held : Option Files = g.L.Library.holds c.args.library.now in
    let rule : rule_at h.graph.nodes v ≡ Some n = sym c.in-Some.ensures.value in
    subst (All (IsSame held)) (sym (rule-node h.graph h.stack h.prefix h.past v n rule ∙ other-node h.graph h.stack h.prefix h.past v n c.in-Roi.is))
    (All-nil (IsSame held))

pub returns-in-Roi-2-clause-found : goal.returns-in-Roi-2-clause-found
returns-in-Roi-2-clause-found g c =
    let h = c.args.history.now in
    let v = c.args.node in
    let n = c.in-Some.rule.now in
    let held : Option Files = g.L.Library.holds c.args.library.now in
    let rule : rule_at h.graph.nodes v ≡ Some n = sym c.in-Some.ensures.value in
    subst (All (IsSame held)) (sym (rule-node h.graph h.stack h.prefix h.past v n rule ∙ other-node h.graph h.stack h.prefix h.past v n c.in-Roi.is))
    (All-nil (IsSame held))

pub returns-in-Roi-3-clause-found : goal.returns-in-Roi-3-clause-found
returns-in-Roi-3-clause-found g c =
    let h = c.args.history.now in
    let v = c.args.node in
    let n = c.in-Some.rule.now in
    let held : Option Files = g.L.Library.holds c.args.library.now in
    let rule : rule_at h.graph.nodes v ≡ Some n = sym c.in-Some.ensures.value in
    subst (All (IsSame held)) (sym (rule-node h.graph h.stack h.prefix h.past v n rule ∙ other-node h.graph h.stack h.prefix h.past v n c.in-Roi.is))
    (All-nil (IsSame held))
