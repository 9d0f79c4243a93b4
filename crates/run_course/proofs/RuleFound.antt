-- The rule of a node, as code finds it.
use Rattle.std.proofs.Common.{◌≡◌, ◌<◌, ◌∙◌, ◌-◌, ℕ, true, List, length, sym, ap, subst, get_or, arith}
use Rattle.std.proofs.lemmas.List.{get_or-map, length-map}
use Rattle.flow_journal.specs.Setting.{Setting, Node, node, no_node, is_node}
use Rattle.course_parts.specs.declared.rules.NodeRules.{NodeRules}
use Rattle.course_parts.specs.declared.rules.Rules.{Rules}
use Rattle.course_parts.specs.RunRules.{AreRules, as_node}
use Rattle.run_course.proofs.Reading.{place-of}

pub rule-found : (s : Setting) (ru : Rules) (v : ℕ) (n : NodeRules) → AreRules ru s → is_node s v ≡ true → n ≡ get_or ru.nodes (v - 1) n → as_node n ≡ node s v
rule-found s ru v n are h is =
    let p = place-of s v h in
    let lt : v - 1 < length ru.nodes = omega (arith, p.1, ap length are.nodes, length-map ru.nodes as_node) in
    subst (λ u. as_node n ≡ node s u) p.0
    (ap as_node is ∙ (sym (get_or-map as_node ru.nodes (v - 1) n no_node lt) ∙ ap (λ (ns : List Node). get_or ns (v - 1) no_node) are.nodes))
