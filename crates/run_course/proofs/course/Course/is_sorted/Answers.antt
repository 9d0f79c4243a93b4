use Rattle.std.proofs.Common.{◌≡◌, ◌⊎◌, ◌∙◌, ◌-◌, ◌&&◌, ℕ, true, false, Bool, inl, inr, ltb, ap, sym, get_or, List}
use Rattle.board_rules.specs.RunMeasures.{run_setting}
use Rattle.flow_journal.specs.Setting.{Node, node, may_sort}
use Rattle.course_parts.specs.RunRules.{as_node, as_work}
use Rattle.course_parts.specs.declared.rules.NodeRules.{NodeRules}
use Rattle.course_parts.specs.declared.rules.NodeWork.{NodeWork}
use Rattle.course_parts.specs.declared.rules.NodeWork.TheVariants.{Makes, Passes, Deals, Watches, Saves}
use Rattle.run_course.proofs.RuleFound.{rule-found}
use Rattle.run_course.proofs.course.Course.is_sorted.Goals as goal

sorts : (w : NodeWork) → (w ≡ Makes) ⊎ ((w ≡ Passes) ⊎ (w ≡ Deals)) → may_sort (as_work w) ≡ true
sorts w h = elim h [
  | inl makes ↦ ap (λ x. may_sort (as_work x)) makes
  | inr more ↦ elim more [ inl passes ↦ ap (λ x. may_sort (as_work x)) passes | inr deals ↦ ap (λ x. may_sort (as_work x)) deals ]
]

sorts-not : (w : NodeWork) → ((a : ℕ) × (b : ℕ) × (d : ℕ) × (w ≡ Watches a b d)) ⊎ ((a : Bool) × (b : ℕ) × (w ≡ Saves a b)) → may_sort (as_work w) ≡ false
sorts-not w h = elim h [ inl watches ↦ ap (λ x. may_sort (as_work x)) watches.3 | inr saves ↦ ap (λ x. may_sort (as_work x)) saves.2 ]

pub returns-in-Makes : goal.returns-in-Makes
returns-in-Makes g c =
    let n = c.index-as_slice-node.result in
    let s = run_setting g.F.Of.Run.graph g.F.Of.Run.stack in
    let rule : as_node n ≡ node s c.args.node =
    rule-found s c.self.inside.rules c.args.node n c.self.invariant.ruled c.requires
    (c.index-as_slice-node.is ∙ ap (λ (ns : List NodeRules). get_or ns (c.args.node - 1) n) c.as_slice.ensures) in
    sym (ap (λ (o : Node). may_sort o.work && ltb 0 o.sort) (sym rule) ∙ ap (λ b. b && ltb 0 n.sort) (sorts n.work c.in-Makes.is))

pub returns-in-Watches : goal.returns-in-Watches
returns-in-Watches g c =
    let n = c.index-as_slice-node.result in
    let s = run_setting g.F.Of.Run.graph g.F.Of.Run.stack in
    let rule : as_node n ≡ node s c.args.node =
    rule-found s c.self.inside.rules c.args.node n c.self.invariant.ruled c.requires
    (c.index-as_slice-node.is ∙ ap (λ (ns : List NodeRules). get_or ns (c.args.node - 1) n) c.as_slice.ensures) in
    sym (ap (λ (o : Node). may_sort o.work && ltb 0 o.sort) (sym rule) ∙ ap (λ b. b && ltb 0 n.sort) (sorts-not n.work c.in-Watches.is))
