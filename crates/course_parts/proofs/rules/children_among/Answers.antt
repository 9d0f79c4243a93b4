use Rattle.std.proofs.Common.{◌∙◌, sym, ap, ◌∷◌, [], ◌++◌, ◌+◌}
use Rattle.std.proofs.lemmas.List.{take_all}
use Rattle.course_parts.proofs.RulesOf.{fed, fed-none, fed-yes, fed-no, children-fed}
use Rattle.course_parts.proofs.rules.children_among.Goals as goal
use Rattle.course_parts.proofs.rules.children_among.Goals.{then-rule-node+in_ok-push, else-rule-node}

pub loop-place-init : goal.loop-place-init
loop-place-init c = c.new-children.ensures.items ∙ sym (fed-none c.args.node c.args.nodes.now)

pub loop-place-preserved : goal.loop-place-preserved
loop-place-preserved c =
    let ns = c.args.nodes.now in
    let i = c.loop-place.place in
    let n = c.index-nodes-place.result in
    elim c.if-rule-node.branch [
      | then-rule-node+in_ok-push w ↦
          ap (λ v. v.items) w.children-is ∙ w.in_ok-push.ensures.items ∙ ap (λ us. us ++ (i + 1) ∷ []) c.loop-place.invariant
          ∙ sym (fed-yes c.args.node i ns n c.loop-place-test.true c.index-nodes-place.is w.if-rule-node.true)
      | else-rule-node w ↦
          ap (λ v. v.items) w.children-is ∙ c.loop-place.invariant
          ∙ sym (fed-no c.args.node i ns n c.loop-place-test.true c.index-nodes-place.is w.if-rule-node.false)
    ]

pub returns : goal.returns
returns c =
    λ s are. c.loop-place.invariant ∙ ap (fed c.args.node 1) (take_all c.loop-place.place c.args.nodes.now c.loop-place-test.false)
    ∙ sym (children-fed s c.args.node c.args.nodes.now are)
