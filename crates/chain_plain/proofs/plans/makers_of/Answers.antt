use Rattle.std.proofs.Common.{◌≡◌, ◌∷◌, [], ◌++◌, ◌+◌, ◌<◌, length, map, filter, get_or, ap, sym, ◌∙◌, arith, ℕ}
use Rattle.std.specs.List.{range_with_len}
use Rattle.nd_base.specs.declared.plan.Maker.{Maker}
use Rattle.chain_plain.specs.Nodes.{is_region}
use Rattle.chain_plain.specs.Plans.{maker_of, shape_at}
use Rattle.chain_plain.proofs.Makers.{maker_more, maker_none, is_region-at}
use Rattle.chain_plain.proofs.plans.makers_of.Goals as goal
use Rattle.chain_plain.proofs.plans.makers_of.Goals.{then-makes_arrays+in_ok-maker_at-2+in_ok-push, else-makes_arrays}

pub loop-place-preserved : goal.loop-place-preserved
loop-place-preserved c =
    let nodes = c.args.graph.now.nodes in
    let shape = c.args.shape.now in
    let place = c.loop-place.place in
    let made : ℕ → Maker = λ v. maker_of v (shape_at nodes shape v) in
    let items = c.as_slice-rule-items.ensures in
    let within : place < length nodes = omega (arith, c.loop-place-test.true, ap length items) in
    let here : get_or nodes place c.rule-item.result ≡ c.rule-item.result = sym (c.rule-item.is ∙ ap (λ ns. get_or ns place c.rule-item.result) items) in
    let number : place + 1 ≡ 1 + place = omega arith in
    let region : is_region nodes (1 + place) ≡ c.makes_arrays.result = is_region-at nodes place c.rule-item.result within here ∙ sym c.makes_arrays.ensures in
    elim c.if-makes_arrays.branch [
      | then-makes_arrays+in_ok-maker_at-2+in_ok-push w ↦
          let longer : c.if-makes_arrays.makers.items ≡ c.loop-place.makers.items ++ w.in_ok-maker_at-2.field-0 ∷ [] =
          ap (λ v. v.items) w.makers-is ∙ w.in_ok-push.ensures.items in
          let one : w.in_ok-maker_at-2.field-0 ≡ made (1 + place) = w.in_ok-maker_at-2.ensures ∙ ap made number in
          longer ∙ ap (λ ms. ms ++ w.in_ok-maker_at-2.field-0 ∷ []) c.loop-place.invariant
          ∙ ap (λ m. map made (0 ∷ filter (is_region nodes) (range_with_len 1 place)) ++ m ∷ []) one
          ∙ sym (maker_more made (is_region nodes) place (region ∙ w.if-makes_arrays.true))
      | else-makes_arrays w ↦
          ap (λ v. v.items) w.makers-is ∙ c.loop-place.invariant
          ∙ sym (maker_none made (is_region nodes) place (region ∙ w.if-makes_arrays.false))
    ]
