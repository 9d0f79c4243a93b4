use Rattle.std.proofs.Common.{◌≡◌, ◌∙◌, sym, refl, ap, subst, ℤ, Result, Ok, w64, true, ◌<◌}
use Rattle.std.specs.Prelude.{vec_len, vec_capacity}
use Rattle.course_parts.specs.declared.node.NodeState.{NodeState}
use Rattle.std.proofs.lemmas.Int.{to_z-of_z}
use Rattle.queue_sort.specs.declared.sort_lists.Placed.{Placed}
use Rattle.queue_sort.specs.declared.sort_lists.SortFull.{SortFull}
use Rattle.queue_sort.specs.PutAnswers.{put_answer}
use Rattle.queue_sort.specs.Sorting.{after_put, keeps_step}
use Rattle.course_parts.specs.declared.node.Kept.{Kept}
use Rattle.course_parts.proofs.Listing.{placed-out, placed-full, step-of, out-is}
use Rattle.course_parts.proofs.results.place.Goals as goal

pub returns-in-Ok-Out : goal.returns-in-Ok-Out
returns-in-Ok-Out c =
    let kept : Kept = record { name = c.args.name; measured = c.args.measured } in
    let id = to_z-of_z w64 c.args.id c.ranges.id in
    let list = c.count_put.new.node.list in
    let kind : Placed Kept → Result (Placed Kept) (SortFull Kept) = λ p. Ok p in
    placed-out c.args.id c.args.tick kept c.in-Ok-Out.kept c.args.node.now c.count_put.new.node _ c.count_put.ensures refl
    (sym (ap kind c.in-Ok-Out.field-0-is) ∙ (sym c.in-Ok-Out.is ∙ (c.put.ensures.answer ∙ ap (λ (i : ℤ). put_answer list i kept) id)))
    (c.put.ensures.after ∙ ap (λ (i : ℤ). after_put list (record { id = i; tick = c.args.tick; item = kept })) id)
    c.keep_measure.ensures.items c.keep_measure.ensures.capacity

pub returns-in-Err : goal.returns-in-Err
returns-in-Err c =
    let kept : Kept = record { name = c.args.name; measured = c.args.measured } in
    let id = to_z-of_z w64 c.args.id c.ranges.id in
    let list = c.count_put.new.node.list in
    placed-full c.args.id c.args.tick kept c.in-Err._full c.args.node.now c.count_put.new.node _ c.count_put.ensures refl
    (sym c.in-Err.is ∙ (c.put.ensures.answer ∙ ap (λ (i : ℤ). put_answer list i kept) id))
    (c.put.ensures.after ∙ ap (λ (i : ℤ). after_put list (record { id = i; tick = c.args.tick; item = kept })) id) c.put.ensures.in_order.within

pub keep_measure-requires : goal.keep_measure-requires
keep_measure-requires c =
    let kept : Kept = record { name = c.args.name; measured = c.args.measured } in
    let id = to_z-of_z w64 c.args.id c.ranges.id in
    let list = c.count_put.new.node.list in
    let kind : Placed Kept → Result (Placed Kept) (SortFull Kept) = λ p. Ok p in
    let step =
    step-of list c.args.id kept c.in-Ok-Out.kept
    (sym (ap kind c.in-Ok-Out.field-0-is) ∙ (sym c.in-Ok-Out.is ∙ (c.put.ensures.answer ∙ ap (λ (i : ℤ). put_answer list i kept) id))) in
    λ m some.
    let same : c.in-Ok-Out.kept ≡ kept =
    out-is list c.args.id kept c.in-Ok-Out.kept
    (sym (ap kind c.in-Ok-Out.field-0-is) ∙ (sym c.in-Ok-Out.is ∙ (c.put.ensures.answer ∙ ap (λ (i : ℤ). put_answer list i kept) id))) in
    let room =
    c.requires.room m (subst (λ (n : NodeState). keeps_step n.list.last c.args.id ≡ true) c.count_put.ensures step)
    (sym (ap (λ (y : Kept). y.measured) same) ∙ some) in
    subst (λ (n : NodeState). vec_len n.measures < vec_capacity n.measures) (sym c.count_put.ensures) room
