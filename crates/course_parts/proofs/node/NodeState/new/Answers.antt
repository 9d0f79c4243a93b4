use Rattle.std.proofs.Common.{◌∙◌, ℤ, [], pos, ap, refl, w64}
use Rattle.std.specs.Prelude.{◌-ℤ◌}
use Rattle.std.proofs.lemmas.Int.{to_z-of_z}
use Rattle.queue_sort.specs.Sorting.{SortState}
use Rattle.flow_journal.specs.Setting.{Node}
use Rattle.course_parts.specs.declared.node.Kept.{Kept}
use Rattle.course_parts.proofs.Starts.{fresh-node}
use Rattle.course_parts.proofs.node.NodeState.new.Goals as goal

pub returns : goal.returns
returns c =
    λ measure s v i.
    let listed : ℤ → SortState Kept = λ first. record { size = c.args.rules.now.sort; last = first -ℤ pos 1; disordered = 0; waiting = [] } in
    fresh-node measure s v c.args.rules.now c.args.frames c.args.first _ i c.in_ok-new.ensures
    (c.in_ok-new-2.ensures ∙ ap listed (to_z-of_z w64 c.args.first c.ranges.first)) (c.in_ok-window_of.ensures s v (ap (λ (n : Node). n.work) i.ruled))
    c.in_ok-with_capacity.ensures.items c.in_ok-with_capacity-2.ensures.items
    (c.in_ok-with_capacity.ensures.exact ∙ c.room_to_save.ensures)
    (c.in_ok-with_capacity-2.ensures.exact ∙ c.room_to_measure.ensures)
    refl refl refl refl refl refl
