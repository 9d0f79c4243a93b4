use Rattle.std.proofs.Common.{◌≡◌, ◌<◌, ◌≤◌, ◌-◌, ◌++◌, []}
use Rattle.std.specs.Prelude.{vec_len, vec_capacity}
use Rattle.turn_lock.specs.declared.rule.Stage.TheVariants.{Idle}
use Rattle.turn_lock.specs.Views.{view, unused}
use Rattle.turn_lock.specs.Passes.{new_passes}
use Rattle.turn_lock.proofs.lock.deal.Given as goal

abbrev pub invariant-loop-k : goal.invariant-loop-k
invariant-loop-k g l = (l.seat.table_id ≡ l.shared.table_id) × (l.seat.me ≡ (view Idle [] (unused l.k (l.seats - l.k)), [])) × (l.k < l.seats)
    × (vec_len l.passes ≡ l.k) × (l.seats ≤ vec_capacity l.passes)
    × (l.passes.items ++ new_passes l.shared.table_id l.k (l.seats - l.k) ≡ new_passes l.shared.table_id 0 l.seats)

abbrev pub decreases-loop-k : goal.decreases-loop-k
decreases-loop-k g l = l.seats - l.k
