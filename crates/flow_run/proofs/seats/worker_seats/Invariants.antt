use Rattle.std.proofs.Common.{◌≡◌, ◌+◌, ◌≤◌, length, vec_len, vec_capacity}
use Rattle.flow_run.proofs.Parting.{Seating}
use Rattle.flow_run.proofs.seats.worker_seats.Given as goal

abbrev pub invariant-loop-pass : goal.invariant-loop-pass
invariant-loop-pass g l =
    Seating l.fn.nodes l.fn.passes.items l.pass-iterator.rest.items l.role l.seats.items
    × (l.role + length l.pass-iterator.rest.items ≡ length l.fn.nodes)
    × (vec_len l.seats + length l.pass-iterator.rest.items ≤ vec_capacity l.seats)
