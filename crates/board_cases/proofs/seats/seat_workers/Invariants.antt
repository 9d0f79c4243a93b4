use Rattle.std.proofs.Common.{◌≡◌, ◌+◌, length}
use Rattle.board_cases.proofs.Dealing.{Seating}
use Rattle.board_cases.proofs.seats.seat_workers.Given as goal

abbrev pub invariant-loop-pass : goal.invariant-loop-pass
invariant-loop-pass g l =
    Seating l.fn.nodes l.fn.passes.items l.pass-iterator.rest.items l.count l.workers.items × (l.count + length l.pass-iterator.rest.items ≡ length l.fn.nodes)
