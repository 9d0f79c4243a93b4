use Rattle.board_cases.specs.Ends.{left_of_frame, left_of_job}
use Rattle.board_cases.proofs.Dealing.{Gathering}
use Rattle.board_cases.proofs.ending.gather.Given as goal

abbrev pub invariant-loop-worker : goal.invariant-loop-worker
invariant-loop-worker g l =
    Gathering (λ w. w.pass) l.fn.seats.workers.items l.worker-iterator.rest.items l.fn.seats.feeder.pass l.passes.items
    × Gathering (λ w. left_of_job w.job) l.fn.seats.workers.items l.worker-iterator.rest.items (left_of_frame l.fn.seats.feeder.frame) l.lefts.items
