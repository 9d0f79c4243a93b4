use Rattle.std.proofs.Common.{take}
use Rattle.trig_window.proofs.Positions.{Passes}
use Rattle.trig_window.proofs.passing.passed_positions.Given as goal

abbrev pub invariant-loop-place : goal.invariant-loop-place
invariant-loop-place l = Passes l.pre l.post l.preset l.window (take l.place l.fired) (take l.place l.positions) l.passed.items
