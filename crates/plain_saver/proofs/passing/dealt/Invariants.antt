use Rattle.std.proofs.Common.{◌≡◌, ◌%◌, take}
use Rattle.std.specs.Prelude.{◌==◌}
use Rattle.trig_window.specs.Windows.{at_positions}
use Rattle.plain_saver.proofs.passing.dealt.Given as goal

abbrev pub invariant-loop-turn : goal.invariant-loop-turn
invariant-loop-turn l = l.own.items ≡ at_positions (λ j. j % l.children == l.place) 0 (take l.turn l.positions)
