-- Which calls the grammar's functions may make of each other.
use Rattle.std.proofs.Common.{ℕ}
use Rattle.trig_window.specs.Levels.{Level}
use Rattle.trig_window.specs.Levels as level

-- how loose a level is; three functions read it
abbrev pub rank : Level → ℕ
rank level.Or = 13
rank level.And = 10
rank level.Comparison = 7
rank level.Sum = 4
rank level.Product = 1
