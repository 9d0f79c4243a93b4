use Rattle.std.proofs.Common.{◌≡◌, ◌++◌, string_bytes, take}
use Rattle.nd_stats.specs.Row.{with_commas}
use Rattle.nd_stats.proofs.row.push_more.Given as goal

abbrev pub invariant-loop-number : goal.invariant-loop-number
invariant-loop-number l = string_bytes l.text ≡ string_bytes l.initial.text ++ with_commas (take l.number-index l.numbers)
