use Rattle.std.proofs.Common.{length, ◌-◌, ◌≡◌, ◌≤◌, take}
use Rattle.journal_check.proofs.step.count_alike.Given as goal

abbrev pub invariant-loop-count : goal.invariant-loop-count
invariant-loop-count l = (l.count ≤ length l.made) × (l.count ≤ length l.entries) × (take l.count l.made ≡ take l.count l.entries)

abbrev pub decreases-loop-count : goal.decreases-loop-count
decreases-loop-count l = length l.made - l.count
