use Rattle.std.proofs.Common.{◌≡◌, ltb, filter, take}
use Rattle.std.specs.List.{filter_map}
use Rattle.data_check.specs.Histories.{position_in}
use Rattle.data_check.proofs.history.History.positions.Given as goal

-- the positions that the first entries tell
abbrev pub invariant-loop-entry : goal.invariant-loop-entry
invariant-loop-entry l = l.positions.items ≡ filter (λ k. ltb k l.frames) (filter_map (position_in l.saves l.node) (take l.entry-index l.entry-items))
