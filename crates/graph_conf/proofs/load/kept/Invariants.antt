use Rattle.std.proofs.Common.{◌≡◌, ◌+◌, ◌-◌, ◌*◌, ◌^◌, ◌≤◌, length}
use Rattle.graph_conf.specs.Loads.{kept, kept_from}
use Rattle.graph_conf.proofs.load.kept.Given as goal

-- the numbers so far, and then those of what is left
abbrev pub invariant-loop-place : goal.invariant-loop-place
invariant-loop-place l = record {
  told : l.total + kept_from l.graph l.stack (l.place + 1) (length l.graph.nodes - l.place) ≡ kept l.graph l.stack;
  small : l.total ≤ l.place * 2 ^ 55;
}
