use Rattle.std.proofs.Common.{◌≡◌, ◌*◌, ◌^◌, ◌≤◌, take}
use Rattle.std.specs.Prelude.{sum_by}
use Rattle.graph_conf.proofs.links.thread_count.Given as goal

abbrev pub invariant-loop-rule : goal.invariant-loop-rule
invariant-loop-rule l = (l.total ≡ sum_by (λ n. n.threads) (take l.rule-index l.rules)) × (l.total ≤ l.rule-index * 2 ^ 32)
