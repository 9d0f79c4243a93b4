use Rattle.std.proofs.Common.{◌≢◌, ◌+◌, ◌<◌, ◌≤◌, length, arith}
use Rattle.flow_drain.proofs.Rounds.{counted-node}
use Rattle.board_cases.proofs.saving.keep.Goals as goal

pub save-requires-clause-node : goal.save-requires-clause-node
save-requires-clause-node g c =
    let ne : c.in-Save.node ≢ 0 = c.if-node-eq0.false in
    let low : 1 ≤ c.in-Save.node = omega (arith, ne) in
    let high : c.in-Save.node < length c.as_slice-nodes.result.now + 1 = omega (arith, c.if-node-nodes.false) in
    counted-node g.R.Run.graph g.R.Run.stack c.args.plan.now c.as_slice-nodes.result.now c.in-Save.node c.requires.plan c.as_slice-nodes.ensures low high
