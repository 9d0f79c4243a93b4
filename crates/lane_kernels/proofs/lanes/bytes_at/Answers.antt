use Rattle.std.proofs.Common.{drop, arith}
use Rattle.std.proofs.lemmas.List.{length-drop}
use Rattle.lane_kernels.proofs.Rows.{bytes_behind, bytes_row, unsigned_lane}
use Rattle.lane_kernels.proofs.lanes.bytes_at.Goals as goal

pub returns : goal.returns
returns c =
    let long = length-drop c.args.at c.args.bytes.now in
    bytes_row _ unsigned_lane 8 (drop c.args.at c.args.bytes.now) (omega (arith, long)) (bytes_behind c.args.at c.args.bytes.now c.type_inv.bytes)
