use Rattle.std.proofs.Common.{drop, map, to_z, ap, arith}
use Rattle.std.specs.Int.{w16}
use Rattle.std.proofs.lemmas.List.{length-drop}
use Rattle.lane_kernels.proofs.Rows.{bytes_behind, pairs_row}
use Rattle.lane_kernels.proofs.lanes.signed_pairs_at.Goals as goal

pub returns : goal.returns
returns c =
    let long = length-drop c.args.at c.args.bytes.now in
    ap (map (to_z w16)) (pairs_row (drop c.args.at c.args.bytes.now) (omega (arith, long)) (bytes_behind c.args.at c.args.bytes.now c.type_inv.bytes))
