use Rattle.std.proofs.Common.{drop, arith}
use Rattle.std.proofs.lemmas.List.{length-drop}
use Rattle.lane_kernels.proofs.Rows.{bytes_behind, words_row}
use Rattle.lane_kernels.proofs.lanes.words_at.Goals as goal

pub returns : goal.returns
returns c =
    let long = length-drop c.args.at c.args.bytes.now in
    words_row (drop c.args.at c.args.bytes.now) (omega (arith, long)) (bytes_behind c.args.at c.args.bytes.now c.type_inv.bytes)
