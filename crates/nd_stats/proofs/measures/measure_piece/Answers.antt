use Rattle.std.proofs.Common.{rules, w32, FitsSigned, ◌<◌, ◌/◌, length, take}
use Rattle.std.proofs.lemmas.Int.{to_z-of_z}
use Rattle.nd_base.specs.Samples.{width, number}
use Rattle.nd_stats.specs.Samples.{Sample, placed}
use Rattle.nd_stats.specs.Measured.{measure_of}
use Rattle.nd_base.specs.Samples.{samples_of}
use Rattle.nd_stats.proofs.Pieces.{measure_of_tally, least_piece, greatest_piece, whole_piece}
use Rattle.nd_stats.proofs.measures.measure_piece.Goals as goal

pub returns : goal.returns
unfolding measure_of
returns c =
    let kind = c.args.kind in
    let from = c.args.from in
    let bytes = c.args.samples.now in
    let first : Sample = record { place = from; value = number kind (take (width kind) bytes) } in
    let fits : FitsSigned w32 c.args.id = search rules in
    let some : 0 < length bytes / width kind = whole_piece (length bytes) (width kind) c.requires.whole c.requires.some in
    measure_of_tally c.args.rule.now c.args.id c.args.dims.now first
    (placed from (samples_of kind bytes)) c.tally_of-tally.result c.measure_from.result c.tally_of-tally.ensures
    (least_piece kind from (length bytes / width kind) bytes some) (greatest_piece kind from (length bytes / width kind) bytes some)
    (simp to_z-of_z at c.measure_from.ensures)
