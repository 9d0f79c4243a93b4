use Rattle.std.proofs.Common.{◌∙◌, ◌*◌, arith, ap}
use Rattle.nd_base.specs.declared.array.SampleType.TheVariants.{UInt8, UInt16}
use Rattle.nd_base.specs.Samples.{width}
use Rattle.nd_stats.proofs.RowSums.{row_most}
use Rattle.nd_stats.proofs.columns.eight.Goals as goal
use Rattle.nd_stats.proofs.columns.eight.Goals.{in-UInt8, in-UInt16}

pub returns-clause-most : goal.returns-clause-most
returns-clause-most c = elim c.match-kind.branch [
  | in-UInt8 w ↦ row_most UInt8 c.args.row.now c.match-kind.result c.type_inv.row (omega arith)
      (c.requires.whole ∙ ap (λ k. 8 * width k) w.in-UInt8.is) (w.result-is ∙ w.bytes.ensures)
  | in-UInt16 w ↦ row_most UInt16 c.args.row.now c.match-kind.result c.type_inv.row (omega arith)
      (c.requires.whole ∙ ap (λ k. 8 * width k) w.in-UInt16.is) (w.result-is ∙ w.pairs.ensures)
]
