use Rattle.std.proofs.Common.{rules, ◌/◌, length, pos, sym, subst, w64, FitsSigned}
use Rattle.std.proofs.lemmas.Int.{to_z-of_z}
use Rattle.std.specs.Int.{w8, w16, from_be_bytes}
use Rattle.nd_base.specs.declared.array.SampleType.TheVariants.{UInt8, UInt16}
use Rattle.nd_base.specs.Samples.{width, samples_of}
use Rattle.nd_stats.specs.Samples.{placed}
use Rattle.nd_stats.specs.Over.{IsOver}
use Rattle.nd_stats.proofs.Reached.{none_below, over_alike}
use Rattle.nd_stats.proofs.over.line_over.Goals as goal

pub returns-in-UInt8-clause-over : goal.returns-in-UInt8-clause-over
returns-in-UInt8-clause-over c =
    let bytes = c.args.line.now in
    let ft : FitsSigned w64 c.args.threshold = search rules in
    let reached = simp to_z-of_z at c.if-threshold-le0.true in
    subst (λ kind. IsOver c.args.threshold (placed 0 (samples_of kind bytes)) c.part_over.result) (sym c.in-UInt8.is)
    (over_alike UInt8 (pos 0) c.args.threshold (λ bs. none_below c.args.threshold (from_be_bytes w8 bs) reached)
    (length bytes / width UInt8) bytes c.part_over.result c.part_over.ensures.over)

pub returns-in-UInt16-clause-over : goal.returns-in-UInt16-clause-over
returns-in-UInt16-clause-over c =
    let bytes = c.args.line.now in
    let ft : FitsSigned w64 c.args.threshold = search rules in
    let reached = simp to_z-of_z at c.if-threshold-le0-2.true in
    subst (λ kind. IsOver c.args.threshold (placed 0 (samples_of kind bytes)) c.part_over-in-UInt16.result) (sym c.in-UInt16.is)
    (over_alike UInt16 (pos 0) c.args.threshold (λ bs. none_below c.args.threshold (from_be_bytes w16 bs) reached)
    (length bytes / width UInt16) bytes c.part_over-in-UInt16.result c.part_over-in-UInt16.ensures.over)
