use Rattle.std.proofs.Common.{rules, ◌≡◌, ◌∙◌, w32, to_z, of_z, FitsSigned}
use Rattle.std.proofs.lemmas.Int.{to_z-of_z}
use Rattle.std.proofs.lemmas.Result.{IfOk-weaker}
use Rattle.nd_stats.specs.Measured.{measure_of}
use Rattle.chain_plain.specs.OneThread.{measure_of_array}
use Rattle.journal_check.proofs.StatsMeasures.{measure-is}
use Rattle.journal_check.proofs.measures.measure_array.Goals as goal

pub returns : goal.returns
returns c =
    let fits : FitsSigned w32 c.head.result.now.id = search rules in
    let id = to_z w32 (of_z w32 c.head.result.now.id) in
    IfOk-weaker c.measure.result (λ m. m ≡ measure_of c.args.stats.now id c.kind.result c.dims.result.now 0 c.bytes.result.now)
    (λ m. m ≡ measure_of_array c.args.stats.now c.args.array.now)
    (λ m is. is ∙ measure-is c.args.stats.now c.args.array.now id c.kind.result c.dims.result.now c.bytes.result.now
    (to_z-of_z w32 c.head.result.now.id fits ∙ c.head.ensures.id) c.kind.ensures c.dims.ensures.value c.bytes.ensures.samples)
    c.measure.ensures
