use Rattle.std.proofs.Common.{rules, ◌≡◌, ℕ, ◌∙◌, ap, w32, FitsSigned, Vec, Global}
use Rattle.std.proofs.lemmas.Int.{to_z-of_z}
use Rattle.nd_stats.specs.Row.{row}
use Rattle.chain_plain.specs.OneThread.{measure_of_array}
use Rattle.data_check.proofs.RowSteps.{measure-is}
use Rattle.data_check.proofs.rows.text_of.Goals as goal

pub returns : goal.returns
returns c =
    let fits : FitsSigned w32 c.head.result.now.id = search rules in
    let measured : c.in_ok-measured.measured ≡ measure_of_array c.args.rule.now c.args.array.now =
    c.in_ok-measured.ensures
    ∙ measure-is c.args.rule.now c.args.array.now _ c.kind.result c.dims.result.now c.bytes.result.now
    (to_z-of_z w32 c.head.result.now.id fits ∙ c.head.ensures.id) c.kind.ensures c.dims.ensures.value c.bytes.ensures.samples in
    ap (λ (v : Vec ℕ Global). v.items) c.into_bytes.ensures.value ∙ (c.in_ok-row_text.ensures ∙ ap row measured)
