use Rattle.std.proofs.Common.{rules, ◌≡◌, ◌∷◌, [], string_bytes, ap, sym, ◌∙◌, w32, FitsSigned}
use Rattle.std.proofs.lemmas.Int.{to_z-of_z}
use Rattle.std.proofs.lemmas.Result.{IfOk-weaker}
use Rattle.nd_base.specs.declared.array.Head.{Head}
use Rattle.nd_stats.specs.Row.{row}
use Rattle.chain_plain.specs.OneThread.{arrays_out, measure_of_array}
use Rattle.plain_saver.specs.Saved.{rows_of}
use Rattle.plain_saver.proofs.Contents.{array-out, out-kind, out-dims, out-size}
use Rattle.plain_saver.proofs.StatsRows.{measure_of-array, rows_of-one, arrays_out-one}
use Rattle.plain_saver.proofs.rows.row_of.Goals as goal

pub measure-requires-clause-dimensions : goal.measure-requires-clause-dimensions
measure-requires-clause-dimensions c = rw c.as_slice.ensures c.maker-maker.ensures.dims.dimensions

pub measure-requires-clause-few : goal.measure-requires-clause-few
measure-requires-clause-few c = rw c.as_slice.ensures c.maker-maker.ensures.dims.few

pub measure-requires-clause-samples : goal.measure-requires-clause-samples
measure-requires-clause-samples c =
    let g = c.args.source.now.graph in
    let s = c.args.source.now.stack in
    let out = array-out g s c.maker-maker.ensures.stack c.args.node c.args.index c.head.result.now c.args.samples.now c.requires.content c.head.ensures in
    rw c.as_slice.ensures
    (out-size g s c.args.node c.args.index c.head.result.now c.args.samples.now out c.maker-maker.result.now c.maker-maker.ensures.shape)

pub returns : goal.returns
returns c =
    let g = c.args.source.now.graph in
    let s = c.args.source.now.stack in
    let rule = c.args.rule.now in
    let m = c.maker-maker.result.now in
    let id = c.head.result.now.id in
    let fits : FitsSigned w32 id = search rules in
    let out = array-out g s c.maker-maker.ensures.stack c.args.node c.args.index c.head.result.now c.args.samples.now c.requires.content c.head.ensures in
    let measured : c.in_ok-measured.measured ≡ measure_of_array rule out.array =
    c.in_ok-measured.ensures
    ∙ measure_of-array rule out.array _ m.kind c.as_slice.result.now c.args.samples.now
    (to_z-of_z w32 id fits ∙ ap (λ (h : Head). h.id) (sym out.own))
    (out-kind g s c.args.node c.args.index c.head.result.now c.args.samples.now out m c.maker-maker.ensures.shape)
    (c.as_slice.ensures ∙ out-dims g s c.args.node c.args.index c.head.result.now c.args.samples.now out m c.maker-maker.ensures.shape)
    out.samples.samples in
    let rows = ap (rows_of rule) (arrays_out-one g.nodes s.arrays c.args.node c.args.index out.array out.made) ∙ rows_of-one rule out.array in
    IfOk-weaker c.row_text.result (λ text. string_bytes text ≡ row c.in_ok-measured.measured)
    (λ text. string_bytes text ≡ rows_of rule (arrays_out g.nodes s.arrays c.args.node (c.args.index ∷ [])))
    (λ text is. is ∙ ap row measured ∙ sym rows) c.row_text.ensures
