use Rattle.std.proofs.Common.{◌<◌, ◌++◌, FitsSigned, w32, ap, sym, ◌∙◌, rules}
use Rattle.std.specs.Int.{cast_unsigned}
use Rattle.std.proofs.lemmas.Int.{to_z-of_z}
use Rattle.std.proofs.lemmas.List.Elements.{All-from_get_or}
use Rattle.nd_base.specs.Shapes.{sample_count}
use Rattle.nd_base.specs.SampleLaws.{bytes_of-samples_of}
use Rattle.cdf_write.specs.Spelling.{padded_values}
use Rattle.cdf_write.specs.Columns.{sample_kind}
use Rattle.cdf_write.specs.Layout.{row}
use Rattle.std.proofs.lemmas.Result.{on_err_weaker}
use Rattle.cdf_write.proofs.Pieces.{Begins, gains, then, on_ok, starts, begins, begins_before, on_err}
use Rattle.cdf_write.proofs.row.push_frame.Goals as goal
use Rattle.cdf_write.proofs.row.push_frame.Goals.{After-push_samples}

-- what stands after the times begins as before
times : (c : After-push_samples) → Begins c.args.out.now.items c.push_word-3.new.out.items
times c =
    let id = begins (gains _ _ _ c.in_ok-push_word.ensures.bytes) in
    let stamp = begins_before id (begins (gains _ _ _ c.in_ok-push_double_word.ensures.bytes)) in
    let sec = begins_before stamp (begins (gains _ _ _ c.in_ok-push_word-2.ensures.bytes)) in
    begins_before sec (begins (gains _ _ _ c.in_ok-push_word-3.ensures.bytes))

pub returns-in_err-push_samples-clause-front : goal.returns-in_err-push_samples-clause-front
returns-in_err-push_samples-clause-front c =
    let before = times ((goal.at.returns-in_err-push_samples-clause-front c).After-push_samples) in
    let more = starts c.push_word-3.new.out.items c.push_samples.new.out.items c.in_err-push_samples.ensures.front in
    on_err c.from_residual-in_err-push_samples.result (begins_before before more).is

pub returns-clause-front : goal.returns-clause-front
returns-clause-front c =
    let before = times ((goal.at.returns-clause-front c).After-push_samples) in
    let samples = begins_before before (begins (gains _ _ _ c.in_ok-push_samples.ensures.bytes)) in
    on_err_weaker c.push_attrs.result
    (λ late. (begins_before samples (starts c.push_samples.new.out.items c.push_attrs.new.out.items late)).is) c.push_attrs.ensures.front

pub returns-clause-bytes : goal.returns-clause-bytes
unfolding row
returns-clause-bytes c =
    let shape = c.args.shape.now in
    let same =
    bytes_of-samples_of shape.kind (sample_count shape.dims) c.args.samples.now c.requires.samples
    (All-from_get_or (λ b. b < 256) c.args.samples.now 0 (λ i _. (c.type_inv.samples i).fits)) in
    let id_fits : FitsSigned w32 c.args.head.now.id = search rules in
    let sec_fits : FitsSigned w32 c.args.head.now.sec = search rules in
    let nsec_fits : FitsSigned w32 c.args.head.now.nsec = search rules in
    let id_is = c.cast_unsigned.ensures ∙ ap (cast_unsigned w32) (to_z-of_z w32 c.args.head.now.id id_fits) in
    let sec_is = c.cast_unsigned-2.ensures ∙ ap (cast_unsigned w32) (to_z-of_z w32 c.args.head.now.sec sec_fits) in
    let nsec_is = c.cast_unsigned-3.ensures ∙ ap (cast_unsigned w32) (to_z-of_z w32 c.args.head.now.nsec nsec_fits) in
    let id = gains _ _ _ (rw id_is at c.in_ok-push_word.ensures.bytes) in
    let stamp = then id (gains _ _ _ c.in_ok-push_double_word.ensures.bytes) in
    let sec = then stamp (gains _ _ _ (rw sec_is at c.in_ok-push_word-2.ensures.bytes)) in
    let nsec = then sec (gains _ _ _ (rw nsec_is at c.in_ok-push_word-3.ensures.bytes)) in
    let samples =
    then nsec
    (gains _ _ _ (c.in_ok-push_samples.ensures.bytes ∙ ap (λ bytes. c.push_word-3.new.out.items ++ padded_values (sample_kind shape.kind) bytes) (sym same))) in
    on_ok c.push_attrs.result (λ attrs. (then samples (gains _ _ _ attrs)).is) c.push_attrs.ensures.bytes
