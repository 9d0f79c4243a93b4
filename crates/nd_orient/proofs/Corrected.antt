-- What the loop writes are the corrected samples.
use Rattle.std.proofs.Common.{◌≡◌, ℕ, zero, suc, ◌/◌, ◌<◌, ℤ, pos, List, [], ◌∷◌, length, get_or, refl, ap, sym, ◌∙◌, arith}
use Rattle.std.proofs.lemmas.List.{same_lists}
use Rattle.std.proofs.lemmas.Option.{get_or_from_slice_get}
use Rattle.nd_base.specs.declared.array.SampleType.{SampleType}
use Rattle.nd_base.specs.Samples.{width, number, samples_of, sample_bytes}
use Rattle.nd_base.specs.SampleLaws.{length-numbers, slice_get-numbers, number-sample_bytes}
use Rattle.nd_orient.specs.declared.rule.CorrectRule.{CorrectRule}
use Rattle.nd_orient.specs.Correction.{IsCorrectRule, corrected_sample, corrected_samples}
use Rattle.nd_orient.specs.CorrectionLaws.{corrected_sample-IsSample}
use Rattle.nd_orient.specs.Walk.{cell, stored}

length-corrected_samples : (rule : CorrectRule) (kind : SampleType) (dark samples : List ℤ) → length dark ≡ length samples
    → length (corrected_samples rule kind dark samples) ≡ length samples
length-corrected_samples rule kind [] [] h = refl
length-corrected_samples rule kind [] (v ∷ samples) h = absurd (omega arith)
length-corrected_samples rule kind (d ∷ dark) [] h = refl
length-corrected_samples rule kind (d ∷ dark) (v ∷ samples) h = ap suc (length-corrected_samples rule kind dark samples (omega arith))

get_or-corrected_samples : (rule : CorrectRule) (kind : SampleType) (dark samples : List ℤ) (k : ℕ) (e : ℤ) → k < length dark → k < length samples
    → get_or (corrected_samples rule kind dark samples) k e ≡ corrected_sample rule kind (get_or samples k (pos 0)) (get_or dark k (pos 0))
get_or-corrected_samples rule kind [] samples k e h g = absurd (omega arith)
get_or-corrected_samples rule kind (d ∷ dark) [] k e h g = absurd (omega arith)
get_or-corrected_samples rule kind (d ∷ dark) (v ∷ samples) zero e h g = refl
get_or-corrected_samples rule kind (d ∷ dark) (v ∷ samples) (suc k) e h g = get_or-corrected_samples rule kind dark samples k e (omega arith) (omega arith)

-- a sample by its place
get_or-stored : (kind : SampleType) (bytes : List ℕ) (k : ℕ) (e : ℤ) → k < length bytes / width kind → get_or (samples_of kind bytes) k e ≡ stored kind bytes k
get_or-stored kind bytes k e h =
    get_or_from_slice_get (samples_of kind bytes) k _ e (slice_get-numbers kind (length bytes / width kind) k bytes h)

-- where the bytes of each sample are those of the corrected one
pub corrected_all : (rule : CorrectRule) (kind dark_kind : SampleType) (bytes dark out : List ℕ) → IsCorrectRule rule → length out ≡ length bytes
    → length dark / width dark_kind ≡ length bytes / width kind
    → ((k : ℕ) → k < length bytes / width kind
    → cell (width kind) out k ≡ sample_bytes kind (corrected_sample rule kind (stored kind bytes k) (stored dark_kind dark k)))
    → samples_of kind out ≡ corrected_samples rule kind (samples_of dark_kind dark) (samples_of kind bytes)
corrected_all rule kind dark_kind bytes dark out sound same count each =
    let n = length bytes / width kind in
    let dark_samples = samples_of dark_kind dark in
    let samples = samples_of kind bytes in
    let outs : length out / width kind ≡ n = ap (λ m. m / width kind) same in
    let long : length (samples_of kind out) ≡ n = length-numbers kind (length out / width kind) out ∙ outs in
    let ins : length samples ≡ n = length-numbers kind n bytes in
    let darks : length dark_samples ≡ n = length-numbers dark_kind (length dark / width dark_kind) dark ∙ count in
    same_lists (samples_of kind out) (corrected_samples rule kind dark_samples samples)
    (long ∙ sym ins ∙ sym (length-corrected_samples rule kind dark_samples samples (darks ∙ sym ins)))
    (λ k e h.
    let within : k < n = rw (← long) h in
    let z = corrected_sample rule kind (stored kind bytes k) (stored dark_kind dark k) in
    get_or-stored kind out k e (rw outs within)
    ∙ ap (number kind) (each k within)
    ∙ number-sample_bytes kind z (corrected_sample-IsSample rule kind (stored kind bytes k) (stored dark_kind dark k) sound)
    ∙ ap (λ v. corrected_sample rule kind v (stored dark_kind dark k)) (sym (get_or-stored kind bytes k (pos 0) within))
    ∙ ap (corrected_sample rule kind (get_or samples k (pos 0))) (sym (get_or-stored dark_kind dark k (pos 0) (rw count within)))
    ∙ sym (get_or-corrected_samples rule kind dark_samples samples k e (rw darks within) (rw ins within)))
