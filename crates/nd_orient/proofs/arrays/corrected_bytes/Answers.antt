use Rattle.std.proofs.Common.{◌≡◌, ℕ, ◌*◌, ◌/◌, List, length, ap, sym, ◌∙◌}
use Rattle.std.proofs.Math.Nat.{mul-div_cancel}
use Rattle.nd_base.specs.declared.array.SampleType.{SampleType}
use Rattle.nd_base.specs.Samples.{width}
use Rattle.nd_base.specs.SampleLaws.{width-positive}
use Rattle.nd_base.specs.Shapes.{product, sample_count}
use Rattle.nd_orient.proofs.arrays.corrected_bytes.Goals as goal

-- the bytes of n samples
count : (kind of_array : SampleType) (n : ℕ) (bytes : List ℕ) → kind ≡ of_array → length bytes ≡ n * width of_array → length bytes / width kind ≡ n
count kind of_array n bytes same size =
    ap (λ k. length bytes / width k) same ∙ ap (λ m. m / width of_array) size ∙ mul-div_cancel n (width-positive of_array)

pub correct_samples-requires-clause-dark : goal.correct_samples-requires-clause-dark
correct_samples-requires-clause-dark c =
    let dark = c.samples_in-dark in
    let input = c.samples_in-input in
    count dark.result.kind c.args.dark.now.kind (sample_count c.args.dark.now.dims) dark.result.bytes.now dark.ensures.kind dark.ensures.size
    ∙ ap product c.requires.sizes
    ∙ sym (count input.result.kind c.args.array.now.kind (sample_count c.args.array.now.dims) input.result.bytes.now input.ensures.kind input.ensures.size)
