-- What is measured.
use Rattle.std.proofs.Common.{◌≡◌, ℕ, ℤ, List, ap, ◌∙◌}
use Rattle.nd_base.specs.Array.{Array}
use Rattle.nd_base.specs.Samples.{samples_of}
use Rattle.nd_base.specs.declared.array.Dim.{Dim}
use Rattle.nd_base.specs.declared.array.SampleType.{SampleType}
use Rattle.nd_base.specs.declared.graph.StatsRule.{StatsRule}
use Rattle.nd_stats.specs.Measured.{measured, measure_of}
use Rattle.nd_stats.specs.Samples.{placed}
use Rattle.chain_plain.specs.OneThread.{measure_of_array}

-- the measure of the bytes of an array is that of the array
pub measure-is : (r : StatsRule) (a : Array) (id : ℤ) (kind : SampleType) (dims : List Dim) (bytes : List ℕ) → id ≡ a.id → kind ≡ a.kind → dims ≡ a.dims
    → samples_of a.kind bytes ≡ a.samples → measure_of r id kind dims 0 bytes ≡ measure_of_array r a
unfolding measure_of
measure-is r a id kind dims bytes same_id same_kind same_dims same =
    ap (λ (i : ℤ). measured r i dims (placed 0 (samples_of kind bytes))) same_id
    ∙ (ap (λ (k : SampleType). measured r a.id dims (placed 0 (samples_of k bytes))) same_kind
    ∙ (ap (λ (d : List Dim). measured r a.id d (placed 0 (samples_of a.kind bytes))) same_dims
    ∙ ap (λ (xs : List ℤ). measured r a.id a.dims (placed 0 xs)) same))
