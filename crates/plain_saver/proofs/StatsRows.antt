-- The rows of a statistics node.
use Rattle.std.proofs.Common.{◌≡◌, ℕ, ℤ, List, [], ◌∷◌, ◌++◌, Some, map, ap, ◌∙◌}
use Rattle.std.specs.List.{flat_map}
use Rattle.std.proofs.lemmas.List.{append-nil, map-append}
use Rattle.std.proofs.lemmas.List.Concat.{flat_map-append}
use Rattle.nd_base.specs.Array.{Array}
use Rattle.nd_base.specs.Samples.{samples_of}
use Rattle.nd_base.specs.declared.array.Dim.{Dim}
use Rattle.nd_base.specs.declared.array.SampleType.{SampleType}
use Rattle.nd_base.specs.declared.graph.NodeRule.{NodeRule}
use Rattle.nd_base.specs.declared.graph.StatsRule.{StatsRule}
use Rattle.nd_stats.specs.Samples.{placed}
use Rattle.nd_stats.specs.Measured.{measured, measure_of}
use Rattle.nd_stats.specs.Row.{row}
use Rattle.chain_plain.specs.Content.{content}
use Rattle.chain_plain.specs.ContentLaws.{frame}
use Rattle.chain_plain.specs.OneThread.{listed, arrays_out, measure_of_array}
use Rattle.plain_saver.specs.Saved.{rows_of}

-- the measure of the bytes of an array is that of the array
pub measure_of-array : (r : StatsRule) (a : Array) (id : ℤ) (kind : SampleType) (dims : List Dim) (bytes : List ℕ) → id ≡ a.id → kind ≡ a.kind → dims ≡ a.dims
    → samples_of a.kind bytes ≡ a.samples → measure_of r id kind dims 0 bytes ≡ measure_of_array r a
unfolding measure_of
measure_of-array r a id kind dims bytes same_id same_kind same_dims same =
    ap (λ i. measured r i dims (placed 0 (samples_of kind bytes))) same_id
    ∙ ap (λ k. measured r a.id dims (placed 0 (samples_of k bytes))) same_kind
    ∙ ap (λ d. measured r a.id d (placed 0 (samples_of a.kind bytes))) same_dims
    ∙ ap (λ xs. measured r a.id a.dims (placed 0 xs)) same

-- the array that goes out at one position
pub arrays_out-one : (nodes : List NodeRule) (arrays : List Array) (v k : ℕ) (a : Array) → content nodes arrays (frame v k) ≡ Some a
    → arrays_out nodes arrays v (k ∷ []) ≡ a ∷ []
arrays_out-one nodes arrays v k a made = ap (λ o. listed o ++ []) made

-- one array has one row
pub rows_of-one : (r : StatsRule) (a : Array) → rows_of r (a ∷ []) ≡ row (measure_of_array r a)
rows_of-one r a = append-nil (row (measure_of_array r a))

-- the rows of some, and then those of others
pub rows_of-append : (r : StatsRule) (xs ys : List Array) → rows_of r (xs ++ ys) ≡ rows_of r xs ++ rows_of r ys
rows_of-append r xs ys =
    ap (flat_map row) (map-append (measure_of_array r) xs ys) ∙ flat_map-append row (map (measure_of_array r) xs) (map (measure_of_array r) ys)
