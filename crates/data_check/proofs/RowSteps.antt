-- The row of an array.
use Rattle.std.proofs.Common.{◌≡◌, ℕ, ◌+◌, ◌<◌, ℤ, List, [], ◌∷◌, ◌++◌, Some, length, take, drop, get_or, ap, sym, ◌∙◌}
use Rattle.std.specs.List.{flat_map}
use Rattle.std.proofs.lemmas.List.{append-nil, take_more, take-append-drop}
use Rattle.std.proofs.lemmas.List.Concat.{flat_map-append}
use Rattle.nd_base.specs.Array.{Array}
use Rattle.nd_base.specs.Samples.{samples_of}
use Rattle.nd_base.specs.declared.array.Dim.{Dim}
use Rattle.nd_base.specs.declared.array.SampleType.{SampleType}
use Rattle.nd_base.specs.declared.graph.NodeRule.{NodeRule}
use Rattle.nd_base.specs.declared.graph.StatsRule.{StatsRule}
use Rattle.nd_stats.specs.Measured.{measured, measure_of}
use Rattle.nd_stats.specs.Samples.{placed}
use Rattle.chain_plain.specs.Content.{content}
use Rattle.chain_plain.specs.ContentLaws.{frame}
use Rattle.chain_plain.specs.OneThread.{listed, arrays_out, measure_of_array}
use Rattle.graph_files.specs.OutgoingLaws.{arrays_out-append}

-- the measure of the bytes of an array is that of the array
pub measure-is : (r : StatsRule) (a : Array) (id : ℤ) (kind : SampleType) (dims : List Dim) (bytes : List ℕ) → id ≡ a.id → kind ≡ a.kind → dims ≡ a.dims
    → samples_of a.kind bytes ≡ a.samples → measure_of r id kind dims 0 bytes ≡ measure_of_array r a
unfolding measure_of
measure-is r a id kind dims bytes same_id same_kind same_dims same =
    ap (λ (i : ℤ). measured r i dims (placed 0 (samples_of kind bytes))) same_id
    ∙ (ap (λ (k : SampleType). measured r a.id dims (placed 0 (samples_of k bytes))) same_kind
    ∙ (ap (λ (d : List Dim). measured r a.id d (placed 0 (samples_of a.kind bytes))) same_dims
    ∙ ap (λ (xs : List ℤ). measured r a.id a.dims (placed 0 xs)) same))

module _ (nodes : List NodeRule) (arrays : List Array) (v : ℕ) (row : Array → List ℕ) where
  -- the row of the one array at a position
  pub row-one : (k : ℕ) (a : Array) → content nodes arrays (frame v k) ≡ Some a → flat_map row (arrays_out nodes arrays v (k ∷ [])) ≡ row a
  row-one k a made = ap (λ o. flat_map row (listed o ++ [])) made ∙ append-nil (row a)

  -- rows, and then those at other positions
  pub rows-append : (ks ls : List ℕ)
      → flat_map row (arrays_out nodes arrays v (ks ++ ls)) ≡ flat_map row (arrays_out nodes arrays v ks) ++ flat_map row (arrays_out nodes arrays v ls)
  rows-append ks ls =
      ap (flat_map row) (arrays_out-append nodes arrays v ks ls) ∙ flat_map-append row (arrays_out nodes arrays v ks) (arrays_out nodes arrays v ls)

  -- one more position
  pub rows-more : (ks : List ℕ) (i d : ℕ) → i < length ks
      → flat_map row (arrays_out nodes arrays v (take (i + 1) ks))
      ≡ flat_map row (arrays_out nodes arrays v (take i ks)) ++ flat_map row (arrays_out nodes arrays v (get_or ks i d ∷ []))
  rows-more ks i d within =
      ap (λ ls. flat_map row (arrays_out nodes arrays v ls)) (take_more ks i d within) ∙ rows-append (take i ks) (get_or ks i d ∷ [])

  -- those at the first positions, and then the others
  pub rows-parts : (ks : List ℕ) (i : ℕ)
      → flat_map row (arrays_out nodes arrays v ks)
      ≡ flat_map row (arrays_out nodes arrays v (take i ks)) ++ flat_map row (arrays_out nodes arrays v (drop i ks))
  rows-parts ks i = ap (λ ls. flat_map row (arrays_out nodes arrays v ls)) (sym (take-append-drop i ks)) ∙ rows-append (take i ks) (drop i ks)
