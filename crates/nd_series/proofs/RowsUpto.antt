-- The rows up to one more.
use Rattle.std.proofs.Common.{◌≡◌, ℕ, ◌+◌, List, [], ◌∷◌, ◌++◌, take, map, refl, ap, sym, ◌∙◌, Some, None, zero, suc, ◌<◌, length, arith}
use Rattle.std.specs.Prelude.{slice_get, Option, IfSome}
use Rattle.std.specs.List.{flat_map}
use Rattle.std.proofs.lemmas.List.{take_more, map_more, flat_map_more}
use Rattle.std.proofs.lemmas.Option.{slice_get_within, get_or_from_slice_get}
use Rattle.circular_buffer.specs.Buffer.{keep_last}
use Rattle.nd_base.specs.Array.{Array}
use Rattle.nd_series.specs.declared.region.Box4.{Box4}
use Rattle.nd_series.specs.declared.row.SeriesRow.{SeriesRow}
use Rattle.nd_series.specs.Kept.{Kept, with_row}
use Rattle.nd_series.specs.Regions.{row_of}
use Rattle.nd_series.specs.Stacks.{series_of}
use Rattle.nd_series.proofs.Pushes.{keep_last-append}

pub row_more : {X A : Type 0} (f : X → List A) (xs : List X) (i : ℕ) (x : X) → slice_get xs i ≡ Some x
    → flat_map f (take i xs) ++ f x ≡ flat_map f (take (i + 1) xs)
row_more f xs i x e =
    flat_map_more f [] (take i xs) x
    ∙ ap (λ y. flat_map f (take i xs ++ y ∷ [])) (sym (get_or_from_slice_get xs i x x e))
    ∙ ap (flat_map f) (sym (take_more xs i x (slice_get_within xs i x e)))

pub none_past : {X : Type 0} (xs : List X) (i : ℕ) → None ≡ slice_get xs i → i < length xs → ⊥
none_past [] i e h = absurd (omega arith)
none_past (x ∷ xs) zero e h = absurd (cc)
none_past (x ∷ xs) (suc i) e h = none_past xs i e (omega arith)

-- one frame more
pub frame_more : (most : ℕ) (regions : List Box4) (arrays : List Array) (k : ℕ) (row : SeriesRow) → k < length arrays
    → IfSome (slice_get arrays k) (λ a. row ≡ row_of regions a)
    → with_row (series_of most regions (take k arrays)) row ≡ series_of most regions (take (k + 1) arrays)
frame_more most regions arrays k row within is = here (slice_get arrays k) refl is
  where
    here : (x : Option Array) → slice_get arrays k ≡ x → IfSome x (λ a. row ≡ row_of regions a)
        → with_row (series_of most regions (take k arrays)) row ≡ series_of most regions (take (k + 1) arrays)
    here None e is = absurd (none_past arrays k (sym e) within)
    here (Some a) e is =
        let rows = map (row_of regions) (take k arrays) in
        let next : rows ++ row ∷ [] ≡ map (row_of regions) (take (k + 1) arrays) =
        ap (λ r. rows ++ r ∷ []) (is ∙ ap (row_of regions) (sym (get_or_from_slice_get arrays k a a e)))
        ∙ sym (map_more (row_of regions) arrays k a within) in
        ap (λ kept. let s : Kept = record { regions = length regions; most = most; rows = kept } in s)
        (keep_last-append most rows (row ∷ []) ∙ ap (keep_last most) next)
