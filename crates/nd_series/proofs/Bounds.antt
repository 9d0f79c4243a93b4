-- Sums of samples have room.
use Rattle.std.proofs.Common.{◌≡◌, ℕ, ◌+◌, ◌<◌, ◌≤◌, List, [], ◌∷◌, length, map, get_or, refl, subst, sym, arith, ℤ, pos, Bool, true, false, nat_lt, Fits, w8}
use Rattle.std.specs.Prelude.{All}
use Rattle.std.specs.List.{range_with_len}
use Rattle.std.proofs.lemmas.Bool.{ltb-true, ltb-false}
use Rattle.std.proofs.lemmas.List.{get_or_past}
use Rattle.std.proofs.lemmas.List.Elements.{All-from_get_or}
use Rattle.nd_base.specs.declared.array.SampleType.{SampleType}
use Rattle.nd_base.specs.Samples.{samples_of, IsSmall}
use Rattle.nd_base.specs.SampleLaws.{IsSample, AreBytes, samples_of-IsSample, sample-IsSmall}
use Rattle.nd_stats.specs.Samples.{Sample, placed, AreSmall}
use Rattle.nd_stats.proofs.Bounds.{value_room, where_room}
use Rattle.nd_stats.proofs.Sums.{count-le}
use Rattle.nd_series.specs.declared.span.Span.{Span}
use Rattle.nd_series.specs.Spans.{is_at_edge, value_at, frame_place}
use Rattle.nd_series.specs.InPlace.{numbers_of, placed_at}
use Rattle.nd_series.specs.Joined.{HasRooms}
use Rattle.nd_series.proofs.Joins.{length-placed_at}

pub are_bytes : (bytes : List ℕ) → ((i : ℕ) → Fits w8 (get_or bytes i 0)) → AreBytes bytes
are_bytes bytes fit = All-from_get_or (λ b. b < 256) bytes 0 (λ i _. (fit i).fits)

small_sample : (kind : SampleType) (samples : List ℤ) (i : ℕ) → All (IsSample kind) samples → IsSmall (get_or samples i (pos 0))
small_sample kind samples i are = here (nat_lt i (length samples)) refl
  where
    here : (b : Bool) → nat_lt i (length samples) ≡ b → IsSmall (get_or samples i (pos 0))
    here true e = sample-IsSmall kind (get_or samples i (pos 0)) (are i (pos 0) (ltb-true i (length samples) e))
    here false e = subst IsSmall (sym (get_or_past samples i (pos 0) (ltb-false i (length samples) e))) (omega arith)

small_map : (from : ℕ) (f : ℕ → ℤ) (places : List ℕ) → ((p : ℕ) → IsSmall (f p)) → AreSmall (placed from (map f places))
small_map from f [] small = tt
small_map from f (p ∷ places) small = (small p, small_map (from + 1) f places small)

-- the numbers of at most 67,108,864 samples
pub numbers_rooms : (spans : List Span) (kind : SampleType) (bytes : List ℕ) (from count : ℕ) → ((i : ℕ) → Fits w8 (get_or bytes i 0)) → count ≤ 67108864
    → HasRooms (numbers_of spans (placed_at spans (samples_of kind bytes) from count))
unfolding numbers_of
numbers_rooms spans kind bytes from count fit few =
    let samples = samples_of kind bytes in
    let xs = placed_at spans samples from count in
    let q : Sample → Bool = λ s. is_at_edge spans s.place in
    let small : AreSmall xs = small_map from (value_at spans samples) (range_with_len from count)
    (λ p. small_sample kind samples (frame_place spans p) (samples_of-IsSample kind bytes (are_bytes bytes fit))) in
    let long = length-placed_at spans samples from count in
    let some = count-le q xs in
    record { total = value_room xs small (omega (arith, long)); border = where_room q xs small (omega (arith, long)); border_n = omega (arith, some, long) }
