-- Orienting twice.
use Rattle.std.proofs.Common.{◌≡◌, ℕ, ◌<◌, ℤ, pos, Bool, true, false, List, [], ◌∷◌, length, map, get_or, refl, ap, sym, ◌∙◌, arith}
use Rattle.std.specs.List.{range_with_len}
use Rattle.std.proofs.lemmas.Simd.{map-map}
use Rattle.std.proofs.lemmas.List.{length-map, same_lists, get_or_default}
use Rattle.std.proofs.lemmas.List.FromFn.{length-range_with_len, get_or-map-range_with_len}
use Rattle.nd_base.specs.declared.array.Dim.{Dim}
use Rattle.nd_base.specs.Array.{Array}
use Rattle.nd_base.specs.Shapes.{product, sample_count}
use Rattle.nd_base.specs.Places.{place, indices, sizes_of, IsIndex}
use Rattle.nd_base.specs.PlaceLaws.{place-indices}
use Rattle.nd_orient.specs.declared.turn.Turn.{Turn}
use Rattle.nd_orient.specs.Orientation.{turn_of, read_index, run_over, turned_dims, turned_samples, oriented}
use Rattle.nd_orient.specs.Modes.{composed, inverse_of}
use Rattle.nd_orient.proofs.Turns.{either, after, turn_of-composed, composed-inverse, inverse-below, along-along, along-below, run_over-run_over}
use Rattle.nd_orient.proofs.Indices.{indices-cong, get_or-map-place}

abbrev pub turn : Bool → Bool → Bool → Turn
turn s a b = record { swaps = s; x_down = a; y_down = b }

-- dimensions

dims_twice : (s a b s' a' b' : Bool) (d e : Dim) (dims : List Dim)
    → turned_dims (turn s' a' b') (turned_dims (turn s a b) (d ∷ e ∷ dims)) ≡ turned_dims (after (turn s a b) (turn s' a' b')) (d ∷ e ∷ dims)
dims_twice true a b true a' b' d e dims =
    ap (λ x. x ∷ run_over b' (run_over a e) ∷ dims) (run_over-run_over b a' d) ∙ ap (λ y. run_over (either b a') d ∷ y ∷ dims) (run_over-run_over a b' e)
dims_twice true a b false a' b' d e dims =
    ap (λ x. x ∷ run_over b' (run_over b d) ∷ dims) (run_over-run_over a a' e) ∙ ap (λ y. run_over (either a a') e ∷ y ∷ dims) (run_over-run_over b b' d)
dims_twice false a b true a' b' d e dims =
    ap (λ x. x ∷ run_over b' (run_over a d) ∷ dims) (run_over-run_over b a' e) ∙ ap (λ y. run_over (either b a') e ∷ y ∷ dims) (run_over-run_over a b' d)
dims_twice false a b false a' b' d e dims =
    ap (λ x. x ∷ run_over b' (run_over b e) ∷ dims) (run_over-run_over a a' d) ∙ ap (λ y. run_over (either a a') d ∷ y ∷ dims) (run_over-run_over b b' e)

pub turned_dims-twice : (t u : Turn) (dims : List Dim) → turned_dims u (turned_dims t dims) ≡ turned_dims (after t u) dims
turned_dims-twice t u [] = refl
turned_dims-twice t u (d ∷ []) = refl
turned_dims-twice t u (d ∷ e ∷ dims) = dims_twice t.swaps t.x_down t.y_down u.swaps u.x_down u.y_down d e dims

-- indices

within_two : (s a b : Bool) (d e : Dim) (dims : List Dim) (index : List ℕ) → IsIndex (turned_dims (turn s a b) (d ∷ e ∷ dims)) index
    → IsIndex (d ∷ e ∷ dims) (read_index (turn s a b) (sizes_of (d ∷ e ∷ dims)) index)
within_two true a b d e dims [] h = absurd h
within_two true a b d e dims (x ∷ []) h = absurd h.1
within_two true a b d e dims (x ∷ y ∷ index) h = (along-below b d.size y h.1.0, (along-below a e.size x h.0, h.1.1))
within_two false a b d e dims [] h = absurd h
within_two false a b d e dims (x ∷ []) h = absurd h.1
within_two false a b d e dims (x ∷ y ∷ index) h = (along-below a d.size x h.0, (along-below b e.size y h.1.0, h.1.1))

-- what is read is an index of the input
pub read_index-IsIndex : (t : Turn) (dims : List Dim) (index : List ℕ) → IsIndex (turned_dims t dims) index → IsIndex dims (read_index t (sizes_of dims) index)
read_index-IsIndex t [] index h = h
read_index-IsIndex t (d ∷ []) index h = h
read_index-IsIndex t (d ∷ e ∷ dims) index h = within_two t.swaps t.x_down t.y_down d e dims index h

abbrev ReadsOnce : Turn → Turn → List Dim → List ℕ → Type 0
ReadsOnce t u dims index =
    read_index t (sizes_of dims) (read_index u (sizes_of (turned_dims t dims)) index) ≡ read_index (after t u) (sizes_of dims) index

two_same : (x x' y y' : ℕ) (index : List ℕ) → x ≡ x' → y ≡ y' → (let a : List ℕ = x ∷ y ∷ index in a) ≡ x' ∷ y' ∷ index
two_same x x' y y' index e f = ap (λ z. z ∷ y ∷ index) e ∙ ap (λ z. x' ∷ z ∷ index) f

reads_two : (s a b s' a' b' : Bool) (d e : Dim) (dims : List Dim) (index : List ℕ)
    → IsIndex (turned_dims (turn s' a' b') (turned_dims (turn s a b) (d ∷ e ∷ dims))) index → ReadsOnce (turn s a b) (turn s' a' b') (d ∷ e ∷ dims) index
reads_two true a b true a' b' d e dims [] h = absurd h
reads_two true a b true a' b' d e dims (x ∷ []) h = absurd h.1
reads_two true a b true a' b' d e dims (x ∷ y ∷ index) h =
    two_same _ _ _ _ index (along-along b a' d.size x h.0) (along-along a b' e.size y h.1.0)
reads_two true a b false a' b' d e dims [] h = absurd h
reads_two true a b false a' b' d e dims (x ∷ []) h = absurd h.1
reads_two true a b false a' b' d e dims (x ∷ y ∷ index) h =
    two_same _ _ _ _ index (along-along b b' d.size y h.1.0) (along-along a a' e.size x h.0)
reads_two false a b true a' b' d e dims [] h = absurd h
reads_two false a b true a' b' d e dims (x ∷ []) h = absurd h.1
reads_two false a b true a' b' d e dims (x ∷ y ∷ index) h =
    two_same _ _ _ _ index (along-along a b' d.size y h.1.0) (along-along b a' e.size x h.0)
reads_two false a b false a' b' d e dims [] h = absurd h
reads_two false a b false a' b' d e dims (x ∷ []) h = absurd h.1
reads_two false a b false a' b' d e dims (x ∷ y ∷ index) h =
    two_same _ _ _ _ index (along-along a a' d.size x h.0) (along-along b b' e.size y h.1.0)

reads_once : (t u : Turn) (dims : List Dim) (index : List ℕ) → IsIndex (turned_dims u (turned_dims t dims)) index → ReadsOnce t u dims index
reads_once t u [] index h = refl
reads_once t u (d ∷ []) index h = refl
reads_once t u (d ∷ e ∷ dims) index h = reads_two t.swaps t.x_down t.y_down u.swaps u.x_down u.y_down d e dims index h

-- samples

pub turned_samples-twice : (t u : Turn) (dims : List Dim) (samples : List ℤ)
    → turned_samples u (turned_dims t dims) (turned_samples t dims samples) ≡ turned_samples (after t u) dims samples
turned_samples-twice t u dims samples =
    let middle = turned_dims t dims in
    let value : List ℕ → ℤ = λ index. get_or samples (place (sizes_of dims) (read_index t (sizes_of dims) index)) (pos 0) in
    indices-cong (turned_dims u middle)
    (λ index. get_or (turned_samples t dims samples) (place (sizes_of middle) (read_index u (sizes_of middle) index)) (pos 0))
    (λ index. get_or samples (place (sizes_of dims) (read_index (after t u) (sizes_of dims) index)) (pos 0))
    (λ index h.
    get_or-map-place middle value (read_index u (sizes_of middle) index) (pos 0) (read_index-IsIndex u middle index h)
    ∙ ap (λ i. get_or samples (place (sizes_of dims) i) (pos 0)) (reads_once t u dims index h))
    ∙ ap (λ out. map (λ index. get_or samples (place (sizes_of dims) (read_index (after t u) (sizes_of dims) index)) (pos 0)) (indices (sizes_of out)))
    (turned_dims-twice t u dims)

abbrev laid_out : Array → List Dim → List ℤ → Array
laid_out a dims samples = record {
  id = a.id;
  stamp = a.stamp;
  sec = a.sec;
  nsec = a.nsec;
  kind = a.kind;
  dims = dims;
  samples = samples;
  attrs = a.attrs;
}

-- to orient by one mode and then by another is to orient by their composition
pub oriented-oriented : (first second : ℕ) (a : Array) → first < 8 → second < 8 → oriented second (oriented first a) ≡ oriented (composed first second) a
oriented-oriented first second a h g =
    let t = turn_of first in
    let u = turn_of second in
    ap (λ dims. laid_out a dims (turned_samples u (turned_dims t a.dims) (turned_samples t a.dims a.samples))) (turned_dims-twice t u a.dims)
    ∙ ap (laid_out a (turned_dims (after t u) a.dims)) (turned_samples-twice t u a.dims a.samples)
    ∙ ap (λ v. laid_out a (turned_dims v a.dims) (turned_samples v a.dims a.samples)) (sym (turn_of-composed first second h g))

-- the first mode leaves the array as it is

reads_same : (sizes index : List ℕ) → read_index (turn false false false) sizes index ≡ index
reads_same [] index = refl
reads_same (w ∷ []) index = refl
reads_same (w ∷ h ∷ sizes) [] = refl
reads_same (w ∷ h ∷ sizes) (x ∷ []) = refl
reads_same (w ∷ h ∷ sizes) (x ∷ y ∷ index) = refl

same_dims : (dims : List Dim) → turned_dims (turn false false false) dims ≡ dims
same_dims [] = refl
same_dims (d ∷ []) = refl
same_dims (d ∷ e ∷ dims) = refl

-- each of the samples in turn
each_of : (samples : List ℤ) (n : ℕ) → length samples ≡ n → map (λ k. get_or samples k (pos 0)) (range_with_len 0 n) ≡ samples
each_of samples n h = same_lists _ samples
    (length-map (range_with_len 0 n) (λ k. get_or samples k (pos 0)) ∙ length-range_with_len 0 n ∙ sym h)
    (λ k d g.
    let many = length-map (range_with_len 0 n) (λ k. get_or samples k (pos 0)) in
    let long = length-range_with_len 0 n in
    let within : k < n = omega (arith, many, long, g) in
    get_or-map-range_with_len (λ k. get_or samples k (pos 0)) 0 n k k d within (omega arith) ∙ get_or_default samples k (pos 0) d (rw h within))

same_samples : (dims : List Dim) (samples : List ℤ) → length samples ≡ product (sizes_of dims) → turned_samples (turn false false false) dims samples ≡ samples
same_samples dims samples h =
    let sizes = sizes_of dims in
    indices-cong (turned_dims (turn false false false) dims)
    (λ index. get_or samples (place sizes (read_index (turn false false false) sizes index)) (pos 0))
    (λ index. get_or samples (place sizes index) (pos 0)) (λ index g. ap (λ i. get_or samples (place sizes i) (pos 0)) (reads_same sizes index))
    ∙ ap (λ out. map (λ index. get_or samples (place sizes index) (pos 0)) (indices (sizes_of out))) (same_dims dims)
    ∙ sym (map-map (λ k. get_or samples k (pos 0)) (place sizes) (indices sizes))
    ∙ ap (map (λ k. get_or samples k (pos 0))) (place-indices sizes)
    ∙ each_of samples (product sizes) h

oriented-same : (a : Array) → length a.samples ≡ sample_count a.dims → oriented 0 a ≡ a
oriented-same a h =
    ap (λ dims. laid_out a dims (turned_samples (turn false false false) a.dims a.samples)) (same_dims a.dims)
    ∙ ap (laid_out a a.dims) (same_samples a.dims a.samples h)

-- to orient by a mode and then by its inverse gives the array back
pub oriented-back : (mode : ℕ) (a : Array) → mode < 8 → length a.samples ≡ sample_count a.dims → oriented (inverse_of mode) (oriented mode a) ≡ a
oriented-back mode a h count =
    oriented-oriented mode (inverse_of mode) a h (inverse-below mode h) ∙ ap (λ m. oriented m a) (composed-inverse mode h) ∙ oriented-same a count
