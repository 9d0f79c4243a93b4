-- What the walk fills is the oriented array.
use Rattle.std.proofs.Common.{◌≡◌, ℕ, ◌+◌, ◌*◌, ◌<◌, ℤ, pos, Bool, true, false, List, [], ◌∷◌, length, map, drop, get_or, refl, ◌≤◌, ◌/◌, ap, sym, ◌∙◌, arith}
use Rattle.std.specs.Prelude.{nat_lt}
use Rattle.std.specs.List.{list_all}
use Rattle.std.proofs.Math.Nat.{one-le-mul, mul-le-mul_right, mul-div_cancel}
use Rattle.std.proofs.lemmas.Bool.{and_parts, ltb-true}
use Rattle.std.proofs.lemmas.List.{length-map, get_or-map, same_lists, drop-drop}
use Rattle.std.proofs.lemmas.List.FromFn.{get_or-range_with_len}
use Rattle.std.proofs.lemmas.Option.{get_or_from_slice_get}
use Rattle.nd_base.specs.declared.array.Dim.{Dim}
use Rattle.nd_base.specs.declared.array.SampleType.{SampleType}
use Rattle.nd_base.specs.Samples.{width, number, samples_of}
use Rattle.nd_base.specs.SampleLaws.{length-samples_of, slice_get-samples_of}
use Rattle.nd_base.specs.Shapes.{product, sample_count}
use Rattle.nd_base.specs.ShapeLaws.{sample_count-positive}
use Rattle.nd_base.specs.Places.{place, indices, sizes_of, IsIndex}
use Rattle.nd_base.specs.PlaceLaws.{length-indices, place-indices}
use Rattle.nd_orient.specs.declared.turn.Turn.{Turn}
use Rattle.nd_orient.specs.declared.samples.Plane.{Plane}
use Rattle.nd_orient.specs.Orientation.{along, read_index, turned_dims, turned_samples}
use Rattle.nd_orient.specs.Walk.{cell, line_size, line_count, source}
use Rattle.nd_orient.proofs.Composition.{turn, read_index-IsIndex}
use Rattle.nd_orient.proofs.Indices.{index_at-IsIndex, place-below}

-- the place of the index at a place
place-index_at : (dims : List Dim) (k : ℕ) → k < product (sizes_of dims) → place (sizes_of dims) (get_or (indices (sizes_of dims)) k []) ≡ k
place-index_at dims k h =
    let sizes = sizes_of dims in
    let count = length-indices sizes in
    sym (get_or-map (place sizes) (indices sizes) k [] 0 (omega (arith, count)))
    ∙ ap (λ ks. get_or ks k 0) (place-indices sizes) ∙ get_or-range_with_len 0 (product sizes) k 0 h ∙ omega arith

get_or-samples_of : (kind : SampleType) (n k : ℕ) (bytes : List ℕ) (d : ℤ) → length bytes ≡ n * width kind → k < n
    → get_or (samples_of kind bytes) k d ≡ number kind (cell (width kind) bytes k)
get_or-samples_of kind n k bytes d h within = get_or_from_slice_get (samples_of kind bytes) k _ d (slice_get-samples_of kind n k bytes h within)

abbrev pub plane_of : Turn → Dim → Dim → Plane
plane_of t d e = record { turn = t; columns = d.size; rows = e.size }

regroup : (c r d e z : ℕ) → z * (d * e) + (c + d * r) ≡ c + d * (r + e * z)
regroup c r d e z = omega arith

-- an oriented array has as many samples
pub turned_count : (t : Turn) (d e : Dim) (dims : List Dim) → product (sizes_of (turned_dims t (d ∷ e ∷ dims))) ≡ product (sizes_of (d ∷ e ∷ dims))
turned_count t d e dims = by_swaps t.swaps t.x_down t.y_down
  where
    by_swaps : (s a b : Bool) → product (sizes_of (turned_dims (turn s a b) (d ∷ e ∷ dims))) ≡ product (sizes_of (d ∷ e ∷ dims))
    by_swaps true a b = omega arith
    by_swaps false a b = refl

module _ (kind : SampleType) (n : ℕ) (bytes out : List ℕ) (input : length bytes ≡ n * width kind) (output : length out ≡ n * width kind) where
  -- where the bytes of each sample are those of the sample that its index reads
  samples_by_index : (t : Turn) (dims : List Dim) → n ≡ product (sizes_of dims) → n ≡ product (sizes_of (turned_dims t dims))
      → ((index : List ℕ) → IsIndex (turned_dims t dims) index
      → cell (width kind) out (place (sizes_of (turned_dims t dims)) index)
      ≡ cell (width kind) bytes (place (sizes_of dims) (read_index t (sizes_of dims) index)))
      → samples_of kind out ≡ turned_samples t dims (samples_of kind bytes)
  samples_by_index t dims count same each =
      let to = turned_dims t dims in
      let all = indices (sizes_of to) in
      let value : List ℕ → ℤ = λ index. get_or (samples_of kind bytes) (place (sizes_of dims) (read_index t (sizes_of dims) index)) (pos 0) in
      let many = length-indices (sizes_of to) in
      let long = length-samples_of kind n out output in
      same_lists (samples_of kind out) (map value all) (long ∙ same ∙ sym many ∙ sym (length-map all value)) (λ k d h.
      let within : k < n = omega (arith, long, h) in
      let few : k < product (sizes_of to) = omega (arith, same) in
      let index = get_or all k [] in
      let is = index_at-IsIndex to k few in
      let from = place-below dims (read_index t (sizes_of dims) index) (read_index-IsIndex t dims index is) in
      get_or-samples_of kind n k out d output within
      ∙ ap (λ p. number kind (cell (width kind) out p)) (sym (place-index_at to k few))
      ∙ ap (number kind) (each index is)
      ∙ sym (get_or-samples_of kind n (place (sizes_of dims) (read_index t (sizes_of dims) index)) bytes (pos 0) input (omega (arith, count)))
      ∙ sym (get_or-map value all k [] d (omega (arith, many))))

  abbrev pub Walks : Turn → Dim → Dim → List Dim → Type 0
  Walks t d e dims = (x y z : ℕ) → x < line_size (plane_of t d e) → y < line_count (plane_of t d e) → z < product (sizes_of dims)
      → cell (width kind) out (z * (d.size * e.size) + (y * line_size (plane_of t d e) + x))
      ≡ cell (width kind) bytes (z * (d.size * e.size) + source (plane_of t d e) x y)

  by_places : (t : Turn) (d e : Dim) (dims : List Dim) → Walks t d e dims → (index : List ℕ) → IsIndex (turned_dims t (d ∷ e ∷ dims)) index
      → cell (width kind) out (place (sizes_of (turned_dims t (d ∷ e ∷ dims))) index)
      ≡ cell (width kind) bytes (place (sizes_of (d ∷ e ∷ dims)) (read_index t (sizes_of (d ∷ e ∷ dims)) index))
  by_places t d e dims walks index h = by_swaps t.swaps t.x_down t.y_down walks index h
    where
      by_swaps : (s a b : Bool) → Walks (turn s a b) d e dims → (index : List ℕ) → IsIndex (turned_dims (turn s a b) (d ∷ e ∷ dims)) index
          → cell (width kind) out (place (sizes_of (turned_dims (turn s a b) (d ∷ e ∷ dims))) index)
          ≡ cell (width kind) bytes (place (sizes_of (d ∷ e ∷ dims)) (read_index (turn s a b) (sizes_of (d ∷ e ∷ dims)) index))
      by_swaps true a b walks [] h = absurd h
      by_swaps true a b walks (x ∷ []) h = absurd h.1
      by_swaps true a b walks (x ∷ y ∷ index) h =
          let z = place (sizes_of dims) index in
          ap (cell (width kind) out) (let f : x + e.size * (y + d.size * z) ≡ z * (d.size * e.size) + (y * e.size + x) = omega arith in f)
          ∙ walks x y z h.0 h.1.0 (place-below dims index h.1.1)
          ∙ ap (cell (width kind) bytes) (regroup (along b d.size y) (along a e.size x) d.size e.size z)
      by_swaps false a b walks [] h = absurd h
      by_swaps false a b walks (x ∷ []) h = absurd h.1
      by_swaps false a b walks (x ∷ y ∷ index) h =
          let z = place (sizes_of dims) index in
          ap (cell (width kind) out) (let f : x + d.size * (y + e.size * z) ≡ z * (d.size * e.size) + (y * d.size + x) = omega arith in f)
          ∙ walks x y z h.0 h.1.0 (place-below dims index h.1.1)
          ∙ ap (cell (width kind) bytes) (regroup (along a d.size x) (along b e.size y) d.size e.size z)

  -- where each line of each plane is filled, the whole is
  pub filled_is : (t : Turn) (d e : Dim) (dims : List Dim) → n ≡ product (sizes_of (d ∷ e ∷ dims)) → Walks t d e dims
      → samples_of kind out ≡ turned_samples t (d ∷ e ∷ dims) (samples_of kind bytes)
  filled_is t d e dims count walks =
      samples_by_index t (d ∷ e ∷ dims) count (count ∙ sym (turned_count t d e dims)) (by_places t d e dims walks)

abbrev pub nothing : Dim
nothing = record { size = 0; offset = pos 0; binning = pos 0; reverse = false }

-- the plane of the first two dimensions
abbrev pub front_plane : Turn → List Dim → Plane
front_plane t dims = record { turn = t; columns = (get_or dims 0 nothing).size; rows = (get_or dims 1 nothing).size }

abbrev pub front_area : List Dim → ℕ
front_area dims = (get_or dims 0 nothing).size * (get_or dims 1 nothing).size

-- the dimensions that aren't empty have that many planes
pub front_count : (dims : List Dim) → 2 ≤ length dims → sample_count dims ≡ sample_count (drop 2 dims) * front_area dims
front_count [] two = absurd (omega arith)
front_count (d ∷ []) two = absurd (omega arith)
front_count (d ∷ e ∷ dims) two = omega arith

pub front_positive : (dims : List Dim) → 2 ≤ length dims → list_all (λ d. nat_lt 0 d.size) dims ≡ true → 0 < front_area dims
front_positive [] two h = absurd (omega arith)
front_positive (d ∷ []) two h = absurd (omega arith)
front_positive (d ∷ e ∷ dims) two h =
    let first = and_parts (nat_lt 0 d.size) (list_all (λ d. nat_lt 0 d.size) (e ∷ dims)) h in
    let second = and_parts (nat_lt 0 e.size) (list_all (λ d. nat_lt 0 d.size) dims) first.1 in
    one-le-mul (ltb-true 0 d.size first.0) (ltb-true 0 e.size second.0)

rest_none_empty : (dims : List Dim) → list_all (λ d. nat_lt 0 d.size) dims ≡ true → list_all (λ d. nat_lt 0 d.size) (drop 1 dims) ≡ true
rest_none_empty [] h = refl
rest_none_empty (d ∷ dims) h = (and_parts (nat_lt 0 d.size) (list_all (λ d. nat_lt 0 d.size) dims) h).1

-- one plane has no more samples than all
pub front_few : (dims : List Dim) → 2 ≤ length dims → list_all (λ d. nat_lt 0 d.size) dims ≡ true → front_area dims ≤ sample_count dims
front_few dims two h =
    let rest = sample_count-positive (drop 2 dims) (rw (← drop-drop 1 1 dims) (rest_none_empty (drop 1 dims) (rest_none_empty dims h))) in
    let more = mul-le-mul_right (front_area dims) rest in
    let count = front_count dims two in
    omega (arith, more, count)

-- how many planes the bytes have
pub planes_are : (dims : List Dim) (w bytes : ℕ) → 2 ≤ length dims → list_all (λ d. nat_lt 0 d.size) dims ≡ true → 0 < w → bytes ≡ sample_count dims * w
    → bytes / (front_area dims * w) ≡ sample_count (drop 2 dims)
planes_are dims w bytes two h some count =
    let size : 0 < front_area dims * w = one-le-mul (front_positive dims two h) some in
    let whole : sample_count dims * w ≡ sample_count (drop 2 dims) * front_area dims * w = ap (λ n. n * w) (front_count dims two) in
    let all : bytes ≡ sample_count (drop 2 dims) * (front_area dims * w) = omega (arith, whole, count) in
    ap (λ n. n / (front_area dims * w)) all ∙ mul-div_cancel (sample_count (drop 2 dims)) size

pub planes_whole : (dims : List Dim) (w bytes : ℕ) → 2 ≤ length dims → list_all (λ d. nat_lt 0 d.size) dims ≡ true → 0 < w → bytes ≡ sample_count dims * w
    → bytes ≡ bytes / (front_area dims * w) * (front_area dims * w)
planes_whole dims w bytes two h some count =
    let whole : sample_count dims * w ≡ sample_count (drop 2 dims) * front_area dims * w = ap (λ n. n * w) (front_count dims two) in
    let all : bytes ≡ sample_count (drop 2 dims) * (front_area dims * w) = omega (arith, whole, count) in
    all ∙ ap (λ n. n * (front_area dims * w)) (sym (planes_are dims w bytes two h some count))

-- where each line of each plane is filled, the array is oriented
pub filled_all : (kind : SampleType) (t : Turn) (dims : List Dim) (bytes out : List ℕ) (planes : ℕ) → 2 ≤ length dims
    → length bytes ≡ sample_count dims * width kind → length out ≡ sample_count dims * width kind → planes ≡ sample_count (drop 2 dims)
    → ((x y z : ℕ) → x < line_size (front_plane t dims) → y < line_count (front_plane t dims) → z < planes
    → cell (width kind) out (z * front_area dims + (y * line_size (front_plane t dims) + x))
    ≡ cell (width kind) bytes (z * front_area dims + source (front_plane t dims) x y))
    → samples_of kind out ≡ turned_samples t dims (samples_of kind bytes)
filled_all kind t [] bytes out planes two input output count walks = absurd (omega arith)
filled_all kind t (d ∷ []) bytes out planes two input output count walks = absurd (omega arith)
filled_all kind t (d ∷ e ∷ dims) bytes out planes two input output count walks =
    filled_is kind (sample_count (d ∷ e ∷ dims)) bytes out input output t d e dims refl (λ x y z h g below. walks x y z h g (rw count below))
