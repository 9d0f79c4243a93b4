-- The samples of a piece, one by one.
use Rattle.std.proofs.Common.{◌≡◌, ℕ, zero, suc, ◌+◌, ◌*◌, ◌/◌, ◌%◌, ◌<◌, ◌≤◌, List, [], ◌∷◌, ◌++◌, length, take, drop, refl, ap, sym, subst, ◌∙◌, arith, ℤ}
use Rattle.std.proofs.Common.{pos, true, false, Bool, add_comm, add-one, replicate, not, ◌&&◌, ◌==◌, nat_le, nat_lt, IsTrue}
use Rattle.std.specs.Prelude.{int_lt, if◌then◌else◌}
use Rattle.std.specs.List.{list_all}
use Rattle.std.proofs.Math.Nat.{suc-mul, zero-mul}
use Rattle.std.proofs.lemmas.List.{drop-drop}
use Rattle.std.proofs.lemmas.Nat.{div-add-mod'}
use Rattle.nd_stats.specs.declared.tally.Tally.{Tally}
use Rattle.nd_stats.specs.Measured.{measured}
use Rattle.std.proofs.lemmas.Bool.{and_parts}
use Rattle.nd_base.specs.declared.array.Dim.{Dim}
use Rattle.nd_base.specs.declared.array.SampleType.{SampleType}
use Rattle.nd_base.specs.declared.graph.StatsRule.{StatsRule}
use Rattle.nd_base.specs.declared.measure.Measure.{Measure}
use Rattle.nd_base.specs.GraphRules.{IsStats}
use Rattle.nd_base.specs.Samples.{width, number, numbers, IsSmall}
use Rattle.nd_base.specs.SampleLaws.{length-numbers}
use Rattle.nd_base.specs.Shapes.{has_dimensions, sample_count, most_samples}
use Rattle.nd_stats.specs.Samples.{Sample, placed, least_from, greatest_from, least, greatest, table}
use Rattle.nd_stats.specs.MergingLaws.{length-placed}
use Rattle.nd_stats.specs.Running.{IsFrame, IsTally}
use Rattle.nd_stats.specs.Tallies.{AreSmall}
use Rattle.nd_stats.proofs.Bounds.{AreSmall-more}

-- one number more
pub numbers-more : (kind : SampleType) (k : ℕ) (bytes : List ℕ)
    → numbers kind (suc k) bytes ≡ numbers kind k bytes ++ number kind (take (width kind) (drop (k * width kind) bytes)) ∷ []
numbers-more kind zero bytes = ap (λ m. number kind (take (width kind) (drop m bytes)) ∷ []) (sym (zero-mul (width kind)))
numbers-more kind (suc k) bytes =
    let w = width kind in
    ap (λ rest. number kind (take w bytes) ∷ rest)
    (numbers-more kind k (drop w bytes)
    ∙ ap (λ rest. numbers kind k (drop w bytes) ++ number kind (take w rest) ∷ []) (drop-drop (k * w) w bytes
    ∙ ap (λ m. drop m bytes) (sym (suc-mul k w ∙ add_comm (k * w) w))))

pub placed-more : (from : ℕ) (vs : List ℤ) (v : ℤ) → placed from (vs ++ v ∷ []) ≡ placed from vs ++ record { place = from + length vs; value = v } ∷ []
placed-more from [] v = ap (λ p. let s : Sample = record { place = p; value = v } in s ∷ []) (omega arith)
placed-more from (u ∷ vs) v =
    ap (λ rest. let s : Sample = record { place = from; value = u } in s ∷ rest)
    (placed-more (from + 1) vs v ∙ ap (λ p. placed (from + 1) vs ++ (let s : Sample = record { place = p; value = v } in s ∷ [])) (omega arith))

-- one sample more of a piece
pub piece-more : (kind : SampleType) (from k : ℕ) (bytes : List ℕ)
    → placed from (numbers kind (k + 1) bytes) ≡ placed from (numbers kind k bytes) ++ record {
      place = from + k;
      value = number kind (take (width kind) (drop (k * width kind) bytes));
    } ∷ []
piece-more kind from k bytes =
    let v = number kind (take (width kind) (drop (k * width kind) bytes)) in
    ap (λ n. placed from (numbers kind n bytes)) (add-one k)
    ∙ ap (placed from) (numbers-more kind k bytes)
    ∙ placed-more from (numbers kind k bytes) v
    ∙ ap (λ n. placed from (numbers kind k bytes) ++ (let s : Sample = record { place = from + n; value = v } in s ∷ [])) (length-numbers kind k bytes)

-- the sample at a place of a piece
abbrev pub sample_at : SampleType → ℕ → ℕ → List ℕ → Sample
sample_at kind from k bytes = record { place = from + k; value = number kind (take (width kind) (drop (k * width kind) bytes)) }

pub same_sample : (kind : SampleType) (from k w place : ℕ) (value : ℤ) (bytes : List ℕ) → place ≡ from + k → w ≡ width kind
    → value ≡ number kind (take (width kind) (drop (k * w) bytes))
    → (let s : Sample = record { place = place; value = value } in s) ≡ sample_at kind from k bytes
same_sample kind from k w place value bytes e f g =
    ap (λ p. let s : Sample = record { place = p; value = value } in s) e
    ∙ ap (λ v. let s : Sample = record { place = from + k; value = v } in s) (g ∙ ap (λ n. number kind (take (width kind) (drop (k * n) bytes))) f)

-- the numbers of one sample more of a piece
pub tally-next : (rule : StatsRule) (dims : List Dim) (first : Sample) (kind : SampleType) (from k : ℕ) (bytes : List ℕ) (s : Sample) (t : Tally)
    → s ≡ sample_at kind from k bytes → IsTally rule dims first (placed from (numbers kind k bytes) ++ s ∷ []) t
    → IsTally rule dims first (placed from (numbers kind (k + 1) bytes)) t
tally-next rule dims first kind from k bytes s t e is =
    subst (λ xs. IsTally rule dims first xs t) (ap (λ u. placed from (numbers kind k bytes) ++ u ∷ []) e ∙ sym (piece-more kind from k bytes)) is

pub small-next : (kind : SampleType) (from k : ℕ) (bytes : List ℕ) (s : Sample) → s ≡ sample_at kind from k bytes
    → AreSmall (placed from (numbers kind k bytes)) → IsSmall s.value → AreSmall (placed from (numbers kind (k + 1) bytes))
small-next kind from k bytes s e small h =
    subst AreSmall (ap (λ u. placed from (numbers kind k bytes) ++ u ∷ []) e
    ∙ sym (piece-more kind from k bytes)) (AreSmall-more (placed from (numbers kind k bytes)) s small h)

pub length-piece : (kind : SampleType) (from k : ℕ) (bytes : List ℕ) → length (placed from (numbers kind k bytes)) ≡ k
length-piece kind from k bytes = length-placed from (numbers kind k bytes) ∙ length-numbers kind k bytes

pub table-replicate : (k n : ℕ) → replicate n (pos 0) ≡ table (λ _. pos 0) k n
table-replicate k zero = refl
table-replicate k (suc n) = ap (λ rest. pos 0 ∷ rest) (table-replicate (k + 1) n)

same_if : (b : Bool) (s : Sample) → (if b then s else s) ≡ s
same_if true s = refl
same_if false s = refl

least_by : (s t : Sample) (b : Bool) → int_lt t.value s.value ≡ b
    → (let m = (if b then t else s) in (if int_lt m.value s.value then m else s)) ≡ (if b then t else s)
least_by s t true e = rw e refl
least_by s t false e = same_if (int_lt s.value s.value) s

greatest_by : (s t : Sample) (b : Bool) → int_lt s.value t.value ≡ b
    → (let m = (if b then t else s) in (if int_lt s.value m.value then m else s)) ≡ (if b then t else s)
greatest_by s t true e = rw e refl
greatest_by s t false e = same_if (int_lt s.value s.value) s

pub least_again : (s : Sample) (xs : List Sample) → least_from s (s ∷ xs) ≡ least_from s xs
least_again s [] = same_if (int_lt s.value s.value) s
least_again s (t ∷ xs) = least_by s (least_from t xs) (int_lt (least_from t xs).value s.value) refl

pub greatest_again : (s : Sample) (xs : List Sample) → greatest_from s (s ∷ xs) ≡ greatest_from s xs
greatest_again s [] = same_if (int_lt s.value s.value) s
greatest_again s (t ∷ xs) = greatest_by s (greatest_from t xs) (int_lt s.value (greatest_from t xs).value) refl

-- a piece begins with its first sample
pub least_piece : (kind : SampleType) (from n : ℕ) (bytes : List ℕ) → 0 < n
    → least_from (record { place = from; value = number kind (take (width kind) bytes) }) (placed from (numbers kind n bytes))
    ≡ least (placed from (numbers kind n bytes))
least_piece kind from zero bytes h = absurd (omega arith)
least_piece kind from (suc n) bytes h =
    least_again (record { place = from; value = number kind (take (width kind) bytes) }) (placed (from + 1) (numbers kind n (drop (width kind) bytes)))

pub greatest_piece : (kind : SampleType) (from n : ℕ) (bytes : List ℕ) → 0 < n
    → greatest_from (record { place = from; value = number kind (take (width kind) bytes) }) (placed from (numbers kind n bytes))
    ≡ greatest (placed from (numbers kind n bytes))
greatest_piece kind from zero bytes h = absurd (omega arith)
greatest_piece kind from (suc n) bytes h =
    greatest_again (record { place = from; value = number kind (take (width kind) bytes) }) (placed (from + 1) (numbers kind n (drop (width kind) bytes)))

some_dims : (n : ℕ) → not (n == 0) ≡ true → 0 < n
some_dims zero h = absurd (cc)
some_dims (suc n) h = omega arith

pub frame_of : (rule : StatsRule) (dims : List Dim) → IsStats rule → IsTrue (has_dimensions dims) → sample_count dims ≤ most_samples → IsFrame rule dims
frame_of rule dims sound shaped few =
    let all = and_parts (not (length dims == 0) && nat_le (length dims) 10) (list_all (λ d. nat_lt 0 d.size) dims) shaped in
    let count = and_parts (not (length dims == 0)) (nat_le (length dims) 10) all.0 in
    record { sound = sound; some = some_dims (length dims) count.0; sizes = all.1; few = few }

-- the measure of a tally
pub measure_of_tally : (rule : StatsRule) (id : ℤ) (dims : List Dim) (first : Sample) (xs : List Sample) (t : Tally) (m : Measure)
    → IsTally rule dims first xs t → least_from first xs ≡ least xs → greatest_from first xs ≡ greatest xs
    → m ≡ record {
      id = id;
      n = t.sums.n;
      min = t.extremes.min;
      min_at = t.extremes.min_at;
      max = t.extremes.max;
      max_at = t.extremes.max_at;
      total = t.sums.total;
      squares = t.sums.squares;
      border = t.sums.border;
      border_n = t.sums.border_n;
      over = t.moments.over;
      m0 = t.moments.m0;
      mx = t.moments.mx;
      my = t.moments.my;
      below = t.histogram.below;
      bins = t.histogram.bins.items;
      above = t.histogram.above;
      x = t.x.items;
      y = t.y.items;
    }
    → m ≡ measured rule id dims xs
unfolding measured
measure_of_tally rule id dims first xs t m is low high e =
    e ∙ rw (
      is.extremes.min,
      is.extremes.min_at,
      is.extremes.max,
      is.extremes.max_at,
      low,
      high,
      is.sums.n,
      is.sums.total,
      is.sums.squares,
      is.sums.border,
      is.sums.border_n,
      is.moments.over,
      is.moments.m0,
      is.moments.mx,
      is.moments.my,
      is.histogram.below,
      is.histogram.bins,
      is.histogram.above,
      is.x,
      is.y,
    ) refl

pub count_positive : (n w q : ℕ) → q * w + 0 ≡ n → 0 < n → 0 < q
count_positive n w zero e some = let z = zero-mul w in absurd (omega (arith, z, e, some))
count_positive n w (suc q) e some = omega arith

-- whole samples that are some bytes are some samples
pub whole_piece : (n w : ℕ) → n % w ≡ 0 → 0 < n → 0 < n / w
whole_piece n w whole some = let parts = div-add-mod' n w in count_positive n w (n / w) (ap (λ r. n / w * w + r) (sym whole) ∙ parts) some
