-- The measures of two pieces that lie next to each other, by their bytes.
use Rattle.std.specs.Prelude.{◌≡◌, ℕ, zero, suc, ◌+◌, ◌*◌, ◌/◌, ◌<◌, ◌≤◌, ℤ, List, [], ◌∷◌, ◌++◌, length, take, drop, refl}
use Rattle.std.proofs.Common.{ap, sym, subst, ◌∙◌, arith}
use Rattle.std.proofs.Math.Nat.{suc-mul, zero-mul, add-mul, mul-div_cancel}
use Rattle.std.proofs.lemmas.List.{take-append-le, drop-append-le, nil_from_length, length-drop, length-append}
use Rattle.std.proofs.lemmas.List.Elements.{All-take, All-drop}
use Rattle.nd_base.specs.declared.array.Dim.{Dim}
use Rattle.nd_base.specs.declared.array.SampleType.{SampleType}
use Rattle.nd_base.specs.declared.graph.StatsRule.{StatsRule}
use Rattle.nd_base.specs.declared.measure.Measure.{Measure}
use Rattle.nd_base.specs.Samples.{width, number, numbers, samples_of}
use Rattle.nd_base.specs.SampleLaws.{AreBytes, number-IsSample, sample-IsSmall, length-samples_of, width-positive}
use Rattle.nd_base.specs.Shapes.{sample_count}
use Rattle.nd_stats.specs.Samples.{Sample, placed, AreSmall}
use Rattle.nd_stats.specs.Measured.{measured, measure_of}
use Rattle.nd_stats.specs.Frames.{IsFrame}
use Rattle.nd_stats.specs.Merging.{AreRising, Pieces, AreMeasures, CanMerge, IsMerged}

pub small_placed : (kind : SampleType) (from n : ℕ) (bytes : List ℕ) → AreBytes bytes → AreSmall (placed from (numbers kind n bytes))
small_placed kind from zero bytes small = tt
small_placed kind from (suc n) bytes small = (
  sample-IsSmall kind (number kind (take (width kind) bytes))
      (number-IsSample kind (take (width kind) bytes) (All-take (λ b. b < 256) (width kind) bytes small)),
  small_placed kind (from + 1) n (drop (width kind) bytes) (All-drop (λ b. b < 256) (width kind) bytes small),
)

small_both : (xs ys : List Sample) → AreSmall xs → AreSmall ys → AreSmall (xs ++ ys)
small_both [] ys one two = two
small_both (s ∷ xs) ys one two = (one.0, small_both xs ys one.1 two)

rising_placed : (count low from : ℕ) (vs : List ℤ) → low ≤ from → from + length vs ≤ count → AreRising count low (placed from vs)
rising_placed count low from [] h fits = tt
rising_placed count low from (v ∷ vs) h fits = (h, (omega arith), rising_placed count (from + 1) (from + 1) vs (omega arith) (omega arith))

-- places next to each other
pub placed-append : (from : ℕ) (us vs : List ℤ) → placed from (us ++ vs) ≡ placed from us ++ placed (from + length us) vs
placed-append from [] vs = ap (λ p. placed p vs) (omega arith)
placed-append from (u ∷ us) vs =
    ap (λ rest. let s : Sample = record { place = from; value = u } in s ∷ rest)
    (placed-append (from + 1) us vs ∙ ap (λ p. placed (from + 1) us ++ placed p vs) (omega arith))

numbers-append : (kind : SampleType) (n m : ℕ) (a b : List ℕ) → length a ≡ n * width kind → numbers kind (n + m) (a ++ b) ≡ numbers kind n a ++ numbers kind m b
numbers-append kind zero m a b h =
    ap (λ front. numbers kind (0 + m) (front ++ b)) (nil_from_length a (h ∙ zero-mul (width kind))) ∙ ap (λ k. numbers kind k b) (omega arith)
numbers-append kind (suc n) m a b h =
    let w = width kind in
    let all : length a ≡ n * w + w = h ∙ suc-mul n w in
    let within : w ≤ length a = omega arith in
    let others : length (drop w a) ≡ n * w = length-drop w a ∙ omega arith in
    let more : suc n + m ≡ suc (n + m) = omega arith in
    ap (λ k. numbers kind k (a ++ b)) more
    ∙ ap (λ front. number kind front ∷ numbers kind (n + m) (drop w (a ++ b))) (take-append-le w a b within)
    ∙ ap (λ rest. number kind (take w a) ∷ numbers kind (n + m) rest) (drop-append-le w a b within)
    ∙ ap (λ rest. number kind (take w a) ∷ rest) (numbers-append kind n m (drop w a) b others)

-- the bytes of n samples from place `from` on, and of the m samples behind them
pub record AreNeighbours (rule : StatsRule) (kind : SampleType) (dims : List Dim) (from n m : ℕ) (a b : List ℕ) : Type 0 where
  pub frame : IsFrame rule dims
  pub some : 0 < n
  pub more : 0 < m
  pub one : length a ≡ n * width kind
  pub two : length b ≡ m * width kind
  pub within : from + n + m ≤ sample_count dims
  pub bytes : AreBytes a
  pub more_bytes : AreBytes b

abbrev pub pieces_of : StatsRule → ℤ → SampleType → List Dim → ℕ → ℕ → List ℕ → List ℕ → Pieces
pieces_of rule id kind dims from n a b =
    record { rule = rule; id = id; dims = dims; first = placed from (samples_of kind a); later = placed (from + n) (samples_of kind b) }

pub length-placed : (from : ℕ) (vs : List ℤ) → length (placed from vs) ≡ length vs
length-placed from [] = refl
length-placed from (v ∷ vs) = ap suc (length-placed (from + 1) vs)

samples-both : (rule : StatsRule) (kind : SampleType) (dims : List Dim) (from n m : ℕ) (a b : List ℕ) → AreNeighbours rule kind dims from n m a b
    → samples_of kind (a ++ b) ≡ samples_of kind a ++ samples_of kind b
samples-both rule kind dims from n m a b are =
    let w = width kind in
    let count : length (a ++ b) / w ≡ n + m = ap (λ k. k / w) (length-append a b ∙ ap (λ k. k + length b) are.one ∙ ap (λ k. n * w + k) are.two
    ∙ sym (add-mul n m w)) ∙ mul-div_cancel (n + m) (width-positive kind) in
    let one : length a / w ≡ n = ap (λ k. k / w) are.one ∙ mul-div_cancel n (width-positive kind) in
    let two : length b / w ≡ m = ap (λ k. k / w) are.two ∙ mul-div_cancel m (width-positive kind) in
    ap (λ k. numbers kind k (a ++ b)) count ∙ numbers-append kind n m a b are.one
    ∙ ap (λ k. numbers kind k a ++ numbers kind m b) (sym one) ∙ ap (λ k. samples_of kind a ++ numbers kind k b) (sym two)

placed-both : (rule : StatsRule) (kind : SampleType) (dims : List Dim) (from n m : ℕ) (a b : List ℕ) → AreNeighbours rule kind dims from n m a b
    → placed from (samples_of kind (a ++ b)) ≡ placed from (samples_of kind a) ++ placed (from + n) (samples_of kind b)
placed-both rule kind dims from n m a b are =
    ap (placed from) (samples-both rule kind dims from n m a b are)
    ∙ placed-append from (samples_of kind a) (samples_of kind b)
    ∙ ap (λ k. placed from (samples_of kind a) ++ placed (from + k) (samples_of kind b)) (length-samples_of kind n a are.one)

-- they have the measures of two pieces
pub are_measures : (rule : StatsRule) (id : ℤ) (kind : SampleType) (dims : List Dim) (from n m : ℕ) (a b : List ℕ) → AreNeighbours rule kind dims from n m a b
    → AreMeasures (pieces_of rule id kind dims from n a b) (measure_of rule id kind dims from a) (measure_of rule id kind dims (from + n) b)
unfolding measure_of
are_measures rule id kind dims from n m a b are =
    let us = samples_of kind a in
    let vs = samples_of kind b in
    let one = length-samples_of kind n a are.one in
    let two = length-samples_of kind m b are.two in
    let both = length-append us vs in
    let first = length-placed from us in
    let later = length-placed (from + n) vs in
    let same : placed from (us ++ vs) ≡ placed from us ++ placed (from + n) vs = ap (placed from) (sym (samples-both rule kind dims from n m a b are))
    ∙ placed-both rule kind dims from n m a b are in
    record {
      frame = are.frame;
      some = omega (arith, first, one, are.some);
      more = omega (arith, later, two, are.more);
      rising = subst (AreRising (sample_count dims) 0) same
          (rising_placed (sample_count dims) 0 from (us ++ vs) (omega arith) (omega (arith, both, one, two, are.within)));
      small = small_both (placed from us) (placed (from + n) vs) (small_placed kind from (length a / width kind) a are.bytes)
          (small_placed kind (from + n) (length b / width kind) b are.more_bytes);
      one = refl;
      two = refl;
    }

pub can_merge : (rule : StatsRule) (id : ℤ) (kind : SampleType) (dims : List Dim) (from n m : ℕ) (a b : List ℕ) → AreNeighbours rule kind dims from n m a b
    → CanMerge (measure_of rule id kind dims from a) (measure_of rule id kind dims (from + n) b)
unfolding CanMerge
can_merge rule id kind dims from n m a b are = (pieces_of rule id kind dims from n a b, are_measures rule id kind dims from n m a b are)

-- merged they are the measure of all the bytes
pub merged_measure : (rule : StatsRule) (id : ℤ) (kind : SampleType) (dims : List Dim) (from n m : ℕ) (a b : List ℕ) (both : Measure)
    → AreNeighbours rule kind dims from n m a b
    → IsMerged (measure_of rule id kind dims from a) (measure_of rule id kind dims (from + n) b) both → both ≡ measure_of rule id kind dims from (a ++ b)
unfolding IsMerged measure_of
merged_measure rule id kind dims from n m a b both are merged =
    merged (pieces_of rule id kind dims from n a b) (are_measures rule id kind dims from n m a b are)
    ∙ ap (measured rule id dims) (sym (placed-both rule kind dims from n m a b are))
