-- The last chunk of a piece of an array, and what its measure and that of the samples in front merge into.
use Rattle.std.proofs.Common.{◌≡◌, ℕ, ◌+◌, ◌-◌, ◌*◌, ◌/◌, ◌%◌, ◌<◌, ◌≤◌, ℤ, List, ◌++◌, length, take, drop, ap, sym, subst, ◌∙◌, arith}
use Rattle.std.proofs.lemmas.Nat.{div-add-mod', le-div}
use Rattle.std.proofs.Math.Nat.{add-mul, div-lt_self, mul-div_cancel, mul-le-mul_right, mul-mod_left, one-le-mul}
use Rattle.std.proofs.lemmas.List.{take-append-drop, length-take-le, length-drop}
use Rattle.std.proofs.lemmas.List.Elements.{All-take, All-drop}
use Rattle.nd_base.specs.declared.array.Dim.{Dim}
use Rattle.nd_base.specs.declared.array.SampleType.{SampleType}
use Rattle.nd_base.specs.declared.graph.StatsRule.{StatsRule}
use Rattle.nd_base.specs.declared.measure.Measure.{Measure}
use Rattle.nd_base.specs.Samples.{width}
use Rattle.nd_base.specs.SampleLaws.{AreBytes, width-positive}
use Rattle.nd_base.specs.Shapes.{sample_count}
use Rattle.nd_stats.specs.Frames.{IsFrame}
use Rattle.nd_stats.specs.Measured.{measure_of}
use Rattle.nd_stats.specs.Merging.{CanMerge, IsMerged}
use Rattle.nd_stats.specs.MergingLaws.{AreNeighbours, can_merge, merged_measure}

-- the first `count` samples of an array, cut at sample `from`
pub record IsCut (rule : StatsRule) (kind : SampleType) (dims : List Dim) (count from : ℕ) (bytes front chunk : List ℕ) : Type 0 where
  pub frame : IsFrame rule dims
  pub are : AreBytes bytes
  pub all : length bytes ≡ count * width kind
  pub some : 0 < from
  pub more : from < count
  pub within : count ≤ sample_count dims
  pub before : front ≡ take (from * width kind) bytes
  pub behind : chunk ≡ drop (from * width kind) bytes

-- they are cut where each of so many threads gets as many samples as the last one
pub cut_for : (rule : StatsRule) (kind : SampleType) (dims : List Dim) (w threads : ℕ) (bytes front chunk : List ℕ)
    → IsFrame rule dims → AreBytes bytes → w ≡ width kind → length bytes % width kind ≡ 0 → 1 < threads → threads ≤ length bytes / w
    → length bytes / width kind ≤ sample_count dims
    → front ≡ take ((length bytes / w - length bytes / w / threads) * w) bytes → chunk ≡ drop ((length bytes / w - length bytes / w / threads) * w) bytes
    → IsCut rule kind dims (length bytes / w) (length bytes / w - length bytes / w / threads) bytes front chunk
cut_for rule kind dims w threads bytes front chunk frame are same whole two many within before behind =
    let count = length bytes / w in
    let from = count - count / threads in
    let is : count ≡ length bytes / width kind = ap (λ n. length bytes / n) same in
    let parts = div-add-mod' (length bytes) (width kind) in
    let less = div-lt_self {n = count} {k = threads} (omega (arith, two, many)) two in
    let some : 1 ≤ count / threads = le-div 1 count threads (omega (arith, two)) (omega (arith, many)) in
    record {
      frame = frame;
      are = are;
      all = (let e : length bytes ≡ length bytes / width kind * width kind = omega (arith, parts, whole) in e ∙ ap (λ n. n * width kind) (sym is));
      some = omega (arith, less);
      more = omega (arith, some, less);
      within = omega (arith, is, within);
      before = before ∙ ap (λ n. take (from * n) bytes) same;
      behind = behind ∙ ap (λ n. drop (from * n) bytes) same;
    }

-- what is to be known of the bytes of so many samples
pub are_samples : (kind : SampleType) (n : ℕ) (bytes : List ℕ) → length bytes ≡ n * width kind → 0 < n
    → (length bytes % width kind ≡ 0) × (0 < length bytes) × (length bytes / width kind ≡ n)
are_samples kind n bytes all some =
    let long = one-le-mul some (width-positive kind) in (
      ap (λ m. m % width kind) all ∙ mul-mod_left n (width kind),
      omega (arith, all, long),
      ap (λ m. m / width kind) all ∙ mul-div_cancel n (width-positive kind),
    )

module _ (rule : StatsRule) (kind : SampleType) (dims : List Dim) (count from : ℕ) (bytes front chunk : List ℕ)
    (cut : IsCut rule kind dims count from bytes front chunk) where
  length-front : length front ≡ from * width kind
  length-front =
      let fits : from * width kind ≤ count * width kind = mul-le-mul_right (width kind) (let e : from ≤ count = omega (arith, cut.more) in e) in
      ap length cut.before ∙ length-take-le (from * width kind) bytes (omega (arith, cut.all, fits))

  length-chunk : length chunk ≡ (count - from) * width kind
  length-chunk =
      let w = width kind in
      let sum : from + (count - from) ≡ count = omega (arith, cut.more) in
      let parts : from * w + (count - from) * w ≡ count * w = sym (add-mul from (count - from) w) ∙ ap (λ n. n * w) sum in
      let long = length-drop (from * w) bytes in
      ap length cut.behind ∙ omega (arith, long, cut.all, parts)

  pub front_samples : (length front % width kind ≡ 0) × (0 < length front) × (length front / width kind ≡ from)
  front_samples = are_samples kind from front length-front cut.some

  pub chunk_samples : (length chunk % width kind ≡ 0) × (0 < length chunk) × (length chunk / width kind ≡ count - from)
  chunk_samples = are_samples kind (count - from) chunk length-chunk (omega (arith, cut.more))

  neighbours : AreNeighbours rule kind dims 0 from (count - from) front chunk
  neighbours = record {
    frame = cut.frame;
    some = cut.some;
    more = omega (arith, cut.more);
    one = length-front;
    two = length-chunk;
    within = omega (arith, cut.more, cut.within);
    bytes = subst AreBytes (sym cut.before) (All-take (λ b. b < 256) (from * width kind) bytes cut.are);
    more_bytes = subst AreBytes (sym cut.behind) (All-drop (λ b. b < 256) (from * width kind) bytes cut.are);
  }

  both-are : front ++ chunk ≡ bytes
  both-are = ap (λ xs. xs ++ chunk) cut.before ∙ ap (λ xs. take (from * width kind) bytes ++ xs) cut.behind ∙ take-append-drop (from * width kind) bytes

  begins : 0 + from ≡ from
  begins = omega arith

  module _ (id : ℤ) (earlier later : Measure) (one : earlier ≡ measure_of rule id kind dims 0 front) (two : later ≡ measure_of rule id kind dims from chunk) where
    pub can_take_chunk : CanMerge earlier later
    can_take_chunk =
        subst (λ m. CanMerge m later) (sym one) (subst (CanMerge (measure_of rule id kind dims 0 front)) (sym two)
        (subst (λ n. CanMerge (measure_of rule id kind dims 0 front) (measure_of rule id kind dims n chunk)) begins
        (can_merge rule id kind dims 0 from (count - from) front chunk neighbours)))

    pub takes_chunk : (both : Measure) → IsMerged earlier later both → both ≡ measure_of rule id kind dims 0 bytes
    takes_chunk both merged =
        merged_measure rule id kind dims 0 from (count - from) front chunk both neighbours
        (subst (λ n. IsMerged (measure_of rule id kind dims 0 front) (measure_of rule id kind dims n chunk) both) (sym begins)
        (subst (λ m. IsMerged m (measure_of rule id kind dims from chunk) both) one (subst (λ m. IsMerged earlier m both) two merged)))
        ∙ ap (measure_of rule id kind dims 0) both-are
