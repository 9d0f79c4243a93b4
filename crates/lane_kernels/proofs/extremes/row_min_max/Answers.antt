use Rattle.std.proofs.Common.{rules, ◌≡◌, ◌≢◌, ◌-◌, ◌*◌, ◌/◌, ◌≤◌, ℕ, List, length, take, drop, w64, FitsSigned, Some, refl, ap, sym, ◌∙◌, arith}
use Rattle.std.proofs.lemmas.Int.{to_z-of_z}
use Rattle.nd_base.specs.declared.array.SampleType.{SampleType}
use Rattle.nd_base.specs.declared.array.SampleType.TheVariants.{Int8, UInt8, Int16, UInt16, Int32, UInt32}
use Rattle.nd_base.specs.Samples.{width, numbers, samples_of}
use Rattle.nd_base.specs.SampleLaws.{width-positive}
use Rattle.lane_kernels.specs.Plain.{least, greatest, least_with, greatest_with, min_max}
use Rattle.lane_kernels.specs.declared.extremes.MinMax.{MinMax}
use Rattle.lane_kernels.proofs.Ends.{both_ends, least_behind, greatest_behind}
use Rattle.lane_kernels.proofs.Leasts.{min_max_all}
use Rattle.lane_kernels.proofs.Samples.{some_samples}
use Rattle.lane_kernels.proofs.Slices.{slice_behind, samples_behind}
use Rattle.lane_kernels.proofs.extremes.row_min_max.Goals as goal
use Rattle.lane_kernels.proofs.extremes.row_min_max.Goals.{in-Int32, in-UInt32, in_default}

pub returns-then-rows-eq0 : goal.returns-then-rows-eq0
returns-then-rows-eq0 c =
    let kind = c.args.kind in
    let bytes = c.args.samples.now in
    let f : FitsSigned w64 c.sample_at-first.result = search rules in
    let first = to_z-of_z w64 c.sample_at-first.result f ∙ c.sample_at-first.ensures.value in
    let enough : width kind ≤ length bytes = omega (arith, c.width-width.ensures, c.if-samples-width.false) in
    min_max_all kind (length bytes / width kind) bytes c.ends_with.result (some_samples (length bytes) (width kind) (width-positive kind) enough)
    (c.ends_with.ensures.min ∙ ap (λ v. least_with v (samples_of kind bytes)) first)
    (c.ends_with.ensures.max ∙ ap (λ v. greatest_with v (samples_of kind bytes)) first)

-- the ends of a front and of the samples behind it
ends_of_all : (kind : SampleType) (w k at : ℕ) (bytes : List ℕ) (front ends : MinMax) → width kind ≡ w → k ≤ length bytes / w → at ≡ k * w
    → Some front.min ≡ least (numbers kind k bytes) → Some front.max ≡ greatest (numbers kind k bytes)
    → ends.min ≡ least_with front.min (samples_of kind (take (length bytes - at) (drop at bytes)))
    → ends.max ≡ greatest_with front.max (samples_of kind (take (length bytes - at) (drop at bytes)))
    → Some ends ≡ min_max (samples_of kind bytes)
ends_of_all kind w k at bytes front ends wide within is low high min max =
    let count = ap (λ w. length bytes / w) wide in
    let there : at ≡ k * width kind = is ∙ ap (λ w. k * w) (sym wide) in
    let rest : samples_of kind (take (length bytes - at) (drop at bytes)) ≡ samples_of kind (drop (k * width kind) bytes) =
    ap (samples_of kind) (slice_behind at bytes ∙ ap (λ at. drop at bytes) there) in
    let all = sym (samples_behind kind k bytes (omega (arith, within, count))) in
    let behind = samples_of kind (drop (k * width kind) bytes) in
    both_ends (samples_of kind bytes) ends
    (ap Some (min ∙ ap (least_with front.min) rest) ∙ least_behind front.min (numbers kind k bytes) behind low ∙ ap least all)
    (ap Some (max ∙ ap (greatest_with front.max) rest) ∙ greatest_behind front.max (numbers kind k bytes) behind high ∙ ap greatest all)

byte : (kind : SampleType) → width kind ≢ 2 → kind ≢ Int32 → kind ≢ UInt32 → width kind ≡ 1
byte Int8 two signed unsigned = refl
byte UInt8 two signed unsigned = refl
byte Int16 two signed unsigned = absurd (two refl)
byte UInt16 two signed unsigned = absurd (two refl)
byte Int32 two signed unsigned = absurd (signed refl)
byte UInt32 two signed unsigned = absurd (unsigned refl)

pub returns-after-kind : goal.returns-after-kind
returns-after-kind c =
    let kind = c.args.kind in
    let bytes = c.args.samples.now in
    let rows : ℕ = length bytes / 16 in
    let at : ℕ = rows * 16 in
    let ends = c.ends_with-else-rows-eq0.result in
    let all = c.ends_with-else-rows-eq0.ensures in
    let words : rows * 4 ≤ length bytes / 4 = omega arith in
    let back : (k : SampleType) → kind ≡ k → numbers k (rows * 4) bytes ≡ numbers kind (rows * 4) bytes = λ k e. ap (λ k. numbers k (rows * 4) bytes) (sym e) in
    elim c.match-kind.branch [
      | in-Int32 w ↦
          ends_of_all kind 4 (rows * 4) at bytes c.match-kind.ends ends (ap width w.in-Int32.is) words (omega arith)
          (ap (λ e. Some e.min) w.ends-is ∙ w.signed_word_ends-ends.ensures.min ∙ ap least (back Int32 w.in-Int32.is))
          (ap (λ e. Some e.max) w.ends-is ∙ w.signed_word_ends-ends.ensures.max ∙ ap greatest (back Int32 w.in-Int32.is)) all.min all.max
      | in-UInt32 w ↦
          ends_of_all kind 4 (rows * 4) at bytes c.match-kind.ends ends (ap width w.in-UInt32.is) words (omega arith)
          (ap (λ e. Some e.min) w.ends-is ∙ w.word_ends-ends.ensures.min ∙ ap least (back UInt32 w.in-UInt32.is))
          (ap (λ e. Some e.max) w.ends-is ∙ w.word_ends-ends.ensures.max ∙ ap greatest (back UInt32 w.in-UInt32.is)) all.min all.max
      | in_default w ↦
          ends_of_all kind 1 at at bytes c.match-kind.ends ends (byte kind c.requires w.in_default.not-Int32 w.in_default.not-UInt32) (omega arith) (omega arith)
          (ap (λ e. Some e.min) w.ends-is ∙ w.byte_ends-ends.ensures.min) (ap (λ e. Some e.max) w.ends-is ∙ w.byte_ends-ends.ensures.max) all.min all.max
    ]
