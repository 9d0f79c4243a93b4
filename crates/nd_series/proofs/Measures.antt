-- The numbers of a region in place are those of its measure.
use Rattle.std.proofs.Common.{◌≡◌, ℕ, suc, ◌+◌, ◌/◌, ◌%◌, ◌<◌, ◌==◌, ◌||◌, nat_lt, true, Bool, cond, List, [], ◌∷◌, length, filter, refl, ap, sym, subst, ◌∙◌, arith, get_or, Fits, w8}
use Rattle.std.specs.Prelude.{All, IsTrue}
use Rattle.std.specs.List.{list_all}
use Rattle.std.proofs.lemmas.Bool.Decides.{nat_tests}
use Rattle.std.proofs.lemmas.Nat.{mod_below}
use Rattle.nd_base.specs.Array.{Array}
use Rattle.nd_base.specs.declared.array.Dim.{Dim}
use Rattle.nd_base.specs.declared.array.SampleType.{SampleType}
use Rattle.nd_base.specs.Samples.{samples_of}
use Rattle.nd_base.specs.Shapes.{has_dimensions}
use Rattle.nd_base.specs.ShapeLaws.{has_dimensions-none_empty}
use Rattle.nd_base.specs.SampleLaws.{IsSample, samples_of-IsSample}
use Rattle.nd_roi.specs.Cut.{dims_from, region_dims}
use Rattle.nd_roi.specs.Region.{region_samples}
use Rattle.nd_stats.specs.Samples.{Sample, placed, least, greatest, sum_of, is_near_end, is_at_border}
use Rattle.nd_stats.specs.Measured.{measured, is_on_border}
use Rattle.nd_series.specs.declared.region.Box4.{Box4}
use Rattle.nd_series.specs.Spans.{span_at, spans_from, is_at_edge}
use Rattle.nd_series.specs.InPlace.{numbers_of, part_in}
use Rattle.nd_series.specs.Regions.{box_rule, edge_rule, measured_part}
use Rattle.nd_series.proofs.Bounds.{are_bytes}
use Rattle.nd_series.proofs.Joins.{part_same}
use Rattle.nd_series.proofs.RegionSamples.{cut_is, region_samples-in_place}
use Rattle.nd_series.proofs.SpanLaws.{span_at-IsSpan, none_empty}

outermost : (n i : ℕ) → i < n → is_near_end 1 n i ≡ (i == 0 || i + 1 == n)
outermost n i h = grind (arith, nat_tests)

-- the border of the region
edge_is : (b : Box4) (k : ℕ) (dims : List Dim) (p : ℕ) → list_all (λ d. nat_lt 0 d.size) dims ≡ true
    → is_at_border 1 (dims_from (box_rule b) k dims) p ≡ is_at_edge (spans_from b k dims) p
edge_is b k [] p h = refl
edge_is b k (dim ∷ dims) p h =
    let parts = none_empty dim dims h in
    let n = (span_at b k dim.size).count in
    let some = (span_at-IsSpan b k dim.size parts.some).some in
    let more : suc k ≡ k + 1 = omega arith in
    ap (λ m. is_near_end 1 m (p % m) || is_at_border 1 (dims_from (box_rule b) (suc k) dims) (p / m)) (cut_is b k dim.size parts.some).count
    ∙ ap (λ e. e || is_at_border 1 (dims_from (box_rule b) (suc k) dims) (p / n)) (outermost n (p % n) (mod_below p n some))
    ∙ ap (λ e. p % n == 0 || p % n + 1 == n || e) (ap (λ j. is_at_border 1 (dims_from (box_rule b) j dims) (p / n)) more ∙ edge_is b (k + 1) dims (p / n) parts.others)

filter_same : (q r : Sample → Bool) → ((s : Sample) → q s ≡ r s) → (xs : List Sample) → filter q xs ≡ filter r xs
filter_same q r each [] = refl
filter_same q r each (s ∷ xs) =
    ap (λ b. cond b (s ∷ filter q xs) (filter q xs)) (each s) ∙ ap (λ ys. cond (r s) (s ∷ ys) ys) (filter_same q r each xs)

-- the samples where they lie have the numbers of the region that is cut out
pub measured_part-in_place : (b : Box4) (a : Array) → IsTrue (has_dimensions a.dims) → All (IsSample a.kind) a.samples
    → part_in b a.dims a.samples ≡ measured_part b a
unfolding measured numbers_of
measured_part-in_place b a shaped are =
    let sizes = has_dimensions-none_empty a.dims shaped in
    let spans = spans_from b 0 a.dims in
    let rest = region_samples (box_rule b) a.kind a.dims a.samples in
    let same = sym (region_samples-in_place b a.kind a.dims a.samples sizes are) in
    let q : Sample → Bool = λ s. is_at_edge spans s.place in
    let r : Sample → Bool = is_on_border edge_rule (region_dims (box_rule b) a.dims) in
    let edges = filter_same q r (λ s. sym (edge_is b 0 a.dims s.place sizes)) (placed 0 rest) in
    part_same (part_in b a.dims a.samples) (measured_part b a)
    (ap (λ vs. (least (placed 0 vs)).value) same)
    (ap (λ vs. (greatest (placed 0 vs)).value) same)
    (ap (λ vs. sum_of (λ s. s.value) (placed 0 vs)) same)
    (ap (λ vs. sum_of (λ s. s.value) (filter q (placed 0 vs))) same ∙ ap (sum_of (λ s. s.value)) edges)
    (ap (λ vs. length (filter q (placed 0 vs))) same ∙ ap length edges)

-- of an array whose samples are in these bytes
pub measured_part-bytes : (b : Box4) (a : Array) (kind : SampleType) (dims : List Dim) (bytes : List ℕ) → IsTrue (has_dimensions dims)
    → ((i : ℕ) → Fits w8 (get_or bytes i 0)) → a.kind ≡ kind → a.dims ≡ dims → a.samples ≡ samples_of kind bytes
    → part_in b dims (samples_of kind bytes) ≡ measured_part b a
measured_part-bytes b a kind dims bytes shaped fit same_kind same_dims same =
    ap (λ ds. part_in b ds (samples_of kind bytes)) (sym same_dims) ∙ ap (part_in b a.dims) (sym same)
    ∙ measured_part-in_place b a (subst (λ ds. IsTrue (has_dimensions ds)) (sym same_dims) shaped)
    (subst (λ k. All (IsSample k) a.samples) (sym same_kind) (subst (All (IsSample kind)) (sym same) (samples_of-IsSample kind bytes (are_bytes bytes fit))))
