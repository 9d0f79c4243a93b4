-- The first places of the least and the greatest sample.
use Rattle.std.proofs.Common.{◌≡◌, ◌≢◌, ℕ, zero, suc, ◌+◌, ◌<◌, ◌≤◌, List, [], ◌∷◌, ◌++◌, length, take, drop, get_or, refl, ap, sym, ◌∙◌, arith, ℤ}
use Rattle.std.proofs.Common.{pos, Bool, true, false, Some}
use Rattle.std.specs.Prelude.{int_lt, if◌then◌else◌}
use Rattle.std.specs.Int.{int_min, int_max}
use Rattle.std.proofs.lemmas.Int.{ints}
use Rattle.nd_base.specs.declared.array.SampleType.{SampleType}
use Rattle.nd_base.specs.Samples.{width, number, numbers}
use Rattle.nd_base.specs.SampleLaws.{length-numbers}
use Rattle.lane_kernels.proofs.Slices.{get_or-numbers}
use Rattle.lane_kernels.specs.Plain.{stored, least_with, greatest_with, min_max}
use Rattle.lane_kernels.specs.declared.extremes.MinMax.{MinMax}
use Rattle.nd_stats.specs.declared.tally.Extremes.{Extremes}
use Rattle.nd_stats.specs.Samples.{Sample, placed, least_from, greatest_from, least, greatest}
use Rattle.nd_stats.specs.Running.{AreExtremes}
use Rattle.nd_stats.proofs.Sums.{least-both, greatest-both}

abbrev one : ℕ → ℤ → Sample
one p v = record { place = p; value = v }

is_min : (v w : ℤ) → (if int_lt w v then w else v) ≡ int_min v w
is_min v w = grind (arith, ints)

pick_least : (b : Bool) (l s : Sample) → (if b then l.value else s.value) ≡ (if b then l else s).value
pick_least true l s = refl
pick_least false l s = refl

-- its value is that of the plain least
pub least_value : (p : ℕ) (v : ℤ) (vs : List ℤ) → (least_from (one p v) (placed (p + 1) vs)).value ≡ least_with v vs
least_value p v [] = refl
least_value p v (w ∷ vs) =
    let l = least_from (one (p + 1) w) (placed (p + 1 + 1) vs) in
    sym (pick_least (int_lt l.value v) l (one p v)) ∙ is_min v l.value ∙ ap (λ x. int_min v x) (least_value (p + 1) w vs)

least_here : (b : Bool) (s l : Sample) → (int_lt l.value s.value) ≡ b → s.value ≡ (if b then l else s).value → (if b then l else s).place ≡ s.place
least_here true s l e h = absurd (grind (arith, ints))
least_here false s l e h = refl

least_further : (b : Bool) (s l : Sample) (n : ℕ) → s.value ≢ (if b then l else s).value → (b ≡ true → l.place ≡ n) → (if b then l else s).place ≡ n
least_further true s l n ne h = h refl
least_further false s l n ne h = absurd (ne refl)

-- the first value that is the least has its place
pub least_place : (p : ℕ) (v : ℤ) (vs : List ℤ) (i : ℕ) → (i < suc (length vs) → get_or (v ∷ vs) i (pos 0) ≡ (least_from (one p v) (placed (p + 1) vs)).value)
    → ((j : ℕ) → j < i → get_or (v ∷ vs) j (pos 0) ≢ (least_from (one p v) (placed (p + 1) vs)).value)
    → (least_from (one p v) (placed (p + 1) vs)).place ≡ p + i
least_place p v [] zero is first = omega arith
least_place p v [] (suc i) is first = absurd (first 0 (omega arith) refl)
least_place p v (w ∷ vs) zero is first =
    let l = least_from (one (p + 1) w) (placed (p + 1 + 1) vs) in
    let e : p ≡ p + 0 = omega arith in
    least_here (int_lt l.value v) (one p v) l refl (is (omega arith)) ∙ e
least_place p v (w ∷ vs) (suc i) is first =
    let s = one p v in
    let l = least_from (one (p + 1) w) (placed (p + 1 + 1) vs) in
    let b = int_lt l.value v in
    let e : p + 1 + i ≡ p + suc i = omega arith in
    least_further b s l (p + suc i) (first 0 (omega arith))
    (λ t. let same : (if b then l else s).value ≡ l.value = ap (λ x. (if x then l else s).value) t in
    least_place (p + 1) w vs i (λ k. is (omega arith) ∙ same) (λ j k f. first (suc j) (omega arith) (f ∙ sym same)) ∙ e)

is_max : (v w : ℤ) → (if int_lt v w then w else v) ≡ int_max v w
is_max v w = grind (arith, ints)

pick_greatest : (b : Bool) (l s : Sample) → (if b then l.value else s.value) ≡ (if b then l else s).value
pick_greatest true l s = refl
pick_greatest false l s = refl

-- its value is that of the plain greatest
pub greatest_value : (p : ℕ) (v : ℤ) (vs : List ℤ) → (greatest_from (one p v) (placed (p + 1) vs)).value ≡ greatest_with v vs
greatest_value p v [] = refl
greatest_value p v (w ∷ vs) =
    let l = greatest_from (one (p + 1) w) (placed (p + 1 + 1) vs) in
    sym (pick_greatest (int_lt v l.value) l (one p v)) ∙ is_max v l.value ∙ ap (λ x. int_max v x) (greatest_value (p + 1) w vs)

greatest_here : (b : Bool) (s l : Sample) → (int_lt s.value l.value) ≡ b → s.value ≡ (if b then l else s).value → (if b then l else s).place ≡ s.place
greatest_here true s l e h = absurd (grind (arith, ints))
greatest_here false s l e h = refl

greatest_further : (b : Bool) (s l : Sample) (n : ℕ) → s.value ≢ (if b then l else s).value → (b ≡ true → l.place ≡ n) → (if b then l else s).place ≡ n
greatest_further true s l n ne h = h refl
greatest_further false s l n ne h = absurd (ne refl)

-- the first value that is the greatest has its place
pub greatest_place : (p : ℕ) (v : ℤ) (vs : List ℤ) (i : ℕ)
    → (i < suc (length vs) → get_or (v ∷ vs) i (pos 0) ≡ (greatest_from (one p v) (placed (p + 1) vs)).value)
    → ((j : ℕ) → j < i → get_or (v ∷ vs) j (pos 0) ≢ (greatest_from (one p v) (placed (p + 1) vs)).value)
    → (greatest_from (one p v) (placed (p + 1) vs)).place ≡ p + i
greatest_place p v [] zero is first = omega arith
greatest_place p v [] (suc i) is first = absurd (first 0 (omega arith) refl)
greatest_place p v (w ∷ vs) zero is first =
    let l = greatest_from (one (p + 1) w) (placed (p + 1 + 1) vs) in
    let e : p ≡ p + 0 = omega arith in
    greatest_here (int_lt v l.value) (one p v) l refl (is (omega arith)) ∙ e
greatest_place p v (w ∷ vs) (suc i) is first =
    let s = one p v in
    let l = greatest_from (one (p + 1) w) (placed (p + 1 + 1) vs) in
    let b = int_lt v l.value in
    let e : p + 1 + i ≡ p + suc i = omega arith in
    greatest_further b s l (p + suc i) (first 0 (omega arith))
    (λ t. let same : (if b then l else s).value ≡ l.value = ap (λ x. (if x then l else s).value) t in
    greatest_place (p + 1) w vs i (λ k. is (omega arith) ∙ same) (λ j k f. first (suc j) (omega arith) (f ∙ sym same)) ∙ e)

-- the least of a block
pub least_block : (kind : SampleType) (p n : ℕ) (bytes : List ℕ) (ends : MinMax) → 0 < n → Some ends ≡ min_max (numbers kind n bytes)
    → ends.min ≡ (least (placed p (numbers kind n bytes))).value
least_block kind p zero bytes ends h e = absurd (omega arith)
least_block kind p (suc n) bytes ends h e =
    let first = number kind (take (width kind) bytes) in
    let vs = numbers kind n (drop (width kind) bytes) in
    let same : ends ≡ record { min = least_with first vs; max = greatest_with first vs } = cc in
    ap (λ m. m.min) same ∙ sym (least_value p first vs)

-- and its place
pub least_block_place : (kind : SampleType) (p n i : ℕ) (bytes : List ℕ) (v : ℤ) → 0 < n → v ≡ (least (placed p (numbers kind n bytes))).value
    → (i < n → stored kind bytes i ≡ v) → ((k : ℕ) → k < i → stored kind bytes k ≢ v) → i ≤ n → p + i ≡ (least (placed p (numbers kind n bytes))).place
least_block_place kind p zero i bytes v h e here first within = absurd (omega arith)
least_block_place kind p (suc n) i bytes v h e here first within =
    let v0 = number kind (take (width kind) bytes) in
    let vs = numbers kind n (drop (width kind) bytes) in
    let long = length-numbers kind n (drop (width kind) bytes) in
    sym (least_place p v0 vs i (λ k. get_or-numbers kind (suc n) i bytes (omega arith) ∙ here (omega arith) ∙ e)
    (λ j k f. first j k (sym (get_or-numbers kind (suc n) j bytes (omega arith)) ∙ f ∙ sym e)))

-- the greatest of a block
pub greatest_block : (kind : SampleType) (p n : ℕ) (bytes : List ℕ) (ends : MinMax) → 0 < n → Some ends ≡ min_max (numbers kind n bytes)
    → ends.max ≡ (greatest (placed p (numbers kind n bytes))).value
greatest_block kind p zero bytes ends h e = absurd (omega arith)
greatest_block kind p (suc n) bytes ends h e =
    let first = number kind (take (width kind) bytes) in
    let vs = numbers kind n (drop (width kind) bytes) in
    let same : ends ≡ record { min = least_with first vs; max = greatest_with first vs } = cc in
    ap (λ m. m.max) same ∙ sym (greatest_value p first vs)

-- and its place
pub greatest_block_place : (kind : SampleType) (p n i : ℕ) (bytes : List ℕ) (v : ℤ) → 0 < n → v ≡ (greatest (placed p (numbers kind n bytes))).value
    → (i < n → stored kind bytes i ≡ v) → ((k : ℕ) → k < i → stored kind bytes k ≢ v) → i ≤ n → p + i ≡ (greatest (placed p (numbers kind n bytes))).place
greatest_block_place kind p zero i bytes v h e here first within = absurd (omega arith)
greatest_block_place kind p (suc n) i bytes v h e here first within =
    let v0 = number kind (take (width kind) bytes) in
    let vs = numbers kind n (drop (width kind) bytes) in
    let long = length-numbers kind n (drop (width kind) bytes) in
    sym (greatest_place p v0 vs i (λ k. get_or-numbers kind (suc n) i bytes (omega arith) ∙ here (omega arith) ∙ e)
    (λ j k f. first j k (sym (get_or-numbers kind (suc n) j bytes (omega arith)) ∙ f ∙ sym e)))

-- what a test that was passed takes, and one that was not
pub taken : {X : Type 0} (b : Bool) (x y z : X) → b ≡ true → z ≡ x → z ≡ (if b then x else y)
taken true x y z h e = e
taken false x y z h e = absurd cc

pub left_out : {X : Type 0} (b : Bool) (x y z : X) → b ≡ false → z ≡ y → z ≡ (if b then x else y)
left_out true x y z h e = absurd cc
left_out false x y z h e = e

pub test_left : (v w l : ℤ) (b : Bool) → int_lt v w ≡ b → v ≡ l → int_lt l w ≡ b
test_left v w l b h e = ap (λ z. int_lt z w) (sym e) ∙ h

pub test_right : (v w l : ℤ) (b : Bool) → int_lt w v ≡ b → v ≡ l → int_lt w l ≡ b
test_right v w l b h e = ap (λ z. int_lt w z) (sym e) ∙ h

-- the extremes with those of a block
pub extremes_block : (first : Sample) (xs : List Sample) (p n : ℕ) (kind : SampleType) (bytes : List ℕ) (e f : Extremes) → 0 < n → AreExtremes first xs e
    → (let ys = placed p (numbers kind n bytes) in
    (f.min ≡ (if int_lt (least ys).value e.min then (least ys).value else e.min))
    → (f.min_at ≡ (if int_lt (least ys).value e.min then (least ys).place else e.min_at))
    → (f.max ≡ (if int_lt e.max (greatest ys).value then (greatest ys).value else e.max))
    → (f.max_at ≡ (if int_lt e.max (greatest ys).value then (greatest ys).place else e.max_at))
    → AreExtremes first (xs ++ ys) f)
extremes_block first xs p zero kind bytes e f some are a b c d = absurd (omega arith)
extremes_block first xs p (suc n) kind bytes e f some are a b c d =
    let u = one p (number kind (take (width kind) bytes)) in
    let ys = placed (p + 1) (numbers kind n (drop (width kind) bytes)) in
    let low = least_from first xs in
    let high = greatest_from first xs in
    let l = least_from u ys in
    let g = greatest_from u ys in
    let lo = least-both first xs u ys in
    let hi = greatest-both first xs u ys in
    record {
      min = a ∙ ap (λ m. if int_lt l.value m then l.value else m) are.min ∙ lo.0;
      min_at = b ∙ ap (λ m. if int_lt l.value m then l.place else e.min_at) are.min ∙ ap (λ q. if int_lt l.value low.value then l.place else q) are.min_at
          ∙ lo.1;
      max = c ∙ ap (λ m. if int_lt m g.value then g.value else m) are.max ∙ hi.0;
      max_at = d ∙ ap (λ m. if int_lt m g.value then g.place else e.max_at) are.max ∙ ap (λ q. if int_lt high.value g.value then g.place else q) are.max_at
          ∙ hi.1;
    }
