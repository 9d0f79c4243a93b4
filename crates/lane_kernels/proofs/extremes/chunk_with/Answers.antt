use Rattle.std.proofs.Common.{rules, ◌≡◌, ◌≢◌, ◌+◌, ◌-◌, ◌/◌, ◌<◌, ℕ, ℤ, FitsSigned, arith, ap, sym, ◌∙◌, subst, length, inl, inr}
use Rattle.std.specs.Int.{w32, int_wrap}
use Rattle.std.proofs.lemmas.Bool.{cases_lt}
use Rattle.std.proofs.lemmas.Int.{to_z-of_z}
use Rattle.lane_kernels.specs.Plain.{stored}
use Rattle.lane_kernels.proofs.extremes.chunk_with.Goals as goal

-- what is nowhere before a place and among so many values from there on is nowhere before these end
none_before : (value : ℕ → ℤ) (v : ℤ) (m n : ℕ) → ((k : ℕ) → k < m → value k ≢ v) → ((k : ℕ) → k < n → value (m + k) ≢ v)
    → (k : ℕ) → k < m + n → value k ≢ v
none_before value v m n before there k h = elim (cases_lt k m) [
  | inl lt ↦ before k lt
  | inr ge ↦
      let at : m + (k - m) ≡ k = omega arith in
      subst (λ i. value i ≢ v) at (there (k - m) (omega (arith, ge, h)))
]

pub loop-place-preserved : goal.loop-place-preserved
loop-place-preserved c =
    let wide = ap (λ w. length c.args.samples.now / w) c.width.ensures in
    let test = c.loop-place-test.true in
    let low = c.low_word-low.result in
    let fits : FitsSigned w32 low = search rules in
    let same = sym c.low_word-low.ensures ∙ sym (to_z-of_z w32 low fits) in
    record {
      within = omega (arith, wide, test);
      before = none_before (stored c.args.kind c.args.samples.now) _ c.loop-place.place 64 c.loop-place.invariant.before
          (λ k h e. c.has_low.ensures c.if-not-has_low.true k h (ap (int_wrap w32) e ∙ same));
    }
