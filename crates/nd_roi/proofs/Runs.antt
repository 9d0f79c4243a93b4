-- Runs of samples from a later place on.
use Rattle.std.proofs.Common.{◌≡◌, ℕ, zero, suc, ◌+◌, ◌*◌, ◌-◌, ◌≤◌, List, take, drop, refl, ap, sym, ◌∙◌, arith, ◌+ℤ◌}
use Rattle.std.proofs.Math.Nat.{add-mul}
use Rattle.std.proofs.lemmas.List.{drop-drop}
use Rattle.nd_base.specs.declared.array.SampleType.{SampleType}
use Rattle.nd_base.specs.Samples.{width, number}
use Rattle.nd_roi.specs.Walk.{stored, run}

stored-drop : (kind : SampleType) (bytes : List ℕ) (p q r : ℕ) → p + q ≡ r → stored kind (drop (p * width kind) bytes) q ≡ stored kind bytes r
stored-drop kind bytes p q r e =
    ap (λ rest. number kind (take (width kind) rest))
    (drop-drop (q * width kind) (p * width kind) bytes ∙ ap (λ n. drop n bytes) (sym (add-mul p q (width kind)) ∙ ap (λ n. n * width kind) e))

-- a run behind p samples
pub run-drop : (kind : SampleType) (bytes : List ℕ) (p n q : ℕ) → run kind (drop (p * width kind) bytes) n q ≡ run kind bytes n (p + q)
run-drop kind bytes p zero q = refl
run-drop kind bytes p (suc n) q =
    ap (λ z. z +ℤ stored kind (drop (p * width kind) bytes) (q + n)) (run-drop kind bytes p n q)
    ∙ ap (λ z. run kind bytes n (p + q) +ℤ z) (stored-drop kind bytes p (q + n) (p + q + n) (omega arith))

-- so many samples behind p are within the rest of the bytes
pub runs_within : (n m p w : ℕ) → p * w + m * w ≤ n → m * w ≤ n - p * w
runs_within n m p w h = omega (arith, h)
