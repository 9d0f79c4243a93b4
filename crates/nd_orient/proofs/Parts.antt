-- Samples' bytes in a part of a list.
use borrow.Rule.Slice.PartMut.{put_mid}
use Rattle.std.proofs.Common.{◌≡◌, ℕ, ◌+◌, ◌-◌, ◌*◌, ◌<◌, ◌≤◌, List, length, take, drop, ◌++◌, ap, sym, ◌∙◌, arith}
use Rattle.std.proofs.Math.Nat.{mul-le-mul_right, suc-mul}
use Rattle.std.proofs.lemmas.List.{take-take, drop-take, drop-drop, drop_at, take-append-le, drop-append-le, length-take-le, length-drop}
use Rattle.std.proofs.lemmas.Slice.{drop-put_mid}
use Rattle.nd_orient.specs.Walk.{cell}

-- a sample's bytes end where those of the next begin
pub cell_end : (k n w : ℕ) → k < n → k * w + w ≤ n * w
cell_end k n w h = let e = suc-mul k w in let m = mul-le-mul_right w h in omega (arith, e, m)

-- what begins at `at` and has more than w bytes
take-part : (w at n : ℕ) (xs : List ℕ) → at + w ≤ n → take w (drop at (take n xs)) ≡ take w (drop at xs)
take-part w at n xs h =
    ap (λ m. take w (drop at (take m xs))) (let e : n ≡ at + (n - at) = omega arith in e)
    ∙ ap (take w) (drop-take at (n - at) xs)
    ∙ take-take w (n - at) (drop at xs) (omega arith)

-- sample p of the samples from q on
pub cell-between : (w q n p : ℕ) (xs : List ℕ) → p < n → cell w (take (n * w) (drop (q * w) xs)) p ≡ cell w xs (q + p)
cell-between w q n p xs h =
    take-part w (p * w) (n * w) (drop (q * w) xs) (cell_end p n w h)
    ∙ ap (take w) (drop-drop (p * w) (q * w) xs)
    ∙ ap (λ m. take w (drop m xs)) (omega arith)

module _ (w q n a k : ℕ) (xs ys : List ℕ) (start : a ≡ q * w) (size : k ≡ n * w) (long : length ys ≡ n * w) (within : q * w + n * w ≤ length xs) where
  front : length (take a xs) ≡ a
  front = length-take-le a xs (omega arith)

  -- after a write of n samples from place q on: those that were written
  pub cell-put : (p : ℕ) → p < n → cell w (put_mid a k xs ys) (q + p) ≡ cell w ys p
  cell-put p h =
      let end = cell_end p n w h in
      let rest = length-drop (p * w) ys in
      let e : (q + p) * w ≡ a + p * w = omega (arith, start) in
      ap (λ m. take w (drop m (put_mid a k xs ys))) e
      ∙ ap (take w) (sym (drop-drop (p * w) a (put_mid a k xs ys)))
      ∙ ap (λ zs. take w (drop (p * w) zs)) (drop_at (take a xs) (ys ++ drop k (drop a xs)) a front)
      ∙ ap (take w) (drop-append-le (p * w) ys (drop k (drop a xs)) (omega arith))
      ∙ take-append-le w (drop (p * w) ys) (drop k (drop a xs)) (omega arith)

  -- those before
  pub cell-put_before : (p : ℕ) → p < q → cell w (put_mid a k xs ys) p ≡ cell w xs p
  cell-put_before p h =
      let end = cell_end p q w h in
      let rest = length-drop (p * w) (take a xs) in
      let f = front in
      ap (take w) (drop-append-le (p * w) (take a xs) (ys ++ drop k (drop a xs)) (omega arith))
      ∙ take-append-le w (drop (p * w) (take a xs)) (ys ++ drop k (drop a xs)) (omega arith)
      ∙ take-part w (p * w) a xs (omega arith)

  -- those behind
  pub cell-put_behind : (p : ℕ) → q + n ≤ p → cell w (put_mid a k xs ys) p ≡ cell w xs p
  cell-put_behind p h =
      let far = mul-le-mul_right w h in
      ap (take w) (drop-put_mid a k xs ys (p * w) (omega arith) (omega arith) (omega arith))
