-- Bytes that are written one by one.
use Rattle.std.proofs.Common.{◌≡◌, ◌≢◌, ℕ, zero, suc, ◌+◌, ◌*◌, ◌≤◌, List, [], ◌∷◌, ◌++◌, length, take, drop, get_or, set, refl, inl, inr, ap, ◌∙◌, arith}
use Rattle.std.proofs.lemmas.Bool.{cases_lt}
use Rattle.std.proofs.lemmas.List.{drop_more}
use Rattle.nd_orient.specs.Walk.{cell}
use Rattle.nd_orient.proofs.Parts.{cell-put_before, cell-put_behind}

-- two writes
pub set-two : (xs : List ℕ) (n a b : ℕ) → n + 2 ≤ length xs → set (set xs n a) (n + 1) b ≡ take n xs ++ ((a ∷ b ∷ []) ++ drop 2 (drop n xs))
set-two [] n a b h = absurd (omega arith)
set-two (x ∷ []) n a b h = absurd (omega arith)
set-two (x ∷ y ∷ xs) zero a b h = refl
set-two (x ∷ y ∷ xs) (suc n) a b h =
    ap (λ m. set (set (x ∷ y ∷ xs) (suc n) a) m b) (let e : suc n + 1 ≡ suc (n + 1) = omega arith in e)
    ∙ ap (λ zs. x ∷ zs) (set-two (y ∷ xs) n a b (omega arith))

pub set-four : (xs : List ℕ) (n a b c d : ℕ) → n + 4 ≤ length xs
    → set (set (set (set xs n a) (n + 1) b) (n + 2) c) (n + 3) d ≡ take n xs ++ ((a ∷ b ∷ c ∷ d ∷ []) ++ drop 4 (drop n xs))
set-four [] n a b c d h = absurd (omega arith)
set-four (x ∷ []) n a b c d h = absurd (omega arith)
set-four (x ∷ y ∷ []) n a b c d h = absurd (omega arith)
set-four (x ∷ y ∷ z ∷ []) n a b c d h = absurd (omega arith)
set-four (x ∷ y ∷ z ∷ u ∷ xs) zero a b c d h = refl
set-four (x ∷ y ∷ z ∷ u ∷ xs) (suc n) a b c d h =
    ap (λ m. set (set (set (set (x ∷ y ∷ z ∷ u ∷ xs) (suc n) a) m b) (suc n + 2) c) (suc n + 3) d) (let e : suc n + 1 ≡ suc (n + 1) = omega arith in e)
    ∙ ap (λ m. set (set (set (set (x ∷ y ∷ z ∷ u ∷ xs) (suc n) a) (suc (n + 1)) b) m c) (suc n + 3) d) (let e : suc n + 2 ≡ suc (n + 2) = omega arith in e)
    ∙ ap (λ m. set (set (set (set (x ∷ y ∷ z ∷ u ∷ xs) (suc n) a) (suc (n + 1)) b) (suc (n + 2)) c) m d) (let e : suc n + 3 ≡ suc (n + 3) = omega arith in e)
    ∙ ap (λ zs. x ∷ zs) (set-four (y ∷ z ∷ u ∷ xs) n a b c d (omega arith))

-- two reads
pub take-two : (xs : List ℕ) (n : ℕ) → n + 2 ≤ length xs → take 2 (drop n xs) ≡ get_or xs n 0 ∷ get_or xs (n + 1) 0 ∷ []
take-two xs n h =
    ap (take 2) (drop_more xs n 0 (omega arith)) ∙ ap (λ zs. get_or xs n 0 ∷ take 1 zs) (drop_more xs (n + 1) 0 (omega arith))

pub take-four : (xs : List ℕ) (n : ℕ) → n + 4 ≤ length xs
    → take 4 (drop n xs) ≡ get_or xs n 0 ∷ get_or xs (n + 1) 0 ∷ get_or xs (n + 2) 0 ∷ get_or xs (n + 3) 0 ∷ []
take-four xs n h =
    let two : n + 1 + 1 ≡ n + 2 = omega arith in
    let three : n + 2 + 1 ≡ n + 3 = omega arith in
    ap (take 4) (drop_more xs n 0 (omega arith))
    ∙ ap (λ zs. get_or xs n 0 ∷ take 3 zs) (drop_more xs (n + 1) 0 (omega arith) ∙ ap (λ m. get_or xs (n + 1) 0 ∷ drop m xs) two)
    ∙ ap (λ zs. get_or xs n 0 ∷ get_or xs (n + 1) 0 ∷ take 2 zs) (drop_more xs (n + 2) 0 (omega arith) ∙ ap (λ m. get_or xs (n + 2) 0 ∷ drop m xs) three)
    ∙ ap (λ zs. get_or xs n 0 ∷ get_or xs (n + 1) 0 ∷ get_or xs (n + 2) 0 ∷ take 1 zs) (drop_more xs (n + 3) 0 (omega arith))

module _ (w to : ℕ) (bytes out new : List ℕ) (long : length bytes ≡ w) (room : to * w + w ≤ length out)
    (is : new ≡ take (to * w) out ++ (bytes ++ drop w (drop (to * w) out))) where
  -- the other samples are as they were
  pub cell-others : (k : ℕ) → k ≢ to → cell w new k ≡ cell w out k
  cell-others k h =
      let one : w ≡ 1 * w = omega arith in
      ap (λ xs. cell w xs k) is
      ∙ elim (cases_lt k to) [
        | inl below ↦ cell-put_before w to 1 (to * w) w out bytes refl one (long ∙ one) (omega arith) k below
        | inr above ↦ cell-put_behind w to 1 (to * w) w out bytes refl one (long ∙ one) (omega arith) k (omega arith)
      ]
