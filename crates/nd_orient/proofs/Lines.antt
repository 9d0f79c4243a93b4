-- Where lines and planes end.
use Rattle.std.proofs.Common.{◌≡◌, ℕ, ◌+◌, ◌*◌, ◌/◌, ◌%◌, ◌<◌, ◌≤◌, List, Bool, true, false, ◌-◌, ◌⊎◌, inl, inr, refl, ap, sym, subst, ◌∙◌, zero, suc, arith}
use Rattle.std.specs.Prelude.{if◌then◌else◌}
use Rattle.std.proofs.Math.Nat.{mul_comm, mul-le-mul, mul-le-mul_right, mul-suc}
use Rattle.std.proofs.lemmas.Bool.{cases_lt}
use Rattle.std.proofs.lemmas.Nat.{mul-add-lt, mod-mul-add, div-mul-add}
use Rattle.nd_base.specs.Shapes.{most_samples}
use Rattle.nd_orient.specs.declared.samples.Plane.{Plane}
use Rattle.nd_orient.specs.Orientation.{along}
use Rattle.nd_orient.specs.Walk.{cell, line_size, line_count, source, IsFilled}
use Rattle.nd_orient.proofs.Parts.{cell_end}
use Rattle.nd_orient.proofs.Turns.{along-below}

both_orders : (s : Bool) (m n : ℕ) → (if s then n else m) * (if s then m else n) ≡ m * n
both_orders true m n = mul_comm n m
both_orders false m n = refl

-- the output's plane has as many samples as the input's
pub area_is : (p : Plane) → line_size p * line_count p ≡ p.columns * p.rows
area_is p = both_orders p.turn.swaps p.columns p.rows

-- line y ends within the plane
pub line_end : (p : Plane) (w y : ℕ) → y < line_count p → y * (line_size p * w) + line_size p * w ≤ p.columns * p.rows * w
line_end p w y h =
    let end = cell_end y (line_count p) (line_size p * w) h in
    let area : line_count p * (line_size p * w) ≡ p.columns * p.rows * w = whole (line_size p) (line_count p) (p.columns * p.rows) w (area_is p) in
    omega (arith, end, area)
  where
    whole : (m n a w : ℕ) → m * n ≡ a → n * (m * w) ≡ a * w
    whole m n a w e = let f : m * n * w ≡ a * w = ap (λ k. k * w) e in omega (arith, f)

-- a plane's bytes are few
pub plane_few : (p : Plane) (w : ℕ) → p.columns * p.rows ≤ most_samples → w ≤ 4 → p.columns * p.rows * w ≤ most_samples * 4
plane_few p w h g = mul-le-mul h g

-- a line's are too, where there is one
pub line_few : (p : Plane) (w : ℕ) → 0 < p.columns * p.rows → p.columns * p.rows ≤ most_samples → w ≤ 4 → line_size p * w ≤ most_samples * 4
line_few p w some h g = mul-le-mul (first (line_size p) (line_count p) (p.columns * p.rows) (area_is p) some h) g
  where
    first : (m n a : ℕ) → m * n ≡ a → 0 < a → a ≤ most_samples → m ≤ most_samples
    first m zero a e some h = absurd (omega arith)
    first m (suc n) a e some h = omega (arith, mul-suc m n)

-- sample x of line y lies in the output's plane
pub place_below : (p : Plane) (x y : ℕ) → x < line_size p → y < line_count p → y * line_size p + x < p.columns * p.rows
place_below p x y h g = let end = cell_end y (line_count p) (line_size p) g in let area = area_is p in omega (arith, end, area)

-- and what it reads in the input's
pub source_below : (p : Plane) (x y : ℕ) → x < line_size p → y < line_count p → source p x y < p.columns * p.rows
source_below p x y h g = by_swaps p.turn.swaps p.turn.x_down p.turn.y_down p.columns p.rows h g
  where
    inside : (c r m n : ℕ) → c < m → r < n → c + m * r < m * n
    inside c r m n h g = let all = mul-add-lt r m c n g h in omega (arith, all)

    by_swaps : (s a b : Bool) (m n : ℕ) → x < (if s then n else m) → y < (if s then m else n)
        → (if s then along b m y else along a m x) + m * (if s then along a n x else along b n y) < m * n
    by_swaps true a b m n h g = inside (along b m y) (along a n x) m n (along-below b m y g) (along-below a n x h)
    by_swaps false a b m n h g = inside (along a m x) (along b n y) m n (along-below a m x h) (along-below b n y g)

-- a place has the line and the sample that it is of
pub filled_here : (w : ℕ) (p : Plane) (input out : List ℕ) (x y : ℕ) → x < line_size p
    → cell w out (y * line_size p + x) ≡ cell w input (source p x y) → IsFilled w p input out (y * line_size p + x)
filled_here w p input out x y h is =
    is ∙ ap (λ v. cell w input (source p v y)) (sym (mod-mul-add y (line_size p) x h))
    ∙ ap (λ v. cell w input (source p ((y * line_size p + x) % line_size p) v)) (sym (div-mul-add y (line_size p) x h))

pub filled_there : (w : ℕ) (p : Plane) (input out : List ℕ) (x y : ℕ) → x < line_size p
    → IsFilled w p input out (y * line_size p + x) → cell w out (y * line_size p + x) ≡ cell w input (source p x y)
filled_there w p input out x y h is =
    is ∙ ap (λ v. cell w input (source p v ((y * line_size p + x) / line_size p))) (mod-mul-add y (line_size p) x h)
    ∙ ap (λ v. cell w input (source p x v)) (div-mul-add y (line_size p) x h)

-- what was filled stays so where so many places are filled and the others stay
pub kept : (w : ℕ) (p : Plane) (input old new : List ℕ) (to n : ℕ) → ((j : ℕ) → j < n → IsFilled w p input new (to + j))
    → ((k : ℕ) → (k < to) ⊎ (to + n ≤ k) → cell w new k ≡ cell w old k) → (k : ℕ) → IsFilled w p input old k → IsFilled w p input new k
kept w p input old new to n here others k h = elim (cases_lt k to) [
  | inl before ↦ others k (inl before) ∙ h
  | inr from ↦ elim (cases_lt k (to + n)) [
    | inl inside ↦ let e : to + (k - to) ≡ k = omega arith in subst (λ m. IsFilled w p input new m) e (here (k - to) (omega arith))
    | inr behind ↦ others k (inr behind) ∙ h
  ]
]

-- a line that is read as it stands
pub source_forward : (p : Plane) (x y m : ℕ) → p.turn.swaps ≡ false → p.turn.x_down ≡ false → source p x y + m ≡ source p (x + m) y
source_forward p x y m straight forward = rw (straight, forward) (omega arith)

-- a line that is read down
pub source_reversed : (p : Plane) (x y m : ℕ) → p.turn.swaps ≡ false → p.turn.x_down ≡ true → x + m < p.columns → source p (x + m) y + m ≡ source p x y
source_reversed p x y m straight down h = rw (straight, down) (omega arith)

module _ (p : Plane) (w x n y : ℕ) (some : 0 < n) (h : x + n ≤ line_size p) (g : y < line_count p) where
  -- n samples of line y from x on end within the output's plane
  pub place_end : (y * line_size p + x) * w + n * w ≤ p.columns * p.rows * w
  place_end =
      let last = place_below p (x + (n - 1)) y (omega arith) g in
      let end : y * line_size p + x + n ≤ p.columns * p.rows = omega (arith, last) in
      let wide = mul-le-mul_right w end in
      omega (arith, wide)

  -- and what they read as it stands within the input's
  pub forward_end : p.turn.swaps ≡ false → p.turn.x_down ≡ false → source p x y * w + n * w ≤ p.columns * p.rows * w
  forward_end straight forward =
      let last = source_below p (x + (n - 1)) y (omega arith) g in
      let same = source_forward p x y (n - 1) straight forward in
      let end : source p x y + n ≤ p.columns * p.rows = omega (arith, last, same) in
      let wide = mul-le-mul_right w end in
      omega (arith, wide)

  -- or down
  pub reversed_end : p.turn.swaps ≡ false → p.turn.x_down ≡ true → source p (x + n - 1) y * w + n * w ≤ p.columns * p.rows * w
  reversed_end straight down =
      let first = source_below p x y (omega arith) g in
      let line : line_size p ≡ p.columns = rw straight refl in
      let same = source_reversed p x y (n - 1) straight down (omega (arith, line)) in
      let at : x + n - 1 ≡ x + (n - 1) = omega arith in
      let from = ap (λ v. source p v y) at in
      let end : source p (x + n - 1) y + n ≤ p.columns * p.rows = omega (arith, first, same, from) in
      let wide = mul-le-mul_right w end in
      omega (arith, wide)
