-- One turn after another.
use Rattle.std.proofs.Common.{◌≡◌, ℕ, zero, suc, ◌<◌, Bool, true, false, refl, ap, lit<, arith}
use Rattle.std.specs.Prelude.{not, if◌then◌else◌}
use Rattle.nd_base.specs.declared.array.Dim.{Dim}
use Rattle.nd_orient.specs.declared.turn.Turn.{Turn}
use Rattle.nd_orient.specs.Orientation.{turn_of, along, run_over}
use Rattle.nd_orient.specs.Modes.{composed, inverse_of}

-- one of them, and not both
abbrev pub either : Bool → Bool → Bool
either a b = if a then not b else b

-- what the first and then the second turn do
abbrev pub after : (first second : Turn) → Turn
after t u = record {
  swaps = either t.swaps u.swaps;
  x_down = either (if u.swaps then t.y_down else t.x_down) u.x_down;
  y_down = either (if u.swaps then t.x_down else t.y_down) u.y_down;
}

-- what holds of each of the eight holds below 8
pub below_8 : (P : ℕ → Type 0) → P 0 → P 1 → P 2 → P 3 → P 4 → P 5 → P 6 → P 7 → (n : ℕ) → n < 8 → P n
below_8 P a b c d e f g h zero lt = a
below_8 P a b c d e f g h (suc zero) lt = b
below_8 P a b c d e f g h (suc (suc zero)) lt = c
below_8 P a b c d e f g h (suc (suc (suc zero))) lt = d
below_8 P a b c d e f g h (suc (suc (suc (suc zero)))) lt = e
below_8 P a b c d e f g h (suc (suc (suc (suc (suc zero))))) lt = f
below_8 P a b c d e f g h (suc (suc (suc (suc (suc (suc zero)))))) lt = g
below_8 P a b c d e f g h (suc (suc (suc (suc (suc (suc (suc zero))))))) lt = h
below_8 P a b c d e f g h (suc (suc (suc (suc (suc (suc (suc (suc n)))))))) lt = absurd (omega arith)

abbrev Composes : ℕ → ℕ → Type 0
Composes first second = turn_of (composed first second) ≡ after (turn_of first) (turn_of second)

abbrev ComposesWithAll : ℕ → Type 0
ComposesWithAll first = (second : ℕ) → second < 8 → Composes first second

-- the table agrees with the arithmetic of modes
pub turn_of-composed : (first second : ℕ) → first < 8 → second < 8 → turn_of (composed first second) ≡ after (turn_of first) (turn_of second)
turn_of-composed first second h g =
    below_8 ComposesWithAll
    (below_8 (Composes 0) refl refl refl refl refl refl refl refl)
    (below_8 (Composes 1) refl refl refl refl refl refl refl refl)
    (below_8 (Composes 2) refl refl refl refl refl refl refl refl)
    (below_8 (Composes 3) refl refl refl refl refl refl refl refl)
    (below_8 (Composes 4) refl refl refl refl refl refl refl refl)
    (below_8 (Composes 5) refl refl refl refl refl refl refl refl)
    (below_8 (Composes 6) refl refl refl refl refl refl refl refl)
    (below_8 (Composes 7) refl refl refl refl refl refl refl refl)
    first h second g

pub composed-inverse : (mode : ℕ) → mode < 8 → composed mode (inverse_of mode) ≡ 0
composed-inverse = below_8 (λ mode. composed mode (inverse_of mode) ≡ 0) refl refl refl refl refl refl refl refl

pub inverse-below : (mode : ℕ) → mode < 8 → inverse_of mode < 8
inverse-below = below_8 (λ mode. inverse_of mode < 8) (lit< tt) (lit< tt) (lit< tt) (lit< tt) (lit< tt) (lit< tt) (lit< tt) (lit< tt)

-- down twice is up
pub along-along : (a b : Bool) (n i : ℕ) → i < n → along a n (along b n i) ≡ along (either a b) n i
along-along true true n i h = omega arith
along-along true false n i h = refl
along-along false b n i h = refl

pub along-below : (down : Bool) (n i : ℕ) → i < n → along down n i < n
along-below true n i h = omega arith
along-below false n i h = h

reversed_twice : (a b r : Bool) → (if b then not (if a then not r else r) else (if a then not r else r)) ≡ (if either a b then not r else r)
reversed_twice true true true = refl
reversed_twice true true false = refl
reversed_twice true false r = refl
reversed_twice false true r = refl
reversed_twice false false r = refl

abbrev with_reverse : Dim → Bool → Dim
with_reverse d r = record { size = d.size; offset = d.offset; binning = d.binning; reverse = r }

pub run_over-run_over : (a b : Bool) (d : Dim) → run_over b (run_over a d) ≡ run_over (either a b) d
run_over-run_over a b d = ap (with_reverse d) (reversed_twice a b d.reverse)
