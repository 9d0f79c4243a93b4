-- What a region takes lies within the frame.
use Rattle.std.proofs.Common.{◌≡◌, ℕ, zero, suc, ◌+◌, ◌*◌, ◌/◌, ◌%◌, ◌<◌, ◌≤◌, true, nat_lt, List, [], ◌∷◌, refl, ap, ◌∙◌, arith}
use Rattle.std.specs.List.{list_all}
use Rattle.std.proofs.Math.Nat.{mul-le-mul, one-le-mul, add-mul-mod_self_left, add-mul-div_left, mod-eq_of_lt, div-eq_of_lt}
use Rattle.std.proofs.lemmas.Bool.{and_parts, ltb-true}
use Rattle.nd_base.specs.declared.array.Dim.{Dim}
use Rattle.nd_base.specs.Shapes.{sample_count}
use Rattle.nd_series.specs.declared.region.Box4.{Box4}
use Rattle.nd_series.specs.declared.span.Span.{Span}
use Rattle.nd_series.specs.Spans.{span_from, span_at, spans_from, span_count}

-- a span lies within its dimension
pub record IsSpan (s : Span) : Type 0 where
  pub some : 1 ≤ s.count
  pub within : s.first + s.count ≤ s.size

pub span_from-IsSpan : (first count size : ℕ) → 0 < size → IsSpan (span_from first count size)
span_from-IsSpan first count size h = record { some = omega arith; within = omega arith }

pub span_at-IsSpan : (b : Box4) (k size : ℕ) → 0 < size → IsSpan (span_at b k size)
span_at-IsSpan b zero size h = span_from-IsSpan b.x b.w size h
span_at-IsSpan b (suc zero) size h = span_from-IsSpan b.y b.h size h
span_at-IsSpan b (suc (suc k)) size h = record { some = omega arith; within = omega arith }

pub span_at-size : (b : Box4) (k size : ℕ) → (span_at b k size).size ≡ size
span_at-size b zero size = refl
span_at-size b (suc zero) size = refl
span_at-size b (suc (suc k)) size = refl

pub record Parts (dim : Dim) (dims : List Dim) : Type 0 where
  pub some : 0 < dim.size
  pub others : list_all (λ d. nat_lt 0 d.size) dims ≡ true

-- dimensions of which none is empty
pub none_empty : (dim : Dim) (dims : List Dim) → list_all (λ d. nat_lt 0 d.size) (dim ∷ dims) ≡ true → Parts dim dims
none_empty dim dims h =
    let parts = and_parts (nat_lt 0 dim.size) (list_all (λ d. nat_lt 0 d.size) dims) h in
    record { some = ltb-true 0 dim.size parts.0; others = parts.1 }

pub span_count-most : (b : Box4) (k : ℕ) (dims : List Dim) → list_all (λ d. nat_lt 0 d.size) dims ≡ true → span_count (spans_from b k dims) ≤ sample_count dims
span_count-most b k [] h = omega arith
span_count-most b k (dim ∷ dims) h =
    let parts = none_empty dim dims h in
    let s = span_at-IsSpan b k dim.size parts.some in
    let e = span_at-size b k dim.size in
    mul-le-mul (omega (arith, s.within, e)) (span_count-most b (k + 1) dims parts.others)

pub span_count-positive : (b : Box4) (k : ℕ) (dims : List Dim) → list_all (λ d. nat_lt 0 d.size) dims ≡ true → 1 ≤ span_count (spans_from b k dims)
span_count-positive b k [] h = omega arith
span_count-positive b k (dim ∷ dims) h =
    let parts = none_empty dim dims h in
    one-le-mul (span_at-IsSpan b k dim.size parts.some).some (span_count-positive b (k + 1) dims parts.others)

-- the place of a column of a line
pub column_mod : (k c j : ℕ) → j < c → (k * c + j) % c ≡ j
column_mod k c j h = ap (λ p. p % c) (let e : k * c + j ≡ j + c * k = grind arith in e) ∙ add-mul-mod_self_left j c k ∙ mod-eq_of_lt h

pub column_div : (k c j : ℕ) → j < c → (k * c + j) / c ≡ k
column_div k c j h = ap (λ p. p / c) (let e : k * c + j ≡ j + c * k = grind arith in e)
    ∙ add-mul-div_left j k (omega (arith, h)) ∙ ap (λ q. q + k) (div-eq_of_lt h) ∙ (let e : 0 + k ≡ k = omega arith in e)
