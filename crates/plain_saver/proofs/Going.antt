-- The positions that are left at a node, and how they go out in rising order.
use Rattle.std.proofs.Common.{◌≡◌, ◌≢◌, ℕ, zero, suc, ◌+◌, ◌≤◌, List, [], ◌∷◌, Some, drop, ap, arith}
use Rattle.std.specs.Prelude.{All, slice_get}
use Rattle.std.proofs.lemmas.List.Elements.{All-nil, All-cons, All-head}
use Rattle.std.proofs.lemmas.Option.{same_Some}
use Rattle.chain_plain.specs.PassedLaws.{AreRising}

-- once a position has gone out, all that are left are above it
pub left-next : (ks : List ℕ) (c k : ℕ) → AreRising ks → slice_get ks c ≡ Some k → All (λ p. k + 1 ≤ p) (drop (suc c) ks)
left-next [] c k h is = absurd (cc)
left-next (x ∷ ks) zero k h is =
    let same : x ≡ k = same_Some x k is in
    (λ i d within. let above = h.0 i d within in omega (arith, above, same))
left-next (x ∷ ks) (suc c) k h is = left-next ks c k h.1 is

-- and where it isn't the next one, neither
pub left-skip : (ks : List ℕ) (c k : ℕ) → AreRising ks → All (λ p. k ≤ p) (drop c ks) → slice_get ks c ≢ Some k → All (λ p. k + 1 ≤ p) (drop c ks)
left-skip [] zero k h all not = All-nil (λ p. k + 1 ≤ p)
left-skip [] (suc c) k h all not = All-nil (λ p. k + 1 ≤ p)
left-skip (x ∷ ks) zero k h all not =
    let least : k ≤ x = All-head (λ p. k ≤ p) x ks all in
    let other : x ≢ k = λ e. not (ap Some e) in
    let more : k + 1 ≤ x = omega (arith, least, other) in
    All-cons (λ p. k + 1 ≤ p) x ks more (λ i d within. let above = h.0 i d within in omega (arith, above, more))
left-skip (x ∷ ks) (suc c) k h all not = left-skip ks c k h.1 all not
