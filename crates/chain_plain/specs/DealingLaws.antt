-- Laws of what a scatter node passes on to each child.
use Rattle.std.specs.Prelude.{◌≡◌, ℕ, zero, suc, ◌+◌, ◌-◌, ◌*◌, ◌/◌, ◌%◌, ◌==◌, ◌<◌, true, false, List, [], ◌∷◌, ◌++◌, slice_get, if◌then◌else◌}
use Rattle.std.proofs.Common.{ap, sym, ◌∙◌, arith}
use Rattle.std.proofs.lemmas.Bool.{eq-eqb, ne_eqb}
use Rattle.std.proofs.lemmas.Nat.{mod-mul-add}
use Rattle.std.proofs.lemmas.Option.{slice_get_past}
use Rattle.std.proofs.Math.Nat.{div-add-mod, suc-mul}
use Rattle.nd_base.specs.declared.graph.Kind.TheVariants.{Scatter}
use Rattle.trig_window.specs.Windows.{at_positions}
use Rattle.chain_plain.specs.PlainRun.{kind_share}

-- a position is one of the child at this place
own-turn : (place count q at : ℕ) → place < count → at ≡ q * count + place → (at % count == place) ≡ true
own-turn place count q at low is = eq-eqb (at % count) place (ap (λ n. n % count) is ∙ mod-mul-add q count place low)

-- and those before it, back to the one before that, are not
other-turn : (place count q at d : ℕ) → place < count → suc d < count → at + suc d ≡ q * count + place → (at % count == place) ≡ false
other-turn place count q at d low near is =
    ne_eqb (at % count) place (λ same.
    let parts : count * (at / count) + at % count ≡ at = div-add-mod at count in
    let swap : count * (at / count) ≡ at / count * count = omega arith in
    let rest : q * count + 0 ≡ at / count * count + suc d = omega (arith, parts, swap, same, is) in
    let none = mod-mul-add q count 0 (omega (arith, low)) in
    let some = mod-mul-add (at / count) count (suc d) near in
    let clash : 0 ≡ suc d = sym none ∙ ap (λ n. n % count) rest ∙ some in
    omega (arith, clash))

dealt-from : (place count q at d i : ℕ) (ks : List ℕ) → place < count → d < count → at + d ≡ q * count + place
    → slice_get (at_positions (λ j. j % count == place) at ks) i ≡ slice_get ks (i * count + d)
dealt-from place count q at d i [] low near is = slice_get_past {X = ℕ} [] i (omega arith) ∙ sym (slice_get_past {X = ℕ} [] (i * count + d) (omega arith))
dealt-from place count q at (suc d) i (k ∷ ks) low near is =
    let e : suc (i * count + d) ≡ i * count + suc d = omega arith in
    ap (λ b. slice_get ((if b then k ∷ [] else []) ++ at_positions (λ j. j % count == place) (at + 1) ks) i) (other-turn place count q at d low near is)
    ∙ dealt-from place count q (at + 1) d i ks low (omega (arith, near)) (omega (arith, is))
    ∙ ap (slice_get (k ∷ ks)) e
dealt-from place count q at zero zero (k ∷ ks) low near is =
    let e : 0 ≡ 0 * count + 0 = omega arith in
    ap (λ b. slice_get ((if b then k ∷ [] else []) ++ at_positions (λ j. j % count == place) (at + 1) ks) 0)
    (own-turn place count q at low (omega (arith, is)))
    ∙ ap (slice_get (k ∷ ks)) e
dealt-from place count q at zero (suc i) (k ∷ ks) low near is =
    let more : suc q * count ≡ q * count + count = suc-mul q count in
    let next : suc i * count ≡ i * count + count = suc-mul i count in
    let e : suc (i * count + (count - 1)) ≡ suc i * count + 0 = omega (arith, next, near) in
    ap (λ b. slice_get ((if b then k ∷ [] else []) ++ at_positions (λ j. j % count == place) (at + 1) ks) (suc i))
    (own-turn place count q at low (omega (arith, is)))
    ∙ dealt-from place count (suc q) (at + 1) (count - 1) i ks low (omega (arith, near)) (omega (arith, is, more, near))
    ∙ ap (slice_get (k ∷ ks)) e

-- array i that the child at a place of so many gets is number i * count + place of those that go out of the node
pub dealt-get : (place count i : ℕ) (ks : List ℕ) → place < count → slice_get (kind_share Scatter place count ks) i ≡ slice_get ks (i * count + place)
dealt-get place count i ks low = dealt-from place count 0 0 place i ks low low (omega arith)
