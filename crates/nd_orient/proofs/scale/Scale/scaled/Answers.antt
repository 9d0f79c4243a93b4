use Rattle.std.proofs.Common.{rules, ◌≡◌, ◌*◌, ◌/◌, ◌^◌, ◌<◌, min, pos, ◌-ℤ◌, FitsSigned, to_z, of_z, ap, sym, ◌∙◌, arith}
use Rattle.std.specs.Int.{w32, w64}
use Rattle.std.specs.Int.RustNames.{unsigned_abs}
use Rattle.std.proofs.Math.IntN.{neg_ℤ}
use Rattle.std.proofs.lemmas.Int.{ints, to_z-of_z, to_z_pos}
use Rattle.nd_orient.proofs.Quotients.{signed, quotient_near, same_signs, other_signs}
use Rattle.nd_orient.proofs.scale.Scale.scaled.Goals as goal
use Rattle.nd_orient.proofs.scale.Scale.scaled.Goals.{After-min-near}

-- the quotient of the sizes
size : (c : After-min-near) → c.min-near.result ≡ min
    (unsigned_abs c.args.difference * unsigned_abs c.args.self.rule.num / unsigned_abs c.args.self.rule.den) 1099511627776
size c =
    let rule = c.args.self.rule in
    let num : FitsSigned w32 rule.num = search rules in
    let den : FitsSigned w32 rule.den = search rules in
    let a = c.unsigned_abs.ensures.value ∙ ap unsigned_abs (to_z-of_z w64 c.args.difference c.ranges.difference) in
    let b = c.from.ensures ∙ c.unsigned_abs-2.ensures.value ∙ ap unsigned_abs (to_z-of_z w32 rule.num num) in
    let d = c.from-2.ensures ∙ c.unsigned_abs-3.ensures.value ∙ ap unsigned_abs (to_z-of_z w32 rule.den den) in
    c.min-near.ensures
    ∙ ap (λ m. min (m * c.from.result / c.from-2.result) 1099511627776) a
    ∙ ap (λ m. min (unsigned_abs c.args.difference * m / c.from-2.result) 1099511627776) b
    ∙ ap (λ m. min (unsigned_abs c.args.difference * unsigned_abs rule.num / m) 1099511627776) d

pub returns-then-difference-self : goal.returns-then-difference-self
returns-then-difference-self c =
    let rule = c.args.self.rule in
    let n = c.min-near.result in
    let num : FitsSigned w32 rule.num = search rules in
    let sizes = size ((goal.at.returns-then-difference-self c).After-min-near) in
    let small : n < 2 ^ 63 = omega (arith, c.min-near.ensures) in
    to_z_pos w64 n small
    ∙ sym (quotient_near 1099511627776 c.args.difference rule.num rule.den n c.requires.rule.den sizes
    ∙ ap (λ s. signed s n) (same_signs c.args.difference rule.num _ _ (to_z-of_z w64 c.args.difference c.ranges.difference) (to_z-of_z w32 rule.num num)
    c.if-difference-self.true))

pub returns-else-difference-self : goal.returns-else-difference-self
returns-else-difference-self c =
    let rule = c.args.self.rule in
    let n = c.min-near.result in
    let num : FitsSigned w32 rule.num = search rules in
    let sizes = size ((goal.at.returns-else-difference-self c).After-min-near) in
    let small : n < 2 ^ 63 = omega (arith, c.min-near.ensures) in
    let negative : to_z w64 (of_z w64 (pos 0 -ℤ to_z w64 n)) ≡ neg_ℤ (pos n) = omega (arith, ints) in
    negative
    ∙ sym (quotient_near 1099511627776 c.args.difference rule.num rule.den n c.requires.rule.den sizes
    ∙ ap (λ s. signed s n) (other_signs c.args.difference rule.num _ _ (to_z-of_z w64 c.args.difference c.ranges.difference) (to_z-of_z w32 rule.num num)
    c.if-difference-self.false))
