use Rattle.std.proofs.Common.{rules, ◌≡◌, ◌≤◌, pos, negsuc, ◌+ℤ◌, ◌-ℤ◌, ◌*ℤ◌, FitsSigned, to_z, of_z, arith, sym, ◌∙◌, ap, subst, refl}
use Rattle.std.specs.Int.{w32, w64, int_min, int_max}
use Rattle.std.specs.Int.RustNames.{unsigned_abs, int_div}
use Rattle.std.proofs.lemmas.Int.{ints, to_z-of_z}
use Rattle.nd_orient.specs.Correction.{nearest}
use Rattle.nd_orient.proofs.Quotients.{nearest-nearest, nearest-bound, limited}
use Rattle.nd_orient.proofs.scale.Scale.corrected.Goals as goal
use Rattle.nd_orient.proofs.scale.Scale.corrected.Goals.{After-from}

-- the quotient isn't far from zero
near : (c : After-from) → unsigned_abs c.scaled.result ≤ 1099511627776
near c =
    let difference = to_z w64 (of_z w64 (to_z w64 (of_z w64 c.args.sample) -ℤ to_z w64 (of_z w64 c.args.dark))) in
    subst (λ z. unsigned_abs z ≤ 1099511627776) (sym c.scaled.ensures)
    (nearest-bound 1099511627776 (int_div (difference *ℤ c.args.self.rule.num) c.args.self.rule.den))

-- nor is the offset
offset : (c : After-from) → c.from.result ≡ c.args.self.rule.offset
offset c = let fits : FitsSigned w32 c.args.self.rule.offset = search rules in c.from.ensures ∙ to_z-of_z w32 c.args.self.rule.offset fits

pub overflow_add-value : goal.overflow_add-value
overflow_add-value c =
    let h = near c in
    let fits : FitsSigned w32 c.args.self.rule.offset = search rules in
    let o = offset c in
    omega (arith, ints)

pub returns : goal.returns
returns c =
    let from = (goal.at.returns c).After-from in
    let rule = c.args.self.rule in
    let h = near from in
    let fits : FitsSigned w32 rule.offset = search rules in
    let o = offset from in
    let z = (c.args.sample -ℤ c.args.dark) *ℤ rule.num in
    let difference : to_z w64 (of_z w64 (to_z w64 (of_z w64 c.args.sample) -ℤ to_z w64 (of_z w64 c.args.dark))) ≡ c.args.sample -ℤ c.args.dark =
    omega (arith, ints, c.requires.sample, c.requires.dark) in
    let quotient = c.scaled.ensures ∙ ap (λ x. nearest (negsuc 1099511627775) (pos 1099511627776) (int_div (x *ℤ rule.num) rule.den)) difference in
    let sum : to_z w64 (of_z w64 (to_z w64 (of_z w64 c.scaled.result) +ℤ to_z w64 (of_z w64 c.from.result))) ≡ c.scaled.result +ℤ rule.offset =
    omega (arith, ints) in
    let high : to_z w64 (of_z w64 c.args.self.high) ≡ c.args.self.high = omega (arith, ints, c.requires.high) in
    let low : to_z w64 (of_z w64 c.args.self.low) ≡ c.args.self.low = omega (arith, ints, c.requires.low) in
    let least_fits : FitsSigned w64 c.min.result = search rules in
    let most_fits : FitsSigned w64 c.max.result = search rules in
    let least = c.min.ensures.value ∙ ap (λ x. int_min x (to_z w64 (of_z w64 c.args.self.high))) sum
    ∙ ap (int_min (c.scaled.result +ℤ rule.offset)) high in
    let most = c.max.ensures.value ∙ ap (λ x. int_max x (to_z w64 (of_z w64 c.args.self.low))) (to_z-of_z w64 c.min.result least_fits)
    ∙ ap (int_max c.min.result) low in
    to_z-of_z w64 c.max.result most_fits
    ∙ limited c.args.self.low c.args.self.high (c.scaled.result +ℤ rule.offset) c.min.result c.max.result least most
    ∙ ap (λ x. nearest c.args.self.low c.args.self.high (x +ℤ rule.offset)) quotient
    ∙ nearest-nearest 1099511627776 c.args.self.low c.args.self.high rule.offset (int_div z rule.den) c.requires.low c.requires.high (omega (arith, ints)) refl
