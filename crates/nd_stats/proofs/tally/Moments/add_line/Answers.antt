use Rattle.std.proofs.Common.{rules, ◌≡◌, ◌≤◌, ◌^◌, ◌+ℤ◌, ◌*ℤ◌, ℤ, pos, arith, ap, subst, sym, ◌∙◌, w64, FitsSigned}
use Rattle.std.specs.Int.{w128}
use Rattle.std.specs.Prelude.{unsigned_abs}
use Rattle.std.proofs.lemmas.Int.{to_z-of_z, fits_signed_from_abs}
use Rattle.nd_stats.proofs.Sums.{abs-add}
use Rattle.nd_stats.proofs.tally.Moments.add_line.Goals as goal

pub returns-clause-mx : goal.returns-clause-mx
returns-clause-mx c =
    let a : ℤ = c.args.self.now.mx in
    let w : ℤ = c.from.result in
    let d : ℤ = c.far.result in
    let fl : FitsSigned w64 c.args.line.now.weighted = search rules in
    let fs : FitsSigned w64 c.args.line.now.sum = search rules in
    let ew : w ≡ c.args.line.now.weighted = simp to_z-of_z at c.from.ensures in
    let ed : d ≡ pos c.args.x *ℤ c.args.line.now.sum = simp to_z-of_z at c.far.ensures.value in
    let low : unsigned_abs w ≤ 2 ^ 60 = subst (λ z. unsigned_abs z ≤ 2 ^ 60) (sym ew) c.requires.weighted in
    let wide : unsigned_abs d ≤ 2 ^ 73 = c.far.ensures.bound in
    let one = abs-add w d in
    let two = abs-add a (w +ℤ d) in
    let fa : FitsSigned w128 a = fits_signed_from_abs w128 a (omega (arith, c.requires.mx)) in
    let fw : FitsSigned w128 w = fits_signed_from_abs w128 w (omega (arith, low)) in
    let fd : FitsSigned w128 d = fits_signed_from_abs w128 d (omega (arith, wide)) in
    let f1 : FitsSigned w128 (w +ℤ d) = fits_signed_from_abs w128 (w +ℤ d) (omega (arith, one, low, wide)) in
    let f2 : FitsSigned w128 (a +ℤ (w +ℤ d)) = fits_signed_from_abs w128 (a +ℤ (w +ℤ d)) (omega (arith, one, two, low, wide, c.requires.mx)) in
    simp to_z-of_z (ap (λ z. a +ℤ (z +ℤ d)) ew ∙ ap (λ z. a +ℤ (c.args.line.now.weighted +ℤ z)) ed)

pub returns-clause-my : goal.returns-clause-my
returns-clause-my c =
    let a : ℤ = c.args.self.now.my in
    let d : ℤ = c.far-2.result in
    let fs : FitsSigned w64 c.args.line.now.sum = search rules in
    let ed : d ≡ pos c.args.y *ℤ c.args.line.now.sum = simp to_z-of_z at c.far-2.ensures.value in
    let wide : unsigned_abs d ≤ 2 ^ 73 = c.far-2.ensures.bound in
    let two = abs-add a d in
    let fa : FitsSigned w128 a = fits_signed_from_abs w128 a (omega (arith, c.requires.my)) in
    let fd : FitsSigned w128 d = fits_signed_from_abs w128 d (omega (arith, wide)) in
    let f2 : FitsSigned w128 (a +ℤ d) = fits_signed_from_abs w128 (a +ℤ d) (omega (arith, two, wide, c.requires.my)) in
    simp to_z-of_z (ap (λ z. a +ℤ z) ed)
