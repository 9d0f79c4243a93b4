use Rattle.std.proofs.Common.{◌≡◌, ◌+◌, ◌*◌, ◌/◌, ◌<◌, ◌≤◌, ap, sym, subst, ◌∙◌, arith}
use Rattle.nd_stats.proofs.Quotients.{near_quotient, is_quotient}
use Rattle.nd_stats.proofs.histogram.quotient.Goals as goal

pub returns-then-near-divisor : goal.returns-then-near-divisor
returns-then-near-divisor c =
    let n = c.args.number in
    let d = c.args.divisor.by in
    let m = c.args.divisor.times in
    let q = c.from.result * c.from-2.result / 18446744073709551616 in
    let same : n * m / 18446744073709551616 ≡ q =
    sym (ap (λ k. k * c.from-2.result / 18446744073709551616) c.from.ensures ∙ ap (λ k. n * k / 18446744073709551616) c.from-2.ensures) in
    let near = subst (λ q. (q * d ≤ n) × (n < q * d + 2 * d)) same (near_quotient n d m c.requires.some (omega (arith, c.requires.small)) c.requires.times) in
    is_quotient n d (q + 1) (omega (arith, c.if-near-divisor.true)) (omega (arith, near.1))

pub returns-else-near-divisor : goal.returns-else-near-divisor
returns-else-near-divisor c =
    let n = c.args.number in
    let d = c.args.divisor.by in
    let m = c.args.divisor.times in
    let q = c.from.result * c.from-2.result / 18446744073709551616 in
    let same : n * m / 18446744073709551616 ≡ q =
    sym (ap (λ k. k * c.from-2.result / 18446744073709551616) c.from.ensures ∙ ap (λ k. n * k / 18446744073709551616) c.from-2.ensures) in
    let near = subst (λ q. (q * d ≤ n) × (n < q * d + 2 * d)) same (near_quotient n d m c.requires.some (omega (arith, c.requires.small)) c.requires.times) in
    is_quotient n d q near.0 (omega (arith, c.if-near-divisor.false))
