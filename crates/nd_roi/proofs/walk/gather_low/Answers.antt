use Rattle.std.proofs.Common.{rules, ◌≡◌, ℕ, ◌+◌, ◌-◌, ◌*◌, ◌<◌, ◌≤◌, ◌∙◌, ap, length, get_or, replicate, reverse, ℤ, pos, arith}
use Rattle.std.proofs.Math.Nat.{mul-le-mul_right}
use Rattle.std.proofs.lemmas.List.{get_or-replicate}
use Rattle.std.specs.Int.{w32, int_wrap}
use Rattle.nd_roi.specs.Walk.{covers_from}
use Rattle.nd_roi.specs.Walk.{run, lines_total, line_total}
use Rattle.nd_roi.proofs.Gather.{low_from_zero, covers_from-forward, covers_from-reversed, bin_place, in_order, in_reverse}
use Rattle.nd_roi.proofs.walk.gather_low.Goals as goal
use Rattle.nd_roi.proofs.walk.gather_low.Goals.{After-add_low_lines}

pub add_low_lines-requires-clause-within : goal.add_low_lines-requires-clause-within
add_low_lines-requires-clause-within c =
    let n = length c.fill.new.self in
    let within : c.first_bin-first.result + n ≤ c.args.job.now.line.size = omega (arith, c.first_bin-first.ensures.within) in
    let wide = mul-le-mul_right c.args.job.now.line.bin within in
    omega (arith, wide)

-- each sum is that of the bin at its place
gathered : (c : After-add_low_lines) (k m out : ℕ) → k < length c.args.sums.now → c.first_bin-first.result + k ≡ m
    → covers_from c.args.job.now.line out ≡ c.args.job.now.line.min + m * c.args.job.now.line.bin →
    get_or c.add_low_lines.new.sums k (pos 0)
    ≡ int_wrap w32 (line_total c.args.job.now.kind c.args.input.now c.args.job.now.line (reverse c.args.job.now.slower.now) c.args.base out)
gathered c k m out h e f =
    let line = c.args.job.now.line in
    let total : ℕ → ℤ = lines_total (reverse c.args.job.now.slower.now) (run c.args.job.now.kind c.args.input.now line.bin) in
    let zeros : c.fill.new.self ≡ replicate (length c.args.sums.now) (pos 0) = c.fill.ensures.after (search rules) in
    let zero : get_or c.fill.new.self k (pos 0) ≡ pos 0 = ap (λ xs. get_or xs k (pos 0)) zeros
    ∙ get_or-replicate (length c.args.sums.now) k (pos 0) (pos 0) h in
    let at = c.args.base + line.min + c.first_bin-first.result * line.bin + k * line.bin in
    c.add_low_lines.ensures k (omega arith)
    ∙ low_from_zero (get_or c.fill.new.self k (pos 0)) (total at) zero
    ∙ ap (λ p. int_wrap w32 (total p)) (bin_place c.args.base line.min line.bin c.first_bin-first.result k m (covers_from line out) e f)

pub returns-else-line : goal.returns-else-line
returns-else-line c =
    let n = length c.args.sums.now in
    let line = c.args.job.now.line in
    in_order (λ out. int_wrap w32 (line_total c.args.job.now.kind c.args.input.now line (reverse c.args.job.now.slower.now) c.args.base out)) c.args.done n
    c.add_low_lines.new.sums (omega arith)
    (λ k h. gathered ((goal.at.returns-else-line c).After-add_low_lines) k (c.args.done + k) (c.args.done + k) h (let at =
    c.first_bin-first.ensures.forward c.if-line.false in omega (arith, at)) (covers_from-forward line (c.args.done + k) c.if-line.false))

pub returns-then-line : goal.returns-then-line
returns-then-line c =
    let n = length c.args.sums.now in
    let line = c.args.job.now.line in
    c.reverse.ensures.after
    ∙ in_reverse (λ out. int_wrap w32 (line_total c.args.job.now.kind c.args.input.now line (reverse c.args.job.now.slower.now) c.args.base out))
    c.args.done n c.add_low_lines.new.sums (omega arith)
    (λ k h. gathered ((goal.at.returns-then-line c).After-add_low_lines) (n - 1 - k) (line.size - 1 - (c.args.done + k)) (c.args.done + k) (omega arith)
    (let at = c.first_bin-first.ensures.reversed c.if-line.true in omega (arith, at)) (covers_from-reversed line (c.args.done + k) c.if-line.true))
