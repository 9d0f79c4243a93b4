use Rattle.std.proofs.Common.{rules, ◌≡◌, ℕ, List, ◌+◌, ◌-◌, ◌*◌, ◌≤◌, ◌++◌, [], ◌∷◌, length, take, reverse, sum_by, arith, ap, sym, ◌∙◌, append_assoc}
use Rattle.std.proofs.lemmas.List.{reverse-append}
use Rattle.std.proofs.lemmas.List.Sums.{sum_by-append}
use Rattle.std.proofs.Math.Nat.{mul-le-mul_right, suc-mul}
use Rattle.nd_base.specs.Samples.{width}
use Rattle.nd_roi.specs.Walk.{covers_from}
use Rattle.nd_roi.specs.Walk.{line_bytes, lines, for_lines, first_reach, concat_below}
use Rattle.nd_roi.proofs.Lines.{covers_from-most, concat_below-more}
use Rattle.nd_roi.proofs.Sums.{samples_most}
use Rattle.nd_roi.proofs.walk.+fill_lines.Goals as goal
use Rattle.nd_roi.proofs.walk.+fill_lines.Goals.{After-first_covered}

-- the axis reaches no further than its last group
reaches : (t : ℕ) (c : After-first_covered t)
    → c.first_covered.result * c.in-Some.axis.now.stride + sum_by first_reach c.in-Some.faster.now ≤ sum_by first_reach c.args.slower.now
reaches t c =
    let axis = c.in-Some.axis.now in
    let e = ap (sum_by first_reach) c.in-Some.ensures.cases.0 ∙ sum_by-append first_reach c.in-Some.faster.now (axis ∷ []) in
    let most = covers_from-most axis.cut c.loop-index.index (omega arith) in
    let low : c.first_covered.result ≤ axis.cut.min + (axis.cut.size - 1) * axis.cut.bin = omega (arith, most, c.first_covered.ensures) in
    let reach = mul-le-mul_right axis.stride low in
    omega (arith, e, reach)

reversed : (t : ℕ) (c : After-first_covered t) → reverse c.args.slower.now ≡ c.in-Some.axis.now ∷ reverse c.in-Some.faster.now
reversed t c = ap reverse c.in-Some.ensures.cases.0 ∙ reverse-append c.in-Some.faster.now (c.in-Some.axis.now ∷ [])

pub overflow_mul-from : goal.overflow_mul-from
overflow_mul-from t c =
    let h = reaches t ((goal.at.overflow_mul-from t c).After-first_covered) in
    let most = samples_most c.args.job.now.kind (length c.args.input.now) in
    let small : c.first_covered.result * c.in-Some.axis.now.stride ≤ length c.args.input.now = omega (arith, h, most) in
    search (rules, small)

pub overflow_add-from : goal.overflow_add-from
overflow_add-from t c =
    let h = reaches t ((goal.at.overflow_add-from t c).After-first_covered) in
    let most = samples_most c.args.job.now.kind (length c.args.input.now) in
    let small : c.args.base + c.first_covered.result * c.in-Some.axis.now.stride ≤ length c.args.input.now = omega (arith, h, most) in
    search (rules, small)

pub fill_lines-next-requires : goal.fill_lines-next-requires
fill_lines-next-requires t c =
    let h = reaches t ((goal.at.fill_lines-next-requires t c).After-first_covered) in
    let bytes = for_lines (reverse c.in-Some.faster.now) (c.args.job.now.line.size * width c.args.job.now.out_kind) in
    let whole = ap (λ axes. for_lines axes (c.args.job.now.line.size * width c.args.job.now.out_kind))
    (reversed t ((goal.at.fill_lines-next-requires t c).After-first_covered)) in
    let wide = mul-le-mul_right bytes c.loop-index-test.true in
    let step = suc-mul c.loop-index.index bytes in
    (search rules, (omega arith, (omega (arith, whole, wide, step, c.loop-index.invariant.next), (omega (arith, h), (c.requires.few, c.requires.scale)))))

pub loop-index-preserved : goal.loop-index-preserved
loop-index-preserved t c =
    let job = c.args.job.now in
    let line : ℕ → List ℕ = λ at. line_bytes job.kind c.args.input.now job.line (reverse job.slower.now) job.scale job.out_kind at 0 job.line.size in
    let axis = c.in-Some.axis.now in
    let list : ℕ → List ℕ = λ index. lines (reverse c.in-Some.faster.now) line (c.args.base + covers_from axis.cut index * axis.stride) in
    let step = suc-mul c.loop-index.index (for_lines (reverse c.in-Some.faster.now) (job.line.size * width job.out_kind)) in
    record {
      next = omega (arith, step, c.fill_lines-next.ensures.next, c.loop-index.invariant.next);
      written =
          c.fill_lines-next.ensures.written
          ∙ ap (λ z. z ++ lines (reverse c.in-Some.faster.now) line (c.args.base + c.first_covered.result * axis.stride)) c.loop-index.invariant.written
          ∙ ap (λ from. take c.args.at c.args.out.now ++ concat_below c.loop-index.index list
          ++ lines (reverse c.in-Some.faster.now) line (c.args.base + from * axis.stride)) c.first_covered.ensures
          ∙ append_assoc (take c.args.at c.args.out.now) (concat_below c.loop-index.index list) (list c.loop-index.index)
          ∙ ap (λ z. take c.args.at c.args.out.now ++ z) (sym (concat_below-more c.loop-index.index list));
    }
