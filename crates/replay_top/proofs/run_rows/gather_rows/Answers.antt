use Rattle.std.proofs.Common.{rules, ◌≡◌, ◌≤◌, ◌++◌, ◌∙◌, inl, inr, ap, sym, arith, length, take, vec_len}
use Rattle.std.specs.List.{flat_map}
use Rattle.std.proofs.lemmas.Bool.{cases_lt}
use Rattle.nd_stats.specs.Row.{row}
use Rattle.replay_top.proofs.MeasureRows.{rows-more, rows-whole}
use Rattle.replay_top.proofs.run_rows.gather_rows.Goals as goal

pub loop-count-init : goal.loop-count-init
loop-count-init c = c.clear.ensures.items

pub returns-then-len-ge-ENOUGH-clause-some : goal.returns-then-len-ge-ENOUGH-clause-some
returns-then-len-ge-ENOUGH-clause-some c =
    let ms = c.args.measures.now in
    let k = c.loop-count.count in
    elim (cases_lt 0 k) [
      | inl some ↦ some
      | inr none ↦
          let first : k ≡ 0 = omega (arith, none) in
          let long : vec_len c.loop-count.rows ≡ length c.loop-count.rows.items = search rules in
          let empty : length (flat_map row (take k ms)) ≡ 0 = ap (λ j. length (flat_map row (take j ms))) first in
          absurd (omega (arith, c.if-len-ge-ENOUGH.true, c.len.ensures, long, ap length c.loop-count.invariant, empty))
    ]

pub returns-then-len-ge-ENOUGH-clause-rows : goal.returns-then-len-ge-ENOUGH-clause-rows
returns-then-len-ge-ENOUGH-clause-rows c = c.loop-count.invariant

pub loop-count-preserved : goal.loop-count-preserved
loop-count-preserved c =
    let ms = c.args.measures.now in
    let k = c.loop-count.count in
    let text = c.as_bytes.ensures.value ∙ (c.in_ok-row.ensures ∙ ap row c.index-measures-count.is) in
    c.in_ok-extend_from_slice.ensures.items ∙ (ap (λ b. b ++ c.as_bytes.result.now) c.loop-count.invariant
    ∙ (ap (λ b. flat_map row (take k ms) ++ b) text ∙ sym (rows-more ms k c.index-measures-count.result c.loop-count-test.true)))

pub returns-clause-rows : goal.returns-clause-rows
returns-clause-rows c =
    let ms = c.args.measures.now in
    c.loop-count.invariant ∙ (rows-whole ms c.loop-count.count c.loop-count-test.false
    ∙ sym (rows-whole ms (length ms) (let e : length ms ≤ length ms = omega arith in e)))
