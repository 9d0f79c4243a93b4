use Rattle.std.proofs.Common.{rules, ◌∙◌, ◌/◌, ap, sym, arith, ℤ, ℕ, length, w64, FitsSigned, to_z, of_z}
use Rattle.std.specs.Prelude.{if◌then◌else◌}
use Rattle.nd_series.specs.Lines.{ends_sum, ends_count}
use Rattle.std.proofs.lemmas.Int.{to_z-of_z}
use Rattle.nd_base.specs.Samples.{width, numbers}
use Rattle.nd_base.specs.SampleLaws.{length-numbers}
use Rattle.lane_kernels.specs.Plain.{total}
use Rattle.nd_series.proofs.LineNumbers.{line_is}
use Rattle.nd_series.proofs.line.part_of_line.Goals as goal
use Rattle.nd_series.proofs.line.part_of_line.Goals.{then-at_edge, else-at_edge}

pub returns : goal.returns
returns c = λ s spans k long edge.
    let kind = c.args.kind in
    let n : ℕ = length c.args.line.now / width kind in
    let vs = numbers kind n c.args.line.now in
    let count = length-numbers kind n c.args.line.now in
    let f0 : FitsSigned w64 c.in-Some.field-0.min = search rules in
    let f1 : FitsSigned w64 c.in-Some.field-0.max = search rules in
    let f2 : FitsSigned w64 c.sum_bytes-total.result = search rules in
    line_is s spans k vs c.args.at_edge _ c.in-Some.field-0 (omega (arith, count, c.requires.some)) (long ∙ sym count) edge c.in-Some.ensures
    (to_z-of_z w64 c.in-Some.field-0.min f0) (to_z-of_z w64 c.in-Some.field-0.max f1)
    (to_z-of_z w64 c.sum_bytes-total.result f2 ∙ c.sum_bytes-total.ensures)
    (elim c.if-at_edge.branch [
      | then-at_edge w ↦ ap (λ (t : ℤ × ℕ). to_z w64 (of_z w64 t.0)) w.border-is ∙ ap (λ z. to_z w64 (of_z w64 z)) (to_z-of_z w64 c.sum_bytes-total.result f2)
          ∙ to_z-of_z w64 c.sum_bytes-total.result f2 ∙ c.sum_bytes-total.ensures ∙ ap (λ b. if b then total vs else ends_sum vs) (sym w.if-at_edge.true)
      | else-at_edge w ↦ (let f : FitsSigned w64 w.ends.result.0 = search rules in
          ap (λ (t : ℤ × ℕ). to_z w64 (of_z w64 t.0)) w.border-is ∙ to_z-of_z w64 w.ends.result.0 f ∙ w.ends.ensures.sum
          ∙ ap (λ b. if b then total vs else ends_sum vs) (sym w.if-at_edge.false))
    ])
    (elim c.if-at_edge.branch [
      | then-at_edge w ↦ ap (λ (t : ℤ × ℕ). t.1) w.border-is ∙ ap (λ w. length c.args.line.now / w) w.width.ensures ∙ sym count
          ∙ ap (λ b. if b then length vs else ends_count vs) (sym w.if-at_edge.true)
      | else-at_edge w ↦ ap (λ (t : ℤ × ℕ). t.1) w.border-is ∙ w.ends.ensures.count ∙ ap (λ b. if b then length vs else ends_count vs) (sym w.if-at_edge.false)
    ])
