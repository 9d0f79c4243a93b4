use Rattle.std.proofs.Common.{◌++◌, ◌∙◌, ap, sym, string_bytes, arith}
use Rattle.std.specs.Option.{option_copied}
use Rattle.nd_series.specs.Text.{row_text}
use Rattle.nd_series.proofs.RowsUpto.{row_more, none_past}
use Rattle.nd_series.proofs.text.series_text.Goals as goal
use Rattle.nd_series.proofs.text.series_text.Goals.{in-Some+in_ok-push_row, in_default}

pub loop-i-preserved : goal.loop-i-preserved
loop-i-preserved c = elim c.match-row.branch [
  | in-Some+in_ok-push_row w ↦
      ap string_bytes w.text-is ∙ w.in_ok-push_row.ensures
      ∙ ap (λ before. before ++ row_text w.in-Some.row.now) c.loop-i.invariant
      ∙ row_more row_text c.args.series.now.rows c.loop-i.i w.in-Some.row.now (sym c.row.ensures ∙ ap option_copied w.in-Some.is)
  | in_default w ↦ absurd (none_past c.args.series.now.rows c.loop-i.i (sym (ap option_copied w.in_default.is) ∙ c.row.ensures) (omega arith))
]
