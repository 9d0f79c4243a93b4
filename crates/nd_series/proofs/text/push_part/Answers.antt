use Rattle.std.proofs.Common.{rules, ◌∙◌, w64, append_assoc}
use Rattle.std.proofs.lemmas.Int.{to_z-of_z}
use Rattle.std.proofs.lemmas.Result.{on_ok_weaker}
use Rattle.nd_series.proofs.text.push_part.Goals as goal

pub returns : goal.returns
returns c =
    let p = c.args.part.now in
    let min = to_z-of_z w64 p.min (search rules) in
    let max = to_z-of_z w64 p.max (search rules) in
    let total = to_z-of_z w64 p.total (search rules) in
    let border = to_z-of_z w64 p.border (search rules) in
    on_ok_weaker c.write.result (λ h. h ∙ rw (min, max, total, border) (simp append_assoc)) c.write.ensures.bytes
