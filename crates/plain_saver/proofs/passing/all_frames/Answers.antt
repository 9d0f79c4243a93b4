use Rattle.std.proofs.Common.{◌≡◌, ap, refl, ◌∙◌, arith}
use Rattle.std.specs.List.{range_with_len}
use Rattle.std.proofs.lemmas.Iterator.{items_from_collect, YieldsList-from_range}
use Rattle.std.proofs.lemmas.Result.{IfOk-at_ok}
use Rattle.plain_saver.proofs.passing.all_frames.Goals as goal

pub returns : goal.returns
returns c =
    let frames = c.frames.result in
    IfOk-at_ok (λ v. v.items ≡ range_with_len 0 frames) c.in_ok-collect.was
    (items_from_collect c.collect.result c.collect.ensures.ran (YieldsList-from_range 0 frames frames refl (omega arith)))
    ∙ ap (range_with_len 0) c.frames.ensures
