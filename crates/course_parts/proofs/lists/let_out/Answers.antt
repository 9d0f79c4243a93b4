use Rattle.std.proofs.Common.{◌∙◌, sym, ap}
use Rattle.course_parts.specs.declared.node.Kept.{Kept}
use Rattle.course_parts.proofs.Due.{due-of}
use Rattle.course_parts.proofs.lists.let_out.Goals as goal

pub keep_measure-requires : goal.keep_measure-requires
keep_measure-requires c =
    let d = due-of c.args.node.now.list c.args.now c.args.sort_time c.in_ok-due.due (sym c.due.ensures.answer ∙ c.in_ok-due.was) in
    λ m is. c.requires.room d.least d.others m _ d.order d.due (ap (λ (k : Kept). k.measured) (sym d.item) ∙ is)
