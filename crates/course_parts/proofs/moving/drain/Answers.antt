use Rattle.std.proofs.Common.{◌∙◌, ◌<◌, ap, sym, length, length-append, arith}
use Rattle.std.proofs.lemmas.Option.{slice_get_within}
use Rattle.nd_base.specs.declared.frame.FrameName.{FrameName}
use Rattle.course_parts.proofs.moving.drain.Goals as goal

pub push_back_reserved-requires : goal.push_back_reserved-requires
push_back_reserved-requires c =
    let w = c.loop-name.window in
    let some : 0 < length w.pending = slice_get_within w.pending 0 c.in-Some.name (sym c.ring_next.ensures.value ∙ c.in-Some.is) in
    let whole = ap (length {A = FrameName}) c.loop-name.invariant.1 in
    omega (
      arith,
      some,
      whole,
      c.requires,
      c.loop-name.invariant.2,
      length-append c.loop-name.transit.items w.pending,
      length-append c.args.transit.now.items c.args.window.now.pending,
    )
