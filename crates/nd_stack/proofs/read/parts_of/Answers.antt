use Rattle.std.proofs.Common.{◌≤◌, ◌<◌, length, sym, ◌∙◌, subst, arith}
use Rattle.std.specs.Prelude.{All}
use Rattle.std.proofs.lemmas.Bool.{leb-true}
use Rattle.nd_stack.specs.Columns.{frame_count}
use Rattle.nd_stack.specs.Sound.{HasTimes, HasAttr}
use Rattle.nd_stack.proofs.Accepted.{frames_of-IsAccepted}
use Rattle.nd_stack.proofs.Others.{times-HasTimes, attrs-HasAttr}
use Rattle.nd_stack.proofs.Widths.{width_of-most}
use Rattle.nd_stack.proofs.read.parts_of.Goals as goal

pub shape_of-requires-clause-room : goal.shape_of-requires-clause-room
shape_of-requires-clause-room c =
    let h = c.args.header.now in
    let v = c.args.var.now in
    let accepted = frames_of-IsAccepted h v c.args.kind c.requires.frames in
    rw (c.deref.ensures.value, c.in_ok-attrs.ensures) (width_of-most (length c.args.bytes.now) h (frame_count h v) c.requires.sound accepted.attrs)

pub heads-requires-clause-few : goal.heads-requires-clause-few
heads-requires-clause-few c =
    let h = c.args.header.now in
    let v = c.args.var.now in
    let accepted = frames_of-IsAccepted h v c.args.kind c.requires.frames in
    rw c.frame_count-frames.ensures (leb-true (frame_count h v) 65536 accepted.frames)

pub overflow_cast-frames : goal.overflow_cast-frames
overflow_cast-frames c =
    let h = c.args.header.now in
    let v = c.args.var.now in
    let accepted = frames_of-IsAccepted h v c.args.kind c.requires.frames in
    let few : frame_count h v ≤ 65536 = leb-true (frame_count h v) 65536 accepted.frames in
    omega (arith, few, c.frame_count-frames.ensures)

pub heads-requires-clause-times : goal.heads-requires-clause-times
heads-requires-clause-times c =
    let h = c.args.header.now in
    let v = c.args.var.now in
    let accepted = frames_of-IsAccepted h v c.args.kind c.requires.frames in
    λ k within. subst (HasTimes (length c.args.bytes.now) k) (sym c.times_of.ensures)
    (times-HasTimes (length c.args.bytes.now) h (frame_count h v) k c.requires.sound accepted.times (subst (λ n. k < n) c.frame_count-frames.ensures within))

pub heads-requires-clause-attrs : goal.heads-requires-clause-attrs
heads-requires-clause-attrs c =
    let h = c.args.header.now in
    let v = c.args.var.now in
    let accepted = frames_of-IsAccepted h v c.args.kind c.requires.frames in
    λ k within. subst (λ list. All (HasAttr (length c.args.bytes.now) k) list) (sym (c.deref-2.ensures.value ∙ c.in_ok-attrs.ensures))
    (attrs-HasAttr (length c.args.bytes.now) h (frame_count h v) k c.requires.sound accepted.attrs (subst (λ n. k < n) c.frame_count-frames.ensures within))
