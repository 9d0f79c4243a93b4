use Rattle.std.proofs.Common.{length, sym, ap, ◌∙◌}
use Rattle.nd_base.specs.StackLaws.{length-arrays_at}
use Rattle.nd_base.proofs.stack.Stack.frames.Goals as goal

pub returns : goal.returns
returns c =
    let s = c.self.inside in
    ap length c.as_slice.ensures ∙ sym (length-arrays_at s.shape s.bytes s.first s.step s.heads) ∙ ap (λ v. length v.arrays) c.self.view_is
