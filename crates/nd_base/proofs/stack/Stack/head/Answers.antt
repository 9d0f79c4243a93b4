use Rattle.std.proofs.Common.{◌≡◌, ◌<◌, length, sym, ap, ◌∙◌}
use Rattle.nd_base.specs.StackLaws.{length-arrays_at, slice_get-arrays_at}
use Rattle.nd_base.proofs.stack.Stack.head.Goals as goal

pub bounds-as_slice-k : goal.bounds-as_slice-k
bounds-as_slice-k c =
    let s = c.self.inside in
    let same : length s.heads ≡ length c.args.self.now.arrays = sym (length-arrays_at s.shape s.bytes s.first s.step s.heads)
    ∙ ap (λ v. length v.arrays) c.self.view_is in
    rw (c.as_slice.ensures, same) c.requires

pub returns : goal.returns
returns c =
    let s = c.self.inside in
    let same : length s.heads ≡ length c.args.self.now.arrays = sym (length-arrays_at s.shape s.bytes s.first s.step s.heads)
    ∙ ap (λ v. length v.arrays) c.self.view_is in
    let within : c.args.k < length s.heads = rw same c.requires in
    let here = slice_get-arrays_at s.shape s.bytes s.first s.step s.heads c.args.k c.index-as_slice-k.result within in
    rw (← c.self.view_is, here, ← c.as_slice.ensures) (sym c.index-as_slice-k.is)
