use Rattle.std.proofs.Common.{◌≡◌, Some, ap, sym, ◌∙◌, rules, subst}
use Rattle.std.specs.Prelude.{slice_get, IfSome}
use Rattle.nd_base.specs.Samples.{samples_of}
use Rattle.nd_base.specs.Shapes.{array_of}
use Rattle.nd_base.specs.Rebuilt.{frame-rebuilt}
use Rattle.nd_base.proofs.stack.Stack.array.Goals as goal

pub returns : goal.returns
returns c =
    let s = c.args.self.now in
    let bytes = c.in_ok-samples.samples.items in
    let same = c.shape-shape.ensures.value in
    let head : c.in_ok-head.head ≡ c.head.result.now = c.in_ok-head.ensures in
    let dims : c.in_ok-dims.dims.items ≡ s.shape.dims = search rules in
    let value : c.in-Ok.array ≡ array_of c.in_ok-head.head c.shape-shape.result.now.kind c.in_ok-dims.dims.items bytes = c.in-Ok.ensures.value in
    let copied : bytes ≡ c.frame.result.now = c.in_ok-samples.ensures.items_if_clones_equal (λ x y e. e) in
    let samples = subst (λ b. IfSome (slice_get s.arrays c.args.k) (λ a. samples_of s.shape.kind b ≡ a.samples)) (sym copied) c.frame.ensures.samples in
    let frame = frame-rebuilt s.arrays s.shape c.args.k c.head.result.now bytes c.requires c.shape-shape.ensures.sound.frames c.head.ensures samples in
    frame ∙ ap Some (sym (value ∙ ap (λ h. array_of h c.shape-shape.result.now.kind c.in_ok-dims.dims.items bytes) head
    ∙ ap (λ k. array_of c.head.result.now k c.in_ok-dims.dims.items bytes) (ap (λ shape. shape.kind) same)
    ∙ ap (λ d. array_of c.head.result.now s.shape.kind d bytes) dims))
