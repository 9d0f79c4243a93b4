use Rattle.std.proofs.Common.{◌≡◌, ◌+◌, ◌-◌, ◌*◌, take, drop, ap, ◌∙◌, arith}
use Rattle.nd_orient.specs.Walk.{cell}
use Rattle.nd_orient.proofs.Parts.{cell-between}
use Rattle.nd_orient.proofs.cells.copy_samples.Goals as goal

pub returns-clause-copied : goal.returns-clause-copied
returns-clause-copied c = λ k h.
    let w = c.args.width in
    let n = c.args.count in
    let at = c.args.from * w in
    c.put_samples.ensures.here k h
    ∙ ap (λ m. cell w (take m (drop at c.args.input.now)) k) (let e : at + n * w - at ≡ n * w = omega arith in e)
    ∙ cell-between w c.args.from n k c.args.input.now h
