use Rattle.std.proofs.Common.{◌≡◌, inl, inr, ◌+◌, ◌-◌, ◌*◌, length, take, drop, ap, ◌∙◌, arith}
use Rattle.nd_orient.specs.Walk.{cell}
use Rattle.nd_orient.proofs.Parts.{cell-between, cell-put, cell-put_before, cell-put_behind}
use Rattle.nd_orient.proofs.reverse.copy_down.Goals as goal

pub returns-clause-copied : goal.returns-clause-copied
returns-clause-copied c = λ k h.
    let w = c.args.width in
    let n = c.args.samples in
    let at = c.args.from * w in
    let to = c.args.to * w in
    let out = c.args.out.now in
    let new = c.reverse_samples.new.out in
    let size : to + n * w - to ≡ n * w = omega arith in
    let long : length new ≡ n * w = omega (arith, c.requires.output) in
    cell-put w c.args.to n to (to + n * w - to) out new (omega arith) size long c.requires.output k h
    ∙ c.reverse_samples.ensures k h
    ∙ ap (λ m. cell w (take m (drop at c.args.input.now)) (n - 1 - k)) (let e : at + n * w - at ≡ n * w = omega arith in e)
    ∙ cell-between w c.args.from n (n - 1 - k) c.args.input.now (omega arith)

pub returns-clause-others : goal.returns-clause-others
returns-clause-others c = λ k h.
    let w = c.args.width in
    let n = c.args.samples in
    let to = c.args.to * w in
    let out = c.args.out.now in
    let new = c.reverse_samples.new.out in
    let size : to + n * w - to ≡ n * w = omega arith in
    let long : length new ≡ n * w = omega (arith, c.requires.output) in
    elim h [
      | inl below ↦ cell-put_before w c.args.to n to (to + n * w - to) out new (omega arith) size long c.requires.output k below
      | inr above ↦ cell-put_behind w c.args.to n to (to + n * w - to) out new (omega arith) size long c.requires.output k above
    ]
