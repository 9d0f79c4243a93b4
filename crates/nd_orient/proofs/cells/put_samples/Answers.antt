use Rattle.std.proofs.Common.{◌≡◌, ◌+◌, ◌-◌, ◌*◌, length, inl, inr, ap, ◌∙◌, arith}
use Rattle.nd_orient.specs.Walk.{cell}
use Rattle.nd_orient.proofs.Parts.{cell-put, cell-put_before, cell-put_behind}
use Rattle.nd_orient.proofs.cells.put_samples.Goals as goal

pub returns-clause-here : goal.returns-clause-here
returns-clause-here c = λ k h.
    let w = c.args.width in
    let n = c.args.count in
    let a = c.args.to * w in
    let out = c.args.out.now in
    let new = c.copy_from_slice.new.self in
    let size : a + length c.args.bytes.now - a ≡ n * w = omega (arith, c.requires.bytes) in
    let same : new ≡ c.args.bytes.now = c.copy_from_slice.ensures.after in
    let long : length new ≡ n * w = ap length same ∙ c.requires.bytes in
    cell-put w c.args.to n a (a + length c.args.bytes.now - a) out new (omega arith) size long c.requires.output k h ∙ ap (λ xs. cell w xs k) same

pub returns-clause-others : goal.returns-clause-others
returns-clause-others c = λ k h.
    let w = c.args.width in
    let n = c.args.count in
    let a = c.args.to * w in
    let out = c.args.out.now in
    let new = c.copy_from_slice.new.self in
    let size : a + length c.args.bytes.now - a ≡ n * w = omega (arith, c.requires.bytes) in
    let long : length new ≡ n * w = ap length c.copy_from_slice.ensures.after ∙ c.requires.bytes in
    elim h [
      | inl below ↦ cell-put_before w c.args.to n a (a + length c.args.bytes.now - a) out new (omega arith) size long c.requires.output k below
      | inr above ↦ cell-put_behind w c.args.to n a (a + length c.args.bytes.now - a) out new (omega arith) size long c.requires.output k above
    ]
