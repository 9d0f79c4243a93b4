use Rattle.std.proofs.Common.{◌≡◌, ◌+◌, ◌-◌, ◌*◌, ◌/◌, ◌≤◌, ◌++◌, length, take, drop, reverse, arith, ap, sym, ◌∙◌, append_assoc}
use Rattle.std.proofs.lemmas.List.{length-take-le}
use Rattle.std.proofs.lemmas.Slice.{take-put_mid}
use Rattle.std.proofs.Math.Nat.{mul-le-mul_right, div-mul-le_self}
use Rattle.nd_base.specs.Samples.{width}
use Rattle.nd_roi.specs.Walk.{line_bytes}
use Rattle.nd_roi.proofs.Copies.{copied_line}
use Rattle.nd_roi.proofs.Lines.{line_bytes-more}
use Rattle.nd_roi.proofs.walk.fill_line.Goals as goal

pub returns-then-copies-clause-written : goal.returns-then-copies-clause-written
returns-then-copies-clause-written c =
    let job = c.args.job.now in
    let input = c.args.input.now in
    let kind = job.kind in
    let at = c.args.at in
    let size = job.line.size in
    let w = c.width-width.result in
    let bin = c.copies.ensures.bin c.if-copies.true in
    let same = c.copies.ensures.kind c.if-copies.true in
    let q = c.args.base + job.line.min in
    let e : w ≡ width kind = c.width-width.ensures ∙ ap width same in
    let long : length c.copy_samples.new.out ≡ size * w = omega arith in
    let one : size * job.line.bin ≡ size * 1 = ap (λ b. size * b) bin in
    let some : q + size ≤ length input / width kind = omega (arith, one, c.requires.within) in
    let within : (q + size) * width kind ≤ length input =
    (let a = mul-le-mul_right (width kind) some in let b = div-mul-le_self (length input) (width kind) in omega (arith, a, b)) in
    take-put_mid at (at + size * w - at) c.args.out.now c.copy_samples.new.out (at + size * w) (ap (λ n. at + n) (sym long))
    (omega (arith, c.requires.room, c.width-width.ensures))
    ∙ ap (λ z. take at c.args.out.now ++ z) (
    c.copy_samples.ensures
    ∙ ap (λ n. take n (drop (q * width kind) input)) (sym c.copy_samples.auto.out ∙ long ∙ ap (λ n. size * n) e)
    ∙ sym (copied_line kind job.out_kind input job.line (reverse job.slower.now) job.scale c.args.base size (λ i. (c.type_inv.input i).fits) bin
    (c.copies.ensures.forward c.if-copies.true) (c.copies.ensures.single c.if-copies.true) (c.copies.ensures.scale c.if-copies.true) same within))

pub loop-done-preserved : goal.loop-done-preserved
loop-done-preserved c =
    let job = c.args.job.now in
    let done = c.loop-done.done in
    let count = c.min-count.result in
    let next = c.loop-done.next in
    let w = c.width-width.result in
    let part = line_bytes job.kind c.args.input.now job.line (reverse job.slower.now) job.scale job.out_kind c.args.base in
    let e : count * w ≡ count * width job.out_kind = ap (λ w. count * w) c.width-width.ensures in
    let before = mul-le-mul_right (width job.out_kind) c.loop-done.invariant.done in
    let long : length c.fill_chunk.new.out ≡ count * w = omega arith in
    let some : length (take count c.loop-done.sums) ≡ count = length-take-le count c.loop-done.sums (omega arith) in
    record {
      done = omega arith;
      next = omega (arith, e);
      written =
          take-put_mid next (next + count * w - next) c.loop-done.out c.fill_chunk.new.out (next + count * w) (ap (λ n. next + n) (sym long))
          (omega (arith, before))
          ∙ ap (λ z. take next c.loop-done.out ++ z) (c.fill_chunk.ensures ∙ ap (part done) some)
          ∙ ap (λ z. z ++ part done count) c.loop-done.invariant.written
          ∙ append_assoc (take c.args.at c.args.out.now) (part 0 done) (part done count)
          ∙ ap (λ z. take c.args.at c.args.out.now ++ z)
          (sym (line_bytes-more job.kind c.args.input.now job.line (reverse job.slower.now) job.scale job.out_kind c.args.base done count));
    }
