use borrow.Rule.Slice.PartMut.{put_mid}
use Rattle.std.proofs.Common.{◌≡◌, inl, inr, ℕ, ◌+◌, ◌-◌, ◌*◌, ◌≤◌, List, length, take, drop, ap, sym, ◌∙◌, arith}
use Rattle.std.specs.Simd.Lanes.{put_chunk}
use Rattle.std.proofs.lemmas.Simd.{put_chunk_whole}
use Rattle.std.proofs.lemmas.List.{length-take-le, length-drop}
use Rattle.nd_orient.specs.Walk.{cell}
use Rattle.nd_orient.proofs.Parts.{cell-between, cell-put, cell-put_before, cell-put_behind}
use Rattle.nd_orient.proofs.Reversed.{cell-reversed, reversed_by, whole}
use Rattle.nd_orient.proofs.cells.copy_reversed.Goals as goal

-- a part that is written whole
written : (at : ℕ) (out block : List ℕ) → at + 16 ≤ length out → length block ≡ 16 → put_chunk 0 (take (at + 16 - at) (drop at out)) block ≡ block
written at out block within long =
    let rest = length-drop at out in
    let n : at + 16 - at ≡ 16 = omega arith in
    put_chunk_whole (take (at + 16 - at) (drop at out)) block (length-take-le (at + 16 - at) (drop at out) (omega arith) ∙ n ∙ sym long)

pub returns-clause-copied : goal.returns-clause-copied
returns-clause-copied c = λ k h.
    let w = c.args.width in
    let n = c.args.count in
    let at = c.args.from * w in
    let to = c.args.to * w in
    let input = c.args.input.now in
    let out = c.args.out.now in
    let block = c.reversed-block.result in
    let part = take (at + 16 - at) (drop at input) in
    let sixteen : at + 16 - at ≡ n * w = omega (arith, c.requires.count) in
    let place : to + 16 - to ≡ n * w = omega (arith, c.requires.count) in
    let rest = length-drop at input in
    let long : length part ≡ at + 16 - at = length-take-le (at + 16 - at) (drop at input) (omega (arith, c.requires.input)) in
    let is = reversed_by w n part block c.requires.count c.requires.width c.reversed-block.ensures.one c.reversed-block.ensures.two
    c.reversed-block.ensures.four in
    let size = whole w n part block is in
    ap (λ xs. cell w (put_mid to (to + 16 - to) out xs) (c.args.to + k)) (written to out block c.requires.output size)
    ∙ cell-put w c.args.to n to (to + 16 - to) out block (omega arith) place (omega (arith, size, c.requires.count))
    (omega (arith, c.requires.output, c.requires.count)) k h
    ∙ cell-reversed w n part block c.requires.count (omega (arith, long)) is k h
    ∙ ap (λ m. cell w (take m (drop at input)) (n - 1 - k)) sixteen
    ∙ cell-between w c.args.from n (n - 1 - k) input (omega arith)

pub returns-clause-others : goal.returns-clause-others
returns-clause-others c = λ k h.
    let w = c.args.width in
    let n = c.args.count in
    let at = c.args.from * w in
    let to = c.args.to * w in
    let out = c.args.out.now in
    let block = c.reversed-block.result in
    let part = take (at + 16 - at) (drop at c.args.input.now) in
    let place : to + 16 - to ≡ n * w = omega (arith, c.requires.count) in
    let is = reversed_by w n part block c.requires.count c.requires.width c.reversed-block.ensures.one c.reversed-block.ensures.two
    c.reversed-block.ensures.four in
    let size = whole w n part block is in
    let long : length block ≡ n * w = omega (arith, size, c.requires.count) in
    let within : c.args.to * w + n * w ≤ length out = omega (arith, c.requires.output, c.requires.count) in
    ap (λ xs. cell w (put_mid to (to + 16 - to) out xs) k) (written to out block c.requires.output size)
    ∙ elim h [
      | inl below ↦ cell-put_before w c.args.to n to (to + 16 - to) out block (omega arith) place long within k below
      | inr above ↦ cell-put_behind w c.args.to n to (to + 16 - to) out block (omega arith) place long within k above
    ]
