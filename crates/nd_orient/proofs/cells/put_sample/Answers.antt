use Rattle.std.proofs.Common.{◌≡◌, ◌+◌, ◌-◌, ◌*◌, ◌++◌, take, drop, length, inl, inr, ap, sym, ◌∙◌, arith}
use Rattle.std.proofs.lemmas.Bool.{cases_lt}
use Rattle.std.proofs.lemmas.List.{take_all}
use Rattle.nd_orient.proofs.Bytes.{cell-others}
use Rattle.nd_orient.proofs.Parts.{cell-put_before, cell-put_behind}
use Rattle.nd_orient.proofs.cells.put_sample.Goals as goal
use Rattle.nd_orient.proofs.cells.put_sample.Goals.{After-copy_two, After-copy_four}

-- what two and four bytes leave
two : (c : After-copy_two) → c.copy_two.new.out ≡ take (c.args.to * c.args.width) c.args.out.now
    ++ (c.args.bytes.now ++ drop c.args.width (drop (c.args.to * c.args.width) c.args.out.now))
two c =
    let at = c.args.to * c.args.width in
    let out = c.args.out.now in
    let long = c.requires.bytes ∙ c.in-2.is in
    c.copy_two.ensures
    ∙ ap (λ ys. take at out ++ (ys ++ drop 2 (drop at out))) (take_all 2 c.args.bytes.now (omega arith))
    ∙ ap (λ n. take at out ++ (c.args.bytes.now ++ drop n (drop at out))) (sym c.in-2.is)

four : (c : After-copy_four) → c.copy_four.new.out ≡ take (c.args.to * c.args.width) c.args.out.now
    ++ (c.args.bytes.now ++ drop c.args.width (drop (c.args.to * c.args.width) c.args.out.now))
four c =
    let at = c.args.to * c.args.width in
    let out = c.args.out.now in
    let long = c.requires.bytes ∙ c.in-4.is in
    c.copy_four.ensures
    ∙ ap (λ ys. take at out ++ (ys ++ drop 4 (drop at out))) (take_all 4 c.args.bytes.now (omega arith))
    ∙ ap (λ n. take at out ++ (c.args.bytes.now ++ drop n (drop at out))) (sym c.in-4.is)

pub returns-in-2-clause-others : goal.returns-in-2-clause-others
returns-in-2-clause-others c =
    cell-others c.args.width c.args.to c.args.bytes.now c.args.out.now c.copy_two.new.out c.requires.bytes c.requires.output
    (two ((goal.at.returns-in-2-clause-others c).After-copy_two))

pub returns-in-4-clause-others : goal.returns-in-4-clause-others
returns-in-4-clause-others c =
    cell-others c.args.width c.args.to c.args.bytes.now c.args.out.now c.copy_four.new.out c.requires.bytes c.requires.output
    (four ((goal.at.returns-in-4-clause-others c).After-copy_four))

pub returns-in_default-clause-others : goal.returns-in_default-clause-others
returns-in_default-clause-others c = λ k h.
    let w = c.args.width in
    let a = c.args.to * w in
    let out = c.args.out.now in
    let new = c.copy_from_slice.new.self in
    let size : a + w - a ≡ 1 * w = omega arith in
    let long : length new ≡ 1 * w = omega arith in
    elim (cases_lt k c.args.to) [
      | inl below ↦ cell-put_before w c.args.to 1 a (a + w - a) out new (omega arith) size long (omega arith) k below
      | inr above ↦ cell-put_behind w c.args.to 1 a (a + w - a) out new (omega arith) size long (omega arith) k (omega arith)
    ]
