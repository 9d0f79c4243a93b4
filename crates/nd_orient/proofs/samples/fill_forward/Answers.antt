use Rattle.std.proofs.Common.{◌≡◌, ℕ, ◌+◌, ◌-◌, ◌*◌, ◌<◌, ap, sym, ◌∙◌, subst, arith}
use Rattle.nd_orient.specs.Walk.{cell, line_size, IsFilled}
use Rattle.nd_orient.proofs.Lines.{place_end, forward_end, source_forward, filled_here, kept}
use Rattle.nd_orient.proofs.samples.fill_forward.Goals as goal
use Rattle.nd_orient.proofs.samples.fill_forward.Goals.{After-copy_samples}

pub copy_samples-requires-clause-input : goal.copy_samples-requires-clause-input
copy_samples-requires-clause-input c =
    let job = c.args.job.now in
    let block = c.args.block in
    let end = forward_end job.plane job.width block.left (block.right - block.left) c.args.y (omega arith) (omega (arith, c.requires.right)) c.requires.y
    c.requires.straight c.requires.forward in
    rw (c.source-from.ensures.value, c.requires.input) end

pub copy_samples-requires-clause-output : goal.copy_samples-requires-clause-output
copy_samples-requires-clause-output c =
    let job = c.args.job.now in
    let block = c.args.block in
    let end = place_end job.plane job.width block.left (block.right - block.left) c.args.y (omega arith) (omega (arith, c.requires.right)) c.requires.y in
    rw (c.line_size.ensures, c.requires.output) end

-- each of the samples is the one that its place reads
here : (c : After-copy_samples) (j : ℕ) → j < c.args.block.right - c.args.block.left → IsFilled c.args.job.now.width c.args.job.now.plane
    c.args.job.now.input.now c.copy_samples.new.out (c.args.y * line_size c.args.job.now.plane + c.args.block.left + j)
here c j h =
    let job = c.args.job.now in
    let p = job.plane in
    let left = c.args.block.left in
    let x : left + j < line_size p = omega (arith, c.requires.right) in
    subst (λ k. IsFilled job.width p job.input.now c.copy_samples.new.out k)
    (let e : c.args.y * line_size p + (left + j) ≡ c.args.y * line_size p + left + j = omega arith in e)
    (filled_here job.width p job.input.now c.copy_samples.new.out (left + j) c.args.y x
    (ap (cell job.width c.copy_samples.new.out) (let e : c.args.y * line_size p + (left + j) ≡ c.args.y * line_size p + left + j = omega arith in e)
    ∙ ap (λ n. cell job.width c.copy_samples.new.out (c.args.y * n + left + j)) (sym c.line_size.ensures)
    ∙ c.copy_samples.ensures.copied j h
    ∙ ap (λ n. cell job.width job.input.now (n + j)) c.source-from.ensures.value
    ∙ ap (cell job.width job.input.now) (source_forward p left c.args.y j c.requires.straight c.requires.forward)))

pub returns-then-block-clause-line : goal.returns-then-block-clause-line
returns-then-block-clause-line c = λ x low high.
    let job = c.args.job.now in
    let left = c.args.block.left in
    subst (λ k. IsFilled job.width job.plane job.input.now c.copy_samples.new.out k)
    (let e : c.args.y * line_size job.plane + left + (x - left) ≡ c.args.y * line_size job.plane + x = omega arith in e)
    (here ((goal.at.returns-then-block-clause-line c).After-copy_samples) (x - left) (omega arith))

pub returns-then-block-clause-keeps : goal.returns-then-block-clause-keeps
returns-then-block-clause-keeps c =
    let job = c.args.job.now in
    kept job.width job.plane job.input.now c.args.out.now c.copy_samples.new.out (c.args.y * line_size job.plane + c.args.block.left)
    (c.args.block.right - c.args.block.left) (here ((goal.at.returns-then-block-clause-keeps c).After-copy_samples))
    (rw (← c.line_size.ensures) c.copy_samples.ensures.others)
