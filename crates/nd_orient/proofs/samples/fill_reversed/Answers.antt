use Rattle.std.proofs.Common.{◌≡◌, ℕ, ◌+◌, ◌-◌, ◌*◌, ◌<◌, refl, ap, sym, ◌∙◌, subst, arith}
use Rattle.nd_orient.specs.Walk.{cell, line_size, source, IsFilled}
use Rattle.nd_orient.proofs.Lines.{place_end, place_below, reversed_end, source_reversed, filled_here, kept}
use Rattle.nd_orient.proofs.samples.fill_reversed.Goals as goal
use Rattle.nd_orient.proofs.samples.fill_reversed.Goals.{After-copy_down}

pub copy_down-requires-clause-few : goal.copy_down-requires-clause-few
copy_down-requires-clause-few c =
    let last = place_below c.args.job.now.plane (c.args.block.right - 1) c.args.y (omega (arith, c.requires.right)) c.requires.y in
    omega (arith, last, c.requires.few)

pub copy_down-requires-clause-input : goal.copy_down-requires-clause-input
copy_down-requires-clause-input c =
    let job = c.args.job.now in
    let block = c.args.block in
    let end = reversed_end job.plane job.width block.left (block.right - block.left) c.args.y (omega arith) (omega (arith, c.requires.right)) c.requires.y
    c.requires.straight c.requires.down in
    let last : block.left + (block.right - block.left) - 1 ≡ block.right - 1 = omega arith in
    let from = ap (λ m. m * job.width) (c.source-from.ensures.value ∙ ap (λ v. source job.plane v c.args.y) (sym last)) in
    omega (arith, end, from, c.requires.input)

pub copy_down-requires-clause-output : goal.copy_down-requires-clause-output
copy_down-requires-clause-output c =
    let job = c.args.job.now in
    let block = c.args.block in
    let end = place_end job.plane job.width block.left (block.right - block.left) c.args.y (omega arith) (omega (arith, c.requires.right)) c.requires.y in
    rw (c.line_size.ensures, c.requires.output) end

-- each of the samples is the one that its place reads
here : (c : After-copy_down) (j : ℕ) → j < c.args.block.right - c.args.block.left → IsFilled c.args.job.now.width c.args.job.now.plane
    c.args.job.now.input.now c.copy_down.new.out (c.args.y * line_size c.args.job.now.plane + c.args.block.left + j)
here c j h =
    let job = c.args.job.now in
    let p = job.plane in
    let left = c.args.block.left in
    let n = c.args.block.right - left in
    let x : left + j < line_size p = omega (arith, c.requires.right) in
    let line : line_size p ≡ p.columns = rw c.requires.straight refl in
    let place : c.args.y * line_size p + (left + j) ≡ c.args.y * line_size p + left + j = omega arith in
    let last : c.args.block.right - 1 ≡ left + j + (n - 1 - j) = omega arith in
    subst (λ k. IsFilled job.width p job.input.now c.copy_down.new.out k) place
    (filled_here job.width p job.input.now c.copy_down.new.out (left + j) c.args.y x
    (ap (cell job.width c.copy_down.new.out) place
    ∙ ap (λ m. cell job.width c.copy_down.new.out (c.args.y * m + left + j)) (sym c.line_size.ensures)
    ∙ c.copy_down.ensures.copied j h
    ∙ ap (λ m. cell job.width job.input.now (m + (n - 1 - j))) (c.source-from.ensures.value ∙ ap (λ v. source p v c.args.y) last)
    ∙ ap (cell job.width job.input.now)
    (source_reversed p (left + j) c.args.y (n - 1 - j) c.requires.straight c.requires.down (omega (arith, line, c.requires.right)))))

pub returns-then-block-clause-line : goal.returns-then-block-clause-line
returns-then-block-clause-line c = λ x low high.
    let job = c.args.job.now in
    let left = c.args.block.left in
    subst (λ k. IsFilled job.width job.plane job.input.now c.copy_down.new.out k)
    (let e : c.args.y * line_size job.plane + left + (x - left) ≡ c.args.y * line_size job.plane + x = omega arith in e)
    (here ((goal.at.returns-then-block-clause-line c).After-copy_down) (x - left) (omega arith))

pub returns-then-block-clause-keeps : goal.returns-then-block-clause-keeps
returns-then-block-clause-keeps c =
    let job = c.args.job.now in
    kept job.width job.plane job.input.now c.args.out.now c.copy_down.new.out (c.args.y * line_size job.plane + c.args.block.left)
    (c.args.block.right - c.args.block.left) (here ((goal.at.returns-then-block-clause-keeps c).After-copy_down))
    (rw (← c.line_size.ensures) c.copy_down.ensures.others)
