use Rattle.std.proofs.Common.{◌≡◌, ◌≢◌, ℕ, ◌+◌, ◌*◌, ◌<◌, inl, inr, ap, sym, ◌∙◌, subst, arith}
use Rattle.std.proofs.lemmas.Bool.{cases_lt, cases_eq}
use Rattle.nd_orient.specs.Walk.{cell, line_size, IsFilled}
use Rattle.nd_orient.proofs.Parts.{cell_end}
use Rattle.nd_orient.proofs.Lines.{place_below, filled_here}
use Rattle.nd_orient.proofs.samples.fill_each.Goals as goal
use Rattle.nd_orient.proofs.samples.fill_each.Goals.{After-source-from, After-copy_sample}

-- the place lies in the plane
below : (c : After-source-from) → c.args.y * c.line_size.result + c.loop-x.x < c.args.job.now.plane.columns * c.args.job.now.plane.rows
below c =
    let x : c.loop-x.x < line_size c.args.job.now.plane = omega (arith, c.requires.right) in
    rw c.line_size.ensures (place_below c.args.job.now.plane c.loop-x.x c.args.y x c.requires.y)

pub overflow_add-start : goal.overflow_add-start
overflow_add-start c = let h = below ((goal.at.overflow_add-start c).After-source-from) in omega (arith, h, c.requires.few)

pub copy_sample-requires-clause-input : goal.copy_sample-requires-clause-input
copy_sample-requires-clause-input c =
    let job = c.args.job.now in
    let end = cell_end c.source-from.result (job.plane.columns * job.plane.rows) job.width c.source-from.ensures.within in
    omega (arith, end, c.requires.input)

pub copy_sample-requires-clause-output : goal.copy_sample-requires-clause-output
copy_sample-requires-clause-output c =
    let job = c.args.job.now in
    let h = below ((goal.at.copy_sample-requires-clause-output c).After-source-from) in
    let end = cell_end (c.args.y * c.line_size.result + c.loop-x.x) (job.plane.columns * job.plane.rows) job.width h in
    omega (arith, end, c.requires.output)

-- the sample that is copied is the one that the place reads
here : (c : After-copy_sample) → IsFilled c.args.job.now.width c.args.job.now.plane c.args.job.now.input.now c.copy_sample.new.out
    (c.args.y * line_size c.args.job.now.plane + c.loop-x.x)
here c =
    let job = c.args.job.now in
    let x : c.loop-x.x < line_size job.plane = omega (arith, c.requires.right) in
    filled_here job.width job.plane job.input.now c.copy_sample.new.out c.loop-x.x c.args.y x
    (ap (λ n. cell job.width c.copy_sample.new.out (c.args.y * n + c.loop-x.x)) (sym c.line_size.ensures)
    ∙ c.copy_sample.ensures.copied ∙ ap (cell job.width job.input.now) c.source-from.ensures.value)

-- what was filled stays so
stays : (c : After-copy_sample) (k : ℕ) → IsFilled c.args.job.now.width c.args.job.now.plane c.args.job.now.input.now c.loop-x.out k
    → IsFilled c.args.job.now.width c.args.job.now.plane c.args.job.now.input.now c.copy_sample.new.out k
stays c k h =
    let job = c.args.job.now in
    let at = c.args.y * line_size job.plane + c.loop-x.x in
    elim (cases_eq k at) [
      | inl same ↦ subst (λ n. IsFilled job.width job.plane job.input.now c.copy_sample.new.out n) (sym same) (here c)
      | inr apart ↦
          let other : k ≢ c.args.y * c.line_size.result + c.loop-x.x = rw c.line_size.ensures apart in
          c.copy_sample.ensures.others k other ∙ h
    ]

pub loop-x-preserved : goal.loop-x-preserved
loop-x-preserved c =
    let after = (goal.at.loop-x-preserved c).After-copy_sample in
    record {
      line = λ x low high. elim (cases_lt x c.loop-x.x) [
        | inl before ↦ stays after _ (c.loop-x.invariant.line x low before)
        | inr last ↦
            let job = c.args.job.now in
            let same : c.loop-x.x ≡ x = omega arith in
            subst (λ n. IsFilled job.width job.plane job.input.now c.copy_sample.new.out (c.args.y * line_size job.plane + n)) same (here after)
      ];
      keeps = λ k h. stays after k (c.loop-x.invariant.keeps k h);
    }
