use Rattle.std.proofs.Common.{arith, ◌≡◌, ◌+◌, List, sym, subst, ◌∙◌, Ok, Err}
use Rattle.std.proofs.lemmas.Result.{err_from_is_err_and}
use Rattle.flow_journal.specs.declared.entry.Entry.{Entry}
use Rattle.board_rules.specs.States.{past}
use Rattle.board_rules.specs.RunMeasures.{run_setting}
use Rattle.journal_check.specs.declared.fault.CheckFault.TheVariants as faults
use Rattle.journal_check.specs.Verdicts.{Checks}
use Rattle.journal_check.proofs.Runs.{step-on, goes-on, bad-here, bad-few, ends-within, ends-finished, ends-unfinished}
use Rattle.journal_check.proofs.check.check_run.Goals as goal

pub returns-in_err-count : goal.returns-in_err-count
returns-in_err-count g c = λ ne. (
    let p = err_from_is_err_and c.from_residual-in_err-count.result c.from_residual-in_err-count.ensures.1 in
    let is = p.1 in
    let why : p.0 ≡ faults.OutOfMemory = p.2 in
    let all : c.from_residual-in_err-count.result ≡ Err faults.OutOfMemory = cc in
    absurd (ne all))

pub loop-at-preserved : goal.loop-at-preserved
loop-at-preserved g c =
    let s = run_setting g.R.Run.graph g.R.Run.stack in
    let es = c.entries-entries.result.now in
    let P = past c.loop-at.course.told in
    let Q = past c.next_step.new.course.told in (
      c.in_ok-count.ensures.still,
      goes-on s es c.loop-at.at c.in-Made.count P Q c.loop-at.invariant.1
          (step-on s es c.loop-at.at P Q _ _ c.in-Made.is c.in_ok-count.ensures.step),
    )

pub overflow_cast-result : goal.overflow_cast-result
overflow_cast-result g c =
    let s = run_setting g.R.Run.graph g.R.Run.stack in
    let es = c.entries-entries.result.now in
    let P = past c.loop-at.course.told in
    let Q = past c.next_step.new.course.told in
    let few = bad-few g.R.Run.graph g.R.Run.stack es c.loop-at.at c.in-Bad.place P Q c.requires.graph c.requires.sound c.loop-at.invariant.1
    (step-on s es c.loop-at.at P Q _ _ c.in-Bad.is c.in_ok-count.ensures.step) in
    omega (arith, few)

pub returns-in-Bad : goal.returns-in-Bad
returns-in-Bad g c =
    let s = run_setting g.R.Run.graph g.R.Run.stack in
    let es = c.entries-entries.result.now in
    let P = past c.loop-at.course.told in
    let Q = past c.next_step.new.course.told in
    λ ne. subst (λ (xs : List Entry). Checks s xs (Err (faults.Entry (c.loop-at.at + c.in-Bad.place + 1)))) c.entries-entries.ensures
    (bad-here s es c.loop-at.at c.in-Bad.place P Q c.loop-at.invariant.1
    (step-on s es c.loop-at.at P Q _ _ c.in-Bad.is c.in_ok-count.ensures.step))

pub returns-in-Ends : goal.returns-in-Ends
returns-in-Ends g c =
    let s = run_setting g.R.Run.graph g.R.Run.stack in
    let es = c.entries-entries.result.now in
    let P = past c.loop-at.course.told in
    let Q = past c.next_step.new.course.told in
    λ ne. subst (λ (xs : List Entry). Checks s xs (Err faults.Unfinished)) c.entries-entries.ensures
    (ends-within s es c.loop-at.at P Q c.loop-at.invariant.1
    (step-on s es c.loop-at.at P Q _ _ c.in-Ends.is c.in_ok-count.ensures.step))

pub returns-then-finished : goal.returns-then-finished
returns-then-finished g c =
    let s = run_setting g.R.Run.graph g.R.Run.stack in
    λ ne. subst (λ (xs : List Entry). Checks s xs (Ok tt)) c.entries-entries.ensures
    (ends-finished s c.entries-entries.result.now c.loop-at.at (past c.loop-at.course.told) c.loop-at.invariant.1 c.loop-at-test.false
    (sym c.finished.ensures ∙ c.if-finished.true))

pub returns : goal.returns
returns g c =
    let s = run_setting g.R.Run.graph g.R.Run.stack in
    λ ne. subst (λ (xs : List Entry). Checks s xs (Err faults.Unfinished)) c.entries-entries.ensures
    (ends-unfinished s c.entries-entries.result.now c.loop-at.at (past c.loop-at.course.told) c.loop-at.invariant.1 c.loop-at-test.false
    (sym c.finished.ensures ∙ c.if-finished.false))
