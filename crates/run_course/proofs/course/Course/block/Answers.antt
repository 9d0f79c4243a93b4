use Rattle.std.proofs.Common.{◌≡◌, ◌∷◌, ◌∙◌, ◌*◌, ◌+◌, ap, sym, length, slice_index_or, subst, [], List, ℕ}
use Rattle.board_rules.specs.RunMeasures.{run_setting, run_measure}
use Rattle.flow_journal.specs.Accounts.{block_of}
use Rattle.board_rules.specs.States.{past}
use Rattle.run_course.specs.Courses.{Coursed}
use Rattle.run_course.proofs.Coursing.{found-is}
use Rattle.run_course.proofs.course.Course.block.Goals as goal

pub returns : goal.returns
returns g c b has =
    let a = c.self.inside in
    let n = c.args.name in
    c.block_at.ensures
    ∙ (ap (λ (bs : List ℕ). slice_index_or bs (n.maker * length c.as_slice.result.now + n.index) 0) c.deref.ensures.value
    ∙ (ap (λ ids. slice_index_or a.blocks.items (n.maker * length ids + n.index) 0) c.as_slice.ensures
    ∙ found-is (run_measure g.F.Of.Run.graph g.F.Of.Run.stack) (run_setting g.F.Of.Run.graph g.F.Of.Run.stack) _ n b c.self.invariant
    (subst (λ (v : Coursed). block_of (past v.told) n ≡ b ∷ []) (sym c.self.view_is) has)))
