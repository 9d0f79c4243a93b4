use Rattle.std.proofs.Common.{◌≡◌, true, false, sym, subst, ◌∙◌}
use Rattle.nd_base.specs.declared.frame.FrameName.{FrameName}
use Rattle.board_rules.specs.States.{past}
use Rattle.board_rules.specs.RunMeasures.{run_setting}
use Rattle.flow_journal.specs.Pasts.{same}
use Rattle.journal_check.specs.Tries.{IsJobFor}
use Rattle.journal_check.proofs.Jobs.{result_nowhere, no-job, one-job}
use Rattle.journal_check.proofs.Refusals.{no_result}
use Rattle.journal_check.proofs.puts.job_for.Goals.{then-not-is_role-via-then-not-is_role, then-not-is_role-via-else-not-is_role+then-not-is_node}
use Rattle.journal_check.proofs.puts.job_for.Goals.{else-at-put-via-then-at-put+else-eq, else-at-put-via-else-at-put}
use Rattle.journal_check.proofs.puts.job_for.Goals as goal

pub returns-then-not-is_role-clause-none : goal.returns-then-not-is_role-clause-none
returns-then-not-is_role-clause-none g c =
    let s = run_setting g.R.Run.graph g.R.Run.stack in
    let P = past c.args.course.now.told in
    λ e. elim c.then-not-is_role.branch [
      | then-not-is_role-via-then-not-is_role w ↦
          no_result s c.args.put.role c.args.put.node c.args.put.name P c.requires.history (sym c.is_role.ensures ∙ w.if-not-is_role.true)
      | then-not-is_role-via-else-not-is_role+then-not-is_node w ↦
          result_nowhere s c.args.put.role c.args.put.node c.args.put.name P c.requires.history (sym w.is_node.ensures ∙ w.if-not-is_node.true)
    ]

pub returns-then-eq-clause-some : goal.returns-then-eq-clause-some
returns-then-eq-clause-some g c =
    let s = run_setting g.R.Run.graph g.R.Run.stack in
    let P = past c.args.course.now.told in
    let job : IsJobFor s c.args.put.role c.args.put.node c.args.put.name c.in-Job.name P =
    one-job s c.args.put.role c.args.put.node c.in-Job.at c.args.put.name c.in-Job.name c.in-Job.block P c.requires.history
    (sym c.is_role.ensures ∙ c.if-not-is_role.false) (sym c.is_node.ensures ∙ c.if-not-is_node.false)
    (sym c.hand.ensures ∙ c.in-Job.is) c.if-at-put.true
    (subst (λ (a : FrameName). same a c.args.put.name ≡ true) c.result_name.ensures (sym c.eq.ensures ∙ c.if-eq.true)) in
    λ name e. (let is : c.in-Job.name ≡ name = cc in subst (λ (a : FrameName). IsJobFor s c.args.put.role c.args.put.node c.args.put.name a P) is job)

pub returns-else-at-put-clause-none : goal.returns-else-at-put-clause-none
returns-else-at-put-clause-none g c =
    let s = run_setting g.R.Run.graph g.R.Run.stack in
    let P = past c.args.course.now.told in
    λ e. elim c.else-at-put.branch [
      | else-at-put-via-then-at-put+else-eq w ↦
          no-job s c.args.put.role c.args.put.node c.in-Job.at c.args.put.name c.in-Job.name c.in-Job.block P c.requires.history
          (sym c.hand.ensures ∙ c.in-Job.is)
          (λ at_. subst (λ (a : FrameName). same a c.args.put.name ≡ false) w.result_name.ensures (sym w.eq.ensures ∙ w.if-eq.false))
      | else-at-put-via-else-at-put w ↦
          no-job s c.args.put.role c.args.put.node c.in-Job.at c.args.put.name c.in-Job.name c.in-Job.block P c.requires.history
          (sym c.hand.ensures ∙ c.in-Job.is) (λ at_. absurd (w.if-at-put.false at_))
    ]
