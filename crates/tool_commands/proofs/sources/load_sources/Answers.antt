use Rattle.std.proofs.Common.{◌≡◌, ap, ◌∙◌, inl, inr}
use Rattle.std.proofs.lemmas.Result.{err_from_is_err_and}
use Rattle.nd_base.specs.declared.plan.Plan.{Plan}
use Rattle.tool_commands.specs.Inputs.{most_stack_bytes}
use Rattle.tool_commands.proofs.Leads.{unread-graph, unread-stack, unread-limit, sources_read}
use Rattle.tool_commands.proofs.Unread.{failed-after, unread-to, planned-at}
use Rattle.tool_commands.proofs.sources.load_sources.Goals as goal

pub returns-in_err-graph-clause-err : goal.returns-in_err-graph-clause-err
returns-in_err-graph-clause-err g c =
    let p = err_from_is_err_and c.from_residual.result c.from_residual.ensures.1 in
    rw (p.1, p.2) (unread-graph _ c.args.graph.now c.args.stack.now _ _ _ c.in_err-graph.ensures.err)

pub returns-in_err-stack-clause-err : goal.returns-in_err-stack-clause-err
returns-in_err-stack-clause-err g c =
    let p = err_from_is_err_and c.from_residual-in_err-stack.result c.from_residual-in_err-stack.ensures.1 in
    rw (p.1, p.2) (unread-stack _ c.args.graph.now c.args.stack.now c.in_ok-graph.graph c.in_ok-graph.ensures.ok _ _ _
    (rw (c.in_ok-graph.ensures.files, c.in_ok-graph.ensures.stays) at c.in_err-stack.ensures.err))

pub returns-in_err-plan-clause-err : goal.returns-in_err-plan-clause-err
returns-in_err-plan-clause-err g c =
    let p = err_from_is_err_and c.from_residual-in_err-plan.result c.from_residual-in_err-plan.ensures.1 in
    rw (p.1, p.2) (unread-limit _ c.args.graph.now c.args.stack.now c.in_ok-graph.graph c.in_ok-graph.ensures.ok c.in_ok-stack.stack
    (rw c.in_ok-graph.ensures.files at c.in_ok-stack.ensures.ok) _ _ _ c.in_err-plan.ensures.err (c.in_ok-stack.ensures.stays ∙ c.in_ok-graph.ensures.stays))

pub returns-clause-read : goal.returns-clause-read
returns-clause-read g c =
    let graph = c.in_ok-graph.graph in
    let stack = c.in_ok-stack.stack in
    let same : c.in_ok-plan.plan.graph ≡ graph = ap (λ (p : Plan). p.graph) c.in_ok-plan.ensures.plan in
    let loaded = (rw c.in_ok-graph.ensures.files at c.in_ok-stack.ensures.ok) in
    rw same (sources_read _ c.args.graph.now c.args.stack.now graph c.in_ok-graph.ensures.ok stack loaded c.in_ok-plan.ensures.within)

pub returns-clause-sound : goal.returns-clause-sound
returns-clause-sound g c =
    let same : c.in_ok-plan.plan.graph ≡ c.in_ok-graph.graph = ap (λ (p : Plan). p.graph) c.in_ok-plan.ensures.plan in
    rw same c.in_ok-graph.ensures.ok.sound

pub returns-clause-within : goal.returns-clause-within
returns-clause-within g c =
    let same : c.in_ok-plan.plan.graph ≡ c.in_ok-graph.graph = ap (λ (p : Plan). p.graph) c.in_ok-plan.ensures.plan in
    rw same c.in_ok-plan.ensures.within

pub returns-in_err-graph-clause-unread : goal.returns-in_err-graph-clause-unread
returns-in_err-graph-clause-unread g c =
    let p = err_from_is_err_and c.from_residual.result c.from_residual.ensures.1 in
    rw (p.1, p.2) (unread-to _ _ (λ failed. inl failed) _ c.in_err-graph.ensures.unread)

pub returns-in_err-stack-clause-unread : goal.returns-in_err-stack-clause-unread
returns-in_err-stack-clause-unread g c =
    let p = err_from_is_err_and c.from_residual-in_err-stack.result c.from_residual-in_err-stack.ensures.1 in
    let first = c.in_ok-graph.ensures in
    rw (p.1, p.2) (unread-to _ _ (λ failed. inr (
      c.in_ok-graph.graph,
      first.ok,
      inl (failed-after (g.L.Library.holds c.args.library.now) most_stack_bytes (g.L.Library.faults_at c.args.library.now)
          (g.L.Library.faults_at c.load_graph.new.library) (g.L.Library.faults_at c.load_stack.new.library) c.args.stack.now first.none_failed failed),
    ))
    _ (rw first.files at c.in_err-stack.ensures.unread))

pub returns-in_err-plan-clause-unread : goal.returns-in_err-plan-clause-unread
returns-in_err-plan-clause-unread g c =
    let p = err_from_is_err_and c.from_residual-in_err-plan.result c.from_residual-in_err-plan.ensures.1 in
    rw (p.1, p.2) (planned-at _ _ _ _ c.in_err-plan.ensures.err)

pub returns-clause-none_failed : goal.returns-clause-none_failed
returns-clause-none_failed g c = λ call name. c.in_ok-stack.ensures.none_failed call name ∙ c.in_ok-graph.ensures.none_failed call name
