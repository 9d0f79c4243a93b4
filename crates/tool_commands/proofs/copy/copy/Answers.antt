use Rattle.std.proofs.Common.{◌≡◌, ap, refl, ◌∙◌, inl}
use Rattle.std.proofs.lemmas.Result.{err_from_is_err_and}
use Rattle.nd_base.specs.declared.plan.Plan.{Plan}
use Rattle.tool_commands.specs.Command.{Copy}
use Rattle.tool_commands.specs.Copy.{copy_graph}
use Rattle.tool_commands.specs.Works.{copy_work}
use Rattle.tool_commands.proofs.Copies.{copy_graph-IsGraph, copy_back}
use Rattle.tool_commands.proofs.Leads.{copy_unread, copy_limit, copy_read}
use Rattle.tool_commands.proofs.Stops.{Ends-unread, Ends-save, Ends-printed}
use Rattle.tool_commands.proofs.Unread.{unread-to, planned-at, saved-at, printed-at}
use Rattle.tool_commands.proofs.copy.copy.Goals as goal

pub returns-in_err-stack-clause-ends : goal.returns-in_err-stack-clause-ends
returns-in_err-stack-clause-ends g c =
    let p = err_from_is_err_and c.from_residual.result c.from_residual.ensures.1 in
    let name = c.args.name.now in
    let prefix = c.args.prefix.now in
    rw (p.1, p.2) (Ends-unread (Copy name prefix) _ _ _ _ (copy_unread _ name prefix _ _ _ c.in_err-stack.ensures.err) (refl, refl))

pub plan_within-requires-clause-graph : goal.plan_within-requires-clause-graph
plan_within-requires-clause-graph g c = rw c.in_ok-graph.ensures copy_graph-IsGraph

pub returns-in_err-plan-clause-ends : goal.returns-in_err-plan-clause-ends
returns-in_err-plan-clause-ends g c =
    let p = err_from_is_err_and c.from_residual-in_err-plan.result c.from_residual-in_err-plan.ensures.1 in
    let name = c.args.name.now in
    let prefix = c.args.prefix.now in
    rw (p.1, p.2) (Ends-unread (Copy name prefix) _ _ 0 0
    (copy_limit _ name prefix c.in_ok-stack.stack c.in_ok-stack.ensures.ok _ _ _ (rw c.in_ok-graph.ensures at c.in_err-plan.ensures.err) refl) (refl, refl))

pub returns-in_err-save_plain-clause-ends : goal.returns-in_err-save_plain-clause-ends
returns-in_err-save_plain-clause-ends g c =
    let p = err_from_is_err_and c.from_residual-in_err-save_plain.result c.from_residual-in_err-save_plain.ensures.1 in
    let name = c.args.name.now in
    let prefix = c.args.prefix.now in
    let stack = c.in_ok-stack.stack in
    let same : c.in_ok-plan.plan.graph ≡ copy_graph = ap (λ (p : Plan). p.graph) c.in_ok-plan.ensures.plan ∙ c.in_ok-graph.ensures in
    let read = copy_read _ name prefix stack c.in_ok-stack.ensures.ok (rw c.in_ok-graph.ensures at c.in_ok-plan.ensures.within) in
    rw (p.1, p.2) (Ends-save (Copy name prefix) _ (copy_work prefix stack) read _ _ _ (rw same at c.in_err-save_plain.ensures.err) refl)

pub returns-clause-ends : goal.returns-clause-ends
returns-clause-ends g c =
    let name = c.args.name.now in
    let prefix = c.args.prefix.now in
    let stack = c.in_ok-stack.stack in
    let loaded = c.in_ok-stack.ensures in
    let same : c.in_ok-plan.plan.graph ≡ copy_graph = ap (λ (p : Plan). p.graph) c.in_ok-plan.ensures.plan ∙ c.in_ok-graph.ensures in
    let within = (rw c.in_ok-graph.ensures at c.in_ok-plan.ensures.within) in
    Ends-printed (Copy name prefix) _ (copy_work prefix stack) (copy_read _ name prefix stack loaded.ok within)
    (rw same at c.in_ok-save_plain.ensures.ok) c.print_frames.result _ _ (copy_back stack loaded.kept loaded.ok.sound within)
    (rw c.frames.ensures at c.print_frames.ensures.ok) (rw c.frames.ensures at c.print_frames.ensures.err)

pub returns-in_err-stack-clause-unread : goal.returns-in_err-stack-clause-unread
returns-in_err-stack-clause-unread g c =
    let p = err_from_is_err_and c.from_residual.result c.from_residual.ensures.1 in
    rw (p.1, p.2) (unread-to _ _ (λ failed. inl failed) _ c.in_err-stack.ensures.unread)

pub returns-in_err-plan-clause-unread : goal.returns-in_err-plan-clause-unread
returns-in_err-plan-clause-unread g c =
    let p = err_from_is_err_and c.from_residual-in_err-plan.result c.from_residual-in_err-plan.ensures.1 in
    rw (p.1, p.2) (planned-at _ _ _ _ c.in_err-plan.ensures.err)

pub returns-in_err-save_plain-clause-unread : goal.returns-in_err-save_plain-clause-unread
returns-in_err-save_plain-clause-unread g c =
    let p = err_from_is_err_and c.from_residual-in_err-save_plain.result c.from_residual-in_err-save_plain.ensures.1 in
    rw (p.1, p.2) (saved-at _ _ _ _ _ _ _ _ c.in_err-save_plain.ensures.err)

pub returns-clause-unread : goal.returns-clause-unread
returns-clause-unread g c = printed-at _ c.print_frames.result _ _ _ _ _ c.print_frames.ensures.err
