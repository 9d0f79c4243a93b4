use Rattle.std.proofs.Common.{refl}
use Rattle.std.proofs.lemmas.Result.{err_from_is_err_and}
use Rattle.tool_commands.specs.Command.{Plain}
use Rattle.tool_commands.specs.Works.{Source, plain_work}
use Rattle.tool_commands.proofs.PlainRuns.{plain_back}
use Rattle.tool_commands.proofs.Leads.{plain_unread, plain_read}
use Rattle.tool_commands.proofs.Stops.{Ends-unread, Ends-save, Ends-printed}
use Rattle.tool_commands.specs.Works.{sources}
use Rattle.tool_commands.proofs.Unread.{unread-to, map-fails, saved-at, printed-at}
use Rattle.tool_commands.proofs.plain.plain.Goals as goal

pub returns-in_err-plan-clause-ends : goal.returns-in_err-plan-clause-ends
returns-in_err-plan-clause-ends g c =
    let p = err_from_is_err_and c.from_residual.result c.from_residual.ensures.1 in
    let graph = c.args.graph.now in
    let name = c.args.name.now in
    let prefix = c.args.prefix.now in
    rw (p.1, p.2) (Ends-unread (Plain graph name prefix) _ _ _ _ (plain_unread _ graph name prefix _ _ _ c.in_err-plan.ensures.err) (refl, refl))

pub returns-in_err-save_plain-clause-ends : goal.returns-in_err-save_plain-clause-ends
returns-in_err-save_plain-clause-ends g c =
    let p = err_from_is_err_and c.from_residual-in_err-save_plain.result c.from_residual-in_err-save_plain.ensures.1 in
    let graph = c.args.graph.now in
    let name = c.args.name.now in
    let prefix = c.args.prefix.now in
    let source : Source = record { graph = c.in_ok-plan.plan.graph; stack = c.in_ok-plan.stack } in
    let read = plain_read _ graph name prefix source c.in_ok-plan.ensures.read in
    rw (p.1, p.2) (Ends-save (Plain graph name prefix) _ (plain_work prefix source) read _ _ _ c.in_err-save_plain.ensures.err refl)

pub returns-clause-ends : goal.returns-clause-ends
returns-clause-ends g c =
    let graph = c.args.graph.now in
    let name = c.args.name.now in
    let prefix = c.args.prefix.now in
    let source : Source = record { graph = c.in_ok-plan.plan.graph; stack = c.in_ok-plan.stack } in
    let read = plain_read _ graph name prefix source c.in_ok-plan.ensures.read in
    Ends-printed (Plain graph name prefix) _ (plain_work prefix source) read c.in_ok-save_plain.ensures.ok c.print_plain.result _ _
    (plain_back source.graph source.stack c.in_ok-plan.ensures.sound c.in_ok-plan.ensures.kept c.in_ok-plan.ensures.within)
    c.print_plain.ensures.ok c.print_plain.ensures.err

pub returns-in_err-plan-clause-unread : goal.returns-in_err-plan-clause-unread
returns-in_err-plan-clause-unread g c =
    let p = err_from_is_err_and c.from_residual.result c.from_residual.ensures.1 in
    rw (p.1, p.2)
    (unread-to _ _ (map-fails (plain_work c.args.prefix.now) (g.L.Library.holds c.args.library.now) (g.L.Library.faults_at c.args.library.now)
    (g.L.Library.faults_at c.load_sources.new.library) (sources c.args.graph.now c.args.name.now)) _ c.in_err-plan.ensures.unread)

pub returns-in_err-save_plain-clause-unread : goal.returns-in_err-save_plain-clause-unread
returns-in_err-save_plain-clause-unread g c =
    let p = err_from_is_err_and c.from_residual-in_err-save_plain.result c.from_residual-in_err-save_plain.ensures.1 in
    rw (p.1, p.2) (saved-at _ _ _ _ _ _ _ _ c.in_err-save_plain.ensures.err)

pub returns-clause-unread : goal.returns-clause-unread
returns-clause-unread g c = printed-at _ c.print_plain.result _ _ _ _ _ c.print_plain.ensures.err
