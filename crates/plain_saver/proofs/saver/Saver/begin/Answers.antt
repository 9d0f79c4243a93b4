use Rattle.std.proofs.Common.{◌≡◌, List, refl, sym, ap, subst, ◌∙◌, length}
use Rattle.std.proofs.lemmas.Result.{err_from_is_err_and}
use Rattle.nd_base.specs.Array.{StackValue}
use Rattle.nd_base.specs.declared.plan.Plan.{Plan}
use Rattle.graph_files.specs.NodeFiles.{NodeFile}
use Rattle.graph_files.specs.OpenFiles.{file_nodes}
use Rattle.plain_saver.specs.Saved.{IsSaved}
use Rattle.plain_saver.proofs.Begins.{saved-none}
use Rattle.plain_saver.proofs.TornSaved.{torn-begin, torn-none}
use Rattle.plain_saver.proofs.saver.Saver.begin.Goals as goal

pub returns-in_err-new-clause-err : goal.returns-in_err-new-clause-err
returns-in_err-new-clause-err g c =
    let p = err_from_is_err_and c.from_residual.result c.from_residual.ensures.1 in
    rw p.1 (torn-none c.args.source.now.graph c.args.source.now.stack c.args.prefix.now (g.K.Shelf.held c.args.shelf.now) (g.K.Shelf.held c.args.shelf.now)
    c.plan-plan.ensures.known.graph refl)

pub returns-in_err-passes-clause-err : goal.returns-in_err-passes-clause-err
returns-in_err-passes-clause-err g c =
    let p = err_from_is_err_and c.from_residual-in_err-passes.result c.from_residual-in_err-passes.ensures.1 in
    rw p.1 (torn-none c.args.source.now.graph c.args.source.now.stack c.args.prefix.now (g.K.Shelf.held c.args.shelf.now) (g.K.Shelf.held c.args.shelf.now)
    c.plan-plan.ensures.known.graph refl)

pub returns-in_err-new-2-clause-err : goal.returns-in_err-new-2-clause-err
returns-in_err-new-2-clause-err g c =
    let p = err_from_is_err_and c.from_residual-in_err-new-2.result c.from_residual-in_err-new-2.ensures.1 in
    rw p.1 (torn-none c.args.source.now.graph c.args.source.now.stack c.args.prefix.now (g.K.Shelf.held c.args.shelf.now) (g.K.Shelf.held c.args.shelf.now)
    c.plan-plan.ensures.known.graph refl)

pub returns-in_err-new-3-clause-err : goal.returns-in_err-new-3-clause-err
returns-in_err-new-3-clause-err g c =
    let p = err_from_is_err_and c.from_residual-in_err-new-3.result c.from_residual-in_err-new-3.ensures.1 in
    rw p.1 (torn-none c.args.source.now.graph c.args.source.now.stack c.args.prefix.now (g.K.Shelf.held c.args.shelf.now) (g.K.Shelf.held c.args.shelf.now)
    c.plan-plan.ensures.known.graph refl)

pub returns-in_err-begin_rows-clause-err : goal.returns-in_err-begin_rows-clause-err
returns-in_err-begin_rows-clause-err g c =
    let p = err_from_is_err_and c.from_residual-in_err-begin_rows.result c.from_residual-in_err-begin_rows.ensures.1 in
    rw p.1 (torn-begin c.args.source.now.graph c.args.source.now.stack c.args.prefix.now (g.K.Shelf.held c.args.shelf.now)
    (g.K.Shelf.held c.begin_rows.new.shelf) c.plan-plan.ensures.known.graph c.in_err-begin_rows.ensures.err)

pub returns-clause-saved : goal.returns-clause-saved
returns-clause-saved g c =
    let graph = c.args.source.now.graph in
    let s = c.args.source.now.stack in
    let prefix = c.args.prefix.now in
    let plan = c.plan-plan.ensures.value in
    let ts = c.in_ok-new-2.field-0 in
    let files : c.in_ok-new-3.field-0 ≡ file_nodes graph s prefix =
    c.in_ok-new-3.ensures ∙ ap (λ (p : Plan). file_nodes p.graph c.stack.result.now prefix) plan
    ∙ ap (λ (t : StackValue). file_nodes graph t prefix) c.stack.ensures in
    let size = c.in_ok-new-2.ensures.size ∙ ap (λ (p : Plan). length p.graph.nodes) plan in
    subst (λ (xs : List NodeFile). IsSaved graph s prefix (g.K.Shelf.held c.args.shelf.now) c.in_ok-passes.field-0.items ts xs
    (g.K.Shelf.held c.begin_rows.new.shelf)) (sym files)
    (saved-none graph s prefix (g.K.Shelf.held c.args.shelf.now) (g.K.Shelf.held c.begin_rows.new.shelf)
    c.in_ok-passes.field-0.items c.in_ok-passes.ensures.positions c.in_ok-passes.ensures.none ts size c.in_ok-new-2.ensures.empty
    c.in_ok-begin_rows.ensures.ok)
