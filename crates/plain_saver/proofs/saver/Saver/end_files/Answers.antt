use Rattle.std.proofs.Common.{sym, subst}
use Rattle.std.specs.Prelude.{Option}
use Rattle.std.proofs.lemmas.Result.{err_from_is_err_and, on_ok_weaker, on_err_weaker}
use Rattle.edge_traits.specs.Files.{Files}
use Rattle.graph_files.specs.OpenFiles.{AllWritten}
use Rattle.plain_saver.specs.Saved.{written}
use Rattle.plain_saver.specs.TornRuns.{IsTornRun}
use Rattle.plain_saver.proofs.Ended.{filled, saved-ended}
use Rattle.plain_saver.proofs.Interrupted.{saved-written}
use Rattle.plain_saver.proofs.TornSaved.{torn-saved}
use Rattle.plain_saver.proofs.InterruptedEnd.{torn-end}
use Rattle.plain_saver.proofs.Standing.{HasFile-Stands}
use Rattle.plain_saver.proofs.saver.Saver.end_files.Goals as goal

pub finish_rows-requires : goal.finish_rows-requires
finish_rows-requires g c = λ v n r rule kind. HasFile-Stands (g.K.Shelf.held c.args.shelf.now) _ _ (c.requires.saved.1.rows v n r rule kind).2

pub returns-in_err-finish_rows-clause-err : goal.returns-in_err-finish_rows-clause-err
returns-in_err-finish_rows-clause-err g c =
    let p = err_from_is_err_and c.from_residual.result c.from_residual.ensures.1 in
    let graph = c.args.source.now.graph in
    let s = c.args.source.now.stack in
    rw p.1 (λ before h. subst (IsTornRun graph s c.args.prefix.now before) (sym c.finish_rows.ensures.still)
    (torn-saved graph s c.args.prefix.now c.known.ensures.graph c.known.ensures.kept before c.args.self.passes.items c.args.self.files
    (g.K.Shelf.held c.args.shelf.now) h))

pub end-requires-clause-written : goal.end-requires-clause-written
end-requires-clause-written g c =
    let graph = c.args.source.now.graph in
    let s = c.args.source.now.stack in
    let t = g.K.Shelf.held c.args.shelf.now in
    let ps = c.args.self.passes.items in
    let all =
    subst (λ (w : Option Files). AllWritten t c.args.self.files (written graph s ps) w) (sym c.finish_rows.ensures.still)
    (saved-written graph s c.args.prefix.now c.known.ensures.graph c.known.ensures.kept c.requires.saved.0 ps c.args.self.files t c.requires.saved.1) in
    (t, (written graph s ps, all))

pub end-requires-clause-filled : goal.end-requires-clause-filled
end-requires-clause-filled g c = λ k x is.
    filled c.args.source.now.graph c.args.source.now.stack c.args.prefix.now c.known.ensures.graph c.known.ensures.kept c.requires.saved.0
    c.args.self.passes.items c.args.self.files (g.K.Shelf.held c.args.shelf.now) c.requires.saved.1 c.requires.left k x is

pub returns-clause-ok : goal.returns-clause-ok
returns-clause-ok g c =
    let graph = c.args.source.now.graph in
    let s = c.args.source.now.stack in
    let t = g.K.Shelf.held c.args.shelf.now in
    let ps = c.args.self.passes.items in
    on_ok_weaker c.end.result (λ ends before h.
    saved-ended graph s c.args.prefix.now c.known.ensures.graph c.known.ensures.kept before ps c.args.self.files t h c.requires.left
    (g.K.Shelf.held c.end.new.shelf) (ends t (written graph s ps)
    (subst (λ (w : Option Files). AllWritten t c.args.self.files (written graph s ps) w) (sym c.finish_rows.ensures.still)
    (saved-written graph s c.args.prefix.now c.known.ensures.graph c.known.ensures.kept before ps c.args.self.files t h))) c.requires.empty) c.end.ensures.ok

pub returns-clause-err : goal.returns-clause-err
returns-clause-err g c =
    let graph = c.args.source.now.graph in
    let s = c.args.source.now.stack in
    let t = g.K.Shelf.held c.args.shelf.now in
    let ps = c.args.self.passes.items in
    on_err_weaker c.end.result (λ stops before h.
    torn-end graph s c.args.prefix.now c.known.ensures.graph c.known.ensures.kept before ps c.args.self.files t h c.requires.left
    (g.K.Shelf.held c.end.new.shelf) (rw c.finish_rows.ensures.still at (stops t (written graph s ps)
    (subst (λ (w : Option Files). AllWritten t c.args.self.files (written graph s ps) w) (sym c.finish_rows.ensures.still)
    (saved-written graph s c.args.prefix.now c.known.ensures.graph c.known.ensures.kept before ps c.args.self.files t h))))) c.end.ensures.err
