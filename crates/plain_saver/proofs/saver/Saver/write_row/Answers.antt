use Rattle.std.proofs.Common.{◌≤◌, sym, subst}
use Rattle.std.proofs.lemmas.Result.{err_from_is_err_and}
use Rattle.plain_saver.proofs.TornSaved.{torn-saved}
use Rattle.plain_saver.proofs.Pushed.{node-place}
use Rattle.plain_saver.proofs.saver.Saver.write_row.Goals as goal

pub returns-in_err-keep_row-clause-err : goal.returns-in_err-keep_row-clause-err
returns-in_err-keep_row-clause-err g c =
    let p = err_from_is_err_and c.from_residual.result c.from_residual.ensures.1 in
    let t = g.K.Shelf.held c.args.shelf.now in
    rw p.1 (λ before h.
    torn-saved c.args.source.now.graph c.args.source.now.stack c.args.prefix.now c.known.ensures.graph c.known.ensures.kept before
    c.keep_row.new.self.passes.items c.keep_row.new.self.files t (c.in_err-keep_row.ensures.saved c.args.prefix.now before t h))

pub keep_row-requires-clause-rule : goal.keep_row-requires-clause-rule
keep_row-requires-clause-rule g c =
    let r = c.requires.rule in
    (r.0, (r.1.0, r.1.2))

pub keep_row-requires-clause-saved : goal.keep_row-requires-clause-saved
keep_row-requires-clause-saved g c = (c.args.prefix.now, (c.requires.saved.0, (g.K.Shelf.held c.args.shelf.now, c.requires.saved.1)))

pub is_enough-requires : goal.is_enough-requires
is_enough-requires g c =
    let r = c.requires.rule in
    let at = node-place c.args.source.now.graph c.args.node r.0 r.1.0 in
    let h = c.in_ok-keep_row.ensures.saved c.args.prefix.now c.requires.saved.0 (g.K.Shelf.held c.args.shelf.now) c.requires.saved.1 in
    (at.0, subst (λ n. c.args.node ≤ n) (sym h.kept) at.1)

pub put_rows-requires-clause-rule : goal.put_rows-requires-clause-rule
put_rows-requires-clause-rule g c =
    let r = c.requires.rule in
    (r.0, (c.args.rule.now, r.1))

pub put_rows-requires-clause-saved : goal.put_rows-requires-clause-saved
put_rows-requires-clause-saved g c =
    (c.requires.saved.0, c.in_ok-keep_row.ensures.saved c.args.prefix.now c.requires.saved.0 (g.K.Shelf.held c.args.shelf.now) c.requires.saved.1)

pub returns-in_err-put_rows-clause-err : goal.returns-in_err-put_rows-clause-err
returns-in_err-put_rows-clause-err g c =
    let p = err_from_is_err_and c.from_residual-in_err-put_rows.result c.from_residual-in_err-put_rows.ensures.1 in
    let t = g.K.Shelf.held c.args.shelf.now in
    rw p.1 (λ before h. c.in_err-put_rows.ensures.err before (c.in_ok-keep_row.ensures.saved c.args.prefix.now before t h))

pub returns-in_ok-put_rows-clause-saved : goal.returns-in_ok-put_rows-clause-saved
returns-in_ok-put_rows-clause-saved g c = λ before h.
    c.in_ok-put_rows.ensures.saved before (c.in_ok-keep_row.ensures.saved c.args.prefix.now before (g.K.Shelf.held c.args.shelf.now) h)

pub returns-else-is_enough-clause-saved : goal.returns-else-is_enough-clause-saved
returns-else-is_enough-clause-saved g c = λ before h. c.in_ok-keep_row.ensures.saved c.args.prefix.now before (g.K.Shelf.held c.args.shelf.now) h
