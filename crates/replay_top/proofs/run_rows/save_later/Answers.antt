use Rattle.std.proofs.lemmas.Result.{err_from_is_err_and}
use Rattle.graph_files.specs.BegunLaws.{AreBegun-first}
use Rattle.replay_top.specs.LogFiles.{log_files}
use Rattle.replay_top.specs.MeasuredFiles.{measured_files}
use Rattle.replay_top.proofs.MeasureRows.{with-log, log-begun}
use Rattle.replay_top.proofs.run_rows.save_later.Goals as goal

pub returns-in_err-save_rows-clause-err : goal.returns-in_err-save_rows-clause-err
returns-in_err-save_rows-clause-err g c =
    let p = err_from_is_err_and c.from_residual.result c.from_residual.ensures.1 in
    rw p.1 (AreBegun-first (g.K.Shelf.held c.args.shelf.now) (g.K.Shelf.held c.save_rows.new.shelf)
    (measured_files c.args.prefix.now c.args.graph.now.nodes c.args.measures.now)
    (log_files c.args.logs c.args.prefix.now c.args.log.now.past) c.in_err-save_rows.ensures.err)

pub returns-in_err-save_log-clause-err : goal.returns-in_err-save_log-clause-err
returns-in_err-save_log-clause-err g c =
    let p = err_from_is_err_and c.from_residual-in_err-save_log.result c.from_residual-in_err-save_log.ensures.1 in
    rw p.1 (log-begun (g.K.Shelf.held c.args.shelf.now) (g.K.Shelf.held c.save_rows.new.shelf) (g.K.Shelf.held c.save_log.new.shelf)
    (measured_files c.args.prefix.now c.args.graph.now.nodes c.args.measures.now) c.args.logs c.args.prefix.now c.args.log.now.past c.if-logs.true
    c.in_ok-save_rows.ensures.ok c.in_err-save_log.ensures.err)

pub returns-in_ok-save_log-clause-ok : goal.returns-in_ok-save_log-clause-ok
returns-in_ok-save_log-clause-ok g c =
    with-log (g.K.Shelf.held c.args.shelf.now) (g.K.Shelf.held c.save_rows.new.shelf) (g.K.Shelf.held c.save_log.new.shelf)
    (measured_files c.args.prefix.now c.args.graph.now.nodes c.args.measures.now) c.args.logs c.args.prefix.now c.args.log.now.past c.if-logs.true
    c.in_ok-save_rows.ensures.ok c.in_ok-save_log.ensures.ok
