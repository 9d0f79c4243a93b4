use Rattle.std.proofs.Common.{◌≡◌, ◌-◌, ◌∙◌, arith, ap, length, take, drop}
use Rattle.std.specs.List.{flat_map}
use Rattle.std.proofs.lemmas.List.{length-drop, take_all}
use Rattle.nd_stats.specs.Row.{row}
use Rattle.std.proofs.lemmas.Result.{err_from_is_err_and}
use Rattle.edge_traits.specs.FileLaws.{Stands-with_file}
use Rattle.file_out.specs.BegunLaws.{IsBegun-create}
use Rattle.replay_top.proofs.MeasureRows.{rows-begun, rows-part, rows-added}
use Rattle.replay_top.proofs.run_rows.save_measures.Goals as goal

pub returns-in_err-create-clause-err : goal.returns-in_err-create-clause-err
returns-in_err-create-clause-err g c =
    let p = err_from_is_err_and c.from_residual.result c.from_residual.ensures.1 in
    rw p.1 (IsBegun-create _ _ c.args.name.now _ c.in_err-create.ensures.err)

pub returns-in_err-count-clause-err : goal.returns-in_err-count-clause-err
returns-in_err-count-clause-err g c =
    let p = err_from_is_err_and c.from_residual-in_err-count.result c.from_residual-in_err-count.ensures.1 in
    rw p.1 (rows-begun c.args.measures.now c.loop-done.done _ _ c.args.name.now c.loop-done.invariant.files)

pub append-requires : goal.append-requires
append-requires g c = rw c.loop-done.invariant.files (Stands-with_file (g.K.Shelf.held c.args.shelf.now) c.args.name.now _)

pub returns-in_err-append-clause-err : goal.returns-in_err-append-clause-err
returns-in_err-append-clause-err g c =
    let p = err_from_is_err_and c.from_residual-in_err-append.result c.from_residual-in_err-append.ensures.1 in
    let all : take (length c.args.measures.now - c.loop-done.done) (drop c.loop-done.done c.args.measures.now) ≡ drop c.loop-done.done c.args.measures.now =
    take_all (length c.args.measures.now - c.loop-done.done) (drop c.loop-done.done c.args.measures.now)
    (let long = length-drop c.loop-done.done c.args.measures.now in omega (arith, long)) in
    let text = c.deref.ensures.value ∙ (c.in_ok-count.ensures.rows ∙ ap (λ ms. flat_map row (take c.in_ok-count.count ms)) all) in
    rw p.1 (rows-part c.args.measures.now c.loop-done.done _ _ c.args.name.now c.loop-done.invariant.files
    c.in_ok-count.count c.deref.result.now text _ c.in_err-append.ensures.err)

pub loop-done-preserved : goal.loop-done-preserved
loop-done-preserved g c =
    let all : take (length c.args.measures.now - c.loop-done.done) (drop c.loop-done.done c.args.measures.now) ≡ drop c.loop-done.done c.args.measures.now =
    take_all (length c.args.measures.now - c.loop-done.done) (drop c.loop-done.done c.args.measures.now)
    (let long = length-drop c.loop-done.done c.args.measures.now in omega (arith, long)) in
    let text = c.deref.ensures.value ∙ (c.in_ok-count.ensures.rows ∙ ap (λ ms. flat_map row (take c.in_ok-count.count ms)) all) in
    let most = c.in_ok-count.ensures.most in
    record {
      most = (let long = ap length all ∙ length-drop c.loop-done.done c.args.measures.now in omega (arith, most, long, c.loop-done-test.true));
      files =
          rows-added c.args.measures.now c.loop-done.done _ _ c.args.name.now c.loop-done.invariant.files
          c.in_ok-count.count c.deref.result.now text _ c.in_ok-append.ensures.ok;
      none = c.in_ok-append.ensures.cause ∙ c.loop-done.invariant.none;
    }

pub finish-requires : goal.finish-requires
finish-requires g c = rw c.loop-done.invariant.files (Stands-with_file (g.K.Shelf.held c.args.shelf.now) c.args.name.now _)

pub returns-in_err-finish-clause-err : goal.returns-in_err-finish-clause-err
returns-in_err-finish-clause-err g c =
    let p = err_from_is_err_and c.from_residual-in_err-finish.result c.from_residual-in_err-finish.ensures.1 in
    rw p.1 (rows-begun c.args.measures.now c.loop-done.done _ _ c.args.name.now (c.in_err-finish.ensures.files ∙ c.loop-done.invariant.files))
