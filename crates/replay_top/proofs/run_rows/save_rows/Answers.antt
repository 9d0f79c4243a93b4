use Rattle.std.proofs.Common.{◌≡◌, ◌<◌, ◌-◌, ◌+◌, length, get_or, [], ap, ◌∙◌, arith, sym}
use Rattle.std.proofs.lemmas.Result.{err_from_is_err_and}
use Rattle.replay_top.proofs.MeasureRows.{next-rows, next-rows_begun}
use Rattle.replay_top.proofs.run_rows.save_rows.Goals as goal

pub returns-in_err-save_node_rows-clause-err : goal.returns-in_err-save_node_rows-clause-err
returns-in_err-save_node_rows-clause-err g c =
    let p = err_from_is_err_and c.from_residual.result c.from_residual.ensures.1 in
    let nodes = c.args.graph.now.nodes in
    let at = c.loop-place.place in
    let rule = c.index-rules-place.result in
    let within : at < length nodes = omega (arith, c.loop-place-test.true, ap length c.as_slice-rules.ensures) in
    let back : at + 1 - 1 ≡ at = omega arith in
    rw p.1 (next-rows_begun c.args.prefix.now nodes c.args.measures.now (sym c.requires.measures) at rule c.of.result.now within
    (g.K.Shelf.held c.args.shelf.now) (g.K.Shelf.held c.loop-place.shelf) (g.K.Shelf.held c.save_node_rows.new.shelf) c.loop-place.invariant.files []
    (c.index-rules-place.is ∙ ap (λ ns. get_or ns at rule) c.as_slice-rules.ensures)
    (c.of.ensures ∙ ap (λ k. get_or c.args.measures.now k []) back) c.in_err-save_node_rows.ensures.err)

pub loop-place-preserved : goal.loop-place-preserved
loop-place-preserved g c =
    let nodes = c.args.graph.now.nodes in
    let at = c.loop-place.place in
    let rule = c.index-rules-place.result in
    let within : at < length nodes = omega (arith, c.loop-place-test.true, ap length c.as_slice-rules.ensures) in
    let back : at + 1 - 1 ≡ at = omega arith in
    record {
      files =
          next-rows c.args.prefix.now nodes c.args.measures.now (sym c.requires.measures) at rule c.of.result.now within
          (g.K.Shelf.held c.args.shelf.now) (g.K.Shelf.held c.loop-place.shelf) (g.K.Shelf.held c.save_node_rows.new.shelf) c.loop-place.invariant.files []
          (c.index-rules-place.is ∙ ap (λ ns. get_or ns at rule) c.as_slice-rules.ensures)
          (c.of.ensures ∙ ap (λ k. get_or c.args.measures.now k []) back) c.in_ok-save_node_rows.ensures.ok;
      none = c.in_ok-save_node_rows.ensures.cause ∙ c.loop-place.invariant.none;
    }
