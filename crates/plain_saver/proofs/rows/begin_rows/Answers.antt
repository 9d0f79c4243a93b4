use Rattle.std.proofs.Common.{◌≡◌, ap, subst, ◌∙◌, length, refl, inr, arith}
use Rattle.std.proofs.lemmas.Result.{err_from_is_err_and}
use Rattle.plain_saver.specs.BegunRows.{AreBegunTo}
use Rattle.plain_saver.proofs.Begins.{rows-none, begun-more, touched-none, touched-more}
use Rattle.plain_saver.proofs.Pushed.{rule-here}
use Rattle.plain_saver.proofs.rows.begin_rows.Goals as goal

pub loop-place-init : goal.loop-place-init
loop-place-init g c =
    let t = g.K.Shelf.held c.args.shelf.now in
    record {
      begun = rows-none c.args.source.now.graph c.args.prefix.now t;
      touched = touched-none c.args.source.now.graph c.args.prefix.now t;
      none = refl;
    }

pub returns-in_err-begin_node-clause-err : goal.returns-in_err-begin_node-clause-err
returns-in_err-begin_node-clause-err g c =
    let p = err_from_is_err_and c.from_residual.result c.from_residual.ensures.1 in
    let graph = c.args.source.now.graph in
    let at = c.loop-place.place in
    let rule = c.index-rules-place.result in
    let here = rule-here graph.nodes c.rules-rules.result.now at rule c.rules-rules.ensures.value c.loop-place-test.true c.index-rules-place.is in
    rw p.1 (touched-more graph c.args.prefix.now (g.K.Shelf.held c.args.shelf.now) (g.K.Shelf.held c.loop-place.shelf) c.loop-place.invariant.touched
    (g.K.Shelf.held c.begin_node.new.shelf) at rule here c.in_err-begin_node.ensures.err)

pub loop-place-preserved : goal.loop-place-preserved
loop-place-preserved g c =
    let graph = c.args.source.now.graph in
    let at = c.loop-place.place in
    let rule = c.index-rules-place.result in
    let here = rule-here graph.nodes c.rules-rules.result.now at rule c.rules-rules.ensures.value c.loop-place-test.true c.index-rules-place.is in
    let before = g.K.Shelf.held c.args.shelf.now in
    let t = g.K.Shelf.held c.loop-place.shelf in
    let u = g.K.Shelf.held c.begin_node.new.shelf in
    record {
      begun = begun-more graph c.args.prefix.now before t u at rule here c.in_ok-begin_node.ensures.ok c.loop-place.invariant.begun;
      touched = touched-more graph c.args.prefix.now before t c.loop-place.invariant.touched u at rule here (inr c.in_ok-begin_node.ensures.ok);
      none = c.in_ok-begin_node.ensures.cause ∙ c.loop-place.invariant.none;
    }

pub returns-clause-ok : goal.returns-clause-ok
returns-clause-ok g c =
    let e : c.loop-place.place ≡ length c.args.source.now.graph.nodes = omega (arith, ap length c.rules-rules.ensures.value) in
    subst (AreBegunTo c.args.source.now.graph c.args.prefix.now (g.K.Shelf.held c.args.shelf.now) (g.K.Shelf.held c.loop-place.shelf)) e
    c.loop-place.invariant.begun
