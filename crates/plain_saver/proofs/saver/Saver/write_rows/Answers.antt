use Rattle.std.proofs.Common.{◌+◌, List, length, refl, sym, ap, subst, ◌∙◌, arith}
use Rattle.std.proofs.lemmas.Result.{err_from_is_err_and}
use Rattle.graph_files.specs.NodeFiles.{NodeFile}
use Rattle.plain_saver.specs.declared.passes.Pass.{Pass}
use Rattle.plain_saver.proofs.Pushed.{rule-here, rule-next}
use Rattle.plain_saver.proofs.Turns.{RowTurns, rows-begin, rows-end, rows-next}
use Rattle.plain_saver.proofs.saver.Saver.write_rows.Goals as goal

pub loop-place-init : goal.loop-place-init
loop-place-init g c =
    record {
      rooms = c.requires.rooms;
      turns = rows-begin c.args.source.now.graph c.args.self.now.passes.items c.args.self.now.files c.args.index c.requires.left;
      some = c.requires.saved;
      saved = λ before h. h;
      none = refl;
    }

pub write_node_row-requires-clause-rule : goal.write_node_row-requires-clause-rule
write_node_row-requires-clause-rule g c =
    let nodes = c.args.source.now.graph.nodes in
    let rule = c.index-rules-place.result in
    rule-next nodes c.loop-place.place rule
    (rule-here nodes c.rules-rules.result.now c.loop-place.place rule c.rules-rules.ensures.value c.loop-place-test.true c.index-rules-place.is)

pub returns-in_err-write_node_row-clause-err : goal.returns-in_err-write_node_row-clause-err
returns-in_err-write_node_row-clause-err g c =
    let p = err_from_is_err_and c.from_residual.result c.from_residual.ensures.1 in
    rw p.1 (λ before h. c.in_err-write_node_row.ensures.err before (c.loop-place.invariant.saved before h))

pub loop-place-preserved : goal.loop-place-preserved
loop-place-preserved g c =
    let graph = c.args.source.now.graph in
    let rule = c.index-rules-place.result in
    let here = rule-here graph.nodes c.rules-rules.result.now c.loop-place.place rule c.rules-rules.ensures.value c.loop-place-test.true
    c.index-rules-place.is in
    let inv = c.loop-place.invariant in
    let h = inv.some.1 in
    let next = c.in_ok-write_node_row.ensures.saved inv.some.0 h in
    record {
      rooms = c.in_ok-write_node_row.ensures.rooms;
      turns =
          subst (λ (xs : List NodeFile). RowTurns graph c.write_node_row.new.self.passes.items xs (c.loop-place.place + 1) c.args.index)
          (sym c.in_ok-write_node_row.ensures.files)
          (subst (λ (ps : List Pass). RowTurns graph ps c.loop-place.self.files (c.loop-place.place + 1) c.args.index)
          (sym c.in_ok-write_node_row.ensures.passes)
          (rows-next graph c.args.source.now.stack c.args.prefix.now inv.some.0 (g.K.Shelf.held c.loop-place.shelf) c.loop-place.self.passes.items
          c.loop-place.self.files c.rules-rules.ensures.known.graph h c.args.index c.loop-place.place rule here inv.turns));
      some = (inv.some.0, next);
      saved = λ before old. c.in_ok-write_node_row.ensures.saved before (inv.saved before old);
      none = c.in_ok-write_node_row.ensures.cause ∙ inv.none;
    }

pub returns-clause-left : goal.returns-clause-left
returns-clause-left g c =
    rows-end c.args.source.now.graph c.loop-place.self.passes.items c.loop-place.self.files c.loop-place.place c.args.index
    (omega (arith, ap length c.rules-rules.ensures.value)) c.loop-place.invariant.turns
