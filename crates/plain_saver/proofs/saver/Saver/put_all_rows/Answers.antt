use Rattle.std.proofs.Common.{◌≡◌, ◌+◌, List, ℕ, length, refl, sym, ap, subst, ◌∙◌, arith}
use Rattle.std.proofs.lemmas.Result.{err_from_is_err_and}
use Rattle.plain_saver.specs.Texts.{AreEmptyTo}
use Rattle.plain_saver.proofs.Kept.{empty-begin, empty-next}
use Rattle.plain_saver.proofs.Pushed.{rule-here, rule-next}
use Rattle.plain_saver.proofs.saver.Saver.put_all_rows.Goals as goal

pub loop-place-init : goal.loop-place-init
loop-place-init g c =
    record {
      files = refl;
      passes = refl;
      empty = empty-begin c.args.source.now.graph c.args.self.now.texts;
      some = c.requires.saved;
      saved = λ before h. h;
      none = refl;
    }

pub put_node_rows-requires-clause-rule : goal.put_node_rows-requires-clause-rule
put_node_rows-requires-clause-rule g c =
    let nodes = c.args.source.now.graph.nodes in
    let rule = c.index-rules-place.result in
    rule-next nodes c.loop-place.place rule
    (rule-here nodes c.rules-rules.result.now c.loop-place.place rule c.rules-rules.ensures.value c.loop-place-test.true c.index-rules-place.is)

pub returns-in_err-put_node_rows-clause-err : goal.returns-in_err-put_node_rows-clause-err
returns-in_err-put_node_rows-clause-err g c =
    let p = err_from_is_err_and c.from_residual.result c.from_residual.ensures.1 in
    rw p.1 (λ before h. c.in_err-put_node_rows.ensures.err before (c.loop-place.invariant.saved before h))

pub loop-place-preserved : goal.loop-place-preserved
loop-place-preserved g c =
    let graph = c.args.source.now.graph in
    let rule = c.index-rules-place.result in
    let here = rule-here graph.nodes c.rules-rules.result.now c.loop-place.place rule c.rules-rules.ensures.value c.loop-place-test.true
    c.index-rules-place.is in
    let inv = c.loop-place.invariant in
    record {
      files = c.in_ok-put_node_rows.ensures.files ∙ inv.files;
      passes = c.in_ok-put_node_rows.ensures.passes ∙ inv.passes;
      empty =
          subst (λ (ts : List (List ℕ)). AreEmptyTo graph ts (c.loop-place.place + 1)) (sym c.in_ok-put_node_rows.ensures.texts)
          (empty-next graph c.loop-place.self.texts inv.some.1.kept c.loop-place.place rule here inv.empty);
      some = (inv.some.0, c.in_ok-put_node_rows.ensures.saved inv.some.0 inv.some.1);
      saved = λ before old. c.in_ok-put_node_rows.ensures.saved before (inv.saved before old);
      none = c.in_ok-put_node_rows.ensures.cause ∙ inv.none;
    }

pub returns-clause-empty : goal.returns-clause-empty
returns-clause-empty g c =
    let e : c.loop-place.place ≡ length c.args.source.now.graph.nodes = omega (arith, ap length c.rules-rules.ensures.value) in
    subst (AreEmptyTo c.args.source.now.graph c.loop-place.self.texts) e c.loop-place.invariant.empty
