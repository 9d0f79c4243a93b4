use Rattle.std.proofs.Common.{◌≡◌, suc, ◌+◌, ◌≤◌, ◌<◌, ◌++◌, Some, [], length, drop, get_or, sym, ap, subst, refl, ◌∙◌, arith, append-nil}
use Rattle.std.specs.Prelude.{slice_get, List}
use Rattle.std.proofs.lemmas.Option.{slice_get_read}
use Rattle.std.proofs.lemmas.List.{drop_all}
use Rattle.nd_base.specs.declared.graph.NodeRule.{NodeRule}
use Rattle.nd_base.specs.GraphRules.{rule_at}
use Rattle.graph_files.specs.NodeShapes.{longest_fits}
use Rattle.graph_files.specs.OpenFiles.{AreApart, nodes_from, file_nodes}
use Rattle.graph_files.specs.OpenFileLaws.{file_nodes-apart}
use Rattle.graph_files.proofs.open_files.OpenFiles.new.Goals as goal

pub new-requires-clause-within : goal.new-requires-clause-within
new-requires-clause-within c =
    let nodes = c.args.plan.now.graph.nodes in
    let n = c.rule-item.result in
    let place = c.loop-place.place in
    let next : place + 1 ≡ suc place = omega arith in
    let at : slice_get nodes place ≡ Some n =
    slice_get_read nodes (length nodes) place n refl (subst (λ (ns : List NodeRule). place < length ns) c.as_slice-rule-items.ensures c.loop-place-test.true)
    (subst (λ (ns : List NodeRule). n ≡ get_or ns place n) c.as_slice-rule-items.ensures c.rule-item.is) in
    longest_fits c.args.plan.now.graph c.args.stack.now (place + 1) n c.in-File.file c.requires.within (sym (ap (rule_at nodes) next ∙ at)) c.in-File.is

pub invariant_of-result : goal.invariant_of-result
invariant_of-result c =
    let nodes = c.args.plan.now.graph.nodes in
    let files = file_nodes c.args.plan.now.graph c.args.stack.now c.args.prefix.now in
    let none_left : drop c.loop-place.place nodes ≡ [] =
    drop_all c.loop-place.place nodes (subst (λ (ns : List NodeRule). length ns ≤ c.loop-place.place) c.as_slice-rule-items.ensures c.loop-place-test.false) in
    let all : c.loop-place.nodes.items ≡ files =
    sym (append-nil c.loop-place.nodes.items)
    ∙ ap (λ (ns : List NodeRule). c.loop-place.nodes.items ++ nodes_from c.args.plan.now.graph c.args.stack.now c.args.prefix.now (c.loop-place.place + 1) ns)
    (sym none_left) ∙ c.loop-place.invariant in
    subst AreApart (sym all) (file_nodes-apart c.args.plan.now.graph c.args.stack.now c.args.prefix.now c.requires.graph)
