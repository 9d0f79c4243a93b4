use Rattle.std.proofs.Common.{◌≡◌, ◌≤◌, Ok, length, ap, sym, ◌∙◌, subst}
use Rattle.std.proofs.lemmas.Result.{IfOk-weaker}
use Rattle.graph_conf.specs.declared.fault.GraphFault.TheVariants.{DoubleName, Cycle}
use Rattle.graph_conf.specs.Answers.{Gives}
use Rattle.graph_conf.specs.Links.{AreLinked}
use Rattle.graph_conf.specs.Graphs.{first_place, refused_node, is_double, is_circular, input_numbers, thread_count, few_threads, with_inputs}
use Rattle.graph_conf.proofs.Joined.{linked_by}
use Rattle.graph_conf.proofs.Sound.{are_linked}
use Rattle.graph_conf.proofs.links.linked.Goals as goal

pub returns-clause-gives : goal.returns-clause-gives
returns-clause-gives c =
    let ns = c.args.nodes.items in
    let ks = c.in_ok-inputs.inputs.items in
    let distinct = subst (λ ms. refused_node DoubleName (first_place (is_double ms) 0 (length ms)) ≡ Ok tt) c.deref.ensures.value c.in_ok-distinct.ensures in
    let numbers = subst (λ ms. input_numbers ms 1 ms ≡ Ok ks) c.deref-2.ensures.value c.in_ok-inputs.ensures.gives in
    let acyclic = subst (λ js. refused_node Cycle (first_place (is_circular js) 0 (length js)) ≡ Ok tt) c.deref-3.ensures.value c.in_ok-acyclic.ensures in
    let rules = c.in_ok-rules.ensures.rules ∙ ap (with_inputs ns) c.deref-4.ensures.value in
    let whole = linked_by ns ks distinct numbers acyclic ∙ ap few_threads (sym rules) in
    subst (λ r. Gives (λ list. list.items) c.few_threads.result r) (sym whole) c.few_threads.ensures.gives

pub returns-clause-sound : goal.returns-clause-sound
returns-clause-sound c =
    let ns = c.args.nodes.items in
    let ks = c.in_ok-inputs.inputs.items in
    let distinct = subst (λ ms. refused_node DoubleName (first_place (is_double ms) 0 (length ms)) ≡ Ok tt) c.deref.ensures.value c.in_ok-distinct.ensures in
    let numbers = subst (λ ms. input_numbers ms 1 ms ≡ Ok ks) c.deref-2.ensures.value c.in_ok-inputs.ensures.gives in
    let acyclic = subst (λ js. refused_node Cycle (first_place (is_circular js) 0 (length js)) ≡ Ok tt) c.deref-3.ensures.value c.in_ok-acyclic.ensures in
    let rules = c.in_ok-rules.ensures.rules ∙ ap (with_inputs ns) c.deref-4.ensures.value in
    let same : length ks ≡ length ns = c.in_ok-inputs.ensures.len ∙ ap length c.deref-2.ensures.value in
    IfOk-weaker c.few_threads.result _ _
    (λ list h. subst AreLinked (sym (h.0 ∙ rules))
    (are_linked ns ks c.requires.sound c.requires.few same distinct numbers acyclic (subst (λ rs. thread_count rs ≤ 64) rules h.1)))
    c.few_threads.ensures.kept
