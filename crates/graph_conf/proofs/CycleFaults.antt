-- The refusal of a cycle is that of the first node that never reaches the driver.
use Rattle.std.proofs.Common.{◌≡◌, ◌+◌, ℕ, List, Bool, true, false, Option, Some, None, Result, Ok, Err, IfErr}
use Rattle.std.proofs.Common.{length, cond, refl, ap, sym, ◌∙◌, subst}
use Rattle.std.specs.Str.{is_utf8}
use Rattle.toml.specs.Data.{Members}
use Rattle.toml.specs.Parse.{parse_document}
use Rattle.nd_base.specs.declared.graph.Graph.{Graph}
use Rattle.nd_base.specs.declared.graph.NodeRule.{NodeRule}
use Rattle.graph_conf.specs.declared.fault.GraphFault.{GraphFault}
use Rattle.graph_conf.specs.declared.fault.GraphFault.TheVariants.{Text, DoubleName, Cycle}
use Rattle.graph_conf.specs.Answers.{◌>>=◌, Refuses, Gives}
use Rattle.graph_conf.specs.Keys.{only_keys}
use Rattle.graph_conf.specs.Named.{Named}
use Rattle.graph_conf.specs.Graphs.{first_place, refused_node, is_double, is_circular, input_numbers, few_threads, with_inputs, linked}
use Rattle.graph_conf.specs.Graphs.{top_keys, run_key, node_key, graph_of, graph_or_text, graph_of_bytes}
use Rattle.graph_conf.specs.Cycles.{IsCutOff, HasInputs, IsCycle}
use Rattle.graph_conf.proofs.Cycles.{cut_found, cut_first, read_within}
use Rattle.graph_conf.proofs.NoCycles.{NoCycle, keys, run_of, node_list, double, all_inputs, thread_limit}

bind_cycle : {A B : Type 0} (r : Result A GraphFault) (f : A → Result B GraphFault) (node : ℕ) → NoCycle r → (r >>= f) ≡ Err (Cycle node)
    → (x : A) × (r ≡ Ok x) × (f x ≡ Err (Cycle node))
bind_cycle (Ok x) f node never h = (x, refl, h)
bind_cycle (Err fault) f node never h =
    let same : ◌≡◌ {A = GraphFault} fault (Cycle node) = cc in absurd (never.other (Cycle node) (ap Err same))

bind_past : {A B : Type 0} (r : Result A GraphFault) (f : A → Result B GraphFault) (x : A) (y : Result B GraphFault) → r ≡ Ok x → f x ≡ y → (r >>= f) ≡ y
bind_past r f x y is h = ap (λ s. s >>= f) is ∙ h

-- THE NODES TOGETHER

refused_cycle : {B : Type 0} (o : Option ℕ) (f : Unit {0} → Result B GraphFault) (node : ℕ) → NoCycle (f tt) → (refused_node Cycle o >>= f) ≡ Err (Cycle node)
    → (k : ℕ) × (o ≡ Some k) × (node ≡ k + 1)
refused_cycle None f node never h = absurd (never.other (Cycle node) h)
refused_cycle (Some k) f node never h =
    let same : ◌≡◌ {A = GraphFault} (Cycle (k + 1)) (Cycle node) = cc in
    let place : k + 1 ≡ node = cc in
    (k, refl, sym place)

single : (o : Option ℕ) → refused_node DoubleName o ≡ Ok tt → o ≡ None
single None h = refl
single (Some k) h = absurd (cc)

-- what the nodes meet where the inputs of one lead in a circle
record Circles (ns : List Named) (node : ℕ) : Type 0 where
  inputs : List ℕ
  distinct : first_place (is_double ns) 0 (length ns) ≡ None
  known : input_numbers ns 1 ns ≡ Ok inputs
  place : ℕ
  first : first_place (is_circular inputs) 0 (length inputs) ≡ Some place
  numbered : node ≡ place + 1

linked_circles : (ns : List Named) (node : ℕ) → linked ns ≡ Err (Cycle node) → Circles ns node
unfolding linked
linked_circles ns node h =
    let a = bind_cycle (refused_node DoubleName (first_place (is_double ns) 0 (length ns))) _ node (double _) h in
    let b = bind_cycle (input_numbers ns 1 ns) _ node (all_inputs ns 1 ns) a.2 in
    let c =
    refused_cycle (first_place (is_circular b.0) 0 (length b.0)) (λ led. few_threads (with_inputs ns b.0)) node (thread_limit (with_inputs ns b.0)) b.2 in
    record { inputs = b.0; distinct = single _ a.1; known = b.1; place = c.0; first = c.1; numbered = c.2 }

circles_linked : (ns : List Named) (node : ℕ) → Circles ns node → linked ns ≡ Err (Cycle node)
unfolding linked
circles_linked ns node c =
    bind_past (refused_node DoubleName (first_place (is_double ns) 0 (length ns))) _ tt _ (ap (refused_node DoubleName) c.distinct)
    (bind_past (input_numbers ns 1 ns) _ c.inputs _ c.known
    (ap (λ o. refused_node Cycle o >>= λ led. few_threads (with_inputs ns c.inputs)) c.first ∙ ap (λ v. Err (Cycle v)) (sym c.numbered)))

-- THE DOCUMENT

module _ (bytes : List ℕ) (utf8 : is_utf8 bytes ≡ true) (table : Members) (document : parse_document bytes ≡ Some table) (node : ℕ) where
  of_table : graph_of table ≡ Err (Cycle node) → IsCycle bytes node
  unfolding graph_of
  of_table h =
      let a = bind_cycle (only_keys top_keys table) _ node (keys top_keys table) h in
      let b = bind_cycle (run_key table) _ node (run_of table) a.2 in
      let c = bind_cycle (node_key table) _ node (node_list table) b.2 in
      let ends : Circles c.0 node = linked_circles c.0 node (linked_fault (linked c.0) _ c.2) in
      record {
        inputs = ends.inputs;
        read = record {
          utf8 = utf8;
          table = table;
          document = document;
          top = a.1;
          run = b.0;
          run_rule = b.1;
          nodes = c.0;
          node_rules = c.1;
          distinct = ends.distinct;
          known = ends.known;
        };
        cut_off = subst (λ v. IsCutOff ends.inputs v) (sym ends.numbered) (cut_found ends.inputs ends.place (read_within c.0 ends.inputs ends.known) ends.first);
      }
    where
      linked_fault : (r : Result (List NodeRule) GraphFault) (f : List NodeRule → Graph) → (r >>= λ nodes. Ok (f nodes)) ≡ Err (Cycle node) → r ≡ Err (Cycle node)
      linked_fault (Ok nodes) f h = absurd (cc)
      linked_fault (Err fault) f h = let same : ◌≡◌ {A = GraphFault} fault (Cycle node) = cc in ap Err same

graph_circles : (table : Members) (node : ℕ) (run : Bool × ℕ) (ns : List Named) → only_keys top_keys table ≡ Ok tt → run_key table ≡ Ok run
    → node_key table ≡ Ok ns → Circles ns node → graph_of table ≡ Err (Cycle node)
unfolding graph_of
graph_circles table node run ns top run_is nodes c =
    let made : List NodeRule → Result Graph GraphFault = λ rules. Ok (record { wait = run.0; limit = run.1; nodes = rules }) in
    bind_past (only_keys top_keys table) _ tt _ top
    (bind_past (run_key table) _ run _ run_is (bind_past (node_key table) _ ns _ nodes (ap (λ r. r >>= made) (circles_linked ns node c))))

-- a refusal of a cycle is that of such a node
pub found : (bytes : List ℕ) (node : ℕ) → graph_of_bytes bytes ≡ Err (Cycle node) → IsCycle bytes node
found bytes node h = by_text (is_utf8 bytes) refl h
  where
    by_document : is_utf8 bytes ≡ true → (o : Option Members) → parse_document bytes ≡ o → graph_or_text o ≡ Err (Cycle node) → IsCycle bytes node
    by_document utf8 None document h = absurd (cc)
    by_document utf8 (Some table) document h = of_table bytes utf8 table document node h

    by_text : (b : Bool) → is_utf8 bytes ≡ b → cond b (graph_or_text (parse_document bytes)) (Err Text) ≡ Err (Cycle node) → IsCycle bytes node
    by_text true utf8 h = by_document utf8 (parse_document bytes) refl h
    by_text false other h = absurd (cc)

-- and such a node is refused so
pub only : (bytes : List ℕ) (node : ℕ) → IsCycle bytes node → graph_of_bytes bytes ≡ Err (Cycle node)
only bytes node is =
    let read = is.read in
    let (k, numbered, first) = cut_first is.inputs node (read_within read.nodes is.inputs read.known) is.cut_off in
    let circles : Circles read.nodes node =
    record { inputs = is.inputs; distinct = read.distinct; known = read.known; place = k; first = first; numbered = numbered } in
    ap (λ b. cond b (graph_or_text (parse_document bytes)) (Err Text)) read.utf8
    ∙ ap graph_or_text read.document
    ∙ graph_circles read.table node read.run read.nodes read.top read.run_rule read.node_rules circles

pub found_fault : (bytes : List ℕ) (r : Result Graph GraphFault) → Gives (λ x. x) r (graph_of_bytes bytes)
    → IfErr r (λ fault. (node : ℕ) → fault ≡ Cycle node → IsCycle bytes node)
found_fault bytes (Ok g) h = tt
found_fault bytes (Err fault) h = λ node is. found bytes node (subst (λ f. Refuses f (graph_of_bytes bytes)) is h)

pub only_fault : (bytes : List ℕ) (r : Result Graph GraphFault) → Gives (λ x. x) r (graph_of_bytes bytes)
    → (node : ℕ) → IsCycle bytes node → Gives (λ x. x) r (Err (Cycle node))
only_fault bytes r h node is = subst (λ q. Gives (λ x. x) r q) (only bytes node is) h
