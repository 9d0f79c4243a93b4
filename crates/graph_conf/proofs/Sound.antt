-- That what was read is a graph.
use Rattle.std.proofs.Common.{◌≡◌, ◌≢◌, ◌+◌, ◌<◌, ◌≤◌, ◌&&◌, ◌==◌, not, ℕ, zero, suc, List, [], ◌∷◌, Bool, true, false, Option, Some, None, Result, Ok, Err}
use Rattle.std.proofs.Common.{codes, length, map, take, get_or, cond, inl, inr, refl, ap, sym, ◌∙◌, subst, arith}
use Rattle.std.specs.Prelude.{All, AllPairs, IsTrue, unwrap_or}
use Rattle.std.specs.List.{AllByRecursion, position_from, slice_get}
use Rattle.std.specs.Option.{option_map_or}
use Rattle.std.specs.Str.{bytes_eq}
use Rattle.std.proofs.lemmas.Bool.{cases_Bool, and_parts}
use Rattle.std.proofs.lemmas.Bool.Decides.{nat_tests}
use Rattle.std.proofs.lemmas.List.{get_or-map, get_or-take, length-take-le}
use Rattle.std.proofs.lemmas.List.Elements.{recursion_from_All, All-from_recursion}
use Rattle.std.proofs.lemmas.List.Folds.{list_any_at}
use Rattle.std.proofs.lemmas.Slice.Eq.{bytes_eq-Decides}
use Rattle.nd_base.specs.declared.graph.NodeRule.{NodeRule}
use Rattle.nd_base.specs.GraphRules.{IsNode, is_source, may_feed}
use Rattle.nd_base.specs.GraphRules as graph_rules
use Rattle.graph_conf.specs.declared.fault.GraphFault.{GraphFault}
use Rattle.graph_conf.specs.declared.fault.GraphFault.TheVariants.{DoubleName, Cycle}
use Rattle.graph_conf.specs.Named.{Named}
use Rattle.graph_conf.specs.Answers.{◌>>=◌}
use Rattle.graph_conf.specs.Links.{AreLinked}
use Rattle.graph_conf.specs.Graphs.{first_place, refused_node, is_double, has_name, input_number, input_numbers, known_input, input_of, source_of}
use Rattle.graph_conf.specs.Graphs.{is_circular, thread_count, with_inputs}
use Rattle.graph_conf.proofs.Joined.{is_double-at, length-with_inputs}

-- EACH NODE

with_input : (r : NodeRule) (k : ℕ) → IsNode r → IsNode (record r { input = k })
with_input r k h = record {
  name = h.name;
  kind = h.kind;
  queue = h.queue;
  threads = h.threads;
  one_thread = h.one_thread;
  sort = h.sort;
  unsorted = h.unsorted;
  sort_time = h.sort_time;
}

nodes_with : (ns : List Named) (ks : List ℕ) → AllByRecursion (λ n. IsNode n.rule) ns → AllByRecursion IsNode (with_inputs ns ks)
nodes_with [] ks h = tt
nodes_with (n ∷ ns) [] h = tt
nodes_with (n ∷ ns) (k ∷ ks) h = (with_input n.rule k h.0, nodes_with ns ks h.1)

-- NAMES

-- where no place is found, the test holds at none
pub none_found : (test : ℕ → Bool) (k n : ℕ) → first_place test k n ≡ None → (j : ℕ) → k ≤ j → j < k + n → test j ≡ false
none_found test k zero h j from below = absurd (omega arith)
none_found test k (suc n) h j from below =
    elim (cases_Bool (test k)) [
      | inl here ↦ let e : Some k ≡ None = sym (ap (λ b. cond b (Some k) (first_place test (k + 1) n)) here) ∙ h in absurd (cc)
      | inr later ↦
          elim (cases_Bool (k == j)) [
            | inl same ↦ let e : k ≡ j = grind (arith, nat_tests) in subst (λ i. test i ≡ false) e later
            | inr other ↦
                let e : k + 1 ≤ j = grind (arith, nat_tests) in
                none_found test (k + 1) n (sym (ap (λ b. cond b (Some k) (first_place test (k + 1) n)) later) ∙ h) j e (omega arith)
          ]
    ]

pub not_refused : (fault : ℕ → GraphFault) (o : Option ℕ) → refused_node fault o ≡ Ok tt → o ≡ None
not_refused fault None h = refl
not_refused fault (Some k) h = absurd (cc)

names_with : (ns : List Named) (ks : List ℕ) → length ks ≡ length ns → map (λ r. r.name) (with_inputs ns ks) ≡ map (λ n. n.rule.name) ns
names_with [] ks same = refl
names_with (n ∷ ns) [] same = absurd (omega arith)
names_with (n ∷ ns) (k ∷ ks) same = ap (λ names. n.rule.name ∷ names) (names_with ns ks (omega arith))

some_named : (ns : List Named) (i : ℕ) → i < length ns → Named
some_named [] i within = absurd (omega arith)
some_named (n ∷ ns) i within = n

same_text : (xs ys : List ℕ) → xs ≡ ys → bytes_eq xs ys ≡ true
same_text xs ys same = grind (arith, bytes_eq-Decides)

distinct_names : (ns : List Named) → ((k : ℕ) → k < length ns → is_double ns k ≡ false) → (i j : ℕ) (e : List ℕ) → i < j → j < length ns →
    get_or (map (λ n. n.rule.name) ns) i e ≢ get_or (map (λ n. n.rule.name) ns) j e
distinct_names ns single i j e before within same =
    let d = some_named ns j within in
    let first = get_or-map (λ n. n.rule.name) ns i d e (omega arith) in
    let second = get_or-map (λ n. n.rule.name) ns j d e within in
    let names : (get_or (take j ns) i d).rule.name ≡ (get_or ns j d).rule.name =
    ap (λ n. n.rule.name) (get_or-take j ns i d before) ∙ sym first ∙ same ∙ second in
    let found =
    list_any_at (λ n. bytes_eq n.rule.name (get_or ns j d).rule.name) (take j ns) i d
    (omega (arith, length-take-le j ns (omega arith))) (same_text _ _ names) in
    let none = sym (is_double-at ns j d within) ∙ single j within in
    absurd (cc)

single_names : (ns : List Named) → refused_node DoubleName (first_place (is_double ns) 0 (length ns)) ≡ Ok tt → (k : ℕ)
    → k < length ns → is_double ns k ≡ false
single_names ns h k within = none_found (is_double ns) 0 (length ns) (not_refused DoubleName _ h) k (omega arith) (omega arith)

names_differ : (ns : List Named) (ks : List ℕ) → length ks ≡ length ns → ((k : ℕ) → k < length ns → is_double ns k ≡ false)
    → AllPairs (λ m n. m.name ≢ n.name) (with_inputs ns ks)
names_differ ns ks same single i j d before within =
    let rs = with_inputs ns ks in
    let inside : j < length ns = omega (arith, length-with_inputs ns ks same) in
    let first : get_or (map (λ r. r.name) rs) i d.name ≡ (get_or rs i d).name = get_or-map (λ r. r.name) rs i d d.name (omega arith) in
    let second : get_or (map (λ r. r.name) rs) j d.name ≡ (get_or rs j d).name = get_or-map (λ r. r.name) rs j d d.name within in
    let names = names_with ns ks same in
    λ equal. distinct_names ns single i j d.name before inside
    (sym (ap (λ l. get_or l i d.name) names) ∙ first ∙ equal ∙ sym second ∙ ap (λ l. get_or l j d.name) names)

-- INPUTS

abbrev pub Fed : List Named → ℕ → Type 0
Fed all k = (name : List ℕ) × (input_number all name ≡ Some k)

pub known : (v : ℕ) (o : Option ℕ) (next : ℕ → Result (List ℕ) GraphFault) (ks : List ℕ) → (known_input v o >>= next) ≡ Ok ks
    → (k : ℕ) × (o ≡ Some k) × (next k ≡ Ok ks)
known v None next ks h = absurd (cc)
known v (Some k) next ks h = (k, refl, h)

pub listed : (r : Result (List ℕ) GraphFault) (k : ℕ) (ks : List ℕ) → (r >>= λ more. Ok (k ∷ more)) ≡ Ok ks → (more : List ℕ) × (r ≡ Ok more) × (ks ≡ k ∷ more)
listed (Ok more) k ks h = (more, refl, cc)
listed (Err e) k ks h = absurd (cc)

pub all_fed : (all : List Named) (v : ℕ) (ms : List Named) (ks : List ℕ) → input_numbers all v ms ≡ Ok ks → AllByRecursion (Fed all) ks
all_fed all v [] ks h = let e : ks ≡ [] = cc in rw e tt
all_fed all v (m ∷ ms) ks h =
    let (k, is, rest) = known v (input_number all m.input) _ ks h in
    let (more, read, e) = listed (input_numbers all (v + 1) ms) k ks rest in
    rw e ((m.input, is), all_fed all (v + 1) ms more read)

-- a node that is found by name and may have children is a source
pub found_feeds : (name : List ℕ) (ns : List Named) (ks : List ℕ) (i k : ℕ) → length ks ≡ length ns
    → position_from (λ n. has_name name n && may_feed n.rule.kind) i ns ≡ Some k →
    (j : ℕ) × (k ≡ i + j) × (option_map_or (λ n. may_feed n.kind) (slice_get (with_inputs ns ks) j) false ≡ true)
found_feeds name [] ks i k same h = absurd (cc)
found_feeds name (n ∷ ns) [] i k same h = absurd (omega arith)
found_feeds name (n ∷ ns) (x ∷ ks) i k same h =
    let test = has_name name n && may_feed n.rule.kind in
    let later = position_from (λ n. has_name name n && may_feed n.rule.kind) (i + 1) ns in
    elim (cases_Bool test) [
      | inl here ↦
          let e : Some i ≡ Some k = sym (ap (λ b. cond b (Some i) later) here) ∙ h in
          let at : i ≡ k = cc in
          (0, omega arith, (and_parts (has_name name n) (may_feed n.rule.kind) here).1)
      | inr other ↦
          let (j, at, feeds) = found_feeds name ns ks (i + 1) k (omega arith) (sym (ap (λ b. cond b (Some i) later) other) ∙ h) in
          (suc j, omega arith, feeds)
    ]

fed_is_source : (ns : List Named) (ks : List ℕ) (k : ℕ) → length ks ≡ length ns → Fed ns k → IsTrue (is_source (with_inputs ns ks) k)
fed_is_source ns ks k same fed =
    let name = fed.0 in
    let found = position_from (λ n. has_name name n && may_feed n.rule.kind) 1 ns in
    elim (cases_Bool (bytes_eq name (codes "driver"))) [
      | inl driver ↦
          let e : Some 0 ≡ Some k = sym (ap (λ b. cond b (Some 0) found) driver) ∙ fed.1 in
          let at : 0 ≡ k = cc in
          subst (λ v. IsTrue (is_source (with_inputs ns ks) v)) at refl
      | inr node ↦
          let (j, at, feeds) = found_feeds name ns ks 1 k same (sym (ap (λ b. cond b (Some 0) found) node) ∙ fed.1) in
          let e : suc j ≡ k = omega arith in
          subst (λ v. IsTrue (is_source (with_inputs ns ks) v)) e feeds
    ]

inputs_with : (P : ℕ → Type 0) (ns : List Named) (ks : List ℕ) → AllByRecursion P ks → AllByRecursion (λ r. P r.input) (with_inputs ns ks)
inputs_with P [] ks h = tt
inputs_with P (n ∷ ns) [] h = tt
inputs_with P (n ∷ ns) (k ∷ ks) h = (h.0, inputs_with P ns ks h.1)

each : {X : Type 0} (P Q : X → Type 0) → ((x : X) → P x → Q x) → (xs : List X) → AllByRecursion P xs → AllByRecursion Q xs
each P Q f [] h = tt
each P Q f (x ∷ xs) h = (f x h.0, each P Q f xs h.1)

-- CYCLES

input_at : (ns : List Named) (ks : List ℕ) (j : ℕ) → length ks ≡ length ns
    → option_map_or (λ r. r.input) (slice_get (with_inputs ns ks) j) 0 ≡ unwrap_or (slice_get ks j) 0
input_at [] [] j same = refl
input_at [] (k ∷ ks) j same = absurd (omega arith)
input_at (n ∷ ns) [] j same = absurd (omega arith)
input_at (n ∷ ns) (k ∷ ks) zero same = refl
input_at (n ∷ ns) (k ∷ ks) (suc j) same = input_at ns ks j (omega arith)

same_input : (ns : List Named) (ks : List ℕ) (v : ℕ) → length ks ≡ length ns → graph_rules.input_of (with_inputs ns ks) v ≡ input_of ks v
same_input ns ks zero same = refl
same_input ns ks (suc j) same = input_at ns ks j same

same_source : (ns : List Named) (ks : List ℕ) (steps v : ℕ) → length ks ≡ length ns
    → graph_rules.source_of (with_inputs ns ks) steps v ≡ source_of ks steps v
same_source ns ks zero v same = refl
same_source ns ks (suc steps) v same =
    ap (graph_rules.source_of (with_inputs ns ks) steps) (same_input ns ks v same) ∙ same_source ns ks steps (input_of ks v) same

pub driver_stays : (ks : List ℕ) (steps : ℕ) → source_of ks steps 0 ≡ 0
driver_stays ks zero = refl
driver_stays ks (suc steps) = driver_stays ks steps

leads_up : (ks : List ℕ) → refused_node Cycle (first_place (is_circular ks) 0 (length ks)) ≡ Ok tt → (v : ℕ) → v ≤ length ks → source_of ks (length ks) v ≡ 0
leads_up ks h zero within = driver_stays ks (length ks)
leads_up ks h (suc k) within =
    let e : k + 1 ≡ suc k = omega arith in
    let straight : not (source_of ks (length ks) (suc k) == 0) ≡ false =
    subst (λ v. not (source_of ks (length ks) v == 0) ≡ false) e
    (none_found (is_circular ks) 0 (length ks) (not_refused Cycle _ h) k (omega arith) (omega arith)) in
    grind (arith, nat_tests)

-- what the tests let through is a graph's nodes
pub are_linked : (ns : List Named) (ks : List ℕ) → All (λ n. IsNode n.rule) ns → length ns ≤ 32 → length ks ≡ length ns →
    refused_node DoubleName (first_place (is_double ns) 0 (length ns)) ≡ Ok tt →
    input_numbers ns 1 ns ≡ Ok ks →
    refused_node Cycle (first_place (is_circular ks) 0 (length ks)) ≡ Ok tt →
    thread_count (with_inputs ns ks) ≤ 64 →
    AreLinked (with_inputs ns ks)
are_linked ns ks nodes few same distinct numbers acyclic threads =
    let rs = with_inputs ns ks in
    let count = length-with_inputs ns ks same in
    record {
      nodes = All-from_recursion IsNode rs (nodes_with ns ks (recursion_from_All (λ n. IsNode n.rule) ns nodes));
      names = names_differ ns ks same (single_names ns distinct);
      inputs = All-from_recursion (λ n. IsTrue (is_source rs n.input)) rs
          (inputs_with (λ k. IsTrue (is_source rs k)) ns ks
          (each (Fed ns) (λ k. IsTrue (is_source rs k)) (λ k fed. fed_is_source ns ks k same fed) ks (all_fed ns 1 ns ks numbers)));
      acyclic = λ v within.
          let e : length rs ≡ length ks = count ∙ sym same in
          ap (λ s. graph_rules.source_of rs s v) e ∙ same_source ns ks (length ks) v same ∙ leads_up ks acyclic v (omega arith);
      few = omega arith;
      threads = threads;
    }
