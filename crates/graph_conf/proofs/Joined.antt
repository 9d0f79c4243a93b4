-- The nodes as the definitions see them.
use Rattle.std.proofs.Common.{◌≡◌, ◌+◌, ◌-◌, ◌<◌, ◌&&◌, ℕ, suc, List, [], ◌∷◌, Bool, true, false, Option, Some, None, Result, Ok, Err, ◌++◌, append_assoc}
use Rattle.std.proofs.Common.{codes, length, take, get_or, cond, refl, ap, sym, ◌∙◌, arith}
use Rattle.std.specs.List.{list_any, position_from}
use Rattle.std.specs.Option.{option_map, option_map_or}
use Rattle.std.specs.Str.{bytes_eq}
use Rattle.std.proofs.lemmas.Option.{slice_get-get_or}
use Rattle.graph_conf.specs.Named.{Named}
use Rattle.nd_base.specs.declared.graph.NodeRule.{NodeRule}
use Rattle.nd_base.specs.GraphRules.{may_feed}
use Rattle.toml.specs.Data.{Members}
use Rattle.graph_conf.specs.declared.fault.GraphFault.{GraphFault}
use Rattle.graph_conf.specs.declared.fault.GraphFault.TheVariants.{UnknownInput, DoubleName, Cycle}
use Rattle.graph_conf.specs.Answers.{◌>>=◌}
use Rattle.graph_conf.specs.Nodes.{node_of}
use Rattle.graph_conf.specs.Graphs.{is_double, first_place, has_name, nodes_from, input_number, input_numbers, known_input, source_of, input_of}
use Rattle.graph_conf.specs.Graphs.{refused_node, is_circular, few_threads, with_inputs, linked}

pub is_double-at : (ns : List Named) (k : ℕ) (d : Named) → k < length ns →
    is_double ns k ≡ list_any (λ n. bytes_eq n.rule.name (get_or ns k d).rule.name) (take k ns)
is_double-at ns k d within = ap (λ o. option_map_or (λ n. list_any (has_name n.rule.name) (take k ns)) o false) (slice_get-get_or ns k d within)

found_later : (here : Bool) (i : ℕ) (more less : Option ℕ) → more ≡ option_map (λ k. k + 1) less
    → cond here (Some (i + 1)) more ≡ option_map (λ k. k + 1) (cond here (Some i) less)
found_later true i more less same = refl
found_later false i more less same = same

-- one place on
pub position_from-suc : {X : Type 0} (test : X → Bool) (i : ℕ) (xs : List X) → position_from test (i + 1) xs ≡ option_map (λ k. k + 1) (position_from test i xs)
position_from-suc test i [] = refl
position_from-suc test i (x ∷ xs) = found_later (test x) i _ _ (position_from-suc test (i + 1) xs)

-- a place at which the test fails leaves the search to those after it
pub place_past : (test : ℕ → Bool) (k n : ℕ) → k < n → test k ≡ false → first_place test (k + 1) (n - (k + 1)) ≡ first_place test k (n - k)
place_past test k n within fails =
    let e : n - k ≡ suc (n - (k + 1)) = omega arith in
    sym (ap (first_place test k) e ∙ ap (λ b. cond b (Some k) (first_place test (k + 1) (n - (k + 1)))) fails)

pub place_here : (test : ℕ → Bool) (k n : ℕ) → k < n → test k ≡ true → first_place test k (n - k) ≡ Some k
place_here test k n within holds =
    let e : n - k ≡ suc (n - (k + 1)) = omega arith in ap (first_place test k) e ∙ ap (λ b. cond b (Some k) (first_place test (k + 1) (n - (k + 1)))) holds

pub place_none : (test : ℕ → Bool) (n : ℕ) → first_place test n (n - n) ≡ None
place_none test n = let e : n - n ≡ 0 = omega arith in ap (first_place test n) e

-- what follows some values
abbrev pub in_front : {A : Type 0} → List A → Result (List A) GraphFault → Result (List A) GraphFault
in_front front r = r >>= λ more. Ok (front ++ more)

front_cons : {A : Type 0} (front : List A) (x : A) (r : Result (List A) GraphFault) → in_front front (r >>= λ xs. Ok (x ∷ xs)) ≡ in_front (front ++ x ∷ []) r
front_cons front x (Ok xs) = ap Ok (sym (append_assoc front (x ∷ []) xs))
front_cons front x (Err e) = refl

pub front_nil : {A : Type 0} (r : Result (List A) GraphFault) → in_front [] r ≡ r
front_nil (Ok xs) = refl
front_nil (Err e) = refl

pub nodes_more : (front : List Named) (v : ℕ) (t : Members) (ts : List Members) (n : Named) → node_of v t ≡ Ok n →
    in_front front (nodes_from v (t ∷ ts)) ≡ in_front (front ++ n ∷ []) (nodes_from (v + 1) ts)
nodes_more front v t ts n is =
    ap (λ r. in_front front (r >>= λ m. nodes_from (v + 1) ts >>= λ more. Ok (m ∷ more))) is ∙ front_cons front n (nodes_from (v + 1) ts)

pub nodes_stop : (front : List Named) (v : ℕ) (t : Members) (ts : List Members) (e : GraphFault) → node_of v t ≡ Err e
    → in_front front (nodes_from v (t ∷ ts)) ≡ Err e
nodes_stop front v t ts e is = ap (λ r. in_front front (r >>= λ m. nodes_from (v + 1) ts >>= λ more. Ok (m ∷ more))) is

pub inputs_more : (all : List Named) (front : List ℕ) (v : ℕ) (n : Named) (ns : List Named) (k : ℕ) → input_number all n.input ≡ Some k →
    in_front front (input_numbers all v (n ∷ ns)) ≡ in_front (front ++ k ∷ []) (input_numbers all (v + 1) ns)
inputs_more all front v n ns k is =
    ap (λ o. in_front front (known_input v o >>= λ m. input_numbers all (v + 1) ns >>= λ more. Ok (m ∷ more))) is
    ∙ front_cons front k (input_numbers all (v + 1) ns)

pub inputs_stop : (all : List Named) (front : List ℕ) (v : ℕ) (n : Named) (ns : List Named) → input_number all n.input ≡ None →
    in_front front (input_numbers all v (n ∷ ns)) ≡ Err (UnknownInput v)
inputs_stop all front v n ns is = ap (λ o. in_front front (known_input v o >>= λ m. input_numbers all (v + 1) ns >>= λ more. Ok (m ∷ more))) is

pub input_number-node : (ns : List Named) (name : List ℕ) → bytes_eq name (codes "driver") ≡ false →
    input_number ns name ≡ option_map (λ k. k + 1) (position_from (λ n. bytes_eq n.rule.name name && may_feed n.rule.kind) 0 ns)
input_number-node ns name other =
    ap (λ b. cond b (Some 0) (position_from (λ n. has_name name n && may_feed n.rule.kind) 1 ns)) other
    ∙ position_from-suc (λ n. bytes_eq n.rule.name name && may_feed n.rule.kind) 0 ns

pub length-with_inputs : (ns : List Named) (ks : List ℕ) → length ks ≡ length ns → length (with_inputs ns ks) ≡ length ns
length-with_inputs [] ks same = refl
length-with_inputs (n ∷ ns) [] same = absurd (omega arith)
length-with_inputs (n ∷ ns) (k ∷ ks) same = ap suc (length-with_inputs ns ks (omega arith))

-- once no name is double, each input is known and no inputs lead in a circle, the threads decide
pub linked_by : (ns : List Named) (ks : List ℕ) →
    refused_node DoubleName (first_place (is_double ns) 0 (length ns)) ≡ Ok tt →
    input_numbers ns 1 ns ≡ Ok ks →
    refused_node Cycle (first_place (is_circular ks) 0 (length ks)) ≡ Ok tt →
    linked ns ≡ few_threads (with_inputs ns ks)
unfolding linked
linked_by ns ks distinct numbers acyclic =
    let last : List ℕ → Result (List NodeRule) GraphFault = λ js. few_threads (with_inputs ns js) in
    let after : List ℕ → Result (List NodeRule) GraphFault = λ js. refused_node Cycle (first_place (is_circular js) 0 (length js)) >>= λ u. last js in
    ap (λ r. r >>= λ u. input_numbers ns 1 ns >>= after) distinct
    ∙ ap (λ r. r >>= after) numbers
    ∙ ap (λ r. r >>= λ u. last ks) acyclic

-- one step up, of so many
pub step_up : (inputs : List ℕ) (v k n : ℕ) → k < n → source_of inputs (n - (k + 1)) (input_of inputs v) ≡ source_of inputs (n - k) v
step_up inputs v k n within = let e : n - k ≡ suc (n - (k + 1)) = omega arith in sym (ap (λ s. source_of inputs s v) e)

pub no_steps : (inputs : List ℕ) (v n : ℕ) → source_of inputs (n - n) v ≡ v
no_steps inputs v n = let e : n - n ≡ 0 = omega arith in ap (λ s. source_of inputs s v) e
