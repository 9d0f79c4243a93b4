-- The files that are compared are those of the history.
use Rattle.std.proofs.Common.{◌≡◌, ◌≢◌, ℕ, zero, suc, ◌+◌, ◌*◌, ◌<◌, ◌≤◌, Bool, true, false, List, [], ◌∷◌, Option, None, Some, length, drop, refl}
use Rattle.std.proofs.Common.{sym, ap, subst, ◌∙◌, arith}
use Rattle.std.specs.Prelude.{All, if◌then◌else◌}
use Rattle.std.specs.List.{Contains, flat_map, range_with_len}
use Rattle.std.specs.Option.{option_map_or}
use Rattle.std.specs.Str.{bytes_eq}
use Rattle.std.proofs.lemmas.List.{length-take, length-drop}
use Rattle.std.proofs.lemmas.List.Elements.{All-nil, All-cons, All-append, All-contains, Contains-append_left, Contains-append_right}
use Rattle.std.proofs.lemmas.Nat.{mul-le}
use Rattle.std.proofs.lemmas.Slice.Eq.{bytes_eq-Decides}
use Rattle.nd_base.specs.Array.{Array, StackValue}
use Rattle.nd_base.specs.GraphRules.{rule_at}
use Rattle.nd_base.specs.declared.attribute.FileShape.{FileShape}
use Rattle.nd_base.specs.declared.graph.Graph.{Graph}
use Rattle.nd_base.specs.declared.graph.Kind.{Kind}
use Rattle.nd_base.specs.declared.graph.Kind.TheVariants.{Roi, Stats, Circular, File, Scatter}
use Rattle.nd_base.specs.declared.graph.NodeRule.{NodeRule}
use Rattle.chain_plain.specs.PassingLaws.{rule_within}
use Rattle.flow_journal.specs.Pasts.{Past}
use Rattle.flow_journal.specs.Unsaved.{standing_saves}
use Rattle.run_laws.specs.Results.{contents}
use Rattle.graph_files.specs.Groups.{group_of, whole_file}
use Rattle.graph_files.specs.NameLaws.{stats-differ, stats_names-differ}
use Rattle.graph_files.specs.OutFiles.{file_shape, group_name, stats_name}
use Rattle.flow_saver.specs.HistoryFiles.{kind_group, kind_rows, IsFileOf, Group, Rows}
use Rattle.data_check.specs.ComparedFiles.{ComparedFile, log_node, log_name, file_of, group_files, rows_files, rule_files, node_files, compared_files}
use Rattle.data_check.specs.ComparedLaws.{IsOfHistory, ComparedAreOfHistory, HistoryIsCompared}
use Rattle.data_check.proofs.Groups.{length-contents}

-- LISTS

flat-all : (Q : ComparedFile → Type 0) (F : ℕ → List ComparedFile) (ks : List ℕ) → ((k : ℕ) → All Q (F k)) → All Q (flat_map F ks)
flat-all Q F [] all = All-nil Q
flat-all Q F (k ∷ ks) all = All-append Q (F k) (flat_map F ks) (all k) (flat-all Q F ks all)

flat-contains : (F : ℕ → List ComparedFile) (f : ComparedFile) (a n k : ℕ) → k < n → Contains (F (a + k)) f → Contains (flat_map F (range_with_len a n)) f
flat-contains F f a zero k below has = absurd (omega (arith, below))
flat-contains F f a (suc n) zero below has =
    let here : a + 0 ≡ a = omega arith in
    Contains-append_left (F a) (flat_map F (range_with_len (a + 1) n)) f (subst (λ m. Contains (F m) f) here has)
flat-contains F f a (suc n) (suc k) below has =
    let next : a + suc k ≡ a + 1 + k = omega arith in
    Contains-append_right (F a) (flat_map F (range_with_len (a + 1) n)) f
    (flat-contains F f (a + 1) n k (omega (arith, below)) (subst (λ m. Contains (F m) f) next has))

one-contains : (f : ComparedFile) → Contains (f ∷ []) f
one-contains f = (0, omega arith, refl)

file-all : (Q : ComparedFile → Type 0) (v i : ℕ) (name : List ℕ) (o : Option (List ℕ))
    → ((bytes : List ℕ) → o ≡ Some bytes → Q (record { node = v; group = i; name = name; bytes = bytes })) → All Q (file_of v i name o)
file-all Q v i name None each = All-nil Q
file-all Q v i name (Some bytes) each = All-cons Q (record { node = v; group = i; name = name; bytes = bytes }) [] (each bytes refl) (All-nil Q)

-- GROUPS

whole-long : (shape : FileShape) (xs : List Array) (bytes : List ℕ) → whole_file shape xs ≡ Some bytes → 1 ≤ length xs
whole-long shape [] bytes is = absurd (cc)
whole-long shape (a ∷ xs) bytes is = omega arith

group-within : (count i : ℕ) (xs : List Array) → 1 ≤ length (group_of count i xs) → i < length xs
group-within count i xs some =
    let taken = length-take count (drop (i * count) xs) in
    let rest = length-drop (i * count) xs in
    let each : i * 1 ≤ i * count = mul-le i 1 i count (omega arith) (omega (arith, some, taken)) in
    omega (arith, some, taken, rest, each)

module _ (g : Graph) (stack : StackValue) (prefix : List ℕ) (P : Past) where
  -- a group that has a file comes before there are as many as Saves
  group-below : (v i : ℕ) (k : Kind) (bytes : List ℕ) → kind_group g stack P v k i ≡ Some bytes → i < length (standing_saves v P)
  group-below v i (File r) bytes is =
      let all = contents g.nodes stack.arrays (standing_saves v P) in
      omega (
        arith,
        group-within r.count i all (whole-long (file_shape g stack v) (group_of r.count i all) bytes is),
        length-contents g.nodes stack.arrays (standing_saves v P),
      )
  group-below v i (Roi r) bytes is = absurd (cc)
  group-below v i (Stats r) bytes is = absurd (cc)
  group-below v i (Circular r) bytes is = absurd (cc)
  group-below v i Scatter bytes is = absurd (cc)

  -- ONE WAY

  rows-all : (v : ℕ) (n : NodeRule) → rule_at g.nodes v ≡ Some n → (b : Bool) → bytes_eq n.name log_node ≡ b
      → All (IsOfHistory g stack prefix P) (if b then [] else file_of v 0 (stats_name prefix n.name) (kind_rows g stack P v n.kind))
  rows-all v n rule true is = All-nil (IsOfHistory g stack prefix P)
  rows-all v n rule false is = file-all (IsOfHistory g stack prefix P) v 0 (stats_name prefix n.name) (kind_rows g stack P v n.kind) (λ bytes rows. record {
    file = Rows v n bytes rule rows;
    named = λ same. let no : false ≡ true = sym is ∙ (bytes_eq-Decides n.name log_node).1 (stats_names-differ prefix n.name log_node same) in cc;
  })

  rule-all : (v : ℕ) (n : NodeRule) → rule_at g.nodes v ≡ Some n → All (IsOfHistory g stack prefix P) (rule_files g stack prefix P v n)
  rule-all v n rule =
      All-append (IsOfHistory g stack prefix P) (flat_map (group_files g stack prefix P v n) (range_with_len 0 (length (standing_saves v P))))
      (rows_files g stack prefix P v n)
      (flat-all (IsOfHistory g stack prefix P) (group_files g stack prefix P v n) (range_with_len 0 (length (standing_saves v P)))
      (λ i. file-all (IsOfHistory g stack prefix P) v i (group_name prefix n.name i) (kind_group g stack P v n.kind i) (λ bytes is. record {
        file = Group v i n bytes rule is;
        named = stats-differ prefix n.name log_node i;
      })))
      (rows-all v n rule (bytes_eq n.name log_node) refl)

  node-all : (v : ℕ) (o : Option NodeRule) → rule_at g.nodes v ≡ o → All (IsOfHistory g stack prefix P) (option_map_or (rule_files g stack prefix P v) o [])
  node-all v None is = All-nil (IsOfHistory g stack prefix P)
  node-all v (Some n) is = rule-all v n is

  pub all-compared : All (IsOfHistory g stack prefix P) (compared_files g stack prefix P)
  all-compared =
      flat-all (IsOfHistory g stack prefix P) (node_files g stack prefix P) (range_with_len 1 (length g.nodes)) (λ v. node-all v (rule_at g.nodes v) refl)

  -- AND THE OTHER

  node-contains : (v : ℕ) (n : NodeRule) (f : ComparedFile) → rule_at g.nodes v ≡ Some n → Contains (rule_files g stack prefix P v n) f
      → Contains (compared_files g stack prefix P) f
  node-contains zero n f rule has = let no : None ≡ Some n = rule in absurd (cc)
  node-contains (suc k) n f rule has =
      let within : suc k ≤ length g.nodes = rule_within g.nodes (suc k) n (sym rule) in
      let here : suc k ≡ 1 + k = omega arith in
      let there : Contains (node_files g stack prefix P (suc k)) f =
      subst (λ (o : Option NodeRule). Contains (option_map_or (rule_files g stack prefix P (suc k)) o []) f) (sym rule) has in
      flat-contains (node_files g stack prefix P) f 1 (length g.nodes) k (omega (arith, within))
      (subst (λ v. Contains (node_files g stack prefix P v) f) here there)

  group-contains : (v i : ℕ) (n : NodeRule) (bytes : List ℕ) → kind_group g stack P v n.kind i ≡ Some bytes
      → Contains (rule_files g stack prefix P v n) (record { node = v; group = i; name = group_name prefix n.name i; bytes = bytes })
  group-contains v i n bytes is =
      let f : ComparedFile = record { node = v; group = i; name = group_name prefix n.name i; bytes = bytes } in
      let one : Contains (group_files g stack prefix P v n i) f =
      subst (λ (o : Option (List ℕ)). Contains (file_of v i (group_name prefix n.name i) o) f) (sym is) (one-contains f) in
      let first : 0 + i ≡ i = omega arith in
      Contains-append_left (flat_map (group_files g stack prefix P v n) (range_with_len 0 (length (standing_saves v P)))) (rows_files g stack prefix P v n) f
      (flat-contains (group_files g stack prefix P v n) f 0 (length (standing_saves v P)) i (group-below v i n.kind bytes is)
      (subst (λ m. Contains (group_files g stack prefix P v n m) f) (sym first) one))

  rows-contains : (v : ℕ) (n : NodeRule) (bytes : List ℕ) → kind_rows g stack P v n.kind ≡ Some bytes → stats_name prefix n.name ≢ log_name prefix
      → Contains (rule_files g stack prefix P v n) (record { node = v; group = 0; name = stats_name prefix n.name; bytes = bytes })
  rows-contains v n bytes is apart =
      let f : ComparedFile = record { node = v; group = 0; name = stats_name prefix n.name; bytes = bytes } in
      let one : Contains (file_of v 0 (stats_name prefix n.name) (kind_rows g stack P v n.kind)) f =
      subst (λ (o : Option (List ℕ)). Contains (file_of v 0 (stats_name prefix n.name) o) f) (sym is) (one-contains f) in
      Contains-append_right (flat_map (group_files g stack prefix P v n) (range_with_len 0 (length (standing_saves v P)))) (rows_files g stack prefix P v n) f
      (by (bytes_eq n.name log_node) refl one)
    where
      by : (b : Bool) → bytes_eq n.name log_node ≡ b
          → Contains (file_of v 0 (stats_name prefix n.name) (kind_rows g stack P v n.kind))
          (record { node = v; group = 0; name = stats_name prefix n.name; bytes = bytes })
          → Contains (if b then [] else file_of v 0 (stats_name prefix n.name) (kind_rows g stack P v n.kind))
          (record { node = v; group = 0; name = stats_name prefix n.name; bytes = bytes })
      by true same one = absurd (apart (ap (stats_name prefix) ((bytes_eq-Decides n.name log_node).0 same)))
      by false same one = one

  pub is-compared : (name bytes : List ℕ) → IsFileOf g stack prefix P name bytes → name ≢ log_name prefix
      → (v : ℕ) × ((i : ℕ) × Contains (compared_files g stack prefix P) (record { node = v; group = i; name = name; bytes = bytes }))
  is-compared _ _ (Group v i n bytes rule is) apart =
      (v, (i, node-contains v n (record { node = v; group = i; name = group_name prefix n.name i; bytes = bytes }) rule (group-contains v i n bytes is)))
  is-compared _ _ (Rows v n bytes rule is) apart =
      (v, (0, node-contains v n (record { node = v; group = 0; name = stats_name prefix n.name; bytes = bytes }) rule (rows-contains v n bytes is apart)))

pub compared-are : ComparedAreOfHistory
compared-are g stack prefix P f has = All-contains (IsOfHistory g stack prefix P) (compared_files g stack prefix P) f (all-compared g stack prefix P) has

pub history-is : HistoryIsCompared
history-is g stack prefix P name bytes file apart = is-compared g stack prefix P name bytes file apart
