-- The file nodes of a graph, and the names that their groups have.
use Rattle.std.proofs.Common.{◌≡◌, ◌≢◌, ℕ, zero, suc, ◌+◌, ◌^◌, ◌<◌, ◌≤◌, List, [], ◌∷◌, ◌++◌, length, map, set, refl, sym, ap, subst, ◌∙◌, arith, inl, inr}
use Rattle.std.proofs.Common.{Option, Some, None}
use Rattle.std.specs.Prelude.{slice_get, IsSome, is_some, min}
use Rattle.std.specs.Option.{option_map}
use Rattle.std.proofs.lemmas.Bool.{cases_lt, false≢true}
use Rattle.std.proofs.lemmas.Option.{slice_get-map, same_Some, slice_get_within}
use Rattle.nd_base.specs.Array.{Array, StackValue}
use Rattle.nd_base.specs.GraphRules.{IsGraph, IsKind, IsFile, rule_at}
use Rattle.nd_base.specs.declared.graph.FileRule.{FileRule}
use Rattle.nd_base.specs.declared.graph.Graph.{Graph}
use Rattle.nd_base.specs.declared.graph.Kind.{Kind}
use Rattle.nd_base.specs.declared.graph.Kind.TheVariants.{Roi, Stats, Circular, File, Scatter}
use Rattle.nd_base.specs.declared.graph.NodeRule.{NodeRule}
use Rattle.chain_plain.proofs.Rules.{stands}
use Rattle.graph_files.specs.NameLaws.{stats-differ}
use Rattle.graph_files.specs.NodeFiles.{NodeFile, node_file, name_of, group_file}
use Rattle.graph_files.specs.NodeFileLaws.{cases_eq, groups-differ}
use Rattle.graph_files.specs.OpenFiles.{closed, kind_node, nodes_from, file_nodes, AreApart, IsElsewhere}
use Rattle.graph_files.specs.OpenFileLaws.{of_node, file_nodes-apart, far-none, rules-apart}
use Rattle.graph_files.specs.OutFiles.{file_shape, group_name, stats_name, is_stream}
use Rattle.graph_files.proofs.TornGroups.{FilesOfRule}
use Rattle.plain_saver.specs.Saved.{IsNoRows}

-- LISTS OF FILES

-- the files of a node in a list of files
pub record FilesAt (xs : List NodeFile) (v : ℕ) : Type 0 where
  pub at : ℕ
  pub files : NodeFile
  pub listed : slice_get xs at ≡ Some files
  pub node : files.node ≡ v

-- the node behind closed files
pub of-open : (xs : List NodeFile) (k : ℕ) (y : NodeFile) → slice_get (map closed xs) k ≡ Some y → (x : NodeFile) × (slice_get xs k ≡ Some x) × (closed x ≡ y)
of-open [] k y h = let none_ : None ≡ Some y = h in absurd (cc)
of-open (x ∷ xs) zero y h = (x, refl, same_Some (closed x) y h)
of-open (x ∷ xs) (suc k) y h = of-open xs k y h

-- files that are open otherwise
pub closed-set : (xs : List NodeFile) (k : ℕ) (x z : NodeFile) → slice_get xs k ≡ Some x → closed z ≡ closed x → map closed (set xs k z) ≡ map closed xs
closed-set [] k x z at same = let none_ : None ≡ Some x = at in absurd (cc)
closed-set (y ∷ xs) zero x z at same = ap (λ (w : NodeFile). w ∷ map closed xs) (same ∙ ap closed (sym (same_Some y x at)))
closed-set (y ∷ xs) (suc k) x z at same = ap (λ (ws : List NodeFile). closed y ∷ ws) (closed-set xs k x z at same)

module _ (g : Graph) (s : StackValue) (prefix : List ℕ) where
  -- the files of later nodes are among those of all
  later : (u : ℕ) (n : NodeRule) (ns : List NodeRule) (c : Kind) (v : ℕ) → FilesAt (nodes_from g s prefix (u + 1) ns) v
      → FilesAt (kind_node g s prefix u n.name c ++ nodes_from g s prefix (u + 1) ns) v
  later u n ns (File r) v h = record { at = suc h.at; files = h.files; listed = h.listed; node = h.node }
  later u n ns (Roi r) v h = h
  later u n ns (Stats r) v h = h
  later u n ns (Circular r) v h = h
  later u n ns Scatter v h = h

  -- a file node's files are among its own
  first : (u : ℕ) (n : NodeRule) (ns : List NodeRule) (r : FileRule) (c : Kind) → c ≡ File r
      → FilesAt (kind_node g s prefix u n.name c ++ nodes_from g s prefix (u + 1) ns) u
  first u n ns r (File q) is = record { at = 0; files = node_file g s prefix u q n.name; listed = refl; node = refl }
  first u n ns r (Roi q) is = cc
  first u n ns r (Stats q) is = cc
  first u n ns r (Circular q) is = cc
  first u n ns r Scatter is = cc

  -- each file node from this number on has its files
  files-from : (u : ℕ) (ns : List NodeRule) (k : ℕ) (n : NodeRule) (r : FileRule) → slice_get ns k ≡ Some n → n.kind ≡ File r
      → FilesAt (nodes_from g s prefix u ns) (u + k)
  files-from u [] k n r at kind = let none_ : None ≡ Some n = at in absurd (cc)
  files-from u (m ∷ ns) zero n r at kind =
      let same : m ≡ n = same_Some m n at in
      subst (λ (w : ℕ). FilesAt (nodes_from g s prefix u (m ∷ ns)) w)
      (let e : u ≡ u + 0 = omega arith in e) (first u m ns r m.kind (ap (λ (q : NodeRule). q.kind) same ∙ kind))
  files-from u (m ∷ ns) (suc k) n r at kind =
      later u m ns m.kind (u + suc k) (subst (λ (w : ℕ). FilesAt (nodes_from g s prefix (u + 1) ns) w)
      (let e : u + 1 + k ≡ u + suc k = omega arith in e) (files-from (u + 1) ns k n r at kind))

  -- each file node has its files
  files-of : (v : ℕ) (n : NodeRule) (r : FileRule) → rule_at g.nodes v ≡ Some n → n.kind ≡ File r → FilesAt (file_nodes g s prefix) v
  files-of zero n r at kind = let none_ : None ≡ Some n = at in absurd (cc)
  files-of (suc k) n r at kind =
      subst (λ (w : ℕ). FilesAt (file_nodes g s prefix) w) (let e : 1 + k ≡ suc k = omega arith in e) (files-from 1 g.nodes k n r at kind)

-- the rule that the files of a node are of
pub record FileOf (g : Graph) (s : StackValue) (prefix : List ℕ) (x : NodeFile) : Type 0 where
  pub rule : NodeRule
  pub file : FileRule
  pub at : rule_at g.nodes x.node ≡ Some rule
  pub kind : rule.kind ≡ File file
  pub first : 1 ≤ x.node
  pub within : x.node ≤ length g.nodes
  pub some : 1 ≤ x.count
  pub count : x.count ≡ file.count
  pub late : x.late ≡ is_stream file.mode
  pub shape : x.shape ≡ file_shape g s x.node
  pub room : x.room ≡ min x.count (length s.arrays)
  pub named : (i : ℕ) → name_of x i ≡ group_name prefix rule.name i

-- one kind has one rule
pub file-same : (m q : FileRule) → File m ≡ File q → m ≡ q
file-same m q e = cc

-- two nodes of one name are one
pub one-node : (g : Graph) → IsGraph g → (v w : ℕ) (m n : NodeRule) → rule_at g.nodes v ≡ Some m → rule_at g.nodes w ≡ Some n → m.name ≡ n.name → v ≡ w
one-node g sound zero w m n at_m at_n same = let none_ : None ≡ Some m = at_m in absurd (cc)
one-node g sound (suc j) zero m n at_m at_n same = let none_ : None ≡ Some n = at_n in absurd (cc)
one-node g sound (suc j) (suc k) m n at_m at_n same =
    elim (cases_eq j k) [ inl here ↦ ap suc here | inr ne ↦ absurd (rules-apart g.nodes sound.names j k m n at_m at_n ne same) ]

module _ (g : Graph) (s : StackValue) (prefix : List ℕ) (sound : IsGraph g) (xs : List NodeFile) (nodes : map closed xs ≡ file_nodes g s prefix) where
  -- the files of a list are those of the graph, whatever is open
  pub in-graph : (j : ℕ) (x : NodeFile) → slice_get xs j ≡ Some x → slice_get (file_nodes g s prefix) j ≡ Some (closed x)
  in-graph j x at = ap (λ (ys : List NodeFile). slice_get ys j) (sym nodes) ∙ slice_get-map closed xs j ∙ ap (option_map closed) at

  -- each of these is of a file node
  pub file-of : (k : ℕ) (x : NodeFile) → slice_get xs k ≡ Some x → FileOf g s prefix x
  file-of k x at =
      let o = of_node g s prefix 1 g.nodes k (closed x) (in-graph k x at) in
      let place : x.node ≡ suc o.place = o.node ∙ omega arith in
      let rule : rule_at g.nodes x.node ≡ Some o.rule = ap (rule_at g.nodes) place ∙ o.at in
      let kind : IsFile o.file = subst IsKind o.kind (stands g x.node o.rule sound (sym rule)).sound.kind in
      let node_ : 1 + o.place ≡ x.node = sym o.node in
      let count : x.count ≡ o.file.count = ap (λ (y : NodeFile). y.count) o.whole in
      record {
        rule = o.rule;
        file = o.file;
        at = rule;
        kind = o.kind;
        first = omega (arith, place);
        within = omega (arith, place, slice_get_within g.nodes o.place o.rule o.at);
        some = omega (arith, count, kind.count.0);
        count = count;
        late = ap (λ (y : NodeFile). y.late) o.whole;
        shape = ap (λ (y : NodeFile). y.shape) o.whole ∙ ap (file_shape g s) node_;
        room = ap (λ (y : NodeFile). y.room) o.whole ∙ ap (λ c. min c (length s.arrays)) (sym count);
        named = λ i. ap (λ (y : NodeFile). name_of y i) o.whole;
      }

  -- and each file node has its files among them
  pub node-files : (v : ℕ) (n : NodeRule) (r : FileRule) → rule_at g.nodes v ≡ Some n → n.kind ≡ File r → FilesAt xs v
  node-files v n r at kind =
      let f = files-of g s prefix v n r at kind in
      let o = of-open xs f.at f.files (ap (λ (zs : List NodeFile). slice_get zs f.at) nodes ∙ f.listed) in
      record { at = f.at; files = o.0; listed = o.1; node = ap (λ (z : NodeFile). z.node) o.2 ∙ f.node }

  -- of this rule
  pub files-of-rule : (v : ℕ) (n : NodeRule) (r : FileRule) → rule_at g.nodes v ≡ Some n → n.kind ≡ File r → FilesOfRule g s prefix xs v n r
  files-of-rule v n r rule kind =
      let at = node-files v n r rule kind in
      let f = file-of at.at at.files at.listed in
      let here : rule_at g.nodes at.files.node ≡ Some n = ap (rule_at g.nodes) at.node ∙ rule in
      let same : f.rule ≡ n = same_Some f.rule n (sym f.at ∙ here) in
      let file_ : f.file ≡ r = file-same f.file r (sym f.kind ∙ ap (λ (m : NodeRule). m.kind) same ∙ kind) in
      record {
        at = at.at;
        files = at.files;
        listed = at.listed;
        node = at.node;
        rule = here;
        count = f.count ∙ ap (λ (q : FileRule). q.count) file_;
        late = f.late ∙ ap (λ (q : FileRule). is_stream q.mode) file_;
        shape = f.shape ∙ ap (file_shape g s) at.node;
        some = f.some;
        named = λ i. f.named i ∙ ap (λ (m : NodeRule). group_name prefix m.name i) same;
      }

  -- no two of these have one name
  pub apart : AreApart xs
  apart j k x y hx hy ne = let r = file_nodes-apart g s prefix sound j k (closed x) (closed y) (in-graph j x hx) (in-graph k y hy) ne in (r.0, r.1)

  -- files of one node stand at one place
  pub one-index : (j k : ℕ) (x y : NodeFile) → slice_get xs j ≡ Some x → slice_get xs k ≡ Some y → x.node ≡ y.node → j ≡ k
  one-index j k x y hx hy same = elim (cases_eq j k) [ inl e ↦ e | inr ne ↦ absurd ((apart j k x y hx hy ne).0 same) ]

  -- a group's name is that of no statistics file
  pub group-apart_stats : (k : ℕ) (x : NodeFile) → slice_get xs k ≡ Some x → (i : ℕ) (name : List ℕ) → name_of x i ≢ stats_name prefix name
  group-apart_stats k x at i name e = let f = file-of k x at in stats-differ prefix f.rule.name name i (sym (f.named i) ∙ e)

  -- nor of any
  pub group-no_rows : (k : ℕ) (x : NodeFile) → slice_get xs k ≡ Some x → (i : ℕ) → IsNoRows g prefix (name_of x i)
  group-no_rows k x at i v n r rule kind = group-apart_stats k x at i n.name

  -- and a statistics file's name that of no group
  pub stats-elsewhere : (W : ℕ → List Array) (name : List ℕ) → IsElsewhere xs W (stats_name prefix name)
  stats-elsewhere W name k x i at named e = group-apart_stats k x at i name (sym e)

  -- a name that has nothing is none of the others'
  pub none-elsewhere : (W : ℕ → List Array) → ((k : ℕ) (x : NodeFile) → slice_get xs k ≡ Some x → length (W x.node) < 2 ^ 64) → (j : ℕ) (x : NodeFile)
      → slice_get xs j ≡ Some x → (i : ℕ) → i < 2 ^ 64 → group_file x (W x.node) i ≡ None → IsElsewhere xs W (name_of x i)
  none-elsewhere W few j x at i small none_ k y l at_y named same =
      elim (cases_lt l (2 ^ 64)) [
        | inr high ↦ none-some (group_file y (W y.node) l) (far-none y (W y.node) l (omega (arith, few k y at_y, high))) named
        | inl low ↦ elim (cases_eq k j) [
          | inr ne ↦ (apart j k x y at at_y (λ e. ne (sym e))).1 i l small low same
          | inl here ↦
              let one : y ≡ x = same_Some y x (sym at_y ∙ ap (λ (w : ℕ). slice_get xs w) here ∙ at) in
              let number : i ≡ l = groups-differ x i l small low (same ∙ ap (λ (z : NodeFile). name_of z l) one) in
              none-some (group_file x (W x.node) i) none_
              (subst (λ (w : ℕ). IsSome (group_file x (W x.node) w)) (sym number) (subst (λ (z : NodeFile). IsSome (group_file z (W z.node) l)) one named))
        ]
      ]
    where
      none-some : (o : Option (List ℕ)) → o ≡ None → IsSome o → ⊥
      none-some None h s = false≢true s
      none-some (Some x) h s = false≢true (sym (ap (λ (w : Option (List ℕ)). is_some w) h))
