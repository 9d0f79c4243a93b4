-- LAWS of the files of all nodes: what a write at one of them does to all.
use Rattle.std.proofs.Common.{◌≡◌, ◌≢◌, ◌⊎◌, ℕ, zero, suc, ◌+◌, ◌*◌, ◌/◌, ◌^◌, ◌<◌, ◌≤◌, List, [], ◌∷◌, ◌++◌, length, take, set, get_or, Option, None, Some}
use Rattle.std.proofs.Common.{inl, inr, refl, sym, ap, subst, ◌∙◌, arith}
use Rattle.std.specs.Prelude.{slice_get, IsSome, AllPairs, codes, if◌then◌else◌}
use Rattle.std.proofs.lemmas.Option.{get_or_from_slice_get, slice_get_within}
use Rattle.nd_base.specs.Array.{StackValue}
use Rattle.nd_base.specs.declared.graph.Graph.{Graph}
use Rattle.nd_base.specs.declared.graph.FileRule.{FileRule}
use Rattle.nd_base.specs.declared.graph.Kind.{Kind}
use Rattle.nd_base.specs.declared.graph.Kind.TheVariants.{Roi, Stats, Circular, File, Scatter}
use Rattle.nd_base.specs.declared.graph.NodeRule.{NodeRule}
use Rattle.nd_base.specs.GraphRules.{IsGraph}
use Rattle.graph_files.specs.NameLaws.{names-differ}
use Rattle.graph_files.specs.OutFiles.{group_number}
use Rattle.std.proofs.Math.Nat.{div-le_self, mul-le-mul}
use Rattle.std.proofs.lemmas.Bool.{cases_lt, eq-eqb, ne_eqb}
use Rattle.std.proofs.lemmas.List.{drop_all}
use Rattle.nd_base.specs.Array.{Array}
use Rattle.nd_base.specs.declared.attribute.FileShape.{FileShape}
use Rattle.edge_traits.specs.Files.{Files, file_at}
use Rattle.file_out.specs.declared.fault.SaveFault.{SaveFault}
use Rattle.file_out.specs.declared.fault.SaveFault.TheVariants.{Failed, OutOfMemory}
use Rattle.file_out.specs.Streams.{Stream}
use Rattle.graph_files.specs.Groups.{group_of, whole_file, file_of, HasBytes}
use Rattle.graph_files.specs.GroupLaws.{group-is, group-more, group-other}
use Rattle.graph_files.specs.NodeFiles.{NodeFile, node_file, IsChangedAt, IsPlaceAfter, AreWritten, AreWrittenBut, IsHeldBack, WriteStops, name_of, open_at}
use Rattle.graph_files.specs.NodeFiles.{group_file}
use Rattle.graph_files.specs.NodeFileLaws.{cases_eq, open-elsewhere, open-here, changed-HasBytes, changed-file_at, changed-told, whole-some}
use Rattle.graph_files.specs.OpenFiles.{kind_node, nodes_from, file_nodes, AreApart, IsElsewhere, AllWritten, AllWrittenBut, AllStops, with_array}

-- LISTS

pub get-set_same : {X : Type 0} (xs : List X) (k : ℕ) (x y : X) → slice_get xs k ≡ Some x → slice_get (set xs k y) k ≡ Some y
get-set_same [] k x y h = let none_ : None ≡ Some x = h in absurd (cc)
get-set_same (z ∷ xs) zero x y h = refl
get-set_same (z ∷ xs) (suc k) x y h = get-set_same xs k x y h

pub get-set_other : {X : Type 0} (xs : List X) (k j : ℕ) (y : X) → j ≢ k → slice_get (set xs k y) j ≡ slice_get xs j
get-set_other [] k j y h = refl
get-set_other (z ∷ xs) zero zero y h = absurd (h refl)
get-set_other (z ∷ xs) zero (suc j) y h = refl
get-set_other (z ∷ xs) (suc k) zero y h = refl
get-set_other (z ∷ xs) (suc k) (suc j) y h = get-set_other xs k j y (λ e. h (ap suc e))

some-same : {X : Type 0} {x y : X} → Some x ≡ Some y → x ≡ y
some-same h = cc

-- THE FILES OF A GRAPH

-- which node the files are of
pub record IsOfNode (g : Graph) (s : StackValue) (prefix : List ℕ) (v : ℕ) (ns : List NodeRule) (x : NodeFile) : Type 0 where
  pub place : ℕ
  pub rule : NodeRule
  pub file : FileRule
  pub at : slice_get ns place ≡ Some rule
  pub kind : rule.kind ≡ File file
  pub node : x.node ≡ v + place
  pub stem : x.stem ≡ prefix ++ rule.name ++ codes "_"
  pub whole : x ≡ node_file g s prefix (v + place) file rule.name

module _ (g : Graph) (s : StackValue) (prefix : List ℕ) where
  later : (v : ℕ) (n : NodeRule) (ns : List NodeRule) (x : NodeFile) → IsOfNode g s prefix (v + 1) ns x → IsOfNode g s prefix v (n ∷ ns) x
  later v n ns x h =
      record {
        place = suc h.place;
        rule = h.rule;
        file = h.file;
        at = h.at;
        kind = h.kind;
        node = h.node ∙ omega arith;
        stem = h.stem;
        whole = h.whole ∙ ap (λ (w : ℕ). node_file g s prefix w h.file h.rule.name) (let e : v + 1 + h.place ≡ v + suc h.place = omega arith in e);
      }

  by_kind : (v : ℕ) (n : NodeRule) (ns : List NodeRule)
      → ((k : ℕ) (x : NodeFile) → slice_get (nodes_from g s prefix (v + 1) ns) k ≡ Some x → IsOfNode g s prefix (v + 1) ns x) → (c : Kind) → n.kind ≡ c
      → (k : ℕ) (x : NodeFile) → slice_get (kind_node g s prefix v n.name c ++ nodes_from g s prefix (v + 1) ns) k ≡ Some x → IsOfNode g s prefix v (n ∷ ns) x
  by_kind v n ns rest (File r) is zero x h =
      let same : node_file g s prefix v r n.name ≡ x = some-same h in
      record {
        place = 0;
        rule = n;
        file = r;
        at = refl;
        kind = is;
        node = ap (λ (y : NodeFile). y.node) (sym same) ∙ omega arith;
        stem = ap (λ (y : NodeFile). y.stem) (sym same);
        whole = sym same ∙ ap (λ (w : ℕ). node_file g s prefix w r n.name) (let e : v ≡ v + 0 = omega arith in e);
      }
  by_kind v n ns rest (File r) is (suc k) x h = later v n ns x (rest k x h)
  by_kind v n ns rest (Roi r) is k x h = later v n ns x (rest k x h)
  by_kind v n ns rest (Stats r) is k x h = later v n ns x (rest k x h)
  by_kind v n ns rest (Circular r) is k x h = later v n ns x (rest k x h)
  by_kind v n ns rest Scatter is k x h = later v n ns x (rest k x h)

  pub of_node : (v : ℕ) (ns : List NodeRule) (k : ℕ) (x : NodeFile) → slice_get (nodes_from g s prefix v ns) k ≡ Some x → IsOfNode g s prefix v ns x
  of_node v [] k x h = let none_ : None ≡ Some x = h in absurd (cc)
  of_node v (n ∷ ns) k x h = by_kind v n ns (λ j y is. of_node (v + 1) ns j y is) n.kind refl k x h

  abbrev Ordered : List NodeFile → Type 0
  Ordered xs = (j k : ℕ) (x y : NodeFile) → slice_get xs j ≡ Some x → slice_get xs k ≡ Some y → j < k → x.node < y.node

  ordered-kind : (v : ℕ) (n : NodeRule) (ns : List NodeRule) → Ordered (nodes_from g s prefix (v + 1) ns) → (c : Kind)
      → Ordered (kind_node g s prefix v n.name c ++ nodes_from g s prefix (v + 1) ns)
  ordered-kind v n ns rest (File r) j zero x y hx hy less = absurd (omega (arith, less))
  ordered-kind v n ns rest (File r) zero (suc k) x y hx hy less =
      let same : v ≡ x.node = ap (λ (z : NodeFile). z.node) (some-same {X = NodeFile} {x = node_file g s prefix v r n.name} {y = x} hx) in
      let above = (of_node (v + 1) ns k y hy).node in
      omega (arith, same, above)
  ordered-kind v n ns rest (File r) (suc j) (suc k) x y hx hy less = rest j k x y hx hy (omega (arith, less))
  ordered-kind v n ns rest (Roi r) j k x y hx hy less = rest j k x y hx hy less
  ordered-kind v n ns rest (Stats r) j k x y hx hy less = rest j k x y hx hy less
  ordered-kind v n ns rest (Circular r) j k x y hx hy less = rest j k x y hx hy less
  ordered-kind v n ns rest Scatter j k x y hx hy less = rest j k x y hx hy less

  -- the files come in the order of their nodes
  pub nodes-ordered : (v : ℕ) (ns : List NodeRule) → Ordered (nodes_from g s prefix v ns)
  nodes-ordered v [] j k x y hx hy less = let none_ : None ≡ Some x = hx in absurd (cc)
  nodes-ordered v (n ∷ ns) j k x y hx hy less =
      ordered-kind v n ns (λ a b z w hz hw below. nodes-ordered (v + 1) ns a b z w hz hw below) n.kind j k x y hx hy less

  nodes-apart : (v : ℕ) (ns : List NodeRule) (j k : ℕ) (x y : NodeFile) → slice_get (nodes_from g s prefix v ns) j ≡ Some x
      → slice_get (nodes_from g s prefix v ns) k ≡ Some y → j ≢ k → x.node ≢ y.node
  nodes-apart v ns j k x y hx hy ne e =
      elim (cases_lt j k) [
        | inl below ↦ absurd (omega (arith, e, nodes-ordered v ns j k x y hx hy below))
        | inr above ↦ absurd (omega (arith, e, nodes-ordered v ns k j y x hy hx (omega (arith, above, ne))))
      ]

-- no two nodes have one name
pub rules-apart : (ns : List NodeRule) → AllPairs (λ (m n : NodeRule). m.name ≢ n.name) ns → (j k : ℕ) (m n : NodeRule) → slice_get ns j ≡ Some m
    → slice_get ns k ≡ Some n → j ≢ k → m.name ≢ n.name
rules-apart ns pairs j k m n hm hn ne =
    let is_m = get_or_from_slice_get ns j m m hm in
    let is_n = get_or_from_slice_get ns k n m hn in
    let is_m' = get_or_from_slice_get ns j m n hm in
    let is_n' = get_or_from_slice_get ns k n n hn in
    elim (cases_lt j k) [
      | inl below ↦
          subst (λ (r : NodeRule). m.name ≢ r.name) is_n
          (subst (λ (q : NodeRule). q.name ≢ (get_or ns k m).name) is_m (pairs j k m below (slice_get_within ns k n hn)))
      | inr above ↦
          let under : k < j = omega (arith, above, ne) in
          let other : n.name ≢ m.name =
          subst (λ (r : NodeRule). n.name ≢ r.name) is_m'
          (subst (λ (q : NodeRule). q.name ≢ (get_or ns j n).name) is_n' (pairs k j n under (slice_get_within ns j m hm))) in
          (λ e. other (sym e))
    ]

-- no two files of a graph have one name
pub file_nodes-apart : (g : Graph) (s : StackValue) (prefix : List ℕ) → IsGraph g → AreApart (file_nodes g s prefix)
file_nodes-apart g s prefix sound j k x y hx hy ne =
    let a = of_node g s prefix 1 g.nodes j x hx in
    let b = of_node g s prefix 1 g.nodes k y hy in
    let nodes : x.node ≢ y.node = nodes-apart g s prefix 1 g.nodes j k x y hx hy ne in
    let places : a.place ≢ b.place = λ e. nodes (a.node ∙ ap (λ (n : ℕ). 1 + n) e ∙ sym b.node) in
    let names : a.rule.name ≢ b.rule.name = rules-apart g.nodes sound.names a.place b.place a.rule b.rule a.at b.at places in (
      nodes,
      λ i h hi hh e. names (names-differ prefix a.rule.name b.rule.name i h hi hh
          (ap (λ (t : List ℕ). t ++ group_number i ++ codes ".nc") (sym a.stem) ∙ e ∙ ap (λ (t : List ℕ). t ++ group_number h ++ codes ".nc") b.stem)).0,
    )

-- GROUPS FAR OFF

none_taken : {X : Type 0} (n : ℕ) → take {A = X} n [] ≡ []
none_taken zero = refl
none_taken (suc n) = refl

far-group : (count i : ℕ) (arrays : List Array) → length arrays < i → group_of count i arrays ≡ []
far-group zero i arrays far = refl
far-group (suc c) i arrays far =
    let long : i * 1 ≤ i * suc c = mul-le-mul (let same : i ≤ i = omega arith in same) (let one : 1 ≤ suc c = omega arith in one) in
    ap (take (suc c)) (drop_all (i * suc c) arrays (omega (arith, far, long))) ∙ none_taken (suc c)

pub far-none : (x : NodeFile) (arrays : List Array) (i : ℕ) → length arrays < i → group_file x arrays i ≡ None
far-none x arrays i far =
    let elsewhere : i ≢ length arrays / x.count = λ e. absurd (omega (arith, far, e, div-le_self (length arrays) x.count)) in
    ap (λ o. file_of o x.shape (group_of x.count i arrays)) (open-elsewhere x (length arrays) i elsewhere)
    ∙ ap (whole_file x.shape) (far-group x.count i arrays far)

-- NAMES THAT STAND

file-some : (o : Option Stream) (shape : FileShape) (zs : List Array) → IsSome (whole_file shape zs) → IsSome (file_of o shape zs)
file-some None shape zs h = h
file-some (Some f) shape zs h = refl

some-by : {X : Type 0} {a b : Option X} → a ≡ b → IsSome a → IsSome b
some-by {X} e h = subst (λ (o : Option X). IsSome o) e h

module _ (x : NodeFile) (o : Option Stream) (arrays : List Array) (g p : ℕ) (place : IsPlaceAfter x.count arrays g p) where
  -- a group's name that stood stands, whatever is written of the group that the next array goes to
  stands-on : (ys : List Array) (i : ℕ) → i ≢ g → group_of x.count i ys ≡ group_of x.count i arrays → IsSome (group_file x arrays i)
      → IsSome (group_file (record x { current = o }) ys i)
  stands-on ys i apart same h =
      let was : group_file x arrays i ≡ whole_file x.shape (group_of x.count i arrays) =
      ap (λ w. file_of w x.shape (group_of x.count i arrays)) (open-elsewhere x (length arrays) i (λ e. apart (e ∙ group-is x.count arrays g p place))) in
      file-some (open_at (record x { current = o }) (length ys) i) x.shape (group_of x.count i ys) (some-by (was ∙ ap (whole_file x.shape) (sym same)) h)

  stands-more : (a : Array) → IsSome (group_file (record x { current = o }) (arrays ++ a ∷ []) g)
  stands-more a =
      file-some (open_at (record x { current = o }) (length (arrays ++ a ∷ [])) g) x.shape (group_of x.count g (arrays ++ a ∷ []))
      (some-by (sym (ap (whole_file x.shape) (group-more x.count arrays a g p place) ∙ whole-some x.shape (group_of x.count g arrays) a)) refl)

-- APART

module _ (xs : List NodeFile) (k : ℕ) (x : NodeFile) (o : Option Stream) (at : slice_get xs k ≡ Some x) where
  abbrev ys : List NodeFile
  ys = set xs k (record x { current = o })

  -- which node each is of
  record Was (j : ℕ) (y : NodeFile) : Type 0 where
    old : NodeFile
    is : slice_get xs j ≡ Some old
    node : y.node ≡ old.node
    names : (i : ℕ) → name_of y i ≡ name_of old i

  was : (j : ℕ) (y : NodeFile) → slice_get ys j ≡ Some y → Was j y
  was j y h =
      elim (cases_eq j k) [
        | inl here ↦
            let same : record x { current = o } ≡ y = some-same (sym (get-set_same xs k x (record x { current = o }) at) ∙ ap (slice_get ys) (sym here) ∙ h) in
            record {
              old = x;
              is = ap (slice_get xs) here ∙ at;
              node = ap (λ (z : NodeFile). z.node) (sym same);
              names = λ i. ap (λ (z : NodeFile). name_of z i) (sym same);
            }
        | inr apart ↦ record { old = y; is = sym (get-set_other xs k j (record x { current = o }) apart) ∙ h; node = refl; names = λ i. refl }
      ]

  pub apart-kept : AreApart xs → AreApart ys
  apart-kept apart j l y z hy hz ne =
      let a = was j y hy in
      let b = was l z hz in
      let r = apart j l a.old b.old a.is b.is ne in
      ((λ e. r.0 (sym a.node ∙ e ∙ b.node)), (λ i h hi hh e. r.1 i h hi hh (sym (a.names i) ∙ e ∙ b.names h)))

  module _ (apart : AreApart xs) (g : ℕ) (small : g < 2 ^ 64) (before t u : Option Files) (written : ℕ → List Array) (h : AllWritten before xs written t)
      (changed : IsChangedAt t (name_of x g) u) where
    -- the files of another node
    other-bytes : (j : ℕ) (y : NodeFile) → slice_get xs j ≡ Some y → j ≢ k → (i : ℕ) → HasBytes u (name_of y i) (group_file y (written y.node) i)
    other-bytes j y is ne i =
        elim (cases_lt i (2 ^ 64)) [
          | inl low ↦
              changed-HasBytes t u (name_of x g) (name_of y i) (group_file y (written y.node) i) changed
              ((apart j k y x is at ne).1 i g low small) ((h.each j y is).each i)
          | inr high ↦ subst (HasBytes u (name_of y i)) (sym (far-none y (written y.node) i (omega (arith, high, h.few j y is)))) tt
        ]

    other-written : (j : ℕ) (y : NodeFile) → slice_get xs j ≡ Some y → j ≢ k → AreWritten y (written y.node) u
    other-written j y is ne = record { begun = (h.each j y is).begun; each = other-bytes j y is ne }

    module _ (now : ℕ → List Array) (still : (v : ℕ) → v ≢ x.node → now v ≡ written v) (more : length (now x.node) < 2 ^ 64)
        (mono : (i : ℕ) → IsSome (group_file x (written x.node) i) → IsSome (group_file (record x { current = o }) (now x.node) i)) where
      elsewhere : (q : List ℕ) → IsElsewhere ys now q → IsElsewhere xs written q
      elsewhere q away j y i is named =
          elim (cases_eq j k) [
            | inl here ↦
                let same : y ≡ x = some-same (sym is ∙ ap (slice_get xs) here ∙ at) in
                let has : IsSome (group_file x (written x.node) i) = subst (λ (z : NodeFile). IsSome (group_file z (written z.node) i)) same named in
                (λ e. away k (record x { current = o }) i (get-set_same xs k x (record x { current = o }) at) (mono i has)
                (e ∙ ap (λ (z : NodeFile). name_of z i) same))
            | inr ne ↦
                away j y i (get-set_other xs k j (record x { current = o }) ne ∙ is)
                (subst (λ (zs : List Array). IsSome (group_file y zs i)) (sym (still y.node (apart j k y x is at ne).0)) named)
          ]

      others-by : (changed_ : IsChangedAt t (name_of x g) u) → (IsSome (group_file (record x { current = o }) (now x.node) g) ⊎ (u ≡ t)) → (q : List ℕ)
          → IsElsewhere ys now q → file_at u q ≡ file_at before q
      others-by changed_ (inr same) q away = ap (λ w. file_at w q) same ∙ h.others q (elsewhere q away)
      others-by changed_ (inl named) q away =
          changed-file_at t u (name_of x g) q changed_ (away k (record x { current = o }) g (get-set_same xs k x (record x { current = o }) at) named)
          ∙ h.others q (elsewhere q away)

      pub all-then : AreWritten (record x { current = o }) (now x.node) u
          → (IsSome (group_file (record x { current = o }) (now x.node) g) ⊎ (u ≡ t)) → AllWritten before ys now u
      all-then mine named = record {
        told = changed-told t u (name_of x g) changed ∙ h.told;
        each = λ j y is. elim (cases_eq j k) [
          | inl here ↦
              let same : record x { current = o } ≡ y =
              some-same (sym (get-set_same xs k x (record x { current = o }) at) ∙ ap (slice_get ys) (sym here) ∙ is) in
              subst (λ (z : NodeFile). AreWritten z (now z.node) u) same mine
          | inr ne ↦
              let old = sym (get-set_other xs k j (record x { current = o }) ne) ∙ is in
              subst (λ (zs : List Array). AreWritten y zs u) (sym (still y.node (apart j k y x old at ne).0)) (other-written j y old ne)
        ];
        few = λ j y is. elim (cases_eq j k) [
          | inl here ↦
              let same : record x { current = o } ≡ y =
              some-same (sym (get-set_same xs k x (record x { current = o }) at) ∙ ap (slice_get ys) (sym here) ∙ is) in
              subst (λ (z : NodeFile). length (now z.node) < 2 ^ 64) same more
          | inr ne ↦
              let old = sym (get-set_other xs k j (record x { current = o }) ne) ∙ is in
              subst (λ (zs : List Array). length zs < 2 ^ 64) (sym (still y.node (apart j k y x old at ne).0)) (h.few j y old)
        ];
        others = others-by changed named;
      }

    pub all-but : AreWrittenBut (record x { current = o }) (written x.node) g u
        → ((i : ℕ) → i ≢ g → IsSome (group_file x (written x.node) i) → IsSome (group_file (record x { current = o }) (written x.node) i))
        → AllWrittenBut before ys written x g u
    all-but mine mono = record {
      told = changed-told t u (name_of x g) changed ∙ h.told;
      each = λ j y i is off. elim (cases_eq j k) [
        | inl here ↦
            let same : record x { current = o } ≡ y = some-same (sym (get-set_same xs k x (record x { current = o }) at) ∙ ap (slice_get ys) (sym here) ∙ is) in
            let away : i ≢ g = elim off [ inl other ↦ absurd (other (ap (λ (z : NodeFile). z.node) (sym same))) | inr ne ↦ ne ] in
            subst (λ (z : NodeFile). HasBytes u (name_of z i) (group_file z (written z.node) i)) same (mine i away)
        | inr ne ↦ other-bytes j y (sym (get-set_other xs k j (record x { current = o }) ne) ∙ is) ne i
      ];
      others = λ q off away. changed-file_at t u (name_of x g) q changed off ∙ h.others q (λ j y i is named. elim (cases_eq j k) [
        | inl here ↦
            let same : y ≡ x = some-same (sym is ∙ ap (slice_get xs) here ∙ at) in
            let has : IsSome (group_file x (written x.node) i) = subst (λ (z : NodeFile). IsSome (group_file z (written z.node) i)) same named in
            (λ e. elim (cases_eq i g) [
              | inl torn ↦ off (e ∙ ap (λ (z : NodeFile). name_of z i) same ∙ ap (name_of x) torn)
              | inr ne ↦
                  away k (record x { current = o }) i (get-set_same xs k x (record x { current = o }) at) (mono i ne has)
                  (e ∙ ap (λ (z : NodeFile). name_of z i) same)
            ])
        | inr ne ↦ away j y i (get-set_other xs k j (record x { current = o }) ne ∙ is) named
      ]);
    }

    module _ (p : ℕ) (place : IsPlaceAfter x.count (written x.node) g p) (a : Array) where
      here-is : with_array written x.node a x.node ≡ written x.node ++ a ∷ []
      here-is = ap (λ b. if b then written x.node ++ a ∷ [] else written x.node) (eq-eqb x.node x.node refl)

      elsewhere-is : (v : ℕ) → v ≢ x.node → with_array written x.node a v ≡ written v
      elsewhere-is v ne = ap (λ b. if b then written v ++ a ∷ [] else written v) (ne_eqb v x.node ne)

      -- each name that stood still stands
      names-more : (i : ℕ) → IsSome (group_file x (written x.node) i)
          → IsSome (group_file (record x { current = o }) (with_array written x.node a x.node) i)
      names-more i named =
          elim (cases_eq i g) [
            | inl at_ ↦
                subst (λ (n : ℕ). IsSome (group_file (record x { current = o }) (with_array written x.node a x.node) n)) (sym at_)
                (subst (λ (zs : List Array). IsSome (group_file (record x { current = o }) zs g)) (sym here-is) (stands-more x o (written x.node) g p place a))
            | inr ne ↦ subst (λ (zs : List Array). IsSome (group_file (record x { current = o }) zs i)) (sym here-is)
                (stands-on x o (written x.node) g p place (written x.node ++ a ∷ []) i ne (group-other x.count (written x.node) a g p place i ne) named)
          ]

      -- and a name that is none of these now was none before
      pub elsewhere-more : length (written x.node ++ a ∷ []) < 2 ^ 64 → (q : List ℕ) → IsElsewhere ys (with_array written x.node a) q
          → IsElsewhere xs written q
      elsewhere-more few q away =
          elsewhere (with_array written x.node a) elsewhere-is (subst (λ (zs : List Array). length zs < 2 ^ 64) (sym here-is) few) names-more q away

      -- an array more
      pub all-more : length (written x.node ++ a ∷ []) < 2 ^ 64 → AreWritten (record x { current = o }) (written x.node ++ a ∷ []) u
          → AllWritten before ys (with_array written x.node a) u
      all-more few mine =
          let P = λ (zs : List Array). IsSome (group_file (record x { current = o }) zs g) in
          all-then (with_array written x.node a) elsewhere-is (subst (λ (zs : List Array). length zs < 2 ^ 64) (sym here-is) few) names-more
          (subst (λ (zs : List Array). AreWritten (record x { current = o }) zs u) (sym here-is) mine)
          (inl (subst P (sym here-is) (stands-more x o (written x.node) g p place a)))

      here-some : (f : Stream) → o ≡ Some f → IsSome (group_file (record x { current = o }) (written x.node) g)
      here-some f is =
          some-by (sym (ap (λ w. file_of w x.shape (group_of x.count g (written x.node)))
          (open-here (record x { current = o }) (length (written x.node)) g (sym (group-is x.count (written x.node) g p place)) ∙ is))) refl

      held-back : (old : Option Stream) → old ≡ x.current → (new : Option Stream) → new ≡ o → IsHeldBack old new t u
          → AreWritten (record x { current = o }) (written x.node) u → AllWritten before ys written u
      held-back (Some f) was_ new is back mine =
          let same : o ≡ x.current = sym is ∙ back.0 ∙ was_ in
          all-then written (λ v ne. refl) (h.few k x at)
          (λ i named. subst (λ (w : Option Stream). IsSome (group_file (record x { current = w }) (written x.node) i)) (sym same) named) mine (inr back.1)
      held-back None was_ None is back mine =
          let same : o ≡ x.current = sym is ∙ was_ in
          all-then written (λ v ne. refl) (h.few k x at)
          (λ i named. subst (λ (w : Option Stream). IsSome (group_file (record x { current = w }) (written x.node) i)) (sym same) named) mine (inr back)
      held-back None was_ (Some f) is back mine =
          all-then written (λ v ne. refl) (h.few k x at)
          (λ i named. elim (cases_eq i g) [
            | inl at_ ↦ subst (λ (n : ℕ). IsSome (group_file (record x { current = o }) (written x.node) n)) (sym at_) (here-some f (sym is))
            | inr ne ↦ stands-on x o (written x.node) g p place (written x.node) i ne refl named
          ]) mine (inl (here-some f (sym is)))

      -- a write that stopped
      pub all-stops : (fault : SaveFault) (numrecs : Option ℕ) → WriteStops fault x (written x.node) g numrecs a (record x { current = o }) t u
          → AllStops fault before x ys written g numrecs a t u
      all-stops OutOfMemory numrecs stops = held-back x.current refl o refl stops.1 stops.0
      all-stops Failed numrecs stops = (all-but stops.1 (λ i ne named. stands-on x o (written x.node) g p place (written x.node) i ne refl named), stops.2)
