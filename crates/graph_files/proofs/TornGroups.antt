-- What the names of a graph's groups have after a fault, by the files of its nodes and then by their rules.
use Rattle.std.proofs.Common.{◌≡◌, ◌≢◌, ◌⊎◌, ℕ, ◌/◌, ◌<◌, ◌≤◌, Bool, true, false, List, [], ◌++◌, length, ap, subst, arith, Option, Some, None}
use Rattle.std.specs.Prelude.{slice_get}
use Rattle.std.proofs.lemmas.Bool.{false≢true}
use Rattle.nd_base.specs.Array.{Array, StackValue}
use Rattle.nd_base.specs.GraphRules.{rule_at}
use Rattle.nd_base.specs.declared.attribute.FileShape.{FileShape}
use Rattle.nd_base.specs.declared.graph.FileRule.{FileRule}
use Rattle.nd_base.specs.declared.graph.Graph.{Graph}
use Rattle.nd_base.specs.declared.graph.Kind.TheVariants.{File}
use Rattle.nd_base.specs.declared.graph.NodeRule.{NodeRule}
use Rattle.edge_traits.specs.Files.{Files, HasFile, file_at}
use Rattle.cdf_write.specs.Layout.{layout}
use Rattle.file_out.specs.Streams.{Stream, begun_file}
use Rattle.graph_files.specs.Groups.{group_of, HasBytes}
use Rattle.graph_files.specs.Interrupted.{IsCountOf}
use Rattle.graph_files.specs.NodeFiles.{NodeFile, group_file, name_of}
use Rattle.graph_files.specs.OutFiles.{file_shape, group_name, is_stream}
use Rattle.graph_files.specs.TornGroups.{IsTornAt, AreTornGroups}
use Rattle.graph_files.proofs.BegunBytes.{GroupHas, Nothing, Whole, Opened, full-file, short-file}

-- what each name of a group has, where these were written and the shelf failed on this group of this node
pub record NamesHave (xs : List NodeFile) (final W : ℕ → List Array) (before now : Option Files) (node group : ℕ) (coming : List Array)
    (ending : Bool) : Type 0 where
  pub first : (v : ℕ) → (rest : List Array) × (final v ≡ W v ++ rest)
  pub place : (j : ℕ) (x : NodeFile) → slice_get xs j ≡ Some x → x.node ≡ node → group ≡ length (W x.node) / x.count
  pub none : ending ≡ true → coming ≡ []
  pub all : ending ≡ true → (j : ℕ) (x : NodeFile) → slice_get xs j ≡ Some x → W x.node ≡ final x.node
  pub torn : (j : ℕ) (x : NodeFile) → slice_get xs j ≡ Some x → x.node ≡ node
      → IsTornAt x.late x.shape (group_of x.count group (final x.node)) (group_of x.count group (W x.node)) coming before now (name_of x group)
  pub untouched : (j i : ℕ) (x : NodeFile) → slice_get xs j ≡ Some x → (x.node ≢ node) ⊎ (i ≢ group) → 1 ≤ length (group_of x.count i (final x.node))
      → group_of x.count i (W x.node) ≡ [] → file_at now (name_of x i) ≡ file_at before (name_of x i)
  pub whole : (j i : ℕ) (x : NodeFile) → slice_get xs j ≡ Some x → (x.node ≢ node) ⊎ (i ≢ group) → length (group_of x.count i (W x.node)) ≡ x.count
      → HasFile now (name_of x i) (layout x.shape (group_of x.count i (W x.node)))
  pub ended : ending ≡ true → (j i : ℕ) (x : NodeFile) → slice_get xs j ≡ Some x → (x.node ≢ node) ⊎ (i ≢ group) → x.node ≤ node
      → 1 ≤ length (group_of x.count i (W x.node)) → HasFile now (name_of x i) (layout x.shape (group_of x.count i (W x.node)))
  pub begun : (j i : ℕ) (x : NodeFile) → slice_get xs j ≡ Some x → (x.node ≢ node) ⊎ (i ≢ group) → (ending ≡ true → node < x.node)
      → 1 ≤ length (group_of x.count i (W x.node)) → length (group_of x.count i (W x.node)) < x.count
      → (numrecs : Option ℕ) × IsCountOf x.late (length (group_of x.count i (final x.node))) numrecs
      × HasFile now (name_of x i) (begun_file x.shape numrecs (group_of x.count i (W x.node)))

-- BY THE RULES

-- the files of a node of this rule
pub record FilesOfRule (g : Graph) (s : StackValue) (prefix : List ℕ) (xs : List NodeFile) (v : ℕ) (n : NodeRule) (r : FileRule) : Type 0 where
  pub at : ℕ
  pub files : NodeFile
  pub listed : slice_get xs at ≡ Some files
  pub node : files.node ≡ v
  pub rule : rule_at g.nodes files.node ≡ Some n
  pub count : files.count ≡ r.count
  pub late : files.late ≡ is_stream r.mode
  pub shape : files.shape ≡ file_shape g s v
  pub some : 1 ≤ files.count
  pub named : (i : ℕ) → name_of files i ≡ group_name prefix n.name i

module _ (g : Graph) (s : StackValue) (prefix : List ℕ) (xs : List NodeFile)
    (files : (v : ℕ) (n : NodeRule) (r : FileRule) → rule_at g.nodes v ≡ Some n → n.kind ≡ File r → FilesOfRule g s prefix xs v n r) where
  -- what holds by the files holds by the rule
  pub by-rule : (P : (name : List ℕ) → FileShape → (count : ℕ) → (late : Bool) → (v : ℕ) → Type 0) (v i : ℕ) (n : NodeRule) (r : FileRule)
      (f : FilesOfRule g s prefix xs v n r)
      → P (name_of f.files i) f.files.shape f.files.count f.files.late f.files.node
      → P (group_name prefix n.name i) (file_shape g s v) r.count (is_stream r.mode) v
  by-rule P v i n r f h =
      let name = group_name prefix n.name i in
      subst (λ (w : ℕ). P name (file_shape g s v) r.count (is_stream r.mode) w) f.node
      (subst (λ (l : Bool). P name (file_shape g s v) r.count l f.files.node) f.late
      (subst (λ (c : ℕ). P name (file_shape g s v) c f.files.late f.files.node) f.count
      (subst (λ (sh : FileShape). P name sh f.files.count f.files.late f.files.node) f.shape
      (subst (λ (q : List ℕ). P q f.files.shape f.files.count f.files.late f.files.node) (f.named i) h))))

  unfoldable pub torn-groups : (final W : ℕ → List Array) (before now : Option Files) (node group : ℕ) (coming : List Array) (ending : Bool)
      → NamesHave xs final W before now node group coming ending → AreTornGroups g s prefix final W before now
  torn-groups final W before now node group coming ending h = record {
    first = h.first;
    node = node;
    group = group;
    coming = coming;
    place = λ n r rule kind.
        let f = files node n r rule kind in
        by-rule (λ name sh c l w. group ≡ length (W w) / c) node group n r f (h.place f.at f.files f.listed f.node);
    torn = λ n r rule kind.
        let f = files node n r rule kind in
        by-rule (λ name sh c l w. IsTornAt l sh (group_of c group (final w)) (group_of c group (W w)) coming before now name) node group n r f
        (h.torn f.at f.files f.listed f.node);
    ending = ending;
    none = h.none;
    all = λ yes v n r rule kind. let f = files v n r rule kind in subst (λ (w : ℕ). W w ≡ final w) f.node (h.all yes f.at f.files f.listed);
    untouched = λ v i n r rule kind off some none_.
        let f = files v n r rule kind in
        by-rule (λ name sh c l w. (w ≢ node) ⊎ (i ≢ group) → 1 ≤ length (group_of c i (final w)) → group_of c i (W w) ≡ []
        → file_at now name ≡ file_at before name) v i n r f (λ off_ filled empty_. h.untouched f.at i f.files f.listed off_ filled empty_) off some none_;
    whole = λ v i n r rule kind off full.
        let f = files v n r rule kind in
        by-rule (λ name sh c l w. (w ≢ node) ⊎ (i ≢ group) → length (group_of c i (W w)) ≡ c → HasFile now name (layout sh (group_of c i (W w)))) v i n r f
        (λ off_ full_. h.whole f.at i f.files f.listed off_ full_) off full;
    ended = λ yes v i n r rule kind off first_ some.
        let f = files v n r rule kind in
        by-rule (λ name sh c l w. (w ≢ node) ⊎ (i ≢ group) → w ≤ node → 1 ≤ length (group_of c i (W w))
        → HasFile now name (layout sh (group_of c i (W w)))) v i n r f
        (λ off_ low some_. h.ended yes f.at i f.files f.listed off_ low some_) off first_ some;
    begun = λ v i n r rule kind off behind some short.
        let f = files v n r rule kind in
        by-rule (λ name sh c l w. (w ≢ node) ⊎ (i ≢ group) → (ending ≡ true → node < w) → 1 ≤ length (group_of c i (W w)) → length (group_of c i (W w)) < c
        → (numrecs : Option ℕ) × IsCountOf l (length (group_of c i (final w))) numrecs × HasFile now name (begun_file sh numrecs (group_of c i (W w))))
        v i n r f (λ off_ behind_ some_ short_. h.begun f.at i f.files f.listed off_ behind_ some_ short_) off behind some short;
  }

-- WHERE NO FILE WAS TO END

-- where each name but one has what was written
module _ (xs : List NodeFile) (final W : ℕ → List Array) (before now : Option Files) (node group : ℕ) (coming : List Array)
    (holds : (j i : ℕ) (x : NodeFile) → slice_get xs j ≡ Some x → (x.node ≢ node) ⊎ (i ≢ group) → GroupHas x (W x.node) i)
    (has : (j i : ℕ) (x : NodeFile) → slice_get xs j ≡ Some x → (x.node ≢ node) ⊎ (i ≢ group) → HasBytes now (name_of x i) (group_file x (W x.node) i))
    (still : (j i : ℕ) (x : NodeFile) → slice_get xs j ≡ Some x → (x.node ≢ node) ⊎ (i ≢ group) → 1 ≤ length (group_of x.count i (final x.node))
    → group_file x (W x.node) i ≡ None → file_at now (name_of x i) ≡ file_at before (name_of x i))
    (some : (j : ℕ) (x : NodeFile) → slice_get xs j ≡ Some x → 1 ≤ x.count)
    (row : (j i : ℕ) (x : NodeFile) (f : Stream) → slice_get xs j ≡ Some x → (x.node ≢ node) ⊎ (i ≢ group) → x.current ≡ Some f
    → i ≡ length (W x.node) / x.count → 1 ≤ length (group_of x.count i (W x.node)))
    (count : (j i : ℕ) (x : NodeFile) (f : Stream) → slice_get xs j ≡ Some x → (x.node ≢ node) ⊎ (i ≢ group) → x.current ≡ Some f
    → i ≡ length (W x.node) / x.count → IsCountOf x.late (length (group_of x.count i (final x.node))) f.numrecs)
    (first : (v : ℕ) → (rest : List Array) × (final v ≡ W v ++ rest))
    (place : (j : ℕ) (x : NodeFile) → slice_get xs j ≡ Some x → x.node ≡ node → group ≡ length (W x.node) / x.count)
    (torn : (j : ℕ) (x : NodeFile) → slice_get xs j ≡ Some x → x.node ≡ node
    → IsTornAt x.late x.shape (group_of x.count group (final x.node)) (group_of x.count group (W x.node)) coming before now (name_of x group)) where
  untouched-by : (j i : ℕ) (x : NodeFile) → slice_get xs j ≡ Some x → (x.node ≢ node) ⊎ (i ≢ group) → 1 ≤ length (group_of x.count i (final x.node))
      → group_of x.count i (W x.node) ≡ [] → GroupHas x (W x.node) i → file_at now (name_of x i) ≡ file_at before (name_of x i)
  untouched-by j i x at off filled empty_ (Nothing none_) = still j i x at off filled none_
  untouched-by j i x at off filled empty_ (Whole full is) = absurd (omega (arith, full, some j x at, ap (λ (zs : List Array). length zs) empty_))
  untouched-by j i x at off filled empty_ (Opened f open_ here is) =
      absurd (omega (arith, row j i x f at off open_ here, ap (λ (zs : List Array). length zs) empty_))

  pub names-but : NamesHave xs final W before now node group coming false
  names-but = record {
    first = first;
    place = place;
    none = λ clash. absurd (false≢true clash);
    all = λ clash. absurd (false≢true clash);
    torn = torn;
    untouched = λ j i x at off filled empty_. untouched-by j i x at off filled empty_ (holds j i x at off);
    whole = λ j i x at off full.
        subst (HasBytes now (name_of x i)) (full-file x (W x.node) i (some j x at) full (holds j i x at off)) (has j i x at off);
    ended = λ clash. absurd (false≢true clash);
    begun = λ j i x at off behind some_ short.
        let o = short-file x (W x.node) i some_ short (holds j i x at off) in
        (o.0.numrecs, count j i x o.0 at off o.1 o.2, subst (HasBytes now (name_of x i)) o.3 (has j i x at off));
  }
