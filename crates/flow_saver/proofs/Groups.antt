-- The file nodes of a graph and their names, and that the files of a finished log are whole groups.
use Rattle.std.proofs.Common.{◌≡◌, ℕ, zero, suc, ◌+◌, ◌/◌, ◌%◌, ◌<◌, ◌≤◌, Bool, true, false, ◌&&◌, eqb, List, [], ◌∷◌, ◌++◌, length, map, refl, sym, ap}
use Rattle.std.proofs.Common.{subst, ◌∙◌, arith, inl, inr, Option, Some, None}
use Rattle.std.specs.Prelude.{slice_get, IsSome, is_some}
use Rattle.std.specs.List.{list_all}
use Rattle.std.specs.Option.{option_map, ForSome}
use Rattle.std.proofs.Math.Nat.{mod-lt}
use Rattle.std.proofs.lemmas.Nat.{div-add-mod'}
use Rattle.std.proofs.lemmas.Bool.{and_parts, cases_lt, false≢true}
use Rattle.std.proofs.lemmas.Option.{slice_get-map, same_Some}
use Rattle.nd_base.specs.Array.{Array, StackValue}
use Rattle.nd_base.specs.GraphRules.{IsGraph, rule_at}
use Rattle.nd_base.specs.declared.attribute.FileShape.{FileShape}
use Rattle.nd_base.specs.declared.frame.FrameName.{FrameName}
use Rattle.nd_base.specs.declared.graph.FileRule.{FileRule}
use Rattle.nd_base.specs.declared.graph.Graph.{Graph}
use Rattle.nd_base.specs.declared.graph.Kind.{Kind}
use Rattle.nd_base.specs.declared.graph.Kind.TheVariants.{Roi, Stats, Circular, File, Scatter}
use Rattle.nd_base.specs.declared.graph.NodeRule.{NodeRule}
use Rattle.edge_traits.specs.Files.{Files, HasFile}
use Rattle.file_out.specs.Streams.{Stream}
use Rattle.flow_journal.specs.Accounts.{arrays_at}
use Rattle.flow_journal.specs.Queued.{queued}
use Rattle.flow_journal.specs.Waiting.{Waiting, waiting}
use Rattle.flow_journal.specs.Rings.{ring}
use Rattle.flow_journal.specs.Setting.{Setting, Node, is_node, last_role, numbers_from, node_numbers}
use Rattle.flow_journal.specs.Pasts.{Past}
use Rattle.flow_journal.specs.Ended.{is_closed, is_settled}
use Rattle.flow_journal.specs.Offered.{next_index}
use Rattle.flow_journal.specs.Hands.{hands}
use Rattle.flow_journal.specs.Puts.{puts}
use Rattle.flow_journal.specs.Finished.{none_left, is_done, is_finished}
use Rattle.flow_journal.specs.Histories.{is_legal}
use Rattle.flow_journal.specs.Unsaved.{unsaved, standing_saves, is_file}
use Rattle.flow_journal.proofs.Dues.{due_laws}
use Rattle.flow_journal.proofs.Found.{none_left-nil}
use Rattle.board_rules.specs.States.{BoardState, past}
use Rattle.board_rules.specs.Movers.{moves_by}
use Rattle.board_rules.specs.RunMeasures.{run_setting}
use Rattle.run_laws.specs.Results.{contents}
use Rattle.flow_drain.proofs.Rounds.{node-above}
use Rattle.graph_files.specs.Groups.{group_of, whole_file, HasBytes}
use Rattle.graph_files.specs.NodeFiles.{NodeFile, IsOpenAfter, IsFilled, Same, group_file, name_of, node_file}
use Rattle.graph_files.proofs.Writes.{end-rows}
use Rattle.graph_files.proofs.BegunBytes.{GroupHas, Nothing, Whole, Opened, group-has}
use Rattle.graph_files.proofs.TornGroups.{FilesOfRule}
use Rattle.graph_files.specs.OpenFiles.{kind_node, nodes_from, file_nodes, closed}
use Rattle.graph_files.specs.OpenFileLaws.{of_node}
use Rattle.graph_files.specs.EndedFiles.{AllEnded}
use Rattle.graph_files.specs.OutFiles.{file_shape, group_name, is_stream}
use Rattle.flow_saver.specs.GivenBack.{given_back, written_by}
use Rattle.flow_saver.specs.HistoryFiles.{kind_group, HoldsGroupsOf}
use Rattle.flow_saver.specs.Saver.{IsFirstCount}
use Rattle.flow_saver.specs.Remaining.{IsSavingAlone}
use Rattle.flow_saver.proofs.Due.{OfFile, of_file}
use Rattle.flow_saver.proofs.Saves.{saves-stand, saves-mine}

-- WHICH FILES

-- the files of a node in a list of files
pub record FilesAt (xs : List NodeFile) (v : ℕ) : Type 0 where
  pub at : ℕ
  pub files : NodeFile
  pub listed : slice_get xs at ≡ Some files
  pub node : files.node ≡ v

module _ (g : Graph) (stack : StackValue) (prefix : List ℕ) where
  later : (u : ℕ) (n : NodeRule) (ns : List NodeRule) (c : Kind) (v : ℕ) → FilesAt (nodes_from g stack prefix (u + 1) ns) v
      → FilesAt (kind_node g stack prefix u n.name c ++ nodes_from g stack prefix (u + 1) ns) v
  later u n ns (File r) v h = record { at = suc h.at; files = h.files; listed = h.listed; node = h.node }
  later u n ns (Roi r) v h = h
  later u n ns (Stats r) v h = h
  later u n ns (Circular r) v h = h
  later u n ns Scatter v h = h

  first : (u : ℕ) (n : NodeRule) (ns : List NodeRule) (r : FileRule) (c : Kind) → c ≡ File r
      → FilesAt (kind_node g stack prefix u n.name c ++ nodes_from g stack prefix (u + 1) ns) u
  first u n ns r (File q) is = record { at = 0; files = node_file g stack prefix u q n.name; listed = refl; node = refl }
  first u n ns r (Roi q) is = cc
  first u n ns r (Stats q) is = cc
  first u n ns r (Circular q) is = cc
  first u n ns r Scatter is = cc

  files-from : (u : ℕ) (ns : List NodeRule) (k : ℕ) (n : NodeRule) (r : FileRule) → slice_get ns k ≡ Some n → n.kind ≡ File r
      → FilesAt (nodes_from g stack prefix u ns) (u + k)
  files-from u [] k n r at kind = let none_ : None ≡ Some n = at in absurd (cc)
  files-from u (m ∷ ns) zero n r at kind =
      let same : m ≡ n = same_Some m n at in
      subst (λ (w : ℕ). FilesAt (nodes_from g stack prefix u (m ∷ ns)) w)
      (let e : u ≡ u + 0 = omega arith in e) (first u m ns r m.kind (ap (λ (q : NodeRule). q.kind) same ∙ kind))
  files-from u (m ∷ ns) (suc k) n r at kind =
      later u m ns m.kind (u + suc k) (subst (λ (w : ℕ). FilesAt (nodes_from g stack prefix (u + 1) ns) w)
      (let e : u + 1 + k ≡ u + suc k = omega arith in e) (files-from (u + 1) ns k n r at kind))

  -- each file node has its files
  pub files-of : (v : ℕ) (n : NodeRule) (r : FileRule) → rule_at g.nodes v ≡ Some n → n.kind ≡ File r → FilesAt (file_nodes g stack prefix) v
  files-of zero n r at kind = let none_ : None ≡ Some n = at in absurd (cc)
  files-of (suc k) n r at kind =
      subst (λ (w : ℕ). FilesAt (file_nodes g stack prefix) w) (let e : 1 + k ≡ suc k = omega arith in e) (files-from 1 g.nodes k n r at kind)

  pub of-open : (xs : List NodeFile) (k : ℕ) (y : NodeFile) → slice_get (map closed xs) k ≡ Some y → (x : NodeFile) × (slice_get xs k ≡ Some x) × (closed x ≡ y)
  of-open [] k y h = let none_ : None ≡ Some y = h in absurd (cc)
  of-open (x ∷ xs) zero y h = (x, refl, same_Some (closed x) y h)
  of-open (x ∷ xs) (suc k) y h = of-open xs k y h

  pub open-files-of : (xs : List NodeFile) → map closed xs ≡ file_nodes g stack prefix → (v : ℕ) (n : NodeRule) (r : FileRule)
      → rule_at g.nodes v ≡ Some n → n.kind ≡ File r → FilesAt xs v
  open-files-of xs nodes v n r at kind =
      let f = files-of v n r at kind in
      let o = of-open xs f.at f.files (ap (λ (zs : List NodeFile). slice_get zs f.at) nodes ∙ f.listed) in
      record { at = f.at; files = o.0; listed = o.1; node = ap (λ (z : NodeFile). z.node) o.2 ∙ f.node }

  -- and the names of its groups
  pub group-named : (xs : List NodeFile) → map closed xs ≡ file_nodes g stack prefix → (k : ℕ) (x : NodeFile) (n : NodeRule) → slice_get xs k ≡ Some x
      → rule_at g.nodes x.node ≡ Some n → (i : ℕ) → name_of x i ≡ group_name prefix n.name i
  group-named xs nodes k x n at rule i =
      let there : slice_get (file_nodes g stack prefix) k ≡ Some (closed x) =
      ap (λ (ys : List NodeFile). slice_get ys k) (sym nodes) ∙ slice_get-map closed xs k ∙ ap (option_map closed) at in
      let o = of_node g stack prefix 1 g.nodes k (closed x) there in
      let place : x.node ≡ suc o.place = o.node ∙ omega arith in
      let same : o.rule ≡ n = same_Some o.rule n (sym (ap (rule_at g.nodes) place ∙ o.at) ∙ rule) in
      ap (λ (y : NodeFile). name_of y i) o.whole ∙ ap (λ (m : NodeRule). group_name prefix m.name i) same

-- A FINISHED LOG

pub some-is : (o : Option (List ℕ)) → IsSome o → (bytes : List ℕ) × (o ≡ Some bytes)
some-is None h = absurd (false≢true h)
some-is (Some bytes) h = (bytes, refl)

all-numbers : (p : ℕ → Bool) (from : ℕ) (ns : List Node) → list_all p (numbers_from from ns) ≡ true → (v : ℕ) → from ≤ v → v < from + length ns → p v ≡ true
all-numbers p from [] h v low high = absurd (omega (arith, low, high))
all-numbers p from (n ∷ ns) h v low high =
    let a = and_parts (p from) (list_all p (numbers_from (from + 1) ns)) h in
    elim (cases_lt from v) [
      | inl above ↦ all-numbers p (from + 1) ns a.1 v (omega (arith, above)) (omega (arith, high))
      | inr here ↦ let same : from ≡ v = omega (arith, low, here) in subst (λ (w : ℕ). p w ≡ true) same a.0
    ]

last-none : {X : Type 0} (xs ys : List X) → xs ++ ys ≡ [] → ys ≡ []
last-none [] ys h = h
last-none (x ∷ xs) ys h = cc

pub all-saved : (s : Setting) (P : Past) (v : ℕ) → is_finished s P ≡ true → is_node s v ≡ true → unsaved s v P ≡ []
all-saved s P v h here =
    let a = and_parts (is_closed P && eqb (next_index P) (length s.ids) && none_left (hands P)) (list_all (is_done s P) (node_numbers s)) h in
    let n = node-above s v here in
    let d = and_parts (is_settled v P) (none_left (arrays_at s P v)) (all-numbers (is_done s P) 1 s.nodes a.1 v (omega (arith, n.0)) (omega (arith, n.1))) in
    last-none (queued v P ++ map (λ (w : Waiting). w.array) (waiting s v P) ++ ring s v P) (unsaved s v P) (none_left-nil (arrays_at s P v) d.1)

module _ (g : Graph) (stack : StackValue) (P : Past) where
  kind-by : (n : NodeRule) (c : Kind) (v i : ℕ) (bytes : List ℕ) → n.kind ≡ c → kind_group g stack P v n.kind i ≡ Some bytes
      → (r : FileRule) × (n.kind ≡ File r)
  kind-by n (File r) v i bytes kind is = (r, kind)
  kind-by n (Roi r) v i bytes kind is = let none_ : None ≡ Some bytes = ap (λ (c : Kind). kind_group g stack P v c i) (sym kind) ∙ is in absurd (cc)
  kind-by n (Stats r) v i bytes kind is = let none_ : None ≡ Some bytes = ap (λ (c : Kind). kind_group g stack P v c i) (sym kind) ∙ is in absurd (cc)
  kind-by n (Circular r) v i bytes kind is = let none_ : None ≡ Some bytes = ap (λ (c : Kind). kind_group g stack P v c i) (sym kind) ∙ is in absurd (cc)
  kind-by n Scatter v i bytes kind is = let none_ : None ≡ Some bytes = ap (λ (c : Kind). kind_group g stack P v c i) (sym kind) ∙ is in absurd (cc)

  -- a node that has the file of a group is a file node
  pub file-kind : (n : NodeRule) (v i : ℕ) (bytes : List ℕ) → kind_group g stack P v n.kind i ≡ Some bytes → (r : FileRule) × (n.kind ≡ File r)
  file-kind n v i bytes is = kind-by n n.kind v i bytes refl is

module _ (g : Graph) (stack : StackValue) (sound : IsGraph g) (prefix : List ℕ) (before : Option Files) (b : BoardState) (xs : List NodeFile)
    (fault : Bool) (held : Option Files)
    (h : IsSavingAlone g stack prefix before b xs fault held) where
  abbrev s : Setting
  s = run_setting g stack

  abbrev own : Past
  own = past (moves_by (last_role s) b)

  abbrev written : ℕ → List Array
  written = written_by g stack own

  legal : is_legal s (past b) ≡ true
  legal = (and_parts (is_legal s (past b)) _ h.legal).0

  -- what was given back is what the saves of the log took
  pub given-is : (v : ℕ) → standing_saves v (past b) ≡ given_back v own
  given-is v = saves-stand s v (past b) legal h.drained ∙ saves-mine s v b h.drained ∙ h.saving.alike v

  pub written-is : (v : ℕ) → written v ≡ contents g.nodes stack.arrays (standing_saves v (past b))
  written-is v = ap (λ (ns : List FrameName). contents g.nodes stack.arrays ns) (sym (given-is v))

  -- the file of a group, as its node's files have it
  pub group-is : (k : ℕ) (x : NodeFile) (at : slice_get xs k ≡ Some x) (n : NodeRule) (i : ℕ) → rule_at g.nodes x.node ≡ Some n
      → kind_group g stack (past b) x.node n.kind i ≡ whole_file x.shape (group_of x.count i (written x.node))
  group-is k x at n i rule =
      let f = of_file g stack prefix xs k x sound h.saving.nodes at in
      let same : n ≡ f.rule = same_Some n f.rule (sym rule ∙ f.at) in
      ap (λ (m : NodeRule). kind_group g stack (past b) x.node m.kind i) same ∙ ap (λ (c : Kind). kind_group g stack (past b) x.node c i) f.kind
      ∙ ap (λ (zs : List Array). whole_file (file_shape g stack x.node) (group_of f.file.count i zs)) (sym (written-is x.node))
      ∙ ap (λ (c : ℕ). whole_file (file_shape g stack x.node) (group_of c i (written x.node))) (sym f.count)
      ∙ ap (λ (sh : FileShape). whole_file sh (group_of x.count i (written x.node))) (sym f.shape)

  file-same : (m q : FileRule) → File m ≡ File q → m ≡ q
  file-same m q e = cc

  -- a file node's files, and what they are of
  pub files-of-rule : (v : ℕ) (n : NodeRule) (r : FileRule) → rule_at g.nodes v ≡ Some n → n.kind ≡ File r → FilesOfRule g stack prefix xs v n r
  files-of-rule v n r rule kind =
      let f = open-files-of g stack prefix xs h.saving.nodes v n r rule kind in
      let x = f.files in
      let o = of_file g stack prefix xs f.at x sound h.saving.nodes f.listed in
      let here : rule_at g.nodes x.node ≡ Some n = ap (rule_at g.nodes) f.node ∙ rule in
      let same : o.rule ≡ n = same_Some o.rule n (sym o.at ∙ here) in
      let file_ : o.file ≡ r = file-same o.file r (sym o.kind ∙ ap (λ (m : NodeRule). m.kind) same ∙ kind) in
      record {
        at = f.at;
        files = x;
        listed = f.listed;
        node = f.node;
        rule = here;
        count = o.count ∙ ap (λ (q : FileRule). q.count) file_;
        late = o.late ∙ ap (λ (q : FileRule). is_stream q.mode) file_;
        shape = o.shape ∙ ap (λ (w : ℕ). file_shape g stack w) f.node;
        some = omega (arith, o.count, o.sound.count.0);
        named = group-named g stack prefix xs h.saving.nodes f.at x n f.listed here;
      }

  module _ (finished : is_finished s (past b) ≡ true) (k : ℕ) (x : NodeFile) (at : slice_get xs k ≡ Some x) where
    pub file : OfFile g stack x
    file = of_file g stack prefix xs k x sound h.saving.nodes at

    -- and these are all that were put
    pub all-written : length (puts x.node (past b)) ≡ length (written x.node)
    all-written =
        let none_ : length (unsaved s x.node (past b)) ≡ 0 = ap (λ (ns : List FrameName). length ns) (all-saved s (past b) x.node finished file.number) in
        let count = due_laws.counts s x.node (past b) legal (ap is_file file.work) in
        omega (arith, count, none_, ap (λ (ns : List FrameName). length ns) (given-is x.node), h.saving.whole x.node)

filled-by : (x : NodeFile) (P : Past) (n : ℕ) (o : Option Stream) (late : Bool) → 1 ≤ x.count → length (puts x.node P) ≡ n → IsOpenAfter x n o
    → ((f : Stream) → o ≡ Some f → 1 ≤ f.count)
    → ((f : Stream) → o ≡ Some f → IsFirstCount P x.node x.count (n / x.count) late f.numrecs) → IsFilled o
filled-by x P n None late some all begun row opened = tt
filled-by x P n (Some f) late some all begun row opened =
    let rows : f.count ≡ n % x.count = ap (λ (d : Stream). d.count) begun in
    (row f refl, numrecs-by late f.numrecs (opened f refl) rows)
  where
    numrecs-by : (late : Bool) (numrecs : Option ℕ) → IsFirstCount P x.node x.count (n / x.count) late numrecs → f.count ≡ n % x.count
        → ForSome numrecs (λ (k : ℕ). k ≡ f.count)
    numrecs-by true numrecs is rows k some_ = let none_ : None ≡ Some k = sym is ∙ some_ in absurd (cc)
    numrecs-by false numrecs z rows k some_ =
        let low = mod-lt n (let e : 0 < x.count = omega (arith, some) in e) in
        let parts = div-add-mod' n x.count in
        let size : z.0 ≡ f.count = elim z.2 [
          | inl whole ↦ absurd (omega (arith, whole.0, all, low, parts))
          | inr short ↦ omega (arith, short.2, all, parts, rows)
        ] in
        same_Some k z.0 (sym some_ ∙ z.1) ∙ size

module _ (g : Graph) (stack : StackValue) (sound : IsGraph g) (prefix : List ℕ) (before : Option Files)
    (b : BoardState) (xs : List NodeFile) (held : Option Files)
    (h : IsSavingAlone g stack prefix before b xs false held) (finished : is_finished (run_setting g stack) (past b) ≡ true) where
  abbrev given : Past
  given = past (moves_by (last_role (run_setting g stack)) b)

  -- each open file has a row, and as many as its header says
  pub all-filled : (k : ℕ) (x : NodeFile) → slice_get xs k ≡ Some x → IsFilled x.current
  all-filled k x at =
      let f = file g stack sound prefix before b xs false held h finished k x at in
      let written = h.saving.saved.0.each k x at in
      filled-by x (past b) (length (written_by g stack given x.node)) x.current x.late
      (omega (arith, f.count, f.sound.count.0)) (all-written g stack sound prefix before b xs false held h finished k x at) written.begun
      (λ d is. h.saving.rows refl k x d (λ e. let none_ : None ≡ Some k = e in absurd (cc)) at is) (λ d is. h.saving.saved.1 k x d at is)

  -- a name that stands is one of a group that has an array
  pub named-long : (k : ℕ) (x : NodeFile) (at : slice_get xs k ≡ Some x) (i : ℕ) → IsSome (group_file x (written_by g stack given x.node) i)
      → 1 ≤ length (group_of x.count i (written_by g stack given x.node))
  named-long k x at i named =
      let f = file g stack sound prefix before b xs false held h finished k x at in
      let some : 1 ≤ x.count = omega (arith, f.count, f.sound.count.0) in
      let arrays = written_by g stack given x.node in
      has-long (group-has x arrays some (h.saving.saved.0.each k x at).begun i) some
    where
      has-long : GroupHas x (written_by g stack given x.node) i → 1 ≤ x.count → 1 ≤ length (group_of x.count i (written_by g stack given x.node))
      has-long (Nothing none_) some = absurd (false≢true (sym (ap (λ (o : Option (List ℕ)). is_some o) none_) ∙ named))
      has-long (Whole full is) some = omega (arith, full, some)
      has-long (Opened d open_ here is) some =
          let row = h.saving.rows refl k x d (λ e. let none_ : None ≡ Some k = e in absurd (cc)) at open_ in
          let rows = end-rows x held held some (written_by g stack given x.node) (h.saving.saved.0.each k x at) d open_ (Same refl) in
          subst (λ (w : ℕ). 1 ≤ length (group_of x.count w (written_by g stack given x.node))) (sym here) (omega (arith, rows.all, row))

  -- THE LAW: once all files have ended, the shelf holds the groups' files of the history
  pub groups-held : (now : Option Files) → AllEnded before xs (written_by g stack given) now → HoldsGroupsOf g stack prefix (past b) before now
  groups-held now ended = record {
    told = ended.told;
    each = λ v i n bytes rule is.
        let r = file-kind g stack (past b) n v i bytes is in
        let f = files-of-rule g stack sound prefix before b xs false held h v n r.0 rule r.1 in
        let x = f.files in
        let same : whole_file x.shape (group_of x.count i (written_by g stack given x.node)) ≡ Some bytes =
        sym (group-is g stack sound prefix before b xs false held h f.at x f.listed n i f.rule)
        ∙ ap (λ (w : ℕ). kind_group g stack (past b) w n.kind i) f.node ∙ is in
        subst (λ (name : List ℕ). HasFile now name bytes) (f.named i) (subst (HasBytes now (name_of x i)) same (ended.each f.at x f.listed i));
    others = λ q away. ended.others q (λ k x i at named.
        let f = file g stack sound prefix before b xs false held h finished k x at in
        let o = some-is (whole_file x.shape (group_of x.count i (written_by g stack given x.node))) named in
        (λ e. away x.node i f.rule o.0 f.at (group-is g stack sound prefix before b xs false held h k x at f.rule i f.at ∙ o.1) (e
        ∙ group-named g stack prefix xs h.saving.nodes k x f.rule at f.at i)));
  }
