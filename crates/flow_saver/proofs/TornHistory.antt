-- What stands after a fault of the shelf, by the finished log.
use Rattle.std.proofs.Common.{◌≡◌, ◌≢◌, ◌⊎◌, ℕ, ◌*◌, ◌/◌, ◌%◌, ◌^◌, ◌<◌, ◌≤◌, Bool, true, false, eqb, List, [], ◌∷◌, ◌++◌, length, drop, map, refl, sym, ap}
use Rattle.std.proofs.Common.{subst, ◌∙◌, arith, inl, inr, Option, Some, None}
use Rattle.std.specs.Prelude.{slice_get, IsSome, is_some, if◌then◌else◌}
use Rattle.std.specs.Option.{option_map}
use Rattle.std.proofs.Math.Nat.{mul-le-mul}
use Rattle.std.proofs.lemmas.Bool.{and_parts, cases_Bool, cases_lt, eq-eqb, ne_eqb, false≢true}
use Rattle.std.proofs.lemmas.Option.{slice_get-map, same_Some}
use Rattle.std.proofs.lemmas.List.{append_assoc, append-nil, length-append, length-take, length-drop, length-map}
use Rattle.std.proofs.lemmas.List.Concat.{flat_map-append}
use Rattle.nd_base.specs.Array.{Array, StackValue}
use Rattle.nd_base.specs.GraphRules.{IsGraph, rule_at}
use Rattle.nd_base.specs.declared.attribute.FileShape.{FileShape}
use Rattle.nd_base.specs.declared.frame.FrameName.{FrameName}
use Rattle.nd_base.specs.declared.graph.Graph.{Graph}
use Rattle.nd_base.specs.declared.graph.NodeRule.{NodeRule}
use Rattle.edge_traits.specs.Files.{Files, file_at}
use Rattle.cdf_write.specs.Layout.{layout}
use Rattle.file_out.specs.Streams.{Stream, begun_file}
use Rattle.nd_stack.specs.KeptStacks.{IsKeptStack}
use Rattle.chain_plain.specs.Content.{content}
use Rattle.chain_plain.specs.OneThread.{listed}
use Rattle.flow_journal.specs.declared.entry.Entry.TheVariants.{Saved}
use Rattle.flow_journal.specs.Setting.{Setting, last_role}
use Rattle.flow_journal.specs.Pasts.{Past, frame, comes_at}
use Rattle.flow_journal.specs.Puts.{puts}
use Rattle.flow_journal.specs.Histories.{is_legal}
use Rattle.flow_journal.specs.Finished.{is_finished}
use Rattle.board_rules.specs.States.{BoardState, past}
use Rattle.board_rules.specs.Movers.{moves_by}
use Rattle.board_rules.specs.RunMeasures.{run_setting}
use Rattle.flow_journal.specs.Unsaved.{standing_saves}
use Rattle.run_laws.specs.Results.{contents}
use Rattle.graph_files.specs.Groups.{group_of, whole_file, file_of, HasBytes}
use Rattle.graph_files.specs.GroupLaws.{group-is, group-more, length-group}
use Rattle.graph_files.specs.NodeFiles.{NodeFile, IsOpenAfter, name_of, group_file}
use Rattle.graph_files.specs.NodeFileLaws.{cases_eq, empty, groups-differ, none-is, open-here}
use Rattle.graph_files.specs.OpenFiles.{closed, file_nodes, IsElsewhere}
use Rattle.graph_files.specs.OpenFileLaws.{file_nodes-apart, far-none}
use Rattle.graph_files.specs.OutFiles.{group_name, is_stream}
use Rattle.graph_files.proofs.Writes.{small-group, next-place}
use Rattle.flow_saver.specs.GivenBack.{given_back, written_by}
use Rattle.flow_saver.specs.HistoryFiles.{kind_group}
use Rattle.graph_files.specs.Interrupted.{IsCountOf, IsBegunAs, AsBefore, IsBegunAt}
use Rattle.graph_files.specs.TornGroups.{HasStood, IsTornAt, IsTornName, AreTornGroups}
use Rattle.flow_saver.specs.Ending.{IsFailedCall, IsTornHistory}
use Rattle.flow_saver.specs.Saver.{IsTornSince, IsFirstCount, back_of}
use Rattle.flow_saver.specs.Remaining.{IsSavingAlone}
use Rattle.graph_files.proofs.BegunBytes.{count-one, begun-front, begun-torn, begun-whole, group-front, group-full, GroupHas, Nothing, Whole, Opened}
use Rattle.graph_files.proofs.BegunBytes.{group-has, group-apart, none-behind}
use Rattle.graph_files.proofs.Ends.{whole-some}
use Rattle.graph_files.proofs.Torn.{told-file, torn-at, torn-sized}
use Rattle.graph_files.proofs.TornGroups.{NamesHave, names-but, torn-groups}
use Rattle.flow_saver.proofs.Groups as groups
use Rattle.flow_saver.proofs.Groups.{some-is}
use Rattle.flow_saver.proofs.Puts.{puts-few}
use Rattle.flow_saver.proofs.Saves.{GivenAt, given-at}
use Rattle.flow_saver.proofs.Writing.{contents-more}

-- WHAT WAS GIVEN BACK LATER

comes-more : (v w : ℕ) (a : FrameName) (xs ys more : List FrameName) → xs ≡ ys ++ more → (rest : List FrameName) × (comes_at v w a xs ≡ ys ++ rest)
comes-more v w a xs ys more is =
    elim (cases_Bool (eqb w v)) [
      | inl here ↦ (more ++ a ∷ [], ap (λ (t : Bool). if t then xs ++ a ∷ [] else xs) here ∙ ap (λ zs. zs ++ a ∷ []) is ∙ append_assoc ys more (a ∷ []))
      | inr away ↦ (more, ap (λ (t : Bool). if t then xs ++ a ∷ [] else xs) away ∙ is)
    ]

given-more : (v : ℕ) (later Q : Past) → (more : List FrameName) × (given_back v (later ++ Q) ≡ given_back v Q ++ more)
given-more v [] Q = ([], sym (append-nil (given_back v Q)))
given-more v (Saved r w m k ∷ later) Q =
    let rest = given-more v later Q in comes-more v w (frame m k) (given_back v (later ++ Q)) (given_back v Q) rest.0 rest.1
given-more v (e ∷ later) Q = given-more v later Q

contents-append : (g : Graph) (stack : StackValue) (xs ys : List FrameName)
    → contents g.nodes stack.arrays (xs ++ ys) ≡ contents g.nodes stack.arrays xs ++ contents g.nodes stack.arrays ys
contents-append g stack xs ys = flat_map-append (λ (n : FrameName). listed (content g.nodes stack.arrays n)) xs ys

-- BYTES

pub whole-bytes : (shape : FileShape) (zs : List Array) (bytes : List ℕ) → whole_file shape zs ≡ Some bytes → (bytes ≡ layout shape zs) × (1 ≤ length zs)
whole-bytes shape [] bytes h = let none_ : None ≡ Some bytes = h in absurd (cc)
whole-bytes shape (a ∷ zs) bytes h = (same_Some bytes (layout shape (a ∷ zs)) (sym h), omega arith)

none-some : (o : Option (List ℕ)) → o ≡ None → IsSome o → ⊥
none-some None h s = false≢true s
none-some (Some x) h s = false≢true (sym (ap (λ (w : Option (List ℕ)). is_some w) h))

-- how many arrays a group has, by its header
pub count-by : (P : Past) (x : NodeFile) (i : ℕ) (arrays : List Array) (late : Bool) (numrecs : Option ℕ) → length (puts x.node P) ≡ length arrays
    → IsFirstCount P x.node x.count i late numrecs → IsCountOf late (length (group_of x.count i arrays)) numrecs
count-by P x i arrays true numrecs all first = first
count-by P x i arrays false numrecs all z =
    let taken = length-take x.count (drop (i * x.count) arrays) in
    let dropped = length-drop (i * x.count) arrays in
    z.1 ∙ ap Some (elim z.2 [
      | inl whole ↦ omega (arith, whole.0, whole.1, all, taken, dropped)
      | inr short ↦ omega (arith, short.1, short.2, all, taken, dropped)
    ])

open-count : (y : NodeFile) (n : ℕ) (o : Option Stream) (f : Stream) → o ≡ Some f → IsOpenAfter y n o → f.count ≡ n % y.count
open-count y n None f is begun = let none_ : None ≡ Some f = is in absurd (cc)
open-count y n (Some e) f is begun = ap (λ (d : Stream). d.count) (same_Some f e (sym is) ∙ begun)

-- NAMES OF GROUPS

module _ (g : Graph) (stack : StackValue) (sound : IsGraph g) (prefix : List ℕ) (xs : List NodeFile) (nodes : map closed xs ≡ file_nodes g stack prefix) where
  pub in-graph : (j : ℕ) (x : NodeFile) → slice_get xs j ≡ Some x → slice_get (file_nodes g stack prefix) j ≡ Some (closed x)
  in-graph j x at = ap (λ (ys : List NodeFile). slice_get ys j) (sym nodes) ∙ slice_get-map closed xs j ∙ ap (option_map closed) at

  apart-names : (j k : ℕ) (x y : NodeFile) → slice_get xs j ≡ Some x → slice_get xs k ≡ Some y → j ≢ k
      → (x.node ≢ y.node) × ((i l : ℕ) → i < 2 ^ 64 → l < 2 ^ 64 → name_of x i ≢ name_of y l)
  apart-names j k x y hx hy ne = let r = file_nodes-apart g stack prefix sound j k (closed x) (closed y) (in-graph j x hx) (in-graph k y hy) ne in (r.0, r.1)

  pub one-index : (j k : ℕ) (x y : NodeFile) → slice_get xs j ≡ Some x → slice_get xs k ≡ Some y → x.node ≡ y.node → j ≡ k
  one-index j k x y hx hy same = elim (cases_eq j k) [ inl e ↦ e | inr ne ↦ absurd ((apart-names j k x y hx hy ne).0 same) ]

  -- a name that has nothing is none of the others'
  none-elsewhere : (W : ℕ → List Array) → ((k : ℕ) (x : NodeFile) → slice_get xs k ≡ Some x → length (W x.node) < 2 ^ 64) → (j : ℕ) (x : NodeFile)
      → slice_get xs j ≡ Some x → (i : ℕ) → i < 2 ^ 64
      → group_file x (W x.node) i ≡ None → IsElsewhere xs W (name_of x i)
  none-elsewhere W few j x at i small none_ k y l at_y named same =
      elim (cases_lt l (2 ^ 64)) [
        | inr high ↦ none-some (group_file y (W y.node) l) (far-none y (W y.node) l (omega (arith, few k y at_y, high))) named
        | inl low ↦ elim (cases_eq k j) [
          | inr ne ↦ (apart-names j k x y at at_y (λ e. ne (sym e))).1 i l small low same
          | inl here ↦
              let one : y ≡ x = same_Some y x (sym at_y ∙ ap (λ (w : ℕ). slice_get xs w) here ∙ at) in
              let number : i ≡ l = groups-differ x i l small low (same ∙ ap (λ (z : NodeFile). name_of z l) one) in
              none-some (group_file x (W x.node) i) none_
              (subst (λ (w : ℕ). IsSome (group_file x (W x.node) w)) (sym number) (subst (λ (z : NodeFile). IsSome (group_file z (W z.node) l)) one named))
        ]
      ]

-- A FAULT ON A PIECE

module _ (g : Graph) (stack : StackValue) (sound : IsGraph g) (prefix : List ℕ) (before : Option Files)
    (b : BoardState) (xs : List NodeFile) (held : Option Files)
    (h : IsSavingAlone g stack prefix before b xs true held) (finished : is_finished (run_setting g stack) (past b) ≡ true) where
  abbrev s : Setting
  s = run_setting g stack

  abbrev own : Past
  own = past (moves_by (last_role s) b)

  abbrev t : IsTornSince g stack before own (past b) xs held
  t = h.saving.saved

  -- what was written, and all
  abbrev W : ℕ → List Array
  W = written_by g stack t.front

  abbrev F : ℕ → List Array
  F = written_by g stack own

  abbrev back : ℕ → List Array
  back = written_by g stack (back_of t.role t.node.node t.name ∷ t.front)

  back-then : (v : ℕ) → (rest : List Array) × (F v ≡ back v ++ rest)
  back-then v =
      let m = given-more v t.later (back_of t.role t.node.node t.name ∷ t.front) in (
        contents g.nodes stack.arrays m.0,
        ap (λ (P : Past). written_by g stack P v) t.whole ∙ ap (λ (ns : List FrameName). contents g.nodes stack.arrays ns) m.1
            ∙ contents-append g stack (given_back v (back_of t.role t.node.node t.name ∷ t.front)) m.0,
      )

  -- the piece that the shelf failed on comes next at its node
  back-here : back t.node.node ≡ W t.node.node ++ t.array ∷ []
  back-here =
      ap (λ (w : Bool). contents g.nodes stack.arrays (if w then given_back t.node.node t.front ++ t.name ∷ [] else given_back t.node.node t.front))
      (eq-eqb t.node.node t.node.node refl)
      ∙ contents-more g stack (given_back t.node.node t.front) t.name t.array t.holds

  back-other : (v : ℕ) → v ≢ t.node.node → back v ≡ W v
  back-other v apart =
      ap (λ (w : Bool). contents g.nodes stack.arrays (if w then given_back v t.front ++ t.name ∷ [] else given_back v t.front))
      (ne_eqb t.node.node v (λ e. apart (sym e)))

  fronts : (v : ℕ) → (rest : List Array) × (F v ≡ W v ++ rest)
  fronts v =
      let r = back-then v in
      elim (cases_eq v t.node.node) [
        | inl here ↦ (
          t.array ∷ [] ++ r.0,
          r.1 ∙ ap (λ zs. zs ++ r.0) (ap back here ∙ back-here ∙ ap (λ (w : ℕ). W w ++ t.array ∷ []) (sym here)) ∙ append_assoc (W v) (t.array ∷ []) r.0,
        )
        | inr apart ↦ (r.0, r.1 ∙ ap (λ zs. zs ++ r.0) (back-other v apart))
      ]

  nodes : map closed xs ≡ file_nodes g stack prefix
  nodes = h.saving.nodes

  -- the same node before the fault
  record Before (j : ℕ) (x : NodeFile) : Type 0 where
    files : NodeFile
    listed : slice_get t.files j ≡ Some files
    same : closed files ≡ closed x

  before-at : (j : ℕ) (x : NodeFile) → slice_get xs j ≡ Some x → Before j x
  before-at j x at =
      let f =
      groups.of-open g stack prefix t.files j (closed x)
      (ap (λ (ys : List NodeFile). slice_get ys j) (sym t.nodes) ∙ slice_get-map closed xs j ∙ ap (option_map closed) at) in
      record { files = f.0; listed = f.1; same = f.2 }

  few : (k : ℕ) (x : NodeFile) → slice_get xs k ≡ Some x → length (W x.node) < 2 ^ 64
  few k x at = let f = before-at k x at in subst (λ (w : ℕ). length (W w) < 2 ^ 64) (ap (λ (z : NodeFile). z.node) f.same) (t.written.few k f.files f.listed)

  others-before : (j : ℕ) (x : NodeFile) → slice_get xs j ≡ Some x → j ≢ t.at → slice_get t.files j ≡ Some x
  others-before j x at ne = sym (t.others j ne) ∙ at

  -- the node itself, as it is now
  record Now : Type 0 where
    files : NodeFile
    listed : slice_get xs t.at ≡ Some files
    same : closed files ≡ closed t.node

  now-at : Now
  now-at =
      let f =
      groups.of-open g stack prefix xs t.at (closed t.node)
      (ap (λ (ys : List NodeFile). slice_get ys t.at) t.nodes ∙ slice_get-map closed t.files t.at ∙ ap (option_map closed) t.listed) in
      record { files = f.0; listed = f.1; same = f.2 }

  some-at : (j : ℕ) (x : NodeFile) → slice_get xs j ≡ Some x → 1 ≤ x.count
  some-at j x at = let f = groups.file g stack sound prefix before b xs true held h finished j x at in omega (arith, f.count, f.sound.count.0)

  all-written : (j : ℕ) (x : NodeFile) → slice_get xs j ≡ Some x → length (puts x.node (past b)) ≡ length (F x.node)
  all-written j x at = groups.all-written g stack sound prefix before b xs true held h finished j x at

  torn-group : length (W t.node.node) / t.node.count ≡ t.group
  torn-group = group-is t.node.count (W t.node.node) t.group t.place t.place_is

  torn-file : (o : Option Stream) → t.node.current ≡ o
      → group_file t.node (W t.node.node) t.group ≡ file_of o t.node.shape (group_of t.node.count t.group (W t.node.node))
  torn-file o is =
      ap (λ (w : Option Stream). file_of w t.node.shape (group_of t.node.count t.group (W t.node.node)))
      (open-here t.node (length (W t.node.node)) t.group (sym torn-group) ∙ is)

  torn-here : (j : ℕ) (x : NodeFile) → slice_get xs j ≡ Some x → j ≡ t.at → closed x ≡ closed t.node
  torn-here j x at here = ap closed (same_Some x now-at.files (sym at ∙ ap (λ (w : ℕ). slice_get xs w) here ∙ now-at.listed)) ∙ now-at.same

  -- what a name other than the torn one has
  has-at : (j : ℕ) (x : NodeFile) → slice_get xs j ≡ Some x → (i : ℕ) → (j ≢ t.at) ⊎ (i ≢ t.group) → GroupHas x (W x.node) i
  has-at j x at i off =
      elim (cases_eq j t.at) [
        | inr ne ↦ group-has x (W x.node) (some-at j x at) (t.written.each j x (others-before j x at ne)).begun i
        | inl here ↦
            let apart : i ≢ t.group = elim off [ inl other ↦ absurd (other here) | inr ne ↦ ne ] in
            let same = torn-here j x at here in
            let group_ : length (W x.node) / x.count ≡ t.group = ap (λ (z : NodeFile). length (W z.node) / z.count) same ∙ torn-group in
            group-apart x (W x.node) (some-at j x at) i (λ e. apart (e ∙ group_))
      ]

  off-node : (j : ℕ) (x : NodeFile) → slice_get xs j ≡ Some x → (i : ℕ) → (j ≢ t.at) ⊎ (i ≢ t.group) → (x.node ≢ t.node.node) ⊎ (i ≢ t.group)
  off-node j x at i (inr ne) = inr ne
  off-node j x at i (inl other) =
      inl (λ e. other (one-index g stack sound prefix xs nodes j t.at x now-at.files at now-at.listed (e ∙ sym (ap (λ (z : NodeFile). z.node) now-at.same))))

  torn-small : t.group < 2 ^ 64
  torn-small =
      let low = few t.at now-at.files now-at.listed in
      let low_ : length (W t.node.node) < 2 ^ 64 = subst (λ (w : ℕ). length (W w) < 2 ^ 64) (ap (λ (z : NodeFile). z.node) now-at.same) low in
      omega (arith, torn-group, small-group t.node.count (W t.node.node) low_)

  off-name : (j : ℕ) (x : NodeFile) → slice_get xs j ≡ Some x → (i : ℕ) → i < 2 ^ 64 → (j ≢ t.at) ⊎ (i ≢ t.group) → name_of x i ≢ name_of t.node t.group
  off-name j x at i small off e =
      elim (cases_eq j t.at) [
        | inr ne ↦
            (apart-names g stack sound prefix xs nodes j t.at x now-at.files at now-at.listed ne).1 i t.group small torn-small
            (e ∙ ap (λ (z : NodeFile). name_of z t.group) (sym now-at.same))
        | inl here ↦
            let apart : i ≢ t.group = elim off [ inl other ↦ absurd (other here) | inr ne ↦ ne ] in
            apart (groups-differ x i t.group small torn-small (e ∙ ap (λ (z : NodeFile). name_of z t.group) (sym (torn-here j x at here))))
      ]

  module _ (told : is_some held ≡ true) where
    told-then : is_some t.then_held ≡ true
    told-then = t.written.told ∙ sym t.stops.0.told ∙ told

    abbrev Goal : NodeFile → ℕ → Type 0
    Goal x i = IsBegunAs x.late (layout x.shape (group_of x.count i (F x.node))) (file_at before (name_of x i)) (file_at held (name_of x i))

    open-goal : (x : NodeFile) (i : ℕ) (f : Stream) (now : Option (List ℕ)) → length (puts x.node (past b)) ≡ length (F x.node)
        → IsFirstCount (past b) x.node x.count i x.late f.numrecs
        → now ≡ Some (begun_file x.shape f.numrecs (group_of x.count i (W x.node)))
        → IsBegunAs x.late (layout x.shape (group_of x.count i (F x.node))) (file_at before (name_of x i)) now
    open-goal x i f now all first made =
        let r = fronts x.node in
        let front = group-front x.count i (W x.node) r.0 in
        begun-front x.shape (group_of x.count i (W x.node)) front.0 (group_of x.count i (F x.node))
        (ap (group_of x.count i) r.1 ∙ front.1) (file_at before (name_of x i)) x.late f.numrecs
        (begun_file x.shape f.numrecs (group_of x.count i (W x.node))) [] now (count-by (past b) x i (F x.node) x.late f.numrecs all first)
        (sym (append-nil (begun_file x.shape f.numrecs (group_of x.count i (W x.node))))) made

    off-goal : (j : ℕ) (x : NodeFile) (at : slice_get xs j ≡ Some x) (i : ℕ) → i < 2 ^ 64 → (off : (j ≢ t.at) ⊎ (i ≢ t.group))
        → GroupHas x (W x.node) i → Goal x i
    off-goal j x at i small off (Nothing none_) =
        AsBefore (t.stops.0.others (name_of x i) (off-name j x at i small off) (none-elsewhere g stack sound prefix xs nodes W few j x at i small none_))
    off-goal j x at i small off (Whole full is) =
        let has = subst (HasBytes held (name_of x i)) is (t.stops.0.each j x i at (off-node j x at i off)) in
        let r = fronts x.node in
        let same : group_of x.count i (F x.node) ≡ group_of x.count i (W x.node) =
        ap (group_of x.count i) r.1 ∙ group-full x.count i (W x.node) r.0 (some-at j x at) full in
        begun-whole x.late (layout x.shape (group_of x.count i (F x.node))) (file_at before (name_of x i)) (file_at held (name_of x i))
        (told-file held (name_of x i) (layout x.shape (group_of x.count i (W x.node))) told has ∙ ap (λ zs. Some (layout x.shape zs)) (sym same))
    off-goal j x at i small off (Opened f open_ here is) =
        let has = subst (HasBytes held (name_of x i)) is (t.stops.0.each j x i at (off-node j x at i off)) in
        let ne : j ≢ t.at = elim off [
          | inl other ↦ other
          | inr apart ↦ (λ e. apart (here ∙ ap (λ (z : NodeFile). length (W z.node) / z.count) (torn-here j x at e) ∙ torn-group))
        ] in
        let first = subst (λ (w : ℕ). IsFirstCount (past b) x.node x.count w x.late f.numrecs) (sym here) (t.begun j x f (others-before j x at ne) open_) in
        open-goal x i f (file_at held (name_of x i)) (all-written j x at) first
        (told-file held (name_of x i) (begun_file x.shape f.numrecs (group_of x.count i (W x.node))) told has)

    -- the torn name
    torn-node : length (puts t.node.node (past b)) ≡ length (F t.node.node)
    torn-node =
        let v = ap (λ (z : NodeFile). z.node) now-at.same in
        subst (λ (w : ℕ). length (puts w (past b)) ≡ length (F w)) v (all-written t.at now-at.files now-at.listed)

    torn-some : 1 ≤ t.node.count
    torn-some = omega (arith, t.place_is.within)

    then-goal : GroupHas t.node (W t.node.node) t.group → (now : Option (List ℕ)) → now ≡ file_at t.then_held (name_of t.node t.group)
        → IsBegunAs t.node.late (layout t.node.shape (group_of t.node.count t.group (F t.node.node))) (file_at before (name_of t.node t.group)) now
    then-goal (Nothing none_) now is =
        AsBefore (is ∙ t.written.others (name_of t.node t.group)
        (none-elsewhere g stack sound prefix t.files (sym t.nodes ∙ nodes) W t.written.few t.at t.node t.listed t.group torn-small none_))
    then-goal (Whole full e) now is =
        absurd (omega (arith, full, length-group t.node.count (W t.node.node) t.group t.place t.place_is, t.place_is.within))
    then-goal (Opened f open_ here e) now is =
        let has = subst (HasBytes t.then_held (name_of t.node t.group)) e ((t.written.each t.at t.node t.listed).each t.group) in
        let first =
        subst (λ (w : ℕ). IsFirstCount (past b) t.node.node t.node.count w t.node.late f.numrecs) (sym here) (t.begun t.at t.node f t.listed open_) in
        open-goal t.node t.group f now torn-node first
        (is ∙ told-file t.then_held (name_of t.node t.group) (begun_file t.node.shape f.numrecs (group_of t.node.count t.group (W t.node.node))) told-then has)

    torn-goal : Goal t.node t.group
    torn-goal =
        let r = back-then t.node.node in
        let all : F t.node.node ≡ (W t.node.node ++ t.array ∷ []) ++ r.0 = r.1 ∙ ap (λ zs. zs ++ r.0) back-here in
        let front = group-front t.node.count t.group (W t.node.node ++ t.array ∷ []) r.0 in
        let more = group-more t.node.count (W t.node.node) t.array t.group t.place t.place_is in
        let parts = ap (group_of t.node.count t.group) all ∙ front.1 ∙ ap (λ zs. zs ++ front.0) more in
        begun-torn t.node.shape (group_of t.node.count t.group (W t.node.node)) (t.array ∷ []) front.0 (group_of t.node.count t.group (F t.node.node))
        parts (file_at before (name_of t.node t.group)) (is_some t.node.current) t.node.count t.node.late t.numrecs
        (file_at t.then_held (name_of t.node t.group)) (file_at held (name_of t.node t.group))
        (none-behind t.node.count t.group (F t.node.node) (group_of t.node.count t.group (W t.node.node) ++ t.array ∷ []) front.0 parts)
        (count-by (past b) t.node t.group (F t.node.node) t.node.late t.numrecs torn-node t.first)
        (then-goal (group-has t.node (W t.node.node) torn-some (t.written.each t.at t.node t.listed).begun t.group) (file_at held (name_of t.node t.group)))
        t.stops.1

    each-goal : (j : ℕ) (x : NodeFile) → slice_get xs j ≡ Some x → (i : ℕ) → i < 2 ^ 64 → Goal x i
    each-goal j x at i small =
        elim (cases_eq j t.at) [
          | inr ne ↦ off-goal j x at i small (inl ne) (has-at j x at i (inl ne))
          | inl here ↦ elim (cases_eq i t.group) [
            | inr apart ↦ off-goal j x at i small (inr apart) (has-at j x at i (inr apart))
            | inl torn ↦
                let Q : NodeFile → Type 0 = λ z. Goal z i in
                subst Q (sym (torn-here j x at here)) (subst (λ (w : ℕ). Goal t.node w) (sym torn) torn-goal)
          ]
        ]

  -- THE NAMES OF THE HISTORY

  torn-long : 1 ≤ length (group_of t.node.count t.group (F t.node.node))
  torn-long =
      let r = back-then t.node.node in
      let all : F t.node.node ≡ (W t.node.node ++ t.array ∷ []) ++ r.0 = r.1 ∙ ap (λ zs. zs ++ r.0) back-here in
      let front = group-front t.node.count t.group (W t.node.node ++ t.array ∷ []) r.0 in
      let more = group-more t.node.count (W t.node.node) t.array t.group t.place t.place_is in
      let whole = ap length (ap (group_of t.node.count t.group) all ∙ front.1 ∙ ap (λ zs. zs ++ front.0) more) in
      omega (
        arith,
        whole,
        length-append (group_of t.node.count t.group (W t.node.node) ++ t.array ∷ []) front.0,
        length-append (group_of t.node.count t.group (W t.node.node)) (t.array ∷ []),
      )

  front-long : (x : NodeFile) (i : ℕ) → 1 ≤ length (group_of x.count i (W x.node)) → 1 ≤ length (group_of x.count i (F x.node))
  front-long x i some =
      let r = fronts x.node in
      let front = group-front x.count i (W x.node) r.0 in
      omega (arith, ap length (ap (group_of x.count i) r.1 ∙ front.1), length-append (group_of x.count i (W x.node)) front.0, some)

  -- an open file other than the torn one is that of another node, and has a row
  open-apart : (j : ℕ) (x : NodeFile) → slice_get xs j ≡ Some x → (i : ℕ) → (j ≢ t.at) ⊎ (i ≢ t.group) → i ≡ length (W x.node) / x.count → j ≢ t.at
  open-apart j x at i (inl other) here = other
  open-apart j x at i (inr apart) here =
      (λ e. apart (here ∙ ap (λ (z : NodeFile). length (W z.node) / z.count) (torn-here j x at e) ∙ torn-group))

  open-row : (j : ℕ) (x : NodeFile) (at : slice_get xs j ≡ Some x) (i : ℕ) → (j ≢ t.at) ⊎ (i ≢ t.group) → (f : Stream) → x.current ≡ Some f
      → i ≡ length (W x.node) / x.count → 1 ≤ length (group_of x.count i (W x.node))
  open-row j x at i off f open_ here =
      let ne = open-apart j x at i off here in
      let was = others-before j x at ne in
      let row = t.rows j x f (λ e. ne (sym (same_Some t.at j e))) was open_ in
      let begun = open-count x (length (W x.node)) x.current f open_ (t.written.each j x was).begun in
      let long = length-group x.count (W x.node) (length (W x.node) / x.count) (length (W x.node) % x.count) (next-place x.count (W x.node) (some-at j x at)) in
      subst (λ (w : ℕ). 1 ≤ length (group_of x.count w (W x.node))) (sym here) (omega (arith, long, begun, row))

  off-long : (j : ℕ) (x : NodeFile) (at : slice_get xs j ≡ Some x) (i : ℕ) → (j ≢ t.at) ⊎ (i ≢ t.group) → IsSome (group_file x (W x.node) i)
      → GroupHas x (W x.node) i → 1 ≤ length (group_of x.count i (F x.node))
  off-long j x at i off named (Nothing none_) = absurd (none-some (group_file x (W x.node) i) none_ named)
  off-long j x at i off named (Whole full is) = front-long x i (omega (arith, full, some-at j x at))
  off-long j x at i off named (Opened f open_ here is) = front-long x i (open-row j x at i off f open_ here)

  now-long : (j : ℕ) (x : NodeFile) → slice_get xs j ≡ Some x → (i : ℕ) → IsSome (group_file x (W x.node) i) → 1 ≤ length (group_of x.count i (F x.node))
  now-long j x at i named =
      elim (cases_eq j t.at) [
        | inr ne ↦ off-long j x at i (inl ne) named (has-at j x at i (inl ne))
        | inl here ↦ elim (cases_eq i t.group) [
          | inr apart ↦ off-long j x at i (inr apart) named (has-at j x at i (inr apart))
          | inl torn ↦
              let Q : NodeFile → Type 0 = λ z. 1 ≤ length (group_of z.count i (F z.node)) in
              subst Q (sym (torn-here j x at here)) (subst (λ (w : ℕ). 1 ≤ length (group_of t.node.count w (F t.node.node))) (sym torn) torn-long)
        ]
      ]

  -- a name that is none of the history's is none of these
  not-named : (q : List ℕ)
      → ((v i : ℕ) (n : NodeRule) (bytes : List ℕ) → rule_at g.nodes v ≡ Some n
      → kind_group g stack (past b) v n.kind i ≡ Some bytes → q ≢ group_name prefix n.name i)
      → (j : ℕ) (x : NodeFile) → slice_get xs j ≡ Some x → (i : ℕ) → 1 ≤ length (group_of x.count i (F x.node)) → q ≢ name_of x i
  not-named q away j x at i some e =
      let f = groups.file g stack sound prefix before b xs true held h finished j x at in
      let o = some-is (whole_file x.shape (group_of x.count i (F x.node))) (whole-some x.shape (group_of x.count i (F x.node)) some) in
      away x.node i f.rule o.0 f.at (groups.group-is g stack sound prefix before b xs true held h j x at f.rule i f.at ∙ o.1)
      (e ∙ groups.group-named g stack prefix xs nodes j x f.rule at f.at i)

  at-by : (late : Bool) (bytes name : List ℕ) → (is_some held ≡ true → IsBegunAs late bytes (file_at before name) (file_at held name)) → (o : Option Files)
      → held ≡ o → IsBegunAt late bytes before o name
  at-by late bytes name goal None is = tt
  at-by late bytes name goal (Some m) is =
      subst (λ (o : Option Files). IsBegunAs late bytes (file_at before name) (file_at o name)) is (goal (ap (λ (o : Option Files). is_some o) is))

  group-low : IsKeptStack stack → (j : ℕ) (x : NodeFile) → slice_get xs j ≡ Some x → (i : ℕ) → 1 ≤ length (group_of x.count i (F x.node)) → i < 2 ^ 64
  group-low kept j x at i some =
      let legal = (and_parts (is_legal s (past b)) _ h.legal).0 in
      let put = puts-few s (past b) x.node legal in
      let ids = length-map stack.arrays (λ (a : Array). a.id) in
      let taken = length-take x.count (drop (i * x.count) (F x.node)) in
      let dropped = length-drop (i * x.count) (F x.node) in
      let least : i * 1 ≤ i * x.count = mul-le-mul (let same : i ≤ i = omega arith in same) (some-at j x at) in
      omega (arith, some, taken, dropped, all-written j x at, put, ids, kept.few, least)

  -- what the saves of the log took
  abbrev saved_all : ℕ → List Array
  saved_all v = contents g.nodes stack.arrays (standing_saves v (past b))

  all : (v : ℕ) → F v ≡ saved_all v
  all v = groups.written-is g stack sound prefix before b xs true held h v

  off-at : (j : ℕ) (x : NodeFile) → slice_get xs j ≡ Some x → (i : ℕ) → (x.node ≢ t.node.node) ⊎ (i ≢ t.group) → (j ≢ t.at) ⊎ (i ≢ t.group)
  off-at j x at i (inl other) = inl (λ e. other (ap (λ (z : NodeFile). z.node) (torn-here j x at e)))
  off-at j x at i (inr apart) = inr apart

  -- a group that has nothing is untouched
  still : IsKeptStack stack → (j i : ℕ) (x : NodeFile) → slice_get xs j ≡ Some x → (x.node ≢ t.node.node) ⊎ (i ≢ t.group)
      → 1 ≤ length (group_of x.count i (saved_all x.node)) → group_file x (W x.node) i ≡ None → file_at held (name_of x i) ≡ file_at before (name_of x i)
  still kept j i x at off filled none_ =
      let small = group-low kept j x at i (subst (λ (zs : List Array). 1 ≤ length (group_of x.count i zs)) (sym (all x.node)) filled) in
      t.stops.0.others (name_of x i) (off-name j x at i small (off-at j x at i off)) (none-elsewhere g stack sound prefix xs nodes W few j x at i small none_)

  -- the number in the header of an open file
  count : (j i : ℕ) (x : NodeFile) (f : Stream) → slice_get xs j ≡ Some x → (x.node ≢ t.node.node) ⊎ (i ≢ t.group) → x.current ≡ Some f
      → i ≡ length (W x.node) / x.count → IsCountOf x.late (length (group_of x.count i (saved_all x.node))) f.numrecs
  count j i x f at off open_ here =
      let was = others-before j x at (open-apart j x at i (off-at j x at i off) here) in
      let first = subst (λ (w : ℕ). IsFirstCount (past b) x.node x.count w x.late f.numrecs) (sym here) (t.begun j x f was open_) in
      subst (λ (zs : List Array). IsCountOf x.late (length (group_of x.count i zs)) f.numrecs) (all x.node)
      (count-by (past b) x i (F x.node) x.late f.numrecs (all-written j x at) first)

  -- the torn name
  stood-by : is_some held ≡ true → (o : Option Stream) → t.node.current ≡ o
      → HasStood (is_some o) t.node.shape t.numrecs (group_of t.node.count t.group (W t.node.node))
      (file_at before (name_of t.node t.group)) (file_at t.then_held (name_of t.node t.group))
  stood-by told None is =
      let long = length-group t.node.count (W t.node.node) t.group t.place t.place_is in
      let first = none-is t.node (W t.node.node) t.group t.place t.then_held t.place_is (t.written.each t.at t.node t.listed) is in
      let none_ : group_of t.node.count t.group (W t.node.node) ≡ [] = empty (group_of t.node.count t.group (W t.node.node)) (long ∙ first) in
      let file_ : group_file t.node (W t.node.node) t.group ≡ None = torn-file None is ∙ ap (whole_file t.node.shape) none_ in (
        none_,
        t.written.others (name_of t.node t.group)
            (none-elsewhere g stack sound prefix t.files (sym t.nodes ∙ nodes) W t.written.few t.at t.node t.listed t.group torn-small file_),
      )
  stood-by told (Some f) is =
      let has = subst (HasBytes t.then_held (name_of t.node t.group)) (torn-file (Some f) is) ((t.written.each t.at t.node t.listed).each t.group) in
      let first =
      subst (λ (w : ℕ). IsFirstCount (past b) t.node.node t.node.count w t.node.late f.numrecs) torn-group (t.begun t.at t.node f t.listed is) in
      let n = length (group_of t.node.count t.group (F t.node.node)) in
      let same : f.numrecs ≡ t.numrecs =
      count-one t.node.late n f.numrecs t.numrecs (count-by (past b) t.node t.group (F t.node.node) t.node.late f.numrecs (torn-node told) first)
      (count-by (past b) t.node t.group (F t.node.node) t.node.late t.numrecs (torn-node told) t.first) in
      told-file t.then_held (name_of t.node t.group) (begun_file t.node.shape f.numrecs (group_of t.node.count t.group (W t.node.node)))
      (told-then told) has ∙ ap (λ (m : Option ℕ). Some (begun_file t.node.shape m (group_of t.node.count t.group (W t.node.node)))) same

  torn-name : is_some held ≡ true
      → IsTornName t.node.late t.node.shape (group_of t.node.count t.group (F t.node.node)) (group_of t.node.count t.group (W t.node.node)) (t.array ∷ [])
      (file_at before (name_of t.node t.group)) (file_at held (name_of t.node t.group))
  torn-name told =
      let r = back-then t.node.node in
      let all : F t.node.node ≡ (W t.node.node ++ t.array ∷ []) ++ r.0 = r.1 ∙ ap (λ zs. zs ++ r.0) back-here in
      let front = group-front t.node.count t.group (W t.node.node ++ t.array ∷ []) r.0 in
      let more = group-more t.node.count (W t.node.node) t.array t.group t.place t.place_is in
      record {
        rest = front.0;
        next = ap (group_of t.node.count t.group) all ∙ front.1 ∙ ap (λ zs. zs ++ front.0) more;
        numrecs = t.numrecs;
        count = count-by (past b) t.node t.group (F t.node.node) t.node.late t.numrecs (torn-node told) t.first;
        begun = is_some t.node.current;
        was = file_at t.then_held (name_of t.node t.group);
        stood = stood-by told t.node.current refl;
        torn =
            torn-sized (is_some t.node.current) t.node.count (length (group_of t.node.count t.group (F t.node.node)))
            (file_at t.then_held (name_of t.node t.group)) (file_at held (name_of t.node t.group)) t.node.shape t.numrecs
            (group_of t.node.count t.group (W t.node.node)) (t.array ∷ [])
            (omega (arith, length-take t.node.count (drop (t.group * t.node.count) (F t.node.node)))) t.stops.1;
      }

  -- the node of the torn name
  node-here : (j : ℕ) (x : NodeFile) → slice_get xs j ≡ Some x → x.node ≡ t.node.node → closed x ≡ closed t.node
  node-here j x at same =
      torn-here j x at
      (one-index g stack sound prefix xs nodes j t.at x now-at.files at now-at.listed (same ∙ sym (ap (λ (z : NodeFile). z.node) now-at.same)))

  names-have : IsKeptStack stack → NamesHave xs saved_all W before held t.node.node t.group (t.array ∷ []) false
  names-have kept =
      names-but xs saved_all W before held t.node.node t.group (t.array ∷ []) (λ j i x at off. has-at j x at i (off-at j x at i off))
      (λ j i x at off. t.stops.0.each j x i at off) (still kept) some-at (λ j i x f at off open_ here. open-row j x at i (off-at j x at i off) f open_ here) count
      (λ v. let r = fronts v in (r.0, sym (all v) ∙ r.1))
      (λ j x at same. sym torn-group ∙ ap (λ (z : NodeFile). length (W z.node) / z.count) (sym (node-here j x at same)))
      (λ j x at same.
      let Q : NodeFile → Type 0 =
      λ z. IsTornAt z.late z.shape (group_of z.count t.group (saved_all z.node)) (group_of z.count t.group (W z.node)) (t.array ∷ []) before held
      (name_of z t.group) in
      subst Q (sym (node-here j x at same))
      (torn-at t.node.late t.node.shape (group_of t.node.count t.group (saved_all t.node.node)) (group_of t.node.count t.group (W t.node.node)) (t.array ∷ [])
      before held (name_of t.node t.group) (λ told.
      subst (λ (zs : List Array). IsTornName t.node.late t.node.shape (group_of t.node.count t.group zs) (group_of t.node.count t.group (W t.node.node))
      (t.array ∷ []) (file_at before (name_of t.node t.group)) (file_at held (name_of t.node t.group))) (all t.node.node) (torn-name told))))

  -- where the shelf failed
  place : GivenAt b (back_of t.role t.node.node t.name) t.front
  place = given-at s b (and_parts (is_legal s (past b)) _ h.legal).0 h.drained t.later (back_of t.role t.node.node t.name) t.front t.whole

  abbrev torn-all : IsKeptStack stack → AreTornGroups g stack prefix saved_all W before held
  torn-all kept =
      torn-groups g stack prefix xs (groups.files-of-rule g stack sound prefix before b xs true held h) saved_all W before held t.node.node t.group
      (t.array ∷ []) false (names-have kept)

  failed-call : (kept : IsKeptStack stack) → IsFailedCall g stack (place.newer ++ back_of t.role t.node.node t.name ∷ []) (torn-all kept).node
      (torn-all kept).ending (torn-all kept).coming
  unfolding torn-groups
  failed-call kept = (place.newer, t.role, t.name, t.array, refl, t.holds, refl)

  pub torn-history : IsKeptStack stack → IsTornHistory g stack prefix (past b) before held
  torn-history kept = record {
    told = t.stops.0.told;
    each = λ v i n r bytes rule kind is.
        let f = groups.files-of-rule g stack sound prefix before b xs true held h v n r rule kind in
        let x = f.files in
        let file_ : whole_file x.shape (group_of x.count i (F x.node)) ≡ Some bytes =
        sym (groups.group-is g stack sound prefix before b xs true held h f.at x f.listed n i f.rule)
        ∙ ap (λ (w : ℕ). kind_group g stack (past b) w n.kind i) f.node ∙ is in
        let final = whole-bytes x.shape (group_of x.count i (F x.node)) bytes file_ in
        at-by (is_stream r.mode) bytes (group_name prefix n.name i) (λ told.
        subst (λ (name : List ℕ). IsBegunAs (is_stream r.mode) bytes (file_at before name) (file_at held name)) (f.named i)
        (subst (λ (late : Bool). IsBegunAs late bytes (file_at before (name_of x i)) (file_at held (name_of x i))) f.late
        (subst (λ (w : List ℕ). IsBegunAs x.late w (file_at before (name_of x i)) (file_at held (name_of x i))) (sym final.0)
        (each-goal told f.at x f.listed i (group-low kept f.at x f.listed i final.1))))) held refl;
    others = λ q away. t.stops.0.others q
        (λ e. not-named q away t.at now-at.files now-at.listed t.group
        (let Q : NodeFile → Type 0 = λ z. 1 ≤ length (group_of z.count t.group (F z.node)) in subst Q (sym now-at.same) torn-long)
        (e ∙ ap (λ (z : NodeFile). name_of z t.group) (sym now-at.same)))
        (λ k y l at_y named. not-named q away k y at_y l (now-long k y at_y l named));
    later = place.newer ++ back_of t.role t.node.node t.name ∷ [];
    front = past place.before;
    log = place.log ∙ sym (append_assoc place.newer (back_of t.role t.node.node t.name ∷ []) (past place.before));
    written = W;
    given = λ v. ap (λ (ns : List FrameName). contents g.nodes stack.arrays ns) (sym (place.given v));
    groups = torn-all kept;
    call = failed-call kept;
  }
