-- What stands after a fault in the end of the files, by the finished log.
use Rattle.std.proofs.Common.{◌≡◌, ◌≢◌, ◌⊎◌, ℕ, zero, suc, ◌+◌, ◌/◌, ◌<◌, ◌≤◌, Bool, true, false, List, [], ◌∷◌, ◌++◌, length, map, refl, sym, ap, subst, ◌∙◌, arith}
use Rattle.std.proofs.Common.{inl, inr, Option, Some, None}
use Rattle.std.specs.Prelude.{slice_get, IsSome, is_some}
use Rattle.std.proofs.lemmas.Bool.{and_parts}
use Rattle.std.proofs.lemmas.Option.{same_Some}
use Rattle.std.proofs.lemmas.List.{append-nil}
use Rattle.nd_base.specs.Array.{Array, StackValue}
use Rattle.nd_base.specs.GraphRules.{IsGraph, rule_at}
use Rattle.nd_base.specs.declared.frame.FrameName.{FrameName}
use Rattle.nd_base.specs.declared.graph.Graph.{Graph}
use Rattle.nd_base.specs.declared.graph.NodeRule.{NodeRule}
use Rattle.edge_traits.specs.Files.{Files, file_at}
use Rattle.cdf_write.specs.Layout.{layout}
use Rattle.file_out.specs.Streams.{Stream, begun_file}
use Rattle.flow_journal.specs.Setting.{Setting, last_role}
use Rattle.flow_journal.specs.Pasts.{Past}
use Rattle.flow_journal.specs.Puts.{puts}
use Rattle.flow_journal.specs.Histories.{is_legal}
use Rattle.flow_journal.specs.Finished.{is_finished}
use Rattle.board_rules.specs.States.{BoardState, past}
use Rattle.board_rules.specs.Movers.{moves_by}
use Rattle.board_rules.specs.RunMeasures.{run_setting}
use Rattle.graph_files.specs.Groups.{group_of, whole_file, file_of, HasBytes}
use Rattle.graph_files.specs.NodeFiles.{NodeFile, EndTorn, name_of, group_file, open_at}
use Rattle.graph_files.specs.NodeFileLaws.{cases_eq, open-here}
use Rattle.graph_files.specs.OpenFiles.{closed}
use Rattle.graph_files.specs.OpenFileLaws.{nodes-ordered}
use Rattle.graph_files.specs.EndedFiles.{AllEndStops, ended_to, open_group}
use Rattle.graph_files.specs.OutFiles.{group_name, is_stream}
use Rattle.run_laws.specs.Results.{contents}
use Rattle.flow_journal.specs.Unsaved.{standing_saves}
use Rattle.flow_saver.specs.GivenBack.{written_by}
use Rattle.flow_saver.specs.HistoryFiles.{kind_group}
use Rattle.graph_files.specs.Interrupted.{IsCountOf, IsBegunAs, IsBegunAt}
use Rattle.graph_files.specs.TornGroups.{AreTornGroups}
use Rattle.flow_saver.specs.Ending.{IsFailedCall, IsTornHistory}
use Rattle.flow_saver.specs.Saver.{IsFirstCount}
use Rattle.flow_saver.specs.Remaining.{IsSavingAlone}
use Rattle.graph_files.proofs.BegunBytes.{begun-front, begun-torn, begun-whole, file-some, GroupHas, Nothing, Whole, Opened, group-has, whole-is, whole-long}
use Rattle.graph_files.proofs.Ends.{closed-file, ended-at, whole-some}
use Rattle.graph_files.proofs.Torn.{told-file}
use Rattle.graph_files.proofs.TornEnds.{names-end}
use Rattle.graph_files.proofs.TornGroups.{torn-groups}
use Rattle.flow_saver.proofs.Groups as groups
use Rattle.flow_saver.proofs.Groups.{some-is}
use Rattle.flow_saver.proofs.Saves.{given-mine}
use Rattle.flow_saver.proofs.TornHistory.{in-graph, one-index, whole-bytes, count-by}

module _ (g : Graph) (stack : StackValue) (sound : IsGraph g) (prefix : List ℕ) (before : Option Files)
    (b : BoardState) (xs : List NodeFile) (held now : Option Files)
    (h : IsSavingAlone g stack prefix before b xs false held) (finished : is_finished (run_setting g stack) (past b) ≡ true) where
  abbrev s : Setting
  s = run_setting g stack

  abbrev own : Past
  own = past (moves_by (last_role s) b)

  abbrev F : ℕ → List Array
  F = written_by g stack own

  module _ (e : AllEndStops before xs F held now) where
    abbrev node : NodeFile
    node = e.node

    abbrev torn : ℕ
    torn = open_group node F

    some-at : (j : ℕ) (x : NodeFile) → slice_get xs j ≡ Some x → 1 ≤ x.count
    some-at j x at = let f = groups.file g stack sound prefix before b xs false held h finished j x at in omega (arith, f.count, f.sound.count.0)

    all-written : (j : ℕ) (x : NodeFile) → slice_get xs j ≡ Some x → length (puts x.node (past b)) ≡ length (F x.node)
    all-written j x at = groups.all-written g stack sound prefix before b xs false held h finished j x at

    torn-here : (j : ℕ) (x : NodeFile) → slice_get xs j ≡ Some x → j ≡ e.at → x ≡ node
    torn-here j x at here = same_Some x node (sym at ∙ ap (λ (w : ℕ). slice_get xs w) here ∙ e.listed)

    off-node : (j : ℕ) (x : NodeFile) → slice_get xs j ≡ Some x → (i : ℕ) → (j ≢ e.at) ⊎ (i ≢ torn) → (x.node ≢ node.node) ⊎ (i ≢ torn)
    off-node j x at i (inr ne) = inr ne
    off-node j x at i (inl other) = inl (λ same. other (one-index g stack sound prefix xs h.saving.nodes j e.at x node at e.listed same))

    abbrev Goal : NodeFile → ℕ → Type 0
    Goal x i = IsBegunAs x.late (layout x.shape (group_of x.count i (F x.node))) (file_at before (name_of x i)) (file_at now (name_of x i))

    open-goal : (x : NodeFile) (i : ℕ) (f : Stream) (is : Option (List ℕ)) → length (puts x.node (past b)) ≡ length (F x.node)
        → IsFirstCount (past b) x.node x.count i x.late f.numrecs
        → is ≡ Some (begun_file x.shape f.numrecs (group_of x.count i (F x.node)))
        → IsBegunAs x.late (layout x.shape (group_of x.count i (F x.node))) (file_at before (name_of x i)) is
    open-goal x i f is all first made =
        let zs = group_of x.count i (F x.node) in
        begun-front x.shape zs [] zs (sym (append-nil zs)) (file_at before (name_of x i)) x.late f.numrecs (begun_file x.shape f.numrecs zs) [] is
        (count-by (past b) x i (F x.node) x.late f.numrecs all first) (sym (append-nil (begun_file x.shape f.numrecs zs))) made

    module _ (told : is_some now ≡ true) where
      told-then : is_some held ≡ true
      told-then = h.saving.saved.0.told ∙ sym e.stops.0.told ∙ told

      whole-goal : (x : NodeFile) (i : ℕ) (o : Option (List ℕ)) → HasBytes now (name_of x i) o
          → o ≡ Some (layout x.shape (group_of x.count i (F x.node))) → Goal x i
      whole-goal x i o has is =
          begun-whole x.late (layout x.shape (group_of x.count i (F x.node))) (file_at before (name_of x i)) (file_at now (name_of x i))
          (told-file now (name_of x i) (layout x.shape (group_of x.count i (F x.node))) told (subst (HasBytes now (name_of x i)) is has))

      has-goal : (j : ℕ) (x : NodeFile) (at : slice_get xs j ≡ Some x) (i : ℕ) → 1 ≤ length (group_of x.count i (F x.node))
          → HasBytes now (name_of x i) (group_file x (F x.node) i) → GroupHas x (F x.node) i → Goal x i
      has-goal j x at i some has (Nothing none_) = absurd (file-some (open_at x (length (F x.node)) i) x.shape (group_of x.count i (F x.node)) some none_)
      has-goal j x at i some has (Whole full is) = whole-goal x i (group_file x (F x.node) i) has is
      has-goal j x at i some has (Opened f open_ here is) =
          let first = subst (λ (w : ℕ). IsFirstCount (past b) x.node x.count w x.late f.numrecs) (sym here) (h.saving.saved.1 j x f at open_) in
          open-goal x i f (file_at now (name_of x i)) (all-written j x at) first
          (told-file now (name_of x i) (begun_file x.shape f.numrecs (group_of x.count i (F x.node))) told (subst (HasBytes now (name_of x i)) is has))

      off-goal : (j : ℕ) (x : NodeFile) (at : slice_get xs j ≡ Some x) (i : ℕ) → 1 ≤ length (group_of x.count i (F x.node))
          → (off : (j ≢ e.at) ⊎ (i ≢ torn)) → Goal x i
      off-goal j x at i some off =
          elim (ended-at (e.at + 1) xs j x at) [
            | inl ended ↦
                whole-goal x i (group_file (closed x) (F x.node) i) (e.stops.0.each j (closed x) i ended.1 (off-node j x at i off))
                (closed-file x (F x.node) i ∙ whole-is x.shape (group_of x.count i (F x.node)) some)
            | inr open_ ↦
                has-goal j x at i some (e.stops.0.each j x i open_.1 (off-node j x at i off))
                (group-has x (F x.node) (some-at j x at) (h.saving.saved.0.each j x at).begun i)
          ]

      then-goal : GroupHas node (F node.node) torn → 1 ≤ length (group_of node.count torn (F node.node)) → (is : Option (List ℕ))
          → is ≡ file_at held (name_of node torn)
          → IsBegunAs node.late (layout node.shape (group_of node.count torn (F node.node))) (file_at before (name_of node torn)) is
      then-goal (Nothing none_) some is same =
          absurd (file-some (open_at node (length (F node.node)) torn) node.shape (group_of node.count torn (F node.node)) some none_)
      then-goal (Whole full made) some is same =
          begun-whole node.late (layout node.shape (group_of node.count torn (F node.node))) (file_at before (name_of node torn)) is
          (same ∙ told-file held (name_of node torn) (layout node.shape (group_of node.count torn (F node.node))) told-then
          (subst (HasBytes held (name_of node torn)) made ((h.saving.saved.0.each e.at node e.listed).each torn)))
      then-goal (Opened f open_ here made) some is same =
          open-goal node torn f is (all-written e.at node e.listed) (h.saving.saved.1 e.at node f e.listed open_)
          (same ∙ told-file held (name_of node torn) (begun_file node.shape f.numrecs (group_of node.count torn (F node.node))) told-then
          (subst (HasBytes held (name_of node torn)) made ((h.saving.saved.0.each e.at node e.listed).each torn)))

      torn-by : (o : Option Stream) → node.current ≡ o → 1 ≤ length (group_of node.count torn (F node.node))
          → EndTorn o node torn (group_of node.count torn (F node.node)) held now → Goal node torn
      torn-by None is some t = absurd t
      torn-by (Some f) is some t =
          let zs = group_of node.count torn (F node.node) in
          let first = h.saving.saved.1 e.at node f e.listed is in
          begun-torn node.shape zs [] [] zs (sym (append-nil (zs ++ []) ∙ append-nil zs)) (file_at before (name_of node torn)) true (length zs) node.late
          f.numrecs (file_at held (name_of node torn)) (file_at now (name_of node torn)) (λ all_. refl)
          (count-by (past b) node torn (F node.node) node.late f.numrecs (all-written e.at node e.listed) first)
          (then-goal (group-has node (F node.node) (some-at e.at node e.listed) (h.saving.saved.0.each e.at node e.listed).begun torn) some
          (file_at now (name_of node torn))) t

      each-goal : (j : ℕ) (x : NodeFile) → slice_get xs j ≡ Some x → (i : ℕ) → 1 ≤ length (group_of x.count i (F x.node)) → Goal x i
      each-goal j x at i some =
          elim (cases_eq j e.at) [
            | inr ne ↦ off-goal j x at i some (inl ne)
            | inl here ↦ elim (cases_eq i torn) [
              | inr apart ↦ off-goal j x at i some (inr apart)
              | inl last ↦
                  let same = torn-here j x at here in
                  let some_ : 1 ≤ length (group_of node.count torn (F node.node)) =
                  subst (λ (w : ℕ). 1 ≤ length (group_of node.count w (F node.node))) last
                  (subst (λ (z : NodeFile). 1 ≤ length (group_of z.count i (F z.node))) same some) in
                  subst (λ (z : NodeFile). Goal z i) (sym same) (subst (λ (w : ℕ). Goal node w) (sym last) (torn-by node.current refl some_ e.stops.1))
            ]
          ]

    at-by : (late : Bool) (bytes name : List ℕ) → (is_some now ≡ true → IsBegunAs late bytes (file_at before name) (file_at now name)) → (o : Option Files)
        → now ≡ o → IsBegunAt late bytes before o name
    at-by late bytes name goal None is = tt
    at-by late bytes name goal (Some m) is =
        subst (λ (o : Option Files). IsBegunAs late bytes (file_at before name) (file_at o name)) is (goal (ap (λ (o : Option Files). is_some o) is))

    not-named : (q : List ℕ)
        → ((v i : ℕ) (n : NodeRule) (bytes : List ℕ) → rule_at g.nodes v ≡ Some n
        → kind_group g stack (past b) v n.kind i ≡ Some bytes → q ≢ group_name prefix n.name i)
        → (j : ℕ) (x : NodeFile) → slice_get xs j ≡ Some x → (i : ℕ) → 1 ≤ length (group_of x.count i (F x.node)) → q ≢ name_of x i
    not-named q away j x at i some same =
        let f = groups.file g stack sound prefix before b xs false held h finished j x at in
        let o = some-is (whole_file x.shape (group_of x.count i (F x.node))) (whole-some x.shape (group_of x.count i (F x.node)) some) in
        away x.node i f.rule o.0 f.at (groups.group-is g stack sound prefix before b xs false held h j x at f.rule i f.at ∙ o.1)
        (same ∙ groups.group-named g stack prefix xs h.saving.nodes j x f.rule at f.at i)

    -- each open file has a row, so its group has an array
    open-long : (j : ℕ) (x : NodeFile) (at : slice_get xs j ≡ Some x) (i : ℕ) → IsSome (group_file x (F x.node) i) → 1 ≤ length (group_of x.count i (F x.node))
    open-long j x at i named = groups.named-long g stack sound prefix before b xs held h finished j x at i named

    torn-some : (o : Option Stream) → node.current ≡ o → EndTorn o node torn (group_of node.count torn (F node.node)) held now
        → IsSome (group_file node (F node.node) torn)
    torn-some None is t = absurd t
    torn-some (Some f) is t =
        ap (λ (w : Option (List ℕ)). is_some w)
        (ap (λ w. file_of w node.shape (group_of node.count torn (F node.node))) (open-here node (length (F node.node)) torn refl ∙ is))

    -- what the saves of the log took, which was all given back
    abbrev saved_all : ℕ → List Array
    saved_all v = contents g.nodes stack.arrays (standing_saves v (past b))

    all : (v : ℕ) → F v ≡ saved_all v
    all v = groups.written-is g stack sound prefix before b xs false held h v

    count : (j i : ℕ) (x : NodeFile) (f : Stream) → slice_get xs j ≡ Some x → x.current ≡ Some f → i ≡ length (F x.node) / x.count
        → IsCountOf x.late (length (group_of x.count i (saved_all x.node))) f.numrecs
    count j i x f at open_ here =
        let first = subst (λ (w : ℕ). IsFirstCount (past b) x.node x.count w x.late f.numrecs) (sym here) (h.saving.saved.1 j x f at open_) in
        subst (λ (zs : List Array). IsCountOf x.late (length (group_of x.count i zs)) f.numrecs) (all x.node)
        (count-by (past b) x i (F x.node) x.late f.numrecs (all-written j x at) first)

    -- the files come in the order of their nodes
    ordered : (j k : ℕ) (x y : NodeFile) → slice_get xs j ≡ Some x → slice_get xs k ≡ Some y → j < k → x.node < y.node
    ordered j k x y at_x at_y less =
        nodes-ordered g stack prefix 1 g.nodes j k (closed x) (closed y) (in-graph g stack sound prefix xs h.saving.nodes j x at_x)
        (in-graph g stack sound prefix xs h.saving.nodes k y at_y) less

    abbrev torn-all : AreTornGroups g stack prefix saved_all F before now
    torn-all =
        torn-groups g stack prefix xs (groups.files-of-rule g stack sound prefix before b xs false held h) saved_all F before now node.node torn [] true
        (names-end xs saved_all F before before held now e (e.stops.0.told ∙ sym h.saving.saved.0.told) some-at (λ j x at. h.saving.saved.0.each j x at)
        (λ j x at. all x.node) count (λ v. ([], sym (all v) ∙ sym (append-nil (F v)))) ordered)

    failed-call : IsFailedCall g stack [] torn-all.node torn-all.ending torn-all.coming
    unfolding torn-groups
    failed-call = refl

    pub torn-end : IsTornHistory g stack prefix (past b) before now
    torn-end = record {
      told = e.stops.0.told;
      each = λ v i n r bytes rule kind is.
          let f = groups.files-of-rule g stack sound prefix before b xs false held h v n r rule kind in
          let x = f.files in
          let file_ : whole_file x.shape (group_of x.count i (F x.node)) ≡ Some bytes =
          sym (groups.group-is g stack sound prefix before b xs false held h f.at x f.listed n i f.rule)
          ∙ ap (λ (w : ℕ). kind_group g stack (past b) w n.kind i) f.node ∙ is in
          let final = whole-bytes x.shape (group_of x.count i (F x.node)) bytes file_ in
          at-by (is_stream r.mode) bytes (group_name prefix n.name i) (λ told.
          subst (λ (name : List ℕ). IsBegunAs (is_stream r.mode) bytes (file_at before name) (file_at now name)) (f.named i)
          (subst (λ (late : Bool). IsBegunAs late bytes (file_at before (name_of x i)) (file_at now (name_of x i))) f.late
          (subst (λ (w : List ℕ). IsBegunAs x.late w (file_at before (name_of x i)) (file_at now (name_of x i))) (sym final.0)
          (each-goal told f.at x f.listed i final.1)))) now refl;
      others = λ q away. e.stops.0.others q
          (not-named q away e.at node e.listed torn (open-long e.at node e.listed torn (torn-some node.current refl e.stops.1)))
          (λ k y l at_y named.
          let o = groups.of-open g stack prefix xs k (closed y) (ended-back (e.at + 1) xs k y at_y) in
          let some = ended-long k o.0 y l o.1 o.2 at_y named in
          (λ eq. not-named q away k o.0 o.1 l some (eq ∙ sym (ap (λ (z : NodeFile). name_of z l) o.2))));
      later = [];
      front = past b;
      log = refl;
      written = F;
      given =
          λ v. ap (λ (ns : List FrameName). contents g.nodes stack.arrays ns) (sym (given-mine s v b (and_parts (is_legal s (past b)) _ h.legal).0 h.drained));
      groups = torn-all;
      call = failed-call;
    }
      where
        ended-back : (n : ℕ) (zs : List NodeFile) (k : ℕ) (y : NodeFile) → slice_get (ended_to n zs) k ≡ Some y → slice_get (map closed zs) k ≡ Some (closed y)
        ended-back n [] k y at_y = let none_ : None ≡ Some y = nil-get n k y at_y in absurd (cc)
          where
            nil-get : (m j : ℕ) (w : NodeFile) → slice_get (ended_to m []) j ≡ Some w → None ≡ Some w
            nil-get zero j w eq = eq
            nil-get (suc m) j w eq = eq
        ended-back zero (z ∷ zs) k y at_y = closed-get (z ∷ zs) k y at_y
          where
            closed-get : (ws : List NodeFile) (j : ℕ) (w : NodeFile) → slice_get ws j ≡ Some w → slice_get (map closed ws) j ≡ Some (closed w)
            closed-get [] j w eq = let none_ : None ≡ Some w = eq in absurd (cc)
            closed-get (u ∷ ws) zero w eq = ap (λ (q : NodeFile). Some (closed q)) (same_Some u w eq)
            closed-get (u ∷ ws) (suc j) w eq = closed-get ws j w eq
        ended-back (suc n) (z ∷ zs) zero y at_y = ap (λ (q : NodeFile). Some (closed q)) (same_Some (closed z) y at_y)
        ended-back (suc n) (z ∷ zs) (suc k) y at_y = ended-back n zs k y at_y

        ended-long : (k : ℕ) (x y : NodeFile) (l : ℕ) → slice_get xs k ≡ Some x → closed x ≡ closed y → slice_get (ended_to (e.at + 1) xs) k ≡ Some y
            → IsSome (group_file y (F y.node) l) → 1 ≤ length (group_of x.count l (F x.node))
        ended-long k x y l at same at_y named =
            elim (ended-at (e.at + 1) xs k x at) [
              | inl ended ↦
                  let is : closed x ≡ y = same_Some (closed x) y (sym ended.1 ∙ at_y) in
                  whole-long x.shape (group_of x.count l (F x.node))
                  (subst (λ (o : Option (List ℕ)). IsSome o) (closed-file x (F x.node) l)
                  (subst (λ (z : NodeFile). IsSome (group_file z (F z.node) l)) (sym is) named))
              | inr open_ ↦
                  let is : x ≡ y = same_Some x y (sym open_.1 ∙ at_y) in
                  open-long k x at l (subst (λ (z : NodeFile). IsSome (group_file z (F z.node) l)) (sym is) named)
            ]
