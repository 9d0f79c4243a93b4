-- The turns of the role that saves.
use Rattle.std.proofs.Common.{◌≡◌, ℕ, zero, suc, ◌+◌, ◌-◌, ◌^◌, ◌<◌, ◌≤◌, true, false, List, [], ◌∷◌, ◌++◌, length, map, refl, sym, ap, subst, ◌∙◌}
use Rattle.std.proofs.Common.{arith, inl, inr, Bool, ◌||◌, ◌⊎◌, Option, None, Some, Ok, Err}
use Rattle.std.specs.Prelude.{min, is_some, slice_get, Result, OnOk, OnErr}
use Rattle.std.specs.List.{All}
use Rattle.std.specs.Option.{option_map}
use Rattle.std.proofs.lemmas.Bool.{and_parts, cases_Bool, false≢true}
use Rattle.std.proofs.lemmas.List.{append_assoc, append_cancel_right}
use Rattle.std.proofs.lemmas.List.Elements.{All-nil, All-cons, All-head, All-tail, All-append, filter_map-append}
use Rattle.std.proofs.lemmas.Option.{slice_get-map, same_Some}
use Rattle.nd_base.specs.Array.{StackValue}
use Rattle.nd_base.specs.declared.graph.Graph.{Graph}
use Rattle.nd_base.specs.declared.graph.Kind.{Kind}
use Rattle.nd_base.specs.declared.graph.Kind.TheVariants.{Roi, Stats, Circular, File, Scatter}
use Rattle.nd_base.specs.declared.graph.NodeRule.{NodeRule}
use Rattle.frame_store.specs.Sealed.{Sealed}
use Rattle.flow_journal.specs.declared.entry.Entry.{Entry}
use Rattle.flow_journal.specs.declared.entry.Entry.TheVariants.{Save}
use Rattle.flow_journal.specs.declared.progress.Progress.{Progress}
use Rattle.flow_journal.specs.Setting.{Setting, last_role}
use Rattle.flow_journal.specs.Pasts.{Past}
use Rattle.flow_journal.specs.Hands.{hand}
use Rattle.flow_journal.specs.Ended.{has_left_any}
use Rattle.flow_journal.specs.Finished.{is_finished}
use Rattle.flow_journal.specs.Notes.{Watched, progress_of, took, refused_one, WasNoted, WereNoted}
use Rattle.flow_journal.specs.MoveLists.{begun_by, is_some_of}
use Rattle.board_rules.specs.declared.told.Told.{Told}
use Rattle.board_rules.specs.declared.answers.Save.TheVariants.{NotYet, Piece}
use Rattle.board_rules.specs.States.{BoardState, past, lends}
use Rattle.board_rules.specs.Movers.{first_some, mover, moves_by}
use Rattle.board_rules.specs.Saving.{SaveGives}
use Rattle.board_rules.proofs.Moves.{moves-tell}
use Rattle.board_rules.proofs.Pasts.{past-append}
use Rattle.flow_roles.specs.declared.last.Said.{Said}
use Rattle.flow_roles.specs.Lasts.{said_other, said_progress}
use Rattle.flow_roles.specs.Passes.{Pass, Called, saved_by_drain, only_drain_saves}
use Rattle.flow_roles.specs.Feeder.{name_of, parts_of}
use Rattle.flow_roles.proofs.FeederTicks.{one-more}
use Rattle.graph_files.specs.NodeFiles.{NodeFile, node_file}
use Rattle.graph_files.specs.OpenFiles.{kind_node, nodes_from, file_nodes, closed}
use Rattle.graph_files.specs.OpenFileLaws.{of_node}
use Rattle.flow_saver.specs.Turns.{node_saved, nodes_saved, Falls, AreTurns, KnowsItsOwn, HasGoneOn, AreNone, AreAt, FallBefore, ends_at}
use Rattle.flow_saver.proofs.Answers.{piece-given, not_yet-still}
use Rattle.flow_saver.proofs.SaveOne.{item}

-- NODES

each : {X : Type 0} (P Q : X → Type 0) (xs : List X) → ((x : X) → P x → Q x) → All P xs → All Q xs
each P Q xs f h k d low = f _ (h k d low)

falls-more : (v : ℕ) (ws vs : List ℕ) → AreAt v ws → All (λ w. w ≤ v) vs → Falls vs → Falls (ws ++ vs)
falls-more v [] vs at low f = f
falls-more v (w ∷ ws) vs at low f =
    let here : w ≡ v = All-head (λ u. u ≡ v) w ws at in
    let rest = All-tail (λ u. u ≡ v) w ws at in (
      All-append (λ u. u ≤ w) ws vs (each (λ u. u ≡ v) (λ u. u ≤ w) ws (λ u is. omega (arith, is, here)) rest)
          (each (λ u. u ≤ v) (λ u. u ≤ w) vs (λ u under. omega (arith, under, here)) low),
      falls-more v ws vs rest low f,
    )

module _ (g : Graph) (s : StackValue) (prefix : List ℕ) where
  abbrev Rise : List NodeFile → Type 0
  Rise xs = (j k : ℕ) (x y : NodeFile) → slice_get xs j ≡ Some x → slice_get xs k ≡ Some y → j ≤ k → x.node ≤ y.node

  rise-kind : (v : ℕ) (n : NodeRule) (ns : List NodeRule) → Rise (nodes_from g s prefix (v + 1) ns) → (c : Kind)
      → Rise (kind_node g s prefix v n.name c ++ nodes_from g s prefix (v + 1) ns)
  rise-kind v n ns rest (File r) zero zero x y hx hy up =
      let same : x ≡ y = same_Some x y (sym hx ∙ hy) in omega (arith, ap (λ (z : NodeFile). z.node) same)
  rise-kind v n ns rest (File r) zero (suc k) x y hx hy up =
      let same : v ≡ x.node = ap (λ (z : NodeFile). z.node) (same_Some (node_file g s prefix v r n.name) x hx) in
      omega (arith, same, (of_node g s prefix (v + 1) ns k y hy).node)
  rise-kind v n ns rest (File r) (suc j) zero x y hx hy up = absurd (omega (arith, up))
  rise-kind v n ns rest (File r) (suc j) (suc k) x y hx hy up = rest j k x y hx hy (omega (arith, up))
  rise-kind v n ns rest (Roi r) j k x y hx hy up = rest j k x y hx hy up
  rise-kind v n ns rest (Stats r) j k x y hx hy up = rest j k x y hx hy up
  rise-kind v n ns rest (Circular r) j k x y hx hy up = rest j k x y hx hy up
  rise-kind v n ns rest Scatter j k x y hx hy up = rest j k x y hx hy up

  nodes-rise : (v : ℕ) (ns : List NodeRule) → Rise (nodes_from g s prefix v ns)
  nodes-rise v [] j k x y hx hy up = let none_ : None ≡ Some x = hx in absurd (cc)
  nodes-rise v (n ∷ ns) j k x y hx hy up =
      rise-kind v n ns (λ a b z w hz hw le. nodes-rise (v + 1) ns a b z w hz hw le) n.kind j k x y hx hy up

  -- a node more of the turn
  pub fall-on : (at : ℕ) (x : NodeFile) (vs ws : List ℕ) → slice_get (file_nodes g s prefix) at ≡ Some x
      → FallBefore (file_nodes g s prefix) at vs → AreAt x.node ws → FallBefore (file_nodes g s prefix) (at + 1) (ws ++ vs)
  fall-on at x vs ws here f mine = (
    falls-more x.node ws vs mine (f.1 at x (omega arith) here) f.0,
    λ j y above there. All-append (λ w. w ≤ y.node) ws vs
        (each (λ w. w ≡ x.node) (λ w. w ≤ y.node) ws
        (λ w is. omega (arith, is, nodes-rise 1 g.nodes at j x y here there (omega (arith, above)))) mine)
        (f.1 j y (omega (arith, above)) there),
  )

-- SAVES

saved-then : (e : Entry) (P Q : Past) → nodes_saved P ≡ nodes_saved Q → nodes_saved (e ∷ P) ≡ nodes_saved (e ∷ Q)
saved-then (Save r v m k g) P Q same = ap (λ (vs : List ℕ). v ∷ vs) same
saved-then _ P Q same = same

saved-skip : (s : Setting) (e : Entry) (o : Option ℕ) (P : Past) → saved_by_drain s e ≡ true
    → is_some_of (last_role s) (first_some (begun_by e) o) ≡ false → nodes_saved (e ∷ P) ≡ nodes_saved P
saved-skip s (Save r v m k g) o P drain other = absurd (false≢true (sym other ∙ drain))
saved-skip s _ o P drain other = refl

-- where the drain alone saves, all saves are its own moves
saved-mine : (s : Setting) (b : BoardState) → only_drain_saves s (past b) ≡ true → nodes_saved (past b) ≡ nodes_saved (past (moves_by (last_role s) b))
saved-mine s [] d = refl
saved-mine s (t ∷ b) d =
    let parts = and_parts (saved_by_drain s t.entry) (only_drain_saves s (past b)) d in
    let before = saved-mine s b parts.1 in
    elim (cases_Bool (is_some_of (last_role s) (first_some (begun_by t.entry) (mover b)))) [
      | inl mine ↦ rw mine (saved-then t.entry (past b) (past (moves_by (last_role s) b)) before)
      | inr other ↦ rw other (saved-skip s t.entry (mover b) (past b) parts.0 other ∙ before)
    ]

saved-append : (a b : BoardState) → nodes_saved (past (a ++ b)) ≡ nodes_saved (past a) ++ nodes_saved (past b)
saved-append a b = ap nodes_saved (past-append a b) ∙ filter_map-append node_saved (past a) (past b)

-- CALLS

-- no NotYours, and no question how far the run has come
abbrev pub KeepsCount : (Said → Said) → Type 0
KeepsCount answers = (said : Said) → ((answers said).owned ≡ said.owned) × ((answers said).asked ≡ said.asked)

module _ (s : Setting) where
  pub call-own : (gives : BoardState → BoardState → Type 0) (answers : Said → Said) (p q : Pass) → Called s gives answers p q → KnowsItsOwn s q
  call-own gives answers p q c = (subst (λ (r : ℕ). moves_by r q.seen ≡ q.made) (sym c.role) c.exact, c.drained)

  pub gone-call : (Nodes : List ℕ → Type 0) (gives : BoardState → BoardState → Type 0) (answers : Said → Said) (p q : Pass) (c : Called s gives answers p q)
      → Nodes (nodes_saved (past c.added)) → KeepsCount answers → HasGoneOn s Nodes p q
  gone-call Nodes gives answers p q c at keeps =
      record {
        role = c.role;
        newer = c.added ++ c.between;
        seen = c.seen ∙ sym (append_assoc c.added c.between p.seen);
        added = c.added;
        made = c.made;
        nodes = at;
        own = λ before. call-own gives answers p q c;
        owned = λ all. ap (λ (said : Said). said.owned) c.said ∙ ((keeps p.said).0 ∙ all);
        asked = ap (λ (said : Said). said.asked) c.said ∙ (keeps p.said).1;
      }

  -- a call that changed nothing
  pub gone-nothing : (Nodes : List ℕ → Type 0) (gives : BoardState → BoardState → Type 0) (answers : Said → Said) (p q : Pass) (c : Called s gives answers p q)
      → q.seen ≡ c.between ++ p.seen → Nodes [] → KeepsCount answers → HasGoneOn s Nodes p q
  gone-nothing Nodes gives answers p q c still none keeps =
      let added : c.added ≡ [] = append_cancel_right c.added [] (c.between ++ p.seen) (sym c.seen ∙ still) in
      gone-call Nodes gives answers p q c (subst (λ (b : BoardState). Nodes (nodes_saved (past b))) (sym added) none) keeps

  -- one that added this
  pub gone-logged : (Nodes : List ℕ → Type 0) (gives : BoardState → BoardState → Type 0) (answers : Said → Said) (p q : Pass) (c : Called s gives answers p q)
      → (t : Told) → q.seen ≡ t ∷ (c.between ++ p.seen) → Nodes (nodes_saved (t.entry ∷ [])) → KeepsCount answers → HasGoneOn s Nodes p q
  gone-logged Nodes gives answers p q c t logged at keeps =
      let added : c.added ≡ t ∷ [] = append_cancel_right c.added (t ∷ []) (c.between ++ p.seen) (sym c.seen ∙ logged) in
      gone-call Nodes gives answers p q c (subst (λ (b : BoardState). Nodes (nodes_saved (past b))) (sym added) at) keeps

  -- a question adds nothing, and the role has seen more of the log
  pub gone-asked : (gives : BoardState → BoardState → Type 0) (answers : Said → Said) (p q : Pass) (c : Called s gives answers p q)
      → q.seen ≡ c.between ++ p.seen → HasGoneOn s AreNone p (record { role = q.role; said = p.said; seen = q.seen; made = q.made })
  gone-asked gives answers p q c still =
      let q_then : Pass = record { role = q.role; said = p.said; seen = q.seen; made = q.made } in
      let c_then : Called s gives (λ said. said) p q_then = record {
        between = c.between;
        added = c.added;
        seen = c.seen;
        answer = c.answer;
        move = c.move;
        made = c.made;
        exact = c.exact;
        role = c.role;
        said = refl;
        legal = c.legal;
        drained = c.drained;
      } in
      gone-nothing AreNone gives (λ said. said) p q_then c_then still refl (λ said. (refl, refl))

  pub once-asked : (gives : BoardState → BoardState → Type 0) (answer : Progress) (p q : Pass) → Called s gives (said_progress answer) p q → (n : ℕ)
      → p.said.asked ≡ min n (2 ^ 64 - 1) → q.said.asked ≡ min (suc n) (2 ^ 64 - 1)
  once-asked gives answer p q c n is = ap (λ (said : Said). said.asked) c.said ∙ one-more p.said.asked n is

  pub gone-still : (Nodes : List ℕ → Type 0) (p : Pass) → Nodes [] → HasGoneOn s Nodes p p
  gone-still Nodes p none =
      record {
        role = refl;
        newer = [];
        seen = refl;
        added = [];
        made = refl;
        nodes = none;
        own = λ own. own;
        owned = λ all. all;
        asked = refl;
      }

  pub gone-then : (M N O : List ℕ → Type 0) (p q r : Pass) → ((vs ws : List ℕ) → M vs → N ws → O (ws ++ vs))
      → HasGoneOn s M p q → HasGoneOn s N q r → HasGoneOn s O p r
  gone-then M N O p q r both a b =
      record {
        role = b.role ∙ a.role;
        newer = b.newer ++ a.newer;
        seen = b.seen ∙ (ap (λ (x : BoardState). b.newer ++ x) a.seen ∙ sym (append_assoc b.newer a.newer p.seen));
        added = b.added ++ a.added;
        made = b.made ∙ (ap (λ (x : BoardState). b.added ++ x) a.made ∙ sym (append_assoc b.added a.added p.made));
        nodes = subst O (sym (saved-append b.added a.added)) (both (nodes_saved (past a.added)) (nodes_saved (past b.added)) a.nodes b.nodes);
        own = λ own. b.own (a.own own);
        owned = λ all. b.owned (a.owned all);
        asked = b.asked ∙ a.asked;
      }

  pub gone-as : (M N : List ℕ → Type 0) (p q : Pass) → ((vs : List ℕ) → M vs → N vs) → HasGoneOn s M p q → HasGoneOn s N p q
  gone-as M N p q only a =
      record {
        role = a.role;
        newer = a.newer;
        seen = a.seen;
        added = a.added;
        made = a.made;
        nodes = only (nodes_saved (past a.added)) a.nodes;
        own = a.own;
        owned = a.owned;
        asked = a.asked;
      }

  -- nothing after that changes what was saved
  pub gone-on : (M : List ℕ → Type 0) (p q r : Pass) → HasGoneOn s M p q → HasGoneOn s AreNone q r → HasGoneOn s M p r
  gone-on M p q r a b = gone-then M AreNone M p q r (λ vs ws m none. subst (λ (us : List ℕ). M (us ++ vs)) (sym none) m) a b

  pub gone-at : (v : ℕ) (p q r : Pass) → HasGoneOn s (AreAt v) p q → HasGoneOn s (AreAt v) q r → HasGoneOn s (AreAt v) p r
  gone-at v p q r a b = gone-then (AreAt v) (AreAt v) (AreAt v) p q r (λ vs ws m n. All-append (λ w. w ≡ v) ws vs n m) a b

  -- THE TURNS OF THE LOG

  -- what the log saved in between is what the role did
  log-saved : (M : List ℕ → Type 0) (p q : Pass) → p.role ≡ last_role s → (h : HasGoneOn s M p q) → KnowsItsOwn s p → KnowsItsOwn s q
      → nodes_saved (past h.newer) ≡ nodes_saved (past h.added)
  log-saved M p q drain h was is =
      let of_p : nodes_saved (past p.seen) ≡ nodes_saved (past p.made) =
      saved-mine s p.seen was.1 ∙ ap (λ (b : BoardState). nodes_saved (past b)) (subst (λ (r : ℕ). moves_by r p.seen ≡ p.made) drain was.0) in
      let of_q : nodes_saved (past q.seen) ≡ nodes_saved (past q.made) =
      saved-mine s q.seen is.1 ∙ ap (λ (b : BoardState). nodes_saved (past b)) (subst (λ (r : ℕ). moves_by r q.seen ≡ q.made) (h.role ∙ drain) is.0) in
      append_cancel_right (nodes_saved (past h.newer)) (nodes_saved (past h.added)) (nodes_saved (past p.seen))
      (sym (ap (λ (b : BoardState). nodes_saved (past b)) h.seen ∙ saved-append h.newer p.seen)
      ∙ (of_q ∙ (ap (λ (b : BoardState). nodes_saved (past b)) h.made
      ∙ (saved-append h.added p.made ∙ ap (λ (vs : List ℕ). nodes_saved (past h.added) ++ vs) (sym of_p)))))

  -- before the first turn nothing was saved
  pub turns-first : (p q : Pass) → p.role ≡ last_role s → p.made ≡ [] → HasGoneOn s AreNone p q → KnowsItsOwn s q → AreTurns [] (past q.seen)
  turns-first p q drain none h is =
      saved-mine s q.seen is.1
      ∙ (ap (λ (b : BoardState). nodes_saved (past b)) (subst (λ (r : ℕ). moves_by r q.seen ≡ q.made) (h.role ∙ drain) is.0)
      ∙ (ap (λ (b : BoardState). nodes_saved (past b)) (h.made ∙ ap (λ (b : BoardState). h.added ++ b) none)
      ∙ (saved-append h.added [] ∙ ap (λ (vs : List ℕ). vs ++ []) h.nodes)))

  pub turns-same : (fronts : List Past) (P : Past) → AreTurns fronts P → AreTurns (P ∷ fronts) P
  turns-same fronts P before = ([], refl, tt, before)

  -- a turn more
  pub turns-next : (fronts : List Past) (p q : Pass) → p.role ≡ last_role s → HasGoneOn s Falls p q → KnowsItsOwn s p → KnowsItsOwn s q
      → AreTurns fronts (past p.seen) → AreTurns (past p.seen ∷ fronts) (past q.seen)
  turns-next fronts p q drain h was is before = (
    past h.newer,
    ap past h.seen ∙ past-append h.newer p.seen,
    subst Falls (sym (log-saved Falls p q drain h was is)) h.nodes,
    before,
  )

-- A SAVE

module _ (g : Graph) (stack : StackValue) (prefix : List ℕ) (xs : List NodeFile) (nodes : map closed xs ≡ file_nodes g stack prefix) where
  listed : (k : ℕ) (y : NodeFile) → slice_get xs k ≡ Some y → slice_get (file_nodes g stack prefix) k ≡ Some (closed y)
  listed k y at = ap (λ (ys : List NodeFile). slice_get ys k) (sym nodes) ∙ slice_get-map closed xs k ∙ ap (option_map closed) at

  -- a node more of the turn
  pub turn-on : (s : Setting) (n : ℕ) (o p q : Pass) → n < length xs → HasGoneOn s (FallBefore (file_nodes g stack prefix) n) o p
      → ((x : NodeFile) → slice_get (file_nodes g stack prefix) n ≡ Some x → HasGoneOn s (AreAt x.node) p q)
      → HasGoneOn s (FallBefore (file_nodes g stack prefix) (n + 1)) o q
  turn-on s n o p q within before at =
      let i = item xs n within in
      let x : NodeFile = closed i.0 in
      let here = listed n i.0 i.1 in
      gone-then s (FallBefore (file_nodes g stack prefix) n) (AreAt x.node) (FallBefore (file_nodes g stack prefix) (n + 1)) o p q
      (λ vs ws f mine. fall-on g stack prefix n x vs ws here f mine) before (at x here)

  module _ (s : Setting) (r : ℕ) (p q : Pass) (k v : ℕ) (node : (x : NodeFile) → slice_get xs k ≡ Some x → v ≡ x.node)
      (within : k < length xs) (x : NodeFile) (at : slice_get (file_nodes g stack prefix) k ≡ Some x) where
    node-is : v ≡ x.node
    node-is =
        let i = item xs k within in
        node i.0 i.1 ∙ ap (λ (y : NodeFile). y.node) (same_Some (closed i.0) x (sym (listed k i.0 i.1) ∙ at))

    pub gone-not_yet : Called s (λ old new. SaveGives name_of parts_of s old r v NotYet new) said_other p q → HasGoneOn s (AreAt x.node) p q
    gone-not_yet c =
        gone-nothing s (AreAt x.node) (λ old new. SaveGives name_of parts_of s old r v NotYet new) said_other p q c
        (not_yet-still s (c.between ++ p.seen) q.seen r v c.answer) (All-nil (λ w. w ≡ x.node)) (λ said. (refl, refl))

    pub gone-piece : (input : Sealed) (group place : ℕ) (of : Option ℕ)
        → Called s (λ old new. SaveGives name_of parts_of s old r v (Piece input group place of) new) said_other p q → HasGoneOn s (AreAt x.node) p q
    gone-piece input group place of c =
        gone-logged s (AreAt x.node) (λ old new. SaveGives name_of parts_of s old r v (Piece input group place of) new) said_other p q c
        (lends (Save r v input.name.maker input.name.index group) (parts_of input))
        (piece-given s (c.between ++ p.seen) q.seen r v input group place of c.answer).logged
        (All-cons (λ w. w ≡ x.node) v [] node-is (All-nil (λ w. w ≡ x.node))) (λ said. (refl, refl))

-- HOW THE ROLE ENDS

or-right : (a b : Bool) → b ≡ true → (a || b) ≡ true
or-right true b h = refl
or-right false b h = h

pub ended-wanting : (s : Setting) (r : ℕ) (p : Pass) (e : Entry) → moves_by p.role p.seen ≡ p.made → p.role ≡ r → r ≡ last_role s
    → hand r (past p.made) ≡ Some e → ends_at s (past p.seen) true ≡ true
ended-wanting s r p e own role drain held =
    let mine : moves_by r p.seen ≡ p.made = subst (λ (q : ℕ). moves_by q p.seen ≡ p.made) role own in
    let here_ : hand r (past p.seen) ≡ Some e = sym (moves-tell p.seen r).0 ∙ (ap (λ (b : BoardState). hand r (past b)) mine ∙ held) in
    ap is_some (subst (λ (q : ℕ). hand q (past p.seen) ≡ Some e) drain here_)

pub ended-asked : (s : Setting) (answer : Progress) (here seen : BoardState) → answer ≡ progress_of s (past here) → seen ≡ here
    → (answer.done ≡ true) ⊎ (answer.left ≡ true) → ends_at s (past seen) false ≡ true
ended-asked s answer here seen is same (inl done) =
    let finished : is_finished s (past seen) ≡ true =
    ap (λ (b : BoardState). is_finished s (past b)) same ∙ (sym (ap (λ (p : Progress). p.done) is) ∙ done) in
    rw finished refl
ended-asked s answer here seen is same (inr left) =
    let some_left : has_left_any (past seen) ≡ true =
    ap (λ (b : BoardState). has_left_any (past b)) same ∙ (sym (ap (λ (p : Progress). p.left) is) ∙ left) in
    or-right (is_finished s (past seen)) (has_left_any (past seen)) some_left

-- A NOTE

pub noted-more : {T E : Type 0} (s : Setting) (fronts : List Past) (old w new : Watched) (answer : Result T E) (note : Progress) (here seen : BoardState)
    → note ≡ progress_of s (past here) → seen ≡ here → WereNoted s fronts old w → OnOk answer (new ≡ took note w)
    → OnErr answer (new ≡ refused_one w) → WereNoted s (past seen ∷ fronts) old new
noted-more s fronts old w new answer note here seen is same before ok err = (w, before, noted)
  where
    note-is : note ≡ progress_of s (past seen)
    note-is = is ∙ ap (λ (b : BoardState). progress_of s (past b)) (sym same)

    by-answer : {T E : Type 0} (answer : Result T E) → OnOk answer (new ≡ took note w) → OnErr answer (new ≡ refused_one w) → WasNoted note w new
    by-answer (Ok x) ok err = inl ok
    by-answer (Err e) ok err = inr err

    noted : WasNoted (progress_of s (past seen)) w new
    noted = subst (λ (n : Progress). WasNoted n w new) note-is (by-answer answer ok err)
