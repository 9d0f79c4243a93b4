-- A save and what follows it, as its role sees them.
use Rattle.std.proofs.Common.{◌≡◌, ℕ, ◌+◌, ◌*◌, ◌/◌, ◌%◌, ◌^◌, ◌<◌, ◌≤◌, Bool, true, false, List, [], ◌∷◌, ◌++◌, length, refl, sym, ap, subst, ◌∙◌, arith}
use Rattle.std.proofs.Common.{Option, Some, None}
use Rattle.std.specs.Prelude.{slice_get, if◌then◌else◌}
use Rattle.std.specs.List.{list_all}
use Rattle.std.proofs.Math.Nat.{mod-lt}
use Rattle.std.proofs.lemmas.Nat.{div-add-mod'}
use Rattle.std.proofs.lemmas.Bool.{and_parts, and_from, eq-eqb, false≢true}
use Rattle.std.proofs.lemmas.List.{append_cancel_right}
use Rattle.nd_base.specs.Array.{StackValue}
use Rattle.nd_base.specs.GraphRules.{IsGraph}
use Rattle.nd_base.specs.declared.graph.Graph.{Graph}
use Rattle.edge_traits.specs.Files.{Files}
use Rattle.frame_store.specs.Sealed.{Sealed}
use Rattle.flow_journal.specs.declared.entry.Entry.{Entry}
use Rattle.flow_journal.specs.declared.entry.Entry.TheVariants as entry
use Rattle.flow_journal.specs.Setting.{Setting, last_role}
use Rattle.flow_journal.specs.Pasts.{Past, comes_at}
use Rattle.flow_journal.specs.Hands.{hand}
use Rattle.flow_journal.specs.Following.{owed}
use Rattle.flow_journal.specs.Histories.{is_legal, is_history, is_nothing, next}
use Rattle.flow_journal.specs.Unsaved.{saves, standing_saves}
use Rattle.flow_journal.proofs.Changes.{hand_laws}
use Rattle.board_rules.specs.declared.told.Told.{Told}
use Rattle.board_rules.specs.declared.answers.Save.TheVariants.{Piece}
use Rattle.board_rules.specs.States.{BoardState, past, lends, lent_to}
use Rattle.flow_journal.specs.MoveLists.{begun_by, is_some_of}
use Rattle.board_rules.specs.Movers.{first_some, mover, moves_by}
use Rattle.board_rules.specs.Moving.{moved_at}
use Rattle.board_rules.specs.RunMeasures.{run_setting}
use Rattle.board_rules.specs.Saving.{SaveGives}
use Rattle.flow_roles.specs.declared.last.Said.{Said}
use Rattle.flow_roles.specs.Passes.{Pass, Called, saved_by_drain, only_drain_saves}
use Rattle.flow_roles.specs.Feeder.{name_of, parts_of}
use Rattle.flow_roles.proofs.Calls.{Moved, unmoved, moved, role-after, all-true}
use Rattle.graph_files.specs.NodeFiles.{NodeFile, IsPlaceAfter, HasNumrecs, first_count}
use Rattle.flow_saver.specs.GivenBack.{given_back, written_by}
use Rattle.flow_saver.specs.Saver.{Start, IsSaving, HasUnsaved, AreSaved, IsFirstCount, HasSavedSince}
use Rattle.flow_roles.specs.RoleMoves.{saver_logs}
use Rattle.flow_saver.specs.declared.piece.DuePiece.{DuePiece}
use Rattle.flow_saver.proofs.Answers.{Given, piece-given}
use Rattle.flow_saver.proofs.Due.{OfFile, of_file, IsNext, next-piece, next-room, next-sized, next-numrecs, next-first}
use Rattle.flow_saver.proofs.Saves.{saves-stand, saves-mine}
use Rattle.flow_saver.proofs.Sizes.{first-more, begun-more}

-- CALLS

module _ (s : Setting) (gives : BoardState → BoardState → Type 0)
    (answers : Said → Said) (p q : Pass) (r : ℕ) (is : p.role ≡ r) (c : Called s gives answers p q) (t : Told)
    (first : begun_by t.entry ≡ Some r) (logged : q.seen ≡ t ∷ (c.between ++ p.seen)) where
  pub one-entry : q.made ≡ t ∷ p.made
  one-entry =
      let added : c.added ≡ t ∷ [] = append_cancel_right c.added (t ∷ []) (c.between ++ p.seen) (sym c.seen ∙ logged) in
      c.made ∙ ap (λ (b : BoardState). b ++ p.made) added

  pub mine-before : moves_by r (c.between ++ p.seen) ≡ p.made
  mine-before =
      let here : is_some_of r (first_some (begun_by t.entry) (mover (c.between ++ p.seen))) ≡ true =
      ap (λ (o : Option ℕ). is_some_of r (first_some o (mover (c.between ++ p.seen)))) first ∙ eq-eqb r r refl in
      let both : t ∷ moves_by r (c.between ++ p.seen) ≡ t ∷ p.made =
      sym (ap (λ (b : BoardState). moves_by r b) logged ∙ rw here refl) ∙ (subst (λ (k : ℕ). moves_by k q.seen ≡ q.made) is c.exact ∙ one-entry) in
      cc

  pub legal-here : is_legal s (past (c.between ++ p.seen)) ≡ true
  legal-here =
      let whole = subst (λ (b : BoardState). is_history s (past b) ≡ true) logged c.legal in
      (and_parts (is_legal s (past (c.between ++ p.seen))) _ (and_parts (is_legal s (past (t ∷ (c.between ++ p.seen)))) _ whole).0).0

  pub drained-here : only_drain_saves s (past (c.between ++ p.seen)) ≡ true
  drained-here =
      let whole = subst (λ (b : BoardState). only_drain_saves s (past b) ≡ true) logged c.drained in
      (and_parts (saved_by_drain s t.entry) (only_drain_saves s (past (c.between ++ p.seen))) whole).1

nothing_owed : (s : Setting) (P : Past) (r v m k g : ℕ) (ds : List Entry) → next s P (entry.Save r v m k g) ds ≡ true → is_nothing ds ≡ true
nothing_owed s P r v m k g [] h = refl
nothing_owed s P r v m k g (d ∷ ds) h = absurd (false≢true h)

-- what is saved stays so as the log grows
pub saved-more : (g : Graph) (stack : StackValue) (start : Start) (P : Past) (more b : BoardState) (xs : List NodeFile) (fault : Bool) (held : Option Files)
    → is_legal (run_setting g stack) (past (more ++ b)) ≡ true
    → AreSaved g stack start.held P (past b) xs fault held → AreSaved g stack start.held P (past (more ++ b)) xs fault held
saved-more g stack start P more b xs true held legal h = record {
  later = h.later;
  front = h.front;
  role = h.role;
  name = h.name;
  node = h.node;
  whole = h.whole;
  files = h.files;
  then_held = h.then_held;
  written = h.written;
  begun = begun-more (run_setting g stack) more b (written_by g stack h.front) h.files legal h.begun;
  at = h.at;
  listed = h.listed;
  rows = h.rows;
  nodes = h.nodes;
  others = h.others;
  array = h.array;
  holds = h.holds;
  group = h.group;
  place = h.place;
  place_is = h.place_is;
  numrecs = h.numrecs;
  first = first-more (run_setting g stack) more b h.node.node h.node.count h.group h.node.late h.numrecs legal h.first;
  stops = h.stops;
}
saved-more g stack start P more b xs false held legal h = (h.0, begun-more (run_setting g stack) more b (written_by g stack P) xs legal h.1)

-- and as the role takes a piece
pub saved-taken : (g : Graph) (stack : StackValue) (before : Option Files) (r v m k i : ℕ) (P seen : Past) (xs : List NodeFile)
    (fault : Bool) (held : Option Files)
    → AreSaved g stack before P seen xs fault held → AreSaved g stack before (entry.Save r v m k i ∷ P) seen xs fault held
saved-taken g stack before r v m k i P seen xs true held h = record {
  later = entry.Save r v m k i ∷ h.later;
  front = h.front;
  role = h.role;
  name = h.name;
  node = h.node;
  whole = ap (λ (Q : Past). entry.Save r v m k i ∷ Q) h.whole;
  files = h.files;
  then_held = h.then_held;
  written = h.written;
  begun = h.begun;
  at = h.at;
  listed = h.listed;
  rows = h.rows;
  nodes = h.nodes;
  others = h.others;
  array = h.array;
  holds = h.holds;
  group = h.group;
  place = h.place;
  place_is = h.place_is;
  numrecs = h.numrecs;
  first = h.first;
  stops = h.stops;
}
saved-taken g stack before r v m k i P seen xs false held h = (h.0, h.1)

-- a role that made one move more that saves
pub saved-since : (then_made made new : BoardState) (t : Told) → saver_logs t.entry ≡ true → new ≡ t ∷ made
    → HasSavedSince then_made made → HasSavedSince then_made new
saved-since then_made made new t logs is h = (t ∷ h.0, is ∙ ap (λ (b : BoardState). t ∷ b) h.1, and_from _ _ logs h.2)

pub any-moved : (s : Setting) (gives : BoardState → BoardState → Type 0) (answers : Said → Said) (p q : Pass) (r : ℕ) → p.role ≡ r
    → (c : Called s gives answers p q) (t : Told)
    → begun_by t.entry ≡ Some r → q.seen ≡ moved_at s 0 t (c.between ++ p.seen) → Moved s (λ (e : Entry). true) r t (c.between ++ p.seen) p q
any-moved s gives answers p q r is c t first logged =
    moved s gives answers p q r is c (λ (e : Entry). true) 0 t logged first (λ e h. refl) refl (all-true (past p.made))

-- a call that changed nothing
pub saving-still : (g : Graph) (stack : StackValue) (start : Start) (r : ℕ) (gives : BoardState → BoardState → Type 0)
    (answers : Said → Said) (p q : Pass) (xs : List NodeFile) (fault : Bool) (held : Option Files)
    (st : IsSaving g stack start r p xs fault held) (c : Called (run_setting g stack) gives answers p q) → q.seen ≡ c.between ++ p.seen
    → IsSaving g stack start r q xs fault held
saving-still g stack start r gives answers p q xs fault held st c still =
    let s = run_setting g stack in
    let made = unmoved s gives answers p q r st.role c still in
    let legal = subst (λ (b : BoardState). is_legal s (past b) ≡ true) still (and_parts (is_legal s (past q.seen)) _ c.legal).0 in
    let saved = saved-more g stack start (past p.made) c.between p.seen xs fault held legal st.saved in
    record {
      role = role-after s gives answers p q r st.role c;
      moves = subst (λ (b : BoardState). HasSavedSince start.made b) (sym made) st.moves;
      free = subst (λ (b : BoardState). hand r (past b) ≡ None) (sym made) st.free;
      alike = subst (λ (b : BoardState). (v : ℕ) → saves v (past b) ≡ given_back v (past b)) (sym made) st.alike;
      whole = subst (λ (b : BoardState). (v : ℕ) → length (written_by g stack (past b) v) ≡ length (given_back v (past b))) (sym made) st.whole;
      nodes = st.nodes;
      rows = st.rows;
      saved = subst (λ (b : BoardState). AreSaved g stack start.held (past b) (past q.seen) xs fault held) (sym made)
          (subst (λ (b : BoardState). AreSaved g stack start.held (past p.made) (past b) xs fault held) (sym still) saved);
    }

-- what was given back is what the saves of the log took
pub all-given : (s : Setting) (gives : BoardState → BoardState → Type 0) (answers : Said → Said) (p q : Pass) (r : ℕ) → p.role ≡ r
    → r ≡ last_role s → Called s gives answers p q
    → ((v : ℕ) → saves v (past q.made) ≡ given_back v (past q.made)) → (v : ℕ) → standing_saves v (past q.seen) ≡ given_back v (past q.made)
all-given s gives answers p q r is drain c alike v =
    let legal = (and_parts (is_legal s (past q.seen)) _ c.legal).0 in
    let mine : moves_by (last_role s) q.seen ≡ q.made = subst (λ (k : ℕ). moves_by k q.seen ≡ q.made) (is ∙ drain) c.exact in
    saves-stand s v (past q.seen) legal c.drained ∙ saves-mine s v q.seen c.drained ∙ ap (λ (b : BoardState). saves v (past b)) mine ∙ alike v

-- A PIECE

module _ (g : Graph) (stack : StackValue) (sound : IsGraph g) (start : Start) (r : ℕ) (drain : r ≡ last_role (run_setting g stack))
    (p q : Pass) (xs : List NodeFile) (fault : Bool) (held : Option Files) (answers : Said → Said)
    (st : IsSaving g stack start r p xs fault held) (k : ℕ) (x : NodeFile) (at : slice_get xs k ≡ Some x) (input : Sealed) (group place : ℕ) (of : Option ℕ)
    (c : Called (run_setting g stack)
    (λ old new. SaveGives name_of parts_of (run_setting g stack) old r x.node (Piece input group place of) new) answers p q) where
  abbrev s : Setting
  s = run_setting g stack

  abbrev here : BoardState
  here = c.between ++ p.seen

  abbrev t : Told
  t = lends (entry.Save r x.node input.name.maker input.name.index group) (parts_of input)

  abbrev gives : BoardState → BoardState → Type 0
  gives = λ old new. SaveGives name_of parts_of s old r x.node (Piece input group place of) new

  pub given : Given s here r x.node input group place of q.seen
  given = piece-given s here q.seen r x.node input group place of c.answer

  pub taken-made : q.made ≡ t ∷ p.made
  taken-made = one-entry s gives answers p q r st.role c t refl given.logged

  pub file : OfFile g stack x
  file = of_file g stack start.prefix xs k x sound st.nodes at

  pub legal : is_legal s (past here) ≡ true
  legal = legal-here s gives answers p q r st.role c t refl given.logged

  history : is_history s (past here) ≡ true
  history =
      let whole = subst (λ (b : BoardState). is_history s (past b) ≡ true) given.logged c.legal in
      let row = (and_parts (is_legal s (past here)) _ (and_parts (is_legal s (past (t ∷ here))) _ whole).0).1 in
      rw (legal, nothing_owed s (past here) r x.node input.name.maker input.name.index group (owed s (past here)) row) refl

  pub many : length (standing_saves x.node (past here)) ≡ length (written_by g stack (past p.made) x.node)
  many =
      let drained = drained-here s gives answers p q r st.role c t refl given.logged in
      ap length (saves-stand s x.node (past here) legal drained ∙ saves-mine s x.node here drained
      ∙ ap (λ (j : ℕ). saves x.node (past (moves_by j here))) (sym drain)
      ∙ ap (λ (b : BoardState). saves x.node (past b)) (mine-before s gives answers p q r st.role c t refl given.logged) ∙ st.alike x.node)
      ∙ sym (st.whole x.node)

  pub upcoming : IsNext g stack x (past here) (length (written_by g stack (past p.made) x.node)) input.name group place of
  upcoming =
      let due = and_parts _ _ given.due in
      subst (λ (n : ℕ). IsNext g stack x (past here) n input.name group place of) many
      (next-piece g stack x file (past here)
      (length (standing_saves x.node (past here))) input.name group place of sound history refl due.1 given.next given.group_is given.place_is given.of_is)

  pub place-after : IsPlaceAfter x.count (written_by g stack (past p.made) x.node) group place
  place-after =
      let n = length (written_by g stack (past p.made) x.node) in
      let some : 0 < x.count = omega (arith, file.count, file.sound.count.0) in
      record {
        within = omega (arith, mod-lt n some, upcoming.place_is);
        all =
            sym (div-add-mod' n x.count) ∙ ap (λ i. i * x.count + n % x.count) (sym upcoming.group_is) ∙ ap (λ j. group * x.count + j) (sym upcoming.place_is);
      }

  pub few : length stack.arrays ≤ 65536 → length (written_by g stack (past p.made) x.node) + 1 < 2 ^ 64
  few small = omega (arith, upcoming.below, upcoming.few, small)

  numrecs-of : (saved : AreSaved g stack start.held (past p.made) (past p.seen) xs false held) (o : _) → x.current ≡ o → HasNumrecs (first_count x.late of) o
  numrecs-of saved None is = tt
  numrecs-of saved (Some f) is =
      let was = saved.1 k x f at is in
      let now = first-more s c.between p.seen x.node x.count (length (written_by g stack (past p.made) x.node) / x.count) x.late f.numrecs legal was in
      next-numrecs g stack x (past here) (length (written_by g stack (past p.made) x.node)) input.name group place of f.numrecs upcoming
      (subst (λ (i : ℕ). IsFirstCount (past here) x.node x.count i x.late f.numrecs) (sym upcoming.group_is) now)

  numrecs-by : (b : Bool) → fault ≡ b → fault ≡ false → HasNumrecs (first_count x.late of) x.current
  numrecs-by b is fine =
      let saved = subst (λ (w : Bool). AreSaved g stack start.held (past p.made) (past p.seen) xs w held) fine st.saved in
      numrecs-of saved x.current refl

  took : Moved s (λ (e : Entry). true) r t here p q
  took = any-moved s gives answers p q r st.role c t refl given.logged

  legal-then : is_legal s (past (t ∷ here)) ≡ true
  legal-then = subst (λ (b : BoardState). is_legal s (past b) ≡ true) given.logged (and_parts (is_legal s (past q.seen)) _ c.legal).0

  abbrev back : Entry
  back = entry.Saved r x.node input.name.maker input.name.index

  abbrev due : DuePiece Sealed
  due = record { piece = input; at = k; group = group; place = place; of = of }

  -- it is in hand, and may be written
  pub in-hand : length stack.arrays ≤ 65536 → HasUnsaved g stack start r q xs fault held due
  in-hand small =
      let saved : AreSaved g stack start.held (past (t ∷ p.made)) (past (t ∷ here)) xs fault held =
      saved-taken g stack start.held r x.node input.name.maker input.name.index group (past p.made) (past (t ∷ here)) xs fault held
      (saved-more g stack start (past p.made) (t ∷ c.between) p.seen xs fault held legal-then st.saved) in
      let first_ : IsFirstCount (past (t ∷ here)) x.node x.count group x.late (first_count x.late of) =
      first-more s (t ∷ []) here x.node x.count group x.late (first_count x.late of) legal-then
      (next-first g stack x (past here) (length (written_by g stack (past p.made) x.node)) input.name group place of upcoming) in
      record {
        role = role-after s gives answers p q r st.role c;
        moves = saved-since start.made p.made q.made t refl taken-made st.moves;
        node = x;
        listed = at;
        hand = took.hand ∙ hand_laws.up r t.entry (past here) (eq-eqb r r refl);
        lent = took.lent ∙ ap (λ (b : Bool). if b then t.lent else lent_to r p.made) (eq-eqb r r refl);
        maker = upcoming.named;
        place = subst (λ (b : BoardState). IsPlaceAfter x.count (written_by g stack (past b) x.node) group place) (sym taken-made) place-after;
        few = subst (λ (b : BoardState). length (written_by g stack (past b) x.node) + 1 < 2 ^ 64) (sym taken-made) (few small);
        room = next-room g stack x file (past here) (length (written_by g stack (past p.made) x.node)) input.name group place of upcoming;
        sized = next-sized g stack x file (past here) (length (written_by g stack (past p.made) x.node)) input.name group place of upcoming;
        first = subst (λ (b : BoardState). IsFirstCount (past b) x.node x.count group x.late (first_count x.late of)) (sym given.logged) first_;
        numrecs = numrecs-by fault refl;
        alike =
            subst (λ (b : BoardState). (v : ℕ) → saves v (past b) ≡ given_back v (back ∷ past b)) (sym taken-made)
            (λ v. ap (comes_at v x.node input.name) (st.alike v));
        whole = subst (λ (b : BoardState). (v : ℕ) → length (written_by g stack (past b) v) ≡ length (given_back v (past b))) (sym taken-made) st.whole;
        nodes = st.nodes;
        rows = λ fine j y f off. st.rows fine j y f (λ e. let none_ : None ≡ Some j = e in absurd (cc));
        saved = subst (λ (b : BoardState). AreSaved g stack start.held (past b) (past q.seen) xs fault held) (sym taken-made)
            (subst (λ (b : BoardState). AreSaved g stack start.held (past (t ∷ p.made)) (past b) xs fault held) (sym given.logged) saved);
      }
