-- How the files go from the role that saves to the last role on a board that it has alone, and on through the drain.
use Rattle.std.proofs.Common.{◌≡◌, ◌≢◌, ℕ, suc, ◌+◌, ◌/◌, ◌^◌, ◌<◌, Bool, true, false, List, [], ◌∷◌, ◌++◌, length, refl, sym, ap, subst, ◌∙◌, Option, Some}
use Rattle.std.proofs.Common.{None, inl, inr}
use Rattle.std.specs.Prelude.{is_none, if◌then◌else◌}
use Rattle.std.specs.List.{list_all}
use Rattle.std.proofs.lemmas.Bool.{and_parts, and_from, cases_Bool, false≢true, eqb-true, ne_eqb}
use Rattle.std.proofs.lemmas.List.{append_assoc}
use Rattle.nd_base.specs.Array.{Array, StackValue}
use Rattle.nd_base.specs.declared.frame.FrameName.{FrameName}
use Rattle.nd_base.specs.declared.graph.Graph.{Graph}
use Rattle.edge_traits.specs.Files.{Files}
use Rattle.frame_store.specs.Sealed.{Sealed}
use Rattle.flow_journal.specs.declared.entry.Entry.{Entry}
use Rattle.flow_journal.specs.declared.entry.Entry.TheVariants.{Load, LoadRefused, Issue, Take, TakeBlock, PoolDrop, Put, Settle, Save, Saved, Close, Leave}
use Rattle.flow_journal.specs.declared.entry.Entry.TheVariants.{Reclaim}
use Rattle.flow_journal.specs.Setting.{Setting, last_role}
use Rattle.flow_journal.specs.Pasts.{Past}
use Rattle.flow_journal.specs.Hands.{hand, is_free}
use Rattle.flow_journal.specs.Ended.{reclaims, was_reclaimed}
use Rattle.flow_journal.specs.Histories.{is_legal, is_history}
use Rattle.flow_journal.specs.Unsaved.{saves}
use Rattle.board_rules.specs.declared.answers.Left.{Left}
use Rattle.board_rules.specs.declared.told.Told.{Told}
use Rattle.board_rules.specs.States.{BoardState, past, lent_to, loses}
use Rattle.flow_journal.specs.MoveLists.{begun_by, is_some_of}
use Rattle.board_rules.specs.Storage.{lost_of}
use Rattle.board_rules.specs.Movers.{first_some, mover, moves_by}
use Rattle.board_rules.specs.Moving.{moved, moved_at}
use Rattle.board_rules.specs.RunMeasures.{run_setting}
use Rattle.board_rules.proofs.Moves.{followers, one-move, moves-tell, GoOn}
use Rattle.board_rules.proofs.Pasts.{past-append}
use Rattle.flow_roles.specs.Passes.{Pass, saved_by_drain, only_drain_saves}
use Rattle.flow_roles.specs.TurnPasses.{HasMade}
use Rattle.flow_roles.proofs.Calls.{from-move}
use Rattle.flow_drain.specs.Drains.{DrainMoves, is_drains, taken, taken_back}
use Rattle.run_laws.specs.Results.{contents}
use Rattle.graph_files.specs.NodeFiles.{NodeFile, IsPlaceAfter, first_count}
use Rattle.flow_saver.specs.declared.piece.DuePiece.{DuePiece}
use Rattle.flow_saver.specs.GivenBack.{given_back, written_by}
use Rattle.flow_saver.specs.Saver.{Start, IsSaving, HasUnsaved, RoleLeaves, AreSaved, HasSavedSince, IsFirstCount, back_of}
use Rattle.flow_saver.specs.HandingLaws.{LeftAlone, HandingLaws}
use Rattle.flow_saver.specs.Remaining.{is_rest, RestMoves, IsSavingAlone, HasUnsavedAlone}
use Rattle.flow_saver.proofs.Sizes.{first-more}
use Rattle.flow_saver.proofs.Steps.{saved-more}
use Rattle.flow_saver.proofs.Writing.{all-same}

-- FROM THE ROLE THAT SAVES

module _ (g : Graph) (stack : StackValue) (prefix : List ℕ) (made : BoardState) (before : Option Files) (r : ℕ) (drain : r ≡ last_role (run_setting g stack))
    (p : Pass) (xs : List NodeFile) (fault : Bool) (held : Option Files)
    (b : BoardState) (there : HasMade b p)
    (legal : is_history (run_setting g stack) (past b) ≡ true) (drained : only_drain_saves (run_setting g stack) (past b) ≡ true) where
  abbrev start : Start
  start = record { prefix = prefix; made = made; held = before }

  own : p.role ≡ r → moves_by (last_role (run_setting g stack)) b ≡ p.made
  own role = ap (λ (k : ℕ). moves_by k b) (sym (role ∙ drain)) ∙ there.made

  grown : AreSaved g stack before (past p.made) (past p.seen) xs fault held → AreSaved g stack before (past p.made) (past b) xs fault held
  grown saved =
      let l : is_legal (run_setting g stack) (past (there.seen.0 ++ p.seen)) ≡ true =
      subst (λ (x : BoardState). is_legal (run_setting g stack) (past x) ≡ true) there.seen.1 (and_parts (is_legal (run_setting g stack) (past b)) _ legal).0 in
      subst (λ (x : BoardState). AreSaved g stack before (past p.made) (past x) xs fault held) (sym there.seen.1)
      (saved-more g stack start (past p.made) there.seen.0 p.seen xs fault held l saved)

  -- between two pieces
  pub saving-alone : IsSaving g stack start r p xs fault held → IsSavingAlone g stack prefix before b xs fault held
  saving-alone st =
      let o = sym (own st.role) in
      record {
        legal = legal;
        drained = drained;
        made = made;
        saving = record {
          role = refl;
          moves = subst (λ (x : BoardState). HasSavedSince made x) o st.moves;
          free =
              subst (λ (x : BoardState). hand (last_role (run_setting g stack)) (past x) ≡ None) o
              (subst (λ (k : ℕ). hand k (past p.made) ≡ None) drain st.free);
          alike = subst (λ (x : BoardState). (v : ℕ) → saves v (past x) ≡ given_back v (past x)) o st.alike;
          whole = subst (λ (x : BoardState). (v : ℕ) → length (written_by g stack (past x) v) ≡ length (given_back v (past x))) o st.whole;
          nodes = st.nodes;
          rows = st.rows;
          saved = subst (λ (x : BoardState). AreSaved g stack before (past x) (past b) xs fault held) o (grown st.saved);
        };
      }

  -- with a piece in hand
  pub unsaved-alone : (due : DuePiece Sealed) → HasUnsaved g stack start r p xs fault held due → HasUnsavedAlone g stack prefix before b xs fault held due
  unsaved-alone due st =
      let o = sym (own st.role) in
      let x = st.node in
      let l : is_legal (run_setting g stack) (past (there.seen.0 ++ p.seen)) ≡ true =
      subst (λ (z : BoardState). is_legal (run_setting g stack) (past z) ≡ true) there.seen.1 (and_parts (is_legal (run_setting g stack) (past b)) _ legal).0 in
      record {
        legal = legal;
        drained = drained;
        made = made;
        unsaved = record {
          role = refl;
          moves = subst (λ (z : BoardState). HasSavedSince made z) o st.moves;
          node = x;
          listed = st.listed;
          hand =
              subst (λ (z : BoardState). hand (last_role (run_setting g stack)) (past z)
              ≡ Some (Save (last_role (run_setting g stack)) x.node due.piece.name.maker due.piece.name.index due.group)) o
              (subst (λ (k : ℕ). hand k (past p.made) ≡ Some (Save k x.node due.piece.name.maker due.piece.name.index due.group)) drain st.hand);
          lent =
              subst (λ (z : BoardState). lent_to (last_role (run_setting g stack)) z ≡ Some due.piece.parts) o
              (subst (λ (k : ℕ). lent_to k p.made ≡ Some due.piece.parts) drain st.lent);
          maker = st.maker;
          place = subst (λ (z : BoardState). IsPlaceAfter x.count (written_by g stack (past z) x.node) due.group due.place) o st.place;
          few = subst (λ (z : BoardState). length (written_by g stack (past z) x.node) + 1 < 2 ^ 64) o st.few;
          room = st.room;
          sized = st.sized;
          first = subst (λ (z : BoardState). IsFirstCount (past z) x.node x.count due.group x.late (first_count x.late due.of)) (sym there.seen.1)
              (first-more (run_setting g stack) there.seen.0 p.seen x.node x.count due.group x.late (first_count x.late due.of) l st.first);
          numrecs = st.numrecs;
          alike =
              subst (λ (z : BoardState). (v : ℕ)
              → saves v (past z) ≡ given_back v (back_of (last_role (run_setting g stack)) x.node due.piece.name ∷ past z)) o st.alike;
          whole = subst (λ (z : BoardState). (v : ℕ) → length (written_by g stack (past z) v) ≡ length (given_back v (past z))) o st.whole;
          nodes = st.nodes;
          rows = st.rows;
          saved = subst (λ (z : BoardState). AreSaved g stack before (past z) (past b) xs fault held) o (grown st.saved);
        };
      }

-- THROUGH MOVES THAT SAVE NOTHING

abbrev pub saves_not : Entry → Bool
saves_not (Save r v m k g) = false
saves_not (Saved r v m k) = false
saves_not e = true

pub record SavesNothing (old new : BoardState) : Type 0 where
  pub more : BoardState
  pub is : new ≡ more ++ old
  pub none : list_all saves_not (past more) ≡ true

pub all-append : (p : Entry → Bool) (xs ys : BoardState) → list_all p (past xs) ≡ true → list_all p (past ys) ≡ true → list_all p (past (xs ++ ys)) ≡ true
all-append p [] ys h k = k
all-append p (x ∷ xs) ys h k = let two = and_parts (p x.entry) (list_all p (past xs)) h in and_from _ _ two.0 (all-append p xs ys two.1 k)

pub nothing-on : (a b c : BoardState) → SavesNothing a b → SavesNothing b c → SavesNothing a c
nothing-on a b c m n = record {
  more = n.more ++ m.more;
  is = n.is ∙ ap (λ (x : BoardState). n.more ++ x) m.is ∙ sym (append_assoc n.more m.more a);
  none = all-append saves_not n.more m.more n.none m.none;
}

pub nothing-first : (old new : BoardState) → new ≡ old → SavesNothing old new
nothing-first old new is = record { more = []; is = is; none = refl }

quiet : (e : Entry) → begun_by e ≡ None → saves_not e ≡ true
quiet (Load r k b n f g x) h = cc
quiet (LoadRefused r k n z) h = cc
quiet (Issue r k) h = cc
quiet (Take r v m k) h = cc
quiet (TakeBlock f x r v m k b n g) h = cc
quiet (PoolDrop r v m k n z) h = cc
quiet (Put r v m k f) h = cc
quiet (Settle r v) h = cc
quiet (Save r v m k g) h = cc
quiet (Saved r v m k) h = cc
quiet (Close r) h = cc
quiet (Leave r) h = cc
quiet (Reclaim r) h = cc
quiet _ h = refl

quiet-all : (more : BoardState) → GoOn more → list_all saves_not (past more) ≡ true
quiet-all [] h = refl
quiet-all (t ∷ more) h = and_from _ _ (quiet t.entry h.0) (quiet-all more h.1)

moved-nothing : (s : Setting) (at r : ℕ) (t : Told) (b new : BoardState) → begun_by t.entry ≡ Some r → saves_not t.entry ≡ true
    → new ≡ moved_at s at t b → SavesNothing b new
moved-nothing s at r t b new first none is =
    let f = followers s at t b in
    let after = from-move r f.more t (one-move r f.more t f.go first) in
    record {
      more = f.more ++ t ∷ [];
      is = is ∙ f.whole ∙ sym (append_assoc f.more (t ∷ []) b);
      none = all-append saves_not f.more (t ∷ []) (quiet-all f.more after) (and_from _ _ none refl);
    }

drain-begins : (s : Setting) (e : Entry) → is_drains s e ≡ true → (begun_by e ≡ Some (last_role s)) × (saves_not e ≡ true)
drain-begins s (Load r k b n f g x) h = (ap Some (eqb-true r (last_role s) h), refl)
drain-begins s (LoadRefused r k n z) h = (ap Some (eqb-true r (last_role s) h), refl)
drain-begins s (Issue r k) h = (ap Some (eqb-true r (last_role s) h), refl)
drain-begins s (Take r v m k) h = (ap Some (eqb-true r (last_role s) h), refl)
drain-begins s (TakeBlock f x r v m k b n g) h = (ap Some (eqb-true r (last_role s) h), refl)
drain-begins s (PoolDrop r v m k n z) h = (ap Some (eqb-true r (last_role s) h), refl)
drain-begins s (Put r v m k f) h = (ap Some (eqb-true r (last_role s) h), refl)
drain-begins s (Settle r v) h = (ap Some (eqb-true r (last_role s) h), refl)
drain-begins s (Close r) h = (ap Some (eqb-true r (last_role s) h), refl)
drain-begins s _ h = absurd (false≢true h)

pub drain-nothing : (s : Setting) (tick : ℕ) (old new : BoardState) → DrainMoves s tick old new → SavesNothing old new
drain-nothing s tick old _ (DrainMoves.none new is) = nothing-first old new is
drain-nothing s tick old _ (DrainMoves.more b new t at m d l k is) =
    let e = drain-begins s t.entry d in
    nothing-on old b new (drain-nothing s tick old b m) (moved-nothing s at (last_role s) t b new e.0 e.1 is)

module _ {F B O : Type 0} (name_of : F → FrameName) (s : Setting) where
  taken-nothing : (r : ℕ) (left : Left F B O) (b : BoardState) → SavesNothing b (taken name_of s r left b)
  taken-nothing r left b =
      let t = loses r (lost_of name_of (past b) (hand r (past b)) left) in
      elim (cases_Bool (is_free r (past b))) [
        | inl free ↦ nothing-first b (taken name_of s r left b) (ap (λ (f : Bool). if f then b else moved s t b) free)
        | inr held ↦ moved-nothing s 0 r t b (taken name_of s r left b) refl refl (ap (λ (f : Bool). if f then b else moved s t b) held)
      ]

  pub back-nothing : (r : ℕ) (ends : List (Left F B O)) (b : BoardState) → SavesNothing b (taken_back name_of s r ends b)
  back-nothing r [] b = nothing-first b b refl
  back-nothing r (left ∷ ends) b =
      nothing-on b (taken name_of s r left b) (taken_back name_of s (suc r) ends (taken name_of s r left b)) (taken-nothing r left b)
      (back-nothing (suc r) ends (taken name_of s r left b))

drained-on : (s : Setting) (more b : BoardState) → list_all saves_not (past more) ≡ true → only_drain_saves s (past b) ≡ true
    → only_drain_saves s (past (more ++ b)) ≡ true
drained-on s [] b none d = d
drained-on s (t ∷ more) b none d =
    let two = and_parts (saves_not t.entry) (list_all saves_not (past more)) none in
    and_from _ _ (by_drain t.entry two.0) (drained-on s more b two.1 d)
  where
    by_drain : (e : Entry) → saves_not e ≡ true → saved_by_drain s e ≡ true
    by_drain (Save r v m k g) h = absurd (false≢true h)
    by_drain _ h = refl

own-more : (r : ℕ) (more b : BoardState) → list_all saves_not (past more) ≡ true → SavesNothing (moves_by r b) (moves_by r (more ++ b))
own-more r [] b none = nothing-first (moves_by r b) (moves_by r b) refl
own-more r (t ∷ more) b none =
    let two = and_parts (saves_not t.entry) (list_all saves_not (past more)) none in
    let rest = own-more r more b two.1 in
    elim (cases_Bool (is_some_of r (first_some (begun_by t.entry) (mover (more ++ b))))) [
      | inl mine ↦
          rw mine (nothing-on (moves_by r b) (moves_by r (more ++ b)) (t ∷ moves_by r (more ++ b)) rest
          (record { more = t ∷ []; is = refl; none = and_from _ _ two.0 refl }))
      | inr other ↦ rw other rest
    ]

given-still : (v : ℕ) (more o : BoardState) → list_all saves_not (past more) ≡ true
    → (given_back v (past (more ++ o)) ≡ given_back v (past o)) × (saves v (past (more ++ o)) ≡ saves v (past o))
given-still v [] o none = (refl, refl)
given-still v (t ∷ more) o none =
    let two = and_parts (saves_not t.entry) (list_all saves_not (past more)) none in
    let rest = given-still v more o two.1 in
    let here = one t.entry (past (more ++ o)) two.0 in
    (here.0 ∙ rest.0, here.1 ∙ rest.1)
  where
    one : (e : Entry) (P : Past) → saves_not e ≡ true → (given_back v (e ∷ P) ≡ given_back v P) × (saves v (e ∷ P) ≡ saves v P)
    one (Save r w m k g) P h = absurd (false≢true h)
    one (Saved r w m k) P h = absurd (false≢true h)
    one _ P h = (refl, refl)

module _ (g : Graph) (stack : StackValue) (before : Option Files)
    (more o : BoardState) (none : list_all saves_not (past more) ≡ true) (seen : Past) (xs : List NodeFile) (held : Option Files) where
  written-still : (v : ℕ) → written_by g stack (past o) v ≡ written_by g stack (past (more ++ o)) v
  written-still v = ap (λ (ns : List FrameName). contents g.nodes stack.arrays ns) (sym (given-still v more o none).0)

  saved-still : (fault : Bool) → AreSaved g stack before (past o) seen xs fault held → AreSaved g stack before (past (more ++ o)) seen xs fault held
  saved-still false h = (
    all-same before xs (written_by g stack (past o)) (written_by g stack (past (more ++ o))) held written-still h.0,
    λ k x f at is.
        subst (λ (zs : List Array). IsFirstCount seen x.node x.count (length zs / x.count) x.late f.numrecs) (written-still x.node) (h.1 k x f at is),
  )
  saved-still true h = record {
    later = past more ++ h.later;
    front = h.front;
    role = h.role;
    name = h.name;
    node = h.node;
    whole =
        past-append more o ∙ ap (λ (P : Past). past more ++ P) h.whole ∙ sym (append_assoc (past more) h.later (back_of h.role h.node.node h.name ∷ h.front));
    files = h.files;
    then_held = h.then_held;
    written = h.written;
    begun = h.begun;
    at = h.at;
    listed = h.listed;
    rows = h.rows;
    nodes = h.nodes;
    others = h.others;
    array = h.array;
    holds = h.holds;
    group = h.group;
    place = h.place;
    place_is = h.place_is;
    numrecs = h.numrecs;
    first = h.first;
    stops = h.stops;
  }

-- so the files stay those of the log
pub still-alone : (g : Graph) (stack : StackValue) (prefix : List ℕ) (before : Option Files) (b new : BoardState) (xs : List NodeFile)
    (fault : Bool) (held : Option Files) → SavesNothing b new
    → is_history (run_setting g stack) (past new) ≡ true → hand (last_role (run_setting g stack)) (past new) ≡ None
    → IsSavingAlone g stack prefix before b xs fault held → IsSavingAlone g stack prefix before new xs fault held
still-alone g stack prefix before b new xs fault held m legal free h =
    let s = run_setting g stack in
    let r = last_role s in
    let st = h.saving in
    let grown_ : is_history s (past (m.more ++ b)) ≡ true = subst (λ (x : BoardState). is_history s (past x) ≡ true) m.is legal in
    let front = (and_parts (is_legal s (past (m.more ++ b))) _ grown_).0 in
    let o = own-more r m.more b m.none in
    let saved : AreSaved g stack before (past (moves_by r b)) (past (m.more ++ b)) xs fault held =
    saved-more g stack (record { prefix = prefix; made = h.made; held = before }) (past (moves_by r b)) m.more b xs fault held front st.saved in
    let all : IsSavingAlone g stack prefix before (m.more ++ b) xs fault held = record {
      legal = grown_;
      drained = drained-on s m.more b m.none h.drained;
      made = moves_by r (m.more ++ b);
      saving = record {
        role = refl;
        moves = ([], refl, refl);
        free = (moves-tell (m.more ++ b) r).0 ∙ subst (λ (x : BoardState). hand r (past x) ≡ None) m.is free;
        alike =
            subst (λ (x : BoardState). (v : ℕ) → saves v (past x) ≡ given_back v (past x)) (sym o.is)
            (λ v. let e = given-still v o.more (moves_by r b) o.none in e.1 ∙ st.alike v ∙ sym e.0);
        whole = subst (λ (x : BoardState). (v : ℕ) → length (written_by g stack (past x) v) ≡ length (given_back v (past x))) (sym o.is)
            (λ v. ap length (sym (written-still g stack before o.more (moves_by r b) o.none (past new) xs held v)) ∙ st.whole v
            ∙ ap length (sym (given-still v o.more (moves_by r b) o.none).0));
        nodes = st.nodes;
        rows = st.rows;
        saved =
            subst (λ (x : BoardState). AreSaved g stack before (past x) (past (m.more ++ b)) xs fault held) (sym o.is)
            (saved-still g stack before o.more (moves_by r b) o.none (past (m.more ++ b)) xs held fault saved);
      };
    } in
    subst (λ (x : BoardState). IsSavingAlone g stack prefix before x xs fault held) (sym m.is) all

-- THE DRAIN

-- the last role has nothing in hand between two pieces
pub free-alone : (g : Graph) (stack : StackValue) (prefix : List ℕ) (before : Option Files) (b : BoardState) (xs : List NodeFile)
    (fault : Bool) (held : Option Files) → IsSavingAlone g stack prefix before b xs fault held
    → is_free (last_role (run_setting g stack)) (past b) ≡ true
free-alone g stack prefix before b xs fault held h =
    ap (λ (o : Option Entry). is_none o) (sym (moves-tell b (last_role (run_setting g stack))).0 ∙ h.saving.free)

-- the files after the drain
pub drained-alone : {F B O : Type 0} (name_of : F → FrameName) (g : Graph) (stack : StackValue) (prefix : List ℕ) (before : Option Files)
    (tick : ℕ) (ends : List (Left F B O)) (b new : BoardState) (xs : List NodeFile) (fault : Bool)
    (held : Option Files) → DrainMoves (run_setting g stack) tick (taken_back name_of (run_setting g stack) 0 ends b) new
    → is_history (run_setting g stack) (past new) ≡ true
    → hand (last_role (run_setting g stack)) (past new) ≡ None → IsSavingAlone g stack prefix before b xs fault held
    → IsSavingAlone g stack prefix before new xs fault held
drained-alone name_of g stack prefix before tick ends b new xs fault held moves legal free h =
    let s = run_setting g stack in
    still-alone g stack prefix before b new xs fault held
    (nothing-on b (taken_back name_of s 0 ends b) new (back-nothing name_of s 0 ends b) (drain-nothing s tick (taken_back name_of s 0 ends b) new moves))
    legal free h

-- WHAT SAVES LEAVE OF THE OTHER ROLES

rest-begins : (s : Setting) (e : Entry) → is_rest s e ≡ true → (begun_by e ≡ Some (last_role s)) × ((r : ℕ) → reclaims r e ≡ false)
rest-begins s (Save r v m k g) h = (ap Some (eqb-true r (last_role s) h), λ q. refl)
rest-begins s (Saved r v m k) h = (ap Some (eqb-true r (last_role s) h), λ q. refl)
rest-begins s _ h = absurd (false≢true h)

others-more : (s : Setting) (r : ℕ) (added b : BoardState) → r ≢ last_role s → list_all (is_rest s) (past added) ≡ true → moves_by r (added ++ b) ≡ moves_by r b
others-more s r [] b apart h = refl
others-more s r (t ∷ added) b apart h =
    let two = and_parts (is_rest s t.entry) (list_all (is_rest s) (past added)) h in
    let not_mine : is_some_of r (first_some (begun_by t.entry) (mover (added ++ b))) ≡ false =
    ap (λ (o : Option ℕ). is_some_of r (first_some o (mover (added ++ b)))) (rest-begins s t.entry two.0).0 ∙ ne_eqb (last_role s) r (λ e. apart (sym e)) in
    rw not_mine (others-more s r added b apart two.1)

-- the moves of every other role
pub rest-others : (s : Setting) (r : ℕ) (old new : BoardState) → r ≢ last_role s → RestMoves s old new → moves_by r new ≡ moves_by r old
rest-others s r old new apart m = ap (λ (b : BoardState). moves_by r b) m.1 ∙ others-more s r m.0 old apart m.2

reclaims-more : (s : Setting) (r : ℕ) (added b : BoardState) → list_all (is_rest s) (past added) ≡ true
    → was_reclaimed r (past (added ++ b)) ≡ was_reclaimed r (past b)
reclaims-more s r [] b h = refl
reclaims-more s r (t ∷ added) b h =
    let two = and_parts (is_rest s t.entry) (list_all (is_rest s) (past added)) h in
    rw ((rest-begins s t.entry two.0).1 r) (reclaims-more s r added b two.1)

-- and what was taken back
pub rest-reclaims : (s : Setting) (r : ℕ) (old new : BoardState) → RestMoves s old new → was_reclaimed r (past new) ≡ was_reclaimed r (past old)
rest-reclaims s r old new m = ap (λ (b : BoardState). was_reclaimed r (past b)) m.1 ∙ reclaims-more s r m.0 old m.2

-- THE LAWS

role-left : (g : Graph) (stack : StackValue) (start : Start) (r : ℕ) (p : Pass) (left : Option (DuePiece Sealed)) (xs : List NodeFile)
    (fault : Bool) (held : Option Files) (b : BoardState) → r ≡ last_role (run_setting g stack)
    → HasMade b p → is_history (run_setting g stack) (past b) ≡ true → only_drain_saves (run_setting g stack) (past b) ≡ true
    → RoleLeaves g stack start r left p xs fault held → LeftAlone g stack start.prefix start.held left b xs fault held
role-left g stack start r p None xs fault held b drain there legal drained st =
    saving-alone g stack start.prefix start.made start.held r drain p xs fault held b there legal drained st
role-left g stack start r p (Some due) xs fault held b drain there legal drained st =
    unsaved-alone g stack start.prefix start.made start.held r drain p xs fault held b there legal drained due st

pub handing_laws : {F B O : Type 0} → HandingLaws F B O
handing_laws {F} {B} {O} = record {
  role = role-left;
  free = free-alone;
  drained = drained-alone {F = F} {B = B} {O = O};
  others = rest-others;
  reclaims = rest-reclaims;
}
