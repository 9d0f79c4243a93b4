-- From the ends of all roles to the board that comes back.
use Rattle.std.proofs.Common.{◌≡◌, ℕ, zero, suc, ◌+◌, ◌<◌, ◌≤◌, Bool, true, List, [], ◌∷◌, ◌++◌, map, length, refl, sym, ap, ◌∙◌, subst, arith, Option}
use Rattle.std.proofs.Common.{Some, None}
use Rattle.std.specs.Prelude.{slice_get, All, IfOk, Result, Ok, Err}
use Rattle.std.specs.List.{list_all}
use Rattle.std.proofs.lemmas.List.{length-append, length-map}
use Rattle.nd_base.specs.Array.{StackValue}
use Rattle.nd_base.specs.declared.graph.Graph.{Graph}
use Rattle.edge_traits.specs.Files.{Files}
use Rattle.edge_traits.specs.Ticks.{Coming}
use Rattle.frame_store.specs.Sealed.{Sealed}
use Rattle.flow_journal.specs.Setting.{Setting, last_role}
use Rattle.flow_journal.specs.Histories.{is_history}
use Rattle.flow_journal.specs.Notes.{Watched}
use Rattle.board_rules.specs.declared.answers.Left.{Left}
use Rattle.board_rules.specs.States.{BoardState, past}
use Rattle.board_rules.specs.Movers.{moves_by}
use Rattle.board_rules.specs.Ends.{measured}
use Rattle.board_rules.specs.Storage.{HasAllStorage, is_never_regrown}
use Rattle.board_rules.specs.RunMeasures.{run_setting, run_measure}
use Rattle.run_laws.specs.Results.{IsFinishedRun}
use Rattle.flow_roles.specs.declared.role_end.RoleEnd.{RoleEnd}
use Rattle.flow_roles.specs.Passes.{Pass, only_drain_saves}
use Rattle.flow_roles.specs.TurnPasses.{HasMade}
use Rattle.graph_files.specs.NodeFiles.{NodeFile}
use Rattle.graph_files.specs.OpenFiles.{file_nodes}
use Rattle.flow_saver.specs.declared.piece.DuePiece.{DuePiece}
use Rattle.flow_saver.specs.Saver.{RoleLeaves, CountsSo}
use Rattle.flow_roles.specs.RoleMoves.{saver_logs}
use Rattle.flow_roles.specs.Feeder.{parts_of}
use Rattle.flow_saver.proofs.Handing.{saving-alone, unsaved-alone}
use Rattle.flow_run.specs.declared.seats.Seat.{Seat}
use Rattle.flow_run.specs.declared.seats.Seat.TheVariants.{Back}
use Rattle.flow_roles.specs.Workers.{workers, posts}
use Rattle.flow_run.specs.Seats.{IsRoleEnd, ends_of, IsBack, AreBack, HasFed}
use Rattle.flow_run.specs.Joined.{IsJoined, IsFedUntil}
use Rattle.flow_run.specs.RunFiles.{SaverLeaves, HasSavedRun}
use Rattle.flow_run.specs.RunNotes.{HasNotesOf}
use Rattle.flow_run.specs.Runs.{Outside, HasRun}
use Rattle.flow_run.specs.Strangers.{AreOwnMoves}
use Rattle.flow_run.specs.Ticks.{IsFedByTheClock}
use Rattle.flow_run.specs.declared.run.RunEnd.{RunEnd}
use Rattle.flow_roles.proofs.Workers.{posts-length}
use Rattle.flow_roles.proofs.Lists.{at-front, at-end, at-map, map-at, all-at, all-from}
use Rattle.flow_run.proofs.Seating.{AreEnds, ends-from, all-back}

module _ {O P : Type 0} (ours : P → Type 0) (knows : P → Pass) (s : Setting) (xs : List (Seat Sealed P (List ℕ) O)) (count : length xs ≡ length (posts s))
    (e : AreEnds {O = O} ours knows s 0 (posts s) xs) (pass : P) where
  abbrev pub ends : List (RoleEnd Sealed P (List ℕ) O)
  ends = ends_of xs

  abbrev pub back : List P
  back = map (λ (d : RoleEnd Sealed P (List ℕ) O). d.pass) ends ++ pass ∷ []

  abbrev pub lefts : List (Left Sealed (List ℕ) O)
  lefts = map (λ (d : RoleEnd Sealed P (List ℕ) O). d.left) ends

  abbrev pub passes : List Pass
  passes = map (λ (d : RoleEnd Sealed P (List ℕ) O). knows d.pass) ends

  many : length ends ≡ last_role s
  many = e.many ∙ count ∙ posts-length s

  -- as many passes as there are roles
  pub back-many : length back ≡ last_role s + 1
  back-many =
      let both = length-append (map (λ (d : RoleEnd Sealed P (List ℕ) O). d.pass) ends) (pass ∷ []) in
      let mapped = length-map ends (λ (d : RoleEnd Sealed P (List ℕ) O). d.pass) in
      omega (arith, both, mapped, many)

  listed : {X : Type 0} (ys : List X) (k : ℕ) → k < length ys → (y : X) × (slice_get ys k ≡ Some y)
  listed [] k h = absurd (omega (arith, h))
  listed (y ∷ ys) zero h = (y, refl)
  listed (y ∷ ys) (suc k) h = listed ys k (omega (arith, h))

  post-at : (k : ℕ) (d : RoleEnd Sealed P (List ℕ) O) → slice_get ends k ≡ Some d → (v : ℕ) × (slice_get (posts s) k ≡ Some v)
  post-at k d at = listed (posts s) k (omega (arith, within ends k d at, many, posts-length s))
    where
      within : (ds : List (RoleEnd Sealed P (List ℕ) O)) (k : ℕ) (d : RoleEnd Sealed P (List ℕ) O) → slice_get ds k ≡ Some d → k < length ds
      within [] k d h = cc
      within (c ∷ ds) zero d h = omega arith
      within (c ∷ ds) (suc k) d h = let w = within ds k d h in omega (arith, w)

  ours-from : (Q : P → Type 0) → Q pass → ((k : ℕ) (d : RoleEnd Sealed P (List ℕ) O) → slice_get ends k ≡ Some d → Q d.pass) → All Q back
  ours-from Q last each = all-from Q back (both ends each)
    where
      both : (ds : List (RoleEnd Sealed P (List ℕ) O)) → ((k : ℕ) (d : RoleEnd Sealed P (List ℕ) O) → slice_get ds k ≡ Some d → Q d.pass)
          → (k : ℕ) (p : P) → slice_get (map (λ (d : RoleEnd Sealed P (List ℕ) O). d.pass) ds ++ pass ∷ []) k ≡ Some p → Q p
      both [] here zero p at = let is : pass ≡ p = cc in subst Q is last
      both [] here (suc k) p at = cc
      both (d ∷ ds) here zero p at = let is : d.pass ≡ p = cc in subst Q is (here 0 d refl)
      both (d ∷ ds) here (suc k) p at = both ds (λ j c is. here (suc j) c is) k p at

  -- they are all of this lock
  pub back-ours : ours pass → All ours back
  back-ours last = ours-from ours last (λ k d at. let v = post-at k d at in (e.each k v.0 d v.1 at).0)

  module _ (b : BoardState) (made : All (λ p. HasMade b (knows p)) back) where
    pub made-at : (k : ℕ) (d : RoleEnd Sealed P (List ℕ) O) → slice_get ends k ≡ Some d → HasMade b (knows d.pass)
    made-at k d at =
        all-at (λ p. HasMade b (knows p)) back k d.pass made
        (at-front (map (λ (c : RoleEnd Sealed P (List ℕ) O). c.pass) ends) (pass ∷ []) k d.pass
        (map-at (λ (c : RoleEnd Sealed P (List ℕ) O). c.pass) ends k d at))

    pub made-last : HasMade b (knows pass)
    made-last =
        all-at (λ p. HasMade b (knows p)) back (length (map (λ (c : RoleEnd Sealed P (List ℕ) O). c.pass) ends)) pass made
        (at-end (map (λ (c : RoleEnd Sealed P (List ℕ) O). c.pass) ends) pass)

    pub joined-from : is_history s (past b) ≡ true → only_drain_saves s (past b) ≡ true → HasAllStorage parts_of b
        → ((r : ℕ) → last_role s + 1 ≤ r → moves_by r b ≡ []) → (knows pass).role ≡ last_role s
        → list_all saver_logs (past (knows pass).made) ≡ true → IsJoined s b passes lefts (knows pass)
    joined-from legal drained storage others role moves = record {
      legal = legal;
      drained = drained;
      storage = storage;
      passes_many = length-map ends (λ (d : RoleEnd Sealed P (List ℕ) O). knows d.pass) ∙ many;
      lefts_many = length-map ends (λ (d : RoleEnd Sealed P (List ℕ) O). d.left) ∙ many;
      each =
          λ k v p left at is has. one k v p left at (at-map (λ (d : RoleEnd Sealed P (List ℕ) O). knows d.pass) ends k p is)
          (at-map (λ (d : RoleEnd Sealed P (List ℕ) O). d.left) ends k left has);
      last_made = made-last;
      last_is = role;
      last_moves = moves;
      others = λ r high. others r (omega (arith, high));
    }
      where
        one : (k v : ℕ) (p : Pass) (left : Left Sealed (List ℕ) O) → slice_get (posts s) k ≡ Some v
            → (d : RoleEnd Sealed P (List ℕ) O) × (slice_get ends k ≡ Some d) × (knows d.pass ≡ p)
            → (d : RoleEnd Sealed P (List ℕ) O) × (slice_get ends k ≡ Some d) × (d.left ≡ left)
            → HasMade b p × ((want : Bool) × IsRoleEnd s k v p left want)
        one k v p left at i h =
            let same : i.0 ≡ h.0 = let is : Some i.0 ≡ Some h.0 = sym i.1 ∙ h.1 in cc in
            let left_is : i.0.left ≡ left = ap (λ (d : RoleEnd Sealed P (List ℕ) O). d.left) same ∙ h.2 in
            let role : 0 + k ≡ k = omega arith in
            let end = subst (λ (r : ℕ). IsRoleEnd s r v (knows i.0.pass) i.0.left i.0.want) role (e.each k v i.0 at i.1).1 in (
              subst (λ (q : Pass). HasMade b q) i.2 (made-at k i.0 i.1),
              (
                i.0.want,
                subst (λ (l : Left Sealed (List ℕ) O). IsRoleEnd s k v p l i.0.want) left_is
                    (subst (λ (q : Pass). IsRoleEnd s k v q i.0.left i.0.want) i.2 end),
              ),
            )

    -- the feeder's ticks
    pub fed-from : (old now : Option Coming)
        → ((x : Seat Sealed P (List ℕ) O) → slice_get xs 0 ≡ Some x → HasFed {O = O} knows s old now x) → IsFedUntil s b old now
    fed-from old now fed =
        let low : 0 < length ends = omega (arith, many) in
        let d = listed ends 0 low in
        let f = fed (Back d.0) (e.seats 0 d.0 d.1) in
        record { first = f.0; fresh = f.1; last = knows d.0.pass; made = made-at 0 d.0 d.1; feeds = f.2 }

-- the ends of the feeder and the workers
pub came-back : {O P : Type 0} (ours : P → Type 0) (knows : P → Pass) (s : Setting) (x : Seat Sealed P (List ℕ) O) (xs : List (Seat Sealed P (List ℕ) O))
    → length xs ≡ length (workers s)
    → IsBack {O = O} ours knows s 0 0 x → AreBack {O = O} ours knows s 1 (workers s) xs → AreEnds {O = O} ours knows s 0 (posts s) (x ∷ xs)
came-back ours knows s x xs many feeder rest = ends-from ours knows s 0 (posts s) (x ∷ xs) (ap suc many) (all-back ours knows s x xs feeder rest)

pub first-fed : {O P : Type 0} (knows : P → Pass) (s : Setting) (old now : Option Coming) (x : Seat Sealed P (List ℕ) O) (xs : List (Seat Sealed P (List ℕ) O))
    → HasFed {O = O} knows s old now x
    → (y : Seat Sealed P (List ℕ) O) → slice_get (x ∷ xs) 0 ≡ Some y → HasFed {O = O} knows s old now y
first-fed {O} {P} knows s old now x xs fed y at = let same : x ≡ y = cc in subst (λ (z : Seat Sealed P (List ℕ) O). HasFed {O = O} knows s old now z) same fed

pub if-ok : {X E : Type 0} (r : Result X E) (A B : X → Type 0) → ((x : X) → A x → B x) → IfOk r A → IfOk r B
if-ok (Ok x) A B goes h = goes x h
if-ok (Err e) A B goes h = h

-- all that is said of a run, in one
module _ (g : Graph) (stack : StackValue) (began : List NodeFile) (before after : Outside) (old new : Watched) where
  pub has-run : {E : Type 0} (r : Result RunEnd E) → IfOk r (λ end. IsFinishedRun (run_setting g stack) end.log.past)
      → IfOk r (λ end. end.measures ≡ measured (run_measure g stack) (run_setting g stack) end.log.past)
      → IfOk r (λ end. (prefix : List ℕ) → began ≡ file_nodes g stack prefix → HasSavedRun g stack prefix end.log.past before.held end.fault after.held)
      → IfOk r (λ end. CountsSo end.fault before.faults after.faults) → IfOk r (λ end. AreOwnMoves (run_setting g stack) end.log.past)
      → IfOk r (λ end. IsFedByTheClock (run_setting g stack) end.log.past before.coming after.coming)
      → IfOk r (λ end. is_never_regrown end.log.past ≡ true) → IfOk r (λ end. HasNotesOf (run_setting g stack) end.log.past old new)
      → IfOk r (λ end. HasRun g stack began before after old new end)
  has-run (Ok end) finished measures files fault roles ticks storage notes =
      record {
        finished = finished;
        measures = measures;
        files = files;
        fault = fault;
        roles = roles;
        ticks = ticks;
        storage = storage;
        notes = notes;
      }
  has-run (Err e) finished measures files fault roles ticks storage notes = finished

-- what the role that saves left
pub leaves-from : (g : Graph) (stack : StackValue) (prefix : List ℕ) (before : Option Files) (p : Pass) (left : Option (DuePiece Sealed)) (xs : List NodeFile)
    (fault : Bool) (held : Option Files) (b : BoardState)
    → HasMade b p → is_history (run_setting g stack) (past b) ≡ true → only_drain_saves (run_setting g stack) (past b) ≡ true
    → RoleLeaves g stack (record { prefix = prefix; made = []; held = before }) (last_role (run_setting g stack)) left p xs fault held
    → SaverLeaves g stack prefix before left b xs fault held
leaves-from g stack prefix before p None xs fault held b made legal drained h =
    saving-alone g stack prefix [] before (last_role (run_setting g stack)) refl p xs fault held b made legal drained h
leaves-from g stack prefix before p (Some due) xs fault held b made legal drained h =
    unsaved-alone g stack prefix [] before (last_role (run_setting g stack)) refl p xs fault held b made legal drained due h
