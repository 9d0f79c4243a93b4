-- What is left of a run, from the board on which all roles have ended to its end.
use Rattle.std.proofs.Common.{◌≡◌, ℕ, ◌+◌, ◌<◌, Bool, true, false, List, [], ◌∷◌, ◌++◌, length, refl, sym, ap, ◌∙◌, subst, arith, Option, None, Some}
use Rattle.std.specs.Prelude.{slice_get, is_err, OnOk, OnErr, Result, Ok, Err}
use Rattle.std.specs.List.{list_all}
use Rattle.std.proofs.lemmas.Bool.{and_parts, false≢true}
use Rattle.std.proofs.lemmas.List.{append_assoc}
use Rattle.nd_base.specs.Array.{StackValue}
use Rattle.nd_base.specs.GraphRules.{IsGraph}
use Rattle.nd_base.specs.declared.graph.Graph.{Graph}
use Rattle.edge_traits.specs.Files.{Files}
use Rattle.edge_traits.specs.Ticks.{Coming, Ticks}
use Rattle.frame_store.specs.Sealed.{Sealed}
use Rattle.flow_journal.specs.declared.entry.Entry.{Entry}
use Rattle.flow_journal.specs.declared.entry.Entry.TheVariants.{Save, Saved}
use Rattle.flow_journal.specs.Setting.{Setting, last_role}
use Rattle.flow_journal.specs.Hands.{hand}
use Rattle.flow_journal.specs.Ended.{was_reclaimed}
use Rattle.board_rules.specs.declared.answers.Left.{Left}
use Rattle.board_rules.specs.States.{BoardState, past, lent_to}
use Rattle.board_rules.specs.InHand.{IsOfHand}
use Rattle.board_rules.specs.Storage.{is_never_regrown, HasAllStorage}
use Rattle.flow_journal.specs.MoveLists.{begun_by, is_some_of}
use Rattle.board_rules.specs.Movers.{moves_by}
use Rattle.board_rules.specs.Leaving.{MayReclaim}
use Rattle.board_rules.specs.RunMeasures.{run_setting}
use Rattle.flow_roles.specs.Passes.{Pass}
use Rattle.flow_roles.specs.TurnPasses.{BeginsWith, HasMade}
use Rattle.flow_roles.specs.Feeder.{name_of, parts_of}
use Rattle.flow_drain.specs.Drains.{IsDrained, DrainMoves, taken_back}
use Rattle.graph_files.specs.NodeFiles.{NodeFile}
use Rattle.flow_roles.specs.RoleMoves.{saver_logs}
use Rattle.flow_saver.specs.Remaining.{is_rest, RestMoves, IsSavingAlone}
use Rattle.flow_saver.specs.HistoryFiles.{HoldsGroupsOf}
use Rattle.flow_saver.specs.Ending.{IsTornHistory}
use Rattle.flow_saver.specs.KeptNames.{IsGroupName, AreKeptBut}
use Rattle.flow_saver.specs.declared.piece.DuePiece.{DuePiece}
use Rattle.file_out.specs.declared.fault.SaveFault.{SaveFault}
use Rattle.flow_journal.specs.Pasts.{Past}
use Rattle.flow_journal.specs.Notes.{Watched}
use Rattle.board_rules.proofs.Pasts.{past-append}
use Rattle.flow_saver.specs.Turns.{AreNotesOf}
use Rattle.flow_run.specs.RunNotes.{HasNotesOf}
use Rattle.flow_run.specs.RunFiles.{SaverLeaves, HasSavedRun}
use Rattle.flow_drain.proofs.Growth.{drain-keeps}
use Rattle.flow_drain.proofs.Stored.{back-keeps}
use Rattle.flow_saver.proofs.Handing.{rest-others, rest-reclaims, free-alone}
use Rattle.flow_saver.proofs.KeptNames.{saving-kept, unsaved-kept, groups-kept, torn-kept}
use Rattle.flow_saver.proofs.Resting.{rest-keeps}
use Rattle.flow_run.specs.Strangers.{AreOwnMoves}
use Rattle.flow_run.specs.Ticks.{AfterMoves, IsFedByTheClock}
use Rattle.flow_run.specs.Joined.{IsJoined, IsFedUntil}
use Rattle.flow_run.proofs.Joined.{none-back, may-back, handed-back, only-fed}
use Rattle.flow_run.proofs.OwnMoves.{SavesOn, own-moves}
use Rattle.flow_run.proofs.AfterAll.{after-all}

-- the last role's saves, in other words
rest-entry : (s : Setting) (e : Entry) → is_rest s e ≡ true → (is_some_of (last_role s) (begun_by e) ≡ true) × (saver_logs e ≡ true)
rest-entry s (Save r v m k g) h = (h, refl)
rest-entry s (Saved r v m k) h = (h, refl)
rest-entry s _ h = absurd (false≢true h)

rest-ours : (s : Setting) (added : BoardState) → list_all (is_rest s) (past added) ≡ true
    → list_all (λ (e : Entry). is_some_of (last_role s) (begun_by e)) (past added) ≡ true
rest-ours s [] h = refl
rest-ours s (t ∷ added) h =
    let a = and_parts (is_rest s t.entry) (list_all (is_rest s) (past added)) h in rw (rest-entry s t.entry a.0).0 (rest-ours s added a.1)

rest-logs : (s : Setting) (added : BoardState) → list_all (is_rest s) (past added) ≡ true → list_all saver_logs (past added) ≡ true
rest-logs s [] h = refl
rest-logs s (t ∷ added) h =
    let a = and_parts (is_rest s t.entry) (list_all (is_rest s) (past added)) h in rw (rest-entry s t.entry a.0).1 (rest-logs s added a.1)

pub rest-saves : (s : Setting) (old new : BoardState) → RestMoves s old new → SavesOn s old new
rest-saves s old new m = record { added = m.0; whole = m.1; ours = rest-ours s m.0 m.2; logs = rest-logs s m.0 m.2 }

module _ {O : Type 0} (g : Graph) (stack : StackValue) (joined ready : BoardState) (passes : List Pass) (lefts : List (Left Sealed (List ℕ) O)) (saver : Pass)
    (j : IsJoined (run_setting g stack) joined passes lefts saver) (first : RestMoves (run_setting g stack) joined ready) where
  abbrev s : Setting
  s = run_setting g stack

  below : (k : ℕ) → k < last_role s → moves_by k ready ≡ moves_by k joined
  below k low = rest-others s k joined ready (λ is. omega (arith, low, is)) first

  -- the drain may begin
  pub ready-once : (r : ℕ) → was_reclaimed r (past ready) ≡ false
  ready-once r = rest-reclaims s r joined ready first ∙ none-back s joined passes lefts saver j r

  pub ready-left : (k : ℕ) (left : Left Sealed (List ℕ) O) → slice_get lefts k ≡ Some left → MayReclaim name_of parts_of length s ready k left
  ready-left k left at = may-back s joined passes lefts saver j ready below k left at

  ready-handed : (k : ℕ) (left : Left Sealed (List ℕ) O) → slice_get lefts k ≡ Some left
      → IsOfHand name_of parts_of length (lent_to (0 + k) ready) (hand (0 + k) (past ready)) left.input left.made left.blank
  ready-handed k left at =
      subst (λ (r : ℕ). IsOfHand name_of parts_of length (lent_to r ready) (hand r (past ready)) left.input left.made left.blank)
      (let e : k ≡ 0 + k = omega arith in e) (handed-back s joined passes lefts saver j ready below k left at)

  module _ (tick : ℕ) (done ended : BoardState) (drain : DrainMoves s tick (taken_back name_of s 0 lefts ready) done) (rest : RestMoves s done ended) where
    after : AfterMoves s tick joined ended
    after =
        after-all name_of s tick lefts joined ready done ended
        (omega (arith, j.lefts_many)) (rest-saves s joined ready first) drain (rest-saves s done ended rest)

    -- nothing stays away, and so no storage is made anew
    pub run-storage : is_never_regrown (past ended) ≡ true
    run-storage =
        let first_ : HasAllStorage parts_of ready = rest-keeps parts_of s joined ready first j.storage in
        let back : HasAllStorage parts_of (taken_back name_of s 0 lefts ready) = back-keeps name_of parts_of length s 0 lefts ready ready-handed first_ in
        let done_ : HasAllStorage parts_of done = drain-keeps parts_of s tick (taken_back name_of s 0 lefts ready) done drain back in
        (rest-keeps parts_of s done ended rest done_).1 (λ f. refl)

    pub run-own : IsGraph g → (prefix : List ℕ) (before : Option Files) (xs : List NodeFile) (fault : Bool) (held : Option Files)
        → IsSavingAlone g stack prefix before ready xs fault held
        → BeginsWith done ready → (IsDrained s (past ready) → done ≡ ready) → AreOwnMoves s (past ended)
    run-own sound prefix before xs fault held saving grown still =
        own-moves g stack sound tick joined ready done ended passes lefts saver j (rest-saves s joined ready first) saving.legal saving.drained
        (free-alone g stack prefix before ready xs fault held saving)
        grown still (rest-saves s done ended rest) after

    pub run-ticks : (old mid new : Option Coming) → IsFedUntil s joined old mid → Ticks mid tick new → IsFedByTheClock s (past ended) old new
    run-ticks old mid new fed answered = record {
      joined = joined;
      alone = only-fed s joined passes lefts saver j;
      first = fed.first;
      fresh = fed.fresh;
      last = fed.last;
      made = fed.made;
      then_coming = mid;
      feeds = fed.feeds;
      tick = tick;
      answered = answered;
      ended = ended;
      moves = after;
      log = refl;
    }

-- what stands on the shelf in the end
pub saved-run : {T : Type 0} (g : Graph) (stack : StackValue) (P : Past) (held : Option Files) (Saving : List ℕ → Option Files → Type 0) (prefix : List ℕ)
    (before : Option Files) (answer : Result T SaveFault) (fault : Bool)
    → fault ≡ is_err answer → Saving prefix before → OnOk answer ((p : List ℕ) (b : Option Files) → Saving p b → HoldsGroupsOf g stack p P b held)
    → OnErr answer ((p : List ℕ) (b : Option Files) → Saving p b → IsTornHistory g stack p P b held) → HasSavedRun g stack prefix P before fault held
saved-run g stack P held Saving prefix before (Ok x) fault is a ok err =
    subst (λ (b : Bool). HasSavedRun g stack prefix P before b held) (sym is) (ok prefix before a)
saved-run g stack P held Saving prefix before (Err e) fault is a ok err =
    subst (λ (b : Bool). HasSavedRun g stack prefix P before b held) (sym is) (err prefix before a)

-- only names of groups have changed, before it has ended and then
module _ (g : Graph) (stack : StackValue) (sound : IsGraph g) (prefix : List ℕ) (before : Option Files) where
  pub leaves-kept : (left : Option (DuePiece Sealed)) (b : BoardState) (xs : List NodeFile) (fault : Bool) (held : Option Files)
      → SaverLeaves g stack prefix before left b xs fault held → AreKeptBut (IsGroupName g prefix) before held
  leaves-kept None b xs fault held h = saving-kept g stack sound prefix before b xs fault held h
  leaves-kept (Some due) b xs fault held h = unsaved-kept g stack sound prefix before b xs fault held due h

  pub run-kept : (P : Past) (fault : Bool) (held : Option Files) → HasSavedRun g stack prefix P before fault held → AreKeptBut (IsGroupName g prefix) before held
  run-kept P false held h = groups-kept g stack sound prefix P before held h
  run-kept P true held h = torn-kept g stack sound prefix P before held h

-- THE LOG

-- it begins with what stood when all roles had ended
pub run-begins : (s : Setting) (joined ready done ended : BoardState) → RestMoves s joined ready → BeginsWith done ready → RestMoves s done ended
    → (newer : Past) × (past ended ≡ newer ++ past joined)
run-begins s joined ready done ended first grown rest =
    let more : BoardState = rest.0 ++ (grown.0 ++ first.0) in
    let whole : ended ≡ more ++ joined =
    rest.1
    ∙ (ap (λ (b : BoardState). rest.0 ++ b)
    (grown.1 ∙ (ap (λ (b : BoardState). grown.0 ++ b) first.1 ∙ sym (append_assoc grown.0 first.0 joined)))
    ∙ sym (append_assoc rest.0 (grown.0 ++ first.0) joined)) in
    (past more, ap past whole ∙ past-append more joined)

-- and so with what the role that saves had seen
pub run-notes : (s : Setting) (log : Past) (b : BoardState) (p : Pass) (want : Bool) (old new : Watched) → HasMade b p
    → (newer : Past) × (log ≡ newer ++ past b) → AreNotesOf s (past p.seen) want old new → HasNotesOf s log old new
run-notes s log b p want old new made h notes =
    let grown = made.seen in
    record {
      seen = past p.seen;
      newer = h.0 ++ past grown.0;
      begins =
          h.1
          ∙ (ap (λ (P : Past). h.0 ++ P) (ap past grown.1 ∙ past-append grown.0 p.seen)
          ∙ sym (append_assoc h.0 (past grown.0) (past p.seen)));
      want = want;
      notes = notes;
    }
