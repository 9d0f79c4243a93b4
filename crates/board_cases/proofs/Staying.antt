-- What is in a hand stays there at a call that changes nothing, and where the role leaves.
use Rattle.std.proofs.Common.{◌≡◌, ℕ, Bool, true, ◌++◌, length, refl, sym, ap, ◌∙◌, subst, subst₂, Option, Some, None, inl, inr}
use Rattle.std.specs.List.{list_all}
use Rattle.std.proofs.lemmas.Bool.{cases_Bool}
use Rattle.nd_base.specs.Array.{StackValue}
use Rattle.nd_base.specs.Parts.{Parts}
use Rattle.nd_base.specs.declared.graph.Graph.{Graph}
use Rattle.frame_store.specs.Sealed.{Sealed}
use Rattle.flow_journal.specs.declared.entry.Entry.{Entry}
use Rattle.flow_journal.specs.declared.entry.Entry.TheVariants.{Leave}
use Rattle.flow_journal.specs.Setting.{Setting}
use Rattle.flow_journal.specs.Pasts.{frame}
use Rattle.flow_journal.specs.Hands.{hand}
use Rattle.flow_journal.specs.Ended.{has_left}
use Rattle.board_rules.specs.States.{BoardState, past, plain, lent_to}
use Rattle.flow_journal.specs.MoveLists.{begun_by}
use Rattle.board_rules.specs.InHand.{is_load_of, is_job_on, is_piece_on, granted_size, IsOfHand}
use Rattle.board_rules.specs.Leaving.{LeaveGives}
use Rattle.flow_roles.specs.declared.last.Said.{Said}
use Rattle.flow_roles.specs.Lasts.{said_leave}
use Rattle.flow_roles.specs.Passes.{Pass, Called}
use Rattle.flow_roles.specs.RoleMoves.{feeder_logs, worker_logs, saver_logs, HasNothing}
use Rattle.flow_roles.specs.Feeder.{name_of, parts_of}
use Rattle.flow_roles.proofs.Calls.{here, unmoved, moved, hand-before, role-after}
use Rattle.board_cases.specs.declared.seats.LoadedFrame.{LoadedFrame}
use Rattle.board_cases.specs.declared.seats.Job.{Job}
use Rattle.board_cases.specs.Seats.{HoldsFrame, HoldsJob, HoldsPiece}

-- the hand is as before
pub record Stays (logs : Entry → Bool) (r : ℕ) (old new : Pass) : Type 0 where
  pub role : new.role ≡ r
  pub moves : list_all logs (past new.made) ≡ true
  pub hand_ : hand r (past new.made) ≡ hand r (past old.made)
  pub lent : lent_to r new.made ≡ lent_to r old.made

-- a call that changed nothing
pub stays-still : (s : Setting) (gives : BoardState → BoardState → Type 0) (answers : Said → Said) (logs : Entry → Bool) (r : ℕ) (old new : Pass) → old.role ≡ r
    → list_all logs (past old.made) ≡ true → (c : Called s gives answers old new) → new.seen ≡ c.between ++ old.seen → Stays logs r old new
stays-still s gives answers logs r old new is moves c same =
    let made_ = unmoved s gives answers old new r is c same in
    record {
      role = role-after s gives answers old new r is c;
      moves = subst (λ (b : BoardState). list_all logs (past b) ≡ true) (sym made_) moves;
      hand_ = ap (λ (b : BoardState). hand r (past b)) made_;
      lent = ap (λ (b : BoardState). lent_to r b) made_;
    }

pub stays-leave : (s : Setting) (logs : Entry → Bool) (r : ℕ) (old new : Pass) → old.role ≡ r
    → ((e : Entry) → begun_by e ≡ None → logs e ≡ true) → logs (Leave r) ≡ true
    → list_all logs (past old.made) ≡ true → Called s (λ x y. LeaveGives s x r y) said_leave old new → Stays logs r old new
stays-leave s logs r old new is quiet_ leaves_ moves c =
    let f = λ (x y : BoardState). LeaveGives s x r y in
    let b = here s f said_leave old new r is c in
    elim (cases_Bool (has_left r (past b))) [
      | inl left_ ↦ stays-still s f said_leave logs r old new is moves c (c.answer ∙ rw left_ refl)
      | inr stays ↦
          let m = moved s f said_leave old new r is c logs 0 (plain (Leave r)) (c.answer ∙ rw stays refl) refl quiet_ leaves_ moves in
          record { role = role-after s f said_leave old new r is c; moves = m.moves; hand_ = m.hand ∙ hand-before s f said_leave old new r is c; lent = m.lent }
    ]

pub nothing-stays : (logs : Entry → Bool) (r : ℕ) (old new : Pass) → Stays logs r old new → HasNothing logs r old → HasNothing logs r new
nothing-stays logs r old new st n = record { role = st.role; moves = st.moves; free = st.hand_ ∙ n.free }

-- WHAT EACH ROLE HOLDS

pub frame-moves : (g : Graph) (stack : StackValue) (p : Pass) (o : Option LoadedFrame) → HoldsFrame g stack p o
    → (p.role ≡ 0) × (list_all feeder_logs (past p.made) ≡ true)
frame-moves g stack p None h = (h.role, h.moves)
frame-moves g stack p (Some loaded) h = (h.role, h.moves)

pub job-moves : (g : Graph) (stack : StackValue) (r v : ℕ) (p : Pass) (o : Option (Job Sealed)) → HoldsJob g stack r v p o
    → (p.role ≡ r) × (list_all (worker_logs v) (past p.made) ≡ true)
job-moves g stack r v p None h = (h.role, h.moves)
job-moves g stack r v p (Some job) h = (h.role, h.moves)

pub piece-moves : (r : ℕ) (p : Pass) (o : Option Sealed) → HoldsPiece r p o → (p.role ≡ r) × (list_all saver_logs (past p.made) ≡ true)
piece-moves r p None h = (h.role, h.moves)
piece-moves r p (Some piece) h = (h.role, h.moves)

frame-stays : (g : Graph) (stack : StackValue) (old new : Pass) (o : Option LoadedFrame) → Stays feeder_logs 0 old new
    → HoldsFrame g stack old o → HoldsFrame g stack new o
frame-stays g stack old new None st h = nothing-stays feeder_logs 0 old new st h
frame-stays g stack old new (Some loaded) st h = record {
  role = st.role;
  moves = st.moves;
  loaded = ap (λ (e : Option Entry). is_load_of (frame 0 loaded.index) e) st.hand_ ∙ h.loaded;
  granted = ap granted_size st.hand_ ∙ h.granted;
  there = h.there;
  room = h.room;
}

job-stays : (g : Graph) (stack : StackValue) (r v : ℕ) (old new : Pass) (o : Option (Job Sealed)) → Stays (worker_logs v) r old new
    → HoldsJob g stack r v old o → HoldsJob g stack r v new o
job-stays g stack r v old new None st h = nothing-stays (worker_logs v) r old new st h
job-stays g stack r v old new (Some job) st h = record {
  role = st.role;
  moves = st.moves;
  job = ap (λ (e : Option Entry). is_job_on v job.input.name e) st.hand_ ∙ h.job;
  held =
      subst₂ (λ (l : Option Parts) (e : Option Entry). IsOfHand name_of parts_of length l e (Some job.input) None job.blank)
      (sym st.lent) (sym st.hand_) h.held;
  comes = h.comes;
  fits = h.fits;
}

piece-stays : (r : ℕ) (old new : Pass) (o : Option Sealed) → Stays saver_logs r old new → HoldsPiece r old o → HoldsPiece r new o
piece-stays r old new None st h = nothing-stays saver_logs r old new st h
piece-stays r old new (Some piece) st h = record {
  role = st.role;
  moves = st.moves;
  on = ap (λ (e : Option Entry). is_piece_on piece.name e) st.hand_ ∙ h.on;
  lent = h.lent ∙ sym st.lent;
}

-- A CALL THAT CHANGED NOTHING, AND A LEAVE

module _ (s : Setting) (gives : BoardState → BoardState → Type 0) (answers : Said → Said) (old new : Pass) where
  pub frame-still : (g : Graph) (stack : StackValue) (o : Option LoadedFrame) → (c : Called s gives answers old new) → new.seen ≡ c.between ++ old.seen
      → HoldsFrame g stack old o → HoldsFrame g stack new o
  frame-still g stack o c same h =
      let m = frame-moves g stack old o h in
      frame-stays g stack old new o (stays-still s gives answers feeder_logs 0 old new m.0 m.1 c same) h

  pub job-still : (g : Graph) (stack : StackValue) (r v : ℕ) (o : Option (Job Sealed)) → (c : Called s gives answers old new)
      → new.seen ≡ c.between ++ old.seen → HoldsJob g stack r v old o → HoldsJob g stack r v new o
  job-still g stack r v o c same h =
      let m = job-moves g stack r v old o h in
      job-stays g stack r v old new o (stays-still s gives answers (worker_logs v) r old new m.0 m.1 c same) h

  pub piece-still : (r : ℕ) (o : Option Sealed) → (c : Called s gives answers old new) → new.seen ≡ c.between ++ old.seen
      → HoldsPiece r old o → HoldsPiece r new o
  piece-still r o c same h =
      let m = piece-moves r old o h in
      piece-stays r old new o (stays-still s gives answers saver_logs r old new m.0 m.1 c same) h

pub frame-left : (g : Graph) (stack : StackValue) (s : Setting) (old new : Pass) (o : Option LoadedFrame)
    → ((e : Entry) → begun_by e ≡ None → feeder_logs e ≡ true)
    → Called s (λ x y. LeaveGives s x 0 y) said_leave old new → HoldsFrame g stack old o → HoldsFrame g stack new o
frame-left g stack s old new o quiet_ c h =
    let m = frame-moves g stack old o h in
    frame-stays g stack old new o (stays-leave s feeder_logs 0 old new m.0 quiet_ refl m.1 c) h

pub job-left : (g : Graph) (stack : StackValue) (s : Setting) (r v : ℕ) (old new : Pass) (o : Option (Job Sealed))
    → ((e : Entry) → begun_by e ≡ None → worker_logs v e ≡ true)
    → Called s (λ x y. LeaveGives s x r y) said_leave old new → HoldsJob g stack r v old o → HoldsJob g stack r v new o
job-left g stack s r v old new o quiet_ c h =
    let m = job-moves g stack r v old o h in
    job-stays g stack r v old new o (stays-leave s (worker_logs v) r old new m.0 quiet_ refl m.1 c) h
