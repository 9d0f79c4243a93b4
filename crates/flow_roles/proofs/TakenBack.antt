-- No role takes back a hand: only what is done for it afterwards does.
use Rattle.std.proofs.Common.{◌≡◌, ℕ, Bool, true, false, [], ◌∷◌, refl, sym, ◌∙◌, Option, inl, inr}
use Rattle.std.specs.List.{list_all, list_any}
use Rattle.std.proofs.lemmas.Bool.{and_parts, false≢true, true≢false, cases_Bool}
use Rattle.flow_journal.specs.declared.entry.Entry.{Entry}
use Rattle.flow_journal.specs.declared.entry.Entry.TheVariants.{Reclaim}
use Rattle.flow_journal.specs.Pasts.{Past}
use Rattle.flow_journal.specs.Ended.{reclaims, was_reclaimed}
use Rattle.board_rules.specs.States.{BoardState, past}
use Rattle.flow_journal.specs.MoveLists.{begun_by, is_some_of}
use Rattle.board_rules.specs.Movers.{first_some, mover, moves_by}
use Rattle.flow_roles.specs.RoleMoves.{feeder_logs, worker_logs, saver_logs}

pub feeder-none : (r : ℕ) (e : Entry) → feeder_logs e ≡ true → reclaims r e ≡ false
feeder-none r (Reclaim q) h = absurd (false≢true h)
feeder-none r _ h = refl

pub worker-none : (v r : ℕ) (e : Entry) → worker_logs v e ≡ true → reclaims r e ≡ false
worker-none v r (Reclaim q) h = absurd (false≢true h)
worker-none v r _ h = refl

pub saver-none : (r : ℕ) (e : Entry) → saver_logs e ≡ true → reclaims r e ≡ false
saver-none r (Reclaim q) h = absurd (false≢true h)
saver-none r _ h = refl

pub none-such : (p q : Entry → Bool) (P : Past) → ((e : Entry) → p e ≡ true → q e ≡ false) → list_all p P ≡ true → list_any q P ≡ false
none-such p q [] apart h = refl
none-such p q (e ∷ P) apart h = let a = and_parts (p e) (list_all p P) h in rw (apart e a.0) (none-such p q P apart a.1)

-- the hands that are taken back are among the moves of their roles
back-move : (r : ℕ) (e : Entry) (o : Option ℕ) → reclaims r e ≡ true → is_some_of r (first_some (begun_by e) o) ≡ true
back-move r (Reclaim q) o h = h
back-move r _ o h = absurd (false≢true h)

back-moves : (r : ℕ) (b : BoardState) → was_reclaimed r (past b) ≡ true → was_reclaimed r (past (moves_by r b)) ≡ true
back-moves r [] h = h
back-moves r (t ∷ b) h =
    elim (cases_Bool (reclaims r t.entry)) [
      | inl back ↦ rw (back-move r t.entry (mover b) back, back) refl
      | inr other ↦
          let later = back-moves r b (rw other at h) in
          elim (cases_Bool (is_some_of r (first_some (begun_by t.entry) (mover b)))) [
            | inl yes_ ↦ rw (yes_, other) later
            | inr no_ ↦ rw no_ later
          ]
    ]

pub not-back : (r : ℕ) (b : BoardState) → was_reclaimed r (past (moves_by r b)) ≡ false → was_reclaimed r (past b) ≡ false
not-back r b none =
    elim (cases_Bool (was_reclaimed r (past b))) [
      | inl some ↦ absurd (true≢false (sym (back-moves r b some) ∙ none))
      | inr no_ ↦ no_
    ]
