-- Where all has ended, nothing is left but pieces to save.
use Rattle.std.proofs.Common.{◌≡◌, ℕ, Bool, true, false, eqb, [], ◌∷◌, length, refl, ap, arith, inl, inr}
use Rattle.std.specs.Prelude.{filter, find, is_none}
use Rattle.std.specs.List.{list_all, list_any}
use Rattle.std.proofs.lemmas.Bool.{and_parts, and_from, cases_Bool, eq-eqb, true≢false, false≢true}
use Rattle.flow_journal.specs.declared.entry.Entry.{Entry}
use Rattle.flow_journal.specs.declared.entry.Entry.TheVariants.{Load, Issue, Take, TakeBlock, Put, Save, Saved, Reclaim}
use Rattle.flow_journal.specs.Setting.{Setting, is_node, last_role}
use Rattle.flow_journal.specs.Pasts.{Past}
use Rattle.flow_journal.specs.Hands.{takes_up, let_go, hands, is_free, is_loaded, is_job, jobs}
use Rattle.flow_journal.specs.Ended.{is_closed, is_settled}
use Rattle.flow_journal.specs.Histories.{is_legal, is_history}
use Rattle.flow_journal.proofs.EntryCounts.{bit, count-cons}
use Rattle.flow_journal.proofs.Settled.{settled-idle}
use Rattle.flow_roles.specs.Passes.{saved_by_drain, only_drain_saves}
use Rattle.flow_drain.specs.Drains.{IsDrained}
use Rattle.flow_drain.proofs.Closed.{all-offered}
use Rattle.flow_journal.proofs.HandRoles.{of_run, hands-of-run}
use Rattle.flow_drain.proofs.Quiet.{drained-by}

-- THE HANDS ARE ENTRIES OF THE LOG

kept : (p : Entry → Bool) (r : ℕ) (H : Past) → list_all p H ≡ true → list_all p (let_go r H) ≡ true
kept p r [] h = refl
kept p r (e ∷ H) h =
    let a = and_parts (p e) (list_all p H) h in
    elim (cases_Bool (takes_up r e)) [
      | inl up ↦ rw up a.1
      | inr other ↦ rw other (and_from _ _ a.0 (kept p r H a.1))
    ]

in-hands : (p : Entry → Bool) (P : Past) → list_all p P ≡ true → list_all p (hands P) ≡ true
in-hands p [] h = refl
in-hands p (Load r k b n f g x ∷ P) h =
    let a = and_parts (p (Load r k b n f g x)) (list_all p P) h in
    and_from _ _ a.0 (kept p r (hands P) (in-hands p P a.1))
in-hands p (Take r v m k ∷ P) h =
    let a = and_parts (p (Take r v m k)) (list_all p P) h in
    and_from _ _ a.0 (kept p r (hands P) (in-hands p P a.1))
in-hands p (TakeBlock f x r v m k b n g ∷ P) h =
    let a = and_parts (p (TakeBlock f x r v m k b n g)) (list_all p P) h in
    and_from _ _ a.0 (kept p r (hands P) (in-hands p P a.1))
in-hands p (Save r v m k g ∷ P) h =
    let a = and_parts (p (Save r v m k g)) (list_all p P) h in
    and_from _ _ a.0 (kept p r (hands P) (in-hands p P a.1))
in-hands p (Issue r k ∷ P) h = kept p r (hands P) (in-hands p P (and_parts (p (Issue r k)) (list_all p P) h).1)
in-hands p (Put r v m k f ∷ P) h = kept p r (hands P) (in-hands p P (and_parts (p (Put r v m k f)) (list_all p P) h).1)
in-hands p (Saved r v m k ∷ P) h = kept p r (hands P) (in-hands p P (and_parts (p (Saved r v m k)) (list_all p P) h).1)
in-hands p (Reclaim r ∷ P) h = kept p r (hands P) (in-hands p P (and_parts (p (Reclaim r)) (list_all p P) h).1)
in-hands p (e ∷ P) h = in-hands p P (and_parts (p e) (list_all p P) h).1

-- NONE IS LEFT

-- the first of these hands is no job of a node
no-job : (s : Setting) (v : ℕ) (e : Entry) (hs : Past) → is_job v e ≡ true → is_node s v ≡ true
    → ((w : ℕ) → is_node s w ≡ true → length (filter (is_job w) (e ∷ hs)) ≡ 0) → ⊥
no-job s v e hs job here none = omega (arith, none v here, count-cons (is_job v) e hs, ap bit job)

free-first : (r : ℕ) (e : Entry) (hs : Past) → takes_up r e ≡ true → is_none (find (takes_up r) (e ∷ hs)) ≡ true → ⊥
free-first r e hs up free = let some : false ≡ true = rw up at free in false≢true some

none-in-hand : (s : Setting) (hs : Past) → list_all (of_run s) hs ≡ true → list_any is_loaded hs ≡ false
    → ((v : ℕ) → is_node s v ≡ true → length (filter (is_job v) hs) ≡ 0)
    → list_all (saved_by_drain s) hs ≡ true → is_none (find (takes_up (last_role s)) hs) ≡ true → hs ≡ []
none-in-hand s [] ours loaded jobs saves free = refl
none-in-hand s (Load r k b n f g x ∷ hs) ours loaded jobs saves free = absurd (true≢false loaded)
none-in-hand s (Take r v m k ∷ hs) ours loaded jobs saves free =
    let a = and_parts (of_run s (Take r v m k)) (list_all (of_run s) hs) ours in
    absurd (no-job s v (Take r v m k) hs (eq-eqb v v refl) (and_parts _ (is_node s v) a.0).1 jobs)
none-in-hand s (TakeBlock f x r v m k b n g ∷ hs) ours loaded jobs saves free =
    let a = and_parts (of_run s (TakeBlock f x r v m k b n g)) (list_all (of_run s) hs) ours in
    absurd (no-job s v (TakeBlock f x r v m k b n g) hs (eq-eqb v v refl) (and_parts _ (is_node s v) a.0).1 jobs)
none-in-hand s (Save r v m k g ∷ hs) ours loaded jobs saves free =
    absurd (free-first (last_role s) (Save r v m k g) hs (and_parts (eqb r (last_role s)) (list_all (saved_by_drain s) hs) saves).0 free)
none-in-hand s (e ∷ hs) ours loaded jobs saves free = absurd (false≢true ours)

pub all-ended-drained : (s : Setting) (P : Past) → is_history s P ≡ true → is_closed P ≡ true → ((v : ℕ) → is_node s v ≡ true → is_settled v P ≡ true)
    → only_drain_saves s P ≡ true → is_free (last_role s) P ≡ true → IsDrained s P
all-ended-drained s P legal closed settled saves free =
    let front = (and_parts (is_legal s P) _ legal).0 in
    let o = all-offered s P front closed in
    let none =
    none-in-hand s (hands P) (hands-of-run s P front) o.none (λ v here. settled-idle s P v front (settled v here)) (in-hands (saved_by_drain s) P saves) free in
    drained-by s P legal none closed o.all settled
