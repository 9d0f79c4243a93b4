-- One more entry: the two ways in which a legal log grows, and what answers what was called for.
use Rattle.std.proofs.Common.{◌≡◌, ℕ, ◌≤◌, true, false, ◌&&◌, List, [], ◌∷◌, ◌++◌, refl, eqb}
use Rattle.std.proofs.lemmas.Bool.{and_parts, and_from, false≢true, eq-eqb, le-leb}
use Rattle.std.proofs.lemmas.List.{append-nil}
use Rattle.flow_journal.specs.declared.entry.Entry.{Entry}
use Rattle.flow_journal.specs.declared.entry.Entry.TheVariants.{Tick, Emit, Accept, Full, SortDrop}
use Rattle.flow_journal.specs.declared.entry.Why.{Why}
use Rattle.flow_journal.specs.FirstEntries.{first}
use Rattle.flow_journal.specs.Following.{owed, calls_for}
use Rattle.flow_journal.specs.Histories.{answers, is_legal, is_history, is_nothing, why_number, Owes}
use Rattle.flow_journal.specs.Pasts.{Past}
use Rattle.flow_journal.specs.Queued.{has_room}
use Rattle.flow_journal.specs.Setting.{Setting}

pub is_nothing-true : (ds : List Entry) → is_nothing ds ≡ true → ds ≡ []
is_nothing-true [] h = refl
is_nothing-true (d ∷ ds) h = absurd (false≢true h)

-- a legal history owes nothing
pub history-owes : {s : Setting} {P : Past} → is_history s P ≡ true → Owes s P []
history-owes {s} {P} h =
    let p = and_parts (is_legal s P) (is_nothing (owed s P)) h in
    record { legal = p.0; rest = is_nothing-true (owed s P) p.1 }

pub history-from : {s : Setting} {P : Past} → Owes s P [] → is_history s P ≡ true
history-from {s} {P} o = and_from _ _ o.legal (rw o.rest refl)

-- a move begins
pub push-first : {s : Setting} {P : Past} (e : Entry) → Owes s P [] → first s P e ≡ true → Owes s (e ∷ P) (calls_for s P e)
push-first {s} {P} e o f =
    record { legal = and_from _ _ o.legal (rw o.rest f); rest = rw (o.rest, append-nil) refl }

-- a move goes on
pub push-owed : {s : Setting} {P : Past} {d : Entry} {ds : List Entry} (e : Entry) → Owes s P (d ∷ ds) → answers s P e d ≡ true
    → Owes s (e ∷ P) (calls_for s P e ++ ds)
push-owed {s} {P} {d} {ds} e o f =
    record { legal = and_from _ _ o.legal (rw o.rest f); rest = rw o.rest refl }

-- WHAT ANSWERS

three : (a b c : ℕ) → (eqb a a && eqb b b && eqb c c) ≡ true
three a b c = and_from _ _ (and_from _ _ (eq-eqb a a refl) (eq-eqb b b refl)) (eq-eqb c c refl)

pub answers-Tick : (s : Setting) (P : Past) (t u : ℕ) → t ≤ u → answers s P (Tick u) (Tick t) ≡ true
answers-Tick s P t u h = le-leb t u h

pub answers-Emit : (s : Setting) (P : Past) (v m k : ℕ) (why : Why) → answers s P (Emit v m k why) (Emit v m k why) ≡ true
answers-Emit s P v m k why = and_from _ _ (three v m k) (eq-eqb (why_number why) (why_number why) refl)

pub answers-SortDrop : (s : Setting) (P : Past) (v m k : ℕ) → answers s P (SortDrop v m k) (SortDrop v m k) ≡ true
answers-SortDrop s P v m k = three v m k

-- an offer is accepted where there is room
pub answers-Accept : (s : Setting) (P : Past) (c m k : ℕ) → has_room s P c ≡ true → answers s P (Accept c m k) (Accept c m k) ≡ true
answers-Accept s P c m k room = rw room (three c m k)

-- and else not
pub answers-Full : (s : Setting) (P : Past) (c m k : ℕ) → has_room s P c ≡ false → answers s P (Full c m k) (Accept c m k) ≡ true
answers-Full s P c m k full = rw full (three c m k)
