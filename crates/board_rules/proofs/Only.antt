-- Each legal move is the one that begins with its entry.
use Rattle.std.proofs.Common.{◌≡◌, ◌⊎◌, ℕ, zero, suc, ◌≤◌, max, Bool, true, false, not, ◌&&◌, eqb, List, [], ◌∷◌, ◌++◌, map, refl, sym, ap, ◌∙◌, subst}
use Rattle.std.proofs.Common.{arith, inl, inr, if◌then◌else◌}
use Rattle.std.proofs.lemmas.Bool.{and_parts, and_from, false≢true, true≢false, cases_Bool, eqb-true, leb-true, not-true}
use Rattle.std.proofs.lemmas.List.{append-nil, append_assoc}
use Rattle.flow_journal.specs.declared.entry.Entry.{Entry}
use Rattle.flow_journal.specs.declared.entry.Entry.TheVariants.{Load, LoadRefused, Tick, Issue, Emit, Accept, Full, Take, TakeBlock, PoolDrop, Put}
use Rattle.flow_journal.specs.declared.entry.Entry.TheVariants.{SortDrop, Settle, Save, Saved, Close, Leave, Reclaim}
use Rattle.flow_journal.specs.declared.entry.Why.{Why}
use Rattle.flow_journal.specs.declared.entry.Why.TheVariants.{Plain, Step, Late, Flush, Ring, Now}
use Rattle.flow_journal.specs.Setting.{Setting, node}
use Rattle.flow_journal.specs.Turns.{offered_to}
use Rattle.flow_journal.specs.Pasts.{Past, frame}
use Rattle.flow_journal.specs.Queued.{has_room}
use Rattle.flow_journal.specs.Ended.{now}
use Rattle.flow_journal.specs.Waiting.{waiting, least_first}
use Rattle.flow_journal.specs.FirstEntries.{first}
use Rattle.flow_journal.specs.Following.{calls_for, offer, emit, owed, result}
use Rattle.flow_journal.specs.Histories.{is_such, why_number, answers, next, is_nothing, Owes}
use Rattle.flow_journal.specs.Moves.{onto, follow}
use Rattle.flow_journal.specs.Pushes.{history-owes, push-first, push-owed}
use Rattle.flow_journal.specs.EntryTests.{is_tick}
use Rattle.board_rules.specs.declared.told.Told.{Told}
use Rattle.board_rules.specs.States.{BoardState, past, plain}
use Rattle.board_rules.specs.Moving.{made_of, with_all, moved_at}
use Rattle.board_rules.specs.MoveLaws.{MovedIsTheOnly}
use Rattle.board_rules.proofs.Moved.{fits, all_fit, none-fit, fit-map, fit-first, fit-next, fit-result}

-- WHAT ANSWERS A CALL IS WHAT IS MADE

abbrev no_ticks : List Entry → Bool
no_ticks [] = true
no_ticks (d ∷ ds) = not (is_tick d) && no_ticks ds

abbrev why_of : ℕ → Why
why_of n = if eqb n 0 then Plain else if eqb n 1 then Step else if eqb n 2 then Late else if eqb n 3 then Flush else if eqb n 4 then Ring else Now

why_of-number : (w : Why) → why_of (why_number w) ≡ w
why_of-number Plain = refl
why_of-number Step = refl
why_of-number Late = refl
why_of-number Flush = refl
why_of-number Ring = refl
why_of-number Now = refl

same-why : (a b : Why) → why_number a ≡ why_number b → a ≡ b
same-why a b h = sym (why_of-number a) ∙ (ap why_of h ∙ why_of-number b)

three : (v w m n k j : ℕ) → (eqb v w && eqb m n && eqb k j) ≡ true → (w ≡ v) × (n ≡ m) × (j ≡ k)
three v w m n k j h =
    let p = and_parts (eqb v w && eqb m n) (eqb k j) h in
    let q = and_parts (eqb v w) (eqb m n) p.0 in
    (sym (eqb-true v w q.0), sym (eqb-true m n q.1), sym (eqb-true k j p.1))

such-is : (e d : Entry) → is_tick d ≡ false → is_such e d ≡ true → e ≡ d
such-is (Emit w n j how) (Emit v m k why) t h =
    let p = and_parts (eqb v w && eqb m n && eqb k j) (eqb (why_number why) (why_number how)) h in
    let q = three v w m n k j p.0 in
    let a : w ≡ v = q.0 in
    let b : n ≡ m = q.1 in
    let c : j ≡ k = q.2 in
    let d : how ≡ why = same-why how why (sym (eqb-true _ _ p.1)) in
    cc
such-is (Accept w n j) (Accept v m k) t h =
    let q = three v w m n k j h in
    let a : w ≡ v = q.0 in
    let b : n ≡ m = q.1 in
    let c : j ≡ k = q.2 in
    cc
such-is (Full w n j) (Full v m k) t h =
    let q = three v w m n k j h in
    let a : w ≡ v = q.0 in
    let b : n ≡ m = q.1 in
    let c : j ≡ k = q.2 in
    cc
such-is (SortDrop w n j) (SortDrop v m k) t h =
    let q = three v w m n k j h in
    let a : w ≡ v = q.0 in
    let b : n ≡ m = q.1 in
    let c : j ≡ k = q.2 in
    cc
such-is (Tick u) (Tick v) t h = absurd (true≢false t)
such-is _ _ t h = absurd (false≢true h)

-- a Tick that is at least the one called for
such-tick : (e : Entry) (t : ℕ) → is_such e (Tick t) ≡ true → (u : ℕ) × (e ≡ Tick u) × (t ≤ u)
such-tick (Tick u) t h = (u, refl, leb-true t u h)
such-tick _ t h = absurd (false≢true h)

made-is : (s : Setting) (tick n : ℕ) (P : Past) (e d : Entry) → fits n d ≡ true → is_tick d ≡ false → answers s P e d ≡ true → e ≡ made_of s tick P d
made-is s tick n P e (Tick t) f no_ h = absurd (true≢false no_)
made-is s tick n P e (Emit v m k why) f no_ h = such-is e (Emit v m k why) refl h
made-is s tick n P e (Accept v m k) f no_ h =
    elim (cases_Bool (has_room s P v)) [
      | inl room ↦ rw room (such-is e (Accept v m k) refl (rw room at h))
      | inr full ↦ rw full (such-is e (Full v m k) refl (rw full at h))
    ]
made-is s tick n P e (Full v m k) f no_ h = such-is e (Full v m k) refl h
made-is s tick n P e (SortDrop v m k) f no_ h = such-is e (SortDrop v m k) refl h
made-is s tick n P e _ f no_ h = absurd (false≢true f)

-- WHERE NO TICK IS CALLED FOR

ticks-append : (ds es : List Entry) → no_ticks ds ≡ true → no_ticks es ≡ true → no_ticks (ds ++ es) ≡ true
ticks-append [] es p q = q
ticks-append (d ∷ ds) es p q =
    let h = and_parts (not (is_tick d)) (no_ticks ds) p in
    and_from _ _ h.0 (ticks-append ds es h.1 q)

-- what goes no deeper than two
shallow-one : (d : Entry) → fits 2 d ≡ true → not (is_tick d) ≡ true
shallow-one (Tick t) h = absurd (false≢true h)
shallow-one (Emit v m k why) h = refl
shallow-one (Accept v m k) h = refl
shallow-one (Full v m k) h = refl
shallow-one (SortDrop v m k) h = refl
shallow-one _ h = absurd (false≢true h)

shallow : (ds : List Entry) → all_fit 2 ds ≡ true → no_ticks ds ≡ true
shallow [] h = refl
shallow (d ∷ ds) h =
    let p = and_parts (fits 2 d) (all_fit 2 ds) h in
    and_from _ _ (shallow-one d p.0) (shallow ds p.1)

shallow-map : {X : Type 0} (f : X → Entry) (xs : List X) → ((x : X) → fits 2 (f x) ≡ true) → no_ticks (map f xs) ≡ true
shallow-map f xs h = shallow (map f xs) (fit-map 2 f xs h)

-- nor does what is made of others call for any
ticks-next : (s : Setting) (tick n : ℕ) (P : Past) (d : Entry) → fits n d ≡ true → is_tick d ≡ false → no_ticks (calls_for s P (made_of s tick P d)) ≡ true
ticks-next s tick n P (Tick t) f no_ = absurd (true≢false no_)
ticks-next s tick n P (Emit v m k why) f no_ = shallow-map (offer (frame m k)) (offered_to s P v) (λ x. refl)
ticks-next s tick n P (Accept v m k) f no_ =
    elim (cases_Bool (has_room s P v)) [
      | inl room ↦ rw room refl
      | inr full ↦ rw full refl
    ]
ticks-next s tick n P (Full v m k) f no_ = refl
ticks-next s tick n P (SortDrop v m k) f no_ = refl
ticks-next s tick n P _ f no_ = absurd (false≢true f)

-- a first entry calls for no tick, or for one alone
abbrev OneTick : Setting → Past → Entry → Type 0
OneTick s P e = calls_for s P e ≡ Tick (now P) ∷ []

ticks-first : (s : Setting) (P : Past) (e : Entry) → first s P e ≡ true → (no_ticks (calls_for s P e) ≡ true) ⊎ OneTick s P e
ticks-first s P (Load r k b n f g x) h = inr refl
ticks-first s P (LoadRefused r k n z) h = inr refl
ticks-first s P (Issue r k) h = inl refl
ticks-first s P (Take r v m k) h = inl refl
ticks-first s P (TakeBlock f x r v m k b n g) h = inl refl
ticks-first s P (PoolDrop r v m k n z) h = inl refl
ticks-first s P (Put r v m k f) h = inl (shallow (result s v (frame m k) f P (node s v).work) (fit-result s 2 refl refl v (frame m k) f P (node s v).work))
ticks-first s P (Settle r v) h = inl (shallow-map (λ w. emit v Flush w.array) (least_first s (waiting s v P)) (λ w. refl))
ticks-first s P (Save r v m k g) h = inl refl
ticks-first s P (Saved r v m k) h = inl refl
ticks-first s P (Close r) h = inl refl
ticks-first s P (Leave r) h = inl refl
ticks-first s P (Reclaim r) h = inl refl
ticks-first s P _ h = absurd (false≢true h)

-- WHAT FOLLOWS

onto-append : (xs ys : List Entry) (P : Past) → onto (xs ++ ys) P ≡ onto ys (onto xs P)
onto-append [] ys P = refl
onto-append (x ∷ xs) ys P = onto-append xs ys (x ∷ P)

-- a front of these entries is what was made, and the rest still follows
record Made (s : Setting) (P : Past) (es : List Entry) (new : Past) (rest : List Entry) : Type 0 where
  front : List Entry
  back : List Entry
  whole : es ≡ front ++ back
  there : new ≡ onto front P
  goes : follow s new back ≡ true
  owes : Owes s new rest

follow-nothing : (s : Setting) (P : Past) (es : List Entry) → Owes s P [] → follow s P es ≡ true → es ≡ []
follow-nothing s P [] o h = refl
follow-nothing s P (e ∷ es) o h =
    let p = and_parts (not (is_nothing (owed s P)) && next s P e (owed s P)) (follow s (e ∷ P) es) h in
    let q = and_parts (not (is_nothing (owed s P))) (next s P e (owed s P)) p.0 in
    absurd (false≢true (subst (λ (ds : List Entry). not (is_nothing ds) ≡ true) o.rest q.0))

-- the first that follows answers the first that is owed
follow-first : (s : Setting) (P : Past) (d : Entry) (ds : List Entry) (e : Entry) (es : List Entry) → Owes s P (d ∷ ds) → follow s P (e ∷ es) ≡ true
    → (answers s P e d ≡ true) × (follow s (e ∷ P) es ≡ true)
follow-first s P d ds e es o h =
    let p = and_parts (not (is_nothing (owed s P)) && next s P e (owed s P)) (follow s (e ∷ P) es) h in
    let q = and_parts (not (is_nothing (owed s P))) (next s P e (owed s P)) p.0 in
    (subst (λ (xs : List Entry). next s P e xs ≡ true) o.rest q.1, p.1)

follow-some : (s : Setting) (P : Past) (d : Entry) (ds : List Entry) → Owes s P (d ∷ ds) → follow s P [] ≡ true → ⊥
follow-some s P d ds o h = false≢true (subst (λ (xs : List Entry). is_nothing xs ≡ true) o.rest h)

-- one after another
both-made : (s : Setting) (P : Past) (e : Entry) (es : List Entry) (mid new : Past) (more rest : List Entry) → (m : Made s (e ∷ P) es mid more)
    → Made s mid m.back new rest → Made s P (e ∷ es) new rest
both-made s P e es mid new more rest m k =
    record {
      front = e ∷ (m.front ++ k.front);
      back = k.back;
      whole = ap (λ (xs : List Entry). e ∷ xs) (m.whole ∙ (ap (λ (xs : List Entry). m.front ++ xs) k.whole ∙ sym (append_assoc m.front k.front k.back)));
      there = k.there ∙ (ap (onto k.front) m.there ∙ sym (onto-append m.front k.front (e ∷ P)));
      goes = k.goes;
      owes = k.owes;
    }

follows-made : (s : Setting) (tick n : ℕ) (ds rest es : List Entry) (b : BoardState) → all_fit n ds ≡ true → no_ticks ds ≡ true
    → Owes s (past b) (ds ++ rest) → follow s (past b) es ≡ true → Made s (past b) es (past (with_all s tick n ds b)) rest
follows-made s tick zero [] rest es b h t o f = record { front = []; back = es; whole = refl; there = refl; goes = f; owes = o }
follows-made s tick zero (d ∷ ds) rest es b h t o f = absurd (false≢true (sym (none-fit d) ∙ (and_parts (fits 0 d) (all_fit 0 ds) h).0))
follows-made s tick (suc n) [] rest es b h t o f = record { front = []; back = es; whole = refl; there = refl; goes = f; owes = o }
follows-made s tick (suc n) (d ∷ ds) rest [] b h t o f = absurd (follow-some s (past b) d (ds ++ rest) o f)
follows-made s tick (suc n) (d ∷ ds) rest (x ∷ es) b h t o f =
    let p = and_parts (fits (suc n) d) (all_fit (suc n) ds) h in
    let q = and_parts (not (is_tick d)) (no_ticks ds) t in
    let a = follow-first s (past b) d (ds ++ rest) x es o f in
    let e = made_of s tick (past b) d in
    let is : x ≡ e = made-is s tick (suc n) (past b) x d p.0 (not-true _ q.0) a.0 in
    let o' : Owes s (e ∷ past b) (calls_for s (past b) e ++ (ds ++ rest)) = push-owed e o (subst (λ (y : Entry). answers s (past b) y d ≡ true) is a.0) in
    let f' : follow s (e ∷ past b) es ≡ true = subst (λ (y : Entry). follow s (y ∷ past b) es ≡ true) is a.1 in
    let m =
    follows-made s tick n (calls_for s (past b) e) (ds ++ rest) es (plain e ∷ b) (fit-next s tick n (past b) d p.0)
    (ticks-next s tick (suc n) (past b) d p.0 (not-true _ q.0)) o' f' in
    let k = follows-made s tick (suc n) ds rest m.back (with_all s tick n (calls_for s (past b) e) (plain e ∷ b)) p.1 q.1 m.owes m.goes in
    subst (λ (y : Entry). Made s (past b) (y ∷ es) (past (with_all s tick (suc n) (d ∷ ds) b)) rest) (sym is)
    (both-made s (past b) e es
    (past (with_all s tick n (calls_for s (past b) e) (plain e ∷ b))) (past (with_all s tick (suc n) (d ∷ ds) b)) (ds ++ rest) rest m k)

-- THE MOVE

-- nothing is left once all was made
all-there : (s : Setting) (P : Past) (es : List Entry) (new : Past) → Made s P es new [] → new ≡ onto es P
all-there s P es new m =
    let none : m.back ≡ [] = follow-nothing s new m.back m.owes m.goes in
    m.there ∙ ap (λ (xs : List Entry). onto xs P) (sym (m.whole ∙ (ap (λ (xs : List Entry). m.front ++ xs) none ∙ append-nil m.front)))

without-tick : (s : Setting) (b : BoardState) (t : Told) (m : List Entry) → no_ticks (calls_for s (past b) t.entry) ≡ true
    → Owes s (t.entry ∷ past b) (calls_for s (past b) t.entry) → follow s (t.entry ∷ past b) m ≡ true → past (moved_at s 0 t b) ≡ onto m (t.entry ∷ past b)
without-tick s b t m no_ o f =
    all-there s (t.entry ∷ past b) m (past (moved_at s 0 t b))
    (follows-made s 0 3 (calls_for s (past b) t.entry) [] m (t ∷ b) (fit-first s (past b) t.entry) no_
    (subst (λ (ds : List Entry). Owes s (t.entry ∷ past b) ds) (sym (append-nil (calls_for s (past b) t.entry))) o) f)

max-right : (a b : ℕ) → a ≤ b → max a b ≡ b
max-right a b h = omega arith

-- the past once a tick came, and all that it calls for
abbrev ticked : Setting → (tick u : ℕ) → BoardState → Past
ticked s tick u b = past (with_all s tick 2 (calls_for s (past b) (Tick u)) (plain (Tick u) ∷ b))

after-tick : (s : Setting) (b : BoardState) (u : ℕ) (es : List Entry) → Owes s (Tick u ∷ past b) (calls_for s (past b) (Tick u))
    → follow s (Tick u ∷ past b) es ≡ true → ticked s u u b ≡ onto es (Tick u ∷ past b)
after-tick s b u es o f =
    let fit : all_fit 2 (calls_for s (past b) (Tick u)) ≡ true =
    subst (λ (w : ℕ). all_fit 2 (calls_for s (past b) (Tick w)) ≡ true) (max-right u u (omega arith)) (fit-next s u 2 (past b) (Tick u) refl) in
    all-there s (Tick u ∷ past b) es (ticked s u u b)
    (follows-made s u 2 (calls_for s (past b) (Tick u)) [] es (plain (Tick u) ∷ b) fit (shallow (calls_for s (past b) (Tick u)) fit)
    (subst (λ (ds : List Entry). Owes s (Tick u ∷ past b) ds) (sym (append-nil (calls_for s (past b) (Tick u)))) o) f)

with-tick : (s : Setting) (b : BoardState) (t : Told) (m : List Entry) → OneTick s (past b) t.entry
    → Owes s (t.entry ∷ past b) (calls_for s (past b) t.entry) → follow s (t.entry ∷ past b) m ≡ true
    → (tick : ℕ) × (past (moved_at s tick t b) ≡ onto m (t.entry ∷ past b))
with-tick s b t [] one o f =
    absurd (follow-some s (t.entry ∷ past b) (Tick (now (past b))) [] (subst (λ (ds : List Entry). Owes s (t.entry ∷ past b) ds) one o) f)
with-tick s b t (x ∷ es) one o f =
    let P : Past = t.entry ∷ past b in
    let kept : ℕ = now (past b) in
    let o' : Owes s P (Tick kept ∷ []) = subst (λ (ds : List Entry). Owes s P ds) one o in
    let a = follow-first s P (Tick kept) [] x es o' f in
    let w = such-tick x kept a.0 in
    let u : ℕ = w.0 in
    let is : x ≡ Tick u = w.1 in
    let later : Owes s (Tick u ∷ P) (calls_for s P (Tick u) ++ []) = push-owed (Tick u) o' (subst (λ (y : Entry). answers s P y (Tick kept) ≡ true) is a.0) in
    let there =
    after-tick s (t ∷ b) u es (subst (λ (ds : List Entry). Owes s (Tick u ∷ P) ds) (append-nil (calls_for s P (Tick u))) later)
    (subst (λ (y : Entry). follow s (y ∷ P) es ≡ true) is a.1) in (
      u,
      ap (λ (ds : List Entry). past (with_all s u 3 ds (t ∷ b))) one
          ∙ (ap (λ (v : ℕ). ticked s u v (t ∷ b)) (max-right kept u w.2)
          ∙ (there ∙ ap (λ (y : Entry). onto es (y ∷ P)) (sym is))),
    )

pub moved-only : MovedIsTheOnly
moved-only s b t m h move =
    let p = and_parts (first s (past b) t.entry) (follow s (t.entry ∷ past b) m) move in
    let o = push-first t.entry (history-owes h) p.0 in
    elim (ticks-first s (past b) t.entry p.0) [
      | inl no_ ↦ (0, without-tick s b t m no_ o p.1)
      | inr one ↦ with-tick s b t m one o p.1
    ]
