-- What waits has the tick of an entry: nothing is put before the first tick.
use Rattle.std.proofs.Common.{◌≡◌, ℕ, zero, suc, ◌+◌, ◌≤◌, Bool, true, false, ◌&&◌, cond, eqb, List, [], ◌∷◌, ◌++◌, drop, refl, ap, ◌∙◌, subst, arith, inl, inr}
use Rattle.std.proofs.Common.{◌⊎◌}
use Rattle.std.specs.List.{Contains}
use Rattle.std.proofs.lemmas.Bool.{and_parts, and_from, false≢true, eq-eqb, cases_Bool}
use Rattle.std.proofs.lemmas.List.Elements.{Contains-append_left, Contains-append_right, Contains-append_cases, Contains-push_cases}
use Rattle.nd_base.specs.declared.frame.FrameName.{FrameName}
use Rattle.flow_journal.specs.declared.entry.Entry.{Entry}
use Rattle.flow_journal.specs.declared.entry.Entry.TheVariants.{Load, LoadRefused, Tick, Issue, Emit, Accept, Full, Take, TakeBlock, PoolDrop, Put}
use Rattle.flow_journal.specs.declared.entry.Entry.TheVariants.{SortDrop, Settle, Save, Saved, Close, Leave, Reclaim}
use Rattle.flow_journal.specs.declared.entry.Why.{Why}
use Rattle.flow_journal.specs.Setting.{Setting, is_sorted}
use Rattle.flow_journal.specs.Pasts.{Past, frame, same}
use Rattle.flow_journal.specs.EntryTests.{is_tick}
use Rattle.flow_journal.specs.Ended.{now}
use Rattle.flow_journal.specs.Hands.{let_go, standing, is_free}
use Rattle.flow_journal.specs.Waiting.{Waiting, waiting, not_waiting}
use Rattle.flow_journal.specs.Following.{calls_for, owed}
use Rattle.flow_journal.specs.Histories.{is_legal, answers}
use Rattle.flow_journal.proofs.Counts.{hand-standing}
use Rattle.flow_journal.proofs.EntryCounts.{count, bit, count-cons, count-append, count-drop, count-let_go, count-let_go-le, owed-first, owed-answered}
use Rattle.flow_journal.proofs.EntryCounts.{accepts_at, puts_at, Answered}
use Rattle.flow_journal.proofs.Issues.{takes-accepted}
use Rattle.flow_journal.proofs.Jobs.{puts-taken}
use Rattle.flow_journal.proofs.Rows.{row_laws}
use Rattle.flow_journal.proofs.Hands.{row_of}

-- A TICK FOLLOWS EACH LOAD

abbrev asks : Entry → Bool
asks (Load r k b n f g x) = true
asks (LoadRefused r k n z) = true
asks _ = false

-- the entry doesn't answer a tick that is owed
abbrev NoTick : Setting → Past → Entry → Type 0
NoTick s P e = (d : Entry) → answers s P e d ≡ true → is_tick d ≡ false

-- as many ticks came or are owed as frames were asked for
abbrev AreTicked : Setting → Past → Type 0
AreTicked s P = count asks P ≤ count is_tick P + count is_tick (owed s P)

begun : (s : Setting) (e : Entry) (P : Past) → asks e ≡ false → ((d : Entry) → answers s P e d ≡ false) → is_legal s (e ∷ P) ≡ true → AreTicked s P
    → AreTicked s (e ∷ P)
begun s e P other never h before =
    omega (arith, before, ap (count is_tick) (owed-first s e P never h), count-cons asks e P, ap bit other, count-cons is_tick e P)

followed : (s : Setting) (e : Entry) (P : Past) (a : Answered s P e (owed s P)) → asks e ≡ false → is_tick a.head ≡ false → AreTicked s P
    → AreTicked s (e ∷ P)
followed s e P a other off before =
    let was : count is_tick (owed s P) ≡ bit (is_tick a.head) + count is_tick a.rest = ap (count is_tick) a.is ∙ count-cons is_tick a.head a.rest in
    let left : count is_tick (drop 1 (owed s P)) ≡ count is_tick a.rest = ap (λ (ds : List Entry). count is_tick (drop 1 ds)) a.is in
    omega (
      arith,
      before,
      was,
      left,
      ap bit off,
      count-append is_tick (calls_for s P e) (drop 1 (owed s P)),
      count-cons asks e P,
      ap bit other,
      count-cons is_tick e P,
    )

ticked-Emit : (s : Setting) (P : Past) (w m i : ℕ) (why : Why) → NoTick s P (Emit w m i why)
ticked-Emit s P w m i why (Tick t) h = absurd (false≢true h)
ticked-Emit s P w m i why _ h = refl

ticked-Accept : (s : Setting) (P : Past) (w m i : ℕ) → NoTick s P (Accept w m i)
ticked-Accept s P w m i (Tick t) h = absurd (false≢true h)
ticked-Accept s P w m i _ h = refl

ticked-Full : (s : Setting) (P : Past) (w m i : ℕ) → NoTick s P (Full w m i)
ticked-Full s P w m i (Tick t) h = absurd (false≢true h)
ticked-Full s P w m i _ h = refl

ticked-SortDrop : (s : Setting) (P : Past) (w m i : ℕ) → NoTick s P (SortDrop w m i)
ticked-SortDrop s P w m i (Tick t) h = absurd (false≢true h)
ticked-SortDrop s P w m i _ h = refl

ticked : (s : Setting) (P : Past) → is_legal s P ≡ true → AreTicked s P
ticked s [] h = omega arith
ticked s (Load r k b n f g x ∷ P) h =
    omega (
      arith,
      ticked s P (and_parts _ _ h).0,
      ap (count is_tick) (owed-first s (Load r k b n f g x) P (λ d. refl) h),
      count-cons asks (Load r k b n f g x) P,
      count-cons is_tick (Load r k b n f g x) P,
      count-cons is_tick (Tick (now P)) (drop 1 (owed s P)),
    )
ticked s (LoadRefused r k n z ∷ P) h =
    omega (
      arith,
      ticked s P (and_parts _ _ h).0,
      ap (count is_tick) (owed-first s (LoadRefused r k n z) P (λ d. refl) h),
      count-cons asks (LoadRefused r k n z) P,
      count-cons is_tick (LoadRefused r k n z) P,
      count-cons is_tick (Tick (now P)) (drop 1 (owed s P)),
    )
ticked s (Tick t ∷ P) h =
    let a = owed-answered s (Tick t) P refl h in
    let was : count is_tick (owed s P) ≡ bit (is_tick a.head) + count is_tick a.rest = ap (count is_tick) a.is ∙ count-cons is_tick a.head a.rest in
    let left : count is_tick (drop 1 (owed s P)) ≡ count is_tick a.rest = ap (λ (ds : List Entry). count is_tick (drop 1 ds)) a.is in
    omega (
      arith,
      ticked s P (and_parts _ _ h).0,
      was,
      left,
      bit-le (is_tick a.head),
      count-append is_tick (calls_for s P (Tick t)) (drop 1 (owed s P)),
      count-cons asks (Tick t) P,
      count-cons is_tick (Tick t) P,
    )
  where
    bit-le : (b : Bool) → bit b ≤ 1
    bit-le true = omega arith
    bit-le false = omega arith
ticked s (Emit w m i why ∷ P) h =
    let a = owed-answered s (Emit w m i why) P refl h in
    followed s (Emit w m i why) P a refl (ticked-Emit s P w m i why a.head a.answer) (ticked s P (and_parts _ _ h).0)
ticked s (Accept w m i ∷ P) h =
    let a = owed-answered s (Accept w m i) P refl h in
    followed s (Accept w m i) P a refl (ticked-Accept s P w m i a.head a.answer) (ticked s P (and_parts _ _ h).0)
ticked s (Full w m i ∷ P) h =
    let a = owed-answered s (Full w m i) P refl h in
    followed s (Full w m i) P a refl (ticked-Full s P w m i a.head a.answer) (ticked s P (and_parts _ _ h).0)
ticked s (SortDrop w m i ∷ P) h =
    let a = owed-answered s (SortDrop w m i) P refl h in
    followed s (SortDrop w m i) P a refl (ticked-SortDrop s P w m i a.head a.answer) (ticked s P (and_parts _ _ h).0)
ticked s (Issue r k ∷ P) h = begun s (Issue r k) P refl (λ d. refl) h (ticked s P (and_parts _ _ h).0)
ticked s (Take r v m k ∷ P) h = begun s (Take r v m k) P refl (λ d. refl) h (ticked s P (and_parts _ _ h).0)
ticked s (TakeBlock f x r v m k b n g ∷ P) h = begun s (TakeBlock f x r v m k b n g) P refl (λ d. refl) h (ticked s P (and_parts _ _ h).0)
ticked s (PoolDrop r v m k n z ∷ P) h = begun s (PoolDrop r v m k n z) P refl (λ d. refl) h (ticked s P (and_parts _ _ h).0)
ticked s (Put r v m k f ∷ P) h = begun s (Put r v m k f) P refl (λ d. refl) h (ticked s P (and_parts _ _ h).0)
ticked s (Settle r v ∷ P) h = begun s (Settle r v) P refl (λ d. refl) h (ticked s P (and_parts _ _ h).0)
ticked s (Save r v m k g ∷ P) h = begun s (Save r v m k g) P refl (λ d. refl) h (ticked s P (and_parts _ _ h).0)
ticked s (Saved r v m k ∷ P) h = begun s (Saved r v m k) P refl (λ d. refl) h (ticked s P (and_parts _ _ h).0)
ticked s (Close r ∷ P) h = begun s (Close r) P refl (λ d. refl) h (ticked s P (and_parts _ _ h).0)
ticked s (Leave r ∷ P) h = begun s (Leave r) P refl (λ d. refl) h (ticked s P (and_parts _ _ h).0)
ticked s (Reclaim r ∷ P) h = begun s (Reclaim r) P refl (λ d. refl) h (ticked s P (and_parts _ _ h).0)

-- BEFORE THE FIRST TICK NOTHING IS ISSUED, EMITTED, ACCEPTED OR PUT

abbrev goes : Entry → Bool
goes (Issue r k) = true
goes (Emit v m k why) = true
goes (Accept v m k) = true
goes (Put r v m k f) = true
goes _ = false

standing-le : (p : Entry → Bool) (P : Past) → count p (standing P) ≤ count p P
standing-le p [] = omega arith
standing-le p (Reclaim r ∷ P) =
    omega (arith, standing-le p P, kept (is_free r P), count-cons p (Reclaim r) (cond (is_free r P) (standing P) (let_go r (standing P))), count-cons p (Reclaim r) P)
  where
    kept : (b : Bool) → count p (cond b (standing P) (let_go r (standing P))) ≤ count p (standing P)
    kept true = omega arith
    kept false = count-let_go-le p r (standing P)
standing-le p (e ∷ P) = omega (arith, standing-le p P, count-cons p e (standing P), count-cons p e P)

-- nothing waits where nothing was put
none-waits : (s : Setting) (v : ℕ) (P : Past) → count goes P ≡ 0 → waiting s v P ≡ []
none-waits s v [] h = refl
none-waits s v (Put r w m k f ∷ P) h = absurd (omega (arith, h, count-cons goes (Put r w m k f) P))
none-waits s v (Emit w m k why ∷ P) h = absurd (omega (arith, h, count-cons goes (Emit w m k why) P))
none-waits s v (SortDrop w m k ∷ P) h =
    let none : waiting s v P ≡ [] = none-waits s v P h in
    elim (cases_Bool (eqb w v)) [
      | inl here ↦ rw (here, none) refl
      | inr away ↦ rw away none
    ]
none-waits s v (e ∷ P) h = none-waits s v P (omega (arith, h, count-cons goes e P))

-- and nothing is to go out or to be offered
none-going : (s : Setting) (P : Past) → count is_tick P ≡ 0 → count goes P ≡ 0 → count goes (owed s P) ≡ 0
none-going s [] t h = refl
none-going s (Tick u ∷ P) t h = absurd (omega (arith, t, count-cons is_tick (Tick u) P))
none-going s (Issue r k ∷ P) t h = absurd (omega (arith, h, count-cons goes (Issue r k) P))
none-going s (Put r w m k f ∷ P) t h = absurd (omega (arith, h, count-cons goes (Put r w m k f) P))
none-going s (Emit w m k why ∷ P) t h = absurd (omega (arith, h, count-cons goes (Emit w m k why) P))
none-going s (Settle r w ∷ P) t h =
    let none : waiting s w P ≡ [] = none-waits s w P h in
    rw none (omega (arith, none-going s P t h, count-drop goes (owed s P)))
none-going s (Load r k b n f g x ∷ P) t h =
    omega (arith, none-going s P t h, count-drop goes (owed s P), count-cons goes (Tick (now P)) (drop 1 (owed s P)))
none-going s (LoadRefused r k n z ∷ P) t h =
    omega (arith, none-going s P t h, count-drop goes (owed s P), count-cons goes (Tick (now P)) (drop 1 (owed s P)))
none-going s (e ∷ P) t h =
    omega (arith, none-going s P (omega (arith, t, count-cons is_tick e P)) (omega (arith, h, count-cons goes e P)), count-drop goes (owed s P))

accepts-go : (v k : ℕ) (P : Past) → count (accepts_at v k) P ≤ count goes P
accepts-go v k [] = omega arith
accepts-go v k (Accept w m i ∷ P) =
    omega (arith, accepts-go v k P, one (eqb w v && eqb i k), count-cons (accepts_at v k) (Accept w m i) P, count-cons goes (Accept w m i) P)
  where
    one : (b : Bool) → bit b ≤ 1
    one true = omega arith
    one false = omega arith
accepts-go v k (e ∷ P) = omega (arith, accepts-go v k P, count-cons goes e P)

-- what goes answers what goes, or begins a move
emit-goes : (s : Setting) (P : Past) (w m i : ℕ) (why : Why) (d : Entry) → answers s P (Emit w m i why) d ≡ true → goes d ≡ true
emit-goes s P w m i why (Emit v n j how) h = refl
emit-goes s P w m i why (Accept c n j) h = refl
emit-goes s P w m i why _ h = absurd (false≢true h)

accept-goes : (s : Setting) (P : Past) (w m i : ℕ) (d : Entry) → answers s P (Accept w m i) d ≡ true → goes d ≡ true
accept-goes s P w m i (Accept c n j) h = refl
accept-goes s P w m i _ h = absurd (false≢true h)

none-answered : (s : Setting) (P : Past) (e : Entry) (a : Answered s P e (owed s P)) → goes a.head ≡ true → count goes (owed s P) ≡ 0 → count goes (e ∷ P) ≡ 0
none-answered s P e a hit none = absurd (omega (arith, none, ap (count goes) a.is, count-cons goes a.head a.rest, ap bit hit))

none-gone : (s : Setting) (P : Past) → is_legal s P ≡ true → count is_tick P ≡ 0 → count goes P ≡ 0
none-gone s [] h t = refl
none-gone s (Tick u ∷ P) h t = absurd (omega (arith, t, count-cons is_tick (Tick u) P))
none-gone s (Issue r k ∷ P) h t =
    let legal : is_legal s P ≡ true = (and_parts _ _ h).0 in
    let load = (row_laws.issue s P r k).0 (row_of s (Issue r k) P (λ d. refl) h) in
    let stood = count-let_go asks r _ (standing P) (hand-standing s P r _ legal load.5) in
    absurd (omega (arith, ticked s P legal, t, ap (count is_tick) (owed-first s (Issue r k) P (λ d. refl) h), stood, standing-le asks P))
none-gone s (Put r w m k f ∷ P) h t =
    let legal : is_legal s P ≡ true = (and_parts _ _ h).0 in
    let hit : puts_at w k (Put r w m k f) ≡ true = and_from _ _ (eq-eqb w w refl) (eq-eqb k k refl) in
    absurd (omega (
      arith,
      puts-taken s (Put r w m k f ∷ P) w k h,
      takes-accepted s (Put r w m k f ∷ P) w k h,
      count-cons (puts_at w k) (Put r w m k f) P,
      ap bit hit,
      accepts-go w k P,
      none-gone s P legal t,
    ))
none-gone s (Emit w m i why ∷ P) h t =
    let legal : is_legal s P ≡ true = (and_parts _ _ h).0 in
    let a = owed-answered s (Emit w m i why) P refl h in
    none-answered s P (Emit w m i why) a (emit-goes s P w m i why a.head a.answer) (none-going s P t (none-gone s P legal t))
none-gone s (Accept w m i ∷ P) h t =
    let legal : is_legal s P ≡ true = (and_parts _ _ h).0 in
    let a = owed-answered s (Accept w m i) P refl h in
    none-answered s P (Accept w m i) a (accept-goes s P w m i a.head a.answer) (none-going s P t (none-gone s P legal t))
none-gone s (e ∷ P) h t = none-gone s P (and_parts _ _ h).0 (omega (arith, t, count-cons is_tick e P))

-- WHAT WAITS

pub contains-more : (e d : Entry) (P : Past) → Contains P d → Contains (e ∷ P) d
contains-more e d P h = Contains-append_right (e ∷ []) P d h

-- where a tick is recorded the one that is kept is, too
pub now-recorded : (P : Past) (t : ℕ) → Contains P (Tick t) → Contains P (Tick (now P))
now-recorded [] t some = absurd (omega (arith, some.1))
now-recorded (Tick u ∷ P) t some = Contains-append_left (Tick u ∷ []) P (Tick u) (0, omega arith, refl)
now-recorded (e ∷ P) t some = elim (Contains-append_cases (e ∷ []) P (Tick t) some) [
  | inr older ↦ contains-more e (Tick (now P)) P (now-recorded P t older)
  | inl newest ↦ elim (Contains-push_cases [] e (Tick t) newest) [
    | inl none ↦ absurd (omega (arith, none.1))
    | inr is ↦ absurd (cc)
  ]
]

some-tick : (P : Past) → 1 ≤ count is_tick P → (t : ℕ) × Contains P (Tick t)
some-tick [] some = absurd (omega (arith, some))
some-tick (Tick t ∷ P) some = (t, Contains-append_left (Tick t ∷ []) P (Tick t) (0, omega arith, refl))
some-tick (e ∷ P) some = let older = some-tick P (omega (arith, some, count-cons is_tick e P)) in (older.0, contains-more e (Tick older.0) P older.1)

left-waits : (a : FrameName) (ws : List Waiting) (w : Waiting) → Contains (not_waiting a ws) w → Contains ws w
left-waits a [] w h = h
left-waits a (x ∷ xs) w h =
    elim (cases_Bool (same x.array a)) [
      | inl here ↦ Contains-append_right (x ∷ []) xs w (rw here at h)
      | inr away ↦
          let there : Contains (x ∷ not_waiting a xs) w = rw away at h in
          elim (Contains-append_cases (x ∷ []) (not_waiting a xs) w there) [
            | inl first ↦ Contains-append_left (x ∷ []) xs w first
            | inr later ↦ Contains-append_right (x ∷ []) xs w (left-waits a xs w later)
          ]
    ]

still-waits : (b : Bool) (a : FrameName) (ws : List Waiting) (w : Waiting) → Contains (cond b (not_waiting a ws) ws) w → Contains ws w
still-waits true a ws w some = left-waits a ws w some
still-waits false a ws w some = some

pub waits-recorded : (s : Setting) (v : ℕ) (w : Waiting) (P : Past) → is_legal s P ≡ true → Contains (waiting s v P) w → Contains P (Tick w.tick)
waits-recorded s v w [] h some = absurd (omega (arith, some.1))
waits-recorded s v w (Put r u m k f ∷ P) h some =
    contains-more (Put r u m k f) (Tick w.tick) P (put (is_sorted s v) (eqb u v) (waits-recorded s v w P (and_parts _ _ h).0) some)
  where
    new : Waiting
    new = record { array = frame m k; tick = now P }

    cases_zero : (n : ℕ) → (n ≡ 0) ⊎ (1 ≤ n)
    cases_zero zero = inl refl
    cases_zero (suc n) = inr (omega arith)

    recorded : Contains P (Tick (now P))
    recorded =
        elim (cases_zero (count is_tick P)) [
          | inl none ↦ absurd (omega (arith, none-gone s (Put r u m k f ∷ P) h none, count-cons goes (Put r u m k f) P))
          | inr more ↦ let tick = some-tick P more in now-recorded P tick.0 tick.1
        ]

    put : (b c : Bool) → (Contains (waiting s v P) w → Contains P (Tick w.tick))
        → Contains (cond b (cond c (waiting s v P ++ new ∷ []) (waiting s v P)) []) w → Contains P (Tick w.tick)
    put false c before some = absurd (omega (arith, some.1))
    put true false before some = before some
    put true true before some =
        elim (Contains-push_cases (waiting s v P) new w some) [
          | inl older ↦ before older
          | inr is ↦ subst (λ (x : Waiting). Contains P (Tick x.tick)) is recorded
        ]
waits-recorded s v w (Emit u m k why ∷ P) h some =
    contains-more (Emit u m k why) (Tick w.tick) P
    (waits-recorded s v w P (and_parts _ _ h).0 (still-waits (eqb u v) (frame m k) (waiting s v P) w some))
waits-recorded s v w (SortDrop u m k ∷ P) h some =
    contains-more (SortDrop u m k) (Tick w.tick) P
    (waits-recorded s v w P (and_parts _ _ h).0 (still-waits (eqb u v) (frame m k) (waiting s v P) w some))
waits-recorded s v w (e ∷ P) h some = contains-more e (Tick w.tick) P (waits-recorded s v w P (and_parts _ _ h).0 some)
