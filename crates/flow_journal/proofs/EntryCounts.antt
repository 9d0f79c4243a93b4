-- Counts of entries, and what answers what was owed.
use Rattle.std.proofs.Common.{◌≡◌, ℕ, suc, ◌+◌, ◌≤◌, Bool, true, false, ◌&&◌, eqb, List, [], ◌∷◌, ◌++◌, length, drop, refl, sym, ap, ◌∙◌, arith, Some, inl}
use Rattle.std.proofs.Common.{inr, length-append}
use Rattle.std.specs.Prelude.{filter}
use Rattle.std.specs.List.{find}
use Rattle.std.proofs.lemmas.Bool.{and_parts, false≢true, true≢false, eqb-true, cases_Bool}
use Rattle.std.proofs.lemmas.List.Elements.{filter-append}
use Rattle.nd_base.specs.declared.frame.FrameName.{FrameName}
use Rattle.flow_journal.specs.declared.entry.Entry.{Entry}
use Rattle.flow_journal.specs.declared.entry.Entry.TheVariants.{Load, Tick, Emit, Accept, Full, Take, TakeBlock, PoolDrop, Put, SortDrop}
use Rattle.flow_journal.specs.declared.entry.Why.{Why}
use Rattle.flow_journal.specs.Setting.{Setting}
use Rattle.flow_journal.specs.Pasts.{Past, frame}
use Rattle.flow_journal.specs.Hands.{takes_up, let_go}
use Rattle.flow_journal.specs.Queued.{has_room}
use Rattle.flow_journal.specs.FirstEntries.{first}
use Rattle.flow_journal.specs.Following.{owed}
use Rattle.flow_journal.specs.Histories.{is_such, answers, next, is_legal}

abbrev pub count : {X : Type 0} → (X → Bool) → List X → ℕ
count p xs = length (filter p xs)

abbrev pub bit : Bool → ℕ
bit true = 1
bit false = 0

pub count-cons : {X : Type 0} (p : X → Bool) (x : X) (xs : List X) → count p (x ∷ xs) ≡ bit (p x) + count p xs
count-cons p x xs =
    elim (cases_Bool (p x)) [
      | inl here ↦ rw here (let e : suc (length (filter p xs)) ≡ 1 + length (filter p xs) = omega arith in e)
      | inr away ↦ rw away (let e : length (filter p xs) ≡ 0 + length (filter p xs) = omega arith in e)
    ]

pub count-append : {X : Type 0} (p : X → Bool) (xs ys : List X) → count p (xs ++ ys) ≡ count p xs + count p ys
count-append p xs ys = rw (filter-append, length-append) refl

pub count-drop : (p : Entry → Bool) (xs : List Entry) → count p (drop 1 xs) ≤ count p xs
count-drop p [] = omega arith
count-drop p (x ∷ xs) = omega (arith, count-cons p x xs)

pub count-let_go : (p : Entry → Bool) (r : ℕ) (e : Entry) (hs : List Entry) → find (takes_up r) hs ≡ Some e → count p hs ≡ bit (p e) + count p (let_go r hs)
count-let_go p r e [] h = cc
count-let_go p r e (x ∷ hs) h =
    elim (cases_Bool (takes_up r x)) [
      | inl here ↦
          let same : Some x ≡ Some e = rw here at h in let is : x ≡ e = cc in rw here (count-cons p x hs ∙ ap (λ (y : Entry). bit (p y) + count p hs) is)
      | inr away ↦
          let rest = count-let_go p r e hs (rw away at h) in
          let more = count-cons p x (let_go r hs) in
          rw away (count-cons p x hs ∙ omega (arith, rest, more))
    ]

pub count-let_go-le : (p : Entry → Bool) (r : ℕ) (hs : List Entry) → count p (let_go r hs) ≤ count p hs
count-let_go-le p r [] = omega arith
count-let_go-le p r (x ∷ hs) =
    elim (cases_Bool (takes_up r x)) [
      | inl here ↦ rw here (omega (arith, count-cons p x hs))
      | inr away ↦ rw away (omega (arith, count-let_go-le p r hs, count-cons p x (let_go r hs), count-cons p x hs))
    ]

-- TESTS

-- the entry is an emission of v of index k
abbrev pub emits_at : ℕ → ℕ → Entry → Bool
emits_at v k (Emit w m j why) = eqb w v && eqb j k
emits_at v k _ = false

-- the entry is an Accept at c of index k, or an offer to it
abbrev pub accepts_at : ℕ → ℕ → Entry → Bool
accepts_at c k (Accept w m j) = eqb w c && eqb j k
accepts_at c k _ = false

-- the entry is an Accept or a Full at c of index k, or an offer to it
abbrev pub arrives_at : ℕ → ℕ → Entry → Bool
arrives_at c k (Accept w m j) = eqb w c && eqb j k
arrives_at c k (Full w m j) = eqb w c && eqb j k
arrives_at c k _ = false

pub arrives-le : (c k : ℕ) (es : List Entry) → count (accepts_at c k) es ≤ count (arrives_at c k) es
arrives-le c k [] = omega arith
arrives-le c k (Accept w m j ∷ es) =
    omega (arith, arrives-le c k es, count-cons (accepts_at c k) (Accept w m j) es, count-cons (arrives_at c k) (Accept w m j) es)
arrives-le c k (Full w m j ∷ es) = omega (arith, arrives-le c k es, count-cons (arrives_at c k) (Full w m j) es)
arrives-le c k (_ ∷ es) = arrives-le c k es

abbrev pub puts_at : ℕ → ℕ → Entry → Bool
puts_at v k (Put r w m j f) = eqb w v && eqb j k
puts_at v k _ = false

-- the entry is a put at v of an array that passes the test
abbrev pub puts_of : ℕ → (FrameName → Bool) → Entry → Bool
puts_of v t (Put r w m j f) = eqb w v && t (frame m j)
puts_of v t _ = false

abbrev pub takes_at : ℕ → ℕ → Entry → Bool
takes_at v k (Take r w m j) = eqb w v && eqb j k
takes_at v k (TakeBlock f x r w m j b n g) = eqb w v && eqb j k
takes_at v k _ = false

-- the entry takes an array of index k out of the queue of v
abbrev pub leaves_at : ℕ → ℕ → Entry → Bool
leaves_at v k (Take r w m j) = eqb w v && eqb j k
leaves_at v k (TakeBlock f x r w m j b n g) = eqb w v && eqb j k
leaves_at v k (PoolDrop r w m j n h) = eqb w v && eqb j k
leaves_at v k _ = false

pub takes-le : (v k : ℕ) (es : List Entry) → count (takes_at v k) es ≤ count (leaves_at v k) es
takes-le v k [] = omega arith
takes-le v k (Take r w m j ∷ es) = omega (arith, takes-le v k es, count-cons (takes_at v k) (Take r w m j) es, count-cons (leaves_at v k) (Take r w m j) es)
takes-le v k (TakeBlock f x r w m j b n g ∷ es) =
    omega (arith, takes-le v k es, count-cons (takes_at v k) (TakeBlock f x r w m j b n g) es, count-cons (leaves_at v k) (TakeBlock f x r w m j b n g) es)
takes-le v k (PoolDrop r w m j n h ∷ es) = omega (arith, takes-le v k es, count-cons (leaves_at v k) (PoolDrop r w m j n h) es)
takes-le v k (_ ∷ es) = takes-le v k es

abbrev pub loads_at : ℕ → Entry → Bool
loads_at k (Load r j b n f g x) = eqb j k
loads_at k _ = false

-- WHAT WAS OWED

next-nothing : (s : Setting) (P : Past) (e : Entry) → ((d : Entry) → answers s P e d ≡ false) → (ds : List Entry) → next s P e ds ≡ true → ds ≡ []
next-nothing s P e never [] h = refl
next-nothing s P e never (d ∷ ds) h = absurd (true≢false (sym h ∙ never d))

-- before the first entry of a move nothing was owed
pub owed-first : (s : Setting) (e : Entry) (P : Past) → ((d : Entry) → answers s P e d ≡ false) → is_legal s (e ∷ P) ≡ true → owed s P ≡ []
owed-first s e P never h = next-nothing s P e never (owed s P) (and_parts _ _ h).1

pub record Answered (s : Setting) (P : Past) (e : Entry) (ds : List Entry) : Type 0 where
  pub head : Entry
  pub rest : List Entry
  pub is : ds ≡ head ∷ rest
  pub answer : answers s P e head ≡ true

next-answers : (s : Setting) (P : Past) (e : Entry) → first s P e ≡ false → (ds : List Entry) → next s P e ds ≡ true → Answered s P e ds
next-answers s P e never [] h = absurd (true≢false (sym h ∙ never))
next-answers s P e never (d ∷ ds) h = record { head = d; rest = ds; is = refl; answer = h }

-- before any other entry something was owed, and it answers this
pub owed-answered : (s : Setting) (e : Entry) (P : Past) → first s P e ≡ false → is_legal s (e ∷ P) ≡ true → Answered s P e (owed s P)
owed-answered s e P never h = next-answers s P e never (owed s P) (and_parts _ _ h).1

three-same : (a b c x y z : ℕ) → (eqb a x && eqb b y && eqb c z) ≡ true → (a ≡ x) × (b ≡ y) × (c ≡ z)
three-same a b c x y z h =
    let p = and_parts (eqb a x && eqb b y) (eqb c z) h in
    let q = and_parts (eqb a x) (eqb b y) p.0 in
    (eqb-true a x q.0, eqb-true b y q.1, eqb-true c z p.1)

emit-same : (w n j v m k : ℕ) (how : Why) → (w ≡ v) × (n ≡ m) × (j ≡ k) → Emit w n j how ≡ Emit v m k how
emit-same w n j v m k how h = let a : w ≡ v = h.0 in let b : n ≡ m = h.1 in let c : j ≡ k = h.2 in cc

accept-same : (w n j v m k : ℕ) → (w ≡ v) × (n ≡ m) × (j ≡ k) → Accept w n j ≡ Accept v m k
accept-same w n j v m k h = let a : w ≡ v = h.0 in let b : n ≡ m = h.1 in let c : j ≡ k = h.2 in cc

drop-same : (w n j v m k : ℕ) → (w ≡ v) × (n ≡ m) × (j ≡ k) → SortDrop w n j ≡ SortDrop v m k
drop-same w n j v m k h = let a : w ≡ v = h.0 in let b : n ≡ m = h.1 in let c : j ≡ k = h.2 in cc

-- an offer is wanted as an Accept or a Full, and so no other entry answers it
offer-other : (s : Setting) (P : Past) (e : Entry) (c n j : ℕ) → is_such e (Accept c n j) ≡ false → is_such e (Full c n j) ≡ false
    → answers s P e (Accept c n j) ≡ false
offer-other s P e c n j a b =
    elim (cases_Bool (has_room s P c)) [ inl room ↦ rw room a | inr full ↦ rw full b ]

pub answers-by_Emit : (s : Setting) (P : Past) (v m k : ℕ) (why : Why) (d : Entry) → answers s P (Emit v m k why) d ≡ true → (how : Why) × (d ≡ Emit v m k how)
answers-by_Emit s P v m k why (Emit w n j how) h = (how, emit-same w n j v m k how (three-same w n j v m k (and_parts (eqb w v && eqb n m && eqb j k) _ h).0))
answers-by_Emit s P v m k why (Accept c n j) h = absurd (true≢false (sym h ∙ offer-other s P (Emit v m k why) c n j refl refl))
answers-by_Emit s P v m k why _ h = absurd (false≢true h)

pub answers-by_Accept : (s : Setting) (P : Past) (v m k : ℕ) (d : Entry) → answers s P (Accept v m k) d ≡ true → d ≡ Accept v m k
answers-by_Accept s P v m k (Accept c n j) h =
    elim (cases_Bool (has_room s P c)) [
      | inl room ↦ accept-same c n j v m k (three-same c n j v m k (rw room at h))
      | inr full ↦ absurd (false≢true (rw full at h))
    ]
answers-by_Accept s P v m k _ h = absurd (false≢true h)

pub answers-by_SortDrop : (s : Setting) (P : Past) (v m k : ℕ) (d : Entry) → answers s P (SortDrop v m k) d ≡ true → d ≡ SortDrop v m k
answers-by_SortDrop s P v m k (SortDrop c n j) h = drop-same c n j v m k (three-same c n j v m k h)
answers-by_SortDrop s P v m k (Accept c n j) h = absurd (true≢false (sym h ∙ offer-other s P (SortDrop v m k) c n j refl refl))
answers-by_SortDrop s P v m k _ h = absurd (false≢true h)

pub answers-by_Tick : (s : Setting) (P : Past) (t : ℕ) (d : Entry) → answers s P (Tick t) d ≡ true → (u : ℕ) × (d ≡ Tick u)
answers-by_Tick s P t (Tick u) h = (u, refl)
answers-by_Tick s P t (Accept c n j) h = absurd (true≢false (sym h ∙ offer-other s P (Tick t) c n j refl refl))
answers-by_Tick s P t _ h = absurd (false≢true h)

-- what a Full answers is of its node and index
pub answers-by_Full : (s : Setting) (P : Past) (v m k c j : ℕ) (d : Entry) → answers s P (Full v m k) d ≡ true → arrives_at c j d ≡ arrives_at c j (Full v m k)
answers-by_Full s P v m k c j (Accept w n i) h =
    elim (cases_Bool (has_room s P w)) [
      | inl room ↦ absurd (false≢true (rw room at h))
      | inr full ↦ let p = three-same w n i v m k (rw full at h) in ap (λ (x : ℕ). eqb x c && eqb i j) p.0 ∙ ap (λ (x : ℕ). eqb v c && eqb x j) p.2
    ]
answers-by_Full s P v m k c j (Full w n i) h =
    let p = three-same w n i v m k h in ap (λ (x : ℕ). eqb x c && eqb i j) p.0 ∙ ap (λ (x : ℕ). eqb v c && eqb x j) p.2
answers-by_Full s P v m k c j _ h = absurd (false≢true h)
