-- How grants and places change the known blocks and the bytes that are held.
use Rattle.std.proofs.Common.{◌≡◌, ◌≢◌, ℕ, ◌+◌, ◌≤◌, ◌<◌, Bool, true, false, not, ◌&&◌, cond, eqb, ltb, leb, List, [], ◌∷◌, refl, sym, ap, ◌∙◌, subst}
use Rattle.std.proofs.Common.{arith, Option, Some, None, inl, inr}
use Rattle.std.specs.Prelude.{filter, map}
use Rattle.std.specs.List.{list_all}
use Rattle.std.proofs.lemmas.Bool.{and_parts, and_from, eq-eqb, ne_eqb, eqb-true, eqb-false, cases_Bool, true≢false, false≢true, not-true, not_from_false}
use Rattle.std.proofs.lemmas.Bool.{lt-ltb, ltb-true}
use Rattle.std.proofs.lemmas.List.Sums.{sum_by-cons}
use Rattle.std.proofs.lemmas.List.Elements.{filter_agree}
use Rattle.pool_ledger.specs.Grants.{Block, sizes, has_number, passes, smallest_fit, largest_free, free_in_order, left_after, given_up, new_number, Refused}
use Rattle.pool_ledger.specs.Grants.{Granted, fit_or_fresh, granted, known_after}
use Rattle.flow_journal.specs.declared.entry.Entry.{Entry}
use Rattle.flow_journal.specs.declared.entry.Entry.TheVariants.{Load, TakeBlock}
use Rattle.flow_journal.specs.Setting.{Setting}
use Rattle.flow_journal.specs.Pasts.{Past}
use Rattle.flow_journal.specs.Accounts.{refs, is_unplaced, known, held, grant}
use Rattle.flow_journal.specs.FirstEntries.{may_load, may_take, pool_grants}
use Rattle.flow_journal.specs.Setting.{is_maker}
use Rattle.flow_journal.specs.Pasts.{frame}
use Rattle.flow_journal.specs.Histories.{is_legal}
use Rattle.flow_journal.specs.AccountLaws.{times_among, size_of, KnownLaws, HeldLaws}
use Rattle.flow_journal.proofs.EntryCounts.{count, bit, count-cons}
use Rattle.flow_journal.proofs.Found.{none_counted}
use Rattle.queue_sort.proofs.ById.{filter_inner}
use Rattle.flow_journal.proofs.Hands.{row_of}
use Rattle.flow_journal.proofs.Rows.{grant-facts}
use Rattle.flow_journal.proofs.Once.{least_missing-not_among}
use Rattle.flow_journal.proofs.Grants.{free_block, all_in_order, all_filtered, all_found, all_free, all_take, all_reverse, none_held, number-among, granted-is}
use Rattle.flow_journal.proofs.Places.{load-unplaced, take-unplaced}
use Rattle.flow_journal.proofs.AccountChanges.{count_laws, known_others}

-- GRANTS

-- a new block has a number that none of those left has
new-block : (limit n held b size given : ℕ) (is_free : ℕ → Bool) (bs : List Block) → granted limit n held is_free bs ≡ Granted b size true given
    → has_number b (left_after given is_free bs) ≡ false
new-block limit n held b size given is_free bs h =
    elim (cases_Bool (passes limit (held + n))) [
      | inl over ↦ let never : Refused ≡ Granted b size true given = rw over at h in cc
      | inr within ↦ of_fit (smallest_fit n is_free bs) (rw within at h)
    ]
  where
    of_fit : (o : Option Block) → fit_or_fresh limit n is_free bs o ≡ Granted b size true given → has_number b (left_after given is_free bs) ≡ false
    of_fit (Some c) e = cc
    of_fit None e =
        let as_many : given_up limit n is_free bs ≡ given = cc in
        let is : new_number (left_after (given_up limit n is_free bs) is_free bs) ≡ b = cc in
        let left : List Block = left_after (given_up limit n is_free bs) is_free bs in
        let missing : has_number (new_number left) left ≡ false =
        sym (number-among (new_number left) left) ∙ least_missing-not_among (map (λ (c : Block). c.number) left) in
        subst (λ (g : ℕ). has_number b (left_after g is_free bs) ≡ false) as_many (subst (λ (k : ℕ). has_number k left ≡ false) is missing)

-- and one that isn't new is the block that fits
old-block : (limit n held b size given : ℕ) (is_free : ℕ → Bool) (bs : List Block) → granted limit n held is_free bs ≡ Granted b size false given
    → (c : Block) × (smallest_fit n is_free bs ≡ Some c) × (c.number ≡ b) × (c.size ≡ size)
old-block limit n held b size given is_free bs h =
    elim (cases_Bool (passes limit (held + n))) [
      | inl over ↦ let never : Refused ≡ Granted b size false given = rw over at h in cc
      | inr within ↦ of_fit (smallest_fit n is_free bs) refl (rw within at h)
    ]
  where
    of_fit : (o : Option Block) → smallest_fit n is_free bs ≡ o → fit_or_fresh limit n is_free bs o ≡ Granted b size false given
        → (c : Block) × (smallest_fit n is_free bs ≡ Some c) × (c.number ≡ b) × (c.size ≡ size)
    of_fit (Some c) is e = (c, is, cc, cc)
    of_fit None is e = cc

-- NUMBERS

abbrev is_block : ℕ → Block → Bool
is_block k b = eqb b.number k

abbrev Distinct : List Block → Type 0
Distinct bs = (k : ℕ) → count (is_block k) bs ≤ 1

count-fewer : (p q : Block → Bool) (bs : List Block) → count p (filter q bs) ≤ count p bs
count-fewer p q [] = omega arith
count-fewer p q (b ∷ bs) =
    elim (cases_Bool (q b)) [
      | inl here ↦ rw here (omega (arith, count-cons p b (filter q bs), count-cons p b bs, count-fewer p q bs))
      | inr away ↦ rw away (omega (arith, count-cons p b bs, count-fewer p q bs))
    ]

with-new : (b n : ℕ) (left : List Block) → has_number b left ≡ false → Distinct left → Distinct (record { number = b; size = n } ∷ left)
with-new b n left none distinct k =
    elim (cases_Bool (eqb b k)) [
      | inl here ↦
          let none_left : count (is_block k) left ≡ 0 =
          none_counted (is_block k) left (subst (λ (j : ℕ). has_number j left ≡ false) (eqb-true b k here) none) in
          omega (arith, count-cons (is_block k) (record { number = b; size = n }) left, ap bit here, none_left)
      | inr away ↦ omega (arith, count-cons (is_block k) (record { number = b; size = n }) left, ap bit away, distinct k)
    ]

-- where blocks aren't accounted, no grant is new
not_new : (s : Setting) (m b n g : ℕ) (x : Bool) (P : Past) → s.pooled ≡ false → pool_grants s m b n true g x P ≡ true → false ≡ true
not_new s m b n g x P off h =
    let zeros : grant s P (s.need m) ≡ Granted 0 0 false 0 =
    ap (λ (c : Bool). cond c (granted s.limit (s.need m) (held s P) (is_unplaced s P) (known s P)) (Granted 0 0 false 0)) off in
    let is : Granted 0 0 false 0 ≡ Granted b n true g = sym zeros ∙ (grant-facts s m b n true g x P h).answer in
    cc

after-grant : (s : Setting) (m b n : ℕ) (f : Bool) (g : ℕ) (x : Bool) (P : Past) → pool_grants s m b n f g x P ≡ true → Distinct (known s P)
    → Distinct (known_after (is_unplaced s P) (Granted b n f g) (known s P))
after-grant s m b n false g x P h distinct = distinct
after-grant s m b n true g x P h distinct =
    elim (cases_Bool s.pooled) [
      | inl pooled ↦
          with-new b n (left_after g (is_unplaced s P) (known s P))
          (new-block s.limit (s.need m) (held s P) b n g (is_unplaced s P) (known s P) (granted-is s m b n true g x P pooled h))
          (λ k. omega (arith, distinct k, count-fewer (is_block k) (λ c. not (has_number c.number (largest_free g (is_unplaced s P) (known s P)))) (known s P)))
      | inr off ↦ absurd (false≢true (not_new s m b n g x P off h))
    ]

grant_of-load : (s : Setting) (r k b n : ℕ) (f : Bool) (g : ℕ) (x : Bool) (P : Past) → is_legal s (Load r k b n f g x ∷ P) ≡ true
    → pool_grants s 0 b n f g x P ≡ true
grant_of-load s r k b n f g x P h = (and_parts (may_load s r k P) (pool_grants s 0 b n f g x P) (row_of s (Load r k b n f g x) P (λ d. refl) h)).1

grant_of-take : (s : Setting) (r v m k b n : ℕ) (f : Bool) (g : ℕ) (x : Bool) (P : Past) → is_legal s (TakeBlock f x r v m k b n g ∷ P) ≡ true
    → pool_grants s v b n f g x P ≡ true
grant_of-take s r v m k b n f g x P h =
    (and_parts (may_take s r v (frame m k) P && is_maker s v) (pool_grants s v b n f g x P) (row_of s (TakeBlock f x r v m k b n g) P (λ d. refl) h)).1

known-distinct : (s : Setting) (P : Past) → is_legal s P ≡ true → Distinct (known s P)
known-distinct s [] h = λ k. omega arith
known-distinct s (Load r i b n f g x ∷ P) h = after-grant s 0 b n f g x P (grant_of-load s r i b n f g x P h) (known-distinct s P (and_parts _ _ h).0)
known-distinct s (TakeBlock f x r v m i b n g ∷ P) h =
    after-grant s v b n f g x P (grant_of-take s r v m i b n f g x P h) (known-distinct s P (and_parts _ _ h).0)
known-distinct s (_ ∷ P) h = known-distinct s P (and_parts _ _ h).0

-- SIZES

sizes-cons : (b : Block) (bs : List Block) → sizes (b ∷ bs) ≡ b.size + sizes bs
sizes-cons b bs = sum_by-cons (λ (c : Block). c.size) b bs

sizes-if : (c : Bool) (b : Block) (bs : List Block) → sizes (cond c (b ∷ bs) bs) ≡ cond c b.size 0 + sizes bs
sizes-if true b bs = sizes-cons b bs
sizes-if false b bs = omega arith

-- where the third test passes just what one of the first two does, and none passes both
sizes-split : (p q r : Block → Bool) → ((b : Block) → cond (r b) b.size 0 ≡ cond (p b) b.size 0 + cond (q b) b.size 0) → (bs : List Block)
    → sizes (filter r bs) ≡ sizes (filter p bs) + sizes (filter q bs)
sizes-split p q r parts [] = omega arith
sizes-split p q r parts (b ∷ bs) =
    omega (arith, sizes-if (p b) b (filter p bs), sizes-if (q b) b (filter q bs), sizes-if (r b) b (filter r bs), parts b, sizes-split p q r parts bs)

-- whether a block has a place
abbrev is_placed : Setting → Past → Block → Bool
is_placed s P b = ltb 0 (refs s P b.number)

one_more : (s : Setting) (P Q : Past) (c : ℕ) → known s Q ≡ known s P → ((b : ℕ) → b ≢ c → refs s Q b ≡ refs s P b) → refs s P c ≡ 0 → 0 < refs s Q c
    → held s Q ≡ held s P + size_of c (known s P)
one_more s P Q c same others none some =
    ap (λ (bs : List Block). sizes (filter (is_placed s Q) bs)) same ∙ sizes-split (is_placed s P) (is_block c) (is_placed s Q) parts (known s P)
  where
    parts : (b : Block) → cond (is_placed s Q b) b.size 0 ≡ cond (is_placed s P b) b.size 0 + cond (is_block c b) b.size 0
    parts b =
        elim (cases_Bool (is_block c b)) [
          | inl here ↦
              let is : b.number ≡ c = eqb-true b.number c here in
              let before : is_placed s P b ≡ false = ap (λ (n : ℕ). ltb 0 n) (ap (refs s P) is ∙ none) in
              let after : is_placed s Q b ≡ true = ap (λ (k : ℕ). ltb 0 (refs s Q k)) is ∙ lt-ltb 0 (refs s Q c) some in
              rw (here, before, after) (let e : b.size ≡ 0 + b.size = omega arith in e)
          | inr away ↦
              let unchanged : is_placed s Q b ≡ is_placed s P b = ap (λ (n : ℕ). ltb 0 n) (others b.number (eqb-false b.number c away)) in
              rw (away, unchanged) (let e : cond (is_placed s P b) b.size 0 ≡ cond (is_placed s P b) b.size 0 + 0 = omega arith in e)
        ]

-- THE SIZE OF A BLOCK

no_size : (k : ℕ) (bs : List Block) → count (is_block k) bs ≡ 0 → size_of k bs ≡ 0
no_size k [] h = omega arith
no_size k (b ∷ bs) h =
    elim (cases_Bool (is_block k b)) [
      | inl here ↦ absurd (omega (arith, h, count-cons (is_block k) b bs, ap bit here))
      | inr away ↦ rw away (no_size k bs (omega (arith, h, count-cons (is_block k) b bs)))
    ]

other_numbers : (k : ℕ) (bs : List Block) → count (is_block k) bs ≡ 0 → list_all (λ (b : Block). not (eqb k b.number)) bs ≡ true
other_numbers k [] h = refl
other_numbers k (b ∷ bs) h =
    elim (cases_Bool (eqb k b.number)) [
      | inl here ↦ absurd (omega (arith, h, count-cons (is_block k) b bs, ap bit (eq-eqb b.number k (sym (eqb-true k b.number here)))))
      | inr away ↦ and_from _ _ (not_from_false _ away) (other_numbers k bs (omega (arith, h, count-cons (is_block k) b bs)))
    ]

all_two : (p q r : Block → Bool) → ((b : Block) → p b ≡ true → q b ≡ true → r b ≡ true) → (bs : List Block) → list_all p bs ≡ true
    → list_all q bs ≡ true → list_all r bs ≡ true
all_two p q r both [] h g = refl
all_two p q r both (b ∷ bs) h g =
    let i = and_parts (p b) (list_all p bs) h in
    let j = and_parts (q b) (list_all q bs) g in
    and_from _ _ (both b i.0 j.0) (all_two p q r both bs i.1 j.1)

fewer-distinct : (b : Block) (bs : List Block) → Distinct (b ∷ bs) → Distinct bs
fewer-distinct b bs distinct k = omega (arith, distinct k, count-cons (is_block k) b bs)

-- each block of a list of distinct ones has the size of its number
all_sized : (bs : List Block) → Distinct bs → list_all (λ (b : Block). eqb (size_of b.number bs) b.size) bs ≡ true
all_sized [] distinct = refl
all_sized (d ∷ bs) distinct =
    let none : count (is_block d.number) bs ≡ 0 =
    omega (arith, distinct d.number, count-cons (is_block d.number) d bs, ap bit (eq-eqb d.number d.number refl)) in
    let own : cond (is_block d.number d) d.size 0 ≡ d.size = ap (λ (c : Bool). cond c d.size 0) (eq-eqb d.number d.number refl) in
    let here : size_of d.number (d ∷ bs) ≡ d.size =
    omega (arith, sizes-if (is_block d.number d) d (filter (is_block d.number) bs), own, no_size d.number bs none) in
    and_from _ _ (eq-eqb (size_of d.number (d ∷ bs)) d.size here)
    (all_two (λ b. not (eqb d.number b.number)) (λ b. eqb (size_of b.number bs) b.size) (λ b. eqb (size_of b.number (d ∷ bs)) b.size) later bs
    (other_numbers d.number bs none) (all_sized bs (fewer-distinct d bs distinct)))
  where
    later : (b : Block) → not (eqb d.number b.number) ≡ true → eqb (size_of b.number bs) b.size ≡ true → eqb (size_of b.number (d ∷ bs)) b.size ≡ true
    later b apart sized =
        let off : cond (is_block b.number d) d.size 0 ≡ 0 = ap (λ (c : Bool). cond c d.size 0) (not-true (eqb d.number b.number) apart) in
        eq-eqb (size_of b.number (d ∷ bs)) b.size
        (omega (arith, sizes-if (is_block b.number d) d (filter (is_block b.number) bs), off, eqb-true (size_of b.number bs) b.size sized))

fit-size : (n : ℕ) (is_free : ℕ → Bool) (bs : List Block) (c : Block) → Distinct bs → smallest_fit n is_free bs ≡ Some c → size_of c.number bs ≡ c.size
fit-size n is_free bs c distinct h =
    let sized : Block → Bool = λ b. eqb (size_of b.number bs) b.size in
    eqb-true (size_of c.number bs) c.size (all_found sized (λ b. leb n b.size) (free_in_order is_free bs) c
    (all_in_order sized (filter (λ b. is_free b.number) bs) (all_filtered sized (λ b. is_free b.number) bs (all_sized bs distinct))) h)

-- HELD

filter-where : (w p q : Block → Bool) → ((b : Block) → w b ≡ true → p b ≡ q b) → (bs : List Block) → list_all w bs ≡ true → filter p bs ≡ filter q bs
filter-where w p q agree [] h = refl
filter-where w p q agree (b ∷ bs) h =
    let i = and_parts (w b) (list_all w bs) h in
    ap (λ (c : Bool). cond c (b ∷ filter p bs) (filter p bs)) (agree b i.0) ∙ ap (λ (xs : List Block). cond (q b) (b ∷ xs) xs) (filter-where w p q agree bs i.1)

-- no block of a place is given up
kept-placed : (s : Setting) (g : ℕ) (P : Past) → filter (is_placed s P) (left_after g (is_unplaced s P) (known s P)) ≡ filter (is_placed s P) (known s P)
kept-placed s g P =
    let free : ℕ → Bool = is_unplaced s P in
    let given : List Block = largest_free g free (known s P) in
    let all_given : list_all (free_block free) given ≡ true =
    all_take (free_block free) g _ (all_reverse (free_block free) (free_in_order free (known s P)) (all_free free (known s P))) in
    filter_inner (is_placed s P) (λ c. not (has_number c.number given))
    (λ c placed. not_from_false _ (none_held free c.number given (placed_is_held c placed) all_given)) (known s P)
  where
    placed_is_held : (c : Block) → is_placed s P c ≡ true → is_unplaced s P c.number ≡ false
    placed_is_held c placed = ne_eqb (refs s P c.number) 0 (λ e. omega (arith, e, ltb-true 0 (refs s P c.number) placed))

among_other : (k b : ℕ) → k ≢ b → times_among k (b ∷ []) ≡ 0
among_other k b ne = omega (arith, count-cons (λ (c : ℕ). eqb c k) b [], ap bit (ne_eqb b k (λ e. ne (sym e))))

among_itself : (b : ℕ) → times_among b (b ∷ []) ≡ 1
among_itself b = omega (arith, count-cons (λ (c : ℕ). eqb c b) b [], ap bit (eq-eqb b b refl))

-- after a grant of b to e
held-grant : (s : Setting) (m b n : ℕ) (f : Bool) (g : ℕ) (x : Bool) (e : Entry) (P : Past) → s.pooled ≡ true → is_legal s P ≡ true
    → pool_grants s m b n f g x P ≡ true → known s (e ∷ P) ≡ known_after (is_unplaced s P) (Granted b n f g) (known s P)
    → ((k : ℕ) → refs s (e ∷ P) k ≡ refs s P k + times_among k (b ∷ [])) → refs s P b ≡ 0 → held s (e ∷ P) ≡ held s P + n
held-grant s m b n false g x e P pooled legal h knows more none =
    let c = old-block s.limit (s.need m) (held s P) b n g (is_unplaced s P) (known s P) (granted-is s m b n false g x P pooled h) in
    let size : size_of b (known s P) ≡ n =
    subst (λ (k : ℕ). size_of k (known s P) ≡ n) c.2 (fit-size (s.need m) (is_unplaced s P) (known s P) c.0 (known-distinct s P legal) c.1 ∙ c.3) in
    let grown = one_more s P (e ∷ P) b knows (λ k ne. omega (arith, more k, among_other k b ne)) none (omega (arith, more b, among_itself b)) in
    grown ∙ ap (λ (z : ℕ). held s P + z) size
held-grant s m b n true g x e P pooled legal h knows more none =
    let new : Block = record { number = b; size = n } in
    let left : List Block = left_after g (is_unplaced s P) (known s P) in
    let missing : has_number b left ≡ false =
    new-block s.limit (s.need m) (held s P) b n g (is_unplaced s P) (known s P) (granted-is s m b n true g x P pooled h) in
    let placed_new : is_placed s (e ∷ P) new ≡ true = lt-ltb 0 (refs s (e ∷ P) b) (omega (arith, more b, among_itself b)) in
    let others : filter (is_placed s (e ∷ P)) left ≡ filter (is_placed s P) left =
    filter-where (λ c. not (eqb b c.number)) (is_placed s (e ∷ P)) (is_placed s P) unchanged left
    (other_numbers b left (none_counted (is_block b) left missing)) in
    let whole : held s (e ∷ P) ≡ sizes (filter (is_placed s (e ∷ P)) (new ∷ left)) = ap (λ (bs : List Block). sizes (filter (is_placed s (e ∷ P)) bs)) knows in
    let own : cond (is_placed s (e ∷ P) new) n 0 ≡ n = ap (λ (c : Bool). cond c n 0) placed_new in
    omega (arith, whole, sizes-if (is_placed s (e ∷ P) new) new (filter (is_placed s (e ∷ P)) left), own, ap sizes others, ap sizes (kept-placed s g P))
  where
    unchanged : (c : Block) → not (eqb b c.number) ≡ true → is_placed s (e ∷ P) c ≡ is_placed s P c
    unchanged c apart =
        let ne : c.number ≢ b = λ i. true≢false (sym (eq-eqb b c.number (sym i)) ∙ not-true (eqb b c.number) apart) in
        ap (λ (k : ℕ). ltb 0 k) (omega (arith, more c.number, among_other c.number b ne))

pub known_laws : KnownLaws
known_laws = record {
  load = λ s r k b n f g x P. refl;
  take_block = λ s r v m k b n f g x P. refl;
  others = known_others;
  numbers = λ s b P h. known-distinct s P h b;
}

pub held_laws : HeldLaws
held_laws = record {
  load = λ s r k b n f g x P pooled h.
      held-grant s 0 b n f g x (Load r k b n f g x) P pooled (and_parts _ _ h).0 (grant_of-load s r k b n f g x P h) refl
      (λ c. count_laws.load s r k b n f g x P c h)
      (load-unplaced s P r k b n f g x pooled (and_parts _ _ h).0 (row_of s (Load r k b n f g x) P (λ d. refl) h));
  take_block = λ s r v m k b n f g x P pooled h.
      held-grant s v b n f g x (TakeBlock f x r v m k b n g) P pooled (and_parts _ _ h).0 (grant_of-take s r v m k b n f g x P h) refl
      (λ c. count_laws.take_block s r v m k b n f g x P c h)
      (take-unplaced s P r v m k b n f g x pooled (and_parts _ _ h).0 (row_of s (TakeBlock f x r v m k b n g) P (λ d. refl) h));
  same_places =
      λ s P Q same counts. ap (λ (bs : List Block). sizes (filter (is_placed s Q) bs)) same ∙ ap sizes (filter_agree _ _ (λ b. counts b.number) (known s P));
  one_more = one_more;
}
