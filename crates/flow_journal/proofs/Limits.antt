-- With a limit the known blocks are within it: what is given up makes room for the new block, and no more than is needed.
use Rattle.std.proofs.Common.{◌≡◌, ◌≢◌, ℕ, zero, suc, ◌+◌, ◌-◌, ◌≤◌, ◌<◌, Bool, true, false, not, ◌&&◌, cond, eqb, ltb, List, [], ◌∷◌, ◌++◌, length, take}
use Rattle.std.proofs.Common.{drop, refl, sym, ap, ◌∙◌, subst, arith, Option, Some, None, inl, inr, ◌⊎◌, append_assoc}
use Rattle.std.specs.Prelude.{filter, reverse}
use Rattle.std.proofs.lemmas.Bool.{and_parts, true≢false, eq-eqb, ne_eqb, ltb-true, ltb-false, lt-ltb, or_left, or_right, cases_Bool}
use Rattle.std.proofs.lemmas.List.{reverse-append, take-append-drop}
use Rattle.std.proofs.lemmas.List.Sums.{sum_by-cons}
use Rattle.pool_ledger.specs.Grants.{Block, sizes, comes_first, placed, in_order, free_in_order, smallest_fit, largest_free, has_number, left_after}
use Rattle.pool_ledger.specs.Grants.{known_after, passes, count_to_give, given_up, Refused, Granted, fit_or_fresh, granted}
use Rattle.flow_journal.specs.declared.entry.Entry.TheVariants.{Load, TakeBlock}
use Rattle.flow_journal.specs.Setting.{Setting, is_maker}
use Rattle.flow_journal.specs.Pasts.{Past, frame}
use Rattle.flow_journal.specs.Accounts.{refs, is_unplaced, known, held}
use Rattle.flow_journal.specs.FirstEntries.{may_load, may_take, pool_grants}
use Rattle.flow_journal.specs.Histories.{is_legal}
use Rattle.flow_journal.specs.LimitLaws.{LimitLaws}
use Rattle.flow_journal.proofs.Hands.{row_of}
use Rattle.flow_journal.proofs.Grants.{granted-is}

-- SIZES

abbrev one_size : Bool → Block → ℕ
one_size true b = b.size
one_size false b = 0

-- the sizes of those that pass the test
abbrev sizes_of : (Block → Bool) → List Block → ℕ
sizes_of p bs = sizes (filter p bs)

sizes-cons : (b : Block) (bs : List Block) → sizes (b ∷ bs) ≡ b.size + sizes bs
sizes-cons b bs = sum_by-cons (λ (x : Block). x.size) b bs

sizes_of-cons : (p : Block → Bool) (b : Block) (bs : List Block) → sizes_of p (b ∷ bs) ≡ one_size (p b) b + sizes_of p bs
sizes_of-cons p b bs =
    elim (p b) as (λ c. sizes (cond c (b ∷ filter p bs) (filter p bs)) ≡ one_size c b + sizes_of p bs) [
      | true ↦ sizes-cons b (filter p bs)
      | false ↦ omega arith
    ]

sizes_of-le : (p : Block → Bool) (bs : List Block) → sizes_of p bs ≤ sizes bs
sizes_of-le p [] = omega arith
sizes_of-le p (b ∷ bs) = omega (arith, sizes_of-le p bs, sizes_of-cons p b bs, sizes-cons b bs, one-le (p b))
  where
    one-le : (c : Bool) → one_size c b ≤ b.size
    one-le true = omega arith
    one-le false = omega arith

sizes-append : (xs ys : List Block) → sizes (xs ++ ys) ≡ sizes xs + sizes ys
sizes-append [] ys = omega arith
sizes-append (x ∷ xs) ys = omega (arith, sizes-append xs ys, sizes-cons x (xs ++ ys), sizes-cons x xs)

sizes_of-append : (p : Block → Bool) (xs ys : List Block) → sizes_of p (xs ++ ys) ≡ sizes_of p xs + sizes_of p ys
sizes_of-append p [] ys = omega arith
sizes_of-append p (x ∷ xs) ys = omega (arith, sizes_of-append p xs ys, sizes_of-cons p x (xs ++ ys), sizes_of-cons p x xs)

sizes_of-placed : (p : Block → Bool) (b : Block) (cs : List Block) → sizes_of p (placed b cs) ≡ one_size (p b) b + sizes_of p cs
sizes_of-placed p b [] = sizes_of-cons p b []
sizes_of-placed p b (c ∷ cs) =
    elim (comes_first c b) as (λ x. sizes_of p (cond x (c ∷ placed b cs) (b ∷ c ∷ cs)) ≡ one_size (p b) b + sizes_of p (c ∷ cs)) [
      | true ↦ omega (arith, sizes_of-placed p b cs, sizes_of-cons p c (placed b cs), sizes_of-cons p c cs)
      | false ↦ sizes_of-cons p b (c ∷ cs)
    ]

sizes_of-in_order : (p : Block → Bool) (bs : List Block) → sizes_of p (in_order bs) ≡ sizes_of p bs
sizes_of-in_order p [] = refl
sizes_of-in_order p (b ∷ bs) = omega (arith, sizes_of-placed p b (in_order bs), sizes_of-in_order p bs, sizes_of-cons p b bs)

sizes_of-reverse : (p : Block → Bool) (bs : List Block) → sizes_of p (reverse bs) ≡ sizes_of p bs
sizes_of-reverse p [] = refl
sizes_of-reverse p (b ∷ bs) =
    ap (sizes_of p) (reverse-append (b ∷ []) bs)
    ∙ omega (arith, sizes_of-append p (reverse bs) (b ∷ []), sizes_of-reverse p bs, sizes_of-cons p b bs, sizes_of-cons p b [])

abbrev any_block : Block → Bool
any_block b = true

sizes_of-any : (bs : List Block) → sizes_of any_block bs ≡ sizes bs
sizes_of-any [] = refl
sizes_of-any (b ∷ bs) = omega (arith, sizes_of-any bs, sizes-cons b bs, sizes-cons b (filter any_block bs))

-- a test parts the sizes
parted : (p q : Block → Bool) (bs : List Block) → sizes_of p (filter q bs) + sizes_of p (filter (λ b. not (q b)) bs) ≡ sizes_of p bs
parted p q [] = refl
parted p q (b ∷ bs) =
    elim (cases_Bool (q b)) [
      | inl in_q ↦ rw in_q (omega (arith, parted p q bs, sizes_of-cons p b (filter q bs), sizes_of-cons p b bs))
      | inr off_q ↦ rw off_q (omega (arith, parted p q bs, sizes_of-cons p b (filter (λ c. not (q c)) bs), sizes_of-cons p b bs))
    ]

-- WHAT IS LEFT

has-last : (ys xs : List Block) (b : Block) → has_number b.number (ys ++ b ∷ xs) ≡ true
has-last [] xs b = or_left (eqb b.number b.number) (has_number b.number xs) (eq-eqb b.number b.number refl)
has-last (y ∷ ys) xs b = or_right (eqb y.number b.number) (has_number b.number (ys ++ b ∷ xs)) (has-last ys xs b)

abbrev not_among : List Block → Block → Bool
not_among gone b = not (has_number b.number gone)

-- of these nothing is left
none_left : (ys xs : List Block) → sizes_of (not_among (ys ++ xs)) xs ≡ 0
none_left ys [] = refl
none_left ys (b ∷ xs) =
    let out : not_among (ys ++ b ∷ xs) b ≡ false = ap not (has-last ys xs b) in
    let rest : sizes_of (not_among (ys ++ b ∷ xs)) xs ≡ 0 =
    subst (λ (zs : List Block). sizes_of (not_among zs) xs ≡ 0) (append_assoc ys (b ∷ []) xs) (none_left (ys ++ b ∷ []) xs) in
    omega (arith, rest, sizes_of-cons (not_among (ys ++ b ∷ xs)) b xs, ap (λ (c : Bool). one_size c b) out)

abbrev order : (ℕ → Bool) → List Block → List Block
order is_free bs = reverse (free_in_order is_free bs)

abbrev held_ones : (ℕ → Bool) → List Block → List Block
held_ones is_free bs = filter (λ b. not (is_free b.number)) bs

-- the free ones and the others are all
all_sizes : (is_free : ℕ → Bool) (bs : List Block) → sizes (order is_free bs) + sizes (held_ones is_free bs) ≡ sizes bs
all_sizes is_free bs =
    let free : List Block = filter (λ (b : Block). is_free b.number) bs in
    omega (
      arith,
      sizes_of-any (order is_free bs),
      sizes_of-any (held_ones is_free bs),
      sizes_of-any bs,
      sizes_of-reverse any_block (in_order free),
      sizes_of-in_order any_block free,
      parted any_block (λ (b : Block). is_free b.number) bs,
    )

-- what is left are the free ones that aren't given up, and the others
left-le : (k : ℕ) (is_free : ℕ → Bool) (bs : List Block) → sizes (left_after k is_free bs) ≤ sizes (drop k (order is_free bs)) + sizes (held_ones is_free bs)
left-le k is_free bs =
    let gone : List Block = largest_free k is_free bs in
    let p : Block → Bool = not_among gone in
    let free : List Block = filter (λ (b : Block). is_free b.number) bs in
    let rest : List Block = drop k (order is_free bs) in
    let split : sizes_of p (order is_free bs) ≡ sizes_of p (gone ++ rest) = ap (sizes_of p) (sym (take-append-drop k (order is_free bs))) in
    omega (
      arith,
      parted p (λ (b : Block). is_free b.number) bs,
      sizes_of-in_order p free,
      sizes_of-reverse p (in_order free),
      split,
      sizes_of-append p gone rest,
      none_left [] gone,
      sizes_of-le p rest,
      sizes_of-le p (held_ones is_free bs),
    )

-- HOW MANY ARE GIVEN UP

over : (limit bytes : ℕ) → passes limit bytes ≡ true → limit < bytes
over limit bytes h = ltb-true limit bytes (and_parts (not (eqb limit 0)) (ltb limit bytes) h).1

not_over : (limit bytes : ℕ) → limit ≢ 0 → passes limit bytes ≡ false → bytes ≤ limit
not_over limit bytes some h =
    elim (cases_Bool (ltb limit bytes)) [
      | inl more ↦ absurd (true≢false (sym (ap (λ (c : Bool). not c && ltb limit bytes) (ne_eqb limit 0 some) ∙ more) ∙ h))
      | inr less ↦ ltb-false limit bytes less
    ]

next : (n : ℕ) → n + 1 ≡ suc n
next n = omega arith

give-fits : (limit n standing : ℕ) (xs : List Block) → limit ≢ 0 → sizes xs ≤ standing
    → (standing + n ≤ limit + sizes (take (count_to_give limit n standing xs) xs)) ⊎ (count_to_give limit n standing xs ≡ length xs)
give-fits limit n standing [] some h = inr refl
give-fits limit n standing (b ∷ bs) some h =
    let rest : ℕ = count_to_give limit n (standing - b.size) bs in
    let both = sizes-cons b bs in
    elim (cases_Bool (passes limit (standing + n))) [
      | inr within ↦ inl (rw within (omega (arith, not_over limit (standing + n) some within)))
      | inl too_much ↦ elim (give-fits limit n (standing - b.size) bs some (omega (arith, both, h))) [
        | inl fits ↦ inl (rw (too_much, next rest) (omega (arith, fits, both, h, sizes-cons b (take rest bs))))
        | inr all ↦ inr (rw (too_much, next rest) (ap suc all))
      ]
    ]

give-needed : (limit n standing j : ℕ) (xs : List Block) → sizes xs ≤ standing → j < count_to_give limit n standing xs
    → limit + sizes (take j xs) < standing + n
give-needed limit n standing j [] h less = absurd (omega (arith, less))
give-needed limit n standing zero (b ∷ bs) h less =
    elim (cases_Bool (passes limit (standing + n))) [
      | inl too_much ↦ omega (arith, over limit (standing + n) too_much)
      | inr within ↦ let none : 0 < 0 = rw within at less in absurd (omega (arith, none))
    ]
give-needed limit n standing (suc j) (b ∷ bs) h less =
    let both = sizes-cons b bs in
    elim (cases_Bool (passes limit (standing + n))) [
      | inl too_much ↦
          let before : suc j < count_to_give limit n (standing - b.size) bs + 1 = rw too_much at less in
          omega (arith, give-needed limit n (standing - b.size) j bs (omega (arith, both, h)) (omega (arith, before)), both, h, sizes-cons b (take j bs))
      | inr within ↦ let none : suc j < 0 = rw within at less in absurd (omega (arith, none))
    ]

needed : (limit n j : ℕ) (is_free : ℕ → Bool) (bs : List Block) → j < given_up limit n is_free bs → limit + sizes (largest_free j is_free bs) < sizes bs + n
needed limit n j is_free bs less = give-needed limit n (sizes bs) j (order is_free bs) (omega (arith, all_sizes is_free bs)) less

drop_all : (xs : List Block) → drop (length xs) xs ≡ []
drop_all [] = refl
drop_all (x ∷ xs) = drop_all xs

-- so with a limit a new block finds room
fresh-fits : (limit n : ℕ) (is_free : ℕ → Bool) (bs : List Block) → limit ≢ 0 → sizes (held_ones is_free bs) + n ≤ limit
    → n + sizes (left_after (given_up limit n is_free bs) is_free bs) ≤ limit
fresh-fits limit n is_free bs some low =
    let k : ℕ = given_up limit n is_free bs in
    let xs : List Block = order is_free bs in
    let all = all_sizes is_free bs in
    let split : sizes (take k xs) + sizes (drop k xs) ≡ sizes xs = sym (sizes-append (take k xs) (drop k xs)) ∙ ap sizes (take-append-drop k xs) in
    elim (give-fits limit n (sizes bs) xs some (omega (arith, all))) [
      | inl fits ↦ omega (arith, left-le k is_free bs, fits, split, all)
      | inr every ↦
          let none : sizes (drop k xs) ≡ 0 = ap (λ (j : ℕ). sizes (drop j xs)) every ∙ ap sizes (drop_all xs) in
          omega (arith, left-le k is_free bs, none, low)
    ]

-- GRANTS

fit-within : (limit n b size : ℕ) (fresh : Bool) (given : ℕ) (is_free : ℕ → Bool) (bs : List Block) (o : Option Block) → limit ≢ 0
    → sizes (held_ones is_free bs) + n ≤ limit → sizes bs ≤ limit → fit_or_fresh limit n is_free bs o ≡ Granted b size fresh given
    → sizes (known_after is_free (Granted b size fresh given) bs) ≤ limit
fit-within limit n b size fresh given is_free bs (Some c) some low before h =
    let old : false ≡ fresh = cc in
    subst (λ (f : Bool). sizes (known_after is_free (Granted b size f given) bs) ≤ limit) old before
fit-within limit n b size fresh given is_free bs None some low before h =
    let new : true ≡ fresh = cc in
    let bytes : n ≡ size = cc in
    let gave : given_up limit n is_free bs ≡ given = cc in
    let room : n + sizes (left_after given is_free bs) ≤ limit =
    subst (λ (k : ℕ). n + sizes (left_after k is_free bs) ≤ limit) gave (fresh-fits limit n is_free bs some low) in
    subst (λ (f : Bool). sizes (known_after is_free (Granted b size f given) bs) ≤ limit) new
    (omega (arith, room, bytes, sizes-cons (record { number = b; size = size }) (left_after given is_free bs)))

granted-within : (limit n held b size : ℕ) (fresh : Bool) (given : ℕ) (is_free : ℕ → Bool) (bs : List Block) → limit ≢ 0 → sizes (held_ones is_free bs) ≡ held
    → sizes bs ≤ limit → granted limit n held is_free bs ≡ Granted b size fresh given → sizes (known_after is_free (Granted b size fresh given) bs) ≤ limit
granted-within limit n held b size fresh given is_free bs some is before h =
    elim (cases_Bool (passes limit (held + n))) [
      | inl too_much ↦ let never : Refused ≡ Granted b size fresh given = rw too_much at h in cc
      | inr within ↦
          let fits : fit_or_fresh limit n is_free bs (smallest_fit n is_free bs) ≡ Granted b size fresh given = rw within at h in
          let low : sizes (held_ones is_free bs) + n ≤ limit = omega (arith, is, not_over limit (held + n) some within) in
          fit-within limit n b size fresh given is_free bs (smallest_fit n is_free bs) some low before fits
    ]

-- a block is held where it has a place
placed-not_free : (r : ℕ) → ltb 0 r ≡ not (eqb r 0)
placed-not_free zero = refl
placed-not_free (suc r) = lt-ltb 0 (suc r) (omega arith) ∙ sym (ap not (ne_eqb (suc r) 0 (λ e. absurd (omega (arith, e)))))

same_filter : (p q : Block → Bool) → ((b : Block) → p b ≡ q b) → (bs : List Block) → filter p bs ≡ filter q bs
same_filter p q same [] = refl
same_filter p q same (b ∷ bs) =
    ap (λ (c : Bool). cond c (b ∷ filter p bs) (filter p bs)) (same b) ∙ ap (λ (cs : List Block). cond (q b) (b ∷ cs) cs) (same_filter p q same bs)

held-is : (s : Setting) (P : Past) → sizes (held_ones (is_unplaced s P) (known s P)) ≡ held s P
held-is s P =
    sym (ap sizes (same_filter (λ (b : Block). ltb 0 (refs s P b.number)) (λ (b : Block). not (is_unplaced s P b.number))
    (λ b. placed-not_free (refs s P b.number)) (known s P)))

grants-within : (s : Setting) (m b n : ℕ) (f : Bool) (g : ℕ) (x : Bool) (P : Past) → s.pooled ≡ true → s.limit ≢ 0 → pool_grants s m b n f g x P ≡ true
    → sizes (known s P) ≤ s.limit → sizes (known_after (is_unplaced s P) (Granted b n f g) (known s P)) ≤ s.limit
grants-within s m b n f g x P pooled some h before =
    granted-within s.limit (s.need m) (held s P) b n f g (is_unplaced s P) (known s P) some (held-is s P) before (granted-is s m b n f g x P pooled h)

within : (s : Setting) (P : Past) → s.pooled ≡ true → s.limit ≢ 0 → is_legal s P ≡ true → sizes (known s P) ≤ s.limit
within s [] pooled some h = omega arith
within s (Load r k b n f g x ∷ P) pooled some h =
    grants-within s 0 b n f g x P pooled some (and_parts (may_load s r k P) (pool_grants s 0 b n f g x P) (row_of s (Load r k b n f g x) P (λ d. refl) h)).1
    (within s P pooled some (and_parts _ _ h).0)
within s (TakeBlock f x r v m k b n g ∷ P) pooled some h =
    grants-within s v b n f g x P pooled some (and_parts (may_take s r v (frame m k) P && is_maker s v) (pool_grants s v b n f g x P)
    (row_of s (TakeBlock f x r v m k b n g) P (λ d. refl) h)).1 (within s P pooled some (and_parts _ _ h).0)
within s (_ ∷ P) pooled some h = within s P pooled some (and_parts _ _ h).0

pub limit_laws : LimitLaws
limit_laws = record { within = within; needed = needed }
