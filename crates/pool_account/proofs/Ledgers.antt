-- What a ledger tells of its blocks, and what a change of holds leaves.
use Rattle.std.proofs.Common.{◌≡◌, ◌≢◌, ℕ, ◌+◌, ◌≤◌, ◌<◌, Bool, true, false, cond, eqb, ltb, List, [], ◌∷◌, length, map, refl, sym, ap, ◌∙◌, subst, arith}
use Rattle.std.proofs.Common.{inl, inr}
use Rattle.std.specs.Prelude.{filter, take, sum_by}
use Rattle.std.specs.List.{list_all}
use Rattle.std.proofs.lemmas.Bool.{and_parts, and_from, eq-eqb, ne_eqb, eqb-true, eqb-false, cases_Bool, cases_eq, true≢false, ltb-true}
use Rattle.std.proofs.lemmas.List.Sums.{sum_by-cons}
use Rattle.pool_ledger.specs.Grants.{Block, Answer, Refused, Granted, sizes, has_number, free_in_order, left_after, known_after}
use Rattle.pool_ledger.specs.GrantLaws.{SameBlocks, same_none, same_front, same_swap, same_trans, filter-same, left_after-same}
use Rattle.pool_ledger.specs.Ledger.{Known, Ledger, block_of, blocks, count_of, refs, is_free, held, largest_first, with_count, with_known, without}
use Rattle.pool_ledger.specs.Ledger.{with_refs, after}
use Rattle.pool_ledger.specs.LedgerLaws.{refs-with_refs_other}
use Rattle.flow_journal.specs.AccountLaws.{times_among}
use Rattle.flow_journal.proofs.EntryCounts.{count, bit, count-cons}
use Rattle.flow_journal.proofs.Grants.{free_block, all_free, all_reverse, all_take, none_held}

-- THE SAME BLOCKS

pub length-same : {bs cs : List Block} → SameBlocks bs cs → length bs ≡ length cs
length-same same_none = refl
length-same (same_front b bs cs h) = let rest = length-same h in omega arith
length-same (same_swap a b bs) = refl
length-same (same_trans bs cs ds h k) = length-same h ∙ length-same k

pub count-same : (test : Block → Bool) {bs cs : List Block} → SameBlocks bs cs → count test bs ≡ count test cs
count-same test h = length-same (filter-same test h)

-- no number is that of two of these blocks
abbrev pub AreApart : List Block → Type 0
AreApart bs = (b : ℕ) → count (λ (c : Block). eqb c.number b) bs ≤ 1

pub apart-same : {bs cs : List Block} → SameBlocks bs cs → AreApart bs → AreApart cs
apart-same h apart b = omega (arith, apart b, count-same (λ (c : Block). eqb c.number b) h)

apart-rest : (b : Block) (bs : List Block) → AreApart (b ∷ bs) → AreApart bs
apart-rest b bs apart k = omega (arith, apart k, count-cons (λ (c : Block). eqb c.number k) b bs)

pub known_after-same : (free : ℕ → Bool) (a : Answer) {bs cs : List Block} → SameBlocks bs cs → SameBlocks (known_after free a bs) (known_after free a cs)
known_after-same free Refused h = h
known_after-same free (Granted b n false given) h = h
known_after-same free (Granted b n true given) {bs} {cs} h =
    same_front (record { number = b; size = n }) (left_after given free bs) (left_after given free cs) (left_after-same given free h)

-- HELD

-- each block's count is what is told of its number
abbrev TellsCounts : (ℕ → ℕ) → List Known → Bool
TellsCounts counts ks = list_all (λ (k : Known). eqb (counts k.number) k.count) ks

tells-where : (f g : ℕ → ℕ) (b : ℕ) (ks : List Known) → ((k : ℕ) → k ≢ b → f k ≡ g k) → count (λ (c : Block). eqb c.number b) (map block_of ks) ≡ 0
    → TellsCounts g ks ≡ true → TellsCounts f ks ≡ true
tells-where f g b [] same none h = refl
tells-where f g b (k ∷ ks) same none h =
    let p = and_parts (eqb (g k.number) k.count) (TellsCounts g ks) h in
    let more = count-cons (λ (c : Block). eqb c.number b) (block_of k) (map block_of ks) in
    elim (cases_Bool (eqb k.number b)) [
      | inl here ↦ absurd (omega (arith, none, more, ap bit here))
      | inr away ↦
          and_from _ _ (ap (λ n. eqb n k.count) (same k.number (eqb-false k.number b away)) ∙ p.0) (tells-where f g b ks same (omega (arith, none, more)) p.1)
    ]

pub counts-tell : (ks : List Known) → AreApart (map block_of ks) → TellsCounts (count_of ks) ks ≡ true
counts-tell [] apart = refl
counts-tell (k ∷ ks) apart =
    let itself : eqb k.number k.number ≡ true = eq-eqb k.number k.number refl in
    let none : count (λ (c : Block). eqb c.number k.number) (map block_of ks) ≡ 0 =
    omega (arith, apart k.number, count-cons (λ (c : Block). eqb c.number k.number) (block_of k) (map block_of ks), ap bit itself) in
    and_from _ _ (eq-eqb (count_of (k ∷ ks) k.number) k.count (rw itself refl))
    (tells-where (count_of (k ∷ ks)) (count_of ks) k.number ks (λ j ne. rw (ne_eqb k.number j (λ e. ne (sym e))) refl) none
    (counts-tell ks (apart-rest (block_of k) (map block_of ks) apart)))

held-blocks : (counts : ℕ → ℕ) (ks : List Known) → TellsCounts counts ks ≡ true
    → sum_by (λ (k : Known). k.size) (filter (λ k. ltb 0 k.count) ks) ≡ sizes (filter (λ (b : Block). ltb 0 (counts b.number)) (map block_of ks))
held-blocks counts [] h = refl
held-blocks counts (k ∷ ks) h =
    let p = and_parts (eqb (counts k.number) k.count) (TellsCounts counts ks) h in
    let same : counts k.number ≡ k.count = eqb-true (counts k.number) k.count p.0 in
    let rest = held-blocks counts ks p.1 in
    elim (cases_Bool (ltb 0 k.count)) [
      | inl some ↦
          let has : ltb 0 (counts k.number) ≡ true = ap (ltb 0) same ∙ some in
          rw (some, has) (omega (
            arith,
            rest,
            sum_by-cons (λ (j : Known). j.size) k (filter (λ j. ltb 0 j.count) ks),
            sum_by-cons (λ (c : Block). c.size) (block_of k) (filter (λ c. ltb 0 (counts c.number)) (map block_of ks)),
          ))
      | inr none ↦ let lacks : ltb 0 (counts k.number) ≡ false = ap (ltb 0) same ∙ none in rw (none, lacks) rest
    ]

-- what is held, of the blocks
pub held-is : (p : Ledger) → AreApart (blocks p) → held p ≡ sizes (filter (λ (b : Block). ltb 0 (refs p b.number)) (blocks p))
held-is p apart = held-blocks (refs p) p.known (counts-tell p.known apart)

-- A GRANT

count_of-with_count : (b n : ℕ) (ks : List Known) → has_number b (map block_of ks) ≡ true → count_of (with_count b n ks) b ≡ n
count_of-with_count b n [] h = absurd (true≢false (sym h))
count_of-with_count b n (k ∷ ks) h =
    elim (cases_Bool (eqb k.number b)) [
      | inl here ↦ rw (here, here) refl
      | inr away ↦ rw (away, away) (count_of-with_count b n ks (rw away at h))
    ]

count_of-with_known : (new : Known) (ks : List Known) (c : ℕ) → count_of (with_known new ks) c ≡ cond (eqb new.number c) new.count (count_of ks c)
count_of-with_known new [] c = refl
count_of-with_known new (k ∷ ks) c =
    elim (cases_Bool (ltb k.number new.number)) [
      | inr placed ↦ rw placed refl
      | inl later ↦
          let rest = count_of-with_known new ks c in
          let less : k.number < new.number = ltb-true k.number new.number later in
          rw later (elim (cases_Bool (eqb k.number c)) [
            | inl here ↦
                let is : k.number ≡ c = eqb-true k.number c here in
                rw (here, ne_eqb new.number c (λ e. omega arith)) refl
            | inr away ↦ rw away rest
          ])
    ]

count_of-without : (gone : List Block) (ks : List Known) (c : ℕ) → count_of (without gone ks) c ≡ cond (has_number c gone) 0 (count_of ks c)
count_of-without gone [] c = elim (has_number c gone) as (λ t. ◌≡◌ {A = ℕ} 0 (cond t 0 0)) [ true ↦ refl | false ↦ refl ]
count_of-without gone (k ∷ ks) c =
    let rest = count_of-without gone ks c in
    elim (cases_Bool (eqb k.number c)) [
      | inl here ↦
          let is : has_number k.number gone ≡ has_number c gone = ap (λ n. has_number n gone) (eqb-true k.number c here) in
          elim (cases_Bool (has_number c gone)) [
            | inl out ↦ rw (is ∙ out, out) (rest ∙ ap (λ t. cond t 0 (count_of ks c)) out)
            | inr in_list ↦ rw (is ∙ in_list, here, in_list) refl
          ]
      | inr away ↦ elim (cases_Bool (has_number k.number gone)) [
        | inl out ↦ rw (out, away) rest
        | inr in_list ↦ rw (in_list, away) rest
      ]
    ]

-- none that is given up has a hold
given-free : (p : Ledger) (given c : ℕ) → has_number c (take given (largest_first p)) ≡ true → refs p c ≡ 0
given-free p given c h =
    elim (cases_Bool (is_free p c)) [
      | inl free ↦ eqb-true (refs p c) 0 free
      | inr kept ↦
          absurd (true≢false (sym h ∙ none_held (is_free p) c (take given (largest_first p)) kept (all_take (free_block (is_free p)) given (largest_first p)
          (all_reverse (free_block (is_free p)) (free_in_order (is_free p) (blocks p)) (all_free (is_free p) (blocks p))))))
    ]

pub one-among : (c b : ℕ) → times_among c (b ∷ []) ≡ bit (eqb b c)
one-among c b = omega (arith, count-cons (λ k. eqb k c) b [])

-- a granted block has one hold more, which is its first, and every other block as many as before
pub after-holds : (p : Ledger) (b n : ℕ) (f : Bool) (given c : ℕ) → refs p b ≡ 0
    → has_number b (known_after (is_free p) (Granted b n f given) (blocks p)) ≡ true
    → refs (after p (Granted b n f given)) c ≡ refs p c + times_among c (b ∷ [])
after-holds p b n false given c none known =
    elim (cases_eq c b) [
      | inl is ↦
          subst (λ k. refs (with_refs b 1 p) k ≡ refs p k + times_among k (b ∷ [])) (sym is)
          (omega (arith, count_of-with_count b 1 p.known known, none, one-among b b, ap bit (eq-eqb b b refl)))
      | inr ne ↦ omega (arith, refs-with_refs_other b 1 c p ne, one-among c b, ap bit (ne_eqb b c (λ e. ne (sym e))))
    ]
after-holds p b n true given c none known =
    let gone : List Block = take given (largest_first p) in
    let whole = count_of-with_known (record { number = b; size = n; count = 1 }) (without gone p.known) c in
    let left : count_of (without gone p.known) c ≡ refs p c = elim (cases_Bool (has_number c gone)) [
      | inl out ↦ count_of-without gone p.known c ∙ (ap (λ t. cond t 0 (refs p c)) out ∙ sym (given-free p given c out))
      | inr in_list ↦ count_of-without gone p.known c ∙ ap (λ t. cond t 0 (refs p c)) in_list
    ] in
    elim (cases_Bool (eqb b c)) [
      | inl is ↦ omega (arith, whole, ap (λ t. cond t 1 (count_of (without gone p.known) c)) is, one-among c b, ap bit is, ap (refs p) (eqb-true b c is), none)
      | inr ne ↦ omega (arith, whole, ap (λ t. cond t 1 (count_of (without gone p.known) c)) ne, left, one-among c b, ap bit ne)
    ]
