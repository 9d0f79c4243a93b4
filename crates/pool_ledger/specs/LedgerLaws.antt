-- What a change of holds leaves, and what room is for.
use Rattle.std.specs.Prelude.{◌≡◌, ◌≢◌, ℕ, ◌<◌, true, false, not, nat_lt, ◌==◌, List, [], ◌∷◌, filter, map, Ok, Err, refl}
use Rattle.std.proofs.Common.{inl, inr, ap, sym, ◌∙◌, arith}
use Rattle.std.proofs.lemmas.Bool.{eqb-true, ne_eqb, cases_Bool}
use Rattle.pool_ledger.specs.Grants.{Block, Answer, Refused, Granted, has_number, largest_free, left_after, known_after}
use Rattle.pool_ledger.specs.GrantLaws.{SameBlocks, same_front, same_swap, same_trans, same_itself, same_by}
use Rattle.pool_ledger.specs.Ledger.{Known, Ledger, block_of, blocks, refs, count_of, with_count, with_refs, with_known, without, is_free, answered}
use Rattle.pool_ledger.specs.Ledger.{needs_room, after}
use Rattle.pool_ledger.specs.declared.grants.Grant.{Grant}
use Rattle.pool_ledger.specs.declared.grants.Refused.{Refused as RefusedAnswer}

blocks-with_count : (b count : ℕ) (ks : List Known) → map block_of (with_count b count ks) ≡ map block_of ks
blocks-with_count b count [] = refl
blocks-with_count b count (k ∷ ks) =
    let rest = blocks-with_count b count ks in
    elim (cases_Bool (k.number == b)) [ inl t ↦ rw t (ap (λ bs. block_of k ∷ bs) rest) | inr f ↦ rw f (ap (λ bs. block_of k ∷ bs) rest) ]

-- a change of holds leaves the known blocks
pub blocks-with_refs : (b count : ℕ) (p : Ledger) → blocks (with_refs b count p) ≡ blocks p
blocks-with_refs b count p = blocks-with_count b count p.known

count_of-with_count : (b count q : ℕ) (ks : List Known) → q ≢ b → count_of (with_count b count ks) q ≡ count_of ks q
count_of-with_count b count q [] ne = refl
count_of-with_count b count q (k ∷ ks) ne =
    let rest = count_of-with_count b count q ks ne in
    elim (cases_Bool (k.number == b)) [
      | inl t ↦
          let is : k.number ≡ b = eqb-true k.number b t in
          rw (t, ne_eqb k.number q (λ e. ne (sym e ∙ is))) rest
      | inr f ↦ rw f (elim (cases_Bool (k.number == q)) [ inl t ↦ rw t | inr g ↦ rw g rest ])
    ]

-- and the holds of every other block
pub refs-with_refs_other : (b count q : ℕ) (p : Ledger) → q ≢ b → refs (with_refs b count p) q ≡ refs p q
refs-with_refs_other b count q p ne = count_of-with_count b count q p.known ne

count_of-with_count_same : (b count : ℕ) (ks : List Known) → 0 < count_of ks b → count_of (with_count b count ks) b ≡ count
count_of-with_count_same b count [] some = absurd (omega arith)
count_of-with_count_same b count (k ∷ ks) some =
    elim (cases_Bool (k.number == b)) [
      | inl t ↦ rw (t, t)
      | inr f ↦ rw (f, f) (count_of-with_count_same b count ks (rw f at some))
    ]

-- the block itself has that many
pub refs-with_refs_same : (b count : ℕ) (p : Ledger) → 0 < refs p b → refs (with_refs b count p) b ≡ count
refs-with_refs_same b count p some = count_of-with_count_same b count p.known some

blocks-with_known : (new : Known) (ks : List Known) → SameBlocks (block_of new ∷ map block_of ks) (map block_of (with_known new ks))
blocks-with_known new [] = same_itself (block_of new ∷ [])
blocks-with_known new (k ∷ ks) =
    elim (cases_Bool (nat_lt k.number new.number)) [
      | inl t ↦
          rw t (same_trans (block_of new ∷ block_of k ∷ map block_of ks) (block_of k ∷ block_of new ∷ map block_of ks)
          (block_of k ∷ map block_of (with_known new ks))
          (same_swap (block_of new) (block_of k) (map block_of ks))
          (same_front (block_of k) (block_of new ∷ map block_of ks) (map block_of (with_known new ks)) (blocks-with_known new ks)))
      | inr f ↦ rw f (same_itself (block_of new ∷ block_of k ∷ map block_of ks))
    ]

blocks-without : (gone : List Block) (ks : List Known)
    → map block_of (without gone ks) ≡ filter (λ (b : Block). not (has_number b.number gone)) (map block_of ks)
blocks-without gone [] = refl
blocks-without gone (k ∷ ks) =
    let rest = blocks-without gone ks in
    elim (cases_Bool (has_number k.number gone)) [ inl t ↦ rw t rest | inr f ↦ rw f (ap (λ bs. block_of k ∷ bs) rest) ]

-- after an answer the pool knows the blocks that the grant rules leave
pub after-known : (p : Ledger) (a : Answer) → SameBlocks (known_after (is_free p) a (blocks p)) (blocks (after p a))
after-known p Refused = same_itself (blocks p)
after-known p (Granted b n false given) = same_by (blocks p) (blocks (with_refs b 1 p)) (sym (blocks-with_refs b 1 p))
after-known p (Granted b n true given) =
    let gone = largest_free given (is_free p) (blocks p) in
    let left = blocks-without gone p.known in
    same_trans (record { number = b; size = n } ∷ left_after given (is_free p) (blocks p)) (record {
      number = b;
      size = n;
    } ∷ map block_of (without gone p.known)) (map block_of (with_known (record { number = b; size = n; count = 1 }) (without gone p.known)))
    (same_by (record { number = b; size = n } ∷ left_after given (is_free p) (blocks p))
    (record { number = b; size = n } ∷ map block_of (without gone p.known)) (ap (λ bs. record { number = b; size = n } ∷ bs) (sym left)))
    (blocks-with_known (record { number = b; size = n; count = 1 }) (without gone p.known))

-- an answer that is given asks for room exactly where its block is a new one
pub needs_room-answered : (held : ℕ) (a : Answer) (g : Grant) → answered held a ≡ Ok g → needs_room a ≡ g.fresh
needs_room-answered held Refused g e = absurd (cc)
needs_room-answered held (Granted b n f k) g e = cc

-- and a refusal asks for none
pub needs_room-refused : (held : ℕ) (a : Answer) (r : RefusedAnswer) → answered held a ≡ Err r → needs_room a ≡ false
needs_room-refused held Refused r e = refl
needs_room-refused held (Granted b n f k) r e = absurd (cc)
