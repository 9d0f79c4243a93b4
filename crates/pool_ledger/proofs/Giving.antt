-- One block given up after another.
use Rattle.std.proofs.Common.{◌≡◌, ℕ, zero, suc, ◌+◌, ◌-◌, ◌<◌, ◌≤◌, true, false, not, ◌||◌, eqb, leb, Option, Some, None, Ok, Err, List, [], ◌∷◌, ◌++◌}
use Rattle.std.proofs.Common.{length, map, take, drop, refl, ap, sym, ◌∙◌, subst, inl, inr, arith, append_assoc, append-nil, length-drop}
use Rattle.std.specs.List.{filter}
use Rattle.std.proofs.lemmas.Bool.{cases_Bool}
use Rattle.pool_ledger.specs.Grants.{Block, Answer, Refused, Granted, sizes, passes, count_to_give, given_up, fit_or_fresh, fresh_grant, smallest_fit}
use Rattle.pool_ledger.specs.Grants.{free_in_order, has_number, left_after, new_number}
use Rattle.pool_ledger.specs.declared.grants.Grant.{Grant}
use Rattle.pool_ledger.specs.declared.grants.Refused.{Refused as RefusedAnswer}
use Rattle.pool_ledger.proofs.Picks.{found_block}
use Rattle.pool_ledger.specs.Ledger.{Known, Ledger, without, without_blocks, numbers, largest_first, blocks, block_of, is_free, held, grant_for, answered}
use Rattle.pool_ledger.specs.Ledger.{has_block}

-- so many of the largest free blocks are gone
pub record GivenUp (p q : Ledger) (i : ℕ) : Type 0 where
  pub so_far : q ≡ without_blocks (take i (largest_first p)) p
  pub rest : largest_first q ≡ drop i (largest_first p)
  pub room : length q.known + length q.unnamed ≡ length p.known + length p.unnamed

without_none : (ks : List Known) → without [] ks ≡ ks
without_none [] = refl
without_none (k ∷ ks) = ap (λ xs. k ∷ xs) (without_none ks)

pub given_up_none : (p : Ledger) → GivenUp p p 0
given_up_none p =
    record {
      so_far = sym (ap (λ ks. record p { known = ks; unnamed = p.unnamed ++ [] }) (without_none p.known)
          ∙ ap (λ us. record p { unnamed = us }) (append-nil p.unnamed));
      rest = refl;
      room = refl;
    }

has_number-append : (k : ℕ) (xs ys : List Block) → has_number k (xs ++ ys) ≡ (has_number k xs || has_number k ys)
has_number-append k [] ys = refl
has_number-append k (x ∷ xs) ys = elim (cases_Bool (eqb x.number k)) [ inl t ↦ rw t | inr f ↦ rw f (has_number-append k xs ys) ]

without-without : (xs ys : List Block) (ks : List Known) → without ys (without xs ks) ≡ without (xs ++ ys) ks
without-without xs ys [] = refl
without-without xs ys (k ∷ ks) =
    let rest = without-without xs ys ks in
    elim (cases_Bool (has_number k.number xs)) [
      | inl t ↦ rw (has_number-append k.number xs ys, t) rest
      | inr f ↦
          elim (cases_Bool (has_number k.number ys)) [
            | inl u ↦ rw (has_number-append k.number xs ys, f, u) rest
            | inr g ↦ rw (has_number-append k.number xs ys, f, g) (ap (λ zs. k ∷ zs) rest)
          ]
    ]

map-append : (xs ys : List Block) → numbers (xs ++ ys) ≡ numbers xs ++ numbers ys
map-append [] ys = refl
map-append (x ∷ xs) ys = ap (λ ns. x.number ∷ ns) (map-append xs ys)

without_blocks-both : (xs ys : List Block) (p : Ledger) → without_blocks ys (without_blocks xs p) ≡ without_blocks (xs ++ ys) p
without_blocks-both xs ys p =
    ap (λ ks. record p { known = ks; unnamed = (p.unnamed ++ numbers xs) ++ numbers ys }) (without-without xs ys p.known)
    ∙ ap (λ us. record p { known = without (xs ++ ys) p.known; unnamed = us }) (append_assoc p.unnamed (numbers xs) (numbers ys)
    ∙ ap (λ ns. p.unnamed ++ ns) (sym (map-append xs ys)))

take-one : (i : ℕ) (bs : List Block) → take i bs ++ take 1 (drop i bs) ≡ take (suc i) bs
take-one zero bs = refl
take-one (suc i) [] = refl
take-one (suc i) (b ∷ bs) = ap (λ xs. b ∷ xs) (take-one i bs)

drop-one : (i : ℕ) (bs : List Block) → drop 1 (drop i bs) ≡ drop (suc i) bs
drop-one zero bs = refl
drop-one (suc i) [] = refl
drop-one (suc i) (b ∷ bs) = drop-one i bs

pub given_up_more : (p q r : Ledger) (i : ℕ) → GivenUp p q i → r ≡ without_blocks (take 1 (largest_first q)) q → largest_first r ≡ drop 1 (largest_first q)
    → length r.known + length r.unnamed ≡ length q.known + length q.unnamed → GivenUp p r (i + 1)
given_up_more p q r i g e f m =
    let one : i + 1 ≡ suc i = omega arith in
    let bs = largest_first p in
    subst (GivenUp p r) (sym one)
    (record {
      so_far = e ∙ ap (λ xs. without_blocks (take 1 xs) q) g.rest ∙ ap (without_blocks (take 1 (drop i bs))) g.so_far
          ∙ without_blocks-both (take i bs) (take 1 (drop i bs)) p ∙ ap (λ xs. without_blocks xs p) (take-one i bs);
      rest = f ∙ ap (drop 1) g.rest ∙ drop-one i bs;
      room = m ∙ g.room;
    })

pub given_up_left : (p q : Ledger) (i n : ℕ) → GivenUp p q i → i < n → n ≤ length (largest_first p) → 0 < length (largest_first q)
given_up_left p q i n g less most = rw (g.rest, length-drop) (omega arith)

-- THE BLOCKS THAT ARE LEFT

pub blocks-without : (gone : List Block) (ks : List Known)
    → map block_of (without gone ks) ≡ filter (λ (b : Block). not (has_number b.number gone)) (map block_of ks)
blocks-without gone [] = refl
blocks-without gone (k ∷ ks) =
    let rest = blocks-without gone ks in
    elim (cases_Bool (has_number k.number gone)) [ inl t ↦ rw t rest | inr f ↦ rw f (ap (λ bs. block_of k ∷ bs) rest) ]

-- GRANTS, READ BACK

pub count_to_give-le : (limit n standing : ℕ) (bs : List Block) → count_to_give limit n standing bs ≤ length bs
count_to_give-le limit n standing [] = omega arith
count_to_give-le limit n standing (b ∷ bs) =
    let rest = count_to_give-le limit n (standing - b.size) bs in
    elim (cases_Bool (passes limit (standing + n))) [ inl t ↦ rw t (omega arith) | inr f ↦ rw f (omega arith) ]

-- what an Ok answer says
pub record IsGranted (a : Answer) (g : Grant) : Type 0 where
  pub is : a ≡ Granted g.block g.size g.fresh g.given_up

pub answered_ok : (held : ℕ) (a : Answer) (g : Grant) → Ok g ≡ answered held a → IsGranted a g
answered_ok held Refused g e = absurd (cc)
answered_ok held (Granted b n f k) g e = let same : g ≡ record { block = b; size = n; fresh = f; given_up = k } = cc in
    record { is = ap (λ (h : Grant). Granted h.block h.size h.fresh h.given_up) (sym same) }

pub answered_err : (held : ℕ) (a : Answer) (r : RefusedAnswer) → Err r ≡ answered held a → a ≡ Refused
answered_err held Refused r e = refl
answered_err held (Granted b n f k) r e = absurd (cc)

-- a new block's grant
pub record IsFresh (p : Ledger) (n b size given : ℕ) : Type 0 where
  pub sized : size ≡ n
  pub given_is : given ≤ length (largest_first p)
  pub number_is : b ≡ new_number (left_after given (is_free p) (blocks p))

fit_fresh : (p : Ledger) (n b size given : ℕ) (o : Option Block) → fit_or_fresh p.limit n (is_free p) (blocks p) o ≡ Granted b size true given
    → IsFresh p n b size given
fit_fresh p n b size given (Some x) e = absurd (cc)
fit_fresh p n b size given None e =
    let k = given_up p.limit n (is_free p) (blocks p) in
    let same : k ≡ given = cc in
    let most = count_to_give-le p.limit n (sizes (blocks p)) (largest_first p) in
    let number : new_number (left_after k (is_free p) (blocks p)) ≡ b = cc in
    let bytes : n ≡ size = cc in
    record {
      sized = sym bytes;
      given_is = subst (λ i. i ≤ length (largest_first p)) same most;
      number_is = sym number ∙ ap (λ i. new_number (left_after i (is_free p) (blocks p))) same;
    }

pub granted_fresh : (p : Ledger) (n b size given : ℕ) → grant_for n p ≡ Granted b size true given → IsFresh p n b size given
granted_fresh p n b size given e =
    elim (cases_Bool (passes p.limit (held p + n))) [
      | inl t ↦ absurd (let r = rw t at e in cc)
      | inr f ↦ fit_fresh p n b size given (smallest_fit n (is_free p) (blocks p)) (rw f at e)
    ]

fit_kept : (p : Ledger) (n b size given : ℕ) (o : Option Block) → fit_or_fresh p.limit n (is_free p) (blocks p) o ≡ Granted b size false given
    → o ≡ Some (record { number = b; size = size })
fit_kept p n b size given (Some x) e =
    let number : x.number ≡ b = cc in
    let bytes : x.size ≡ size = cc in
    ap (λ i. Some (record { number = i; size = x.size })) number ∙ ap (λ i. Some (record { number = b; size = i })) bytes
fit_kept p n b size given None e = absurd (cc)

-- a free block's grant
pub granted_kept : (p : Ledger) (n b size given : ℕ) → grant_for n p ≡ Granted b size false given
    → has_block b size (free_in_order (is_free p) (blocks p)) ≡ true
granted_kept p n b size given e =
    elim (cases_Bool (passes p.limit (held p + n))) [
      | inl t ↦ absurd (let r = rw t at e in cc)
      | inr f ↦ found_block (λ (x : Block). leb n x.size) (free_in_order (is_free p) (blocks p)) (record { number = b; size = size })
          (fit_kept p n b size given (smallest_fit n (is_free p) (blocks p)) (rw f at e))
    ]

pub refused_for : (p : Ledger) (n : ℕ) → passes p.limit (held p + n) ≡ true → grant_for n p ≡ Refused
refused_for p n t = rw t

pub kept_for : (p : Ledger) (n : ℕ) (x : Block) → passes p.limit (held p + n) ≡ false → smallest_fit n (is_free p) (blocks p) ≡ Some x
    → grant_for n p ≡ Granted x.number x.size false 0
kept_for p n x f e = rw f (ap (fit_or_fresh p.limit n (is_free p) (blocks p)) e)

pub fresh_for : (p : Ledger) (n : ℕ) → passes p.limit (held p + n) ≡ false → smallest_fit n (is_free p) (blocks p) ≡ None
    → grant_for n p ≡ fresh_grant n (given_up p.limit n (is_free p) (blocks p)) (is_free p) (blocks p)
fresh_for p n f e = rw f (ap (fit_or_fresh p.limit n (is_free p) (blocks p)) e)
