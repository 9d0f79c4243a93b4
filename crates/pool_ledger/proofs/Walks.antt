-- A walk from the greatest key down.
use Rattle.std.proofs.Common.{◌≡◌, ℕ, zero, suc, ◌+◌, ◌-◌, ◌/◌, ◌%◌, ◌^◌, ◌<◌, ◌≤◌, Bool, true, false, not, ◌&&◌, ◌||◌, eqb, ltb, List, [], ◌∷◌, ◌++◌}
use Rattle.std.proofs.Common.{length, map, min, reverse, take, drop, Some, None, refl, ap, sym, ◌∙◌, subst, inl, inr, arith}
use Rattle.std.specs.List.{AllByRecursion, filter, find}
use Rattle.std.proofs.lemmas.Bool.{lt-ltb, le-ltb, eq-eqb, ne_eqb, cases_Bool}
use Rattle.std.proofs.lemmas.List.{reverse-reverse, length-reverse}
use Rattle.pool_ledger.specs.Keys.{IsRising, with_key, without_key, greatest_below}
use Rattle.pool_ledger.specs.Grants.{Block, sizes, passes, count_to_give, given_up, has_number, new_number, left_after, largest_free}
use Rattle.pool_ledger.specs.Ledger.{Ledger, is_free, blocks, largest_first}
use Rattle.pool_ledger.specs.Inside.{free_from, is_open, key_of, block_at, ledger_of, IsSound}
use Rattle.pool_ledger.specs.declared.pools.Slot.{Slot}
use Rattle.pool_ledger.specs.declared.pools.Pool.TheInside.{Inside}
use Rattle.pool_ledger.proofs.Bridges.{InRange, sizes-known_from}
use Rattle.pool_ledger.proofs.KeyPlaces.{reverse-cons}
use Rattle.pool_ledger.proofs.Missing.{IsLeastFalse, min-IsLeastFalse, new_number-is, first_unused, first_unused-is, first_unused-least}
use Rattle.pool_ledger.proofs.Picks.{largest_first-keys, has_key, has_key-reverse, found_any, key-parts, OpenSlot, slot_of_key}
use Rattle.pool_ledger.proofs.SlotLists.{length-free_from}

-- DOWN FROM THE GREATEST

-- each key is above all later ones
abbrev pub IsFalling : List ℕ → Type 0
IsFalling [] = Unit {0}
IsFalling (k ∷ ks) = AllByRecursion (λ j. j < k) ks × IsFalling ks

All-append : (P : ℕ → Type 0) (xs ys : List ℕ) → AllByRecursion P xs → AllByRecursion P ys → AllByRecursion P (xs ++ ys)
All-append P [] ys a b = b
All-append P (x ∷ xs) ys a b = (a.0, All-append P xs ys a.1 b)

pub All-reverse : (P : ℕ → Type 0) (xs : List ℕ) → AllByRecursion P xs → AllByRecursion P (reverse xs)
All-reverse P [] a = tt
All-reverse P (x ∷ xs) a = rw (reverse-cons x xs) (All-append P (reverse xs) (x ∷ []) (All-reverse P xs a.1) (a.0, tt))

IsFalling-append : (xs : List ℕ) (k : ℕ) → IsFalling xs → AllByRecursion (λ j. k < j) xs → IsFalling (xs ++ k ∷ [])
IsFalling-append [] k f a = (tt, tt)
IsFalling-append (x ∷ xs) k f a = (All-append (λ j. j < x) xs (k ∷ []) f.0 (a.0, tt), IsFalling-append xs k f.1 a.1)

pub IsFalling-reverse : (ks : List ℕ) → IsRising ks → IsFalling (reverse ks)
IsFalling-reverse [] r = tt
IsFalling-reverse (k ∷ ks) r = rw (reverse-cons k ks) (IsFalling-append (reverse ks) k (IsFalling-reverse ks r.1) (All-reverse (λ j. k < j) ks r.0))

-- so many keys of the list are passed: those not below the bound
pub record Walk (ks : List ℕ) (count below : ℕ) : Type 0 where
  pub at_most : count ≤ length ks
  pub passed : AllByRecursion (λ k. below ≤ k) (take count ks)
  pub left : AllByRecursion (λ k. k < below) (drop count ks)

pub walk_start : (ks : List ℕ) (below : ℕ) → AllByRecursion (λ k. k < below) ks → Walk ks 0 below
walk_start ks below a = record { at_most = omega arith; passed = tt; left = a }

-- the next key
pub record Step (ks : List ℕ) (count below k : ℕ) : Type 0 where
  pub less : k < below
  pub rest : drop count ks ≡ k ∷ drop (suc count) ks
  pub front : take (suc count) ks ≡ take count ks ++ k ∷ []
  pub walk : Walk ks (suc count) k

pub walk_next : (ks : List ℕ) (count below k : ℕ) → IsFalling ks → Walk ks count below → find (λ j. ltb j below) ks ≡ Some k → Step ks count below k
walk_next [] count below k f w e = absurd (cc)
walk_next (d ∷ ds) zero below k f w e =
    let less : d < below = w.left.0 in
    let found : Some d ≡ Some k = rw (lt-ltb d below less) at e in
    let is : d ≡ k = cc in
    subst (Step (d ∷ ds) 0 below) is (record {
      less = less;
      rest = refl;
      front = refl;
      walk = record { at_most = omega arith; passed = (omega arith, tt); left = f.0 };
    })
walk_next (d ∷ ds) (suc c) below k f w e =
    let more : below ≤ d = w.passed.0 in
    let inner : Walk ds c below = record { at_most = omega (arith, w.at_most); passed = w.passed.1; left = w.left } in
    let s = walk_next ds c below k f.1 inner (rw (le-ltb d below more) at e) in
    let less = s.less in
    record {
      less = less;
      rest = s.rest;
      front = ap (λ xs. d ∷ xs) s.front;
      walk = record { at_most = omega (arith, s.walk.at_most); passed = (omega arith, s.walk.passed); left = s.walk.left };
    }

pub walk_end : (ks : List ℕ) (count below : ℕ) → Walk ks count below → find (λ j. ltb j below) ks ≡ None → drop count ks ≡ []
walk_end [] zero below w e = refl
walk_end [] (suc c) below w e = refl
walk_end (d ∷ ds) zero below w e = let less : d < below = w.left.0 in absurd (let found = rw (lt-ltb d below less) at e in cc)
walk_end (d ∷ ds) (suc c) below w e =
    let more : below ≤ d = w.passed.0 in
    walk_end ds c below (record { at_most = omega (arith, w.at_most); passed = w.passed.1; left = w.left }) (rw (le-ltb d below more) at e)

-- KEYS ARE BELOW THE FIRST BOUND

All-with_key : (P : ℕ → Type 0) (k : ℕ) (ks : List ℕ) → P k → AllByRecursion P ks → AllByRecursion P (with_key k ks)
All-with_key P k [] p a = (p, tt)
All-with_key P k (j ∷ js) p a = elim (cases_Bool (ltb j k)) [ inl t ↦ rw t (a.0, All-with_key P k js p a.1) | inr f ↦ rw f (p, a) ]

pub keys_small : (i : ℕ) (ss : List Slot) → AllByRecursion InRange ss → i + length ss < 2 ^ 32 → AllByRecursion (λ k. k < 18446744073709551615) (free_from i ss)
keys_small i [] a h = tt
keys_small i (s ∷ ss) a h =
    let rest = keys_small (i + 1) ss a.1 (omega arith) in
    let range = a.0.0 in
    elim (cases_Bool (is_open s)) [
      | inl o ↦ rw o (All-with_key (λ k. k < 18446744073709551615) (key_of s.size i) (free_from (i + 1) ss) (omega arith) rest)
      | inr c ↦ rw c rest
    ]

-- WITHOUT THE GREATEST

last-without : (xs : List ℕ) (key : ℕ) → AllByRecursion (λ j. j < key) xs → without_key key (xs ++ key ∷ []) ≡ xs
last-without [] key a = rw (eq-eqb key key refl)
last-without (x ∷ xs) key a = let less : x < key = a.0 in rw (ne_eqb x key (λ e. omega arith)) (ap (λ ts. x ∷ ts) (last-without xs key a.1))

-- the greatest key is the first from above, and the others stay in order
pub reverse-without : (ks rest : List ℕ) (key : ℕ) → IsRising ks → reverse ks ≡ key ∷ rest → reverse (without_key key ks) ≡ rest
reverse-without ks rest key r e =
    let falling : IsFalling (key ∷ rest) = subst IsFalling e (IsFalling-reverse ks r) in
    let is : ks ≡ reverse rest ++ key ∷ [] = sym (reverse-reverse ks) ∙ ap reverse e ∙ reverse-cons key rest in
    ap (λ xs. reverse (without_key key xs)) is ∙ ap reverse (last-without (reverse rest) key (All-reverse (λ j. j < key) rest falling.0)) ∙ reverse-reverse rest

-- HOW MANY GO

pub drop-map : (f : ℕ → Block) (n : ℕ) (xs : List ℕ) → drop n (map f xs) ≡ map f (drop n xs)
drop-map f zero xs = refl
drop-map f (suc n) [] = refl
drop-map f (suc n) (x ∷ xs) = drop-map f n xs

pub take-map : (f : ℕ → Block) (n : ℕ) (xs : List ℕ) → take n (map f xs) ≡ map f (take n xs)
take-map f zero xs = refl
take-map f (suc n) [] = refl
take-map f (suc n) (x ∷ xs) = ap (λ bs. f x ∷ bs) (take-map f n xs)

map-append : (f : ℕ → Block) (xs ys : List ℕ) → map f (xs ++ ys) ≡ map f xs ++ map f ys
map-append f [] ys = refl
map-append f (x ∷ xs) ys = ap (λ bs. f x ∷ bs) (map-append f xs ys)

pub count_to_give-step : (limit n standing count : ℕ) (ks : List ℕ) (below k : ℕ) → Step ks count below k → passes limit (standing + n) ≡ true
    → count_to_give limit n standing (map block_at (drop count ks)) ≡ count_to_give limit n (standing - k / 4294967296) (map block_at (drop (suc count) ks)) + 1
count_to_give-step limit n standing count ks below k s p = ap (λ xs. count_to_give limit n standing (map block_at xs)) s.rest ∙ rw p

pub count_to_give-stop : (limit n standing : ℕ) (bs : List Block) → passes limit (standing + n) ≡ false → count_to_give limit n standing bs ≡ 0
count_to_give-stop limit n standing [] p = refl
count_to_give-stop limit n standing (b ∷ bs) p = rw p

-- THE NUMBER THAT IS FREE THEN

has_number-append : (k : ℕ) (xs ys : List Block) → has_number k (xs ++ ys) ≡ (has_number k xs || has_number k ys)
has_number-append k [] ys = refl
has_number-append k (x ∷ xs) ys = elim (cases_Bool (eqb x.number k)) [ inl t ↦ rw t | inr f ↦ rw f (has_number-append k xs ys) ]

pub has_number-left : (k : ℕ) (gone bs : List Block)
    → has_number k (filter (λ (b : Block). not (has_number b.number gone)) bs) ≡ (has_number k bs && not (has_number k gone))
has_number-left k gone [] = refl
has_number-left k gone (b ∷ bs) =
    let rest = has_number-left k gone bs in
    elim (cases_Bool (eqb b.number k)) [
      | inl t ↦
          let same : b.number ≡ k = Rattle.std.proofs.lemmas.Bool.eqb-true b.number k t in
          elim (cases_Bool (has_number b.number gone)) [
            | inl g ↦ let mine = sym (ap (λ j. has_number j gone) same) ∙ g in rw (g, rest, mine, t) (dead (has_number k bs))
            | inr n ↦ let mine = sym (ap (λ j. has_number j gone) same) ∙ n in rw (n, t, mine)
          ]
      | inr f ↦
          elim (cases_Bool (has_number b.number gone)) [
            | inl g ↦ rw (g, f) rest
            | inr n ↦ rw (n, f) rest
          ]
    ]
  where
    dead : (x : Bool) → (x && false) ≡ false
    dead true = refl
    dead false = refl

-- the number m is the least that names no block once these are gone
abbrev pub IsNew : List Block → List Block → ℕ → Type 0
IsNew bs gone m = IsLeastFalse (λ k. has_number k bs && not (has_number k gone)) m

same_test : (t u : ℕ → Bool) (m : ℕ) → ((k : ℕ) → t k ≡ u k) → IsLeastFalse t m → IsLeastFalse u m
same_test t u m e w = record { missing = sym (e m) ∙ w.missing; below = λ k h. sym (e k) ∙ w.below k h }

pub IsNew-start : (bs : List Block) (m : ℕ) → IsLeastFalse (λ k. has_number k bs) m → IsNew bs [] m
IsNew-start bs m w = same_test (λ k. has_number k bs) (λ k. has_number k bs && true) m (λ k. keep (has_number k bs)) w
  where
    keep : (x : Bool) → x ≡ (x && true)
    keep true = refl
    keep false = refl

pub IsNew-more : (bs gone : List Block) (b : Block) (m : ℕ) → IsNew bs gone m → IsNew bs (gone ++ b ∷ []) (min m b.number)
IsNew-more bs gone b m w =
    same_test (λ k. (has_number k bs && not (has_number k gone)) && not (eqb b.number k)) (λ k. has_number k bs && not (has_number k (gone ++ b ∷ [])))
    (min m b.number)
    (λ k. three (has_number k bs) (has_number k gone) (eqb b.number k) ∙ ap (λ t. has_number k bs && not t) (sym (has_number-append k gone (b ∷ []))))
    (min-IsLeastFalse (λ k. has_number k bs && not (has_number k gone)) m b.number w)
  where
    three : (x y z : Bool) → ((x && not y) && not z) ≡ (x && not (y || (z || false)))
    three true true z = refl
    three true false true = refl
    three true false false = refl
    three false y z = refl

pub new_number-left : (k : ℕ) (f : ℕ → Bool) (bs : List Block) (m : ℕ) → IsNew bs (largest_free k f bs) m → new_number (left_after k f bs) ≡ m
new_number-left k f bs m w =
    new_number-is m (left_after k f bs) (same_test (λ j. has_number j bs && not (has_number j (largest_free k f bs)))
    (λ j. has_number j (left_after k f bs)) m (λ j. sym (has_number-left j (largest_free k f bs) bs)) w)

-- THE LOOP OF A NEW BLOCK'S GRANT

-- what is known once so many blocks are to go
pub record Picked (a : Inside) (n standing number below count : ℕ) : Type 0 where
  pub walk : Walk (reverse a.free.keys) count below
  pub counted : count_to_give a.limit n a.standing (map block_at (reverse a.free.keys))
      ≡ count + count_to_give a.limit n standing (map block_at (drop count (reverse a.free.keys)))
  pub new : IsNew (blocks (ledger_of a)) (map block_at (take count (reverse a.free.keys))) number
  pub bounded : standing ≤ a.standing
  pub within : number ≤ length a.slots.items

pub picked_start : (a : Inside) (n number : ℕ) → IsSound a → number ≡ first_unused 0 a.slots.items → Picked a n a.standing number 18446744073709551615 0
picked_start a n number s e =
    let ss = a.slots.items in
    let small : AllByRecursion (λ k. k < 18446744073709551615) a.free.keys =
    rw s.free_keys (keys_small 0 ss s.in_range (omega (arith, s.slots_fit, s.room_fits))) in
    let first = first_unused-least 0 ss in
    record {
      walk = walk_start (reverse a.free.keys) 18446744073709551615 (All-reverse (λ k. k < 18446744073709551615) a.free.keys small);
      counted = omega arith;
      new = IsNew-start (blocks (ledger_of a)) number (rw e (first_unused-is ss));
      bounded = omega arith;
      within = omega (arith, first.1, first.2);
    }

pub record NextPick (a : Inside) (n standing number below count k : ℕ) : Type 0 where
  pub picked : Picked a n (standing - k / 4294967296) (min number (k % 4294967296)) k (count + 1)
  pub less : k < below

pub picked_next : (a : Inside) (n standing number below count k : ℕ) → IsSound a → IsRising a.free.keys → Picked a n standing number below count
    → passes a.limit (standing + n) ≡ true → greatest_below below a.free.keys ≡ Some k → NextPick a n standing number below count k
picked_next a n standing number below count k s rising p over found =
    let ks = reverse a.free.keys in
    let step = walk_next ks count below k (IsFalling-reverse a.free.keys rising) p.walk found in
    let one : count + 1 ≡ suc count = omega arith in
    let go = count_to_give-step a.limit n standing count ks below k step over in
    let more : map block_at (take (suc count) ks) ≡ map block_at (take count ks) ++ block_at k ∷ [] = ap (map block_at) step.front
    ∙ map-append block_at (take count ks) (k ∷ []) in
    let known : IsNew (blocks (ledger_of a)) (map block_at (take (suc count) ks)) (min number (k % 4294967296)) =
    subst (λ gone. IsNew (blocks (ledger_of a)) gone (min number (k % 4294967296))) (sym more)
    (IsNew-more (blocks (ledger_of a)) (map block_at (take count ks)) (block_at k) number p.new) in
    let after : count_to_give a.limit n a.standing (map block_at ks)
    ≡ suc count + count_to_give a.limit n (standing - k / 4294967296) (map block_at (drop (suc count) ks)) = omega (arith, p.counted, go) in
    let bounded = p.bounded in
    let within = p.within in
    record {
      picked = subst (λ c. Picked a n (standing - k / 4294967296) (min number (k % 4294967296)) k c) (sym one)
          (record { walk = step.walk; counted = after; new = known; bounded = omega arith; within = omega arith });
      less = step.less;
    }

pub record Chosen (p : Ledger) (n number count : ℕ) : Type 0 where
  pub given : given_up p.limit n (is_free p) (blocks p) ≡ count
  pub number_is : new_number (left_after count (is_free p) (blocks p)) ≡ number

chosen_from : (a : Inside) (n standing number below count : ℕ) → IsSound a → Picked a n standing number below count
    → count_to_give a.limit n standing (map block_at (drop count (reverse a.free.keys))) ≡ 0 → Chosen (ledger_of a) n number count
chosen_from a n standing number below count s p none =
    let list = largest_first-keys a s in
    let bytes : sizes (blocks (ledger_of a)) ≡ a.standing = sizes-known_from 0 a.slots.items ∙ sym s.standing_is in
    let gone : largest_free count (is_free (ledger_of a)) (blocks (ledger_of a)) ≡ map block_at (take count (reverse a.free.keys)) = ap (take count) list
    ∙ take-map block_at count (reverse a.free.keys) in
    record {
      given = ap (λ m. count_to_give a.limit n m (largest_first (ledger_of a))) bytes ∙ ap (count_to_give a.limit n a.standing) list ∙ omega (arith, p.counted);
      number_is = new_number-left count (is_free (ledger_of a)) (blocks (ledger_of a)) number
          (subst (λ bs. IsNew (blocks (ledger_of a)) bs number) (sym gone) p.new);
    }

pub chosen_within : (a : Inside) (p : Ledger) (n standing number below count : ℕ) → ledger_of a ≡ p → IsSound a → Picked a n standing number below count
    → passes a.limit (standing + n) ≡ false → Chosen p n number count
chosen_within a p n standing number below count e s w under =
    subst (λ q. Chosen q n number count) e (chosen_from a n standing number below count s w (count_to_give-stop a.limit n standing _ under))

pub chosen_all : (a : Inside) (p : Ledger) (n standing number below count : ℕ) → ledger_of a ≡ p → IsSound a → Picked a n standing number below count
    → greatest_below below a.free.keys ≡ None → Chosen p n number count
chosen_all a p n standing number below count e s w none =
    let end = walk_end (reverse a.free.keys) count below w.walk none in
    subst (λ q. Chosen q n number count) e (chosen_from a n standing number below count s w (ap (λ xs. count_to_give a.limit n standing (map block_at xs)) end))

-- a grant of a new block, as the rules say
pub chosen_grant : (p : Ledger) (n number count : ℕ) → Chosen p n number count
    → new_number (left_after (given_up p.limit n (is_free p) (blocks p)) (is_free p) (blocks p)) ≡ number
chosen_grant p n number count h = ap (λ k. new_number (left_after k (is_free p) (blocks p))) h.given ∙ h.number_is

-- how many go is no more than there are slots
pub picked_count : (a : Inside) (n standing number below count : ℕ) → IsSound a → Picked a n standing number below count → count ≤ a.room
picked_count a n standing number below count s p =
    let same = ap length s.free_keys in
    omega (arith, p.walk.at_most, length-reverse a.free.keys, length-free_from 0 a.slots.items, s.unnamed_fit)

-- THE LARGEST FREE BLOCK

-- the slot of the greatest key
pub record Largest (a : Inside) (key : ℕ) : Type 0 where
  pub from_above : reverse a.free.keys ≡ key ∷ drop 1 (reverse a.free.keys)
  pub there : has_key key a.free.keys ≡ true
  pub slot : OpenSlot a.slots.items (key % 4294967296) (key / 4294967296)
  pub first : take 1 (largest_first (ledger_of a)) ≡ block_at key ∷ []

pub largest : (a : Inside) (key : ℕ) → IsSound a → IsRising a.free.keys → greatest_below 18446744073709551615 a.free.keys ≡ Some key → Largest a key
largest a key s rising found =
    let ks = reverse a.free.keys in
    let start = picked_start a 0 (first_unused 0 a.slots.items) s refl in
    let step = walk_next ks 0 18446744073709551615 key (IsFalling-reverse a.free.keys rising) start.walk found in
    let there = has_key-reverse key a.free.keys (found_any (λ j. ltb j 18446744073709551615) ks key found) in
    let mine : has_key (key_of (key / 4294967296) (key % 4294967296)) (free_from 0 a.slots.items) ≡ true =
    ap (λ k. has_key k (free_from 0 a.slots.items)) (key-parts key) ∙ ap (has_key key) (sym s.free_keys) ∙ there in
    let list : largest_first (ledger_of a) ≡ block_at key ∷ map block_at (drop 1 ks) = largest_first-keys a s ∙ ap (map block_at) step.rest in
    record {
      from_above = step.rest;
      there = there;
      slot = slot_of_key (key % 4294967296) (key / 4294967296) a.slots.items (omega (arith, s.slots_fit, s.room_fits)) (omega arith) mine;
      first = ap (take 1) list;
    }

pub no_largest : (a : Inside) (p : Ledger) → ledger_of a ≡ p → IsSound a → 0 < length (largest_first p)
    → greatest_below 18446744073709551615 a.free.keys ≡ None → ⊥
no_largest a p e s some none =
    let start = picked_start a 0 (first_unused 0 a.slots.items) s refl in
    let end = walk_end (reverse a.free.keys) 0 18446744073709551615 start.walk none in
    let list : largest_first p ≡ [] = ap largest_first (sym e) ∙ largest_first-keys a s ∙ ap (map block_at) end in
    let long = ap length list in
    omega arith

-- without the largest the others stay in order
pub largest_first-rest : (a b : Inside) (key : ℕ) → IsSound a → IsSound b → IsRising a.free.keys → Largest a key
    → b.free.keys ≡ without_key key a.free.keys → largest_first (ledger_of b) ≡ drop 1 (largest_first (ledger_of a))
largest_first-rest a b key s t rising l e =
    largest_first-keys b t ∙ ap (λ ks. map block_at (reverse ks)) e
    ∙ ap (map block_at) (reverse-without a.free.keys (drop 1 (reverse a.free.keys)) key rising l.from_above)
    ∙ sym (drop-map block_at 1 (reverse a.free.keys)) ∙ ap (drop 1) (sym (largest_first-keys a s))
