-- What a grant gives away has no place.
use Rattle.std.proofs.Common.{◌≡◌, ◌≢◌, ℕ, zero, suc, ◌+◌, Bool, true, false, not, cond, ◌||◌, eqb, leb, List, [], ◌∷◌, ◌++◌, map, refl, sym, ap, subst}
use Rattle.std.proofs.Common.{◌∙◌, Option, Some, None, inl, inr}
use Rattle.std.specs.Prelude.{filter, reverse, take}
use Rattle.std.specs.List.{find, list_all}
use Rattle.std.proofs.lemmas.Bool.{and_parts, and_from, true≢false, eqb-true, eq-eqb, ne_eqb, or_from, or_cases, or_left, or_right, cases_Bool, cond-true}
use Rattle.std.proofs.lemmas.List.{reverse-append}
use Rattle.pool_ledger.specs.Grants.{Block, comes_first, placed, in_order, free_in_order, smallest_fit, largest_free, has_number, left_after, known_after}
use Rattle.pool_ledger.specs.Grants.{passes, given_up, new_number, Refused, Granted, fit_or_fresh, granted}
use Rattle.flow_journal.specs.Setting.{Setting}
use Rattle.flow_journal.specs.Pasts.{Past}
use Rattle.flow_journal.specs.Accounts.{refs, is_unplaced, known, held}
use Rattle.flow_journal.specs.FirstEntries.{pool_grants}
use Rattle.flow_journal.specs.HistoryLaws.{ArePlacesKnown}
use Rattle.flow_journal.proofs.Rows.{grant-facts}
use Rattle.flow_journal.proofs.Once.{is_among, least_missing-not_among}

all_of_filter : (p : Block → Bool) (bs : List Block) → list_all p (filter p bs) ≡ true
all_of_filter p [] = refl
all_of_filter p (b ∷ bs) =
    elim (cases_Bool (p b)) [
      | inl in_p ↦ rw in_p (and_from _ _ in_p (all_of_filter p bs))
      | inr out_p ↦ rw out_p (all_of_filter p bs)
    ]

all_placed : (p : Block → Bool) (b : Block) (bs : List Block) → p b ≡ true → list_all p bs ≡ true → list_all p (placed b bs) ≡ true
all_placed p b [] h g = and_from _ _ h refl
all_placed p b (c ∷ cs) h g =
    let q = and_parts (p c) (list_all p cs) g in
    elim (comes_first c b) as (λ x. list_all p (cond x (c ∷ placed b cs) (b ∷ c ∷ cs)) ≡ true) [
      | true ↦ and_from _ _ q.0 (all_placed p b cs h q.1)
      | false ↦ and_from _ _ h g
    ]

pub all_in_order : (p : Block → Bool) (bs : List Block) → list_all p bs ≡ true → list_all p (in_order bs) ≡ true
all_in_order p [] h = refl
all_in_order p (b ∷ bs) h = let q = and_parts (p b) (list_all p bs) h in all_placed p b (in_order bs) q.0 (all_in_order p bs q.1)

all_append : (p : Block → Bool) (xs ys : List Block) → list_all p xs ≡ true → list_all p ys ≡ true → list_all p (xs ++ ys) ≡ true
all_append p [] ys h g = g
all_append p (x ∷ xs) ys h g = let q = and_parts (p x) (list_all p xs) h in and_from _ _ q.0 (all_append p xs ys q.1 g)

pub all_reverse : (p : Block → Bool) (xs : List Block) → list_all p xs ≡ true → list_all p (reverse xs) ≡ true
all_reverse p [] h = refl
all_reverse p (x ∷ xs) h =
    let q = and_parts (p x) (list_all p xs) h in
    let split : reverse (x ∷ xs) ≡ reverse xs ++ x ∷ [] = reverse-append (x ∷ []) xs in
    subst (λ (ys : List Block). list_all p ys ≡ true) (sym split) (all_append p (reverse xs) (x ∷ []) (all_reverse p xs q.1) (and_from _ _ q.0 refl))

pub all_take : (p : Block → Bool) (n : ℕ) (xs : List Block) → list_all p xs ≡ true → list_all p (take n xs) ≡ true
all_take p zero xs h = refl
all_take p (suc n) [] h = refl
all_take p (suc n) (x ∷ xs) h = let q = and_parts (p x) (list_all p xs) h in and_from _ _ q.0 (all_take p n xs q.1)

pub all_found : (p q : Block → Bool) (xs : List Block) (b : Block) → list_all p xs ≡ true → find q xs ≡ Some b → p b ≡ true
all_found p q [] b h f = cc
all_found p q (x ∷ xs) b h f =
    let r = and_parts (p x) (list_all p xs) h in
    elim (cases_Bool (q x)) [
      | inl here ↦ let same : Some x ≡ Some b = rw here at f in let is : x ≡ b = cc in subst (λ (y : Block). p y ≡ true) is r.0
      | inr away ↦ all_found p q xs b r.1 (rw away at f)
    ]

abbrev pub free_block : (ℕ → Bool) → Block → Bool
free_block is_free b = is_free b.number

pub all_free : (is_free : ℕ → Bool) (bs : List Block) → list_all (free_block is_free) (free_in_order is_free bs) ≡ true
all_free is_free bs = all_in_order (free_block is_free) (filter (free_block is_free) bs) (all_of_filter (free_block is_free) bs)

-- no block that isn't free is among free ones
pub none_held : (is_free : ℕ → Bool) (k : ℕ) (xs : List Block) → is_free k ≡ false → list_all (free_block is_free) xs ≡ true → has_number k xs ≡ false
none_held is_free k [] u h = refl
none_held is_free k (x ∷ xs) u h =
    let q = and_parts (is_free x.number) (list_all (free_block is_free) xs) h in
    let ne : x.number ≢ k = λ e. true≢false (sym q.0 ∙ (ap is_free e ∙ u)) in
    or_from (eqb x.number k) (has_number k xs) (ne_eqb x.number k ne) (none_held is_free k xs u q.1)

stays : (given : List Block) (k : ℕ) (bs : List Block) → has_number k given ≡ false → has_number k bs ≡ true
    → has_number k (filter (λ b. not (has_number b.number given)) bs) ≡ true
stays given k [] u h = h
stays given k (b ∷ bs) u h =
    elim (or_cases (eqb b.number k) (has_number k bs) h) [
      | inl here ↦
          let is : b.number ≡ k = eqb-true b.number k here in
          let kept_b : has_number b.number given ≡ false = ap (λ (n : ℕ). has_number n given) is ∙ u in
          rw kept_b (or_left (eqb b.number k) _ here)
      | inr there ↦
          let more = stays given k bs u there in
          elim (cases_Bool (has_number b.number given)) [
            | inl gone ↦ rw gone more
            | inr kept_b ↦ rw kept_b (or_right (eqb b.number k) _ more)
          ]
    ]

-- a block that isn't free is never given up
pub stays-left : (is_free : ℕ → Bool) (given k : ℕ) (bs : List Block) → is_free k ≡ false → has_number k bs ≡ true
    → has_number k (left_after given is_free bs) ≡ true
stays-left is_free given k bs u h =
    let none =
    none_held is_free k (largest_free given is_free bs) u (all_take (free_block is_free) given (reverse (free_in_order is_free bs))
    (all_reverse (free_block is_free) (free_in_order is_free bs) (all_free is_free bs))) in
    stays (largest_free given is_free bs) k bs none h

pub number-among : (k : ℕ) (bs : List Block) → is_among k (map (λ b. b.number) bs) ≡ has_number k bs
number-among k [] = refl
number-among k (b ∷ bs) = ap (λ (x : Bool). eqb b.number k || x) (number-among k bs)

fit-free : (limit n b size : ℕ) (fresh : Bool) (given : ℕ) (is_free : ℕ → Bool) (bs : List Block) (o : Option Block)
    → ((k : ℕ) → is_free k ≡ false → has_number k bs ≡ true) → ((c : Block) → o ≡ Some c → is_free c.number ≡ true)
    → fit_or_fresh limit n is_free bs o ≡ Granted b size fresh given → is_free b ≡ true
fit-free limit n b size fresh given is_free bs (Some c) known o h = let is : c.number ≡ b = cc in subst (λ (k : ℕ). is_free k ≡ true) is (o c refl)
fit-free limit n b size fresh given is_free bs None known o h =
    let left : List Block = left_after (given_up limit n is_free bs) is_free bs in
    let is : new_number left ≡ b = cc in
    let missing : has_number (new_number left) left ≡ false =
    sym (number-among (new_number left) left) ∙ least_missing-not_among (map (λ (c : Block). c.number) left) in
    elim (cases_Bool (is_free b)) [
      | inl free ↦ free
      | inr placed_b ↦
          absurd (true≢false (sym (stays-left is_free (given_up limit n is_free bs) b bs placed_b (known b placed_b))
          ∙ subst (λ (k : ℕ). has_number k left ≡ false) is missing))
    ]

-- what is granted is free, where each block that isn't is known
pub granted-free : (limit n held b size : ℕ) (fresh : Bool) (given : ℕ) (is_free : ℕ → Bool) (bs : List Block)
    → ((k : ℕ) → is_free k ≡ false → has_number k bs ≡ true) → granted limit n held is_free bs ≡ Granted b size fresh given → is_free b ≡ true
granted-free limit n held b size fresh given is_free bs known h =
    let found : (c : Block) → smallest_fit n is_free bs ≡ Some c → is_free c.number ≡ true =
    λ c e. all_found (free_block is_free) (λ d. leb n d.size) (free_in_order is_free bs) c (all_free is_free bs) e in
    elim (cases_Bool (passes limit (held + n))) [
      | inl over ↦ let never : Refused ≡ Granted b size fresh given = rw over at h in cc
      | inr within ↦
          let fits : fit_or_fresh limit n is_free bs (smallest_fit n is_free bs) ≡ Granted b size fresh given = rw within at h in
          fit-free limit n b size fresh given is_free bs (smallest_fit n is_free bs) known found fits
    ]

-- the grant that an entry has is the one of the rules
pub granted-is : (s : Setting) (m b n : ℕ) (f : Bool) (g : ℕ) (x : Bool) (P : Past) → s.pooled ≡ true → pool_grants s m b n f g x P ≡ true
    → granted s.limit (s.need m) (held s P) (is_unplaced s P) (known s P) ≡ Granted b n f g
granted-is s m b n f g x P pooled h =
    sym (cond-true s.pooled (granted s.limit (s.need m) (held s P) (is_unplaced s P) (known s P)) (Granted 0 0 false 0) pooled)
    ∙ (grant-facts s m b n f g x P h).answer

-- A GRANTED BLOCK IS KNOWN THEN

pub all_filtered : (p q : Block → Bool) (bs : List Block) → list_all p bs ≡ true → list_all p (filter q bs) ≡ true
all_filtered p q [] h = refl
all_filtered p q (b ∷ bs) h =
    let r = and_parts (p b) (list_all p bs) h in
    elim (q b) as (λ c. list_all p (cond c (b ∷ filter q bs) (filter q bs)) ≡ true) [
      | true ↦ and_from _ _ r.0 (all_filtered p q bs r.1)
      | false ↦ all_filtered p q bs r.1
    ]

all_within : (whole bs : List Block) → ((k : ℕ) → has_number k bs ≡ true → has_number k whole ≡ true)
    → list_all (λ (b : Block). has_number b.number whole) bs ≡ true
all_within whole [] h = refl
all_within whole (b ∷ bs) h =
    and_from _ _ (h b.number (or_left (eqb b.number b.number) _ (eq-eqb b.number b.number refl)))
    (all_within whole bs (λ k i. h k (or_right (eqb b.number k) _ i)))

fit-known : (limit n b size : ℕ) (fresh : Bool) (given : ℕ) (is_free : ℕ → Bool) (bs : List Block) (o : Option Block)
    → ((c : Block) → o ≡ Some c → has_number c.number bs ≡ true) → fit_or_fresh limit n is_free bs o ≡ Granted b size fresh given
    → has_number b (known_after is_free (Granted b size fresh given) bs) ≡ true
fit-known limit n b size fresh given is_free bs (Some c) found h =
    let is : c.number ≡ b = cc in
    let old : false ≡ fresh = cc in
    subst (λ (f : Bool). has_number b (known_after is_free (Granted b size f given) bs) ≡ true) old
    (subst (λ (k : ℕ). has_number k bs ≡ true) is (found c refl))
fit-known limit n b size fresh given is_free bs None found h =
    let new : true ≡ fresh = cc in
    subst (λ (f : Bool). has_number b (known_after is_free (Granted b size f given) bs) ≡ true) new (or_left (eqb b b) _ (eq-eqb b b refl))

pub granted-known : (limit n held b size : ℕ) (fresh : Bool) (given : ℕ) (is_free : ℕ → Bool) (bs : List Block)
    → granted limit n held is_free bs ≡ Granted b size fresh given → has_number b (known_after is_free (Granted b size fresh given) bs) ≡ true
granted-known limit n held b size fresh given is_free bs h =
    let known_block : Block → Bool = λ c. has_number c.number bs in
    let found : (c : Block) → smallest_fit n is_free bs ≡ Some c → has_number c.number bs ≡ true =
    λ c e. all_found known_block (λ d. leb n d.size) (free_in_order is_free bs) c
    (all_in_order known_block (filter (free_block is_free) bs) (all_filtered known_block (free_block is_free) bs (all_within bs bs (λ k i. i)))) e in
    elim (cases_Bool (passes limit (held + n))) [
      | inl over ↦ let never : Refused ≡ Granted b size fresh given = rw over at h in cc
      | inr within ↦
          let fits : fit_or_fresh limit n is_free bs (smallest_fit n is_free bs) ≡ Granted b size fresh given = rw within at h in
          fit-known limit n b size fresh given is_free bs (smallest_fit n is_free bs) found fits
    ]

-- and so is each that was known and isn't free
pub stays-known : (is_free : ℕ → Bool) (b size : ℕ) (fresh : Bool) (given k : ℕ) (bs : List Block) → is_free k ≡ false → has_number k bs ≡ true
    → has_number k (known_after is_free (Granted b size fresh given) bs) ≡ true
stays-known is_free b size true given k bs u h = or_right (eqb b k) _ (stays-left is_free given k bs u h)
stays-known is_free b size false given k bs u h = h

-- a block that the pool grants has no place
pub grants-unplaced : (s : Setting) (m b n : ℕ) (f : Bool) (g : ℕ) (x : Bool) (P : Past) → s.pooled ≡ true → ArePlacesKnown s P
    → pool_grants s m b n f g x P ≡ true → refs s P b ≡ 0
grants-unplaced s m b n f g x P pooled places h =
    eqb-true (refs s P b) 0 (granted-free s.limit (s.need m) (held s P) b n f g (is_unplaced s P) (known s P) places (granted-is s m b n f g x P pooled h))
