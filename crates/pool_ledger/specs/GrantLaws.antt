-- The order in which the known blocks are listed changes nothing of their order by size, and so nothing of a grant.
use Rattle.std.specs.Prelude.{◌≡◌, ℕ, zero, suc, ◌<◌, ◌+◌, Bool, true, false, not, ◌||◌, nat_lt, nat_le, ◌==◌, max, Option, Some, None, List, [], ◌∷◌}
use Rattle.std.specs.Prelude.{filter, find, map, take, reverse, refl, if◌then◌else◌}
use Rattle.std.specs.List.{list_any}
use Rattle.std.proofs.Common.{◌⊎◌, subst, inl, inr, ap, sym, ◌∙◌, arith}
use Rattle.std.proofs.lemmas.Bool.{lt-ltb, le-ltb, eq-eqb, ne_eqb, cases_order, or_right, cases_Bool}
use Rattle.std.proofs.lemmas.List.Sums.{sum_by-cons}
use Rattle.pool_ledger.specs.Grants.{Block, Refused, Granted, sizes, comes_first, placed, in_order, free_in_order, smallest_fit, largest_free, left_after}
use Rattle.pool_ledger.specs.Grants.{has_number, passes, count_to_give, given_up, above, missing_from, new_number, fresh_grant, fit_or_fresh, granted}

-- a stands before b: it is smaller, or of one size it has the lesser number
abbrev pub StandsBefore : Block → Block → Type 0
StandsBefore a b = (a.size < b.size) ⊎ ((a.size ≡ b.size) × (a.number < b.number))

comes_first-true : (a b : Block) → StandsBefore a b → comes_first a b ≡ true
comes_first-true a b (inl less) = rw (lt-ltb a.size b.size less)
comes_first-true a b (inr same) = rw (eq-eqb a.size b.size same.0, lt-ltb a.number b.number same.1) (or_right (nat_lt a.size b.size) true refl)

comes_first-false : (a b : Block) → StandsBefore b a → comes_first a b ≡ false
comes_first-false a b (inl less) = rw (le-ltb a.size b.size (omega arith), ne_eqb a.size b.size (λ e. omega arith))
comes_first-false a b (inr same) = rw (le-ltb a.size b.size (omega arith), eq-eqb a.size b.size (omega arith), le-ltb a.number b.number (omega arith))

comes_first-itself : (a : Block) → comes_first a a ≡ false
comes_first-itself a = rw (le-ltb a.size a.size (omega arith), eq-eqb a.size a.size refl, le-ltb a.number a.number (omega arith))

through : (a b c : Block) → StandsBefore a b → StandsBefore b c → StandsBefore a c
through a b c (inl p) (inl q) = inl (omega arith)
through a b c (inl p) (inr q) = inl (omega arith)
through a b c (inr p) (inl q) = inl (omega arith)
through a b c (inr p) (inr q) = inr (omega arith, omega arith)

same_block : (a b : Block) → a.size ≡ b.size → a.number ≡ b.number → a ≡ b
same_block a b s n = ap (λ i. record { number = i; size = a.size }) n ∙ ap (λ i. record { number = b.number; size = i }) s

which_first : (a b : Block) → (a ≡ b) ⊎ (StandsBefore a b ⊎ StandsBefore b a)
which_first a b =
    elim (cases_order a.size b.size) [
      | inl s ↦
          elim (cases_order a.number b.number) [
            | inl n ↦ inl (same_block a b s n)
            | inr (inl n) ↦ inr (inl (inr (s, n)))
            | inr (inr n) ↦ inr (inr (inr (sym s, n)))
          ]
      | inr (inl s) ↦ inr (inl (inl s))
      | inr (inr s) ↦ inr (inr (inl s))
    ]

past : (a c : Block) (cs : List Block) → comes_first c a ≡ true → placed a (c ∷ cs) ≡ c ∷ placed a cs
past a c cs h = rw h

here : (a c : Block) (cs : List Block) → comes_first c a ≡ false → placed a (c ∷ cs) ≡ a ∷ c ∷ cs
here a c cs h = rw h

at_or_after : (a b c : Block) (cs : List Block) → StandsBefore a b → comes_first c a ≡ false → placed a (placed b (c ∷ cs)) ≡ placed b (placed a (c ∷ cs))
at_or_after a b c cs h ca =
    elim (cases_Bool (comes_first c b)) [
      | inl cb ↦
          ap (placed a) (past b c cs cb) ∙ here a c (placed b cs) ca ∙ ap (λ xs. a ∷ xs) (sym (past b c cs cb))
          ∙ sym (past b a (c ∷ cs) (comes_first-true a b h)) ∙ ap (placed b) (sym (here a c cs ca))
      | inr cb ↦
          ap (placed a) (here b c cs cb) ∙ here a b (c ∷ cs) (comes_first-false b a h) ∙ ap (λ xs. a ∷ xs) (sym (here b c cs cb))
          ∙ sym (past b a (c ∷ cs) (comes_first-true a b h)) ∙ ap (placed b) (sym (here a c cs ca))
    ]

placed_both : (a b : Block) (cs : List Block) → StandsBefore a b → placed a (placed b cs) ≡ placed b (placed a cs)
placed_both a b [] h = here a b [] (comes_first-false b a h) ∙ sym (past b a [] (comes_first-true a b h))
placed_both a b (c ∷ cs) h =
    elim (which_first c a) [
      | inl same ↦ at_or_after a b c cs h (ap (λ x. comes_first x a) same ∙ comes_first-itself a)
      | inr (inl before) ↦
          let ca = comes_first-true c a before in
          let cb = comes_first-true c b (through c a b before h) in
          ap (placed a) (past b c cs cb) ∙ past a c (placed b cs) ca ∙ ap (λ xs. c ∷ xs) (placed_both a b cs h)
          ∙ sym (past b c (placed a cs) cb) ∙ ap (placed b) (sym (past a c cs ca))
      | inr (inr later) ↦ at_or_after a b c cs h (comes_first-false c a later)
    ]

-- two blocks are placed in either order
pub placed-swap : (a b : Block) (cs : List Block) → placed a (placed b cs) ≡ placed b (placed a cs)
placed-swap a b cs =
    elim (which_first a b) [
      | inl same ↦ ap (λ x. placed a (placed x cs)) (sym same) ∙ ap (λ x. placed x (placed a cs)) same
      | inr (inl less) ↦ placed_both a b cs less
      | inr (inr more) ↦ sym (placed_both b a cs more)
    ]

-- The same blocks in another order: equal lists, one more block in front of both, two front blocks exchanged, and what
-- follows by two such steps.
pub data SameBlocks : List Block → List Block → Type 0 where
  same_none : SameBlocks [] []
  same_front : (b : Block) (bs cs : List Block) → SameBlocks bs cs → SameBlocks (b ∷ bs) (b ∷ cs)
  same_swap : (a b : Block) (bs : List Block) → SameBlocks (a ∷ b ∷ bs) (b ∷ a ∷ bs)
  same_trans : (bs cs ds : List Block) → SameBlocks bs cs → SameBlocks cs ds → SameBlocks bs ds

pub in_order-same : {bs cs : List Block} → SameBlocks bs cs → in_order bs ≡ in_order cs
in_order-same same_none = refl
in_order-same (same_front b bs cs h) = ap (placed b) (in_order-same h)
in_order-same (same_swap a b bs) = placed-swap a b (in_order bs)
in_order-same (same_trans bs cs ds h k) = in_order-same h ∙ in_order-same k

pub same_itself : (bs : List Block) → SameBlocks bs bs
same_itself [] = same_none
same_itself (b ∷ bs) = same_front b bs bs (same_itself bs)

pub same_by : (bs cs : List Block) → bs ≡ cs → SameBlocks bs cs
same_by bs cs e = subst (SameBlocks bs) e (same_itself bs)

filter_front : (p : Block → Bool) (b : Block) (bs cs : List Block) → SameBlocks (filter p bs) (filter p cs) → SameBlocks (filter p (b ∷ bs)) (filter p (b ∷ cs))
filter_front p b bs cs h = elim (cases_Bool (p b)) [ inl t ↦ rw t (same_front b (filter p bs) (filter p cs) h) | inr f ↦ rw f h ]

filter_swap : (p : Block → Bool) (a b : Block) (bs : List Block) → SameBlocks (filter p (a ∷ b ∷ bs)) (filter p (b ∷ a ∷ bs))
filter_swap p a b bs =
    elim (cases_Bool (p a)) [
      | inl s ↦ elim (cases_Bool (p b)) [ inl t ↦ rw (s, t) (same_swap a b (filter p bs)) | inr f ↦ rw (s, f) (same_itself (a ∷ filter p bs)) ]
      | inr s ↦ elim (cases_Bool (p b)) [ inl t ↦ rw (s, t) (same_itself (b ∷ filter p bs)) | inr f ↦ rw (s, f) (same_itself (filter p bs)) ]
    ]

pub filter-same : (p : Block → Bool) {bs cs : List Block} → SameBlocks bs cs → SameBlocks (filter p bs) (filter p cs)
filter-same p same_none = same_none
filter-same p (same_front b bs cs h) = filter_front p b bs cs (filter-same p h)
filter-same p (same_swap a b bs) = filter_swap p a b bs
filter-same p (same_trans bs cs ds h k) = same_trans (filter p bs) (filter p cs) (filter p ds) (filter-same p h) (filter-same p k)

pub free_in_order-same : (is_free : ℕ → Bool) {bs cs : List Block} → SameBlocks bs cs → free_in_order is_free bs ≡ free_in_order is_free cs
free_in_order-same is_free h = in_order-same (filter-same (λ b. is_free b.number) h)

pub sizes-same : {bs cs : List Block} → SameBlocks bs cs → sizes bs ≡ sizes cs
sizes-same same_none = refl
sizes-same (same_front b bs cs h) = let rest = sizes-same h in omega (arith, sum_by-cons (λ (x : Block). x.size) b bs, sum_by-cons (λ (x : Block). x.size) b cs)
sizes-same (same_swap a b bs) =
    omega (
      arith,
      sum_by-cons (λ (x : Block). x.size) a (b ∷ bs),
      sum_by-cons (λ (x : Block). x.size) b bs,
      sum_by-cons (λ (x : Block). x.size) b (a ∷ bs),
      sum_by-cons (λ (x : Block). x.size) a bs,
    )
sizes-same (same_trans bs cs ds h k) = sizes-same h ∙ sizes-same k

abbrev numbers : List Block → List ℕ
numbers bs = map (λ (b : Block). b.number) bs

or_swap : (x y z : Bool) → (x || (y || z)) ≡ (y || (x || z))
or_swap true true z = refl
or_swap true false z = refl
or_swap false true z = refl
or_swap false false z = refl

is_in-same : (k : ℕ) {bs cs : List Block} → SameBlocks bs cs → list_any (λ j. j == k) (numbers bs) ≡ list_any (λ j. j == k) (numbers cs)
is_in-same k same_none = refl
is_in-same k (same_front b bs cs h) = ap (λ t. (b.number == k) || t) (is_in-same k h)
is_in-same k (same_swap a b bs) = or_swap (a.number == k) (b.number == k) (list_any (λ j. j == k) (numbers bs))
is_in-same k (same_trans bs cs ds h i) = is_in-same k h ∙ is_in-same k i

above-same : {bs cs : List Block} → SameBlocks bs cs → above (numbers bs) ≡ above (numbers cs)
above-same same_none = refl
above-same (same_front b bs cs h) = ap (λ m. max (b.number + 1) m) (above-same h)
above-same (same_swap a b bs) = omega arith
above-same (same_trans bs cs ds h k) = above-same h ∙ above-same k

missing_from-same : (steps k : ℕ) {bs cs : List Block} → SameBlocks bs cs → missing_from steps k (numbers bs) ≡ missing_from steps k (numbers cs)
missing_from-same zero k h = refl
missing_from-same (suc n) k {bs} {cs} h = ap (λ t. if t then missing_from n (k + 1) (numbers bs) else k) (is_in-same k h)
    ∙ ap (λ m. if list_any (λ j. j == k) (numbers cs) then m else k) (missing_from-same n (k + 1) h)

pub new_number-same : {bs cs : List Block} → SameBlocks bs cs → new_number bs ≡ new_number cs
new_number-same {bs} {cs} h = missing_from-same (above (numbers bs)) 0 h ∙ ap (λ n. missing_from n 0 (numbers cs)) (above-same h)

pub left_after-same : (k : ℕ) (is_free : ℕ → Bool) {bs cs : List Block} → SameBlocks bs cs → SameBlocks (left_after k is_free bs) (left_after k is_free cs)
left_after-same k is_free {bs} {cs} h =
    let gone = ap (λ xs. take k (reverse xs)) (free_in_order-same is_free h) in
    same_trans (left_after k is_free bs) (filter (λ b. not (has_number b.number (largest_free k is_free bs))) cs) (left_after k is_free cs)
    (filter-same (λ b. not (has_number b.number (largest_free k is_free bs))) h)
    (same_by _ (left_after k is_free cs) (ap (λ xs. filter (λ b. not (has_number b.number xs)) cs) gone))

fit_or_fresh-same : (limit n : ℕ) (is_free : ℕ → Bool) (bs cs : List Block) (o u : Option Block) → o ≡ u
    → fresh_grant n (given_up limit n is_free bs) is_free bs ≡ fresh_grant n (given_up limit n is_free cs) is_free cs
    → fit_or_fresh limit n is_free bs o ≡ fit_or_fresh limit n is_free cs u
fit_or_fresh-same limit n is_free bs cs o u e f = fit_first o f ∙ ap (fit_or_fresh limit n is_free cs) e
  where
    fit_first : (o : Option Block) → fresh_grant n (given_up limit n is_free bs) is_free bs ≡ fresh_grant n (given_up limit n is_free cs) is_free cs
        → fit_or_fresh limit n is_free bs o ≡ fit_or_fresh limit n is_free cs o
    fit_first (Some b) f = refl
    fit_first None f = f

-- a grant does not depend on the order in which the known blocks are listed
pub granted-same : (limit n held : ℕ) (is_free : ℕ → Bool) {bs cs : List Block} → SameBlocks bs cs
    → granted limit n held is_free bs ≡ granted limit n held is_free cs
granted-same limit n held is_free {bs} {cs} h =
    let order = free_in_order-same is_free h in
    let fit : smallest_fit n is_free bs ≡ smallest_fit n is_free cs = ap (find (λ b. nat_le n b.size)) order in
    let given : given_up limit n is_free bs ≡ given_up limit n is_free cs =
    ap (λ m. count_to_give limit n m (reverse (free_in_order is_free bs))) (sizes-same h) ∙ ap (λ xs. count_to_give limit n (sizes cs) (reverse xs)) order in
    let fresh : fresh_grant n (given_up limit n is_free bs) is_free bs ≡ fresh_grant n (given_up limit n is_free cs) is_free cs =
    ap (λ k. fresh_grant n k is_free bs) given
    ∙ ap (λ m. Granted m n true (given_up limit n is_free cs)) (new_number-same (left_after-same (given_up limit n is_free cs) is_free h)) in
    ap (λ a. if passes limit (held + n) then Refused else a)
    (fit_or_fresh-same limit n is_free bs cs (smallest_fit n is_free bs) (smallest_fit n is_free cs) fit fresh)
