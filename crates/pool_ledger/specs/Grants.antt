-- Which block a request is granted, and which blocks are given up for it. A block is its number and its size in bytes.
use Rattle.std.specs.Prelude.{ℕ, zero, suc, ◌+◌, ◌-◌, ◌==◌, Bool, true, false, ◌&&◌, ◌||◌, not, nat_lt, nat_le, max, List, [], ◌∷◌, filter, map, find}
use Rattle.std.specs.Prelude.{reverse, take, sum_by, Option, Some, None, if◌then◌else◌}
use Rattle.std.specs.List.{list_any}

pub record Block : Type 0 where
  pub number : ℕ
  pub size : ℕ

-- the bytes of these blocks together
abbrev pub sizes : List Block → ℕ
sizes bs = sum_by (λ b. b.size) bs

-- the smaller block comes first, and of one size the one with the lesser number
abbrev pub comes_first : Block → Block → Bool
comes_first a b = nat_lt a.size b.size || ((a.size == b.size) && nat_lt a.number b.number)

-- these with b before the first one that doesn't come before it
abbrev pub placed : Block → List Block → List Block
placed b [] = b ∷ []
placed b (c ∷ cs) = if comes_first c b then c ∷ placed b cs else b ∷ c ∷ cs

-- these in order
abbrev pub in_order : List Block → List Block
in_order [] = []
in_order (b ∷ bs) = placed b (in_order bs)

-- the free ones in order, the smallest first
abbrev pub free_in_order : (ℕ → Bool) → List Block → List Block
free_in_order is_free bs = in_order (filter (λ b. is_free b.number) bs)

-- the smallest free one with at least n bytes, and of one size the one with the least number
abbrev pub smallest_fit : (n : ℕ) → (ℕ → Bool) → List Block → Option Block
smallest_fit n is_free bs = find (λ b. nat_le n b.size) (free_in_order is_free bs)

-- the k largest free ones, the largest first, and of one size the one with the greatest number
abbrev pub largest_free : (k : ℕ) → (ℕ → Bool) → List Block → List Block
largest_free k is_free bs = take k (reverse (free_in_order is_free bs))

-- whether one of these has the number
abbrev pub has_number : ℕ → List Block → Bool
has_number k bs = list_any (λ b. b.number == k) bs

-- what stands once the k largest free ones are given up
abbrev pub left_after : (k : ℕ) → (ℕ → Bool) → List Block → List Block
left_after k is_free bs = filter (λ b. not (has_number b.number (largest_free k is_free bs))) bs

-- so many bytes are more than the limit; 0 is no limit
abbrev pub passes : (limit bytes : ℕ) → Bool
passes limit bytes = not (limit == 0) && nat_lt limit bytes

-- How many of these, from the front on, have to go until the blocks that stand, with n bytes more, don't pass the limit.
abbrev pub count_to_give : (limit n standing : ℕ) → List Block → ℕ
count_to_give limit n standing [] = 0
count_to_give limit n standing (b ∷ bs) = if passes limit (standing + n) then count_to_give limit n (standing - b.size) bs + 1 else 0

-- how many free blocks are given up for a new block of n bytes
abbrev pub given_up : (limit n : ℕ) → (ℕ → Bool) → List Block → ℕ
given_up limit n is_free bs = count_to_give limit n (sizes bs) (reverse (free_in_order is_free bs))

-- a number above all of these
abbrev pub above : List ℕ → ℕ
above [] = 0
above (k ∷ ks) = max (k + 1) (above ks)

-- the least number from k on that isn't among these, in so many steps at most
abbrev pub missing_from : (steps k : ℕ) → List ℕ → ℕ
missing_from zero k ks = k
missing_from (suc n) k ks = if list_any (λ j. j == k) ks then missing_from n (k + 1) ks else k

-- the least number that isn't among these
abbrev pub least_missing : List ℕ → ℕ
least_missing ks = missing_from (above ks) 0 ks

-- the least number that names none of these blocks
abbrev pub new_number : List Block → ℕ
new_number bs = least_missing (map (λ b. b.number) bs)

-- Refused, or a block, its size, whether it is a new one, and how many blocks are given up for it.
pub data Answer : Type 0 where
  Refused : Answer
  Granted : (block size : ℕ) → (fresh : Bool) → (given : ℕ) → Answer

-- a new block of n bytes, once so many blocks are given up
abbrev pub fresh_grant : (n given : ℕ) → (ℕ → Bool) → List Block → Answer
fresh_grant n given is_free bs = Granted (new_number (left_after given is_free bs)) n true given

-- the block that fits, or else a new one
abbrev pub fit_or_fresh : (limit n : ℕ) → (ℕ → Bool) → List Block → Option Block → Answer
fit_or_fresh limit n is_free bs (Some b) = Granted b.number b.size false 0
fit_or_fresh limit n is_free bs None = fresh_grant n (given_up limit n is_free bs) is_free bs

-- what a request of n bytes is granted, where these are the known blocks and so many bytes are held
abbrev pub granted : (limit n held : ℕ) → (ℕ → Bool) → List Block → Answer
granted limit n held is_free bs =
    if passes limit (held + n) then Refused else fit_or_fresh limit n is_free bs (smallest_fit n is_free bs)

-- the known blocks after an answer: a new block comes in once the given ones are gone
abbrev pub known_after : (ℕ → Bool) → Answer → List Block → List Block
known_after is_free Refused bs = bs
known_after is_free (Granted b n false given) bs = bs
known_after is_free (Granted b n true given) bs = record { number = b; size = n } ∷ left_after given is_free bs
