-- What the pool knows: its blocks with their counts of holds, and the numbers given up that aren't named yet.
use Rattle.std.specs.Prelude.{ℕ, ◌==◌, Bool, true, false, ◌&&◌, not, nat_lt, List, [], ◌∷◌, ◌++◌, take, reverse, filter, map, sum_by, Result, Ok, Err}
use Rattle.std.specs.Prelude.{if◌then◌else◌}
use Rattle.std.specs.List.{list_any}
use Rattle.pool_ledger.specs.Grants.{Block, Answer, Refused, Granted, granted, free_in_order, has_number}
use Rattle.pool_ledger.specs.declared.grants.Grant.{Grant}
use Rattle.pool_ledger.specs.declared.grants.Refused.{Refused as RefusedAnswer}

-- a block, and how many holds it has
pub record Known : Type 0 where
  pub number : ℕ
  pub size : ℕ
  pub count : ℕ

-- The known blocks stand in the order of their numbers.
pub record Ledger : Type 0 where
  pub limit : ℕ
  pub room : ℕ
  pub known : List Known
  pub unnamed : List ℕ

-- a pool that knows no block
abbrev pub empty_ledger : (limit room : ℕ) → Ledger
empty_ledger limit room = record { limit = limit; room = room; known = []; unnamed = [] }

-- the block without its count
abbrev pub block_of : Known → Block
block_of k = record { number = k.number; size = k.size }

-- the known blocks
abbrev pub blocks : Ledger → List Block
blocks p = map block_of p.known

-- the holds of the block with this number, 0 where there is none
abbrev pub count_of : List Known → ℕ → ℕ
count_of [] b = 0
count_of (k ∷ ks) b = if k.number == b then k.count else count_of ks b

-- the holds of a block of the pool
abbrev pub refs : Ledger → ℕ → ℕ
refs p b = count_of p.known b

-- no one holds it
abbrev pub is_free : Ledger → ℕ → Bool
is_free p b = refs p b == 0

-- the bytes of the blocks that have a hold
abbrev pub held : Ledger → ℕ
held p = sum_by (λ k. k.size) (filter (λ k. nat_lt 0 k.count) p.known)

-- the grant rules at this pool
abbrev pub grant_for : ℕ → Ledger → Answer
grant_for n p = granted p.limit n (held p) (is_free p) (blocks p)

-- the answer of a call
abbrev pub answered : ℕ → Answer → Result Grant RefusedAnswer
answered held Refused = Err (record { held = held })
answered held (Granted b n fresh given) = Ok (record { block = b; size = n; fresh = fresh; given_up = given })

-- the answer grants a new block
abbrev pub needs_room : Answer → Bool
needs_room Refused = false
needs_room (Granted b n fresh given) = fresh

-- the same with so many holds, where it is the block with this number
abbrev pub recounted : (b count : ℕ) → Known → Known
recounted b count k = if k.number == b then record k { count = count } else k

-- these with so many holds of the block with this number
abbrev pub with_count : (b count : ℕ) → List Known → List Known
with_count b count ks = map (recounted b count) ks

-- these with one more, in the order of numbers
abbrev pub with_known : Known → List Known → List Known
with_known new [] = new ∷ []
with_known new (k ∷ ks) = if nat_lt k.number new.number then k ∷ with_known new ks else new ∷ k ∷ ks

-- these without the given blocks
abbrev pub without : List Block → List Known → List Known
without gone ks = filter (λ k. not (has_number k.number gone)) ks

-- the numbers of these blocks
abbrev pub numbers : List Block → List ℕ
numbers bs = map (λ b. b.number) bs

-- the pool with so many holds of the block
abbrev pub with_refs : (b count : ℕ) → Ledger → Ledger
with_refs b count p = record p { known = with_count b count p.known }

-- the pool with a new block that has one hold
abbrev pub with_block : (b size : ℕ) → Ledger → Ledger
with_block b n p = record p { known = with_known (record { number = b; size = n; count = 1 }) p.known }

-- the pool without these blocks, which wait to be named
abbrev pub without_blocks : List Block → Ledger → Ledger
without_blocks gone p = record p { known = without gone p.known; unnamed = p.unnamed ++ numbers gone }

-- the free blocks, the largest first
abbrev pub largest_first : Ledger → List Block
largest_first p = reverse (free_in_order (is_free p) (blocks p))

-- whether one of these blocks has this number and this size
abbrev pub has_block : (b size : ℕ) → List Block → Bool
has_block b size bs = list_any (λ c. (c.number == b) && (c.size == size)) bs

-- the pool after an answer: the granted block has one hold, and the given blocks wait to be named
abbrev pub after : Ledger → Answer → Ledger
after p Refused = p
after p (Granted b n false given) = with_refs b 1 p
after p (Granted b n true given) = with_block b n (without_blocks (take given (largest_first p)) p)
