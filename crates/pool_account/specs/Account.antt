-- What the ledger of a pool has to do with the past of a run.
use Rattle.std.specs.Prelude.{◌≡◌, ℕ, ◌+◌, Bool, true, false, List, []}
use Rattle.pool_ledger.specs.Grants.{largest_free}
use Rattle.pool_ledger.specs.GrantLaws.{SameBlocks}
use Rattle.pool_ledger.specs.Ledger.{Ledger, blocks, numbers}
use Rattle.pool_ledger.specs.Ledger as ledger
use Rattle.flow_journal.specs.Setting.{Setting}
use Rattle.flow_journal.specs.Pasts.{Past}
use Rattle.flow_journal.specs.Accounts.{refs, is_unplaced, known}
use Rattle.flow_journal.specs.AccountLaws.{times_among}

-- The ledger accounts for the past while these blocks are carried from one place to another: it knows the same blocks, and a block has
-- a hold for each place that has it, and one for each time that it is carried.
pub record IsAccount (s : Setting) (P : Past) (carried : List ℕ) (p : Ledger) : Type 0 where
  pub limit : p.limit ≡ s.limit
  pub same : SameBlocks (known s P) (blocks p)
  pub counts : (b : ℕ) → ledger.refs p b ≡ refs s P b + times_among b carried
  pub named : p.unnamed ≡ []

-- each number stands equally often in both
abbrev pub SameTimes : List ℕ → List ℕ → Type 0
SameTimes bs cs = (b : ℕ) → times_among b bs ≡ times_among b cs

-- the ledger once all that was given up is named
abbrev pub all_named : Ledger → Ledger
all_named p = record p { unnamed = [] }

-- the numbers of the blocks that are given up for a grant: for a new block so many free ones, the largest first
abbrev pub given_up_for : Setting → Past → (fresh : Bool) → (given : ℕ) → List ℕ
given_up_for s P true g = numbers (largest_free g (is_unplaced s P) (known s P))
given_up_for s P false g = []
