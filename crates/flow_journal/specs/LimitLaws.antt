-- LAWS of the limit of the pool: the known blocks never pass it, and no free block is given up that needn't be.
use Rattle.std.specs.Prelude.{◌≡◌, ◌≢◌, ℕ, ◌+◌, ◌≤◌, ◌<◌, true, Bool, List}
use Rattle.pool_ledger.specs.Grants.{Block, sizes, largest_free, given_up}
use Rattle.flow_journal.specs.Setting.{Setting}
use Rattle.flow_journal.specs.Pasts.{Past}
use Rattle.flow_journal.specs.Accounts.{known}
use Rattle.flow_journal.specs.Histories.{is_legal}

pub record LimitLaws : Type 0 where
  -- with a limit the sizes of the known blocks are within it at each moment
  pub within : (s : Setting) (P : Past) → s.pooled ≡ true → s.limit ≢ 0 → is_legal s P ≡ true → sizes (known s P) ≤ s.limit
  -- while fewer of the largest free blocks are given up, what is left and the new block pass the limit
  pub needed : (limit n j : ℕ) (is_free : ℕ → Bool) (bs : List Block) → j < given_up limit n is_free bs
      → limit + sizes (largest_free j is_free bs) < sizes bs + n
