-- LAWS of a ledger that goes on accounting for the same past while holds are added and dropped.
use Rattle.std.specs.Prelude.{ℕ, ◌+◌, ◌-◌, ◌<◌, List, [], ◌∷◌, ◌++◌}
use Rattle.std.specs.List.Sorted.{IsPermutation}
use Rattle.pool_ledger.specs.Ledger.{Ledger, empty_ledger, with_refs}
use Rattle.pool_ledger.specs.Ledger as ledger
use Rattle.flow_journal.specs.Setting.{Setting}
use Rattle.flow_journal.specs.Pasts.{Past}
use Rattle.pool_account.specs.Account.{IsAccount, SameTimes}

pub record HoldLaws : Type 0 where
  -- a pool that knows no block accounts for the beginning
  pub start : (s : Setting) (room : ℕ) → IsAccount s [] [] (empty_ledger s.limit room)
  -- room is no part of the account
  pub room : (s : Setting) (P : Past) (room : ℕ) (p : Ledger) (carried : List ℕ) → IsAccount s P carried p → IsAccount s P carried (record p { room = room })
  -- a hold that is added is carried, and one that is carried can be dropped
  pub hold : (s : Setting) (P : Past) (b : ℕ) (p : Ledger) (carried : List ℕ) → 0 < ledger.refs p b → IsAccount s P carried p
      → IsAccount s P (b ∷ carried) (with_refs b (ledger.refs p b + 1) p)
  pub drop : (s : Setting) (P : Past) (b : ℕ) (p : Ledger) (carried : List ℕ) → IsAccount s P (b ∷ carried) p
      → IsAccount s P carried (with_refs b (ledger.refs p b - 1) p)
  pub drop_inside : (s : Setting) (P : Past) (b : ℕ) (p : Ledger) (front back : List ℕ) → IsAccount s P (front ++ b ∷ back) p
      → IsAccount s P (front ++ back) (with_refs b (ledger.refs p b - 1) p)
  -- the order of what is carried is no part of it either
  pub counted : (s : Setting) (P : Past) (p : Ledger) (carried others : List ℕ) → SameTimes carried others → IsAccount s P carried p → IsAccount s P others p
  pub permuted : (s : Setting) (P : Past) (p : Ledger) (carried others : List ℕ) → IsPermutation carried others
      → IsAccount s P carried p → IsAccount s P others p
