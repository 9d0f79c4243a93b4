-- LAWS of what a ledger tells that accounts for a past.
use Rattle.std.specs.Prelude.{◌≡◌, ◌≢◌, ℕ, ◌+◌, ◌<◌, ◌≤◌, Bool, true, false, List, [], ◌∷◌, length}
use Rattle.std.specs.List.{list_all}
use Rattle.pool_ledger.specs.Grants.{Granted, largest_free}
use Rattle.pool_ledger.specs.Ledger.{Ledger, numbers, grant_for, is_free, after}
use Rattle.pool_ledger.specs.Ledger as ledger
use Rattle.flow_journal.specs.Setting.{Setting}
use Rattle.flow_journal.specs.Pasts.{Past}
use Rattle.flow_journal.specs.Accounts.{is_unplaced, known, held, grant}
use Rattle.flow_journal.specs.AccountLaws.{times_among}
use Rattle.flow_journal.specs.LengthLaws.{threads}
use Rattle.flow_journal.specs.Histories.{is_legal}
use Rattle.pool_account.specs.Account.{IsAccount}

pub record TellLaws : Type 0 where
  -- where nothing is carried: what a request is granted, how much is held, and which blocks are free
  pub grants : (s : Setting) (P : Past) (n : ℕ) (p : Ledger) → s.pooled ≡ true → is_legal s P ≡ true → IsAccount s P [] p → grant_for n p ≡ grant s P n
  pub held : (s : Setting) (P : Past) (p : Ledger) → is_legal s P ≡ true → IsAccount s P [] p → ledger.held p ≡ held s P
  pub free : (s : Setting) (P : Past) (b : ℕ) (p : Ledger) → IsAccount s P [] p → is_free p b ≡ is_unplaced s P b
  -- the blocks that a grant gives up, none of which has a place
  pub given : (s : Setting) (P : Past) (b n g : ℕ) (p : Ledger) → IsAccount s P [] p
      → (after p (Granted b n true g)).unnamed ≡ numbers (largest_free g (is_unplaced s P) (known s P))
  pub given_unplaced : (s : Setting) (P : Past) (b n : ℕ) (f : Bool) (g : ℕ) (p : Ledger) → IsAccount s P [] p
      → list_all (is_unplaced s P) (after p (Granted b n f g)).unnamed ≡ true
  -- a block that is carried or has a place has a hold
  pub carried : (s : Setting) (P : Past) (b : ℕ) (p : Ledger) (carried : List ℕ) → 0 < times_among b carried → IsAccount s P carried p → 0 < ledger.refs p b
  pub placed : (s : Setting) (P : Past) (b : ℕ) (p : Ledger) (carried : List ℕ) → is_unplaced s P b ≡ false → IsAccount s P carried p → 0 < ledger.refs p b
  -- the last hold of a carried block: no place has it, and it is carried once. Else, carried once, it has a place
  pub last : (s : Setting) (P : Past) (b : ℕ) (p : Ledger) (carried : List ℕ) → ledger.refs p b ≡ 1 → IsAccount s P (b ∷ carried) p → is_unplaced s P b ≡ true
  pub last_carried : (s : Setting) (P : Past) (b : ℕ) (p : Ledger) (carried : List ℕ) → ledger.refs p b ≡ 1
      → IsAccount s P (b ∷ carried) p → times_among b carried ≡ 0
  pub not_last : (s : Setting) (P : Past) (b : ℕ) (p : Ledger) (carried : List ℕ) → ledger.refs p b ≢ 1 → times_among b carried ≡ 0
      → IsAccount s P (b ∷ carried) p → is_unplaced s P b ≡ false
  -- each entry adds one block at most, and one place of a block
  pub few_known : (s : Setting) (P : Past) (p : Ledger) (carried : List ℕ) → IsAccount s P carried p → length p.known ≤ length P
  pub few_holds : (s : Setting) (P : Past) (b : ℕ) (p : Ledger) (carried : List ℕ) → is_legal s P ≡ true → IsAccount s P carried p
      → ledger.refs p b ≤ length P + length carried
  -- so both fit with 65,536 frames, 32 nodes and 64 threads in all at most
  pub known_fit : (s : Setting) (P : Past) (p : Ledger) (carried : List ℕ) → length s.ids ≤ 65536 → length s.nodes ≤ 32 → threads s ≤ 64 → is_legal s P ≡ true
      → IsAccount s P carried p → length p.known < 4294967295
  pub holds_fit : (s : Setting) (P : Past) (b : ℕ) (p : Ledger) (carried : List ℕ) → length s.ids ≤ 65536 → length s.nodes ≤ 32 → threads s ≤ 64
      → length carried ≤ 65536 → is_legal s P ≡ true → IsAccount s P carried p → ledger.refs p b < 4294967295
