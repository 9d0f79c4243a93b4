-- LAWS of one more entry: which blocks have to be carried for it, and which are carried after it, while the ledger stays as it is. Only a
-- grant changes the ledger, as the pool does.
use Rattle.std.specs.Prelude.{◌≡◌, ℕ, Bool, true, false, List, [], ◌∷◌, ◌++◌, flat_map, Some}
use Rattle.pool_ledger.specs.Grants.{Granted}
use Rattle.pool_ledger.specs.Ledger.{Ledger, after}
use Rattle.flow_journal.specs.declared.entry.Entry.{Entry}
use Rattle.flow_journal.specs.declared.entry.Entry.TheVariants.{Load, Issue, Emit, Accept, Take, TakeBlock, PoolDrop, Put, SortDrop, Settle, Saved, Reclaim}
use Rattle.flow_journal.specs.declared.entry.Why.{Why}
use Rattle.flow_journal.specs.Setting.{Setting, Watches, node, may_sort, is_sorted}
use Rattle.flow_journal.specs.Pasts.{Past, frame}
use Rattle.flow_journal.specs.Hands.{hand}
use Rattle.flow_journal.specs.Rings.{ring}
use Rattle.flow_journal.specs.Unsaved.{is_file}
use Rattle.flow_journal.specs.Accounts.{block_of, blocks_in_hand}
use Rattle.flow_journal.specs.AccountLaws.{kept_at, moves_blocks, keeps_counts}
use Rattle.flow_journal.specs.Histories.{is_legal}
use Rattle.pool_account.specs.Account.{IsAccount, SameTimes, all_named}

-- GRANTS, with nothing carried. Once the given ones are named, the new ledger accounts for the new past.
pub record GrantLaws : Type 0 where
  pub load : (s : Setting) (P : Past) (r k b n : ℕ) (f : Bool) (g : ℕ) (x : Bool) (p : Ledger) → s.pooled ≡ true → is_legal s (Load r k b n f g x ∷ P) ≡ true
      → IsAccount s P [] p → IsAccount s (Load r k b n f g x ∷ P) [] (all_named (after p (Granted b n f g)))
  pub take_block : (s : Setting) (P : Past) (r v m k b n : ℕ) (f : Bool) (g : ℕ) (x : Bool) (p : Ledger) → s.pooled ≡ true
      → is_legal s (TakeBlock f x r v m k b n g ∷ P) ≡ true → IsAccount s P [] p
      → IsAccount s (TakeBlock f x r v m k b n g ∷ P) [] (all_named (after p (Granted b n f g)))

-- ARRAYS. An array that is accepted had its block carried there. That of one which is issued, dropped, saved or goes out of a sort list is
-- carried from then on, that of a reclaimed grant too, and those of a ring that is settled.
pub record ArrayLaws : Type 0 where
  pub accept : (s : Setting) (P : Past) (v m k : ℕ) (p : Ledger) (bs carried : List ℕ) → block_of P (frame m k) ≡ bs → is_legal s (Accept v m k ∷ P) ≡ true
      → IsAccount s P (bs ++ carried) p → IsAccount s (Accept v m k ∷ P) carried p
  pub issue : (s : Setting) (P : Past) (r k : ℕ) (p : Ledger) (bs carried : List ℕ) → block_of P (frame 0 k) ≡ bs → is_legal s (Issue r k ∷ P) ≡ true
      → IsAccount s P carried p → IsAccount s (Issue r k ∷ P) (bs ++ carried) p
  pub pool_drop : (s : Setting) (P : Past) (r v m k n h : ℕ) (p : Ledger) (bs carried : List ℕ) → block_of P (frame m k) ≡ bs
      → is_legal s (PoolDrop r v m k n h ∷ P) ≡ true → IsAccount s P carried p → IsAccount s (PoolDrop r v m k n h ∷ P) (bs ++ carried) p
  pub saved : (s : Setting) (P : Past) (r v m k : ℕ) (p : Ledger) (bs carried : List ℕ) → block_of P (frame m k) ≡ bs → is_legal s (Saved r v m k ∷ P) ≡ true
      → IsAccount s P carried p → IsAccount s (Saved r v m k ∷ P) (bs ++ carried) p
  pub sort_drop : (s : Setting) (P : Past) (v m k : ℕ) (p : Ledger) (bs carried : List ℕ) → is_sorted s v ≡ true → block_of P (frame m k) ≡ bs
      → is_legal s (SortDrop v m k ∷ P) ≡ true → IsAccount s P carried p → IsAccount s (SortDrop v m k ∷ P) (bs ++ carried) p
  pub emit_sorted : (s : Setting) (P : Past) (v m k : ℕ) (why : Why) (p : Ledger) (bs carried : List ℕ) → is_sorted s v ≡ true → block_of P (frame m k) ≡ bs
      → is_legal s (Emit v m k why ∷ P) ≡ true → IsAccount s P carried p → IsAccount s (Emit v m k why ∷ P) (bs ++ carried) p
  pub emit_unsorted : (s : Setting) (P : Past) (v m k : ℕ) (why : Why) (p : Ledger) (carried : List ℕ) → is_sorted s v ≡ false
      → is_legal s (Emit v m k why ∷ P) ≡ true → IsAccount s P carried p → IsAccount s (Emit v m k why ∷ P) carried p
  pub settle : (s : Setting) (P : Past) (r v : ℕ) (p : Ledger) (carried : List ℕ) → is_legal s (Settle r v ∷ P) ≡ true → IsAccount s P carried p
      → IsAccount s (Settle r v ∷ P) (flat_map (block_of P) (ring s v P) ++ carried) p
  pub reclaim_load : (s : Setting) (P : Past) (r q k c n : ℕ) (f : Bool) (g : ℕ) (x : Bool) (p : Ledger) (carried : List ℕ)
      → hand r P ≡ Some (Load q k c n f g x) → is_legal s (Reclaim r ∷ P) ≡ true → IsAccount s P carried p → IsAccount s (Reclaim r ∷ P) (c ∷ carried) p
  pub reclaim_block : (s : Setting) (P : Past) (r q v m k c n : ℕ) (f : Bool) (g : ℕ) (x : Bool) (p : Ledger) (carried : List ℕ)
      → hand r P ≡ Some (TakeBlock f x q v m k c n g) → is_legal s (Reclaim r ∷ P) ≡ true → IsAccount s P carried p
      → IsAccount s (Reclaim r ∷ P) (c ∷ carried) p
  pub reclaim_other : (s : Setting) (P : Past) (r : ℕ) (e : Entry) (p : Ledger) (carried : List ℕ) → hand r P ≡ Some e → moves_blocks e ≡ false
      → is_legal s (Reclaim r ∷ P) ≡ true → IsAccount s P carried p → IsAccount s (Reclaim r ∷ P) carried p
  -- a LoadRefused, Tick, Full, Take, Save, Close and Leave
  pub others : (s : Setting) (P : Past) (e : Entry) (p : Ledger) (carried : List ℕ) → keeps_counts e ≡ true → is_legal s (e ∷ P) ≡ true
      → IsAccount s P carried p → IsAccount s (e ∷ P) carried p

-- PUTS. The blocks of the hand are carried from then on, but for those of what the node keeps then and didn't before.
pub record PutLaws : Type 0 where
  pub put : (s : Setting) (P : Past) (r v m k : ℕ) (f : Bool) (e : Entry) (p : Ledger) (carried others : List ℕ) → hand r P ≡ Some e
      → SameTimes (others ++ flat_map (block_of P) (kept_at s (Put r v m k f ∷ P) v)) (blocks_in_hand P e ++ flat_map (block_of P) (kept_at s P v) ++ carried)
      → is_legal s (Put r v m k f ∷ P) ≡ true → IsAccount s P carried p → IsAccount s (Put r v m k f ∷ P) others p
  -- an unsorted node that makes or passes arrays on keeps nothing
  pub plain : (s : Setting) (P : Past) (r v m k : ℕ) (f : Bool) (e : Entry) (p : Ledger) (carried : List ℕ) → hand r P ≡ Some e
      → may_sort (node s v).work ≡ true → is_sorted s v ≡ false → is_legal s (Put r v m k f ∷ P) ≡ true → IsAccount s P carried p
      → IsAccount s (Put r v m k f ∷ P) (blocks_in_hand P e ++ carried) p
  -- a sorted node and a file node keep the result: of a job that passes its array on no block is carried, and of one that makes an array
  -- that of its input
  pub sorted : (s : Setting) (P : Past) (r q v m k : ℕ) (f : Bool) (p : Ledger) (carried : List ℕ) → hand r P ≡ Some (Take q v m k) → is_sorted s v ≡ true
      → is_legal s (Put r v m k f ∷ P) ≡ true → IsAccount s P carried p → IsAccount s (Put r v m k f ∷ P) carried p
  pub sorted_maker : (s : Setting) (P : Past) (r q v m k b n : ℕ) (f : Bool) (g : ℕ) (x fired : Bool) (p : Ledger) (bs carried : List ℕ)
      → hand r P ≡ Some (TakeBlock f x q v m k b n g) → is_sorted s v ≡ true → block_of P (frame m k) ≡ bs → is_legal s (Put r v v k fired ∷ P) ≡ true
      → IsAccount s P carried p → IsAccount s (Put r v v k fired ∷ P) (bs ++ carried) p
  pub file : (s : Setting) (P : Past) (r q v m k : ℕ) (f : Bool) (p : Ledger) (carried : List ℕ) → hand r P ≡ Some (Take q v m k)
      → is_file (node s v).work ≡ true → is_legal s (Put r v m k f ∷ P) ≡ true → IsAccount s P carried p → IsAccount s (Put r v m k f ∷ P) carried p
  -- a circular node keeps its ring
  pub watched : (s : Setting) (P : Past) (r v m k : ℕ) (f : Bool) (pre post preset : ℕ) (e : Entry) (p : Ledger) (carried others : List ℕ) → hand r P ≡ Some e
      → (node s v).work ≡ Watches pre post preset
      → SameTimes (others ++ flat_map (block_of P) (ring s v (Put r v m k f ∷ P))) (blocks_in_hand P e ++ flat_map (block_of P) (ring s v P) ++ carried)
      → is_legal s (Put r v m k f ∷ P) ≡ true → IsAccount s P carried p → IsAccount s (Put r v m k f ∷ P) others p
