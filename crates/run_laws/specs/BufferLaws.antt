-- LAWS: no block that is held is handed out.
use Rattle.std.specs.Prelude.{◌≡◌, ℕ, Bool, true, List, ◌∷◌, ◌++◌}
use Rattle.nd_base.specs.Array.{Array}
use Rattle.nd_base.specs.declared.graph.Graph.{Graph}
use Rattle.nd_base.specs.declared.plan.Maker.{Maker}
use Rattle.flow_journal.specs.declared.entry.Entry.{Entry}
use Rattle.flow_journal.specs.declared.entry.Entry.TheVariants.{Load, TakeBlock}
use Rattle.flow_journal.specs.Pasts.{Past}
use Rattle.flow_journal.specs.Accounts.{refs}
use Rattle.flow_journal.specs.Histories.{is_legal}
use Rattle.flow_journal.specs.RunSetting.{setting_of}

-- the entry grants this block
pub data Grants : Entry → ℕ → Type 0 where
  by_load : {r k b n : ℕ} {f : Bool} {g : ℕ} {x : Bool} → Grants (Load r k b n f g x) b
  by_take : {r v m k b n : ℕ} {f : Bool} {g : ℕ} {x : Bool} → Grants (TakeBlock f x r v m k b n g) b

-- the block that an entry grants had no place just before
abbrev pub GrantsAreUnplaced : Type 0
GrantsAreUnplaced =
    (g : Graph) (makers : List Maker) (arrays : List Array) (newer P : Past) (e : Entry) (b : ℕ) → is_legal (setting_of g makers arrays) (newer ++ e ∷ P) ≡ true
    → Grants e b → refs (setting_of g makers arrays) P b ≡ 0
