-- Which counts of faults may rise with which status.
use Rattle.std.specs.Prelude.{◌≡◌, ℕ}
use Rattle.edge_traits.specs.Faults.{Rose}
use Rattle.tool_commands.specs.declared.status.Status.{Status}
use Rattle.tool_commands.specs.declared.status.Status.TheVariants.{Done, Usage, GraphText, GraphRule, StackBytes, Limit, Sizes, ReadFault, ShelfFault, OutFault}
use Rattle.tool_commands.specs.declared.status.Status.TheVariants.{OutOfMemory}

-- the counts of faults of the library, the shelf and the sink
pub record Counts : Type 0 where
  pub library : ℕ
  pub shelf : ℕ
  pub sink : ℕ

-- a fault comes only where its object's count rose, and the other two stay; at any other status all stay
abbrev pub IsCause : Status → Counts → Counts → Type 0
IsCause ReadFault before after = Rose before.library after.library × (after.shelf ≡ before.shelf) × (after.sink ≡ before.sink)
IsCause ShelfFault before after = (after.library ≡ before.library) × Rose before.shelf after.shelf × (after.sink ≡ before.sink)
IsCause OutFault before after = (after.library ≡ before.library) × (after.shelf ≡ before.shelf) × Rose before.sink after.sink
IsCause Done before after = after ≡ before
IsCause Usage before after = after ≡ before
IsCause GraphText before after = after ≡ before
IsCause (GraphRule fault) before after = after ≡ before
IsCause (StackBytes fault) before after = after ≡ before
IsCause (Limit fault) before after = after ≡ before
IsCause Sizes before after = after ≡ before
IsCause OutOfMemory before after = after ≡ before
