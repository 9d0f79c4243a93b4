-- What the last stage of a run leaves.
use Rattle.std.specs.Prelude.{◌≡◌, ℕ, Bool, true, false, List, Option}
use Rattle.edge_traits.specs.Faults.{Rose}
use Rattle.edge_traits.specs.Files.{Files}
use Rattle.edge_traits.specs.Written.{with_written}
use Rattle.graph_files.specs.BegunFiles.{AreBegun}
use Rattle.graph_files.specs.OutFiles.{OutFile, with_files}
use Rattle.tool_commands.specs.declared.status.Status.{Status}
use Rattle.tool_commands.specs.declared.status.Status.TheVariants.{Done, ShelfFault, OutFault, OutOfMemory}
use Rattle.tool_commands.specs.Printed.{IsCutShort}

-- writing the rows and the log, one file after the other
abbrev pub LaterStops : Status → (held : Option Files) → List OutFile → (now : Option Files) → (before after : ℕ) → Type 0
LaterStops ShelfFault held files now before after = AreBegun held files now × Rose before after
LaterStops OutOfMemory held files now before after = AreBegun held files now × (after ≡ before)
LaterStops _ held files now before after = ⊥

-- What is written and printed once the groups stand: these files, one after the other, and then this text. Where the shelf has failed before,
-- nothing is.
abbrev pub RestEnds : Status → (fault : Bool) → List OutFile → (print : List ℕ) → (held now : Option Files) → (before after : Option (List ℕ)) → Type 0
RestEnds Done fault files print held now before after = (fault ≡ false) × (now ≡ with_files held files) × (after ≡ with_written before print)
RestEnds ShelfFault true files print held now before after = (now ≡ held) × (after ≡ before)
RestEnds ShelfFault false files print held now before after = AreBegun held files now × (after ≡ before)
RestEnds OutFault fault files print held now before after = (fault ≡ false) × (now ≡ with_files held files) × IsCutShort before print after
RestEnds OutOfMemory fault files print held now before after = (fault ≡ false) × AreBegun held files now × (after ≡ before)
RestEnds _ fault files print held now before after = ⊥

-- and which counts rose
abbrev pub RestCause : Status → (fault : Bool) → (shelf_before shelf_now sink_before sink_now : ℕ) → Type 0
RestCause ShelfFault true shelf_before shelf_now sink_before sink_now = (shelf_now ≡ shelf_before) × (sink_now ≡ sink_before)
RestCause ShelfFault false shelf_before shelf_now sink_before sink_now = Rose shelf_before shelf_now × (sink_now ≡ sink_before)
RestCause OutFault fault shelf_before shelf_now sink_before sink_now = (shelf_now ≡ shelf_before) × Rose sink_before sink_now
RestCause OutOfMemory fault shelf_before shelf_now sink_before sink_now = sink_now ≡ sink_before
RestCause Done fault shelf_before shelf_now sink_before sink_now = (shelf_now ≡ shelf_before) × (sink_now ≡ sink_before)
RestCause _ fault shelf_before shelf_now sink_before sink_now = ⊥
