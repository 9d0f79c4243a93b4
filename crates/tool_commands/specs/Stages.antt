-- Why each stage of a command stopped, and what it left.
use Rattle.std.specs.Prelude.{◌≡◌, ◌⊎◌, ℕ, List, Option, Some}
use Rattle.nd_base.specs.Array.{StackValue}
use Rattle.nd_base.specs.declared.graph.Graph.{Graph}
use Rattle.edge_traits.specs.Faults.{Rose}
use Rattle.edge_traits.specs.Files.{Files}
use Rattle.file_out.specs.declared.fault.SaveFault.{SaveFault}
use Rattle.file_out.specs.declared.fault.SaveFault.TheVariants as saving
use Rattle.nd_stack.specs.declared.fault.StackFault.{StackFault}
use Rattle.nd_stack.specs.declared.fault.StackFault.TheVariants as refusal
use Rattle.graph_conf.specs.declared.fault.GraphFault.{GraphFault}
use Rattle.graph_conf.specs.declared.fault.GraphFault.TheVariants as rule
use Rattle.graph_conf.specs.Loads.{limit_fault}
use Rattle.graph_conf.specs.declared.load.LimitFault.TheVariants.{GraphBytes, StackFile}
use Rattle.tool_commands.specs.declared.reading.ReadRefusal.{ReadRefusal}
use Rattle.tool_commands.specs.declared.reading.ReadRefusal.TheVariants as reading
use Rattle.tool_commands.specs.declared.status.Status.{Status}
use Rattle.tool_commands.specs.declared.status.Status.TheVariants.{Done, Usage, GraphText, GraphRule, StackBytes, Limit, Sizes, ReadFault, ShelfFault, OutFault}
use Rattle.tool_commands.specs.declared.status.Status.TheVariants.{OutOfMemory}
use Rattle.graph_files.specs.OutFiles.{OutFile, with_files}
use Rattle.tool_commands.specs.Left.{PlainRun, AreLeft}
use Rattle.tool_commands.specs.Printed.{IsCutShort}

-- the status of a file that wasn't read, as a graph and as a stack
abbrev pub graph_read_status : ReadRefusal → Status
graph_read_status (reading.TooLong bytes) = Limit (GraphBytes bytes)
graph_read_status reading.Failed = ReadFault
graph_read_status reading.OutOfMemory = OutOfMemory

abbrev pub stack_read_status : ReadRefusal → Status
stack_read_status (reading.TooLong bytes) = Limit (StackFile bytes)
stack_read_status reading.Failed = ReadFault
stack_read_status reading.OutOfMemory = OutOfMemory

-- the status of bytes that are no graph, and of bytes that are no stack
abbrev pub graph_fault_status : GraphFault → Status
graph_fault_status rule.OutOfMemory = OutOfMemory
graph_fault_status rule.Text = GraphText
graph_fault_status fault = GraphRule fault

abbrev pub fault_status : StackFault → Status
fault_status refusal.OutOfMemory = OutOfMemory
fault_status fault = StackBytes fault

-- the status of files that weren't written
abbrev pub save_fault_status : SaveFault → Status
save_fault_status saving.Failed = ShelfFault
save_fault_status saving.OutOfMemory = OutOfMemory

-- Why files weren't read, where `Refuses` says which statuses they are refused with: then no count rose; a fault of the library; or want of memory.
abbrev pub ReadStops : (Refuses : Status → Type 0) → Status → (before now : ℕ) → Type 0
ReadStops Refuses GraphText before now = Refuses GraphText × (now ≡ before)
ReadStops Refuses (GraphRule fault) before now = Refuses (GraphRule fault) × (now ≡ before)
ReadStops Refuses (StackBytes fault) before now = Refuses (StackBytes fault) × (now ≡ before)
ReadStops Refuses (Limit fault) before now = Refuses (Limit fault) × (now ≡ before)
ReadStops Refuses Sizes before now = Refuses Sizes × (now ≡ before)
ReadStops Refuses ReadFault before now = Rose before now
ReadStops Refuses OutOfMemory before now = now ≡ before
ReadStops Refuses Done before now = ⊥
ReadStops Refuses Usage before now = ⊥
ReadStops Refuses ShelfFault before now = ⊥
ReadStops Refuses OutFault before now = ⊥

-- making the plan, and testing its limits
abbrev pub PlanStops : Status → Graph → StackValue → Type 0
PlanStops (Limit fault) g s = limit_fault g s ≡ Some fault
PlanStops OutOfMemory g s = Unit {0}
PlanStops _ g s = ⊥

-- writing the files, where the shelf may fail at last once all are whole
abbrev pub SaveStops : Status → (held : Option Files) → List OutFile → Option PlainRun → (now : Option Files) → (before after : ℕ) → Type 0
SaveStops ShelfFault held files run now before after = (AreLeft held files run now ⊎ (now ≡ with_files held files)) × Rose before after
SaveStops OutOfMemory held files run now before after = AreLeft held files run now × (after ≡ before)
SaveStops _ held files run now before after = ⊥

-- printing
abbrev pub PrintStops : Status → (written : Option (List ℕ)) → (print : List ℕ) → (now : Option (List ℕ)) → (before after : ℕ) → Type 0
PrintStops OutFault written print now before after = IsCutShort written print now × Rose before after
PrintStops OutOfMemory written print now before after = (now ≡ written) × (after ≡ before)
PrintStops _ written print now before after = ⊥

-- the statuses with which all files were written
abbrev pub WritesAll : Status → Type 0
WritesAll Done = Unit {0}
WritesAll OutFault = Unit {0}
WritesAll _ = ⊥
