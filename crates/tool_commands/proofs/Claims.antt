-- What the end of a command says of its status.
use Rattle.std.proofs.Common.{◌≡◌, ◌⊎◌, Option, None, Some, Ok, Err, refl, inl, inr}
use Rattle.tool_commands.specs.declared.status.Status.{Status}
use Rattle.tool_commands.specs.declared.status.Status.TheVariants.{Done, Usage, GraphText, GraphRule, StackBytes, Limit, Sizes, ReadFault, ShelfFault, OutFault}
use Rattle.tool_commands.specs.declared.status.Status.TheVariants.{OutOfMemory}
use Rattle.tool_commands.specs.Answers.{Objects, IsUntouched, IsRefusal, Ends}
use Rattle.tool_commands.specs.Causes.{Counts, IsCause}
use Rattle.tool_commands.specs.Claims.{Completes}
use Rattle.tool_commands.specs.Command.{Command}
use Rattle.tool_commands.specs.Outcomes.{Leads}
use Rattle.tool_commands.specs.Works.{outcome_of}
use Rattle.tool_commands.proofs.Outcomes.{Leads-Asks}

-- no command ends with Usage, and nothing else
pub Ends-none : (s : Status) (o : Objects) → Ends s None o → s ≡ Usage
Ends-none Usage o ends = refl
Ends-none Done o ends = absurd (cc ends.read)
Ends-none GraphText o ends = absurd (cc ends.0)
Ends-none (GraphRule f) o ends = absurd (cc ends.0)
Ends-none (StackBytes f) o ends = absurd (cc ends.0)
Ends-none (Limit f) o ends = absurd (cc ends.0)
Ends-none Sizes o ends = absurd (cc ends.0)
Ends-none ReadFault o ends = absurd (ends.0 refl)
Ends-none ShelfFault o ends = absurd (cc ends.read)
Ends-none OutFault o ends = absurd (cc ends.read)
Ends-none OutOfMemory o ends = absurd (ends.0 refl)

module _ (o : Objects) where
  -- a refusal is what the files lead to
  pub Ends-refused : (s : Status) (command : Option Command) → Ends s command o → IsRefusal s → Leads o.library (outcome_of command) (Err s)
  Ends-refused Usage None ends is = refl
  Ends-refused Usage (Some c) ends is = absurd (cc ends.0)
  Ends-refused GraphText command ends is = ends.0
  Ends-refused (GraphRule f) command ends is = ends.0
  Ends-refused (StackBytes f) command ends is = ends.0
  Ends-refused (Limit f) command ends is = ends.0
  Ends-refused Sizes command ends is = ends.0
  Ends-refused Done command ends is = absurd is
  Ends-refused ReadFault command ends is = absurd is
  Ends-refused ShelfFault command ends is = absurd is
  Ends-refused OutFault command ends is = absurd is
  Ends-refused OutOfMemory command ends is = absurd is

  -- and leaves all as it was, as a fault of the library does
  pub Ends-untouched : (s : Status) (command : Option Command) → Ends s command o → IsRefusal s ⊎ (s ≡ ReadFault) → IsUntouched o
  Ends-untouched Usage command ends is = ends.1
  Ends-untouched GraphText command ends is = ends.1
  Ends-untouched (GraphRule f) command ends is = ends.1
  Ends-untouched (StackBytes f) command ends is = ends.1
  Ends-untouched (Limit f) command ends is = ends.1
  Ends-untouched Sizes command ends is = ends.1
  Ends-untouched ReadFault command ends is = ends.1
  Ends-untouched Done command ends (inl never) = absurd never
  Ends-untouched Done command ends (inr never) = absurd (cc)
  Ends-untouched ShelfFault command ends (inl never) = absurd never
  Ends-untouched ShelfFault command ends (inr never) = absurd (cc)
  Ends-untouched OutFault command ends (inl never) = absurd never
  Ends-untouched OutFault command ends (inr never) = absurd (cc)
  Ends-untouched OutOfMemory command ends (inl never) = absurd never
  Ends-untouched OutOfMemory command ends (inr never) = absurd (cc)

  -- where no count rose, the files decide
  pub answered : (s : Status) (command : Option Command) (before after : Counts) → Ends s command o → IsCause s before after
      → Completes (outcome_of command) s o.library before after
  answered Done command before after ends cause none = inl (Leads-Asks o.library (outcome_of command) (Ok ends.work) ends.read)
  answered Usage None before after ends cause none = inl refl
  answered Usage (Some c) before after ends cause none = absurd (cc ends.0)
  answered GraphText command before after ends cause none = inl (Leads-Asks o.library (outcome_of command) (Err GraphText) ends.0)
  answered (GraphRule f) command before after ends cause none = inl (Leads-Asks o.library (outcome_of command) (Err (GraphRule f)) ends.0)
  answered (StackBytes f) command before after ends cause none = inl (Leads-Asks o.library (outcome_of command) (Err (StackBytes f)) ends.0)
  answered (Limit f) command before after ends cause none = inl (Leads-Asks o.library (outcome_of command) (Err (Limit f)) ends.0)
  answered Sizes command before after ends cause none = inl (Leads-Asks o.library (outcome_of command) (Err Sizes) ends.0)
  answered ReadFault command before after ends cause none = absurd (none.library cause.0)
  answered ShelfFault command before after ends cause none = absurd (none.shelf cause.1)
  answered OutFault command before after ends cause none = absurd (none.sink cause.2)
  answered OutOfMemory command before after ends cause none = inr refl
