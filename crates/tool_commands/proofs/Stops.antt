-- Where a stage of a command stopped, the command ends so.
use Rattle.std.proofs.Common.{◌≡◌, ℕ, Some, Ok, Err, inl, inr}
use Rattle.std.specs.Prelude.{All, Result, OnOk, IfErr}
use Rattle.edge_traits.specs.Written.{with_written}
use Rattle.graph_files.specs.OutFiles.{with_files}
use Rattle.tool_commands.specs.declared.status.Status.{Status}
use Rattle.tool_commands.specs.declared.status.Status.TheVariants.{Done, Usage, GraphText, GraphRule, StackBytes, Limit, Sizes, ReadFault, ShelfFault, OutFault}
use Rattle.tool_commands.specs.declared.status.Status.TheVariants.{OutOfMemory}
use Rattle.tool_commands.specs.Answers.{Objects, IsUntouched, Ends, status_of}
use Rattle.tool_commands.specs.Command.{Command}
use Rattle.tool_commands.specs.Outcomes.{Leads}
use Rattle.tool_commands.specs.Stages.{ReadStops, SaveStops, PrintStops}
use Rattle.tool_commands.specs.Works.{Work, IsBack, outcome_of}

module _ (command : Command) (o : Objects) where
  -- reading, and making the plan
  pub Ends-unread : (status : Status) (before now : ℕ) → ReadStops (λ s. Leads o.library (outcome_of (Some command)) (Err s)) status before now
      → IsUntouched o → Ends status (Some command) o
  Ends-unread GraphText before now stops still = (stops.0, still)
  Ends-unread (GraphRule f) before now stops still = (stops.0, still)
  Ends-unread (StackBytes f) before now stops still = (stops.0, still)
  Ends-unread (Limit f) before now stops still = (stops.0, still)
  Ends-unread Sizes before now stops still = (stops.0, still)
  Ends-unread ReadFault before now stops still = ((λ e. cc), still)
  Ends-unread OutOfMemory before now stops still = ((λ e. cc), inl still)
  Ends-unread Done before now stops still = absurd stops
  Ends-unread Usage before now stops still = absurd stops
  Ends-unread ShelfFault before now stops still = absurd stops
  Ends-unread OutFault before now stops still = absurd stops

  module _ (work : Work) (read : Leads o.library (outcome_of (Some command)) (Ok work)) where
    -- writing the files
    pub Ends-save : (status : Status) (before after : ℕ) → SaveStops status o.shelf_before work.files work.run o.shelf_after before after
        → o.sink_after ≡ o.sink_before → Ends status (Some command) o
    Ends-save ShelfFault before after stops still = record { work = work; read = read; begun = stops.0; unprinted = still }
    Ends-save OutOfMemory before after stops still = ((λ e. cc), inr (record { work = work; read = read; begun = inl stops.0; unprinted = still }))
    Ends-save Done before after stops still = absurd stops
    Ends-save Usage before after stops still = absurd stops
    Ends-save GraphText before after stops still = absurd stops
    Ends-save (GraphRule f) before after stops still = absurd stops
    Ends-save (StackBytes f) before after stops still = absurd stops
    Ends-save (Limit f) before after stops still = absurd stops
    Ends-save Sizes before after stops still = absurd stops
    Ends-save ReadFault before after stops still = absurd stops
    Ends-save OutFault before after stops still = absurd stops

    module _ (files : o.shelf_after ≡ with_files o.shelf_before work.files) where
      -- printing, after all files were written
      Ends-print : (status : Status) (before after : ℕ) → PrintStops status o.sink_before work.print o.sink_after before after → Ends status (Some command) o
      Ends-print OutFault before after stops = record { work = work; read = read; files = files; printed = stops.0 }
      Ends-print OutOfMemory before after stops =
          ((λ e. cc), inr (record { work = work; read = read; begun = inr files; unprinted = stops.0 }))
      Ends-print Done before after stops = absurd stops
      Ends-print Usage before after stops = absurd stops
      Ends-print GraphText before after stops = absurd stops
      Ends-print (GraphRule f) before after stops = absurd stops
      Ends-print (StackBytes f) before after stops = absurd stops
      Ends-print (Limit f) before after stops = absurd stops
      Ends-print Sizes before after stops = absurd stops
      Ends-print ReadFault before after stops = absurd stops
      Ends-print ShelfFault before after stops = absurd stops

      -- printing, as the last stage
      pub Ends-printed : (answer : Result (Unit {0}) Status) (before after : ℕ) → All IsBack work.groups
          → OnOk answer (o.sink_after ≡ with_written o.sink_before work.print)
          → IfErr answer (λ s. PrintStops s o.sink_before work.print o.sink_after before after) → Ends (status_of answer) (Some command) o
      Ends-printed (Ok x) before after back printed stops = record { work = work; read = read; files = files; back = back; printed = printed }
      Ends-printed (Err status) before after back printed stops = Ends-print status before after stops
