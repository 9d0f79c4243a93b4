-- How a command ends that writes one stack.
use Rattle.std.specs.Prelude.{◌≡◌, ℕ, ◌≤◌, List, length, Option, None, Some, Result, Ok, Err, OnOk, IfErr, refl}
use Rattle.std.proofs.Common.{inl}
use Rattle.nd_base.specs.Array.{StackValue}
use Rattle.edge_traits.specs.Files.{Files}
use Rattle.edge_traits.specs.Written.{with_written}
use Rattle.cdf_write.specs.Layout.{layout}
use Rattle.file_out.specs.declared.fault.SaveFault.{SaveFault}
use Rattle.file_out.specs.Saving.{IsBegun, IsSaveCause}
use Rattle.nd_stack.specs.RoundTrip.{ReadsBack}
use Rattle.graph_conf.specs.Loads.{answer}
use Rattle.graph_conf.specs.declared.load.LimitFault.{LimitFault}
use Rattle.stack_file.specs.ChangedStacks.{with_stack_file}
use Rattle.tool_commands.specs.declared.status.Status.{Status}
use Rattle.tool_commands.specs.declared.status.Status.TheVariants.{Limit, OutOfMemory}
use Rattle.tool_commands.specs.Answers.{objects_of, status_of}
use Rattle.tool_commands.specs.Printed.{frames_line}
use Rattle.tool_commands.specs.Stages.{PrintStops, save_fault_status}
use Rattle.tool_commands.specs.StackEnds.{EndsAs}
use Rattle.tool_commands.specs.StackFiles.{stack_limit}
use Rattle.tool_commands.specs.Works.{changed_outcome, changed_work}
use Rattle.tool_commands.proofs.Outcomes.{passed, unpassed}
use Rattle.tool_commands.proofs.StackFiles.{written, stops, groups_back}
use Rattle.tool_commands.proofs.Stops.{Ends-save, Ends-printed}
use Rattle.std.proofs.Common.{◌∙◌}

-- no limit was answered
pub no_limit : (o : Option LimitFault) (x : Unit {0}) → Ok x ≡ answer o → o ≡ None
no_limit None x is = refl
no_limit (Some fault) x is = absurd (cc)

module _ (name : List ℕ) (s : StackValue) (held : Option Files) (sink : Option (List ℕ)) where
  -- memory was wanting before anything was written
  pub ends-memory : EndsAs OutOfMemory (changed_outcome name s) held held sink sink
  ends-memory told command to = ((λ e. cc), inl (refl, refl))

  -- the file would be too long
  pub ends-limit : (fault : LimitFault) → stack_limit s.shape (length s.arrays) ≡ Some fault → EndsAs (Limit fault) (changed_outcome name s) held held sink sink
  ends-limit fault is told command to =
      (to (Err (Limit fault)) (passed told (changed_work name s) (stack_limit s.shape (length s.arrays)) fault is), (refl, refl))

  module _ (within : stack_limit s.shape (length s.arrays) ≡ None) (now : Option Files) where
    -- the file was begun
    pub ends-save : (fault : SaveFault) (before after : ℕ) → 1 ≤ length s.arrays → IsBegun held name (layout s.shape s.arrays) now
        → IsSaveCause {T = Unit {0}} (Err fault) before after → EndsAs (save_fault_status fault) (changed_outcome name s) held now sink sink
    ends-save fault before after some begun cause told command to =
        let read = to (Ok (changed_work name s)) (unpassed told (changed_work name s) (stack_limit s.shape (length s.arrays)) within) in
        Ends-save command (objects_of told held now sink sink) (changed_work name s) read (save_fault_status fault) before after
        (stops fault held now name s.shape s.arrays before after some begun cause) refl

    -- the file was written, and printing was the last stage
    pub ends-printed : (answer : Result (Unit {0}) Status) (after : Option (List ℕ)) (before_count after_count : ℕ)
        → now ≡ with_stack_file held name s.shape s.arrays → (1 ≤ length s.arrays → ReadsBack s.shape s.arrays)
        → OnOk answer (after ≡ with_written sink (frames_line (length s.arrays)))
        → IfErr answer (λ status. PrintStops status sink (frames_line (length s.arrays)) after before_count after_count)
        → EndsAs (status_of answer) (changed_outcome name s) held now sink after
    ends-printed answer after before_count after_count files back ok err told command to =
        let read = to (Ok (changed_work name s)) (unpassed told (changed_work name s) (stack_limit s.shape (length s.arrays)) within) in
        Ends-printed command (objects_of told held now sink after) (changed_work name s) read (files ∙ written held name s.shape s.arrays) answer
        before_count after_count (groups_back s.shape s.arrays back) ok err
