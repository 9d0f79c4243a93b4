-- What the end of a run says of its status.
use Rattle.std.proofs.Common.{◌≡◌, ◌⊎◌, ℕ, List, Option, None, Some, Ok, Err, refl, subst, inl, inr}
use Rattle.edge_traits.specs.Faults.{LibraryCall}
use Rattle.flow_journal.specs.Journal.{Journal}
use Rattle.tool_commands.specs.declared.status.Status.{Status}
use Rattle.tool_commands.specs.declared.status.Status.TheVariants.{Done, Usage, GraphText, GraphRule, StackBytes, Limit, Sizes, ReadFault, ShelfFault, OutFault}
use Rattle.tool_commands.specs.declared.status.Status.TheVariants.{OutOfMemory}
use Rattle.tool_commands.specs.Answers.{IsRefusal}
use Rattle.tool_commands.specs.Causes.{Counts}
use Rattle.tool_commands.specs.Claims.{Completes}
use Rattle.tool_commands.specs.Outcomes.{Leads}
use Rattle.tool_commands.specs.Unread.{FailsIn, IfUnread, Decides, Asked, Unread, Unwritten, Unprinted, NoMemory}
use Rattle.replay_top.specs.RunAnswers.{RunObjects, RunEnds, IsRunCause, IsRunUntouched, IsRunStopped, OfLog, HasFinished, HasLog}
use Rattle.replay_top.specs.RunCommand.{RunCommand, IsRead}
use Rattle.replay_top.specs.RunSources.{sources_of}
use Rattle.tool_commands.proofs.Outcomes.{Leads-Asks}

module _ (log : Option Journal) (c : RunCommand) (o : RunObjects) where
  -- a refusal is what the files lead to
  pub RunEnds-refused : (s : Status) → RunEnds s log (Some c) o → IsRefusal s → Leads o.objects.library (sources_of (Some c)) (Err s)
  RunEnds-refused Usage ends is = absurd (cc ends.1)
  RunEnds-refused GraphText ends is = ends.1.0
  RunEnds-refused (GraphRule f) ends is = ends.1.0
  RunEnds-refused (StackBytes f) ends is = ends.1.0
  RunEnds-refused (Limit f) ends is = ends.1.0
  RunEnds-refused Sizes ends is = ends.1.0
  RunEnds-refused Done ends is = absurd is
  RunEnds-refused ReadFault ends is = absurd is
  RunEnds-refused ShelfFault ends is = absurd is
  RunEnds-refused OutFault ends is = absurd is
  RunEnds-refused OutOfMemory ends is = absurd is

  -- and leaves all as it was, as a fault of the library does
  pub RunEnds-untouched : (s : Status) → RunEnds s log (Some c) o → IsRefusal s ⊎ (s ≡ ReadFault) → IsRunUntouched o
  RunEnds-untouched Usage ends is = ends.2
  RunEnds-untouched GraphText ends is = ends.1.1
  RunEnds-untouched (GraphRule f) ends is = ends.1.1
  RunEnds-untouched (StackBytes f) ends is = ends.1.1
  RunEnds-untouched (Limit f) ends is = ends.1.1
  RunEnds-untouched Sizes ends is = ends.1.1
  RunEnds-untouched ReadFault ends is = ends.2
  RunEnds-untouched Done ends (inl never) = absurd never
  RunEnds-untouched Done ends (inr never) = absurd (cc)
  RunEnds-untouched ShelfFault ends (inl never) = absurd never
  RunEnds-untouched ShelfFault ends (inr never) = absurd (cc)
  RunEnds-untouched OutFault ends (inl never) = absurd never
  RunEnds-untouched OutFault ends (inr never) = absurd (cc)
  RunEnds-untouched OutOfMemory ends (inl never) = absurd never
  RunEnds-untouched OutOfMemory ends (inr never) = absurd (cc)

  -- the library fails only where files are read
  pub RunEnds-read : (s : Status) → RunEnds s log (Some c) o → s ≡ ReadFault → IsRead c.source
  RunEnds-read s ends is = let fault : RunEnds ReadFault log (Some c) o = subst (λ (t : Status). RunEnds t log (Some c) o) is ends in fault.1

  -- and where memory was wanting
  pub RunEnds-stopped : (s : Status) → RunEnds s log (Some c) o → s ≡ OutOfMemory → IsRunStopped (Some c) o
  RunEnds-stopped s ends is = let wanted : RunEnds OutOfMemory log (Some c) o = subst (λ (t : Status). RunEnds t log (Some c) o) is ends in wanted.1

-- a run that has finished has its log
pub RunEnds-log : (s : Status) (log : Option Journal) (c : RunCommand) (o : RunObjects) → RunEnds s log (Some c) o → HasFinished s
    → OfLog (HasLog o) (Some c) log
RunEnds-log Done (Some l) c o ends is = (ends.source, ends.log)
RunEnds-log ShelfFault (Some l) c o ends is = (ends.source, ends.log)
RunEnds-log OutFault (Some l) c o ends is = (ends.source, ends.log)
RunEnds-log Done None c o ends is = absurd ends
RunEnds-log ShelfFault None c o ends is = absurd ends
RunEnds-log OutFault None c o ends is = absurd ends
RunEnds-log Usage log c o ends is = absurd is
RunEnds-log GraphText log c o ends is = absurd is
RunEnds-log (GraphRule f) log c o ends is = absurd is
RunEnds-log (StackBytes f) log c o ends is = absurd is
RunEnds-log (Limit f) log c o ends is = absurd is
RunEnds-log Sizes log c o ends is = absurd is
RunEnds-log ReadFault log c o ends is = absurd is
RunEnds-log OutOfMemory log c o ends is = absurd is

-- where no count rose, the files decide
pub answered_run : (s : Status) (log : Option Journal) (c : RunCommand) (o : RunObjects) (before after : Counts) → RunEnds s log (Some c) o
    → IsRunCause s before after → Completes (sources_of (Some c)) s o.objects.library before after
answered_run Done (Some l) c o before after ends cause none = inl (Leads-Asks o.objects.library (sources_of (Some c)) (Ok ends.source) ends.log.read)
answered_run Done None c o before after ends cause none = absurd ends
answered_run Usage log c o before after ends cause none = absurd (cc ends.1)
answered_run GraphText log c o before after ends cause none = inl (Leads-Asks o.objects.library (sources_of (Some c)) (Err GraphText) ends.1.0)
answered_run (GraphRule f) log c o before after ends cause none = inl (Leads-Asks o.objects.library (sources_of (Some c)) (Err (GraphRule f)) ends.1.0)
answered_run (StackBytes f) log c o before after ends cause none = inl (Leads-Asks o.objects.library (sources_of (Some c)) (Err (StackBytes f)) ends.1.0)
answered_run (Limit f) log c o before after ends cause none = inl (Leads-Asks o.objects.library (sources_of (Some c)) (Err (Limit f)) ends.1.0)
answered_run Sizes log c o before after ends cause none = inl (Leads-Asks o.objects.library (sources_of (Some c)) (Err Sizes) ends.1.0)
answered_run ReadFault log c o before after ends cause none = absurd (none.library cause.0)
answered_run ShelfFault log c o before after ends cause none = absurd (none.shelf cause.1)
answered_run OutFault log c o before after ends cause none = absurd (none.sink cause.2)
answered_run OutOfMemory log c o before after ends cause none = inr refl

-- and whatever was counted
pub decided_run : (s : Status) (log : Option Journal) (c : RunCommand) (o : RunObjects) (before now : LibraryCall → List ℕ → ℕ) → RunEnds s log (Some c) o
    → IfUnread s (FailsIn o.objects.library before now (sources_of (Some c))) → Decides (sources_of (Some c)) o.objects.library before now s
decided_run Done (Some l) c o before now ends unread = Asked Done (Leads-Asks o.objects.library (sources_of (Some c)) (Ok ends.source) ends.log.read)
decided_run Done None c o before now ends unread = absurd ends
decided_run Usage log c o before now ends unread = absurd (cc ends.1)
decided_run GraphText log c o before now ends unread = Asked GraphText (Leads-Asks o.objects.library (sources_of (Some c)) (Err GraphText) ends.1.0)
decided_run (GraphRule f) log c o before now ends unread =
    Asked (GraphRule f) (Leads-Asks o.objects.library (sources_of (Some c)) (Err (GraphRule f)) ends.1.0)
decided_run (StackBytes f) log c o before now ends unread =
    Asked (StackBytes f) (Leads-Asks o.objects.library (sources_of (Some c)) (Err (StackBytes f)) ends.1.0)
decided_run (Limit f) log c o before now ends unread = Asked (Limit f) (Leads-Asks o.objects.library (sources_of (Some c)) (Err (Limit f)) ends.1.0)
decided_run Sizes log c o before now ends unread = Asked Sizes (Leads-Asks o.objects.library (sources_of (Some c)) (Err Sizes) ends.1.0)
decided_run ReadFault log c o before now ends unread = Unread unread
decided_run ShelfFault (Some l) c o before now ends unread = Unwritten ends.source ends.log.read
decided_run ShelfFault None c o before now ends unread = absurd ends
decided_run OutFault (Some l) c o before now ends unread = Unprinted ends.source ends.log.read
decided_run OutFault None c o before now ends unread = absurd ends
decided_run OutOfMemory log c o before now ends unread = NoMemory
