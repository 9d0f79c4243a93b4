-- Which file a fault of the library is of, stage by stage.
use Rattle.std.proofs.Common.{◌≡◌, ◌<◌, ◌≤◌, ℕ, List, length, Option, None, Some, Ok, Err, refl, sym, subst, inl, inr, arith}
use Rattle.std.specs.Prelude.{Result, OnOk, IfErr}
use Rattle.nd_base.specs.Array.{StackValue}
use Rattle.nd_base.specs.declared.graph.Graph.{Graph}
use Rattle.edge_traits.specs.Faults.{LibraryCall, SizeCall, ReadCall, Rose}
use Rattle.edge_traits.specs.Files.{Files, IsTold}
use Rattle.file_out.specs.declared.fault.SaveFault.{SaveFault}
use Rattle.file_out.specs.declared.fault.SaveFault.TheVariants as saving
use Rattle.nd_stack.specs.declared.fault.StackFault.{StackFault}
use Rattle.nd_stack.specs.declared.fault.StackFault.TheVariants as refusal
use Rattle.graph_conf.specs.declared.fault.GraphFault.{GraphFault}
use Rattle.graph_conf.specs.declared.fault.GraphFault.TheVariants as rule
use Rattle.graph_files.specs.OutFiles.{OutFile}
use Rattle.tool_commands.specs.declared.reading.ReadRefusal.{ReadRefusal}
use Rattle.tool_commands.specs.declared.reading.ReadRefusal.TheVariants as reading
use Rattle.tool_commands.specs.declared.status.Status.{Status}
use Rattle.tool_commands.specs.declared.status.Status.TheVariants.{Done, Usage, GraphText, GraphRule, StackBytes, Limit, Sizes, ReadFault, ShelfFault, OutFault}
use Rattle.tool_commands.specs.declared.status.Status.TheVariants.{OutOfMemory}
use Rattle.tool_commands.specs.Answers.{Objects, Ends, status_of}
use Rattle.tool_commands.specs.Causes.{Counts, IsCause}
use Rattle.tool_commands.specs.Command.{Command}
use Rattle.tool_commands.specs.Left.{PlainRun}
use Rattle.tool_commands.specs.Outcomes.{Outcome, Reads, Refused, Works, outcome_map}
use Rattle.tool_commands.specs.Stages.{PlanStops, SaveStops, PrintStops, graph_read_status, stack_read_status, graph_fault_status, fault_status, save_fault_status}
use Rattle.tool_commands.specs.Unread.{NoneFailed, FailedAt, FailsIn, IfFailed, IfUnread, Decides, Asked, Unread, Unwritten, Unprinted, NoMemory}
use Rattle.tool_commands.specs.Works.{outcome_of}
use Rattle.tool_commands.proofs.Outcomes.{Leads-Asks}

-- a fault after calls that didn't fail is one after all of them
pub failed-after : (told : Option Files) (most : ℕ) (before middle now : LibraryCall → List ℕ → ℕ) (name : List ℕ) → NoneFailed before middle
    → FailedAt told most middle now name → FailedAt told most before now name
failed-after told most before middle now name none (inl size) = inl (subst (λ (n : ℕ). Rose n (now SizeCall name)) (none SizeCall name) size)
failed-after told most before middle now name none (inr bytes) =
    inr (subst (λ (n : ℕ). Rose n (now ReadCall name)) (none ReadCall name) bytes.0, bytes.1)

-- bytes of a file of this size, which isn't past the limit, were asked for after a call that didn't fail
pub unread-bytes : (told : Option Files) (most size : ℕ) (before middle now : LibraryCall → List ℕ → ℕ) (name : List ℕ) → NoneFailed before middle
    → ((file : List ℕ) → IsTold told name file → size ≡ length file) → size ≤ most → Rose (middle ReadCall name) (now ReadCall name)
    → FailedAt told most before now name
unread-bytes told most size before middle now name none is within rose =
    inr (subst (λ (n : ℕ). Rose n (now ReadCall name)) (none ReadCall name) rose, λ file there. subst (λ (n : ℕ). n ≤ most) (is file there) within)

module _ (P Q : Type 0) (to : P → Q) where
  pub failed-to : (why : ReadRefusal) → IfFailed why P → IfFailed why Q
  failed-to reading.Failed h = to h
  failed-to (reading.TooLong n) h = tt
  failed-to reading.OutOfMemory h = tt

  pub unread-to : (status : Status) → IfUnread status P → IfUnread status Q
  unread-to ReadFault h = to h
  unread-to Done h = tt
  unread-to Usage h = tt
  unread-to GraphText h = tt
  unread-to (GraphRule f) h = tt
  unread-to (StackBytes f) h = tt
  unread-to (Limit f) h = tt
  unread-to Sizes h = tt
  unread-to ShelfFault h = tt
  unread-to OutFault h = tt
  unread-to OutOfMemory h = tt

module _ (P : Type 0) where
  pub unread-graph-at : (why : ReadRefusal) → IfFailed why P → IfUnread (graph_read_status why) P
  unread-graph-at reading.Failed h = h
  unread-graph-at (reading.TooLong n) h = tt
  unread-graph-at reading.OutOfMemory h = tt

  pub unread-stack-at : (why : ReadRefusal) → IfFailed why P → IfUnread (stack_read_status why) P
  unread-stack-at reading.Failed h = h
  unread-stack-at (reading.TooLong n) h = tt
  unread-stack-at reading.OutOfMemory h = tt

  -- another status says nothing of a fault
  pub no-fault : (status : Status) → (status ≡ ReadFault → ⊥) → IfUnread status P
  no-fault ReadFault not = absurd (not refl)
  no-fault Done not = tt
  no-fault Usage not = tt
  no-fault GraphText not = tt
  no-fault (GraphRule f) not = tt
  no-fault (StackBytes f) not = tt
  no-fault (Limit f) not = tt
  no-fault Sizes not = tt
  no-fault ShelfFault not = tt
  no-fault OutFault not = tt
  no-fault OutOfMemory not = tt

  -- bytes that were read and are refused are no fault
  pub read-graph-at : (fault : GraphFault) → IfUnread (graph_fault_status fault) P
  read-graph-at rule.OutOfMemory = tt
  read-graph-at rule.Text = tt
  read-graph-at (rule.UnknownKey k) = tt
  read-graph-at (rule.KeyType k) = tt
  read-graph-at (rule.Range k v) = tt
  read-graph-at (rule.Missing k) = tt
  read-graph-at (rule.UnknownKind n) = tt
  read-graph-at (rule.Threads n) = tt
  read-graph-at (rule.Calc f) = tt
  read-graph-at (rule.DoubleName n) = tt
  read-graph-at (rule.UnknownInput n) = tt
  read-graph-at (rule.Cycle n) = tt

  pub read-stack-at : (fault : StackFault) → IfUnread (fault_status fault) P
  read-stack-at refusal.OutOfMemory = tt
  read-stack-at (refusal.Cdf f) = tt
  read-stack-at refusal.NoArrayData = tt
  read-stack-at (refusal.SampleType n) = tt
  read-stack-at (refusal.Rank n) = tt
  read-stack-at (refusal.TooManyFrames n) = tt
  read-stack-at (refusal.TooManySamples n) = tt
  read-stack-at (refusal.FrameCount var) = tt
  read-stack-at (refusal.AttrShape var) = tt

  -- neither is a limit, a file that isn't written or a print that stops
  pub planned-at : (status : Status) (g : Graph) (s : StackValue) → PlanStops status g s → IfUnread status P
  planned-at status g s stops = no-fault status (λ is. subst (λ (x : Status). PlanStops x g s) is stops)

  pub saved-at : (status : Status) (held : Option Files) (files : List OutFile) (run : Option PlainRun) (now : Option Files) (before after : ℕ)
      → SaveStops status held files run now before after → IfUnread status P
  saved-at status held files run now before after stops =
      no-fault status (λ is. subst (λ (x : Status). SaveStops x held files run now before after) is stops)

  pub unwritten-at : (fault : SaveFault) → IfUnread (save_fault_status fault) P
  unwritten-at saving.Failed = tt
  unwritten-at saving.OutOfMemory = tt

  printed-as : (status : Status) (written : Option (List ℕ)) (print : List ℕ) (now : Option (List ℕ)) (before after : ℕ)
      → PrintStops status written print now before after → IfUnread status P
  printed-as status written print now before after stops =
      no-fault status (λ is. subst (λ (x : Status). PrintStops x written print now before after) is stops)

  pub printed-at : (result : Result (Unit {0}) Status) (written : Option (List ℕ)) (print : List ℕ) (now : Option (List ℕ)) (before after : ℕ)
      → IfErr result (λ status. PrintStops status written print now before after) → IfUnread (status_of result) P
  printed-at (Ok done) written print now before after stops = tt
  printed-at (Err status) written print now before after stops = printed-as status written print now before after stops

  -- a stage that reads nothing has no such fault: it leaves any count of the library
  pub unreading-at : (status : Status) (shelf sink shelf_now sink_now : ℕ)
      → ((library : ℕ) → IsCause status (record { library = library; shelf = shelf; sink = sink })
      (record { library = library; shelf = shelf_now; sink = sink_now })) → IfUnread status P
  unreading-at status shelf sink shelf_now sink_now cause =
      no-fault status (λ is. (let rose : Rose 0 0 =
      (subst (λ (x : Status). IsCause x (record { library = 0; shelf = shelf; sink = sink })
      (record { library = 0; shelf = shelf_now; sink = sink_now })) is (cause 0)).0 in omega (arith, rose)))

  pub unread-is : (status : Status) → IfUnread status P → status ≡ ReadFault → P
  unread-is status h is = subst (λ (s : Status). IfUnread s P) is h

-- another work of the same files
pub map-fails : {A B : Type 0} (f : A → B) (told : Option Files) (before now : LibraryCall → List ℕ → ℕ) (outcome : Outcome A) → FailsIn told before now outcome
    → FailsIn told before now (outcome_map f outcome)
map-fails f told before now (Reads input name next) (inl failed) = inl failed
map-fails f told before now (Reads input name next) (inr p) = inr (p.0, p.1, map-fails f told before now (next p.0) p.2)
map-fails f told before now (Refused status) fails = absurd fails
map-fails f told before now (Works work) fails = absurd fails

-- THE WHOLE COMMAND

pub decided : (o : Objects) (before now : LibraryCall → List ℕ → ℕ) (status : Status) (command : Option Command) → Ends status command o
    → IfUnread status (FailsIn o.library before now (outcome_of command)) → Decides (outcome_of command) o.library before now status
decided o before now Done command ends unread = Asked Done (Leads-Asks o.library (outcome_of command) (Ok ends.work) ends.read)
decided o before now Usage None ends unread = Asked Usage refl
decided o before now Usage (Some c) ends unread = absurd (cc ends.0)
decided o before now GraphText command ends unread = Asked GraphText (Leads-Asks o.library (outcome_of command) (Err GraphText) ends.0)
decided o before now (GraphRule f) command ends unread = Asked (GraphRule f) (Leads-Asks o.library (outcome_of command) (Err (GraphRule f)) ends.0)
decided o before now (StackBytes f) command ends unread = Asked (StackBytes f) (Leads-Asks o.library (outcome_of command) (Err (StackBytes f)) ends.0)
decided o before now (Limit f) command ends unread = Asked (Limit f) (Leads-Asks o.library (outcome_of command) (Err (Limit f)) ends.0)
decided o before now Sizes command ends unread = Asked Sizes (Leads-Asks o.library (outcome_of command) (Err Sizes) ends.0)
decided o before now ReadFault command ends unread = Unread unread
decided o before now ShelfFault command ends unread = Unwritten ends.work ends.read
decided o before now OutFault command ends unread = Unprinted ends.work ends.read
decided o before now OutOfMemory command ends unread = NoMemory
