-- Where a file was read, or refused.
use Rattle.std.proofs.Common.{◌≡◌, ◌≢◌, ℕ, ◌<◌, ◌≤◌, List, Option, Ok, Err, false, length, refl, ap, sym, ◌∙◌, arith}
use Rattle.std.specs.Prelude.{nat_le}
use Rattle.std.proofs.lemmas.Bool.{le-leb}
use Rattle.std.proofs.lemmas.Bool.Decides.{nat_tests}
use Rattle.nd_base.specs.Array.{StackValue}
use Rattle.nd_base.specs.declared.graph.Graph.{Graph}
use Rattle.nd_base.specs.GraphRules.{IsGraph}
use Rattle.edge_traits.specs.Files.{Files, HasFile}
use Rattle.nd_stack.specs.declared.fault.StackFault.{StackFault}
use Rattle.nd_stack.specs.declared.fault.StackFault.TheVariants as refusal
use Rattle.nd_stack.specs.Answers as stacks
use Rattle.nd_stack.specs.StackRules.{stack_of}
use Rattle.graph_conf.specs.declared.fault.GraphFault.{GraphFault}
use Rattle.graph_conf.specs.declared.fault.GraphFault.TheVariants as rule
use Rattle.graph_conf.specs.declared.load.LimitFault.TheVariants.{GraphBytes, StackFile}
use Rattle.graph_conf.specs.Answers as graphs
use Rattle.graph_conf.specs.Graphs.{graph_of_bytes}
use Rattle.tool_commands.specs.declared.reading.ReadRefusal.{ReadRefusal}
use Rattle.tool_commands.specs.declared.reading.ReadRefusal.TheVariants as reading
use Rattle.tool_commands.specs.declared.status.Status.{Status}
use Rattle.tool_commands.specs.declared.status.Status.TheVariants.{GraphRule, StackBytes, Limit}
use Rattle.tool_commands.specs.Inputs.{AsGraph, AsStack, IsReadAs, IsRefusedAs, IsRefusalOf, LongGraph, NoText, NoGraph, LongStack, NoStack}
use Rattle.tool_commands.specs.Inputs.{graph_or_status, graph_in, stack_or_status, stack_in, most_graph_bytes, most_stack_bytes, most_frames}
use Rattle.tool_commands.specs.Reads.{IsSized, ReadFaultCause}
use Rattle.tool_commands.specs.Stages.{ReadStops, graph_read_status, stack_read_status, graph_fault_status, fault_status}

-- THE GRAPH

graph_in-short : (bytes : List ℕ) → length bytes ≤ most_graph_bytes → graph_in bytes ≡ graph_or_status (graph_of_bytes bytes)
graph_in-short bytes short = rw (le-leb (length bytes) most_graph_bytes short) refl

pub graph_read : (told : Option Files) (name bytes : List ℕ) (g : Graph) → HasFile told name bytes → length bytes ≤ most_graph_bytes
    → graph_of_bytes bytes ≡ Ok g → IsGraph g → IsReadAs told AsGraph name g
graph_read told name bytes g has short found sound =
    record { bytes = bytes; file = has; means = graph_in-short bytes short ∙ ap graph_or_status found; sound = sound }

-- a file that is too long
long_graph : (told : Option Files) (name : List ℕ) (n : ℕ) → most_graph_bytes < n → IsSized told name n
    → IsRefusedAs told AsGraph name (Limit (GraphBytes n))
long_graph told name n past sized =
    let is : n ≡ length sized.bytes = sized.size in
    let long : nat_le (length sized.bytes) most_graph_bytes ≡ false = grind (arith, nat_tests) in
    let means : graph_in sized.bytes ≡ Err (Limit (GraphBytes n)) = rw long (ap (λ m. Err (Limit (GraphBytes m))) (sym is)) in
    record { bytes = sized.bytes; file = sized.file; means = means; refusal = LongGraph n past }

-- a file that wasn't read
pub graph_unread : (why : ReadRefusal) (told : Option Files) (name : List ℕ) (before now : ℕ) → ReadFaultCause why told name most_graph_bytes before now
    → ReadStops (IsRefusedAs told AsGraph name) (graph_read_status why) before now
graph_unread (reading.TooLong n) told name before now cause = (long_graph told name n cause.0 cause.1, cause.2)
graph_unread reading.Failed told name before now cause = cause
graph_unread reading.OutOfMemory told name before now cause = cause

-- bytes that are no graph
module _ (told : Option Files) (name bytes : List ℕ) (has : HasFile told name bytes) (short : length bytes ≤ most_graph_bytes) where
  refused_graph : (fault : GraphFault) (answer : Status) → graph_of_bytes bytes ≡ Err fault → graph_or_status (Err fault) ≡ Err answer
      → IsRefusalOf AsGraph answer → IsRefusedAs told AsGraph name answer
  refused_graph fault answer found is refusal =
      record { bytes = bytes; file = has; means = graph_in-short bytes short ∙ ap graph_or_status found ∙ is; refusal = refusal }

  no_graph : (fault : GraphFault) → graph_of_bytes bytes ≡ Err fault → graph_or_status (Err fault) ≡ Err (GraphRule fault)
      → fault ≢ rule.OutOfMemory → fault ≢ rule.Text → IsRefusedAs told AsGraph name (GraphRule fault)
  no_graph fault found is memory text = refused_graph fault (GraphRule fault) found is (NoGraph fault memory text)

  pub graph_refused : (fault : GraphFault) (before now : ℕ) → graphs.Refuses fault (graph_of_bytes bytes) → now ≡ before
      → ReadStops (IsRefusedAs told AsGraph name) (graph_fault_status fault) before now
  graph_refused rule.OutOfMemory before now found same = same
  graph_refused rule.Text before now found same = (refused_graph rule.Text _ found refl NoText, same)
  graph_refused (rule.UnknownKey k) before now found same = (no_graph (rule.UnknownKey k) found refl (λ e. cc) (λ e. cc), same)
  graph_refused (rule.KeyType k) before now found same = (no_graph (rule.KeyType k) found refl (λ e. cc) (λ e. cc), same)
  graph_refused (rule.Range k v) before now found same = (no_graph (rule.Range k v) found refl (λ e. cc) (λ e. cc), same)
  graph_refused (rule.Missing k) before now found same = (no_graph (rule.Missing k) found refl (λ e. cc) (λ e. cc), same)
  graph_refused (rule.UnknownKind n) before now found same = (no_graph (rule.UnknownKind n) found refl (λ e. cc) (λ e. cc), same)
  graph_refused (rule.Threads n) before now found same = (no_graph (rule.Threads n) found refl (λ e. cc) (λ e. cc), same)
  graph_refused (rule.Calc f) before now found same = (no_graph (rule.Calc f) found refl (λ e. cc) (λ e. cc), same)
  graph_refused (rule.DoubleName n) before now found same = (no_graph (rule.DoubleName n) found refl (λ e. cc) (λ e. cc), same)
  graph_refused (rule.UnknownInput n) before now found same = (no_graph (rule.UnknownInput n) found refl (λ e. cc) (λ e. cc), same)
  graph_refused (rule.Cycle n) before now found same = (no_graph (rule.Cycle n) found refl (λ e. cc) (λ e. cc), same)

-- THE STACK

stack_in-short : (bytes : List ℕ) → length bytes ≤ most_stack_bytes → stack_in bytes ≡ stack_or_status (stack_of bytes)
stack_in-short bytes short = rw (le-leb (length bytes) most_stack_bytes short) refl

pub stack_read : (told : Option Files) (name bytes : List ℕ) (s : StackValue) → HasFile told name bytes → length bytes ≤ most_stack_bytes
    → stack_of bytes ≡ Ok s → length s.arrays ≤ most_frames → IsReadAs told AsStack name s
stack_read told name bytes s has short found few =
    record { bytes = bytes; file = has; means = stack_in-short bytes short ∙ ap stack_or_status found; sound = few }

-- a file that is too long
long_stack : (told : Option Files) (name : List ℕ) (n : ℕ) → most_stack_bytes < n → IsSized told name n
    → IsRefusedAs told AsStack name (Limit (StackFile n))
long_stack told name n past sized =
    let is : n ≡ length sized.bytes = sized.size in
    let long : nat_le (length sized.bytes) most_stack_bytes ≡ false = grind (arith, nat_tests) in
    let means : stack_in sized.bytes ≡ Err (Limit (StackFile n)) = rw long (ap (λ m. Err (Limit (StackFile m))) (sym is)) in
    record { bytes = sized.bytes; file = sized.file; means = means; refusal = LongStack n past }

-- a file that wasn't read
pub stack_unread : (why : ReadRefusal) (told : Option Files) (name : List ℕ) (before now : ℕ) → ReadFaultCause why told name most_stack_bytes before now
    → ReadStops (IsRefusedAs told AsStack name) (stack_read_status why) before now
stack_unread (reading.TooLong n) told name before now cause = (long_stack told name n cause.0 cause.1, cause.2)
stack_unread reading.Failed told name before now cause = cause
stack_unread reading.OutOfMemory told name before now cause = cause

-- bytes that are no stack
module _ (told : Option Files) (name bytes : List ℕ) (has : HasFile told name bytes) (short : length bytes ≤ most_stack_bytes) where
  no_stack : (fault : StackFault) → stack_of bytes ≡ Err fault → fault ≢ refusal.OutOfMemory → IsRefusedAs told AsStack name (StackBytes fault)
  no_stack fault found memory =
      record { bytes = bytes; file = has; means = stack_in-short bytes short ∙ ap stack_or_status found; refusal = NoStack fault memory }

  pub stack_refused : (fault : StackFault) (before now : ℕ) → stacks.Refuses fault (stack_of bytes) → now ≡ before
      → ReadStops (IsRefusedAs told AsStack name) (fault_status fault) before now
  stack_refused refusal.OutOfMemory before now found same = same
  stack_refused (refusal.Cdf f) before now found same = (no_stack (refusal.Cdf f) found (λ e. cc), same)
  stack_refused refusal.NoArrayData before now found same = (no_stack refusal.NoArrayData found (λ e. cc), same)
  stack_refused (refusal.SampleType n) before now found same = (no_stack (refusal.SampleType n) found (λ e. cc), same)
  stack_refused (refusal.Rank n) before now found same = (no_stack (refusal.Rank n) found (λ e. cc), same)
  stack_refused (refusal.TooManyFrames n) before now found same = (no_stack (refusal.TooManyFrames n) found (λ e. cc), same)
  stack_refused (refusal.TooManySamples n) before now found same = (no_stack (refusal.TooManySamples n) found (λ e. cc), same)
  stack_refused (refusal.FrameCount var) before now found same = (no_stack (refusal.FrameCount var) found (λ e. cc), same)
  stack_refused (refusal.AttrShape var) before now found same = (no_stack (refusal.AttrShape var) found (λ e. cc), same)
