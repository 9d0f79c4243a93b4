-- What each command reads, in which order, and what it does with it.
use Rattle.std.specs.Prelude.{ℕ, ◌==◌, ◌&&◌, nat_lt, Bool, true, false, List, [], ◌∷◌, length, map, Option, None, Some, if◌then◌else◌}
use Rattle.std.specs.List.{flat_map, range_with_len}
use Rattle.nd_base.specs.Array.{Array, StackValue}
use Rattle.nd_base.specs.declared.attribute.FileShape.{FileShape}
use Rattle.nd_base.specs.declared.array.Dim.{Dim}
use Rattle.nd_base.specs.declared.graph.Graph.{Graph}
use Rattle.nd_stack.specs.RoundTrip.{ReadsBack}
use Rattle.nd_stack.specs.declared.generated.GenFault.{GenFault}
use Rattle.nd_stack.specs.declared.generated.GenFault.TheVariants.{GenBytes}
use Rattle.nd_stack.specs.Generated.{gen_fault, generated_stack}
use Rattle.nd_orient.specs.declared.rule.CorrectRule.{CorrectRule}
use Rattle.nd_orient.specs.Correction.{corrected}
use Rattle.nd_orient.specs.Orientation.{oriented, oriented_dims}
use Rattle.nd_series.specs.declared.region.Box4.{Box4}
use Rattle.nd_series.specs.Stacks.{series_of}
use Rattle.nd_series.specs.Text.{series_text}
use Rattle.stack_file.specs.ChangedStacks.{changed_stack}
use Rattle.chain_plain.specs.PlainRun.{result_of}
use Rattle.graph_conf.specs.Loads.{limit_fault}
use Rattle.graph_conf.specs.declared.load.LimitFault.{LimitFault}
use Rattle.graph_conf.specs.declared.load.LimitFault.TheVariants as limit
use Rattle.graph_files.specs.OutFiles.{OutFile, file_shape, plain_files}
use Rattle.tool_commands.specs.declared.status.Status.TheVariants.{Usage, Limit, Sizes}
use Rattle.tool_commands.specs.Command.{Command, Copy, Plain, Info, Gen, Orient, Correct, Series}
use Rattle.tool_commands.specs.Copy.{copy_graph, copy_shape}
use Rattle.tool_commands.specs.Info.{info_text}
use Rattle.tool_commands.specs.Inputs.{AsGraph, AsStack}
use Rattle.tool_commands.specs.Left.{PlainRun}
use Rattle.tool_commands.specs.Outcomes.{Outcome, Reads, Refused, Works, outcome_map}
use Rattle.tool_commands.specs.PlainText.{plain_text}
use Rattle.tool_commands.specs.Printed.{frames_line}
use Rattle.tool_commands.specs.StackFiles.{stack_files, stack_limit}
use Rattle.tool_commands.specs.declared.words.GenRule.{GenRule}

-- WORKS

-- arrays that have one file
pub record Group : Type 0 where
  pub shape : FileShape
  pub arrays : List Array

-- the file of a group reads back as its arrays
abbrev pub IsBack : Group → Type 0
IsBack group = ReadsBack group.shape group.arrays

-- the files that a command writes, the plain run whose files they are, if they are one's, what it prints, and the groups that its netCDF files are of
pub record Work : Type 0 where
  pub files : List OutFile
  pub run : Option PlainRun
  pub print : List ℕ
  pub groups : List Group

-- all of some arrays, where there is one
abbrev pub stack_groups : FileShape → List Array → List Group
stack_groups shape arrays = if length arrays == 0 then [] else record { shape = shape; arrays = arrays } ∷ []

abbrev pub copy_groups : StackValue → List Group
copy_groups s = stack_groups (copy_shape s) s.arrays

-- the groups of a node, and those of all nodes in the graph's order
abbrev pub node_groups : Graph → StackValue → ℕ → List Group
node_groups g s v = map (λ arrays. record { shape = file_shape g s v; arrays = arrays }) (result_of g s v).files

abbrev pub plain_groups : Graph → StackValue → List Group
plain_groups g s = flat_map (node_groups g s) (range_with_len 1 (length g.nodes))

-- A copy has the files of the plain run of its graph, which are the layout of the stack under one name (`CopiesAreOneFile`).
abbrev pub copy_work : (prefix : List ℕ) → StackValue → Work
copy_work prefix s =
    record {
      files = plain_files copy_graph s prefix;
      run = Some (record { graph = copy_graph; stack = s; prefix = prefix });
      print = frames_line (length s.arrays);
      groups = copy_groups s;
    }

-- a graph, and the stack that it goes over
pub record Source : Type 0 where
  pub graph : Graph
  pub stack : StackValue

abbrev pub plain_work : (prefix : List ℕ) → Source → Work
plain_work prefix source =
    record {
      files = plain_files source.graph source.stack prefix;
      run = Some (record { graph = source.graph; stack = source.stack; prefix = prefix });
      print = plain_text source.graph source.stack;
      groups = plain_groups source.graph source.stack;
    }

abbrev pub info_work : StackValue → Work
info_work s = record { files = []; run = None; print = info_text s; groups = [] }

-- a stack is written to one file, and this is printed
abbrev pub stack_work : (name print : List ℕ) → StackValue → Work
stack_work name print s =
    record { files = stack_files name s.shape s.arrays; run = None; print = print; groups = stack_groups s.shape s.arrays }

-- the stack that a rule makes; nothing is printed
abbrev pub gen_work : GenRule → (name : List ℕ) → Work
gen_work rule name = stack_work name [] (generated_stack rule.frames rule.width rule.height rule.kind rule.start)

-- a stack with each array changed; the number of its frames is printed
abbrev pub changed_work : (name : List ℕ) → StackValue → Work
changed_work name s = stack_work name (frames_line (length s.arrays)) s

-- a text of the series of a stack is written to one file, and the number of the stack's frames is printed
abbrev pub series_work : (most : ℕ) → (regions : List Box4) → (name : List ℕ) → StackValue → Work
series_work most regions name s =
    record {
      files = record { name = name; bytes = series_text (series_of most regions s.arrays); late = false } ∷ [];
      run = None;
      print = frames_line (length s.arrays);
      groups = [];
    }

-- OUTCOMES

-- refused for the first limit that is passed
abbrev pub unless_passed : {A : Type 0} → Option LimitFault → A → Outcome A
unless_passed None work = Works work
unless_passed (Some fault) work = Refused (Limit fault)

-- the work of a graph over a stack
abbrev pub within : {A : Type 0} → Graph → StackValue → A → Outcome A
within g s work = unless_passed (limit_fault g s) work

-- a graph, then a stack, within their limits
abbrev pub sources : (graph stack : List ℕ) → Outcome Source
sources graph stack = Reads AsGraph graph (λ g. Reads AsStack stack (λ s. within g s (record { graph = g; stack = s })))

-- a stack is made unless its samples would take too many bytes
abbrev pub gen_outcome : Option GenFault → Work → Outcome Work
gen_outcome (Some (GenBytes bytes)) work = Refused (Limit (limit.GenBytes bytes))
gen_outcome _ work = Works work

-- a changed stack is written unless its file would be too long
abbrev pub changed_outcome : (name : List ℕ) → StackValue → Outcome Work
changed_outcome name s = unless_passed (stack_limit s.shape (length s.arrays)) (changed_work name s)

-- only arrays of two dimensions and more are oriented
abbrev pub orient_outcome : (mode : ℕ) → (name : List ℕ) → StackValue → Outcome Work
orient_outcome mode name s =
    if nat_lt (length s.shape.dims) 2 then Refused Sizes else changed_outcome name (changed_stack (oriented mode) (oriented_dims mode) s)

-- dimensions of the same sizes
abbrev pub same_sizes : List Dim → List Dim → Bool
same_sizes [] [] = true
same_sizes (d ∷ ds) (e ∷ es) = (d.size == e.size) && same_sizes ds es
same_sizes _ _ = false

-- the first of these dark frames corrects a stack of arrays of its sizes
abbrev pub correct_outcome : CorrectRule → (name : List ℕ) → (dark : List Array) → StackValue → Outcome Work
correct_outcome rule name [] s = Refused Sizes
correct_outcome rule name (dark ∷ others) s =
    if same_sizes dark.dims s.shape.dims then changed_outcome name (changed_stack (corrected rule dark) (λ dims. dims) s) else Refused Sizes

-- what a command asks its files for; a made stack can be refused at once
abbrev pub outcome_of : Option Command → Outcome Work
outcome_of None = Refused Usage
outcome_of (Some (Copy stack prefix)) = Reads AsStack stack (λ s. within copy_graph s (copy_work prefix s))
outcome_of (Some (Plain graph stack prefix)) = outcome_map (plain_work prefix) (sources graph stack)
outcome_of (Some (Info stack)) = Reads AsStack stack (λ s. Works (info_work s))
outcome_of (Some (Gen rule name)) = gen_outcome (gen_fault rule.frames rule.width rule.height rule.kind) (gen_work rule name)
outcome_of (Some (Orient mode stack name)) = Reads AsStack stack (λ s. orient_outcome mode name s)
outcome_of (Some (Correct rule dark stack name)) = Reads AsStack dark (λ d. Reads AsStack stack (λ s. correct_outcome rule name d.arrays s))
outcome_of (Some (Series most regions stack name)) = Reads AsStack stack (λ s. Works (series_work most regions name s))
