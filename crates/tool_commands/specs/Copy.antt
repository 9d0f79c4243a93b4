-- What `copy` is: the plain run of a graph of one file node; and what it writes, by the stack.
use Rattle.std.specs.Prelude.{◌≡◌, ℕ, ◌≤◌, ◌==◌, nat_lt, false, List, [], ◌∷◌, length, ◌++◌, Some, None, codes, if◌then◌else◌}
use Rattle.nd_base.specs.Array.{StackValue}
use Rattle.nd_base.specs.Forms.{longest_of}
use Rattle.nd_base.specs.declared.attribute.FileShape.{FileShape}
use Rattle.nd_base.specs.declared.form.Form.TheVariants.{Classic}
use Rattle.nd_base.specs.declared.graph.FileRule.{FileRule}
use Rattle.nd_base.specs.declared.graph.Graph.{Graph}
use Rattle.nd_base.specs.declared.graph.Kind.TheVariants.{File}
use Rattle.nd_base.specs.declared.graph.Mode.TheVariants.{Capture}
use Rattle.nd_base.specs.declared.graph.NodeRule.{NodeRule}
use Rattle.cdf_write.specs.Layout.{layout}
use Rattle.cdf_write.specs.Lengths.{length_of}
use Rattle.graph_conf.specs.Loads.{limit_fault}
use Rattle.graph_conf.specs.declared.load.LimitFault.TheVariants.{FileTooLarge}
use Rattle.graph_files.specs.OutFiles.{plain_files}

-- one file node named `copy` on the driver, in mode capture, with as many arrays a file as a stack has at most
abbrev pub copy_rule : FileRule
copy_rule = record { mode = Capture; count = 65536; form = Classic }

abbrev pub copy_node : NodeRule
copy_node = record { name = codes "copy"; kind = File copy_rule; input = 0; queue = 20; threads = 1; sort = 0; sort_time = 100 }

abbrev pub copy_graph : Graph
copy_graph = record { wait = false; limit = 0; nodes = copy_node ∷ [] }

-- the name of the copy's file
abbrev pub copy_name : List ℕ → List ℕ
copy_name prefix = prefix ++ codes "copy_000.nc"

-- the stack's shape in form Classic
abbrev pub copy_shape : StackValue → FileShape
copy_shape s = record s.shape { form = Classic }

-- the bytes of the copy's file: the layout of the stack's arrays
abbrev pub copy_file : StackValue → List ℕ
copy_file s = layout (copy_shape s) s.arrays

-- and their number
abbrev pub copy_length : StackValue → ℕ
copy_length s = length_of (copy_shape s) (length s.arrays)

-- where there is an array `copy` writes this file and no other, and else none; of every stack that has no more arrays than one may have
abbrev pub CopiesAreOneFile : Type 0
CopiesAreOneFile = (s : StackValue) (prefix : List ℕ) → length s.arrays ≤ 65536
    → plain_files copy_graph s prefix ≡ (if length s.arrays == 0 then [] else record { name = copy_name prefix; bytes = copy_file s; late = false } ∷ [])

-- and it passes a limit only where the file, or the header alone, would be too long
abbrev pub CopiesHaveOneLimit : Type 0
CopiesHaveOneLimit = (s : StackValue) → length s.arrays ≤ 65536
    → limit_fault copy_graph s ≡ (if nat_lt (longest_of Classic) (copy_length s) then Some (FileTooLarge 1 (copy_length s)) else None)
