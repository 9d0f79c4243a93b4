-- A stack that is written to one file, and what refuses it.
use Rattle.std.specs.Prelude.{ℕ, ◌==◌, nat_lt, false, List, [], ◌∷◌, length, Option, None, Some, if◌then◌else◌}
use Rattle.nd_base.specs.Array.{Array}
use Rattle.nd_base.specs.Forms.{longest_of}
use Rattle.nd_base.specs.declared.attribute.FileShape.{FileShape}
use Rattle.nd_base.specs.declared.form.Form.TheVariants.{Classic}
use Rattle.cdf_write.specs.Layout.{layout}
use Rattle.cdf_write.specs.Lengths.{length_of}
use Rattle.graph_conf.specs.declared.load.LimitFault.{LimitFault}
use Rattle.graph_conf.specs.declared.load.LimitFault.TheVariants.{FileTooLarge}
use Rattle.graph_files.specs.OutFiles.{OutFile}

-- the file of some arrays under a name; none where there is no array
abbrev pub stack_files : (name : List ℕ) → FileShape → List Array → List OutFile
stack_files name shape arrays = if length arrays == 0 then [] else record { name = name; bytes = layout shape arrays; late = false } ∷ []

-- it would be too long, which is tested for the header alone where there is no array; the file belongs to no node
abbrev pub stack_limit : FileShape → (count : ℕ) → Option LimitFault
stack_limit shape count = if nat_lt (longest_of Classic) (length_of shape count) then Some (FileTooLarge 0 (length_of shape count)) else None
