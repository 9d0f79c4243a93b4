-- Worked prints of `info`.
use Rattle.std.proofs.Common.{◌≡◌, ℕ, pos, List, [], ◌∷◌, false, refl, arith}
use Rattle.std.specs.Prelude.{codes}
use Rattle.std.proofs.lemmas.Fmt.{decimal_digit}
use Rattle.nd_base.specs.Array.{Array, StackValue}
use Rattle.nd_base.specs.declared.form.Form.TheVariants.{Classic}
use Rattle.nd_base.specs.declared.array.Dim.{Dim}
use Rattle.nd_base.specs.declared.array.SampleType.TheVariants.{UInt8}
use Rattle.nd_base.specs.declared.attribute.AttrColumn.{AttrColumn}
use Rattle.nd_base.specs.declared.attribute.AttrKind.TheVariants.{WholeKind, TextKind, Bits64Kind, Bits32Kind}
use Rattle.tool_commands.specs.Info.{info_text}

abbrev two : Dim
two = record { size = 2; offset = pos 0; binning = pos 1; reverse = false }

-- two by two unsigned bytes with this id
abbrev small : ℕ → Array
small id =
    record { id = pos id; stamp = 0; sec = pos 0; nsec = pos 0; kind = UInt8; dims = two ∷ two ∷ []; samples = pos 1 ∷ pos 2 ∷ pos 3 ∷ pos 4 ∷ []; attrs = [] }

abbrev stack : List AttrColumn → List Array → StackValue
stack attrs arrays = record { shape = record { form = Classic; kind = UInt8; dims = two ∷ two ∷ []; attrs = attrs; width = 256; extras = [] }; arrays = arrays }

abbrev columns : List AttrColumn
columns =
    record { name = codes "A"; kind = WholeKind } ∷ record { name = codes "B"; kind = TextKind } ∷ record { name = codes "C"; kind = Bits64Kind }
    ∷ record { name = codes "D"; kind = Bits32Kind } ∷ []

pub no_frame : info_text (stack [] []) ≡ codes "kind UInt8\ndims 2 2\nframes 0\n"
no_frame = simp (decimal_digit 0 (omega arith), decimal_digit 2 (omega arith)) refl

pub one_frame : info_text (stack [] (small 1 ∷ [])) ≡ codes "kind UInt8\ndims 2 2\nframes 1\nids 1 1\n"
one_frame = simp (decimal_digit 1 (omega arith), decimal_digit 2 (omega arith)) refl

pub three_frames : info_text (stack columns (small 4 ∷ small 9 ∷ small 5 ∷ []))
    ≡ codes "kind UInt8\ndims 2 2\nframes 3\nids 4 5\nattr A whole\nattr B text\nattr C bits64\nattr D bits32\n"
three_frames = simp (decimal_digit 2 (omega arith), decimal_digit 3 (omega arith), decimal_digit 4 (omega arith), decimal_digit 5 (omega arith)) refl
