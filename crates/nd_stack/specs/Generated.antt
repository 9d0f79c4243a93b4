-- Stacks that are made by a rule: their samples are the numbers of one linear congruential generator, which runs through all
-- samples of all frames in their order.
use Rattle.std.specs.Prelude.{ℕ, zero, suc, ◌+◌, ◌*◌, ◌/◌, ◌%◌, ◌^◌, ◌&&◌, nat_lt, nat_le, Bool, false, ℤ, pos, List, [], ◌∷◌, map, Option, Some, None, codes}
use Rattle.std.specs.Prelude.{if◌then◌else◌}
use Rattle.std.specs.Int.{w8, w16, w32, cast_signed}
use Rattle.std.specs.List.{range_with_len}
use Rattle.nd_base.specs.declared.array.Dim.{Dim}
use Rattle.nd_base.specs.declared.array.Head.{Head}
use Rattle.nd_base.specs.declared.array.SampleType.{SampleType}
use Rattle.nd_base.specs.declared.array.SampleType.TheVariants.{Int8, UInt8, Int16, UInt16, Int32, UInt32}
use Rattle.nd_base.specs.declared.attribute.Attr.{Attr}
use Rattle.nd_base.specs.declared.attribute.AttrColumn.{AttrColumn}
use Rattle.nd_base.specs.declared.attribute.AttrKind.TheVariants.{WholeKind}
use Rattle.nd_base.specs.declared.attribute.AttrValue.TheVariants.{Whole}
use Rattle.nd_base.specs.declared.attribute.FileShape.{FileShape}
use Rattle.nd_base.specs.declared.form.Form.TheVariants.{Classic}
use Rattle.nd_base.specs.Array.{Array, StackValue}
use Rattle.nd_base.specs.Samples.{width}
use Rattle.nd_stack.specs.declared.generated.GenFault.{GenFault}
use Rattle.nd_stack.specs.declared.generated.GenFault.TheVariants.{GenRange, GenBytes, OutOfMemory}

-- SAMPLES

-- what follows a number of the generator
abbrev pub next_number : ℕ → ℕ
next_number x = (x * 1103515245 + 12345) % 2147483648

-- the number after so many steps
abbrev pub number_after : ℕ → ℕ → ℕ
number_after x zero = x
number_after x (suc j) = number_after (next_number x) j

-- the number of this type that is the same modulo 2 to the number of its bits
abbrev pub reduced : SampleType → ℕ → ℤ
reduced Int8 m = cast_signed w8 (m % 2 ^ 8)
reduced UInt8 m = pos (m % 2 ^ 8)
reduced Int16 m = cast_signed w16 (m % 2 ^ 16)
reduced UInt16 m = pos (m % 2 ^ 16)
reduced Int32 m = cast_signed w32 (m % 2 ^ 32)
reduced UInt32 m = pos (m % 2 ^ 32)

-- the sample of a number: what is left without its lowest 16 bits, reduced
abbrev pub sample_for : SampleType → ℕ → ℤ
sample_for kind x = reduced kind (x / 65536)

-- sample j of all frames together, from 0 on: the start itself gives none
abbrev pub sample : SampleType → ℕ → ℕ → ℤ
sample kind start j = sample_for kind (number_after start (suc j))

-- FRAMES

-- frame k of frames with so many samples: its samples are those after the samples of the frames before it
abbrev pub frame_samples : SampleType → ℕ → ℕ → ℕ → List ℤ
frame_samples kind start count k = map (sample kind start) (range_with_len (k * count) count)

-- the whole attribute of each frame, which counts the frames from 0
abbrev pub frame_name : List ℕ
frame_name = codes "Frame"

abbrev pub frame_column : AttrColumn
frame_column = record { name = frame_name; kind = WholeKind }

abbrev pub frame_attr : ℕ → Attr
frame_attr k = record { name = frame_name; value = Whole (pos k) }

abbrev pub whole_dim : ℕ → Dim
whole_dim size = record { size = size; offset = pos 0; binning = pos 1; reverse = false }

abbrev pub whole_dims : (w h : ℕ) → List Dim
whole_dims w h = whole_dim w ∷ whole_dim h ∷ []

-- frame k: ids count from 1, and all times are 0
abbrev pub generated_array : (w h : ℕ) → SampleType → ℕ → ℕ → Array
generated_array w h kind start k = record {
  id = pos (k + 1);
  stamp = 0;
  sec = pos 0;
  nsec = pos 0;
  kind = kind;
  dims = whole_dims w h;
  samples = frame_samples kind start (w * h) k;
  attrs = frame_attr k ∷ [];
}

-- and what it has beside its samples
abbrev pub frame_head : ℕ → Head
frame_head k = record { id = pos (k + 1); stamp = 0; sec = pos 0; nsec = pos 0; attrs = frame_attr k ∷ [] }

-- THE STACK

-- what all frames share
abbrev pub generated_shape : (w h : ℕ) → SampleType → FileShape
generated_shape w h kind = record {
  form = Classic;
  kind = kind;
  dims = whole_dims w h;
  attrs = frame_column ∷ [];
  width = 256;
  extras = [];
}

-- n frames of w by h samples
abbrev pub generated : (n w h : ℕ) → SampleType → ℕ → List Array
generated n w h kind start = map (generated_array w h kind start) (range_with_len 0 n)

abbrev pub generated_stack : (n w h : ℕ) → SampleType → ℕ → StackValue
generated_stack n w h kind start = record { shape = generated_shape w h kind; arrays = generated n w h kind start }

-- REFUSALS

abbrev pub is_size : ℕ → Bool
is_size size = nat_lt 0 size && nat_le size 8192

-- the bytes of all samples
abbrev pub gen_bytes : (n w h : ℕ) → SampleType → ℕ
gen_bytes n w h kind = n * w * h * width kind

-- the first refusal that holds: a count or a size out of its range, then too many bytes
abbrev pub gen_fault : (n w h : ℕ) → SampleType → Option GenFault
gen_fault n w h kind =
    if nat_le n 65536 && is_size w && is_size h
    then (if nat_lt 536870912 (gen_bytes n w h kind) then Some (GenBytes (gen_bytes n w h kind)) else None)
    else Some GenRange

-- the refusal that an answer names: want of memory is none
abbrev pub named_refusal : GenFault → Option GenFault
named_refusal OutOfMemory = None
named_refusal fault = Some fault
