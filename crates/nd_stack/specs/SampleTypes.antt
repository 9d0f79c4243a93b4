-- Numbers of global attributes, and the sample type.
use Rattle.std.specs.Prelude.{ℕ, ◌==◌, ℤ, pos, negsuc, List, [], ◌∷◌, length, slice_index_or, Option, Some, None, Result, Ok, Err, codes, if◌then◌else◌}
use Rattle.std.specs.List.{find}
use Rattle.std.specs.Ordering.{int_eq}
use Rattle.std.specs.Str.{bytes_eq}
use Rattle.nd_base.specs.declared.array.SampleType.{SampleType}
use Rattle.nd_base.specs.declared.array.SampleType.TheVariants.{Int8, UInt8, Int16, UInt16, Int32, UInt32}
use Rattle.nd_base.specs.Samples.{samples_of}
use Rattle.cdf_read.specs.declared.head.HeadAttr.{HeadAttr}
use Rattle.cdf_read.specs.declared.head.Header.{Header}
use Rattle.nd_stack.specs.declared.fault.StackFault.{StackFault}
use Rattle.nd_stack.specs.declared.fault.StackFault.TheVariants as refusal

-- the values of an attribute, where its type is int
abbrev pub int_bytes_of : Option HeadAttr → List ℕ
int_bytes_of None = []
int_bytes_of (Some a) = if a.kind == 4 then a.values else []

-- the bytes of the values of the first global attribute of this name, where its type is int
abbrev pub int_bytes : Header → List ℕ → List ℕ
int_bytes h name = int_bytes_of (find (λ a. bytes_eq a.name name) h.gatts)

-- its values
abbrev pub ints : Header → List ℕ → List ℤ
ints h name = samples_of Int32 (int_bytes h name)

-- value i of an int attribute that has one value a dimension, and else this one
abbrev pub dim_value : Header → List ℕ → ℕ → ℕ → ℤ → ℤ
dim_value h name count i other = if length (ints h name) == count then slice_index_or (ints h name) i other else other

-- the sample types by their numbers
abbrev pub numbered : ℤ → Option SampleType
numbered d =
    if int_eq d (pos 0) then Some Int8 else (if int_eq d (pos 1) then Some UInt8
    else (if int_eq d (pos 2) then Some Int16 else (if int_eq d (pos 3) then Some UInt16
    else (if int_eq d (pos 4) then Some Int32 else (if int_eq d (pos 5) then Some UInt32 else None)))))

-- the value type that samples are stored as: byte, short or int
abbrev pub stored_as : SampleType → ℕ
stored_as Int8 = 1
stored_as UInt8 = 1
stored_as Int16 = 3
stored_as UInt16 = 3
stored_as Int32 = 4
stored_as UInt32 = 4

-- the type of this number, where the variable's value type is the one that it is stored as
abbrev pub type_numbered : Option SampleType → ℤ → ℕ → Result SampleType StackFault
type_numbered None d kind = Err (refusal.SampleType d)
type_numbered (Some t) d kind = if stored_as t == kind then Ok t else Err (refusal.SampleType d)

-- without a number: byte, short and int are signed, and char, float and double are refused by theirs
abbrev pub type_stored : ℕ → Result SampleType StackFault
type_stored kind =
    if kind == 1 then Ok Int8 else (if kind == 3 then Ok Int16 else (if kind == 4 then Ok Int32
    else (if kind == 2 then Err (refusal.SampleType (negsuc 1))
    else (if kind == 5 then Err (refusal.SampleType (negsuc 4)) else Err (refusal.SampleType (negsuc 5))))))

abbrev pub type_by : List ℤ → ℕ → Result SampleType StackFault
type_by [] kind = type_stored kind
type_by (d ∷ others) kind = type_numbered (numbered d) d kind

-- the sample type of values of this value type: by the first value of dataType, where that is there
abbrev pub sample_type : Header → ℕ → Result SampleType StackFault
sample_type h kind = type_by (ints h (codes "dataType")) kind
