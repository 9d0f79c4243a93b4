-- Where the values of a file stand: sizes, records, and the place of each value.
use Rattle.std.specs.Prelude.{◌≡◌, ℕ, ◌+◌, ◌-◌, ◌*◌, ◌/◌, min, List, [], ◌∷◌, length, map, filter, fold, sum_by, slice_get, Some, ◌<◌, Bool, true, false}
use Rattle.std.specs.Prelude.{nat_lt, nat_le, ◌==◌, ◌&&◌, if◌then◌else◌}
use Rattle.std.specs.Option.{option_map_or}
use Rattle.std.specs.List.{list_all}
use Rattle.nd_base.specs.Shapes.{product}
use Rattle.cdf_read.specs.declared.head.HeadDim.{HeadDim}
use Rattle.cdf_read.specs.declared.head.HeadAttr.{HeadAttr}
use Rattle.cdf_read.specs.declared.head.HeadVar.{HeadVar}
use Rattle.cdf_read.specs.declared.head.Header.{Header}
use Rattle.cdf_read.specs.Fields.{padded}

-- the bytes of one value: byte 1, char 2, short 3, int 4, float 5, double 6
abbrev pub value_size : ℕ → ℕ
value_size kind = if nat_le kind 2 then 1 else (if kind == 3 then 2 else (if kind == 6 then 8 else 4))

-- the length of the dimension of this number
abbrev pub dim_length : List HeadDim → ℕ → ℕ
dim_length dims number = option_map_or (λ d. d.length) (slice_get dims number) 0

-- how many values these dimensions span, without the record dimension
abbrev pub value_count : List HeadDim → List ℕ → ℕ
value_count dims numbers = product (filter (nat_lt 0) (map (dim_length dims) numbers))

-- the bytes of a variable, or of one record of it
abbrev pub size_of : List HeadDim → List ℕ → ℕ → ℕ
size_of dims numbers kind = value_count dims numbers * value_size kind

abbrev pub var_size : List HeadDim → HeadVar → ℕ
var_size dims v = size_of dims v.dims v.kind

-- the first of these dimensions is the record dimension
abbrev pub begins_with_record : List HeadDim → List ℕ → Bool
begins_with_record dims [] = false
begins_with_record dims (number ∷ numbers) = dim_length dims number == 0

abbrev pub is_record_var : List HeadDim → HeadVar → Bool
is_record_var dims v = begins_with_record dims v.dims

-- the variables that have a value in each record
abbrev pub record_vars : List HeadDim → List HeadVar → List HeadVar
record_vars dims vars = filter (is_record_var dims) vars

-- the only record variable, where its type is byte, char or short, isn't padded
abbrev pub is_unpadded : List HeadVar → Bool
is_unpadded records = (length records == 1) && list_all (λ v. nat_le v.kind 3) records

-- the bytes that a variable takes in each record, among these record variables
abbrev pub stored_size : List HeadDim → Bool → HeadVar → ℕ
stored_size dims unpadded v = if unpadded then var_size dims v else padded (var_size dims v)

-- the bytes of one record
abbrev pub record_size : List HeadDim → List HeadVar → ℕ
record_size dims vars = sum_by (stored_size dims (is_unpadded (record_vars dims vars))) (record_vars dims vars)

-- the place of the first record in a file of so many bytes, or the file's end where that comes first
abbrev pub first_record : ℕ → List HeadVar → ℕ
first_record total records = fold (λ least v. min least v.begin) total records

-- numrecs of a file whose records are to be counted
abbrev pub streaming : ℕ
streaming = 4294967295

-- how many records a file of so many bytes has
abbrev pub record_count : ℕ → ℕ → List HeadDim → List HeadVar → ℕ
record_count total numrecs dims vars =
    if numrecs == streaming then (total - first_record total (record_vars dims vars)) / record_size dims vars else numrecs

-- the header of these parts, in a file of so many bytes
abbrev pub header_with : ℕ → ℕ → List HeadDim → List HeadAttr → List HeadVar → Header
header_with total numrecs dims gatts vars = record {
  records = record_count total numrecs dims vars;
  recsize = record_size dims vars;
  dims = dims;
  gatts = gatts;
  vars = vars;
}

-- the place of value i of record r of a variable
abbrev pub place_of_value : Header → HeadVar → ℕ → ℕ → ℕ
place_of_value h v r i = v.begin + (if is_record_var h.dims v then r * h.recsize else 0) + i * value_size v.kind

-- the place after the last value of a variable, and 0 where it has none
abbrev pub values_end : Header → HeadVar → ℕ
values_end h v =
    if is_record_var h.dims v && (h.records == 0) then 0
    else v.begin + (if is_record_var h.dims v then (h.records - 1) * h.recsize else 0) + var_size h.dims v

-- the variable of this number has a value i in record r; without the record dimension any r will do
pub record HasValue (h : Header) (var r i : ℕ) : Type 0 where
  pub variable : HeadVar
  pub found : slice_get h.vars var ≡ Some variable
  pub in_records : is_record_var h.dims variable ≡ true → r < h.records
  pub in_record : i < value_count h.dims variable.dims
