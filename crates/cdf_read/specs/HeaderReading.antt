-- Reading a header from left to right, with the first fault that is met and its place: from the bytes that are left of a
-- file to a value and the bytes after it. The place of a rest is the size of the whole file less its own.
use Rattle.std.specs.Prelude.{◌≡◌, ℕ, zero, suc, ◌*◌, List, [], ◌∷◌, ◌++◌, length, take, position, Option, Some, None, Result, Ok, Err, ok_or, Bool, nat_lt}
use Rattle.std.specs.Prelude.{nat_le, ◌==◌, ◌||◌, ◌&&◌, if◌then◌else◌}
use Rattle.std.specs.Str.{bytes_eq, is_utf8}
use Rattle.std.specs.List.{list_all}
use Rattle.nd_base.specs.declared.form.Form.{Form}
use Rattle.nd_base.specs.declared.form.Form.TheVariants.{Classic, Wide}
use Rattle.cdf_read.specs.declared.fault.CdfFault.{CdfFault}
use Rattle.cdf_read.specs.declared.fault.CdfFault.TheVariants.{Magic, Short, Tag, Negative, NameText, NameLength, DimNumber, TwoRecordDims, ValueType}
use Rattle.cdf_read.specs.declared.fault.CdfFault.TheVariants.{RecordDimNotFirst, Overflow, DataShort, OutOfMemory}
use Rattle.cdf_read.specs.declared.head.HeadDim.{HeadDim}
use Rattle.cdf_read.specs.declared.head.HeadAttr.{HeadAttr}
use Rattle.cdf_read.specs.declared.head.HeadVar.{HeadVar}
use Rattle.cdf_read.specs.declared.head.Header.{Header}
use Rattle.cdf_read.specs.Fields.{magic, padded, place}
use Rattle.cdf_read.specs.FieldReading.{free_in, word_in, double_word_in}
use Rattle.cdf_read.specs.Places.{dim_length, value_size, size_of, values_end, streaming, header_with}

infixl 10 ◌>>=◌
abbrev pub ◌>>=◌ : {A B : Type 0} → Result A CdfFault → (A → Result B CdfFault) → Result B CdfFault
(Ok x) >>= next = next x
(Err fault) >>= next = Err fault

-- a call ended with this fault, which is the one that reading meets, unless memory ran out
abbrev pub Fails : {Y : Type 0} → CdfFault → Result Y CdfFault → Type 0
Fails OutOfMemory read = Unit {0}
Fails fault read = read ≡ Err fault

-- what a function returned, seen by view, is what reading gives, unless memory ran out
abbrev pub Gives : {X Y : Type 0} → (X → Y) → Result X CdfFault → Result Y CdfFault → Type 0
Gives view (Ok x) read = read ≡ Ok (view x)
Gives view (Err fault) read = Fails fault read

-- nothing where the test holds, and else the fault
abbrev pub need : Bool → CdfFault → Result (Unit {0}) CdfFault
need holds fault = if holds then Ok tt else Err fault

abbrev pub word_at : ℕ → List ℕ → Result (ℕ × List ℕ) CdfFault
word_at total bytes = ok_or (word_in bytes) (Short (place total bytes))

unfoldable pub number_at : ℕ → List ℕ → Result (ℕ × List ℕ) CdfFault
number_at total bytes = do
  word ← word_at total bytes
  fits ← need (nat_le word.0 2147483647) (Negative (place total bytes))
  Ok word

unfoldable pub wide_begin_at : ℕ → List ℕ → Result (ℕ × List ℕ) CdfFault
wide_begin_at total bytes = do
  begin ← ok_or (double_word_in bytes) (Short (place total bytes))
  fits ← need (nat_le begin.0 9223372036854775807) (Negative (place total bytes))
  Ok begin

-- a begin, by the form of the file
abbrev pub begin_at : Form → ℕ → List ℕ → Result (ℕ × List ℕ) CdfFault
begin_at Classic total bytes = number_at total bytes
begin_at Wide total bytes = wide_begin_at total bytes

unfoldable pub kind_at : ℕ → List ℕ → Result (ℕ × List ℕ) CdfFault
kind_at total bytes = do
  word ← word_at total bytes
  known ← need (nat_le 1 word.0 && nat_le word.0 6) (ValueType (place total bytes))
  Ok word

-- so many bytes with their padding
unfoldable pub padded_at : ℕ → ℕ → List ℕ → Result (List ℕ × List ℕ) CdfFault
padded_at total count bytes = do
  field ← ok_or (free_in (padded count) bytes) (Short (place total bytes))
  Ok (take count field.0, field.1)

unfoldable pub name_at : ℕ → List ℕ → Result (List ℕ × List ℕ) CdfFault
name_at total bytes = do
  count ← number_at total bytes
  fits ← need (nat_le 1 count.0 && nat_le count.0 1024) (NameLength (place total bytes))
  name ← padded_at total count.0 count.1
  text ← need (is_utf8 name.0) (NameText (place total count.1))
  Ok name

-- the count of a list that has this tag or is absent
unfoldable pub list_head_at : ℕ → ℕ → List ℕ → Result (ℕ × List ℕ) CdfFault
list_head_at total tag bytes = do
  first ← word_at total bytes
  count ← word_at total first.1
  own ← need ((first.0 == tag) || ((first.0 == 0) && (count.0 == 0))) (Tag (place total bytes))
  fits ← need (nat_le count.0 2147483647) (Negative (place total first.1))
  Ok count

-- so many elements, each read with those before it
abbrev pub many_at : {A : Type 0} → (List A → List ℕ → Result (A × List ℕ) CdfFault) → ℕ → List A → List ℕ → Result (List A × List ℕ) CdfFault
many_at read zero earlier bytes = Ok (earlier, bytes)
many_at read (suc n) earlier bytes = read earlier bytes >>= (λ x. many_at read n (earlier ++ x.0 ∷ []) x.1)

unfoldable pub dim_at : ℕ → List HeadDim → List ℕ → Result (HeadDim × List ℕ) CdfFault
dim_at total earlier bytes = do
  name ← name_at total bytes
  size ← number_at total name.1
  one ← need (nat_lt 0 size.0 || list_all (λ e. nat_lt 0 e.length) earlier) TwoRecordDims
  Ok (record { name = name.0; length = size.0 }, size.1)

unfoldable pub dims_at : ℕ → List ℕ → Result (List HeadDim × List ℕ) CdfFault
dims_at total bytes = do
  head ← list_head_at total 10 bytes
  many_at (dim_at total) head.0 [] head.1

unfoldable pub attr_at : ℕ → List ℕ → Result (HeadAttr × List ℕ) CdfFault
attr_at total bytes = do
  name ← name_at total bytes
  kind ← kind_at total name.1
  count ← number_at total kind.1
  values ← padded_at total (count.0 * value_size kind.0) count.1
  Ok (record { name = name.0; kind = kind.0; count = count.0; values = values.0 }, values.1)

unfoldable pub attrs_at : ℕ → List ℕ → Result (List HeadAttr × List ℕ) CdfFault
attrs_at total bytes = do
  head ← list_head_at total 12 bytes
  many_at (λ (earlier : List HeadAttr). attr_at total) head.0 [] head.1

unfoldable pub dim_number_at : ℕ → List HeadDim → ℕ → List ℕ → List ℕ → Result (ℕ × List ℕ) CdfFault
dim_number_at total dims var earlier bytes = do
  word ← word_at total bytes
  known ← need (nat_lt word.0 (length dims)) (DimNumber (place total bytes))
  first ← need (nat_lt 0 (dim_length dims word.0) || (length earlier == 0)) (RecordDimNotFirst var)
  Ok word

unfoldable pub dim_numbers_at : ℕ → List HeadDim → ℕ → List ℕ → Result (List ℕ × List ℕ) CdfFault
dim_numbers_at total dims var bytes = do
  rank ← number_at total bytes
  many_at (dim_number_at total dims var) rank.0 [] rank.1

unfoldable pub var_at : Form → ℕ → List HeadDim → ℕ → List ℕ → Result (HeadVar × List ℕ) CdfFault
var_at form total dims var bytes = do
  name ← name_at total bytes
  numbers ← dim_numbers_at total dims var name.1
  attrs ← attrs_at total numbers.1
  kind ← kind_at total attrs.1
  within ← need (nat_le (size_of dims numbers.0 kind.0) 4294967296) (Overflow var)
  vsize ← word_at total kind.1
  begin ← begin_at form total vsize.1
  Ok (record { name = name.0; dims = numbers.0; attrs = attrs.0; kind = kind.0; begin = begin.0 }, begin.1)

unfoldable pub vars_at : Form → ℕ → List HeadDim → List ℕ → Result (List HeadVar × List ℕ) CdfFault
vars_at form total dims bytes = do
  head ← list_head_at total 11 bytes
  many_at (λ (earlier : List HeadVar). var_at form total dims (length earlier)) head.0 [] head.1

-- the form of a file that begins with these four bytes
abbrev pub form_of : List ℕ → Option Form
form_of first = if bytes_eq first (magic Classic) then Some Classic else (if bytes_eq first (magic Wide) then Some Wide else None)

unfoldable pub magic_at : List ℕ → Result (Form × List ℕ) CdfFault
magic_at bytes = do
  field ← ok_or (free_in 4 bytes) (Short 0)
  form ← ok_or (form_of field.0) Magic
  Ok (form, field.1)

unfoldable pub numrecs_at : ℕ → List ℕ → Result (ℕ × List ℕ) CdfFault
numrecs_at total bytes = do
  word ← word_at total bytes
  fits ← need ((word.0 == streaming) || nat_le word.0 2147483647) (Negative (place total bytes))
  Ok word

-- the first variable whose last value ends after the file
abbrev pub short_var : ℕ → Header → Option ℕ
short_var total h = position (λ v. nat_lt total (values_end h v)) h.vars

abbrev pub data_fault : Option ℕ → Result (Unit {0}) CdfFault
data_fault None = Ok tt
data_fault (Some var) = Err (DataShort var)

-- the header of a file, or its first fault
unfoldable pub header_of : List ℕ → Result Header CdfFault
header_of bytes = do
  first ← magic_at bytes
  numrecs ← numrecs_at (length bytes) first.1
  dims ← dims_at (length bytes) numrecs.1
  gatts ← attrs_at (length bytes) dims.1
  vars ← vars_at first.0 (length bytes) dims.0 gatts.1
  let header : Header = header_with (length bytes) numrecs.0 dims.0 gatts.0 vars.0
  whole ← data_fault (short_var (length bytes) header)
  Ok header

-- the file has this first fault
abbrev pub Faults : List ℕ → CdfFault → Type 0
Faults bytes fault = header_of bytes ≡ Err fault
