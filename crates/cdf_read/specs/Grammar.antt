-- The header of a netCDF classic file, CDF-1 or CDF-2, as a relation between bytes and headers (NetCDF Classic Format
-- Specification). Each part is between the bytes from it on and those after it. The content of padding and the stored
-- vsize are free.
use Rattle.std.specs.Prelude.{◌≡◌, ◌≢◌, ℕ, ◌*◌, ◌≤◌, ◌<◌, ◌^◌, List, [], ◌∷◌, ◌++◌, length, All}
use Rattle.std.specs.Str.{IsUtf8}
use Rattle.nd_base.specs.declared.form.Form.{Form}
use Rattle.nd_base.specs.declared.form.Form.TheVariants.{Classic, Wide}
use Rattle.cdf_read.specs.declared.head.HeadDim.{HeadDim}
use Rattle.cdf_read.specs.declared.head.HeadAttr.{HeadAttr}
use Rattle.cdf_read.specs.declared.head.HeadVar.{HeadVar}
use Rattle.cdf_read.specs.declared.head.Header.{Header}
use Rattle.cdf_read.specs.Fields.{magic, IsFixed, IsFree, IsWord, IsDoubleWord, padding}
use Rattle.cdf_read.specs.Places.{dim_length, value_size, size_of, record_size, record_count, values_end, streaming}

-- the greatest number of records, count, length, rank or begin of four bytes
abbrev pub greatest : ℕ
greatest = 2147483647

-- a word that is no negative number
pub record IsNumber (number : ℕ) (before after : List ℕ) : Type 0 where
  pub word : IsWord number before after
  pub positive : number ≤ greatest

-- the greatest begin of eight bytes
abbrev pub greatest_wide : ℕ
greatest_wide = 9223372036854775807

-- a double word that is no negative number
pub record IsWideBegin (number : ℕ) (before after : List ℕ) : Type 0 where
  pub word : IsDoubleWord number before after
  pub positive : number ≤ greatest_wide

-- a begin, the place of a variable's first value: a word in CDF-1, and a double word in CDF-2
abbrev pub IsBegin : Form → (begin : ℕ) (before after : List ℕ) → Type 0
IsBegin Classic begin before after = IsNumber begin before after
IsBegin Wide begin before after = IsWideBegin begin before after

-- a value type: byte, char, short, int, float or double
pub record IsKind (kind : ℕ) (before after : List ℕ) : Type 0 where
  pub word : IsWord kind before after
  pub least : 1 ≤ kind
  pub most : kind ≤ 6

-- these bytes, and any bytes up to a multiple of 4
pub record IsPadded (text before after : List ℕ) : Type 0 where
  pub at_padding : List ℕ
  pub bytes : IsFixed text before at_padding
  pub pad : IsFree (padding (length text)) at_padding after

-- a name: its length, 1 to 1,024 bytes that are UTF-8, and padding
pub record IsName (name before after : List ℕ) : Type 0 where
  pub at_text : List ℕ
  pub count : IsNumber (length name) before at_text
  pub text : IsPadded name at_text after
  pub least : 1 ≤ length name
  pub most : length name ≤ 1024
  pub utf8 : IsUtf8 name

-- elements one after another, each with those before it
abbrev pub AreMany : {A : Type 0} → (List A → A → List ℕ → List ℕ → Type 0) → List A → List A → List ℕ → List ℕ → Type 0
AreMany Is earlier [] before after = before ≡ after
AreMany Is earlier (x ∷ xs) before after = (next : List ℕ) × Is earlier x before next × AreMany Is (earlier ++ x ∷ []) xs next after

-- the tag and the count of a list: its own tag, or two zero words
pub record IsListHead (tag count : ℕ) (before after : List ℕ) : Type 0 where
  pub first : ℕ
  pub at_count : List ℕ
  pub tag_word : IsWord first before at_count
  pub number : IsNumber count at_count after
  pub own : first ≢ tag → (first ≡ 0) × (count ≡ 0)

-- a list: its tag and count, and its elements
abbrev pub IsList : {A : Type 0} → ℕ → (List A → A → List ℕ → List ℕ → Type 0) → List A → List ℕ → List ℕ → Type 0
IsList tag Is xs before after = (at_elements : List ℕ) × IsListHead tag (length xs) before at_elements × AreMany Is [] xs at_elements after

-- a dimension: name and length; one dimension at most has length 0
pub record IsDim (earlier : List HeadDim) (d : HeadDim) (before after : List ℕ) : Type 0 where
  pub at_length : List ℕ
  pub name : IsName d.name before at_length
  pub size : IsNumber d.length at_length after
  pub one_record : d.length ≡ 0 → All (λ e. e.length ≢ 0) earlier

-- an attribute: name, value type, count and values
pub record IsAttr (a : HeadAttr) (before after : List ℕ) : Type 0 where
  pub at_kind : List ℕ
  pub at_count : List ℕ
  pub at_values : List ℕ
  pub name : IsName a.name before at_kind
  pub kind : IsKind a.kind at_kind at_count
  pub count : IsNumber a.count at_count at_values
  pub bytes : IsPadded a.values at_values after
  pub size : length a.values ≡ a.count * value_size a.kind

-- a number of a dimension; the record dimension comes only first
pub record IsDimNumber (dims : List HeadDim) (earlier : List ℕ) (number : ℕ) (before after : List ℕ) : Type 0 where
  pub word : IsWord number before after
  pub known : number < length dims
  pub record_first : dim_length dims number ≡ 0 → earlier ≡ []

-- a variable: name, rank, dimensions, attributes, value type, vsize and begin
pub record IsVar (form : Form) (dims : List HeadDim) (v : HeadVar) (before after : List ℕ) : Type 0 where
  pub at_rank : List ℕ
  pub at_dims : List ℕ
  pub at_attrs : List ℕ
  pub at_kind : List ℕ
  pub at_vsize : List ℕ
  pub at_begin : List ℕ
  pub name : IsName v.name before at_rank
  pub rank : IsNumber (length v.dims) at_rank at_dims
  pub numbers : AreMany (IsDimNumber dims) [] v.dims at_dims at_attrs
  pub attrs : IsList 12 (λ earlier. IsAttr) v.attrs at_attrs at_kind
  pub kind : IsKind v.kind at_kind at_vsize
  pub within : size_of dims v.dims v.kind ≤ 4294967296
  pub vsize : IsFree 4 at_vsize at_begin
  pub begin_number : IsBegin form v.begin at_begin after

-- numrecs: a number of records, or the mark of a file whose records are to be counted
pub record IsNumrecs (numrecs : ℕ) (before after : List ℕ) : Type 0 where
  pub word : IsWord numrecs before after
  pub counted : numrecs ≢ streaming → numrecs ≤ greatest

-- the header of a file of this form, with this numrecs: magic, numrecs, dimension list, global attribute list and variable list
pub record IsHeader (form : Form) (numrecs : ℕ) (h : Header) (before after : List ℕ) : Type 0 where
  pub at_numrecs : List ℕ
  pub at_dims : List ℕ
  pub at_gatts : List ℕ
  pub at_vars : List ℕ
  pub magic_text : IsFixed (magic form) before at_numrecs
  pub numrecs_word : IsNumrecs numrecs at_numrecs at_dims
  pub dims : IsList 10 IsDim h.dims at_dims at_gatts
  pub gatts : IsList 12 (λ earlier. IsAttr) h.gatts at_gatts at_vars
  pub vars : IsList 11 (λ earlier. IsVar form h.dims) h.vars at_vars after

-- a front of the bytes spells the header, and no variable's last value ends after them
pub record Reads (bytes : List ℕ) (h : Header) : Type 0 where
  pub form : Form
  pub numrecs : ℕ
  pub after : List ℕ
  pub header : IsHeader form numrecs h bytes after
  pub recsize : h.recsize ≡ record_size h.dims h.vars
  pub records : h.records ≡ record_count (length bytes) numrecs h.dims h.vars
  pub whole : All (λ v. values_end h v ≤ length bytes) h.vars

-- the header of some file, of fewer than 2 ^ 64 bytes
pub record IsOfFile (h : Header) : Type 0 where
  pub bytes : List ℕ
  pub size : length bytes < 2 ^ 64
  pub reads : Reads bytes h
