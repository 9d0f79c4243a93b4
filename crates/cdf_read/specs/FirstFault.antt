-- The first fault of a file, as a relation on its bytes: those before some field spell the fields before it, by the words
-- of the grammar, and that field is at fault; or they spell a header, and the values of a variable end past the file. Each
-- relation is between the bytes from a part on and the fault that is met in the part, in a file of so many bytes.
use Rattle.std.specs.Prelude.{◌≡◌, ◌≢◌, ℕ, ◌*◌, ◌≤◌, ◌<◌, List, [], ◌++◌, length, slice_get, Some, All}
use Rattle.std.specs.Str.{IsUtf8}
use Rattle.nd_base.specs.declared.form.Form.{Form}
use Rattle.nd_base.specs.declared.form.Form.TheVariants.{Classic, Wide}
use Rattle.cdf_read.specs.declared.fault.CdfFault.{CdfFault}
use Rattle.cdf_read.specs.declared.fault.CdfFault.TheVariants.{Magic, Short, Tag, Negative, NameText, NameLength, DimNumber, TwoRecordDims, ValueType}
use Rattle.cdf_read.specs.declared.fault.CdfFault.TheVariants.{RecordDimNotFirst, Overflow, DataShort}
use Rattle.cdf_read.specs.declared.head.HeadDim.{HeadDim}
use Rattle.cdf_read.specs.declared.head.HeadAttr.{HeadAttr}
use Rattle.cdf_read.specs.declared.head.HeadVar.{HeadVar}
use Rattle.cdf_read.specs.declared.head.Header.{Header}
use Rattle.cdf_read.specs.Fields.{magic, IsFixed, IsWord, IsDoubleWord, padded, place}
use Rattle.cdf_read.specs.Places.{dim_length, value_size, size_of, values_end, streaming, header_with}
use Rattle.cdf_read.specs.Grammar.{greatest, greatest_wide, IsNumber, IsKind, IsPadded, IsName, AreMany, IsListHead, IsList, IsDim, IsAttr}
use Rattle.cdf_read.specs.Grammar.{IsDimNumber, IsVar, IsNumrecs}

-- HOW FAULTS ARE TOLD

-- nothing else can be at fault
abbrev pub NoFault : CdfFault → Type 0
NoFault fault = ⊥

-- a part and then others: the part is at fault, or it is spelled, and what follows it is at fault
pub data InOrder {A : Type 0} (Is : A → List ℕ → List ℕ → Type 0) (One : List ℕ → CdfFault → Type 0) (Rest : A → List ℕ → CdfFault → Type 0) (before : List ℕ)
    (fault : CdfFault) : Type 0 where
  here : One before fault → InOrder Is One Rest before fault
  later : (x : A) (after : List ℕ) → Is x before after → Rest x after fault → InOrder Is One Rest before fault

-- what has to hold doesn't, which is the named fault, or it holds, and there is another fault
pub data Demand (P : Type 0) (named : CdfFault) (Rest : CdfFault → Type 0) (fault : CdfFault) : Type 0 where
  broken : ¬ P → fault ≡ named → Demand P named Rest fault
  kept : P → Rest fault → Demand P named Rest fault

-- fewer bytes are left than the field has
pub record IsCut (total count : ℕ) (before : List ℕ) (fault : CdfFault) : Type 0 where
  pub less : length before < count
  pub named : fault ≡ Short (place total before)

-- of so many elements some are spelled, and the next one is at fault
pub record IsAmong {A : Type 0} (Is : List A → A → List ℕ → List ℕ → Type 0) (Fault : List A → List ℕ → CdfFault → Type 0) (earlier : List A) (count : ℕ)
    (before : List ℕ) (fault : CdfFault) : Type 0 where
  pub elements : List A
  pub next : List ℕ
  pub spelled : AreMany Is earlier elements before next
  pub fewer : length elements < count
  pub at_fault : Fault (earlier ++ elements) next fault

-- FIELDS

abbrev pub NumberFault : (total : ℕ) → List ℕ → CdfFault → Type 0
NumberFault total before = InOrder IsWord (IsCut total 4) (λ number after. Demand (number ≤ greatest) (Negative (place total before)) NoFault) before

abbrev pub WideBeginFault : (total : ℕ) → List ℕ → CdfFault → Type 0
WideBeginFault total before =
    InOrder IsDoubleWord (IsCut total 8)
    (λ begin after. Demand (begin ≤ greatest_wide) (Negative (place total before)) NoFault)
    before

abbrev pub BeginFault : Form → (total : ℕ) → List ℕ → CdfFault → Type 0
BeginFault Classic total before = NumberFault total before
BeginFault Wide total before = WideBeginFault total before

abbrev pub KindFault : (total : ℕ) → List ℕ → CdfFault → Type 0
KindFault total before = InOrder IsWord (IsCut total 4) (λ kind after. Demand ((1 ≤ kind) × (kind ≤ 6)) (ValueType (place total before)) NoFault) before

-- so many bytes, with their padding
abbrev pub HasText : (count : ℕ) → (text before after : List ℕ) → Type 0
HasText count text before after = IsPadded text before after × (length text ≡ count)

abbrev pub NameFault : (total : ℕ) → List ℕ → CdfFault → Type 0
NameFault total before =
    InOrder IsNumber (NumberFault total)
    (λ count at_text. Demand ((1 ≤ count) × (count ≤ 1024)) (NameLength (place total before))
    (InOrder (HasText count) (IsCut total (padded count)) (λ text after. Demand (IsUtf8 text) (NameText (place total at_text)) NoFault) at_text))
    before

-- LISTS

-- both words of a list's head are there before its tag is judged, and then its count
abbrev pub ListHeadFault : (total tag : ℕ) → List ℕ → CdfFault → Type 0
ListHeadFault total tag before =
    InOrder IsWord (IsCut total 4)
    (λ first at_count. InOrder IsWord (IsCut total 4)
    (λ count after. Demand (first ≢ tag → (first ≡ 0) × (count ≡ 0)) (Tag (place total before))
    (Demand (count ≤ greatest) (Negative (place total at_count)) NoFault))
    at_count)
    before

abbrev pub ListFault : {A : Type 0} → (total tag : ℕ) → (List A → A → List ℕ → List ℕ → Type 0) → (List A → List ℕ → CdfFault → Type 0) → List ℕ → CdfFault →
    Type 0
ListFault total tag Is Fault = InOrder (IsListHead tag) (ListHeadFault total tag) (IsAmong Is Fault [])

abbrev pub DimFault : (total : ℕ) → List HeadDim → List ℕ → CdfFault → Type 0
DimFault total earlier =
    InOrder IsName (NameFault total)
    (λ name. InOrder IsNumber (NumberFault total) (λ size after. Demand (size ≡ 0 → All (λ e. e.length ≢ 0) earlier) TwoRecordDims NoFault))

abbrev pub AttrFault : (total : ℕ) → List ℕ → CdfFault → Type 0
AttrFault total =
    InOrder IsName (NameFault total)
    (λ name. InOrder IsKind (KindFault total)
    (λ kind. InOrder IsNumber (NumberFault total) (λ count. IsCut total (padded (count * value_size kind)))))

abbrev pub AttrsFault : (total : ℕ) → List ℕ → CdfFault → Type 0
AttrsFault total = ListFault total 12 (λ (earlier : List HeadAttr). IsAttr) (λ earlier. AttrFault total)

-- VARIABLES

-- dims are those of the header, and var is the variable's number
abbrev pub DimNumberFault : (total : ℕ) → (dims : List HeadDim) → (var : ℕ) → List ℕ → List ℕ → CdfFault → Type 0
DimNumberFault total dims var earlier before =
    InOrder IsWord (IsCut total 4)
    (λ number after. Demand (number < length dims) (DimNumber (place total before))
    (Demand (dim_length dims number ≡ 0 → earlier ≡ []) (RecordDimNotFirst var) NoFault))
    before

-- a rank, and so many numbers of dimensions
abbrev pub AreDimNumbers : (dims : List HeadDim) → (numbers before after : List ℕ) → Type 0
AreDimNumbers dims numbers before after = (next : List ℕ) × IsNumber (length numbers) before next × AreMany (IsDimNumber dims) [] numbers next after

abbrev pub DimNumbersFault : (total : ℕ) → (dims : List HeadDim) → (var : ℕ) → List ℕ → CdfFault → Type 0
DimNumbersFault total dims var = InOrder IsNumber (NumberFault total) (IsAmong (IsDimNumber dims) (DimNumberFault total dims var) [])

abbrev pub VarFault : Form → (total : ℕ) → (dims : List HeadDim) → (var : ℕ) → List ℕ → CdfFault → Type 0
VarFault form total dims var =
    InOrder IsName (NameFault total)
    (λ name. InOrder (AreDimNumbers dims) (DimNumbersFault total dims var)
    (λ numbers. InOrder (IsList 12 (λ (earlier : List HeadAttr). IsAttr)) (AttrsFault total)
    (λ attrs. InOrder IsKind (KindFault total)
    (λ kind at_vsize. Demand (size_of dims numbers kind ≤ 4294967296) (Overflow var)
    (InOrder IsWord (IsCut total 4) (λ vsize. BeginFault form total) at_vsize)))))

abbrev pub VarsFault : Form → (total : ℕ) → (dims : List HeadDim) → List ℕ → CdfFault → Type 0
VarsFault form total dims = ListFault total 11 (λ (earlier : List HeadVar). IsVar form dims) (λ earlier. VarFault form total dims (length earlier))

-- FILES

-- four bytes that begin no file of either form
abbrev pub MagicFault : (total : ℕ) → List ℕ → CdfFault → Type 0
MagicFault total =
    InOrder (λ first before after. IsFixed first before after × (length first ≡ 4)) (IsCut total 4)
    (λ first after. Demand ((form : Form) × (first ≡ magic form)) Magic NoFault)

abbrev pub NumrecsFault : (total : ℕ) → List ℕ → CdfFault → Type 0
NumrecsFault total before =
    InOrder IsWord (IsCut total 4)
    (λ numrecs after. Demand (numrecs ≢ streaming → numrecs ≤ greatest) (Negative (place total before)) NoFault)
    before

-- the last value of this variable ends past the file, and that of no earlier one
pub record DataFault (total : ℕ) (h : Header) (fault : CdfFault) : Type 0 where
  pub var : ℕ
  pub variable : HeadVar
  pub found : slice_get h.vars var ≡ Some variable
  pub late : total < values_end h variable
  pub earlier : (k : ℕ) (v : HeadVar) → k < var → slice_get h.vars k ≡ Some v → values_end h v ≤ total
  pub named : fault ≡ DataShort var

-- the file has this first fault
abbrev pub FirstFault : (bytes : List ℕ) → CdfFault → Type 0
FirstFault bytes =
    InOrder (λ form. IsFixed (magic form)) (MagicFault (length bytes))
    (λ form. InOrder IsNumrecs (NumrecsFault (length bytes))
    (λ numrecs. InOrder (IsList 10 IsDim) (ListFault (length bytes) 10 IsDim (DimFault (length bytes)))
    (λ dims. InOrder (IsList 12 (λ (earlier : List HeadAttr). IsAttr)) (AttrsFault (length bytes))
    (λ gatts. InOrder (IsList 11 (λ (earlier : List HeadVar). IsVar form dims)) (VarsFault form (length bytes) dims)
    (λ vars after. DataFault (length bytes) (header_with (length bytes) numrecs dims gatts vars))))))
    bytes
