-- No fault of a file is want of memory.
use Rattle.std.specs.Prelude.{◌≡◌, ℕ, zero, suc, List, [], ◌∷◌, ◌++◌, length, Option, Some, None, Result, Ok, Err, ok_or, Bool, true, false, ◌*◌, ◌==◌, ◌||◌}
use Rattle.std.specs.Prelude.{◌&&◌, nat_lt, nat_le, refl}
use Rattle.std.specs.Str.{is_utf8}
use Rattle.std.specs.List.{list_all}
use Rattle.std.proofs.Common.{subst}
use Rattle.nd_base.specs.declared.form.Form.{Form}
use Rattle.nd_base.specs.declared.form.Form.TheVariants.{Classic, Wide}
use Rattle.cdf_read.specs.declared.fault.CdfFault.{CdfFault}
use Rattle.cdf_read.specs.declared.fault.CdfFault.TheVariants.{Magic, Short, Tag, Negative, NameText, NameLength, DimNumber, TwoRecordDims, ValueType}
use Rattle.cdf_read.specs.declared.fault.CdfFault.TheVariants.{RecordDimNotFirst, Overflow, DataShort, OutOfMemory}
use Rattle.cdf_read.specs.declared.head.HeadDim.{HeadDim}
use Rattle.cdf_read.specs.declared.head.HeadAttr.{HeadAttr}
use Rattle.cdf_read.specs.declared.head.HeadVar.{HeadVar}
use Rattle.cdf_read.specs.Fields as fields
use Rattle.cdf_read.specs.Fields.{place}
use Rattle.cdf_read.specs.FieldReading.{free_in, word_in, double_word_in}
use Rattle.cdf_read.specs.Places.{dim_length, value_size, size_of, streaming, header_with}
use Rattle.cdf_read.specs.HeaderReading.{short_var, ◌>>=◌, need, word_at, number_at, wide_begin_at, begin_at, kind_at, padded_at, name_at, list_head_at}
use Rattle.cdf_read.specs.HeaderReading.{many_at, dim_at, dims_at, attr_at, attrs_at, dim_number_at, dim_numbers_at, var_at, vars_at, numrecs_at, form_of}
use Rattle.cdf_read.specs.HeaderReading.{magic_at, data_fault, header_of, Faults}

abbrev IsOfFile : CdfFault → Type 0
IsOfFile OutOfMemory = ⊥
IsOfFile fault = Unit {0}

-- what is read, or a fault of the file
record Answers {A : Type 0} (read : Result A CdfFault) : Type 0 where
  of_file : (fault : CdfFault) → read ≡ Err fault → IsOfFile fault

binds : {A B : Type 0} (read : Result A CdfFault) (next : A → Result B CdfFault) → Answers read → ((x : A) → Answers (next x)) → Answers (read >>= next)
binds (Ok x) next h k = k x
binds (Err fault) next h k = record { of_file = λ other e. let same : ◌≡◌ {A = CdfFault} fault other = cc in subst IsOfFile same (h.of_file fault refl) }

ends : {A : Type 0} (x : A) → Answers (Ok x)
ends x = record { of_file = λ fault e. absurd (cc) }

presents : {A : Type 0} (o : Option A) (fault : CdfFault) → IsOfFile fault → Answers (ok_or o fault)
presents (Some x) fault h = ends x
presents None fault h = record { of_file = λ other e. let same : ◌≡◌ {A = CdfFault} fault other = cc in subst IsOfFile same h }

checks : {B : Type 0} (b : Bool) (fault : CdfFault) (next : Unit {0} → Result B CdfFault) → IsOfFile fault → Answers (next tt) → Answers (need b fault >>= next)
checks true fault next h k = k
checks false fault next h k = record { of_file = λ other e. let same : ◌≡◌ {A = CdfFault} fault other = cc in subst IsOfFile same h }

word : (total : ℕ) (bytes : List ℕ) → Answers (word_at total bytes)
word total bytes = presents (word_in bytes) (Short (place total bytes)) tt

number : (total : ℕ) (bytes : List ℕ) → Answers (number_at total bytes)
unfolding number_at
number total bytes = binds (word_at total bytes) _ (word total bytes) (λ w. checks (nat_le w.0 2147483647) (Negative (place total bytes)) _ tt (ends w))

wide_begin : (total : ℕ) (bytes : List ℕ) → Answers (wide_begin_at total bytes)
unfolding wide_begin_at
wide_begin total bytes =
    binds (ok_or (double_word_in bytes) (Short (place total bytes))) _ (presents (double_word_in bytes) (Short (place total bytes)) tt)
    (λ w. checks (nat_le w.0 9223372036854775807) (Negative (place total bytes)) _ tt (ends w))

begin : (form : Form) (total : ℕ) (bytes : List ℕ) → Answers (begin_at form total bytes)
begin Classic total bytes = number total bytes
begin Wide total bytes = wide_begin total bytes

kind : (total : ℕ) (bytes : List ℕ) → Answers (kind_at total bytes)
unfolding kind_at
kind total bytes = binds (word_at total bytes) _ (word total bytes) (λ w. checks (nat_le 1 w.0 && nat_le w.0 6) (ValueType (place total bytes)) _ tt (ends w))

padded : (total count : ℕ) (bytes : List ℕ) → Answers (padded_at total count bytes)
unfolding padded_at
padded total count bytes =
    binds (ok_or (free_in (fields.padded count) bytes) (Short (place total bytes))) _
    (presents (free_in (fields.padded count) bytes) (Short (place total bytes)) tt) (λ field. ends _)

name : (total : ℕ) (bytes : List ℕ) → Answers (name_at total bytes)
unfolding name_at
name total bytes =
    binds (number_at total bytes) _ (number total bytes) (λ count. checks (nat_le 1 count.0 && nat_le count.0 1024) (NameLength (place total bytes)) _ tt
    (binds (padded_at total count.0 count.1) _ (padded total count.0 count.1)
    (λ text. checks (is_utf8 text.0) (NameText (place total count.1)) _ tt (ends text))))

list_head : (total tag : ℕ) (bytes : List ℕ) → Answers (list_head_at total tag bytes)
unfolding list_head_at
list_head total tag bytes =
    binds (word_at total bytes) _ (word total bytes) (λ first. binds (word_at total first.1) _ (word total first.1)
    (λ count. checks ((first.0 == tag) || ((first.0 == 0) && (count.0 == 0))) (Tag (place total bytes)) _ tt
    (checks (nat_le count.0 2147483647) (Negative (place total first.1)) _ tt (ends count))))

many : {A : Type 0} (read : List A → List ℕ → Result (A × List ℕ) CdfFault) → ((earlier : List A) (bytes : List ℕ) → Answers (read earlier bytes))
    → (n : ℕ) (earlier : List A) (bytes : List ℕ) → Answers (many_at read n earlier bytes)
many read each zero earlier bytes = ends (earlier, bytes)
many read each (suc n) earlier bytes = binds (read earlier bytes) _ (each earlier bytes) (λ x. many read each n (earlier ++ x.0 ∷ []) x.1)

dim : (total : ℕ) (earlier : List HeadDim) (bytes : List ℕ) → Answers (dim_at total earlier bytes)
unfolding dim_at
dim total earlier bytes =
    binds (name_at total bytes) _ (name total bytes) (λ n. binds (number_at total n.1) _ (number total n.1)
    (λ size. checks (nat_lt 0 size.0 || list_all (λ e. nat_lt 0 e.length) earlier) TwoRecordDims _ tt (ends _)))

dims : (total : ℕ) (bytes : List ℕ) → Answers (dims_at total bytes)
unfolding dims_at
dims total bytes = binds (list_head_at total 10 bytes) _ (list_head total 10 bytes) (λ head. many (dim_at total) (dim total) head.0 [] head.1)

attr : (total : ℕ) (bytes : List ℕ) → Answers (attr_at total bytes)
unfolding attr_at
attr total bytes =
    binds (name_at total bytes) _ (name total bytes) (λ n. binds (kind_at total n.1) _ (kind total n.1) (λ k. binds (number_at total k.1) _ (number total k.1)
    (λ count. binds (padded_at total (count.0 * value_size k.0) count.1) _ (padded total (count.0 * value_size k.0) count.1) (λ values. ends _))))

attrs : (total : ℕ) (bytes : List ℕ) → Answers (attrs_at total bytes)
unfolding attrs_at
attrs total bytes = binds (list_head_at total 12 bytes) _ (list_head total 12 bytes)
    (λ head. many (λ (earlier : List HeadAttr). attr_at total) (λ earlier. attr total) head.0 [] head.1)

dim_number : (total : ℕ) (ds : List HeadDim) (v : ℕ) (earlier bytes : List ℕ) → Answers (dim_number_at total ds v earlier bytes)
unfolding dim_number_at
dim_number total ds v earlier bytes =
    binds (word_at total bytes) _ (word total bytes) (λ w. checks (nat_lt w.0 (length ds)) (DimNumber (place total bytes)) _ tt
    (checks (nat_lt 0 (dim_length ds w.0) || (length earlier == 0)) (RecordDimNotFirst v) _ tt (ends w)))

dim_numbers : (total : ℕ) (ds : List HeadDim) (v : ℕ) (bytes : List ℕ) → Answers (dim_numbers_at total ds v bytes)
unfolding dim_numbers_at
dim_numbers total ds v bytes =
    binds (number_at total bytes) _ (number total bytes) (λ rank. many (dim_number_at total ds v) (dim_number total ds v) rank.0 [] rank.1)

var : (form : Form) (total : ℕ) (ds : List HeadDim) (v : ℕ) (bytes : List ℕ) → Answers (var_at form total ds v bytes)
unfolding var_at
var form total ds v bytes =
    binds (name_at total bytes) _ (name total bytes)
    (λ n. binds (dim_numbers_at total ds v n.1) _ (dim_numbers total ds v n.1) (λ ns. binds (attrs_at total ns.1) _ (attrs total ns.1)
    (λ xs. binds (kind_at total xs.1) _ (kind total xs.1)
    (λ k. checks (nat_le (size_of ds ns.0 k.0) 4294967296) (Overflow v) _ tt (binds (word_at total k.1) _ (word total k.1)
    (λ size. binds (begin_at form total size.1) _ (begin form total size.1) (λ place. ends _)))))))

vars : (form : Form) (total : ℕ) (ds : List HeadDim) (bytes : List ℕ) → Answers (vars_at form total ds bytes)
unfolding vars_at
vars form total ds bytes = binds (list_head_at total 11 bytes) _ (list_head total 11 bytes)
    (λ head. many (λ (earlier : List HeadVar). var_at form total ds (length earlier)) (λ earlier. var form total ds (length earlier)) head.0 [] head.1)

numrecs : (total : ℕ) (bytes : List ℕ) → Answers (numrecs_at total bytes)
unfolding numrecs_at
numrecs total bytes =
    binds (word_at total bytes) _ (word total bytes) (λ w. checks ((w.0 == streaming) || nat_le w.0 2147483647) (Negative (place total bytes)) _ tt (ends w))

first : (bytes : List ℕ) → Answers (magic_at bytes)
unfolding magic_at
first bytes = binds (ok_or (free_in 4 bytes) (Short 0)) _ (presents (free_in 4 bytes) (Short 0) tt)
    (λ field. binds (ok_or (form_of field.0) Magic) _ (presents (form_of field.0) Magic tt) (λ form. ends (form, field.1)))

data_ends : (o : Option ℕ) → Answers (data_fault o)
data_ends None = ends tt
data_ends (Some v) = record { of_file = λ other e. let same : ◌≡◌ {A = CdfFault} (DataShort v) other = cc in subst IsOfFile same tt }

whole : (bytes : List ℕ) → Answers (header_of bytes)
unfolding header_of
whole bytes =
    let total : ℕ = length bytes in
    binds (magic_at bytes) _ (first bytes) (λ f. binds (numrecs_at total f.1) _ (numrecs total f.1) (λ n. binds (dims_at total n.1) _ (dims total n.1)
    (λ ds. binds (attrs_at total ds.1) _ (attrs total ds.1) (λ xs. binds (vars_at f.0 total ds.0 xs.1) _ (vars f.0 total ds.0 xs.1)
    (λ vs. binds (data_fault (short_var total (header_with total n.0 ds.0 xs.0 vs.0))) _ (data_ends (short_var total (header_with total n.0 ds.0 xs.0 vs.0)))
    (λ _. ends _))))))

pub Faults-memory : (bytes : List ℕ) → ¬ Faults bytes OutOfMemory
Faults-memory bytes e = (whole bytes).of_file OutOfMemory e
