-- Headers and faults of small files.
use Rattle.std.specs.Prelude.{◌≡◌, ℕ, zero, suc, nat_lt, true, List, [], ◌∷◌, ◌++◌, take, codes, Ok, Err, refl}
use Rattle.std.specs.Str.{is_utf8, IsAscii}
use Rattle.std.specs.List.{list_all}
use Rattle.std.proofs.Common.{lit<}
use Rattle.std.proofs.lemmas.Bool.{ltb-true, and_parts}
use Rattle.std.proofs.lemmas.Str.{is_utf8-from_IsUtf8, IsUtf8-from_ascii}
use Rattle.cdf_read.specs.declared.fault.CdfFault.TheVariants.{Magic, Short, Negative, DataShort}
use Rattle.cdf_read.specs.declared.head.HeadDim.{HeadDim}
use Rattle.cdf_read.specs.declared.head.HeadVar.{HeadVar}
use Rattle.cdf_read.specs.declared.head.Header.{Header}
use Rattle.cdf_read.specs.Fields.{word, double_word}
use Rattle.cdf_read.specs.Places.{place_of_value}
use Rattle.cdf_read.specs.HeaderReading.{header_of, number_at, wide_begin_at, kind_at, padded_at, name_at, list_head_at, dim_at, dims_at, attr_at, attrs_at}
use Rattle.cdf_read.specs.HeaderReading.{dim_number_at, dim_numbers_at, var_at, vars_at, numrecs_at, magic_at}

is_ascii : (name : List ℕ) → list_all (λ byte. nat_lt byte 128) name ≡ true → IsAscii name
is_ascii [] e i = lit< tt
is_ascii (byte ∷ name) e zero = ltb-true byte 128 (and_parts (nat_lt byte 128) (list_all (λ b. nat_lt b 128) name) e).0
is_ascii (byte ∷ name) e (suc i) = is_ascii name (and_parts (nat_lt byte 128) (list_all (λ b. nat_lt b 128) name) e).1 i

is_text : (name : List ℕ) → list_all (λ byte. nat_lt byte 128) name ≡ true → is_utf8 name ≡ true
is_text name e = is_utf8-from_IsUtf8 name (IsUtf8-from_ascii name (is_ascii name e))

record_name : is_utf8 (codes "numArrays") ≡ true
record_name = is_text (codes "numArrays") refl

size_name : is_utf8 (codes "dim0") ≡ true
size_name = is_text (codes "dim0") refl

data_name : is_utf8 (codes "array_data") ≡ true
data_name = is_text (codes "array_data") refl

id_name : is_utf8 (codes "uniqueId") ≡ true
id_name = is_text (codes "uniqueId") refl

-- dimensions numArrays, the record dimension, and dim0 of 3
abbrev dimensions : List ℕ
dimensions = word 10 ++ word 2 ++ word 9 ++ codes "numArrays" ++ (0 ∷ 0 ∷ 0 ∷ []) ++ word 0 ++ word 4 ++ codes "dim0" ++ word 3

-- the variable array_data, of type byte over both, before its begin
abbrev data_before_begin : List ℕ
data_before_begin = word 10 ++ codes "array_data" ++ (0 ∷ 0 ∷ []) ++ word 2 ++ word 0 ++ word 1 ++ word 0 ++ word 0 ++ word 1 ++ word 4

abbrev array_data : ℕ → List ℕ
array_data begin = data_before_begin ++ word begin

-- one record variable of bytes, with two records
abbrev one_variable : List ℕ
one_variable =
    codes "CDF" ++ (1 ∷ []) ++ word 2 ++ dimensions ++ word 0 ++ word 0 ++ word 11 ++ word 1 ++ array_data 112
    ++ (1 ∷ 2 ∷ 3 ∷ 4 ∷ 5 ∷ 6 ∷ [])

abbrev dims : List HeadDim
dims = record { name = codes "numArrays"; length = 0 } ∷ record { name = codes "dim0"; length = 3 } ∷ []

abbrev data_var : ℕ → HeadVar
data_var begin = record { name = codes "array_data"; dims = 0 ∷ 1 ∷ []; attrs = []; kind = 1; begin = begin }

abbrev one_header : Header
one_header = record { records = 2; recsize = 3; dims = dims; gatts = []; vars = data_var 112 ∷ [] }

a_lone_byte_variable_is_not_padded : header_of one_variable ≡ Ok one_header
unfolding header_of number_at kind_at padded_at name_at list_head_at dim_at dims_at attr_at attrs_at dim_number_at dim_numbers_at var_at vars_at numrecs_at
    magic_at
a_lone_byte_variable_is_not_padded = simp (record_name, size_name, data_name) refl

the_second_record_follows_the_first : place_of_value one_header (data_var 112) 1 2 ≡ 117
the_second_record_follows_the_first = refl

a_name_is_cut : header_of (take 24 one_variable) ≡ Err (Short 20)
unfolding header_of number_at kind_at padded_at name_at list_head_at dim_at dims_at attr_at attrs_at dim_number_at dim_numbers_at var_at vars_at numrecs_at
    magic_at
a_name_is_cut = refl

three_bytes : header_of (take 3 one_variable) ≡ Err (Short 0)
unfolding header_of magic_at
three_bytes = refl

-- numrecs is read, and the tag of the dimension list is missing
the_64_bit_format : header_of (codes "CDF" ++ (2 ∷ 0 ∷ 0 ∷ 0 ∷ 0 ∷ [])) ≡ Err (Short 8)
unfolding header_of number_at list_head_at dims_at numrecs_at magic_at
the_64_bit_format = refl

no_third_form : header_of (codes "CDF" ++ (3 ∷ 0 ∷ 0 ∷ 0 ∷ 0 ∷ [])) ≡ Err Magic
unfolding header_of magic_at
no_third_form = refl

a_count_without_elements : header_of (codes "CDF" ++ (1 ∷ []) ++ word 0 ++ word 10 ++ word 2147483647) ≡ Err (Short 16)
unfolding header_of number_at kind_at padded_at name_at list_head_at dim_at dims_at numrecs_at magic_at
a_count_without_elements = refl

-- uniqueId of type int before it
abbrev two_variables : ℕ → List ℕ → List ℕ
two_variables numrecs more =
    codes "CDF" ++ (1 ∷ []) ++ word numrecs ++ dimensions ++ word 0 ++ word 0 ++ word 11 ++ word 2
    ++ word 8 ++ codes "uniqueId" ++ word 1 ++ word 0 ++ word 0 ++ word 0 ++ word 4 ++ word 4 ++ word 152 ++ array_data 156
    ++ (0 ∷ 0 ∷ 0 ∷ 7 ∷ 1 ∷ 2 ∷ 3 ∷ 129 ∷ 0 ∷ 0 ∷ 0 ∷ 8 ∷ 4 ∷ 5 ∷ 6 ∷ 129 ∷ more)

abbrev two_header : Header
two_header = record {
  records = 2;
  recsize = 8;
  dims = dims;
  gatts = [];
  vars = record { name = codes "uniqueId"; dims = 0 ∷ []; attrs = []; kind = 4; begin = 152 } ∷ data_var 156 ∷ [];
}

two_variables_are_padded : header_of (two_variables 2 []) ≡ Ok two_header
unfolding header_of number_at kind_at padded_at name_at list_head_at dim_at dims_at attr_at attrs_at dim_number_at dim_numbers_at var_at vars_at numrecs_at
    magic_at
two_variables_are_padded = simp (record_name, size_name, data_name, id_name) refl

-- four bytes more are no whole record
whole_records_are_counted : header_of (two_variables 4294967295 (0 ∷ 0 ∷ 0 ∷ 9 ∷ [])) ≡ Ok two_header
unfolding header_of number_at kind_at padded_at name_at list_head_at dim_at dims_at attr_at attrs_at dim_number_at dim_numbers_at var_at vars_at numrecs_at
    magic_at
whole_records_are_counted = simp (record_name, size_name, data_name, id_name) refl

a_value_is_missing : header_of (take 117 one_variable) ≡ Err (DataShort 0)
unfolding header_of number_at kind_at padded_at name_at list_head_at dim_at dims_at attr_at attrs_at dim_number_at dim_numbers_at var_at vars_at numrecs_at
    magic_at
a_value_is_missing = simp (record_name, size_name, data_name) refl

-- one_variable in the 64-bit offset format
abbrev one_wide_variable : ℕ → List ℕ
one_wide_variable begin =
    codes "CDF" ++ (2 ∷ []) ++ word 2 ++ dimensions ++ word 0 ++ word 0 ++ word 11 ++ word 1 ++ data_before_begin ++ double_word begin
    ++ (1 ∷ 2 ∷ 3 ∷ 4 ∷ 5 ∷ 6 ∷ [])

abbrev one_wide_header : Header
one_wide_header = record { records = 2; recsize = 3; dims = dims; gatts = []; vars = data_var 116 ∷ [] }

a_begin_has_eight_bytes : header_of (one_wide_variable 116) ≡ Ok one_wide_header
unfolding header_of number_at wide_begin_at kind_at padded_at name_at list_head_at dim_at dims_at attr_at attrs_at dim_number_at dim_numbers_at var_at
    vars_at numrecs_at magic_at
a_begin_has_eight_bytes = simp (record_name, size_name, data_name) refl

half_a_begin_is_left : header_of (take 112 (one_wide_variable 116)) ≡ Err (Short 108)
unfolding header_of number_at wide_begin_at kind_at padded_at name_at list_head_at dim_at dims_at attr_at attrs_at dim_number_at dim_numbers_at var_at
    vars_at numrecs_at magic_at
half_a_begin_is_left = simp (record_name, size_name, data_name) refl

-- the greatest begin is read, though the values would end past 2 ^ 63
the_greatest_begin : header_of (one_wide_variable 9223372036854775807) ≡ Err (DataShort 0)
unfolding header_of number_at wide_begin_at kind_at padded_at name_at list_head_at dim_at dims_at attr_at attrs_at dim_number_at dim_numbers_at var_at
    vars_at numrecs_at magic_at
the_greatest_begin = simp (record_name, size_name, data_name) refl

a_negative_begin : header_of (one_wide_variable 9223372036854775808) ≡ Err (Negative 108)
unfolding header_of number_at wide_begin_at kind_at padded_at name_at list_head_at dim_at dims_at attr_at attrs_at dim_number_at dim_numbers_at var_at
    vars_at numrecs_at magic_at
a_negative_begin = simp (record_name, size_name, data_name) refl
