-- Values of int attributes.
use Rattle.std.proofs.Common.{◌≡◌, ◌/◌, ℕ, ℤ, true, false, List, length, Some, refl, arith}
use Rattle.std.specs.Prelude.{◌==◌, slice_get, slice_index_or, if◌then◌else◌}
use Rattle.std.proofs.lemmas.Bool.Decides.{nat_tests}
use Rattle.std.proofs.lemmas.Option.{get_or_from_slice_get}
use Rattle.nd_base.specs.declared.array.SampleType.TheVariants.{Int32}
use Rattle.nd_base.specs.Samples.{samples_of}
use Rattle.nd_base.specs.SampleLaws.{length-numbers}

-- another number of values
pub other_count : (bytes : List ℕ) (count : ℕ) (x other : ℤ) → (length bytes / 4 ≡ count → ⊥)
    → (if length (samples_of Int32 bytes) == count then x else other) ≡ other
other_count bytes count x other differs =
    let size : length (samples_of Int32 bytes) ≡ length bytes / 4 = length-numbers Int32 (length bytes / 4) bytes in
    let no : (length bytes / 4 == count) ≡ false = grind (arith, nat_tests) in
    rw (size, no) refl

-- one value a dimension
pub same_count : (bytes : List ℕ) (count i : ℕ) (x other : ℤ) → length bytes / 4 ≡ count → slice_get (samples_of Int32 bytes) i ≡ Some x
    → (if length (samples_of Int32 bytes) == count then slice_index_or (samples_of Int32 bytes) i other else other) ≡ x
same_count bytes count i x other same found =
    let size : length (samples_of Int32 bytes) ≡ length bytes / 4 = length-numbers Int32 (length bytes / 4) bytes in
    let yes : (length bytes / 4 == count) ≡ true = grind (arith, nat_tests) in
    rw (size, yes) (get_or_from_slice_get (samples_of Int32 bytes) i x other found)
