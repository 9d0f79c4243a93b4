-- Small cases, computed.
use Rattle.std.specs.Prelude.{◌≡◌, true, false, List, [], ◌∷◌, Some, None, codes, refl}
use Rattle.edge_traits.specs.Files.{overwritten}
use Rattle.edge_traits.specs.Written.{with_written}
use Rattle.edge_traits.specs.Memory.{NamedFile, find_file, set_file, bytes_used, takes_name, takes_bytes, no_calls, counted, is_listed}

-- two bytes over the second and the third of four
overwritten_middle : overwritten (codes "abcd") 1 (codes "xy") ≡ codes "axyd"
overwritten_middle = refl

-- a piece comes at the end
written_behind : with_written (Some (codes "ab")) (codes "c") ≡ Some (codes "abc")
written_behind = refl

-- two files of three and two bytes with their names
abbrev two_files : List NamedFile
two_files = (codes "a", codes "12") ∷ (codes "b", codes "3") ∷ []

used_by_both : bytes_used two_files ≡ 5
used_by_both = refl

-- a file that is there keeps its place, and a new one comes last
set_second : set_file two_files (codes "b") (codes "45") ≡ (codes "a", codes "12") ∷ (codes "b", codes "45") ∷ []
set_second = refl

set_third : set_file two_files (codes "c") [] ≡ (codes "a", codes "12") ∷ (codes "b", codes "3") ∷ (codes "c", []) ∷ []
set_third = refl

not_found : find_file two_files (codes "c") ≡ None
not_found = refl

-- in a room of six bytes one more fits, as a name or as a byte, and two don't
one_fits : takes_name record { files = two_files; room = 6; names = 3 } (codes "c") ≡ true
one_fits = refl

two_do_not : takes_bytes record { files = two_files; room = 6; names = 3 } 2 ≡ false
two_do_not = refl

-- a third name has no place where there are two
no_place : takes_name record { files = two_files; room = 6; names = 2 } (codes "c") ≡ false
no_place = refl

-- of the calls with the numbers 0 and 2 the first fails, and the second doesn't
first_listed : is_listed (no_calls (0 ∷ 2 ∷ [])) ≡ true
first_listed = refl

second_not : is_listed (counted (no_calls (0 ∷ 2 ∷ [])) false) ≡ false
second_not = refl
