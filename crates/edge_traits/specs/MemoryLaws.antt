-- What the files of a list are as a map.
use Rattle.std.specs.Prelude.{◌≡◌, ◌≢◌, ◌⊎◌, ℕ, Bool, true, false, List, [], ◌∷◌, Some, if◌then◌else◌, refl}
use Rattle.std.proofs.Common.{sym, ap, ◌∙◌, inl, inr}
use Rattle.std.specs.Bool.{Decides}
use Rattle.std.specs.Str.{bytes_eq}
use Rattle.std.specs.FinMap as map
use Rattle.std.specs.Ordering.{nat_cmp}
use Rattle.std.specs.Cmp.Lexicographic.{slice_cmp}
use Rattle.std.proofs.lemmas.Slice.Eq.{bytes_eq-Decides}
use Rattle.edge_traits.specs.Files.{Stands}
use Rattle.edge_traits.specs.FileLaws.{get-insert_same, get-insert_other, insert-insert, insert-insert_other}
use Rattle.edge_traits.specs.Memory.{NamedFile, files_of, find_file, set_file}

chosen_second : {A : Type 0} (xs ys : List ℕ) (b : Bool) (x y : A) → Decides b (xs ≡ ys) → xs ≢ ys → (if b then x else y) ≡ y
chosen_second xs ys true x y d h = absurd (h (d.0 refl))
chosen_second xs ys false x y d h = refl

-- where the names differ the second is chosen, and where they are equal the first
pub other_name : {A : Type 0} (xs ys : List ℕ) (x y : A) → xs ≢ ys → (if bytes_eq xs ys then x else y) ≡ y
other_name xs ys x y h = chosen_second xs ys (bytes_eq xs ys) x y (bytes_eq-Decides xs ys) h

pub same_name : {A : Type 0} (xs ys : List ℕ) (x y : A) → xs ≡ ys → (if bytes_eq xs ys then x else y) ≡ x
same_name xs ys x y h = ap (λ b. if b then x else y) ((bytes_eq-Decides xs ys).1 h)

by_test : {xs ys : List ℕ} (b : Bool) → Decides b (xs ≡ ys) → (xs ≡ ys) ⊎ (xs ≢ ys)
by_test true d = inl (d.0 refl)
by_test false d = inr (λ e. let impossible : false ≡ true = d.1 e in cc)

-- one name or another
decided : (xs ys : List ℕ) → (xs ≡ ys) ⊎ (xs ≢ ys)
decided xs ys = by_test (bytes_eq xs ys) (bytes_eq-Decides xs ys)

-- a look-up in the map is one in the list
pub get-files_of : (fs : List NamedFile) (n : List ℕ) → map.get (files_of fs) n ≡ find_file fs n
get-files_of [] n = map.get-empty (slice_cmp nat_cmp) n
get-files_of (f ∷ fs) n = elim (decided f.0 n) [
  | inl same ↦ ap (map.get (files_of (f ∷ fs))) (sym same) ∙ get-insert_same (files_of fs) f.0 f.1 ∙ sym (same_name f.0 n (Some f.1) (find_file fs n) same)
  | inr other ↦ get-insert_other (files_of fs) f.0 f.1 n (λ e. other (sym e)) ∙ get-files_of fs n ∙ sym (other_name f.0 n (Some f.1) (find_file fs n) other)
]

-- a change of the list is one of the map
pub files_of-set_file : (fs : List NamedFile) (n b : List ℕ) → files_of (set_file fs n b) ≡ map.insert (files_of fs) n b
files_of-set_file [] n b = refl
files_of-set_file (f ∷ fs) n b = elim (decided f.0 n) [
  | inl same ↦ ap files_of (same_name f.0 n ((f.0, b) ∷ fs) (f ∷ set_file fs n b) same)
      ∙ ap (λ k. map.insert (files_of fs) k b) same ∙ sym (insert-insert (files_of fs) n f.1 b)
      ∙ ap (λ k. map.insert (map.insert (files_of fs) k f.1) n b) (sym same)
  | inr other ↦ ap files_of (other_name f.0 n ((f.0, b) ∷ fs) (f ∷ set_file fs n b) other)
      ∙ ap (λ m. map.insert m f.0 f.1) (files_of-set_file fs n b) ∙ insert-insert_other (files_of fs) f.0 f.1 n b other
]

-- a name that stands is found
pub found : (fs : List NamedFile) (n : List ℕ) → Stands (Some (files_of fs)) n → (b : List ℕ) × (find_file fs n ≡ Some b)
found fs n h = (h.0, sym (get-files_of fs n) ∙ h.1)
