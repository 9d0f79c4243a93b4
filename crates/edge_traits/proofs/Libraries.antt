-- What a library in memory tells of its files as a map.
use Rattle.std.proofs.Common.{◌≡◌, ℕ, Bool, true, false, List, Option, Some, None, Result, Ok, Err, OnOk, IfOk, is_some, is_ok, ◌&&◌, sym, ◌∙◌}
use Rattle.std.specs.FinMap as map
use Rattle.edge_traits.specs.Files.{Stands}
use Rattle.edge_traits.specs.Memory.{NamedFile, files_of, find_file}
use Rattle.edge_traits.specs.MemoryLaws.{get-files_of}

-- a look-up that finds something
stands_found : (fs : List NamedFile) (n : List ℕ) (o : Option (List ℕ)) → map.get (files_of fs) n ≡ o → is_some o ≡ true → Stands (Some (files_of fs)) n
stands_found fs n None e h = let impossible : false ≡ true = h in cc
stands_found fs n (Some b) e h = (b, e)

second_true : (a b : Bool) → true ≡ (a && b) → b ≡ true
second_true true b h = sym h
second_true false b h = let impossible : true ≡ false = h in cc

-- an answer that comes only where the name is found
pub Stands-found : {T E : Type 0} (fs : List NamedFile) (n : List ℕ) (r : Result T E) (free : Bool) → is_ok r ≡ (free && is_some (find_file fs n))
    → OnOk r (Stands (Some (files_of fs)) n)
Stands-found fs n (Ok x) free h = stands_found fs n (find_file fs n) (get-files_of fs n) (second_true free (is_some (find_file fs n)) h)
Stands-found fs n (Err e) free h = tt

-- what holds of the file that is found holds of the file that is told
pub told_as_found : {T E : Type 0} (fs : List NamedFile) (n : List ℕ) (r : Result T E) (P : T → List ℕ → Type 0)
    → IfOk r (λ k. (file : List ℕ) → find_file fs n ≡ Some file → P k file) → IfOk r (λ k. (file : List ℕ) → map.get (files_of fs) n ≡ Some file → P k file)
told_as_found fs n (Ok x) P h = λ file e. h file (sym (get-files_of fs n) ∙ e)
told_as_found fs n (Err e) P h = tt

-- the file that is told is the one that was found
pub only_file : (fs : List NamedFile) (n found file : List ℕ) → find_file fs n ≡ Some found → map.get (files_of fs) n ≡ Some file → found ≡ file
only_file fs n found file there told = let same : Some found ≡ Some file = sym there ∙ sym (get-files_of fs n) ∙ told in cc
