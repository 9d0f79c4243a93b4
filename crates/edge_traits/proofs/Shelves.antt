-- What the calls of a shelf in memory do to the map of its files.
use Rattle.std.proofs.Common.{◌≡◌, ℕ, ◌+◌, ◌≤◌, List, [], ◌++◌, length, Some, Result, Ok, Err, OnOk, OnErr, IsSome, is_some, is_ok, if◌then◌else◌}
use Rattle.std.proofs.Common.{unwrap_or, sym, ap, ◌∙◌}
use Rattle.std.specs.FinMap as map
use Rattle.edge_traits.specs.Files.{bytes_in, overwritten, with_file, with_more, with_patch, Stands, HasRange, MayAppend, MayPatch}
use Rattle.edge_traits.specs.FileLaws.{nothing_added, nothing_patched}
use Rattle.edge_traits.specs.Memory.{NamedFile, Store, files_of, find_file, bytes_of, with_bytes}
use Rattle.edge_traits.specs.MemoryLaws.{get-files_of, files_of-set_file}

-- the bytes of a name in the list and in the map
same_bytes : (store : Store) (n : List ℕ) → bytes_of store n ≡ bytes_in (files_of store.files) n
same_bytes store n = ap (λ o. unwrap_or o []) (sym (get-files_of store.files n))

-- a change of the store is one of the map
changed : (old new : Store) (n b : List ℕ) → new ≡ with_bytes old n b → Some (files_of new.files) ≡ with_file (Some (files_of old.files)) n b
changed old new n b h = ap (λ (s : Store). Some (files_of s.files)) h ∙ ap Some (files_of-set_file old.files n b)

pub create_ok : {T E : Type 0} (old new : Store) (n : List ℕ) (r : Result T E) → new ≡ (if is_ok r then with_bytes old n [] else old)
    → OnOk r (Some (files_of new.files) ≡ with_file (Some (files_of old.files)) n [])
create_ok old new n (Ok x) h = changed old new n [] h
create_ok old new n (Err e) h = tt

pub append_ok : {T E : Type 0} (old new : Store) (n b : List ℕ) (r : Result T E) → new ≡ (if is_ok r then with_bytes old n (bytes_of old n ++ b) else old)
    → OnOk r (Some (files_of new.files) ≡ with_more (Some (files_of old.files)) n b)
append_ok old new n b (Ok x) h = changed old new n (bytes_of old n ++ b) h ∙ ap (λ t. Some (map.insert (files_of old.files) n (t ++ b))) (same_bytes old n)
append_ok old new n b (Err e) h = tt

pub append_err : {T E : Type 0} (old new : Store) (n b : List ℕ) (r : Result T E) → Stands (Some (files_of old.files)) n
    → new ≡ (if is_ok r then with_bytes old n (bytes_of old n ++ b) else old) → OnErr r (MayAppend (Some (files_of old.files)) n b (Some (files_of new.files)))
append_err old new n b (Ok x) stands h = tt
append_err old new n b (Err e) stands h =
    nothing_added (Some (files_of old.files)) (Some (files_of new.files)) n b stands (ap (λ (s : Store). Some (files_of s.files)) h)

pub patch_ok : {T E : Type 0} (old new : Store) (n b : List ℕ) (off : ℕ) (r : Result T E)
    → new ≡ (if is_ok r then with_bytes old n (overwritten (bytes_of old n) off b) else old)
    → OnOk r (Some (files_of new.files) ≡ with_patch (Some (files_of old.files)) n off b)
patch_ok old new n b off (Ok x) h =
    changed old new n (overwritten (bytes_of old n) off b) h ∙ ap (λ t. Some (map.insert (files_of old.files) n (overwritten t off b))) (same_bytes old n)
patch_ok old new n b off (Err e) h = tt

pub patch_err : {T E : Type 0} (old new : Store) (n b : List ℕ) (off : ℕ) (r : Result T E) → HasRange (Some (files_of old.files)) n off (length b)
    → new ≡ (if is_ok r then with_bytes old n (overwritten (bytes_of old n) off b) else old)
    → OnErr r (MayPatch (Some (files_of old.files)) n off b (Some (files_of new.files)))
patch_err old new n b off (Ok x) range h = tt
patch_err old new n b off (Err e) range h =
    nothing_patched (Some (files_of old.files)) (Some (files_of new.files)) n off b range (ap (λ (s : Store). Some (files_of s.files)) h)

-- a name that stands in the map is in the list
pub IsSome-stands : (fs : List NamedFile) (n : List ℕ) → Stands (Some (files_of fs)) n → IsSome (find_file fs n)
IsSome-stands fs n h = let e : find_file fs n ≡ Some h.0 = sym (get-files_of fs n) ∙ h.1 in ap is_some e

-- a range that the map has is in the list
pub range_inside : (store : Store) (n : List ℕ) (off count : ℕ) → HasRange (Some (files_of store.files)) n off count → off + count ≤ length (bytes_of store n)
range_inside store n off count h = let e : bytes_of store n ≡ h.0 = ap (λ o. unwrap_or o []) (sym (get-files_of store.files n) ∙ h.1) in rw e h.2

pub IsSome-range : (fs : List NamedFile) (n : List ℕ) (off count : ℕ) → HasRange (Some (files_of fs)) n off count → IsSome (find_file fs n)
IsSome-range fs n off count h = IsSome-stands fs n (h.0, h.1)
