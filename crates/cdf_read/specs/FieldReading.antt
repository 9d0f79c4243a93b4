-- Reading a field from the front of the bytes that are left: its value, and the bytes after it.
use Rattle.std.specs.Prelude.{◌≡◌, ℕ, List, length, take, drop, Option, Some, None, nat_lt, if◌then◌else◌}
use Rattle.std.specs.Int.{w32, w64, from_be_bytes}

infixl 10 ◌>>=◌
abbrev pub ◌>>=◌ : {A B : Type 0} → Option A → (A → Option B) → Option B
None >>= next = None
(Some x) >>= next = next x

-- what a function returned, seen by view, is what reading finds
abbrev pub Finds : {X Y : Type 0} → (X → Y) → Option X → Option Y → Type 0
Finds view (Some x) found = found ≡ Some (view x)
Finds view None found = found ≡ None

abbrev pub free_in : ℕ → List ℕ → Option (List ℕ × List ℕ)
free_in count bytes = if nat_lt (length bytes) count then None else Some (take count bytes, drop count bytes)

abbrev pub word_in : List ℕ → Option (ℕ × List ℕ)
word_in bytes = do
  field ← free_in 4 bytes
  Some (from_be_bytes w32 field.0, field.1)

abbrev pub double_word_in : List ℕ → Option (ℕ × List ℕ)
double_word_in bytes = do
  field ← free_in 8 bytes
  Some (from_be_bytes w64 field.0, field.1)
