-- Counts of faults.
use Rattle.std.specs.Prelude.{◌≡◌, ℕ, ◌+◌, ◌-◌, ◌^◌, ◌≤◌, min, List, Result, Ok, Err}

-- the count rose, or stands at the greatest `u64`
abbrev pub Rose : ℕ → ℕ → Type 0
Rose before now = min (before + 1) (2 ^ 64 - 1) ≤ now

-- an Ok leaves the count, and an Err comes only where it rose
abbrev pub Counts : {T E : Type 0} → ℕ → ℕ → Result T E → Type 0
Counts before now (Ok x) = now ≡ before
Counts before now (Err e) = (before ≤ now) × Rose before now

-- the two calls of a library: for a file's size, and for bytes of it
pub data LibraryCall : Type 0 where
  SizeCall : LibraryCall
  ReadCall : LibraryCall

-- by call and name: an Ok leaves all counts; no count falls, and an Err comes only where that of its call and name rose
abbrev pub CountsAt : {T E : Type 0} → (call : LibraryCall) → (name : List ℕ) → (before now : LibraryCall → List ℕ → ℕ) → Result T E → Type 0
CountsAt call name before now (Ok x) = (each : LibraryCall) → (other : List ℕ) → now each other ≡ before each other
CountsAt call name before now (Err e) =
    ((each : LibraryCall) → (other : List ℕ) → before each other ≤ now each other) × Rose (before call name) (now call name)
