-- What a blank is after its bytes were lent.
use Rattle.std.specs.Prelude.{ℕ, List, ◌++◌, take, drop, length}
use Rattle.std.specs.Borrow.{Lends, MutBor, Fml, u8, Array}
use Rattle.frame_store.specs.contracts.blank.Blank.{the_row}

-- these bytes with others written over them. A slice keeps its length, so the others are all of what was written
abbrev pub written_over : List ℕ → List ℕ → List ℕ
written_over bytes written = take (length bytes) (written ++ drop (length written) bytes)

-- the blank ends with what was written behind the slice
abbrev pub LendsAll : MutBor (List ℕ) → MutBor (List ℕ) → Fml
LendsAll blank slice = Lends the_row (Array u8 0) blank slice (λ written. written_over blank.now written)
