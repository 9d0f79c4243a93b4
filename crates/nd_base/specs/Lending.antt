-- What a list ends as, where a `&mut` to its elements is returned.
use Rattle.std.specs.Prelude.{List, length}
use Rattle.std.specs.List.{refill}
use Rattle.std.specs.Borrow.{Lends, Fml, RattleType, MutBor, Array}
use Rattle.nd_base.specs.contracts.seq.Seq.{the_row}

-- the list after a write of its elements, which keeps their number
abbrev pub with_elements : {X : Type 0} → List X → List X → List X
with_elements old new = refill (length old) old new

-- once the borrow r ends, the elements are those that r shows last
abbrev pub lends_elements : (T : RattleType) → MutBor (List T.Denot) → MutBor (List T.Denot) → Fml
lends_elements T s r = Lends (the_row T) (Array T 0) s r (with_elements s.now)
