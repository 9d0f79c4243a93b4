-- What holds of the views of all seats holds of each.
use Rattle.std.proofs.Common.{◌≡◌, ℕ, zero, suc, List, [], ◌∷◌, sym, subst}
use Rattle.std.specs.List.{All}
use Rattle.std.proofs.lemmas.List.Elements.{All-head, All-tail}
use mathlib.Core.Option.{some, some-injective, some-ne-none}
use lib.ListN.{get_elem?}

module _ {V : Type 0} (P : V → Type 0) where
  pub seat_of_all : (views : List V) (seat : ℕ) (v : V) → get_elem? views seat ≡ some v → All P views → P v
  seat_of_all [] seat v at all = absurd (some-ne-none v (sym at))
  seat_of_all (x ∷ xs) zero v at all = subst P (some-injective x v at) (All-head P x xs all)
  seat_of_all (x ∷ xs) (suc seat) v at all = seat_of_all xs seat v at (All-tail P x xs all)
