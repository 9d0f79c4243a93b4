-- What a seat knows: where it stands in the queue, which prefix of the log it has seen, and the roles that it has, each with
-- its moves.
use Rattle.std.specs.Prelude.{ℕ, zero, suc, ◌+◌, Bool, true, false, ◌==◌, List, [], ◌∷◌, ◌++◌, length, take, drop}
use Rattle.turn_lock.specs.declared.rule.View.{View}
use Rattle.turn_lock.specs.declared.rule.Moves.{Moves}
use Rattle.turn_lock.specs.declared.rule.Stage.{Stage}
use Rattle.turn_lock.specs.declared.rule.Stage.TheVariants.{Idle, Waiting, Serving, Joined}
use Rattle.turn_lock.specs.Logs.{longer}

abbrev pub total : {V : Type 0} → (V → ℕ) → List V → ℕ
total f [] = 0
total f (x ∷ xs) = f x + total f xs

abbrev pub one_if : Bool → ℕ
one_if true = 1
one_if false = 0

module _ {E : Type 0} where
  -- how many tickets a seat holds
  abbrev pub held : Stage E → ℕ
  held Idle = 0
  held (Waiting t) = 1
  held (Serving t) = 1
  held (Joined told) = 0

  abbrev pub tickets : View E → ℕ
  tickets v = held v.stage

  abbrev pub roles : View E → ℕ
  roles v = length v.made

  -- how often a role stands in a list
  abbrev pub times : ℕ → List (Moves E) → ℕ
  times r [] = 0
  times r (m ∷ ms) = one_if (m.role == r) + times r ms

  abbrev pub places : ℕ → View E → ℕ
  places r v = times r v.made

  abbrev pub view : Stage E → List E → List (Moves E) → View E
  view stage seen made = record { stage = stage; seen = seen; made = made }

  abbrev pub no_moves : ℕ → Moves E
  no_moves r = record { role = r; entries = [] }

  -- n roles from k on that have made nothing
  abbrev pub unused : ℕ → ℕ → List (Moves E)
  unused k zero = []
  unused k (suc n) = no_moves k ∷ unused (suc k) n

  -- the seat from which all others are split
  abbrev pub first_view : ℕ → View E
  first_view seats = view Idle [] (unused 0 seats)

  -- the first role has made these entries too
  abbrev pub adds : List E → List (Moves E) → List (Moves E)
  adds new [] = []
  adds new (m ∷ ms) = record { role = m.role; entries = m.entries ++ new } ∷ ms

  abbrev pub waits : ℕ → View E → View E
  waits t v = view (Waiting t) v.seen v.made

  abbrev pub serves : ℕ → View E → List E → View E
  serves t v log = view (Serving t) log v.made

  -- a split: one seat keeps the first role, and the new one has the others
  abbrev pub first_role : View E → View E
  first_role v = view Idle v.seen (take 1 v.made)

  abbrev pub other_roles : View E → View E
  other_roles v = view Idle v.seen (drop 1 v.made)

  -- a join: what the other seat had seen is kept beside what this one has seen, until the next step settles which is longer
  abbrev pub joined : View E → View E → View E
  joined v w = view (Joined w.seen) v.seen (v.made ++ w.made)

  abbrev pub settled : List E → View E → View E
  settled told v = view Idle (longer v.seen told) v.made

  -- what is left of the other seat
  abbrev pub spent : View E
  spent = view Idle [] []
