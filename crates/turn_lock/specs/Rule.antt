-- The rule of the turn lock, which holds between any two steps.
-- Word 0 counts the tickets that were drawn and word 1 the turns that have ended. Of any other word the rule says nothing. The
-- log has the entries of the turns that have ended.
use Rattle.std.specs.Prelude.{◌≡◌, ℕ, ◌+◌, ◌%◌, ◌<◌, ◌≤◌, ◌⊎◌, List, [], ◌∷◌, length, Option}
use mathlib.Core.Option.{some}
use mathlib.Core.Option as maybe
use lib.ListN.{get_elem?}
use Rattle.atomic_table.specs.Table.{State}
use Rattle.turn_lock.specs.declared.rule.View.{View}
use Rattle.turn_lock.specs.declared.rule.Moves.{Moves}
use Rattle.turn_lock.specs.declared.rule.Stage.{Stage}
use Rattle.turn_lock.specs.declared.rule.Stage.TheVariants.{Idle, Waiting, Serving, Joined}
use Rattle.turn_lock.specs.Logs.{moves_of, IsPrefix}
use Rattle.turn_lock.specs.Views.{total, tickets, roles, places}

-- a word holds a count modulo this
abbrev pub word_range : ℕ
word_range = 18446744073709551616

module _ {E : Type 0} where
  abbrev pub HasTicket : Stage E → ℕ → Type 0
  HasTicket Idle n = ⊥
  HasTicket (Waiting t) n = t ≡ n
  HasTicket (Serving t) n = t ≡ n
  HasTicket (Joined told) n = ⊥

  abbrev pub IsServing : Stage E → Type 0
  IsServing Idle = ⊥
  IsServing (Waiting t) = ⊥
  IsServing (Serving t) = Unit {0}
  IsServing (Joined told) = ⊥

  -- no ticket twice
  abbrev pub Distinct : List (View E) → Type 0
  Distinct vs = (i j t : ℕ) (v w : View E) → get_elem? vs i ≡ some v → get_elem? vs j ≡ some w
      → HasTicket v.stage t → HasTicket w.stage t → i ≡ j

  abbrev pub SomeServing : List (View E) → Type 0
  SomeServing vs = (j : ℕ) × (v : View E) × (get_elem? vs j ≡ some v) × IsServing v.stage

  -- a ticket lies between the turns that have ended and the tickets that were drawn; the seat in turn has seen all
  abbrev pub InQueue : ℕ → ℕ → List E → List E → ℕ → Stage E → Type 0
  InQueue drawn ended log seen roles Idle = Unit {0}
  InQueue drawn ended log seen roles (Waiting t) = (ended ≤ t) × (t < drawn) × (0 < roles)
  InQueue drawn ended log seen roles (Serving t) = (t ≡ ended) × (t < drawn) × (0 < roles) × (seen ≡ log)
  InQueue drawn ended log seen roles (Joined told) = IsPrefix told log

  -- a seat has seen the whole log, or has just been told of it
  abbrev pub SeenAll : List E → List E → Stage E → Type 0
  SeenAll log seen Idle = seen ≡ log
  SeenAll log seen (Waiting t) = seen ≡ log
  SeenAll log seen (Serving t) = seen ≡ log
  SeenAll log seen (Joined told) = (seen ≡ log) ⊎ (told ≡ log)

  -- some seat with a role has seen all
  abbrev pub Witnessed : List E → List (View E) → Type 0
  Witnessed log vs = (j : ℕ) × (v : View E) × (get_elem? vs j ≡ some v) × (0 < length v.made) × SeenAll log v.seen v.stage

module _ {E : Type 0} (begins : E → Option ℕ) where
  -- of each of these roles the log has just the moves that are listed
  abbrev pub AreExact : List E → List (Moves E) → Type 0
  AreExact log [] = Unit {0}
  AreExact log (m ∷ ms) = (moves_of begins m.role log ≡ m.entries) × AreExact log ms

  -- what a seat knows is true
  pub record IsTrue (drawn ended : ℕ) (log : List E) (v : View E) : Type 0 where
    pub queue : InQueue drawn ended log v.seen (length v.made) v.stage
    pub seen : IsPrefix v.seen log
    pub made : AreExact log v.made

module _ {S E : Type 0} (entries : S → List E) (begins : E → Option ℕ) where
  -- the state lies in the slot, and means the log
  abbrev pub IsHome : List E → List (maybe.Option S) → Type 0
  IsHome log homes = (x : S) × (homes ≡ some x ∷ []) × (entries x ≡ log)

  pub record TurnRule (seats : ℕ) (s : State S (View E)) : Type 0 where
    pub drawn : ℕ
    pub ended : ℕ
    pub others : List ℕ
    pub log : List E
    pub few_seats : seats < 4294967296
    pub words : s.words ≡ drawn % word_range ∷ ended % word_range ∷ others
    pub one_slot : length s.homes ≡ 1
    pub waiting : drawn ≡ ended + total tickets s.views
    pub all_roles : total roles s.views ≡ seats
    pub one_place : (r : ℕ) → r < seats → total (places r) s.views ≡ 1
    pub no_place : (r : ℕ) → seats ≤ r → total (places r) s.views ≡ 0
    pub no_stranger : (r : ℕ) → seats ≤ r → moves_of begins r log ≡ []
    pub each : (j : ℕ) (v : View E) → get_elem? s.views j ≡ some v → IsTrue begins drawn ended log v
    pub distinct : Distinct s.views
    pub witness : Witnessed log s.views
    pub home : IsHome log s.homes ⊎ SomeServing s.views
