-- A counter with a log of its counts, each with the role that made it.
use Rattle.std.specs.Prelude.{◌≡◌, ℕ, ◌<◌, List, [], ◌∷◌, length, Option, Some}
use Rattle.atomic_table.specs.Seated.{TableId}
use Rattle.turn_lock.specs.declared.counter.Count.{Count}
use Rattle.turn_lock.specs.declared.counter.CounterOp.{CounterOp}
use Rattle.turn_lock.specs.declared.counter.CounterOp.TheVariants.{Add, Total, First}
use Rattle.turn_lock.specs.declared.counter.CounterReply.{CounterReply}
use Rattle.turn_lock.specs.declared.counter.CounterReply.TheVariants.{Counted, FirstRole, NoMemory}
use Rattle.turn_lock.specs.declared.crowd.Job.{Job}
use Rattle.turn_lock.specs.declared.rule.Moves.{Moves}
use Rattle.turn_lock.specs.Views.{no_moves}
use Rattle.turn_lock.specs.Passes.{PassFacts}

abbrev pub asked_by : CounterOp → ℕ
asked_by (Add r) = r
asked_by (Total r) = r
asked_by (First r) = r

-- each entry is a move of its own
abbrev pub counted_by : Count → Option ℕ
counted_by c = Some c.role

-- who has counted may ask who was first
abbrev pub MayAsk : List Count → CounterOp → Type 0
MayAsk mine (Add r) = Unit {0}
MayAsk mine (Total r) = Unit {0}
MayAsk mine (First r) = 0 < length mine

abbrev pub count : ℕ → Count
count r = record { role = r }

abbrev pub Answers : List Count → CounterOp → CounterReply → List Count → Type 0
Answers log (Add r) (Counted n) added = (n ≡ length log) × (added ≡ count r ∷ [])
Answers log (Add r) (FirstRole q) added = ⊥
Answers log (Add r) NoMemory added = added ≡ []
Answers log (Total r) (Counted n) added = (n ≡ length log) × (added ≡ [])
Answers log (Total r) (FirstRole q) added = ⊥
Answers log (Total r) NoMemory added = ⊥
Answers log (First r) (Counted n) added = ⊥
Answers log (First r) (FirstRole q) added = (rest : List Count) × (log ≡ count q ∷ rest) × (added ≡ [])
Answers log (First r) NoMemory added = ⊥

-- a pass of this one role
abbrev pub HasRole : ℕ → List (Moves Count) → Type 0
HasRole role made = (mine : List Count) × (made ≡ record { role = role; entries = mine } ∷ [])

-- the same, which has counted so often
abbrev pub HasCounted : ℕ → ℕ → List (Moves Count) → Type 0
HasCounted role times made = (mine : List Count) × (made ≡ record { role = role; entries = mine } ∷ []) × (length mine ≡ times)

-- each of these roles has counted so often
abbrev pub EachCounted : ℕ → List (Moves Count) → Type 0
EachCounted times [] = Unit {0}
EachCounted times (m ∷ ms) = (length m.entries ≡ times) × EachCounted times ms

-- a role with its pass, which has called nothing yet
abbrev pub IsReady : TableId → Job → Type 0
IsReady id j = (j.pass.lock ≡ id) × (j.pass.made ≡ no_moves j.role ∷ [])

-- the pass of a role that has done its counts
abbrev pub IsCountDone : TableId → ℕ → PassFacts Count → Type 0
IsCountDone id times p = (p.lock ≡ id) × (length p.made ≡ 1) × EachCounted times p.made
