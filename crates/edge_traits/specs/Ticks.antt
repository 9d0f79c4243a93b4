-- What a clock answers.
use Rattle.std.specs.Prelude.{◌≡◌, ℕ, List, [], ◌∷◌, drop, Option, Some, None}

-- The answers that are to come: those of a list, and then the same one for ever.
pub record Coming : Type 0 where
  pub ticks : List ℕ
  pub last : ℕ

-- the next answer
abbrev pub next_tick : List ℕ → ℕ → ℕ
next_tick [] last = last
next_tick (t ∷ ts) last = t

-- what comes after it
abbrev pub later : Coming → Coming
later c = record { ticks = drop 1 c.ticks; last = c.last }

-- the last of a list of answers, 0 of none
abbrev pub last_tick : List ℕ → ℕ
last_tick [] = 0
last_tick (t ∷ []) = t
last_tick (t ∷ u ∷ ts) = last_tick (u ∷ ts)

-- an answer is the next one, where the clock tells what is to come
abbrev pub Ticks : Option Coming → ℕ → Option Coming → Type 0
Ticks None tick now = now ≡ None
Ticks (Some c) tick now = (tick ≡ next_tick c.ticks c.last) × (now ≡ Some (later c))

-- A clock over the machine's: its last answer, and how often the machine's couldn't be read.
pub record Reading : Type 0 where
  pub last : ℕ
  pub faults : ℕ
