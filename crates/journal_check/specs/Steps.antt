-- One move of a log that is checked.
use Rattle.std.specs.Prelude.{◌≡◌, ◌≢◌, ℕ, ◌+◌, ◌<◌, ◌≤◌, true, false, List, [], ◌∷◌, length, take, slice_get, Some}
use Rattle.flow_journal.specs.declared.entry.Entry.{Entry}
use Rattle.flow_journal.specs.declared.entry.Entry.TheVariants.{Load, LoadRefused, Tick}
use Rattle.flow_journal.specs.Setting.{Setting}
use Rattle.flow_journal.specs.Pasts.{Past}
use Rattle.flow_journal.specs.Following.{owed}
use Rattle.flow_journal.specs.Histories.{is_legal, is_history, next}
use Rattle.flow_journal.specs.Moves.{onto, follow}
use Rattle.journal_check.specs.declared.step.Step.{Step}
use Rattle.journal_check.specs.declared.step.Step.TheVariants.{Made, Bad, Ends}

-- the tick that these begin with, or 0
abbrev pub next_tick : List Entry → ℕ
next_tick (Tick t ∷ es) = t
next_tick _ = 0

-- the tick with which the move of an entry is made, where this one stands behind it: a load alone has one
abbrev pub tick_for : Entry → ℕ → ℕ
tick_for (Load r k b n f g x) t = t
tick_for (LoadRefused r k n h) t = t
tick_for _ t = 0

-- so many entries are alike in both lists, from the first on, and no more
pub record AreAlike (made es : List Entry) (n : ℕ) : Type 0 where
  pub same : take n made ≡ take n es
  pub in_made : n ≤ length made
  pub in_es : n ≤ length es
  pub apart : (a x : Entry) → slice_get made n ≡ Some a → slice_get es n ≡ Some x → a ≢ x

-- e is legal after P, these follow it, and with them Q is reached
pub record IsMade (s : Setting) (P : Past) (e : Entry) (rest : List Entry) (Q : Past) : Type 0 where
  pub legal : is_legal s (e ∷ P) ≡ true
  pub follows : follow s (e ∷ P) rest ≡ true
  pub whole : onto rest (e ∷ P) ≡ Q
  pub history : is_history s Q ≡ true

-- two ticks, of which the second may come right after P, are one
abbrev pub OneTick : Setting → Past → (between : List Entry) → Entry → Entry → Type 0
OneTick s P [] (Tick t) (Tick u) = next s P (Tick u) (owed s P) ≡ true → t ≡ u
OneTick s P _ _ _ = Unit {0}

abbrev pub SameTicks : Setting → Past → (rest others : List Entry) → Type 0
SameTicks s P rest others = (k : ℕ) (a x : Entry) → slice_get rest k ≡ Some a → slice_get others k ≡ Some x → OneTick s P (take k rest) a x

-- a legal move after P that reaches Q, and entries that begin with the first one of it
pub record IsBegun (s : Setting) (P : Past) (made es : List Entry) (Q : Past) : Type 0 where
  pub e : Entry
  pub rest : List Entry
  pub others : List Entry
  pub move : made ≡ e ∷ rest
  pub log : es ≡ e ∷ others
  pub made_is : IsMade s P e rest Q
  pub ticks : SameTicks s (e ∷ P) rest others

-- Of these entries, which come after P: the first so many are one legal move, with which Q is reached; or that of this place, from 0, is the
-- first that isn't in its place; or all are in their places, and the last move wants more.
abbrev pub IsStep : Setting → Past → List Entry → Step → Past → Type 0
IsStep s P es (Made n) Q = (1 ≤ n) × (n ≤ length es) × (Q ≡ onto (take n es) P) × (is_history s Q ≡ true)
IsStep s P es (Bad n) Q = (n < length es) × (is_legal s (onto (take n es) P) ≡ true) × (is_legal s (onto (take (n + 1) es) P) ≡ false)
IsStep s P es Ends Q = (is_legal s (onto es P) ≡ true) × (is_history s (onto es P) ≡ false)
