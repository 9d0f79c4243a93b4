-- Worked rows as calls: their frames, and steps that several rows share.
use Rattle.std.specs.Prelude.{ℕ, ◌^◌, true, false, Option, Some}
use Rattle.nd_base.specs.Parts.{Parts}
use Rattle.nd_base.specs.declared.frame.FrameName.{FrameName}
use Rattle.flow_journal.specs.declared.entry.Entry.TheVariants.{Load, Issue, Take, Put, Settle, Close}
use Rattle.flow_journal.specs.Setting.{Setting}
use Rattle.flow_journal.specs.Pasts.{frame}
use Rattle.board_rules.specs.States.{BoardState, plain, lends}
use Rattle.board_rules.specs.Moving.{moved}

-- a frame that tells its parts, of storage of 4 bytes
pub record Sample : Type 0 where
  pub name : FrameName
  pub here : ℕ

abbrev pub parts_of : Sample → Option Parts
parts_of f = Some (record { block = 7; size = 4; here = f.here })

-- all of frame k of the stack, and one part of it
abbrev pub whole : ℕ → Sample
whole k = record { name = frame 0 k; here = 2 ^ 32 }

abbrev pub part : ℕ → Sample
part k = record { name = frame 0 k; here = 1 }

-- storage of a size
abbrev pub Bytes : Type 0
Bytes = ℕ

abbrev pub size_of : Bytes → ℕ
size_of n = n

-- STEPS OF A ROW: boards after one more call, at node 1

-- frame k into a new block of its number
abbrev pub loaded : Setting → ℕ → BoardState → BoardState
loaded s k b = moved s (plain (Load 0 k k 4 true 0 false)) b

abbrev pub issued : Setting → ℕ → BoardState → BoardState
issued s k b = moved s (plain (Issue 0 k)) b

abbrev pub fed : Setting → ℕ → BoardState → BoardState
fed s k b = issued s k (loaded s k b)

abbrev pub taken : Setting → (r k : ℕ) → BoardState → BoardState
taken s r k b = moved s (lends (Take r 1 0 k) (parts_of (part k))) b

abbrev pub put : Setting → (r k : ℕ) → BoardState → BoardState
put s r k b = moved s (plain (Put r 1 0 k false)) b

abbrev pub closed : Setting → BoardState → BoardState
closed s b = moved s (plain (Close 0)) b

abbrev pub settled : Setting → (r : ℕ) → BoardState → BoardState
settled s r b = moved s (plain (Settle r 1)) b
