-- What a board is seen as: one list, which tells its log and no more of its state than what was handed out and what came back.
use Rattle.std.specs.Prelude.{ℕ, Bool, List, [], ◌∷◌, Option, None, if◌then◌else◌}
use Rattle.nd_base.specs.Parts.{Parts}
use Rattle.nd_base.specs.declared.frame.FrameName.{FrameName}
use Rattle.flow_journal.specs.declared.entry.Entry.{Entry}
use Rattle.flow_journal.specs.declared.entry.Entry.TheVariants.{TakeBlock, Reclaim}
use Rattle.board_rules.specs.declared.told.Told.{Told}
use Rattle.flow_journal.specs.Pasts.{Past}
use Rattle.flow_journal.specs.Hands.{takes_up}
use Rattle.flow_journal.specs.MoveLists.{begun_by, is_some_of}

-- the entries, THE NEWEST FIRST
abbrev pub BoardState : Type 0
BoardState = List Told

-- the log alone
abbrev pub past : BoardState → Past
past [] = []
past (t ∷ b) = t.entry ∷ past b

-- an entry with nothing beside it
abbrev pub plain : Entry → Told
plain e = record { entry = e; lent = None; lost = [] }

-- an entry that makes a hand, with the part that was handed out
abbrev pub lends : Entry → Option Parts → Told
lends e parts = record { entry = e; lent = parts; lost = [] }

-- a Reclaim, with the blocks of which something stayed away
abbrev pub loses : ℕ → List ℕ → Told
loses r blocks = record { entry = Reclaim r; lent = None; lost = blocks }

-- the part that the role has of the array in its hand: what was told beside the newest entry that gave it a hand
abbrev pub lent_to : ℕ → BoardState → Option Parts
lent_to r [] = None
lent_to r (t ∷ b) = if takes_up r t.entry then t.lent else lent_to r b

-- a take at a maker, with the block that was granted
abbrev pub take_block : (r v : ℕ) → FrameName → (b n : ℕ) → (f : Bool) → (g : ℕ) → (x : Bool) → Entry
take_block r v a b n f g x = TakeBlock f x r v a.maker a.index b n g

-- what a role knows by itself: the entries that begin its own moves, with what was told beside them
abbrev pub own : ℕ → BoardState → BoardState
own r [] = []
own r (t ∷ b) = if is_some_of r (begun_by t.entry) then t ∷ own r b else own r b
