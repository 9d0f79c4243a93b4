-- The move that begins with an entry: the entry, and then all that it calls for. After one past there is no other.
use Rattle.std.specs.Prelude.{ℕ, zero, suc, max, List, [], ◌∷◌}
use Rattle.flow_journal.specs.declared.entry.Entry.{Entry}
use Rattle.flow_journal.specs.declared.entry.Entry.TheVariants.{Tick}
use Rattle.flow_journal.specs.Setting.{Setting}
use Rattle.flow_journal.specs.Pasts.{Past}
use Rattle.flow_journal.specs.Following.{calls_for}
use Rattle.flow_journal.specs.Histories.{wanted}
use Rattle.board_rules.specs.declared.told.Told.{Told}
use Rattle.board_rules.specs.States.{BoardState, past, plain}

-- what comes of an entry that was called for: a Tick keeps the greater one, and an offer finds room or doesn't
abbrev pub made_of : Setting → (tick : ℕ) → Past → Entry → Entry
made_of s tick P (Tick t) = Tick (max t tick)
made_of s tick P d = wanted s P d

-- The board once each of these was made, one after the other, each with all that it calls for before the next. Calls for calls go so
-- deep at most: a Load calls for a Tick, that for emissions, and those for offers, which call for nothing.
abbrev pub with_all : Setting → (tick depth : ℕ) → List Entry → BoardState → BoardState
with_all s tick zero ds b = b
with_all s tick (suc n) [] b = b
with_all s tick (suc n) (d ∷ ds) b =
    let e = made_of s tick (past b) d in
    with_all s tick (suc n) ds (with_all s tick n (calls_for s (past b) e) (plain e ∷ b))

-- the board after the move that begins so, where a load hands in this tick
abbrev pub moved_at : Setting → (tick : ℕ) → Told → BoardState → BoardState
moved_at s tick t b = with_all s tick 3 (calls_for s (past b) t.entry) (t ∷ b)

-- the board after a move that has no Tick
abbrev pub moved : Setting → Told → BoardState → BoardState
moved s t b = moved_at s 0 t b
