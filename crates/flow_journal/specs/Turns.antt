-- To whom an array that goes out of a node is offered: to each child, or by a node that deals its arrays out to one child in turn.
use Rattle.std.specs.Prelude.{ℕ, ◌+◌, ◌%◌, ◌==◌, Bool, false, List, [], ◌∷◌, ◌++◌, length, drop, take, filter, Option, Some, None, if◌then◌else◌}
use Rattle.std.specs.List.{position_or_len}
use Rattle.flow_journal.specs.declared.entry.Entry.{Entry}
use Rattle.flow_journal.specs.declared.entry.Entry.TheVariants.{Emit, Accept, Full}
use Rattle.flow_journal.specs.Setting.{Setting, Work, Makes, Passes, Watches, Saves, node, children}
use Rattle.flow_journal.specs.Pasts.{Past}
use Rattle.flow_journal.specs.Queued.{has_room}

abbrev pub is_dealing : Work → Bool
is_dealing Makes = false
is_dealing (Passes deals) = deals
is_dealing (Watches pre post preset) = false
is_dealing (Saves whole_groups count) = false

-- the node gives each array to one child
abbrev pub deals : Setting → ℕ → Bool
deals s v = is_dealing (node s v).work

-- the node to which the entry offers an array
abbrev pub offered_child : Entry → Option ℕ
offered_child (Accept c m k) = Some c
offered_child (Full c m k) = Some c
offered_child _ = None

-- the newest entry is an emission of the node
abbrev pub has_just_emitted : ℕ → Past → Bool
has_just_emitted v (Emit w m k why ∷ P) = w == v
has_just_emitted v _ = false

-- the child of the entry that follows the last emission of the node
abbrev pub last_child : ℕ → Past → Option ℕ
last_child v [] = None
last_child v (e ∷ P) = if has_just_emitted v P then offered_child e else last_child v P

abbrev pub place_after : Option ℕ → List ℕ → ℕ
place_after None cs = 0
place_after (Some c) cs = position_or_len (λ b. b == c) cs + 1

-- whose turn it is, as a place among the children: the one after that child, round the children
abbrev pub turn : Setting → ℕ → Past → ℕ
turn s v P = place_after (last_child v P) (children s v) % length (children s v)

-- these from the place n on, round
abbrev pub round_from : ℕ → List ℕ → List ℕ
round_from n cs = drop n cs ++ take n cs

-- the children in turn, the next one first
abbrev pub in_turn : Setting → Past → ℕ → List ℕ
in_turn s P v = round_from (turn s v P) (children s v)

-- the first of these in turn whose queue has room, or the first of all where none has
abbrev pub dealt_to : Setting → Past → List ℕ → List ℕ
dealt_to s P cs = take 1 (filter (has_room s P) cs ++ cs)

-- the nodes to which the array that node v emits after P is offered
abbrev pub offered_to : Setting → Past → ℕ → List ℕ
offered_to s P v = if deals s v then dealt_to s P (in_turn s P v) else children s v
