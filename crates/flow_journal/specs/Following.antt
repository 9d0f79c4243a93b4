-- What must follow the first entry of a move. Each entry calls for others, right after it.
use Rattle.std.specs.Prelude.{ℕ, ◌+◌, ◌==◌, Bool, nat_lt, List, [], ◌∷◌, ◌++◌, length, drop, flat_map, map, ℤ, if◌then◌else◌}
use Rattle.nd_base.specs.declared.frame.FrameName.{FrameName}
use Rattle.trig_window.specs.Windows.{is_trigger, is_passed}
use Rattle.flow_journal.specs.declared.entry.Entry.{Entry}
use Rattle.flow_journal.specs.declared.entry.Entry.TheVariants.{Load, LoadRefused, Tick, Issue, Emit, Accept, Put, SortDrop, Settle}
use Rattle.flow_journal.specs.declared.entry.Why.{Why}
use Rattle.flow_journal.specs.declared.entry.Why.TheVariants.{Plain, Step, Late, Flush, Ring, Now}
use Rattle.flow_journal.specs.Setting.{Setting, Work, Watches, Saves, node, is_sorted, node_numbers, id_at}
use Rattle.flow_journal.specs.Pasts.{Past, frame}
use Rattle.flow_journal.specs.Turns.{offered_to}
use Rattle.flow_journal.specs.Ended.{now}
use Rattle.flow_journal.specs.Puts.{firings}
use Rattle.flow_journal.specs.Waiting.{waiting, Waiting, least_first}
use Rattle.flow_journal.specs.Rings.{ring}
use Rattle.queue_sort.specs.Sorting.{keeps_step}
use Rattle.flow_journal.specs.Breaks.{prev}

-- An offer to a child. It is answered by an Accept where the child's queue has room when its turn comes, and else by a Full.
abbrev pub offer : FrameName → ℕ → Entry
offer a c = Accept c a.maker a.index

abbrev pub emit : ℕ → Why → FrameName → Entry
emit v why a = Emit v a.maker a.index why

-- What of these goes out of the node, the least first, where before is the previous id: each while it keeps step or is late.
abbrev pub goes_out : Setting → ℕ → (before : ℤ) → (now : ℕ) → List Waiting → List Entry
goes_out s v before now [] = []
goes_out s v before now (w ∷ ws) =
    let more = goes_out s v (id_at s w.array.index) now ws in
    if keeps_step before (id_at s w.array.index) then emit v Step w.array ∷ more
    else if nat_lt (w.tick + (node s v).sort_time) now then emit v Late w.array ∷ more
    else []

-- a look at the sort list of the node: what of it goes out
abbrev pub look : Setting → ℕ → Past → List Entry
look s v P = goes_out s v (prev s v P) (now P) (least_first s (waiting s v P))

-- A result at a sorted node. It goes out where it keeps step, is dropped where the list was full, and waits else; then comes a look.
-- The list was before, and P has the result's Put already.
abbrev pub sorted_result : Setting → ℕ → FrameName → (before : List Waiting) → Past → List Entry
sorted_result s v a before P =
    if keeps_step (prev s v P) (id_at s a.index) then emit v Step a ∷ goes_out s v (id_at s a.index) (now P) (least_first s before)
    else if length before == (node s v).sort then SortDrop v a.maker a.index ∷ goes_out s v (prev s v P) (now P) (least_first s before)
    else look s v P

-- A result at a circular node, after puts with these flags and with this ring: the ring goes out where the new position is a counted
-- trigger, and then the array where a window of the firings so far, this one included, has its position.
abbrev pub watched_result : (pre post preset : ℕ) → ℕ → FrameName → Bool → (ring : List FrameName) → (flags : List Bool) → List Entry
watched_result pre post preset v a fired ring flags =
    (if is_trigger post preset (flags ++ fired ∷ []) (length flags) then map (emit v Ring) ring else [])
    ++ (if is_passed pre post preset (flags ++ fired ∷ []) (length flags) then emit v Now a ∷ [] else [])

-- what the result a that is put at v after P calls for
abbrev pub result : Setting → ℕ → FrameName → Bool → Past → Work → List Entry
result s v a f P (Watches pre post preset) = watched_result pre post preset v a f (ring s v P) (firings v P)
result s v a f P (Saves whole_groups count) = []
result s v a f P _ =
    if is_sorted s v then sorted_result s v a (waiting s v P) (Put 0 v a.maker a.index f ∷ P) else emit v Plain a ∷ []

-- what e calls for, where P is what came before it
abbrev pub calls_for : Setting → Past → Entry → List Entry
-- any Tick that is at least the one kept
calls_for s P (Load r k b n f g x) = Tick (now P) ∷ []
calls_for s P (LoadRefused r k n h) = Tick (now P) ∷ []
-- a look at each sorted node
calls_for s P (Tick t) = flat_map (λ v. if is_sorted s v then look s v (Tick t ∷ P) else []) (node_numbers s)
calls_for s P (Issue r k) = emit 0 Plain (frame 0 k) ∷ []
-- an offer to each child, or by a node that deals to one
calls_for s P (Emit v m k why) = map (offer (frame m k)) (offered_to s P v)
calls_for s P (Put r v m k f) = result s v (frame m k) f P (node s v).work
-- all that waits, the least first
calls_for s P (Settle r v) = map (λ w. emit v Flush w.array) (least_first s (waiting s v P))
calls_for s P _ = []

-- what must still follow: what the newest entry calls for, and then the rest of what was called for before it
abbrev pub owed : Setting → Past → List Entry
owed s [] = []
owed s (e ∷ P) = calls_for s P e ++ drop 1 (owed s P)
