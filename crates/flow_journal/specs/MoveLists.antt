-- The moves of a log, cut by the kinds of its entries alone, and of which role each is.
use Rattle.std.specs.Prelude.{ℕ, ◌==◌, Bool, false, List, [], ◌∷◌, filter, reverse, Option, Some, None, if◌then◌else◌}
use Rattle.flow_journal.specs.declared.entry.Entry.{Entry}
use Rattle.flow_journal.specs.declared.entry.Entry.TheVariants.{Load, LoadRefused, Issue, Take, TakeBlock, PoolDrop, Put, Settle, Save, Saved, Close, Leave}
use Rattle.flow_journal.specs.declared.entry.Entry.TheVariants.{Reclaim}
use Rattle.flow_journal.specs.Pasts.{Past}
use Rattle.flow_journal.specs.RowLaws.{begins}

-- e and then these moves: the first of them goes on from e, unless its entry begins a move
abbrev pub joined : Entry → List (List Entry) → List (List Entry)
joined e [] = (e ∷ []) ∷ []
joined e ([] ∷ ms) = (e ∷ []) ∷ ms
joined e ((d ∷ m) ∷ ms) = if begins d then (e ∷ []) ∷ (d ∷ m) ∷ ms else (e ∷ d ∷ m) ∷ ms

-- these entries, the oldest first, cut before each that begins a move by its kind
abbrev pub cut : List Entry → List (List Entry)
cut [] = []
cut (e ∷ es) = joined e (cut es)

-- the moves of a log, the oldest first
abbrev pub moves : Past → List (List Entry)
moves P = cut (reverse P)

-- the role that an entry which begins a move names
abbrev pub begun_by : Entry → Option ℕ
begun_by (Load r k b n f g x) = Some r
begun_by (LoadRefused r k n h) = Some r
begun_by (Issue r k) = Some r
begun_by (Take r v m k) = Some r
begun_by (TakeBlock f x r v m k b n g) = Some r
begun_by (PoolDrop r v m k n h) = Some r
begun_by (Put r v m k f) = Some r
begun_by (Settle r v) = Some r
begun_by (Save r v m k g) = Some r
begun_by (Saved r v m k) = Some r
begun_by (Close r) = Some r
begun_by (Leave r) = Some r
begun_by (Reclaim r) = Some r
begun_by _ = None

abbrev pub is_some_of : ℕ → Option ℕ → Bool
is_some_of r None = false
is_some_of r (Some q) = q == r

-- the entry names this role
abbrev pub names : ℕ → Entry → Bool
names r e = is_some_of r (begun_by e)

-- the role of a move is that of its first entry
abbrev pub move_role : List Entry → Option ℕ
move_role [] = None
move_role (e ∷ es) = begun_by e

-- the moves of a role, in order
abbrev pub role_moves : ℕ → Past → List (List Entry)
role_moves r P = filter (λ m. is_some_of r (move_role m)) (moves P)
