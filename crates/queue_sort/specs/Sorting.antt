-- A sort list, and what its calls make of it.
use Rattle.std.specs.Prelude.{ℕ, ◌+◌, ◌-◌, ◌^◌, ◌≤◌, min, ℤ, pos, ◌+ℤ◌, int_lt, int_le, Bool, ◌||◌, nat_le, nat_lt, if◌then◌else◌, List, [], ◌∷◌, length}
use Rattle.std.specs.Prelude.{take, drop, ◌≡◌}
use Rattle.std.specs.List.{filter}
use Rattle.std.specs.Ordering.{int_eq}
use Rattle.queue_sort.specs.declared.sort_lists.Waiting.{Waiting}
use Rattle.queue_sort.specs.ById.{AreById, placed_by}

-- how many may wait, the previous id, the breaks so far, and what waits, the least first
pub record SortState (T : Type 0) : Type 0 where
  pub size : ℕ
  pub last : ℤ
  pub disordered : ℕ
  pub waiting : List (Waiting T)

-- an id keeps step with the previous one where it is that one or the next
abbrev pub keeps_step : ℤ → ℤ → Bool
keeps_step last id = int_eq id last || int_eq id (last +ℤ pos 1)

-- as many wait as may
abbrev pub is_full : {T : Type 0} → SortState T → Bool
is_full s = nat_le s.size (length s.waiting)

-- the id of one that waits
abbrev pub id_of : {T : Type 0} → Waiting T → ℤ
id_of w = w.id

-- what may wait in a list of this size: no more than that, in the order of ids
pub record IsWaitingList {T : Type 0} (size : ℕ) (ws : List (Waiting T)) : Type 0 where
  pub by_id : AreById id_of ws
  pub within : length ws ≤ size

-- one more, up to the greatest count of 64 bits
abbrev pub one_more : ℕ → ℕ
one_more n = min (n + 1) (2 ^ 64 - 1)

-- an id goes out: it is the previous one from now on, and a break where it kept no step
abbrev pub emitted : {T : Type 0} → SortState T → ℤ → SortState T
emitted s id = record s { last = id; disordered = if keeps_step s.last id then s.disordered else one_more s.disordered }

-- with one more at the place of its id
abbrev pub placed : {T : Type 0} → Waiting T → List (Waiting T) → List (Waiting T)
placed w ws = placed_by id_of w ws

-- the place behind those whose id is at most this one
pub record IsPlaceOf {T : Type 0} (id : ℤ) (ws : List (Waiting T)) (place : ℕ) : Type 0 where
  pub before : take place ws ≡ filter (λ v. int_le v.id id) ws
  pub after : drop place ws ≡ filter (λ v. int_lt id v.id) ws
  pub within : place ≤ length ws

-- after a put: an id that keeps step goes out, and any other one waits where there is room
abbrev pub after_put : {T : Type 0} → SortState T → Waiting T → SortState T
after_put s w = if keeps_step s.last w.id then emitted s w.id else if is_full s then s else record s { waiting = placed w s.waiting }

-- after the least one went out, where any waits
abbrev pub without_least : {T : Type 0} → SortState T → List (Waiting T) → SortState T
without_least s [] = s
without_least s (w ∷ ws) = record (emitted s w.id) { waiting = ws }

abbrev pub let_out : {T : Type 0} → SortState T → SortState T
let_out s = without_least s s.waiting

-- has waited for longer than the sort time
abbrev pub is_late : {T : Type 0} → (now sort_time : ℕ) → Waiting T → Bool
is_late now sort_time w = nat_lt sort_time (now - w.tick)
