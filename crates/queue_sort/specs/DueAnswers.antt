-- What goes out when the least one is looked at.
use Rattle.std.specs.Prelude.{ℕ, ℤ, true, false, if◌then◌else◌, List, [], ◌∷◌, Option, Some, None}
use Rattle.queue_sort.specs.declared.sort_lists.Waiting.{Waiting}
use Rattle.queue_sort.specs.declared.sort_lists.Due.{Due}
use Rattle.queue_sort.specs.Sorting.{SortState, keeps_step, is_late}

-- the first, where it keeps step, or else where it is late
abbrev pub due_first : {T : Type 0} → (last : ℤ) (now sort_time : ℕ) → List (Waiting T) → Option (Due T)
due_first last now sort_time [] = None
due_first last now sort_time (w ∷ ws) =
    if keeps_step last w.id then Some (record { id = w.id; item = w.item; late = false })
    else if is_late now sort_time w then Some (record { id = w.id; item = w.item; late = true })
    else None

-- the least one, where it keeps step, or else where it is late
abbrev pub due_answer : {T : Type 0} → SortState T → (now sort_time : ℕ) → Option (Due T)
due_answer s now sort_time = due_first s.last now sort_time s.waiting
