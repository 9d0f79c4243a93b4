-- What a put answers.
use Rattle.std.specs.Prelude.{ℤ, if◌then◌else◌, Result, Ok, Err}
use Rattle.queue_sort.specs.declared.sort_lists.Placed.{Placed}
use Rattle.queue_sort.specs.declared.sort_lists.Placed.TheVariants.{Out, Listed}
use Rattle.queue_sort.specs.declared.sort_lists.SortFull.{SortFull}
use Rattle.queue_sort.specs.Sorting.{SortState, keeps_step, is_full}

-- the item goes out where its id keeps step, else waits where there is room, and else comes back
abbrev pub put_answer : {T : Type 0} → SortState T → ℤ → T → Result (Placed T) (SortFull T)
put_answer s id item = if keeps_step s.last id then Ok (Out item) else if is_full s then Err (record { item = item }) else Ok Listed
