-- What any list of calls on a sort list comes to.
use Rattle.std.specs.Prelude.{◌≡◌, ℕ, ◌+◌, ◌^◌, ◌-◌, min, ℤ, ◌≤ℤ◌, ◌||◌, if◌then◌else◌, is_some, List, [], ◌∷◌, ◌++◌, map, take}
use Rattle.std.specs.List.{All}
use Rattle.queue_sort.specs.declared.sort_lists.Waiting.{Waiting}
use Rattle.queue_sort.specs.ById.{AreById, with_id}
use Rattle.queue_sort.specs.Sorting.{SortState, id_of, keeps_step, is_full, after_put, let_out}
use Rattle.queue_sort.specs.DueAnswers.{due_answer}

-- a put, a look at the least one at a time with a sort time, or a flush of the least one
pub data Call (T : Type 0) : Type 0 where
  Put : Waiting T → Call T
  Look : (now sort_time : ℕ) → Call T
  Flush : Call T

-- a list after a call
abbrev pub after : {T : Type 0} → SortState T → Call T → SortState T
after s (Put w) = after_put s w
after s (Look now sort_time) = if is_some (due_answer s now sort_time) then let_out s else s
after s Flush = let_out s

-- what a call puts in line: the one that keeps no step, where there is room
abbrev pub listed : {T : Type 0} → SortState T → Call T → List (Waiting T)
listed s (Put w) = if keeps_step s.last w.id || is_full s then [] else w ∷ []
listed s (Look now sort_time) = []
listed s Flush = []

-- what a call lets out of the line: the first, if any
abbrev pub let_go : {T : Type 0} → SortState T → Call T → List (Waiting T)
let_go s (Put w) = []
let_go s (Look now sort_time) = if is_some (due_answer s now sort_time) then take 1 s.waiting else []
let_go s Flush = take 1 s.waiting

-- the ids that go out at a call: those let out of the line, or that of a put that keeps step
abbrev pub ids_out : {T : Type 0} → SortState T → Call T → List ℤ
ids_out s (Put w) = if keeps_step s.last w.id then w.id ∷ [] else []
ids_out s (Look now sort_time) = map (λ w. w.id) (let_go s (Look now sort_time))
ids_out s Flush = map (λ w. w.id) (let_go s Flush)

-- the same over a list of calls
abbrev pub after_all : {T : Type 0} → SortState T → List (Call T) → SortState T
after_all s [] = s
after_all s (c ∷ calls) = after_all (after s c) calls

abbrev pub all_listed : {T : Type 0} → SortState T → List (Call T) → List (Waiting T)
all_listed s [] = []
all_listed s (c ∷ calls) = listed s c ++ all_listed (after s c) calls

abbrev pub all_let_go : {T : Type 0} → SortState T → List (Call T) → List (Waiting T)
all_let_go s [] = []
all_let_go s (c ∷ calls) = let_go s c ++ all_let_go (after s c) calls

abbrev pub all_ids_out : {T : Type 0} → SortState T → List (Call T) → List ℤ
all_ids_out s [] = []
all_ids_out s (c ∷ calls) = ids_out s c ++ all_ids_out (after s c) calls

-- how many of the ids, after a previous one, keep no step
abbrev pub breaks : ℤ → List ℤ → ℕ
breaks last [] = 0
breaks last (id ∷ ids) = (if keeps_step last id then 0 else 1) + breaks id ids

-- the last of the ids, or the one before them where there are none
abbrev pub last_out : ℤ → List ℤ → ℤ
last_out last [] = last
last_out last (id ∷ ids) = last_out id ids

-- a list in which nothing waits yet
abbrev pub fresh : {T : Type 0} → ℕ → ℤ → SortState T
fresh size last = record { size = size; last = last; disordered = 0; waiting = [] }

-- what holds after a list of calls on a fresh list
pub record Sorts {T : Type 0} (size : ℕ) (last : ℤ) (calls : List (Call T)) : Type 0 where
  -- what waits is in the order of ids
  pub by_id : AreById id_of (after_all (fresh size last) calls).waiting
  -- the items of each id leave in the order in which they came: those that left and then those that wait are those that were listed
  pub in_turn : (id : ℤ) → with_id id_of id (all_let_go (fresh size last) calls) ++ with_id id_of id (after_all (fresh size last) calls).waiting
      ≡ with_id id_of id (all_listed (fresh size last) calls)
  -- whatever call comes next, what it lets out has the least id of all that wait
  pub least : (c : Call T) → All (λ w. All (λ v. w.id ≤ℤ v.id) (after_all (fresh size last) calls).waiting) (let_go (after_all (fresh size last) calls) c)
  -- the previous id is the one that went out last
  pub previous : (after_all (fresh size last) calls).last ≡ last_out last (all_ids_out (fresh size last) calls)
  -- the count is that of the breaks, as far as it goes
  pub counted : (after_all (fresh size last) calls).disordered ≡ min (breaks last (all_ids_out (fresh size last) calls)) (2 ^ 64 - 1)
