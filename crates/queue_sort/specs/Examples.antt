-- Worked examples. An item is a number, ten times its id.
use Rattle.std.specs.Prelude.{◌≡◌, ℕ, ◌*◌, pos, refl, List, [], ◌∷◌, ◌-◌, ◌^◌, negsuc, false}
use Rattle.queue_sort.specs.Inboxes.{InboxState, with_front, without_front}
use Rattle.queue_sort.specs.Sorting.{keeps_step}
use Rattle.queue_sort.specs.Runs.{Call, Put, Look, Flush, fresh, after_all, all_ids_out}

-- a put of this id at tick 0
abbrev pub put : ℕ → Call ℕ
put id = Put (record { id = pos id; tick = 0; item = 10 * id })

-- a look with a sort time of 5
abbrev pub look_at : ℕ → Call ℕ
look_at now = Look now 5

-- 3, 1, 2 go out as 1, 2, 3
abbrev pub in_step : List (Call ℕ)
in_step = put 3 ∷ look_at 0 ∷ put 1 ∷ look_at 0 ∷ put 2 ∷ look_at 0 ∷ look_at 0 ∷ []

in_step-ids : all_ids_out (fresh 10 (pos 0)) in_step ≡ pos 1 ∷ pos 2 ∷ pos 3 ∷ []
in_step-ids = refl

in_step-after : after_all (fresh 10 (pos 0)) in_step ≡ record { size = 10; last = pos 3; disordered = 0; waiting = [] }
in_step-after = refl

-- 3 is not late at tick 5, and late at tick 6; 1 and 2 then wait for the flush
not_late : all_ids_out (fresh 10 (pos 0)) (put 3 ∷ look_at 5 ∷ []) ≡ []
not_late = refl

late : all_ids_out (fresh 10 (pos 0)) (put 3 ∷ look_at 5 ∷ look_at 6 ∷ put 1 ∷ put 2 ∷ Flush ∷ Flush ∷ Flush ∷ []) ≡ pos 3 ∷ pos 1 ∷ pos 2 ∷ []
late = refl

late-breaks : (after_all (fresh 10 (pos 0)) (put 3 ∷ look_at 6 ∷ put 1 ∷ put 2 ∷ Flush ∷ Flush ∷ [])).disordered ≡ 2
late-breaks = refl

-- in a list of size 1, 3 waits and 4 comes back
one_waits : after_all (fresh 1 (pos 0)) (put 3 ∷ put 4 ∷ put 1 ∷ put 2 ∷ look_at 0 ∷ []) ≡ record { size = 1; last = pos 3; disordered = 0; waiting = [] }
one_waits = refl

-- an id that comes again keeps step, and one that goes back does not
again : (after_all (fresh 10 (pos 4)) (put 5 ∷ put 5 ∷ put 6 ∷ [])).disordered ≡ 0
again = refl

back : (after_all (fresh 10 (pos 4)) (put 5 ∷ put 3 ∷ Flush ∷ [])).disordered ≡ 1
back = refl

-- of one id, what came first goes out first
abbrev pub twice : ℕ → Call ℕ
twice item = Put (record { id = pos 7; tick = 0; item = item })

ties : (after_all (fresh 10 (pos 0)) (twice 1 ∷ put 8 ∷ twice 2 ∷ Flush ∷ [])).waiting ≡ record { id = pos 7; tick = 0; item = 2 } ∷ record {
  id = pos 8;
  tick = 0;
  item = 80;
} ∷ []
ties = refl

-- an item that is put back is the front, and a pop leaves the rest
put_back : with_front {T = ℕ} (record { size = 1; extra = 1; items = 2 ∷ [] }) 1 ≡ record { size = 1; extra = 1; items = 1 ∷ 2 ∷ [] }
put_back = refl

popped : {T : Type 0} (b : InboxState T) (item : T) → without_front (with_front b item) ≡ b
popped b item = refl

-- no id comes after the greatest of 64 bits
ends : keeps_step (pos (2 ^ 63 - 1)) (negsuc (2 ^ 63 - 1)) ≡ false
ends = refl
