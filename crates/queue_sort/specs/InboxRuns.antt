-- What any list of offers and pops on an inbox comes to.
use Rattle.std.specs.Prelude.{◌≡◌, if◌then◌else◌, List, [], ◌∷◌, ◌++◌, take}
use Rattle.queue_sort.specs.Inboxes.{InboxState, is_full, with_last, without_front}

-- an offer of an item, or a pop
pub data Call (T : Type 0) : Type 0 where
  Offer : T → Call T
  Pop : Call T

-- an inbox after a call
abbrev pub after : {T : Type 0} → InboxState T → Call T → InboxState T
after b (Offer item) = if is_full b then b else with_last b item
after b Pop = without_front b

-- what a call puts in
abbrev pub accepted : {T : Type 0} → InboxState T → Call T → List T
accepted b (Offer item) = if is_full b then [] else item ∷ []
accepted b Pop = []

-- what a call takes out
abbrev pub taken : {T : Type 0} → InboxState T → Call T → List T
taken b (Offer item) = []
taken b Pop = take 1 b.items

-- the same over a list of calls
abbrev pub after_all : {T : Type 0} → InboxState T → List (Call T) → InboxState T
after_all b [] = b
after_all b (c ∷ calls) = after_all (after b c) calls

abbrev pub all_accepted : {T : Type 0} → InboxState T → List (Call T) → List T
all_accepted b [] = []
all_accepted b (c ∷ calls) = accepted b c ++ all_accepted (after b c) calls

abbrev pub all_taken : {T : Type 0} → InboxState T → List (Call T) → List T
all_taken b [] = []
all_taken b (c ∷ calls) = taken b c ++ all_taken (after b c) calls

-- first in, first out: what is taken out, and then what is left, are what was here and then what was accepted
abbrev pub Queues : {T : Type 0} → InboxState T → List (Call T) → Type 0
Queues b calls = all_taken b calls ++ (after_all b calls).items ≡ b.items ++ all_accepted b calls
