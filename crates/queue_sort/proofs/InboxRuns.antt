-- First in, first out, by induction on the list of calls.
use Rattle.std.proofs.Common.{◌≡◌, Bool, true, false, if◌then◌else◌, List, [], ◌∷◌, ◌++◌, refl, sym, ap, ◌∙◌, append_assoc}
use Rattle.std.proofs.lemmas.List.{append-nil, take-append-drop}
use Rattle.queue_sort.specs.Inboxes.{InboxState, is_full, with_last}
use Rattle.queue_sort.specs.InboxRuns.{Call, Offer, Pop, after, accepted, taken, after_all, all_accepted, all_taken}

offered : {T : Type 0} (b : InboxState T) (item : T) (full : Bool) → (if full then b else with_last b item).items ≡ b.items ++ (if full then [] else item ∷ [])
offered b item true = sym (append-nil b.items)
offered b item false = refl

-- a call adds what it accepts at the end, and takes from the front
in_turn-after : {T : Type 0} (b : InboxState T) (c : Call T) → taken b c ++ (after b c).items ≡ b.items ++ accepted b c
in_turn-after b (Offer item) = offered b item (is_full b)
in_turn-after b Pop = take-append-drop 1 b.items ∙ sym (append-nil b.items)

pub in_turn-all : {T : Type 0} (b : InboxState T) (calls : List (Call T)) → all_taken b calls ++ (after_all b calls).items ≡ b.items ++ all_accepted b calls
in_turn-all b [] = sym (append-nil b.items)
in_turn-all b (c ∷ calls) =
    let t = after b c in
    append_assoc (taken b c) (all_taken t calls) (after_all t calls).items
    ∙ ap (λ xs. taken b c ++ xs) (in_turn-all t calls)
    ∙ sym (append_assoc (taken b c) t.items (all_accepted t calls))
    ∙ ap (λ xs. xs ++ all_accepted t calls) (in_turn-after b c)
    ∙ append_assoc b.items (accepted b c) (all_accepted t calls)
