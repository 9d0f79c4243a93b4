-- What stands against a call, as code reads it of a node and its rules.
use Rattle.std.proofs.Common.{◌≡◌, ◌≤◌, ◌<◌, ◌∙◌, ℕ, ◌+◌, true, false, Bool, List, [], ◌∷◌, Option, Some, length, filter, refl, ap, subst, ltb, arith, inl, inr}
use Rattle.std.specs.Prelude.{slice_get}
use Rattle.std.specs.List.{list_any}
use Rattle.std.proofs.lemmas.Bool.{cases_Bool, lt-ltb}
use Rattle.nd_base.specs.declared.frame.FrameName.{FrameName}
use Rattle.nd_base.specs.declared.measure.Measure.{Measure}
use Rattle.queue_sort.specs.Inboxes.{InboxState}
use Rattle.flow_journal.specs.Setting.{Setting, node}
use Rattle.flow_journal.specs.Pasts.{Past, same}
use Rattle.flow_journal.specs.Hands.{hands, is_piece}
use Rattle.flow_journal.specs.Queued.{queued}
use Rattle.flow_journal.specs.FirstEntries.{is_next}
use Rattle.flow_journal.specs.Finished.{none_left}
use Rattle.flow_journal.proofs.Steps.{same_refl}
use Rattle.course_parts.specs.declared.node.NodeState.{NodeState}
use Rattle.course_parts.specs.NodeStates.{IsNode}

abbrev pub Measuring : Type 0
Measuring = ℕ → FrameName → Option Measure

-- LISTS
pub some-there : {X : Type 0} (xs : List X) → none_left xs ≡ false → 0 < length xs
some-there [] h = cc
some-there (x ∷ xs) h = omega arith

pub first-next : (xs : List FrameName) (a : FrameName) → slice_get xs 0 ≡ Some a → is_next a xs ≡ true
first-next [] a h = cc
first-next (x ∷ xs) a h = let e : x ≡ a = cc in subst (λ b. same x b ≡ true) e (same_refl x)

any-some : {X : Type 0} (p : X → Bool) (xs : List X) → ltb 0 (length (filter p xs)) ≡ list_any p xs
any-some p [] = refl
any-some p (x ∷ xs) = elim (cases_Bool (p x)) [
  | inl yes_ ↦ rw yes_ (lt-ltb 0 (length (x ∷ filter p xs)) (omega arith))
  | inr no_ ↦ rw no_ (any-some p xs)
]

-- QUEUES
pub queue-items : (measure : Measuring) (s : Setting) (v : ℕ) (P : Past) (n : NodeState) → IsNode measure s v P n → n.inbox.items ≡ queued v P
queue-items measure s v P n i = ap (λ (b : InboxState FrameName). b.items) i.inbox

pub queue-fits : (measure : Measuring) (s : Setting) (v : ℕ) (P : Past) (n : NodeState) → IsNode measure s v P n
    → length n.inbox.items ≤ n.inbox.size + n.inbox.extra
queue-fits measure s v P n i =
    let size : n.inbox.size ≡ (node s v).queue = ap (λ (b : InboxState FrameName). b.size) i.inbox in
    let extra : n.inbox.extra ≡ (node s v).threads = ap (λ (b : InboxState FrameName). b.extra) i.inbox in
    omega (arith, i.fits, size, extra, ap length (queue-items measure s v P n i))

-- PIECES
pub saving-read : (measure : Measuring) (s : Setting) (v : ℕ) (P : Past) (n : NodeState) → IsNode measure s v P n → n.saving ≡ list_any (is_piece v) (hands P)
saving-read measure s v P n i = i.saving ∙ any-some (is_piece v) (hands P)
