-- The block of an array that is next at a place, of all in a ring, and of that of a hand.
use Rattle.std.proofs.Common.{◌≡◌, ◌∙◌, ℕ, true, false, Bool, List, [], ◌∷◌, Some, sym, ap, arith}
use Rattle.std.specs.List.{All}
use Rattle.std.proofs.lemmas.List.Elements.{All-cons, All-nil}
use Rattle.nd_base.specs.declared.frame.FrameName.{FrameName}
use Rattle.flow_journal.specs.declared.entry.Entry.{Entry}
use Rattle.flow_journal.specs.Setting.{Setting}
use Rattle.flow_journal.specs.Pasts.{Past}
use Rattle.flow_journal.specs.Hands.{hand}
use Rattle.flow_journal.specs.Queued.{queued}
use Rattle.flow_journal.specs.Waiting.{Waiting, waiting, least_first}
use Rattle.flow_journal.specs.Rings.{ring}
use Rattle.flow_journal.specs.Histories.{is_legal}
use Rattle.flow_journal.proofs.EntryCounts.{count, count-cons}
use Rattle.flow_journal.proofs.Outs.{waits, count-least_first}
use Rattle.flow_journal.proofs.Travels.{holds, bit-none, hand-clear}
use Rattle.flow_journal.specs.Having.{HasBlock}
use Rattle.flow_journal.proofs.Blockless.{is_blockless, none_blockless, one-block}

first-clear : (t : FrameName → Bool) (a : FrameName) (rest xs : List FrameName) → xs ≡ a ∷ rest → count t xs ≡ 0 → t a ≡ false
first-clear t a rest xs is none = bit-none (t a) (omega (arith, ap (count t) is, count-cons t a rest, none))

all-blocks : (P : Past) (xs : List FrameName) → count (is_blockless P) xs ≡ 0 → All (HasBlock P) xs
all-blocks P [] none = All-nil (HasBlock P)
all-blocks P (a ∷ xs) none =
    let split = count-cons (is_blockless P) a xs in
    All-cons (HasBlock P) a xs (one-block P a (bit-none (is_blockless P a) (omega (arith, split, none)))) (all-blocks P xs (omega (arith, split, none)))

pub queued-block : (s : Setting) (v : ℕ) (P : Past) (a : FrameName) (rest : List FrameName) → is_legal s P ≡ true → queued v P ≡ a ∷ rest → HasBlock P a
queued-block s v P a rest legal is = one-block P a (first-clear (is_blockless P) a rest (queued v P) is ((none_blockless s P legal).queues v))

pub waiting-block : (s : Setting) (v : ℕ) (P : Past) (w : Waiting) (rest : List Waiting) → is_legal s P ≡ true
    → least_first s (waiting s v P) ≡ w ∷ rest → HasBlock P w.array
waiting-block s v P w rest legal is =
    let t = waits (is_blockless P) in
    let none : count t (w ∷ rest) ≡ 0 = sym (ap (count t) is) ∙ (count-least_first s t (waiting s v P) ∙ (none_blockless s P legal).lists v) in
    one-block P w.array (bit-none (is_blockless P w.array) (omega (arith, none, count-cons t w rest)))

pub ring-blocks : (s : Setting) (v : ℕ) (P : Past) → is_legal s P ≡ true → All (HasBlock P) (ring s v P)
ring-blocks s v P legal = all-blocks P (ring s v P) ((none_blockless s P legal).rings v)

-- the array of a hand
pub hand-block : (s : Setting) (r : ℕ) (e : Entry) (a : FrameName) (P : Past) → is_legal s P ≡ true → hand r P ≡ Some e
    → (holds (is_blockless P) e ≡ false → is_blockless P a ≡ false) → HasBlock P a
hand-block s r e a P legal held of = one-block P a (of (hand-clear (holds (is_blockless P)) r e P held ((none_blockless s P legal).roles)))
