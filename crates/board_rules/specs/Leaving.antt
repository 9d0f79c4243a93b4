-- What the calls of a role that ends answer: leave, and reclaim, which takes back what it had in hand.
use Rattle.std.specs.Prelude.{◌≡◌, ℕ, ◌==◌, ◌||◌, Option, Some, None, Result, Ok, Err, IsTrue, if◌then◌else◌}
use Rattle.nd_base.specs.declared.frame.FrameName.{FrameName}
use Rattle.nd_base.specs.Parts.{Parts}
use Rattle.flow_journal.specs.declared.entry.Entry.TheVariants as entry
use Rattle.flow_journal.specs.Setting.{Setting, last_role}
use Rattle.flow_journal.specs.Pasts.{Past}
use Rattle.flow_journal.specs.Hands.{hand, is_free}
use Rattle.flow_journal.specs.Ended.{has_left, was_reclaimed}
use Rattle.board_rules.specs.declared.answers.Left.{Left}
use Rattle.board_rules.specs.declared.answers.NoWhy.{NoWhy}
use Rattle.board_rules.specs.declared.answers.NoWhy.TheVariants.{NoHand, Spent}
use Rattle.board_rules.specs.declared.answers.NoReclaim.{NoReclaim}
use Rattle.board_rules.specs.States.{BoardState, past, plain, loses, lent_to}
use Rattle.board_rules.specs.Moving.{moved}
use Rattle.board_rules.specs.InHand.{has_part_of, has_grant, granted_size, IsWholeOf, OfSome, TellParts}
use Rattle.board_rules.specs.Storage.{lost_of}

-- the role has left from the first time on
abbrev pub LeaveGives : Setting → BoardState → (r : ℕ) → BoardState → Type 0
LeaveGives s old r new = new ≡ (if has_left r (past old) then old else moved s (plain (entry.Leave r)) old)

-- what stands against a reclaim, in the order of the tests
abbrev pub reclaim_refusal : Setting → ℕ → Past → Option NoWhy
reclaim_refusal s r P =
    if is_free r P then Some NoHand
    else if was_reclaimed r P || (r == last_role s) then Some Spent
    else None

-- Where the call takes it: an input of the hand's array is what the role was lent; where a block was granted with the hand, a made frame
-- stands whole on that size, and a blank has it.
abbrev pub MayReclaim : {F B O : Type 0} → (F → FrameName) → (F → Option Parts) → (B → ℕ) → Setting → BoardState → (r : ℕ) → Left F B O → Type 0
MayReclaim name_of parts bytes_of s b r left =
    reclaim_refusal s r (past b) ≡ None
    → OfSome (λ f. IsTrue (has_part_of (name_of f) (hand r (past b))) → parts f ≡ lent_to r b) left.input
    × OfSome (λ f. IsTrue (has_grant (hand r (past b))) → IsWholeOf (granted_size (hand r (past b))) (parts f)) left.made
    × OfSome (λ k. TellParts parts → IsTrue (has_grant (hand r (past b))) → bytes_of k ≡ granted_size (hand r (past b))) left.blank

-- The hand is taken back, and beside the entry stands what of its blocks stayed away; else all comes back, and nothing changed. By the
-- history a job's array is the next one of its queue again, a piece the first unsaved one, and a loaded frame the next to be offered.
abbrev pub ReclaimGives : {F B O E : Type 0} → (F → FrameName) → Setting → BoardState → (r : ℕ) → Left F B O → Result E (NoReclaim F B O) → BoardState → Type 0
ReclaimGives name_of s old r left (Ok _) new =
    (reclaim_refusal s r (past old) ≡ None) × (new ≡ moved s (loses r (lost_of name_of (past old) (hand r (past old)) left)) old)
ReclaimGives name_of s old r left (Err e) new =
    (reclaim_refusal s r (past old) ≡ Some e.why) × (e ≡ record { why = e.why; back = left }) × (new ≡ old)
