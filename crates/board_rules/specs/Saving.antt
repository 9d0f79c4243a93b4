-- What the calls that save answer, and what they log.
use Rattle.std.specs.Prelude.{◌≡◌, ℕ, ◌+◌, ◌*◌, ◌-◌, ◌/◌, ◌%◌, Bool, false, ◌&&◌, ◌||◌, not, nat_le, length, Option, Some, None, Result, Ok, Err, IsTrue}
use Rattle.std.specs.Prelude.{if◌then◌else◌}
use Rattle.std.specs.List.{list_any}
use Rattle.nd_base.specs.declared.frame.FrameName.{FrameName}
use Rattle.nd_base.specs.Parts.{Parts}
use Rattle.flow_journal.specs.declared.entry.Entry.TheVariants as entry
use Rattle.flow_journal.specs.Setting.{Setting, Work, Saves, node}
use Rattle.flow_journal.specs.Pasts.{Past}
use Rattle.flow_journal.specs.Hands.{hands, hand, is_free, is_piece}
use Rattle.flow_journal.specs.Ended.{is_settled}
use Rattle.flow_journal.specs.Puts.{puts}
use Rattle.flow_journal.specs.Unsaved.{unsaved, standing_saves, group_of, is_due}
use Rattle.flow_journal.specs.FirstEntries.{is_next}
use Rattle.flow_journal.specs.Finished.{none_left}
use Rattle.board_rules.specs.declared.answers.Save.{Save}
use Rattle.board_rules.specs.declared.answers.Save.TheVariants.{Busy, NotYet, OutOfMemory, Piece}
use Rattle.board_rules.specs.declared.answers.NotYours.{NotYours}
use Rattle.board_rules.specs.States.{BoardState, past, plain, lends, lent_to}
use Rattle.board_rules.specs.Moving.{moved}
use Rattle.board_rules.specs.InHand.{at, hand_name, hand_node, is_piece_on, IsOnePart, TellParts, just}

-- the next unsaved array is there and due; no node but a file node has any
abbrev pub has_due : Setting → ℕ → Past → Bool
has_due s v P = not (none_left (unsaved s v P)) && is_due (node s v).work v P

-- what stands against a save, in the order of the tests
abbrev pub save_refusal : {F : Type 0} → Setting → (r v : ℕ) → Past → Option (Save F)
save_refusal s r v P =
    if not (is_free r P) then Some Busy
    else if not (has_due s v P) || list_any (is_piece v) (hands P) then Some NotYet
    else None

-- the place in its group of the piece after n others
abbrev pub place_of : Work → ℕ → ℕ
place_of (Saves whole_groups count) n = n % count
place_of _ n = 0

-- the last array of the group of the piece after n others was put
abbrev pub is_whole_group : (count n put : ℕ) → Bool
is_whole_group count n put = nat_le ((n / count + 1) * count) put

-- how many arrays that group has: count once the last one was put, else those that were put, once the node is settled
abbrev pub size_of_group : (count n : ℕ) → (settled : Bool) → (put : ℕ) → Option ℕ
size_of_group count n settled put =
    if is_whole_group count n put then Some count else if settled then Some (put - n / count * count) else None

abbrev pub group_size : Work → (n : ℕ) → (settled : Bool) → (put : ℕ) → Option ℕ
group_size (Saves whole_groups count) n settled put = size_of_group count n settled put
group_size _ n settled put = None

-- With no refusal the next unsaved array goes out as a piece, with its group, its place there, and the group's size once that is known.
abbrev pub SaveAnswers : {F : Type 0} → (F → FrameName) → (F → Option Parts) → Setting → BoardState → (r v : ℕ) → Option (Save F) → Save F → BoardState → Type 0
SaveAnswers name_of parts s old r v (Some refusal) answer new = (answer ≡ refusal) × (new ≡ old)
SaveAnswers name_of parts s old r v None OutOfMemory new = (TellParts parts → ⊥) × (new ≡ old)
SaveAnswers name_of parts s old r v None (Piece input group place of) new =
    IsTrue (is_next (name_of input) (unsaved s v (past old))) × IsOnePart (parts input)
    × (group ≡ group_of (node s v).work (length (standing_saves v (past old))))
    × (place ≡ place_of (node s v).work (length (standing_saves v (past old))))
    × (of ≡ group_size (node s v).work (length (standing_saves v (past old))) (is_settled v (past old)) (length (puts v (past old))))
    × (new ≡ moved s (lends (entry.Save r v (name_of input).maker (name_of input).index group) (parts input)) old)
SaveAnswers name_of parts s old r v None _ new = ⊥

-- The refusal, where one stands, and nothing changed; else a part of the next unsaved array. Want of memory comes only where frames don't
-- tell their parts, and changes nothing.
abbrev pub SaveGives : {F : Type 0} → (F → FrameName) → (F → Option Parts) → Setting → BoardState → (r v : ℕ) → Save F → BoardState → Type 0
SaveGives name_of parts s old r v answer new = SaveAnswers name_of parts s old r v (save_refusal s r v (past old)) answer new

-- the part of a piece is what the role was lent
abbrev pub LendsPiece : {F : Type 0} → (F → Option Parts) → (r : ℕ) → Save F → BoardState → Type 0
LendsPiece parts r (Piece input group place of) new = lent_to r new ≡ parts input
LendsPiece parts r _ new = Unit {0}

-- where the call takes it, what comes back is what the role was lent
abbrev pub MaySaved : {F : Type 0} → (F → FrameName) → (F → Option Parts) → BoardState → (r : ℕ) → F → Type 0
MaySaved name_of parts b r f = IsTrue (is_piece_on (name_of f) (hand r (past b))) → parts f ≡ lent_to r b

-- saved where the hand of the role is a piece of this array; else the frame comes back, and nothing changed
abbrev pub SavedGives : {F E : Type 0} → (F → FrameName) → Setting → BoardState → (r : ℕ) → F → Result E (NotYours F) → BoardState → Type 0
SavedGives name_of s old r f (Ok _) new =
    IsTrue (is_piece_on (name_of f) (hand r (past old)))
    × (new ≡ moved s (plain (entry.Saved r (hand_node (hand r (past old))) (name_of f).maker (name_of f).index)) old)
SavedGives name_of s old r f (Err e) new =
    (is_piece_on (name_of f) (hand r (past old)) ≡ false)
    × (e ≡ record {
      kept = hand_name (hand r (past old));
      given = at (hand_node (hand r (past old))) (name_of f);
      back = just (hand_node (hand r (past old))) f;
    })
    × (new ≡ old)
