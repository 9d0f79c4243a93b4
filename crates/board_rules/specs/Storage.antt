-- When the storage of a block is at home: by the entries, and by what stayed away when hands were taken back.
use Rattle.std.specs.Prelude.{◌≡◌, ℕ, ◌+◌, ◌-◌, ◌^◌, ◌==◌, Bool, true, false, ◌&&◌, ◌||◌, not, List, [], ◌∷◌, ◌++◌, length, filter, Option, Some, None}
use Rattle.std.specs.Prelude.{is_some, if◌then◌else◌}
use Rattle.std.specs.List.{list_any}
use Rattle.nd_base.specs.declared.frame.FrameName.{FrameName}
use Rattle.nd_base.specs.Parts.{Parts}
use Rattle.pool_ledger.specs.Grants.{Answer, Granted, Refused}
use Rattle.flow_journal.specs.declared.entry.Entry.{Entry}
use Rattle.flow_journal.specs.declared.entry.Entry.TheVariants.{Load, Take, TakeBlock, Save}
use Rattle.flow_journal.specs.Pasts.{Past, frame, same}
use Rattle.flow_journal.specs.EntryTests.{says_regrown}
use Rattle.flow_journal.specs.Hands.{hands}
use Rattle.flow_journal.specs.Accounts.{block_of}
use Rattle.board_rules.specs.declared.answers.Left.{Left}
use Rattle.board_rules.specs.declared.told.Told.{Told}
use Rattle.board_rules.specs.States.{BoardState, past}
use Rattle.board_rules.specs.InHand.{granted_block, TellParts}

abbrev pub is_among : ℕ → List ℕ → Bool
is_among b bs = list_any (λ c. c == b) bs

-- the entry grants the block
abbrev pub grants : ℕ → Entry → Bool
grants b (Load r k c n f g x) = c == b
grants b (TakeBlock f x r v m k c n g) = c == b
grants b _ = false

-- since the last grant of the block, something of it stayed away
abbrev pub is_away : ℕ → BoardState → Bool
is_away b [] = false
is_away b (t ∷ ts) = if grants b t.entry then false else is_among b t.lost || is_away b ts

-- the grant wants new storage: for a new block, or for one whose storage isn't at home
abbrev pub wants_storage : BoardState → Answer → Bool
wants_storage b Refused = false
wants_storage b (Granted block size fresh given) = fresh || is_away block b

-- The storage of a block that isn't new was made anew: where frames tell their parts, exactly where it wasn't at home.
abbrev pub IsRegrown : {F : Type 0} → (F → Option Parts) → BoardState → (block : ℕ) → (fresh regrown : Bool) → Type 0
IsRegrown parts b block fresh regrown = ((regrown && fresh) ≡ false) × (TellParts parts → regrown ≡ (not fresh && is_away block b))

-- WHAT STAYS AWAY

-- the part of this array came back
abbrev pub brings : {F : Type 0} → (F → FrameName) → FrameName → Option F → Bool
brings name_of a None = false
brings name_of a (Some f) = same (name_of f) a

-- the block of this array, where its part didn't come back
abbrev pub part_lost : {F : Type 0} → (F → FrameName) → Past → FrameName → Option F → List ℕ
part_lost name_of P a input = if brings name_of a input then [] else block_of P a

-- the block that was granted with the hand, where neither its storage nor a frame on it came back
abbrev pub grant_lost : {F B O : Type 0} → Option Entry → Left F B O → List ℕ
grant_lost h left = if is_some left.made || is_some left.blank then [] else granted_block h

-- the blocks of the hand of which something stayed away
abbrev pub lost_of : {F B O : Type 0} → (F → FrameName) → Past → Option Entry → Left F B O → List ℕ
lost_of name_of P (Some (Take r v m k)) left = part_lost name_of P (frame m k) left.input
lost_of name_of P (Some (TakeBlock f x r v m k b n g)) left =
    grant_lost (Some (TakeBlock f x r v m k b n g)) left ++ part_lost name_of P (frame m k) left.input
lost_of name_of P (Some (Save r v m k g)) left = part_lost name_of P (frame m k) left.input
lost_of name_of P h left = grant_lost h left

-- PARTS THAT ARE HERE

-- the hand has a part of the block
abbrev pub has_part : Past → ℕ → Entry → Bool
has_part P b (Take r v m k) = is_among b (block_of P (frame m k))
has_part P b (TakeBlock f x r v m k c n g) = is_among b (block_of P (frame m k))
has_part P b (Save r v m k g) = is_among b (block_of P (frame m k))
has_part P b _ = false

-- how many parts of the block are in hands
abbrev pub parts_in_hand : Past → ℕ → ℕ
parts_in_hand P b = length (filter (has_part P b) (hands P))

-- how many stayed away since its last grant
abbrev pub parts_away : ℕ → BoardState → ℕ
parts_away b [] = 0
parts_away b (t ∷ ts) = if grants b t.entry then 0 else length (filter (λ c. c == b) t.lost) + parts_away b ts

-- how many parts of a frame on the block the board keeps: once no hand has one, all but those that stayed away
abbrev pub parts_here : BoardState → ℕ → ℕ
parts_here b block = 2 ^ 32 - (parts_in_hand (past b) block + parts_away block b)

-- NOTHING STAYED AWAY

-- no grant says that its storage was made anew
abbrev pub is_never_regrown : Past → Bool
is_never_regrown P = not (list_any says_regrown P)

abbrev pub is_some_lost : List ℕ → Bool
is_some_lost [] = false
is_some_lost (b ∷ bs) = true

-- at some Reclaim something stayed away
abbrev pub has_lost : BoardState → Bool
has_lost [] = false
has_lost (t ∷ b) = is_some_lost t.lost || has_lost b

-- Nothing stayed away, and, where frames tell their parts, no storage was made anew.
abbrev pub HasAllStorage : {F : Type 0} → (F → Option Parts) → BoardState → Type 0
HasAllStorage parts b = (has_lost b ≡ false) × (TellParts parts → is_never_regrown (past b) ≡ true)

-- so the entry leaves it: nothing stays away with it, and it makes no storage anew unless something had stayed away before
abbrev pub KeepsStorage : BoardState → Told → Type 0
KeepsStorage b t = (t.lost ≡ []) × (has_lost b ≡ false → says_regrown t.entry ≡ false)
