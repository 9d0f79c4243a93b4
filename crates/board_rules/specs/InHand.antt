-- What a role has in hand, by the log, and what may come back of it.
use Rattle.std.specs.Prelude.{◌≡◌, ◌^◌, IsSome, IsNone, ℕ, ◌==◌, Bool, true, false, ◌&&◌, List, [], ◌∷◌, Option, Some, None}
use Rattle.nd_base.specs.declared.frame.FrameName.{FrameName}
use Rattle.nd_base.specs.Parts.{Parts}
use Rattle.flow_journal.specs.declared.entry.Entry.{Entry}
use Rattle.flow_journal.specs.declared.entry.Entry.TheVariants as entry
use Rattle.flow_journal.specs.Pasts.{frame, same}
use Rattle.board_rules.specs.declared.answers.HandName.{HandName}
use Rattle.board_rules.specs.declared.answers.Done.{Done}

-- an array at a node
abbrev pub at : ℕ → FrameName → HandName
at v a = record { node = v; name = a }

-- the array of a hand, and its node
abbrev pub hand_name : Option Entry → Option HandName
hand_name (Some (entry.Load r k b n f g x)) = Some (at 0 (frame 0 k))
hand_name (Some (entry.Take r v m k)) = Some (at v (frame m k))
hand_name (Some (entry.TakeBlock f x r v m k b n g)) = Some (at v (frame m k))
hand_name (Some (entry.Save r v m k g)) = Some (at v (frame m k))
hand_name _ = None

-- the node of a hand, or 0 without one
abbrev pub hand_node : Option Entry → ℕ
hand_node (Some (entry.Take r v m k)) = v
hand_node (Some (entry.TakeBlock f x r v m k b n g)) = v
hand_node (Some (entry.Save r v m k g)) = v
hand_node _ = 0

-- the hand is the loaded frame of this name
abbrev pub is_load_of : FrameName → Option Entry → Bool
is_load_of a (Some (entry.Load r k b n f g x)) = same a (frame 0 k)
is_load_of a _ = false

-- the hand is a job of the node on this array
abbrev pub is_job_on : ℕ → FrameName → Option Entry → Bool
is_job_on v a (Some (entry.Take r w m k)) = (w == v) && same a (frame m k)
is_job_on v a (Some (entry.TakeBlock f x r w m k b n g)) = (w == v) && same a (frame m k)
is_job_on v a _ = false

-- the hand is a piece of this array
abbrev pub is_piece_on : FrameName → Option Entry → Bool
is_piece_on a (Some (entry.Save r w m k g)) = same a (frame m k)
is_piece_on a _ = false

-- the hand is a job or a piece of this array
abbrev pub has_part_of : FrameName → Option Entry → Bool
has_part_of a (Some (entry.Take r w m k)) = same a (frame m k)
has_part_of a (Some (entry.TakeBlock f x r w m k b n g)) = same a (frame m k)
has_part_of a (Some (entry.Save r w m k g)) = same a (frame m k)
has_part_of a _ = false

-- the block that was granted with the hand, as a list of one or none, and its size
abbrev pub granted_block : Option Entry → List ℕ
granted_block (Some (entry.Load r k b n f g x)) = b ∷ []
granted_block (Some (entry.TakeBlock f x r v m k b n g)) = b ∷ []
granted_block _ = []

abbrev pub granted_size : Option Entry → ℕ
granted_size (Some (entry.Load r k b n f g x)) = n
granted_size (Some (entry.TakeBlock f x r v m k b n g)) = n
granted_size _ = 0

abbrev pub has_grant : Option Entry → Bool
has_grant (Some (entry.Load r k b n f g x)) = true
has_grant (Some (entry.TakeBlock f x r v m k b n g)) = true
has_grant _ = false

-- PARTS

-- one part of a block, where told
abbrev pub IsOnePart : Option Parts → Type 0
IsOnePart None = Unit {0}
IsOnePart (Some p) = p.here ≡ 1

-- all parts of a block of this size, where told
abbrev pub IsWholeOf : ℕ → Option Parts → Type 0
IsWholeOf size None = Unit {0}
IsWholeOf size (Some p) = (p.here ≡ 2 ^ 32) × (p.size ≡ size)

-- frames of this kind tell their parts
abbrev pub TellParts : {F : Type 0} → (F → Option Parts) → Type 0
TellParts {F} parts = (f : F) → IsSome (parts f)

-- this, of what is there
abbrev pub OfSome : {X : Type 0} → (X → Type 0) → Option X → Type 0
OfSome P None = Unit {0}
OfSome P (Some x) = P x

-- WHAT WAS HANDED OUT FOR A HAND

-- storage of the granted size: as it was handed out, or sealed under this name
abbrev pub IsStorage : {F B : Type 0} → (F → FrameName) → (F → Option Parts) → (B → ℕ) → FrameName → (size : ℕ) → Option F → Option B → Type 0
IsStorage name_of parts bytes_of a n None (Some blank) = bytes_of blank ≡ n
IsStorage name_of parts bytes_of a n (Some f) None = (name_of f ≡ a) × IsWholeOf n (parts f)
IsStorage name_of parts bytes_of a n _ _ = ⊥

-- the array of this name, by the part that was lent
abbrev pub IsLent : {F : Type 0} → (F → FrameName) → (F → Option Parts) → FrameName → (lent : Option Parts) → Option F → Type 0
IsLent name_of parts a lent (Some f) = (name_of f ≡ a) × (parts f ≡ lent)
IsLent name_of parts a lent None = ⊥

-- what was handed out for a hand, and no more: nothing without one
abbrev pub IsOfHand : {F B : Type 0} → (F → FrameName) → (F → Option Parts) → (B → ℕ) → (lent : Option Parts) → Option Entry
    → (input made : Option F) → (blank : Option B) → Type 0
IsOfHand name_of parts bytes_of lent (Some (entry.Load r k b n f g x)) input made blank =
    IsNone input × IsStorage name_of parts bytes_of (frame 0 k) n made blank
IsOfHand name_of parts bytes_of lent (Some (entry.Take r v m k)) input made blank = IsLent name_of parts (frame m k) lent input × IsNone made × IsNone blank
IsOfHand name_of parts bytes_of lent (Some (entry.TakeBlock f x r v m k b n g)) input made blank =
    IsLent name_of parts (frame m k) lent input × IsStorage name_of parts bytes_of (frame v k) n made blank
IsOfHand name_of parts bytes_of lent (Some (entry.Save r v m k g)) input made blank = IsLent name_of parts (frame m k) lent input × IsNone made × IsNone blank
IsOfHand name_of parts bytes_of lent None input made blank = IsNone input × IsNone made × IsNone blank
IsOfHand name_of parts bytes_of lent _ input made blank = ⊥

-- WHAT A RESULT HAS TO BE, BY ITS NODE

-- at a maker there is an array of this name, and at no other node one
abbrev pub IsMadeAs : {F : Type 0} → (F → FrameName) → (maker : Bool) → FrameName → Option F → Type 0
IsMadeAs name_of true a (Some f) = name_of f ≡ a
IsMadeAs name_of true a None = ⊥
IsMadeAs name_of false a (Some f) = ⊥
IsMadeAs name_of false a None = Unit {0}

-- what comes back from a call that has a frame alone
abbrev pub just : {F : Type 0} → ℕ → F → Done F
just v f = record { node = v; input = f; made = None; measured = None; fired = false }
