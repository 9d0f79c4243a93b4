-- What is kept at the place of a block, and what the calls of a table make of it.
use Rattle.std.specs.Prelude.{◌≡◌, ◌≢◌, ℕ, ◌+◌, ◌-◌, ◌^◌, ◌==◌, Bool, true, false, ◌&&◌, not, ◌⊎◌, nat_lt, List, [], ◌∷◌, ◌++◌, length, slice_index_or}
use Rattle.std.specs.Prelude.{slice_set, Option, Some, None, IfSome, IsNone, if◌then◌else◌}
use Rattle.nd_base.specs.declared.frame.FrameName.{FrameName}
use Rattle.nd_base.specs.Parts.{Parts, MayPart, MayUnite}

-- Nothing, a frame of this name with these parts of its block, or storage of so many bytes, on which a frame stood or none.
pub data Kept : Type 0 where
  Empty : Kept
  Frame : (name : FrameName) → (parts : Option Parts) → Kept
  Storage : (bytes : ℕ) → (is_used : Bool) → Kept

-- what is kept of the block: what stands at its place
abbrev pub kept_at : List Kept → ℕ → Kept
kept_at t block = slice_index_or t block Empty

-- the table with this at the place of the block, and all others as they were
abbrev pub with_kept : List Kept → ℕ → Kept → List Kept
with_kept t block k = slice_set t block k

-- something is kept
abbrev pub is_kept : Kept → Bool
is_kept Empty = false
is_kept _ = true

-- the table with nothing at the places of these blocks, and all others as they were
abbrev pub without_kept : List ℕ → List Kept → List Kept
without_kept [] t = t
without_kept (b ∷ bs) t = without_kept bs (with_kept t b Empty)

-- the table with a place for the block, which has one or is the next
abbrev pub with_room : List Kept → ℕ → List Kept
with_room t block = if nat_lt block (length t) then t else t ++ Empty ∷ []

-- PARTS THAT ARE LENT

-- a frame is here, and may give a part away
abbrev pub MayLend : Kept → Type 0
MayLend (Frame a p) = MayPart p
MayLend _ = ⊥

-- one part of the same block
abbrev pub one_part : Option Parts → Option Parts
one_part None = None
one_part (Some p) = Some (record p { here = 1 })

abbrev pub one_less : Option Parts → Option Parts
one_less None = None
one_less (Some p) = Some (record p { here = p.here - 1 })

-- this is one part of the frame that is here
abbrev pub IsPartOf : Kept → FrameName → Option Parts → Type 0
IsPartOf (Frame a p) name parts = (name ≡ a) × (parts ≡ one_part p)
IsPartOf _ name parts = ⊥

-- what is here once one part is lent
abbrev pub less_one : Kept → Kept
less_one (Frame a p) = Frame a (one_less p)
less_one k = k

-- a frame is here that doesn't tell its parts
abbrev pub IsUntold : Kept → Type 0
IsUntold (Frame a p) = IsNone p
IsUntold _ = ⊥

-- these are parts of the frame that is here
abbrev pub MayGiveBack : Kept → Option Parts → Type 0
MayGiveBack (Frame a p) q = MayUnite p q
MayGiveBack _ q = ⊥

abbrev pub together : Option Parts → Option Parts → Option Parts
together (Some p) (Some q) = Some (record p { here = p.here + q.here })
together (Some p) None = Some p
together None q = None

-- what is here once these parts have come back
abbrev pub united : Kept → Option Parts → Kept
united (Frame a p) q = Frame a (together p q)
united k q = k

-- STORAGE THAT IS TAKEN

-- Whether storage of this size is at home: as storage, or as all parts of a block of the size. A frame that doesn't tell its parts doesn't
-- tell this.
abbrev pub at_home : ℕ → Kept → Option Bool
at_home size Empty = Some false
at_home size (Frame a None) = None
at_home size (Frame a (Some p)) = Some ((p.here == 2 ^ 32) && (p.size == size))
at_home size (Storage n used) = Some (n == size)

-- the storage was made anew: exactly where it isn't at home, where that is told
abbrev pub IsMadeAnew : Option Bool → Bool → Type 0
IsMadeAnew home regrown = IfSome home (λ h. regrown ≡ not h)

-- a frame stood on what is kept, or stands there: not so only at storage on which none stood
abbrev pub was_used : Kept → Bool
was_used (Storage n used) = used
was_used _ = true

-- storage that wasn't made anew is that which was kept
abbrev pub IsAsUsed : Kept → (regrown used : Bool) → Type 0
IsAsUsed k true used = Unit {0}
IsAsUsed k false used = used ≡ was_used k

-- no storage of this size is at home, where that is told
abbrev pub IsAway : Option Bool → Type 0
IsAway home = IfSome home (λ h. h ≡ false)

-- if a frame is here, it tells that its block has this size
abbrev pub IsSized : ℕ → Kept → Type 0
IsSized size (Frame a (Some p)) = p.size ≡ size
IsSized size (Frame a None) = ⊥
IsSized size _ = Unit {0}

-- the frame that is here can be made storage of n bytes
abbrev pub MayBecome : ℕ → Kept → Type 0
MayBecome n (Frame a (Some p)) = (p.here ≡ 2 ^ 32) × (p.size ≡ n)
MayBecome n (Frame a None) = Unit {0}
MayBecome n _ = ⊥

-- a frame became storage of another size, which stays here
abbrev pub BecomesOther : ℕ → Kept → Kept → Type 0
BecomesOther size k (Storage n used) = MayBecome n k × (n ≢ size) × (used ≡ true)
BecomesOther size k _ = ⊥

-- what stays here where no storage of the size could be made: what was here, or what the frame became
abbrev pub IsLeft : ℕ → Kept → Kept → Type 0
IsLeft size before after = (after ≡ before) ⊎ BecomesOther size before after

-- the table then
abbrev pub IsRefused : (size block : ℕ) → (before after : List Kept) → Type 0
IsRefused size block before after = (k : Kept) × IsLeft size (kept_at before block) k × (after ≡ with_kept before block k)
