-- What became of the last grant of a block, by the log.
use Rattle.std.specs.Prelude.{ℕ, ◌==◌, Bool, true, false, [], ◌∷◌, if◌then◌else◌}
use Rattle.nd_base.specs.declared.frame.FrameName.{FrameName}
use Rattle.flow_journal.specs.declared.entry.Entry.TheVariants.{Load, Issue, TakeBlock, Put, Reclaim}
use Rattle.flow_journal.specs.Pasts.{Past, frame}

-- Nobody was granted the block; or the array for which it was is in the making, in the hand of this role; or that hand was done, with the
-- array made; or it was taken back.
pub data LastGrant : Type 0 where
  Never : LastGrant
  InMaking : (role : ℕ) → (array : FrameName) → (size : ℕ) → LastGrant
  Made : (array : FrameName) → (size : ℕ) → LastGrant
  TakenBack : (size : ℕ) → LastGrant

-- once the hand of the role is done
abbrev pub once_done : ℕ → LastGrant → LastGrant
once_done r (InMaking q a n) = if q == r then Made a n else InMaking q a n
once_done r g = g

-- once the hand of the role is taken back
abbrev pub once_taken_back : ℕ → LastGrant → LastGrant
once_taken_back r (InMaking q a n) = if q == r then TakenBack n else InMaking q a n
once_taken_back r g = g

abbrev pub last_grant : ℕ → Past → LastGrant
last_grant b [] = Never
last_grant b (Load r k c n f g x ∷ P) = if c == b then InMaking r (frame 0 k) n else last_grant b P
last_grant b (TakeBlock f x r v m k c n g ∷ P) = if c == b then InMaking r (frame v k) n else last_grant b P
last_grant b (Issue r k ∷ P) = once_done r (last_grant b P)
last_grant b (Put r v m k f ∷ P) = once_done r (last_grant b P)
last_grant b (Reclaim r ∷ P) = once_taken_back r (last_grant b P)
last_grant b (e ∷ P) = last_grant b P

-- the hand for which the block was last granted was taken back
abbrev pub is_taken_back : LastGrant → Bool
is_taken_back (TakenBack n) = true
is_taken_back _ = false

abbrev pub was_taken_back : ℕ → Past → Bool
was_taken_back b P = is_taken_back (last_grant b P)
