-- What contracts see of a `Window`, after which firings it stands, and what one push does.
use Rattle.std.specs.Prelude.{◌≡◌, ◌-◌, ◌<◌, Bool, true, false, ◌⊎◌, List, [], ◌∷◌, ◌++◌, length, if◌then◌else◌}
use Rattle.trig_window.specs.declared.window.Passed.{Passed}
use Rattle.trig_window.specs.declared.window.Passed.TheVariants.{Kept, KeptFor, Now, LetGo}
use Rattle.trig_window.specs.Watch.{Watch}
use Rattle.trig_window.specs.Windows.{triggers, is_trigger, end_of_last, is_passed, is_complete, kept}

-- The window stands after these firings: what is left of the last window, and how many triggers are still to count.
pub record IsAfter {X : Type 0} (w : Watch X) (flags : List Bool) : Type 0 where
  pub left : w.left ≡ end_of_last w.post (triggers w.post w.preset flags) - length flags
  pub wanted : w.wanted ≡ w.preset - length (triggers w.post w.preset flags)

-- What a push answers: whether a window has the item's position, and else whether it is kept. An item that is
-- neither passed on nor kept comes after the last counted window, or nothing is kept at all.
abbrev pub Answers : {X : Type 0} → (passes complete : Bool) → X → (old new : Watch X) → Passed X → Type 0
Answers passes complete item old new Kept =
    (passes ≡ false) × (complete ≡ false) × (length old.ring < old.pre) × (new.ring ≡ old.ring ++ item ∷ []) × (new.pending ≡ [])
Answers passes complete item old new (KeptFor oldest) =
    (passes ≡ false) × (complete ≡ false) × (0 < old.pre) × (length old.ring ≡ old.pre) × (old.ring ++ item ∷ [] ≡ oldest ∷ new.ring) × (new.pending ≡ [])
Answers passes complete item old new (Now x) = (passes ≡ true) × (x ≡ item) × (new.ring ≡ [])
Answers passes complete item old new (LetGo x) =
    (passes ≡ false) × ((complete ≡ true) ⊎ (old.pre ≡ 0)) × (x ≡ item) × (new.ring ≡ []) × (new.pending ≡ [])

-- a push of the item after these firings, by the windows of all firings so far
pub record Pushes {X : Type 0} (flags : List Bool) (fired : Bool) (item : X) (old new : Watch X) (result : Passed X) : Type 0 where
  pub after : IsAfter new (flags ++ fired ∷ [])
  pub answer : Answers (is_passed old.pre old.post old.preset (flags ++ fired ∷ []) (length flags))
      (is_complete old.post old.preset (flags ++ fired ∷ [])) item old new result
  -- at a counted trigger what was kept is to go out first
  pub pending : new.pending ≡ (if is_trigger old.post old.preset (flags ++ fired ∷ []) (length flags) then old.ring else [])
  -- the ring stays what is kept of the items so far
  pub ring : (xs : List X) → length xs ≡ length flags → old.ring ≡ kept old.pre old.post old.preset flags xs
      → new.ring ≡ kept old.pre old.post old.preset (flags ++ fired ∷ []) (xs ++ item ∷ [])

abbrev pub SameRule : {X : Type 0} → Watch X → Watch X → Type 0
SameRule old new = (new.pre ≡ old.pre) × (new.post ≡ old.post) × (new.preset ≡ old.preset)

-- the window stands after these firings of these items: it keeps what is to be kept of them, and nothing is pending
pub record StandsAt {X : Type 0} (w : Watch X) (flags : List Bool) (xs : List X) : Type 0 where
  pub after : IsAfter w flags
  pub items : length xs ≡ length flags
  pub ring : w.ring ≡ kept w.pre w.post w.preset flags xs
  pub pending : w.pending ≡ []
