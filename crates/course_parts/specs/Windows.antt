-- What comes out of the ring of a circular node at a push.
use Rattle.std.specs.Prelude.{◌≡◌, Bool, true, false, List, [], ◌∷◌, ◌++◌, length, if◌then◌else◌}
use Rattle.nd_base.specs.declared.frame.FrameName.{FrameName}
use Rattle.trig_window.specs.Watch.{Watch}
use Rattle.trig_window.specs.Watching.{StandsAt, SameRule}
use Rattle.trig_window.specs.Windows.{is_trigger, is_passed}
use Rattle.course_parts.specs.declared.moving.Watched.{Watched}
use Rattle.course_parts.specs.declared.moving.Watched.TheVariants.{Kept, LetGo, Out}

-- What comes out of a window: nothing, where the array is kept; an array that no window has; or the array itself, behind what of the
-- ring goes out.
abbrev pub ComesOut : (passes : Bool) → (ring_out : List FrameName) → FrameName → (out : List FrameName) → Watched → Type 0
ComesOut passes ring_out a out Kept = (passes ≡ false) × (ring_out ≡ []) × (out ≡ [])
ComesOut passes ring_out a out LetGo = (passes ≡ false) × (ring_out ≡ []) × (length out ≡ 1)
ComesOut passes ring_out a out Out = (passes ≡ true) × (out ≡ ring_out ++ a ∷ [])

-- One more array was put into a window, and these came out: what it doesn't keep any more. They go out, the ring at a counted trigger
-- and the newest one where a window has it, or no window can have them.
pub record IsWatched (flags : List Bool) (names : List FrameName) (fired : Bool) (a : FrameName) (old new : Watch FrameName)
    (out : List FrameName) (result : Watched) : Type 0 where
  pub rule : SameRule old new
  pub stands : StandsAt new (flags ++ fired ∷ []) (names ++ a ∷ [])
  pub whole : out ++ new.ring ≡ old.ring ++ a ∷ []
  pub comes : ComesOut (is_passed old.pre old.post old.preset (flags ++ fired ∷ []) (length flags))
      (if is_trigger old.post old.preset (flags ++ fired ∷ []) (length flags) then old.ring else []) a out result
