-- What comes out of the ring of a circular node at a put.
use Rattle.std.specs.Prelude.{◌≡◌, ℕ, Bool, List, [], ◌∷◌, length}
use Rattle.nd_base.specs.declared.frame.FrameName.{FrameName}
use Rattle.flow_journal.specs.declared.entry.Entry.{Entry}
use Rattle.flow_journal.specs.declared.entry.Why.{Why}
use Rattle.flow_journal.specs.declared.entry.Why.TheVariants.{Ring, Now}
use Rattle.flow_journal.specs.Setting.{Setting}
use Rattle.flow_journal.specs.Following.{calls_for, emit}
use Rattle.board_rules.specs.States.{past, plain}
use Rattle.run_course.specs.Courses.{Coursed}
use Rattle.run_course.specs.Puts.{put_of}
use Rattle.course_parts.specs.declared.moving.Watched.{Watched}
use Rattle.course_parts.specs.declared.moving.Watched.TheVariants.{Kept, LetGo, Out}

-- the last one goes out as the newest, and those before it as the ring
abbrev pub why_out : (behind : List FrameName) → Why
why_out [] = Now
why_out (a ∷ behind) = Ring

abbrev pub ring_outs : ℕ → List FrameName → List Entry
ring_outs v [] = []
ring_outs v (a ∷ behind) = emit v (why_out behind) a ∷ ring_outs v behind

-- what is on its way is what the put called for; where it called for nothing, it is what is let go
abbrev pub IsOnItsWay : ℕ → (calls : List Entry) → (transit : List FrameName) → Watched → Type 0
IsOnItsWay v calls transit Kept = (calls ≡ []) × (transit ≡ [])
IsOnItsWay v calls transit LetGo = (calls ≡ []) × (length transit ≡ 1)
IsOnItsWay v calls transit Out = calls ≡ ring_outs v transit

abbrev pub IsPutInRing : Setting → (role v : ℕ) → FrameName → (fired : Bool) → (old new : Coursed) → Watched → Type 0
IsPutInRing s r v a f old new result =
    (new.told ≡ plain (put_of s r v a f) ∷ old.told) × IsOnItsWay v (calls_for s (past old.told) (put_of s r v a f)) new.transit result
