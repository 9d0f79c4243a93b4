-- LAWS of the order in which a sorted node emits.
use Rattle.std.specs.Prelude.{◌≡◌, ℕ, ◌+◌, ◌<◌, ◌⊎◌, true, false, Bool, ◌==◌, ◌&&◌, not, [], ◌∷◌, ◌++◌, if◌then◌else◌}
use Rattle.std.specs.List.{Contains}
use Rattle.flow_journal.specs.declared.entry.Entry.{Entry}
use Rattle.flow_journal.specs.declared.entry.Entry.TheVariants.{Emit}
use Rattle.flow_journal.specs.declared.entry.Why.{Why}
use Rattle.flow_journal.specs.declared.entry.Why.TheVariants.{Late, Flush}
use Rattle.flow_journal.specs.Setting.{Setting, node, id_at, is_sorted}
use Rattle.flow_journal.specs.Pasts.{Past, frame}
use Rattle.flow_journal.specs.Ended.{now, has_ended}
use Rattle.flow_journal.specs.Waiting.{waiting}
use Rattle.queue_sort.specs.Sorting.{keeps_step}
use Rattle.flow_journal.specs.Breaks.{prev, breaks}
use Rattle.flow_journal.specs.Histories.{is_legal}

-- the result waits at the node, and has for longer than the sort time, by the ticks
pub record HasWaitedLong (s : Setting) (v m k : ℕ) (P : Past) : Type 0 where
  -- the one that was kept at its put
  pub tick : ℕ
  pub waits : Contains (waiting s v P) (record { array = frame m k; tick = tick })
  pub past : tick + (node s v).sort_time < now P

-- the entry is an emission of the node that is marked late or flush
abbrev pub may_break : ℕ → Entry → Bool
may_break v (Emit w m k Late) = w == v
may_break v (Emit w m k Flush) = w == v
may_break v _ = false

-- how many such emissions keep no step
abbrev pub marked_breaks : Setting → ℕ → Past → ℕ
marked_breaks s v [] = 0
marked_breaks s v (Emit w m k why ∷ P) =
    marked_breaks s v P + (if may_break v (Emit w m k why) && not (keeps_step (prev s v P) (id_at s k)) then 1 else 0)
marked_breaks s v (e ∷ P) = marked_breaks s v P

-- an emission of a sorted node that keeps no step is marked late or flush
abbrev pub BreaksAreMarked : Type 0
BreaksAreMarked =
    (s : Setting) (newer P : Past) (v m k : ℕ) (why : Why) → is_sorted s v ≡ true → is_legal s (newer ++ Emit v m k why ∷ P) ≡ true
    → keeps_step (prev s v P) (id_at s k) ≡ false → (why ≡ Late) ⊎ (why ≡ Flush)

-- what is marked late is late by the ticks
abbrev pub LateOnesHaveWaited : Type 0
LateOnesHaveWaited = (s : Setting) (newer P : Past) (v m k : ℕ) → is_legal s (newer ++ Emit v m k Late ∷ P) ≡ true → HasWaitedLong s v m k P

-- where something is marked flush the node's input has ended
abbrev pub FlushesComeAtTheEnd : Type 0
FlushesComeAtTheEnd = (s : Setting) (newer P : Past) (v m k : ℕ) → is_legal s (newer ++ Emit v m k Flush ∷ P) ≡ true → has_ended (node s v).input P ≡ true

-- the breaks of a sorted node are those of its marked emissions that keep no step
abbrev pub MarkedBreaksAreCounted : Type 0
MarkedBreaksAreCounted = (s : Setting) (P : Past) (v : ℕ) → is_sorted s v ≡ true → is_legal s P ≡ true → breaks s v P ≡ marked_breaks s v P
