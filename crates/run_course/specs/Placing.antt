-- What becomes of a result that is put at a node with a sort list.
use Rattle.std.specs.Prelude.{◌≡◌, ◌<◌, ℕ, Bool, true, false, ◌∷◌, length}
use Rattle.nd_base.specs.declared.frame.FrameName.{FrameName}
use Rattle.queue_sort.specs.Sorting.{keeps_step}
use Rattle.flow_journal.specs.declared.entry.Entry.TheVariants.{Emit, SortDrop}
use Rattle.flow_journal.specs.declared.entry.Why.TheVariants.{Step}
use Rattle.flow_journal.specs.Breaks.{prev}
use Rattle.flow_journal.specs.Setting.{Setting, node, id_at}
use Rattle.flow_journal.specs.Waiting.{waiting}
use Rattle.flow_journal.specs.ResultNames.{result_name}
use Rattle.board_rules.specs.States.{past, plain}
use Rattle.run_course.specs.Courses.{Coursed}
use Rattle.run_course.specs.Puts.{put_of, job_arrays, inputs}
use Rattle.course_parts.specs.declared.results.Placement.{Placement}
use Rattle.course_parts.specs.declared.results.Placement.TheVariants.{Out, Waits, Full}

-- what is logged then, and what is on its way: a result that keeps step goes out, and one that finds no place is dropped
abbrev pub IsPlaced : Setting → (role v : ℕ) → FrameName → (fired : Bool) → (old new : Coursed) → Placement → Type 0
IsPlaced s r v a f old new Out =
    (keeps_step (prev s v (past old.told)) (id_at s a.index) ≡ true)
    × (new ≡ record old { told = plain (Emit v (result_name s v a).maker a.index Step) ∷ plain (put_of s r v a f) ∷ old.told; transit = job_arrays s v a })
IsPlaced s r v a f old new Waits =
    (keeps_step (prev s v (past old.told)) (id_at s a.index) ≡ false) × (length (waiting s v (past old.told)) < (node s v).sort)
    × (new ≡ record old { told = plain (put_of s r v a f) ∷ old.told; transit = inputs s v a })
IsPlaced s r v a f old new Full =
    (keeps_step (prev s v (past old.told)) (id_at s a.index) ≡ false) × (length (waiting s v (past old.told)) ≡ (node s v).sort)
    × (new ≡ record old { told = plain (SortDrop v (result_name s v a).maker a.index) ∷ plain (put_of s r v a f) ∷ old.told; transit = job_arrays s v a })
