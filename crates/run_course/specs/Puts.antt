-- What a job lets go when its result is put.
use Rattle.std.specs.Prelude.{ℕ, Bool, true, false, List, [], ◌∷◌, if◌then◌else◌}
use Rattle.nd_base.specs.declared.frame.FrameName.{FrameName}
use Rattle.flow_journal.specs.declared.entry.Entry.{Entry}
use Rattle.flow_journal.specs.declared.entry.Entry.TheVariants.{Put}
use Rattle.flow_journal.specs.FirstEntries.{fires_at}
use Rattle.flow_journal.specs.Setting.{Setting, Work, Makes, Passes, Watches, Saves, node, is_maker, may_sort}
use Rattle.flow_journal.specs.Unsaved.{is_file}
use Rattle.flow_journal.specs.ResultNames.{result_name}

-- the arrays of a job on this one: its result, and at a maker the array itself besides
abbrev pub job_arrays : Setting → ℕ → FrameName → List FrameName
job_arrays s v a = result_name s v a ∷ (if is_maker s v then a ∷ [] else [])

-- the node makes arrays or passes each one on
abbrev pub passes_all : Setting → ℕ → Bool
passes_all s v = may_sort (node s v).work

-- the put of the result of a job of this role on this array
abbrev pub put_of : Setting → (role v : ℕ) → FrameName → Bool → Entry
put_of s r v a fired = Put r v (result_name s v a).maker a.index fired

-- whether the node fires at this array
abbrev pub fires_for : Setting → ℕ → FrameName → Bool
fires_for s v a = fires_at s v a.index (node s v).work

-- the node saves what is put
abbrev pub saves_all : Setting → ℕ → Bool
saves_all s v = is_file (node s v).work

-- the array of a job whose result was made of it, which the job lets go
abbrev pub inputs : Setting → ℕ → FrameName → List FrameName
inputs s v a = if is_maker s v then a ∷ [] else []

-- the node keeps arrays for its trigger windows
abbrev pub is_watching : Work → Bool
is_watching Makes = false
is_watching (Passes deals) = false
is_watching (Watches pre post preset) = true
is_watching (Saves whole_groups count) = false

abbrev pub watches : Setting → ℕ → Bool
watches s v = is_watching (node s v).work

-- what the node does
abbrev pub work_at : Setting → ℕ → Work
work_at s v = (node s v).work
