-- Results in the sort list of a node, and what goes out of it.
use Rattle.std.specs.Prelude.{◌≡◌, ◌<◌, ◌+◌, ◌-◌, ℕ, ℤ, List, true, false, ◌∷◌, ◌++◌, length, Option, Some, None, vec_capacity, if◌then◌else◌}
use Rattle.nd_base.specs.declared.frame.FrameName.{FrameName}
use Rattle.queue_sort.specs.declared.sort_lists.Waiting.{Waiting as Listed}
use Rattle.queue_sort.specs.Sorting.{keeps_step, is_late, placed}
use Rattle.flow_journal.specs.declared.entry.Why.{Why}
use Rattle.flow_journal.specs.declared.entry.Why.TheVariants.{Step, Late}
use Rattle.chain_plain.specs.OneThread.{listed}
use Rattle.course_parts.specs.declared.node.Kept.{Kept}
use Rattle.course_parts.specs.declared.node.NodeState.{NodeState}
use Rattle.course_parts.specs.declared.results.Placement.{Placement}
use Rattle.course_parts.specs.declared.results.Placement.TheVariants.{Out, Waits, Full}

-- what the node keeps then: one job fewer, one put more, and of the result its measure, its place in the list or nothing
abbrev pub IsListed : (id : ℤ) (tick : ℕ) → Kept → (old new : NodeState) → Placement → Type 0
IsListed id tick kept old new Out =
    (new ≡ record old { jobs = old.jobs - 1; puts = old.puts + 1; list = new.list; measures = new.measures })
    × (keeps_step old.list.last id ≡ true) × (new.list.size ≡ old.list.size) × (new.list.last ≡ id) × (new.list.waiting ≡ old.list.waiting)
    × (new.measures.items ≡ old.measures.items ++ listed kept.measured) × (vec_capacity new.measures ≡ vec_capacity old.measures)
IsListed id tick kept old new Waits =
    (new ≡ record old { jobs = old.jobs - 1; puts = old.puts + 1; list = new.list })
    × (keeps_step old.list.last id ≡ false) × (length old.list.waiting < old.list.size)
    × (new.list ≡ record old.list { waiting = placed (record { id = id; tick = tick; item = kept }) old.list.waiting })
IsListed id tick kept old new Full =
    (new ≡ record old { jobs = old.jobs - 1; puts = old.puts + 1 }) × (keeps_step old.list.last id ≡ false) × (length old.list.waiting ≡ old.list.size)

-- why it goes out, where it does
abbrev pub why_due : (last : ℤ) (now sort_time : ℕ) → Listed Kept → Option Why
why_due last now sort_time w = if keeps_step last w.id then Some Step else if is_late now sort_time w then Some Late else None

-- nothing waits, or the least one waits on
abbrev pub NothingDue : (now sort_time : ℕ) → NodeState → Type 0
NothingDue now sort_time n = (w : Listed Kept) (ws : List (Listed Kept)) → n.list.waiting ≡ w ∷ ws → why_due n.list.last now sort_time w ≡ None

-- the least one goes out, and its measure is kept
pub record IsLetOut (now sort_time : ℕ) (old new : NodeState) (name : FrameName) (why : Why) : Type 0 where
  pub least : Listed Kept
  pub rest : List (Listed Kept)
  pub waits : old.list.waiting ≡ least ∷ rest
  pub named : least.item.name ≡ name
  pub due : why_due old.list.last now sort_time least ≡ Some why
  pub changed : new ≡ record old { list = new.list; measures = new.measures }
  pub size : new.list.size ≡ old.list.size
  pub last : new.list.last ≡ least.id
  pub waiting : new.list.waiting ≡ rest
  pub items : new.measures.items ≡ old.measures.items ++ listed least.item.measured
  pub room : vec_capacity new.measures ≡ vec_capacity old.measures

-- the least one goes out of a list, and its measure is kept
pub record IsFlushed (old new : NodeState) (name : FrameName) : Type 0 where
  pub least : Listed Kept
  pub rest : List (Listed Kept)
  pub waits : old.list.waiting ≡ least ∷ rest
  pub named : least.item.name ≡ name
  pub changed : new ≡ record old { list = new.list; measures = new.measures }
  pub size : new.list.size ≡ old.list.size
  pub last : new.list.last ≡ least.id
  pub waiting : new.list.waiting ≡ rest
  pub items : new.measures.items ≡ old.measures.items ++ listed least.item.measured
  pub room : vec_capacity new.measures ≡ vec_capacity old.measures
