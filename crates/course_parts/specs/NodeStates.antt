-- What is kept of a node, by the log.
use Rattle.std.specs.Prelude.{◌≡◌, ◌≤◌, ◌<◌, ◌+◌, ℕ, suc, true, false, List, [], length, map, Option, slice_get, Some, nat_lt, filter}
use Rattle.std.specs.List.{All}
use Rattle.std.specs.VecDeque.{deque_capacity}
use Rattle.std.specs.Prelude.{vec_capacity}
use Rattle.nd_base.specs.declared.frame.FrameName.{FrameName}
use Rattle.nd_base.specs.declared.measure.Measure.{Measure}
use Rattle.queue_sort.specs.declared.sort_lists.Waiting.{Waiting as Listed}
use Rattle.trig_window.specs.Watch.{Watch}
use Rattle.course_parts.specs.declared.node.Kept.{Kept}
use Rattle.course_parts.specs.declared.node.NodeState.{NodeState}
use Rattle.flow_journal.specs.Setting.{Setting, Work, Watches, node, is_sorted, id_at, children}
use Rattle.flow_journal.specs.Pasts.{Past}
use Rattle.flow_journal.specs.Hands.{hands, jobs, is_piece}
use Rattle.flow_journal.specs.Queued.{queued}
use Rattle.flow_journal.specs.Waiting.{Waiting, waiting, least_first}
use Rattle.flow_journal.specs.Puts.{puts}
use Rattle.flow_journal.specs.Unsaved.{unsaved, standing_saves, is_file}
use Rattle.flow_journal.specs.Breaks.{prev}
use Rattle.flow_journal.specs.Turns.{deals, turn}
use Rattle.flow_journal.specs.Ended.{now, is_settled}
use Rattle.flow_journal.specs.RingPushes.{IsWindowOf}
use Rattle.board_rules.specs.Ends.{measured_at}

-- a result that waits, as the node's list has it
abbrev pub listed : (ℕ → FrameName → Option Measure) → Setting → ℕ → Waiting → Listed Kept
listed measure s v w = record { id = id_at s w.array.index; tick = w.tick; item = record { name = w.array; measured = measure v w.array } }

-- what waits at the node, the least first
abbrev pub list_of : (ℕ → FrameName → Option Measure) → Setting → ℕ → Past → List (Listed Kept)
list_of measure s v P = map (listed measure s v) (least_first s (waiting s v P))

-- The window of a circular node has seen its puts until the node is settled; then it is empty. No other node has anything in it.
abbrev pub IsRing : Setting → ℕ → Past → Work → Watch FrameName → Type 0
IsRing s v P (Watches pre post preset) w =
    (is_settled v P ≡ false → IsWindowOf (λ (a : FrameName). a) s v P w (puts v P)) × (is_settled v P ≡ true → w.ring ≡ []) × (w.pending ≡ [])
IsRing s v P _ w = Unit {0}

-- a node that saves has room for every frame
abbrev pub HasRoomToSave : Setting → ℕ → NodeState → Type 0
HasRoomToSave s v n = is_file (node s v).work ≡ true → length s.ids ≤ deque_capacity n.unsaved

-- a node that measures has room for the measure of every frame
abbrev pub HasRoomToMeasure : (ℕ → FrameName → Option Measure) → Setting → ℕ → NodeState → Type 0
HasRoomToMeasure measure s v n = (a : FrameName) (m : Measure) → measure v a ≡ Some m → length s.ids ≤ vec_capacity n.measures

pub record IsNode (measure : ℕ → FrameName → Option Measure) (s : Setting) (v : ℕ) (P : Past) (n : NodeState) : Type 0 where
  pub inbox : n.inbox ≡ record { size = (node s v).queue; extra = (node s v).threads; items = queued v P }
  pub working : n.jobs ≡ jobs v P
  pub few : n.jobs ≤ (node s v).threads
  pub fits : length (queued v P) + n.jobs ≤ (node s v).queue + (node s v).threads
  pub ended : n.settled ≡ is_settled v P
  pub list_size : n.list.size ≡ (node s v).sort
  pub last : is_sorted s v ≡ true → n.list.last ≡ prev s v P
  pub waits : n.list.waiting ≡ list_of measure s v P
  pub ticks : All (λ (w : Waiting). w.tick ≤ now P) (waiting s v P)
  pub ring : IsRing s v P (node s v).work n.window
  pub kept : n.unsaved.items ≡ unsaved s v P
  pub results : n.puts ≡ length (puts v P)
  pub pieces : n.saves ≡ length (standing_saves v P)
  pub saving : n.saving ≡ nat_lt 0 (length (filter (is_piece v) (hands P)))
  pub next_child : deals s v ≡ true → 0 < length (children s v) → n.turn ≡ turn s v P
  pub measures : n.measures.items ≡ measured_at measure P v
  pub unsaved_room : HasRoomToSave s v n
  pub measures_room : HasRoomToMeasure measure s v n

-- each node is what the log says
pub record AreNodes (measure : ℕ → FrameName → Option Measure) (s : Setting) (P : Past) (ns : List NodeState) : Type 0 where
  pub all : length ns ≡ length s.nodes
  pub each : (i : ℕ) (n : NodeState) → slice_get ns i ≡ Some n → IsNode measure s (suc i) P n
