-- A node before any entry.
use Rattle.std.specs.Prelude.{◌≡◌, ℕ, Bool, true, false, not, length, Option, Some, ℤ, pos, ◌-ℤ◌}
use Rattle.nd_base.specs.declared.frame.FrameName.{FrameName}
use Rattle.nd_base.specs.declared.measure.Measure.{Measure}
use Rattle.flow_journal.specs.Setting.{Setting, Work, Makes, Passes, Watches, Saves, node, first_prev}
use Rattle.course_parts.specs.declared.rules.NodeRules.{NodeRules}
use Rattle.course_parts.specs.RunRules.{as_node}

-- only a node that passes each array on to all measures
abbrev pub may_measure : Work → Bool
may_measure Makes = false
may_measure (Passes deals) = not deals
may_measure (Watches pre post preset) = false
may_measure (Saves whole_groups count) = false

-- these are the rules of node v, so many are the frames, and this id comes first
pub record Starts (measure : ℕ → FrameName → Option Measure) (s : Setting) (v : ℕ) (rules : NodeRules) (frames : ℕ) (first : ℤ) : Type 0 where
  pub ruled : as_node rules ≡ node s v
  pub as_many : frames ≡ length s.ids
  pub before : first -ℤ pos 1 ≡ first_prev s.ids
  pub measured : (a : FrameName) (m : Measure) → measure v a ≡ Some m → may_measure (node s v).work ≡ true
