-- What a board tells of its run at the end: its measures.
use Rattle.std.specs.Prelude.{ℕ, List, flat_map, map, Option}
use Rattle.nd_base.specs.declared.frame.FrameName.{FrameName}
use Rattle.nd_base.specs.declared.measure.Measure.{Measure}
pub use Rattle.chain_plain.specs.OneThread.{listed}
use Rattle.flow_journal.specs.Setting.{Setting, node_numbers}
use Rattle.flow_journal.specs.Pasts.{Past}
use Rattle.flow_journal.specs.Accepted.{emitted}

-- what a node measured of the arrays that went out of it, in the order of their emission
abbrev pub measured_at : (ℕ → FrameName → Option Measure) → Past → ℕ → List Measure
measured_at measure_at P v = flat_map (λ a. listed (measure_at v a)) (emitted v P)

-- and of each node
abbrev pub measured : (ℕ → FrameName → Option Measure) → Setting → Past → List (List Measure)
measured measure_at s P = map (measured_at measure_at P) (node_numbers s)
