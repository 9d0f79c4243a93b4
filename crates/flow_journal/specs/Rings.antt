-- The ring of a circular node: the arrays that a later trigger may still pass on.
use Rattle.std.specs.Prelude.{ℕ, Bool, List, [], if◌then◌else◌}
use Rattle.nd_base.specs.declared.frame.FrameName.{FrameName}
use Rattle.trig_window.specs.Windows.{kept}
use Rattle.flow_journal.specs.Setting.{Setting, node, Work, Watches}
use Rattle.flow_journal.specs.Pasts.{Past}
use Rattle.flow_journal.specs.Ended.{is_settled}
use Rattle.flow_journal.specs.Puts.{puts, firings}

-- what a circular node keeps of these puts for a window to come; no other node keeps any
abbrev pub ring_of : Work → List Bool → List FrameName → List FrameName
ring_of (Watches pre post preset) flags xs = kept pre post preset flags xs
ring_of _ flags xs = []

-- the ring of a node, empty once it is settled
abbrev pub ring : Setting → ℕ → Past → List FrameName
ring s v P = if is_settled v P then [] else ring_of (node s v).work (firings v P) (puts v P)
