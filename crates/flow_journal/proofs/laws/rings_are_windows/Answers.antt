use Rattle.flow_journal.proofs.RingPushes.{ring_push_laws, ring_window_laws}
use Rattle.flow_journal.proofs.laws.rings_are_windows.Goals as goal

pub returns-clause-put : goal.returns-clause-put
returns-clause-put g c = ring_push_laws

pub returns-clause-windows : goal.returns-clause-windows
returns-clause-windows g c = ring_window_laws _
