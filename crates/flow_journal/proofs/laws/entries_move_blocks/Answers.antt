use Rattle.flow_journal.proofs.AccountChanges.{block_laws, count_laws}
use Rattle.flow_journal.proofs.HeldChanges.{known_laws, held_laws}
use Rattle.flow_journal.proofs.Kept.{kept_laws}
use Rattle.flow_journal.proofs.laws.entries_move_blocks.Goals as goal

pub returns-clause-frames : goal.returns-clause-frames
returns-clause-frames c = block_laws

pub returns-clause-counts : goal.returns-clause-counts
returns-clause-counts c = count_laws

pub returns-clause-kept : goal.returns-clause-kept
returns-clause-kept c = kept_laws

pub returns-clause-known : goal.returns-clause-known
returns-clause-known c = known_laws

pub returns-clause-held : goal.returns-clause-held
returns-clause-held c = held_laws
