-- What has ended.
use Rattle.flow_drain.specs.EndLaws.{EndLaws}
use Rattle.flow_drain.proofs.Closed.{all-offered, input-ended}
use Rattle.flow_journal.proofs.HandRoles.{role-of-hand}
use Rattle.flow_journal.proofs.Flushed.{list-empty}
use Rattle.flow_drain.proofs.Emptied.{queue-empty}
use Rattle.flow_drain.proofs.AllEnded.{all-ended-drained}

pub end_laws : EndLaws
end_laws = record {
  offered = λ s P h c. (all-offered s P h c).all;
  unloaded = λ s P h c. (all-offered s P h c).none;
  input = input-ended;
  queue = queue-empty;
  list = list-empty;
  roles = role-of-hand;
  drained = all-ended-drained;
}
