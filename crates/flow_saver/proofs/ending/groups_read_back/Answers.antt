use Rattle.flow_saver.proofs.ReadBack.{groups_read_back}
use Rattle.flow_saver.proofs.ending.groups_read_back.Goals as goal

pub returns : goal.returns
returns c = groups_read_back
