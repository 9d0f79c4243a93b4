use Rattle.told_log.proofs.Reclaims.{reclaims-have-room}
use Rattle.told_log.proofs.laws.reclaims_have_room.Goals as goal

pub returns : goal.returns
returns c = reclaims-have-room
