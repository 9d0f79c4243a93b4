use Rattle.flow_roles.specs.Leaving.{made_at}
use Rattle.flow_roles.proofs.left_desk.LeftDeskDesk.call_both.Goals as goal

pub call-two-requires-clause-may : goal.call-two-requires-clause-may
call-two-requires-clause-may g c = c.requires.second (made_at c.call-one.new.pass.role c.call-one.new.pass.stage)
