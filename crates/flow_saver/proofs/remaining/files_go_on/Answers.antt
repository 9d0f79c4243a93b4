use Rattle.flow_saver.proofs.Handing.{handing_laws}
use Rattle.flow_saver.proofs.remaining.files_go_on.Goals as goal

pub returns : goal.returns
returns g c = handing_laws
