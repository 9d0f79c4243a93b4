use Rattle.kept_blocks.proofs.Looks.{look_laws}
use Rattle.kept_blocks.proofs.arrays_are_kept.Goals as goal

pub returns : goal.returns
returns g c = look_laws g.F.Held.parts
