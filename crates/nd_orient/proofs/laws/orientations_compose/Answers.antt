use Rattle.nd_orient.proofs.Composition.{oriented-oriented, oriented-back}
use Rattle.nd_orient.proofs.laws.orientations_compose.Goals as goal

pub returns-clause-once : goal.returns-clause-once
returns-clause-once c = oriented-oriented

pub returns-clause-back : goal.returns-clause-back
returns-clause-back c = oriented-back
