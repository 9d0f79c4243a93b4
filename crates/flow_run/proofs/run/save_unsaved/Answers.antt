use Rattle.flow_run.proofs.Finishing.{leaves-kept}
use Rattle.flow_run.proofs.run.save_unsaved.Goals as goal

pub returns-in-None-clause-elsewhere : goal.returns-in-None-clause-elsewhere
returns-in-None-clause-elsewhere g c = λ prefix before st. leaves-kept g.R.Run.graph g.R.Run.stack c.requires.graph prefix before c.args.left _ _ _ _ st
