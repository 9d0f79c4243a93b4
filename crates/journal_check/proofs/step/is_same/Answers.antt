use Rattle.std.proofs.Common.{sym, ◌∙◌}
use Rattle.journal_check.proofs.Alike.{entry-one}
use Rattle.journal_check.proofs.step.is_same.Goals as goal

pub returns-clause-same : goal.returns-clause-same
returns-clause-same c is = entry-one c.args.made c.args.told (sym c.eq.ensures ∙ is)
