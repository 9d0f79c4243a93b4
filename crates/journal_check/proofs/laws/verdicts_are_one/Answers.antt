use Rattle.journal_check.proofs.Verdicts.{fronts, first_bad, one-verdict, some-verdict}
use Rattle.journal_check.proofs.laws.verdicts_are_one.Goals as goal

pub returns-clause-fronts : goal.returns-clause-fronts
returns-clause-fronts c = fronts

pub returns-clause-bad : goal.returns-clause-bad
returns-clause-bad c = first_bad

pub returns-clause-one : goal.returns-clause-one
returns-clause-one c = one-verdict

pub returns-clause-some : goal.returns-clause-some
returns-clause-some c = some-verdict
