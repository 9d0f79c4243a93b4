use Rattle.board_rules.proofs.Storage.{calls-keep, runs-keep, lossless-keep}
use Rattle.board_rules.proofs.laws.calls_keep_storage.Goals as goal

pub returns-clause-call : goal.returns-clause-call
returns-clause-call g c = calls-keep

pub returns-clause-runs : goal.returns-clause-runs
returns-clause-runs g c = runs-keep

pub returns-clause-lossless : goal.returns-clause-lossless
returns-clause-lossless g c = lossless-keep
