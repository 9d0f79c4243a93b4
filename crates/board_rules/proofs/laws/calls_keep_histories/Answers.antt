use Rattle.board_rules.proofs.Moved.{moved-legal}
use Rattle.board_rules.proofs.Legal.{runs-legal}
use Rattle.board_rules.proofs.laws.calls_keep_histories.Goals as goal

pub returns-clause-moves : goal.returns-clause-moves
returns-clause-moves g c = moved-legal

pub returns-clause-runs : goal.returns-clause-runs
returns-clause-runs g c = runs-legal
