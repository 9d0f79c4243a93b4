use Rattle.flow_saver.proofs.RowFiles.{rows_complete}
use Rattle.flow_saver.proofs.ending.rows_complete_the_files.Goals as goal

pub returns : goal.returns
returns c = rows_complete
