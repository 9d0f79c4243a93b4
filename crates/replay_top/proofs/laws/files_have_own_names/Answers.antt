use Rattle.replay_top.proofs.FileNames.{command_names, group_names, rows_names, no_texts, only_logs}
use Rattle.replay_top.proofs.laws.files_have_own_names.Goals as goal

pub returns-clause-commands : goal.returns-clause-commands
returns-clause-commands c = command_names

pub returns-clause-groups : goal.returns-clause-groups
returns-clause-groups c = group_names

pub returns-clause-rows : goal.returns-clause-rows
returns-clause-rows c = rows_names

pub returns-clause-texts : goal.returns-clause-texts
returns-clause-texts c = no_texts

pub returns-clause-log : goal.returns-clause-log
returns-clause-log c = only_logs
