use Rattle.flow_journal.proofs.OneText.{one_text, no_bad_line}
use Rattle.flow_journal.proofs.laws.texts_tell_entries.Goals as goal

pub returns-clause-one : goal.returns-clause-one
returns-clause-one c = one_text

pub returns-clause-read : goal.returns-clause-read
returns-clause-read c = no_bad_line
