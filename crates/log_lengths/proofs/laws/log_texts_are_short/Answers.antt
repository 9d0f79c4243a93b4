use Rattle.log_lengths.proofs.LogTexts.{texts-short}
use Rattle.log_lengths.proofs.laws.log_texts_are_short.Goals as goal

pub returns : goal.returns
returns c = texts-short
