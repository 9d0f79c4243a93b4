-- One more line, and its entry.
use Rattle.std.proofs.Common.{arith}
use Rattle.std.proofs.lemmas.Grind.{common_steps}
use Rattle.std.proofs.lemmas.List.Elements.{All-more}
use Rattle.flow_journal.specs.TextFaults.{Fits}
use Rattle.flow_journal.proofs.write.write_text.Goals as goal

pub loop-entry-preserved : goal.loop-entry-preserved
loop-entry-preserved c = record {
  text = grind (arith, common_steps);
  fit = All-more Fits _ _ _ c.loop-entry-test.true c.loop-entry.invariant.fit c.entry_fits.ensures;
}
