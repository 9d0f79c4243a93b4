use Rattle.run_laws.proofs.Makers.{all-named, comes-named, out-named}
use Rattle.run_laws.proofs.laws.names_are_makers.Goals as goal

pub returns-clause-accepted : goal.returns-clause-accepted
returns-clause-accepted c g makers arrays P v n sound rule h = all-named _ _ (comes-named g makers arrays P sound h v n rule)

pub returns-clause-out : goal.returns-clause-out
returns-clause-out c g makers arrays P v n sound rule run = all-named _ _ (out-named g makers arrays P sound run.legal v n rule run)
