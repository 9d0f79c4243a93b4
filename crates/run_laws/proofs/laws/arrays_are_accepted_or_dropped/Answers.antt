use Rattle.run_laws.proofs.Driver.{frames-are, all-came}
use Rattle.run_laws.proofs.EachOffer.{each-offer}
use Rattle.run_laws.proofs.Loading.{driver-outs}
use Rattle.run_laws.proofs.Offers.{comes}
use Rattle.run_laws.proofs.Orders.{offers-are}
use Rattle.run_laws.proofs.laws.arrays_are_accepted_or_dropped.Goals as goal

pub returns-clause-offered : goal.returns-clause-offered
returns-clause-offered c = comes

pub returns-clause-each : goal.returns-clause-each
returns-clause-each c = each-offer

pub returns-clause-accepted_or_dropped : goal.returns-clause-accepted_or_dropped
returns-clause-accepted_or_dropped c = offers-are

pub returns-clause-loaded_or_refused : goal.returns-clause-loaded_or_refused
returns-clause-loaded_or_refused c = frames-are

pub returns-clause-issued : goal.returns-clause-issued
returns-clause-issued c = driver-outs

pub returns-clause-every_frame : goal.returns-clause-every_frame
returns-clause-every_frame c = all-came
