use Rattle.chain_plain.specs.ContentLaws.{content-driver, content-region, content-maker, maker_at-makes}
use Rattle.chain_plain.proofs.laws.contents_follow_the_graph.Goals as goal

pub returns-clause-driver : goal.returns-clause-driver
returns-clause-driver c = content-driver

pub returns-clause-regions : goal.returns-clause-regions
returns-clause-regions c = content-region

pub returns-clause-others : goal.returns-clause-others
returns-clause-others c = content-maker

pub returns-clause-makers : goal.returns-clause-makers
returns-clause-makers c = maker_at-makes
