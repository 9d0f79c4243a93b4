use Rattle.graph_conf.proofs.CycleFaults.{found_fault, only_fault}
use Rattle.graph_conf.proofs.read.read_graph.Goals as goal

pub returns-clause-cycle : goal.returns-clause-cycle
returns-clause-cycle c = found_fault c.args.bytes.now c.graph_in.result c.graph_in.ensures.exact

pub returns-clause-refused : goal.returns-clause-refused
returns-clause-refused c = only_fault c.args.bytes.now c.graph_in.result c.graph_in.ensures.exact
