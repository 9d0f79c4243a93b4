use Rattle.tool_commands.proofs.Inputs.{graph_read, graph_unread, graph_refused}
use Rattle.tool_commands.proofs.Unread.{unread-graph-at, read-graph-at}
use Rattle.tool_commands.proofs.sources.load_graph.Goals as goal

pub returns-in-Err-clause-err : goal.returns-in-Err-clause-err
returns-in-Err-clause-err g c =
    rw c.unread_graph.ensures (graph_unread c.in-Err.refusal (g.L.Library.holds c.args.library.now) c.args.name.now _ _ c.in-Err.ensures.refused)

pub returns-in-Ok-read_graph-clause-ok : goal.returns-in-Ok-read_graph-clause-ok
returns-in-Ok-read_graph-clause-ok g c =
    let found = (rw c.deref.ensures.value at c.in-Ok-read_graph.ensures.exact) in
    graph_read (g.L.Library.holds c.args.library.now) c.args.name.now c.in-Ok.bytes.items c.in-Ok-read_graph.graph
    c.in-Ok.ensures.bytes c.in-Ok.ensures.within found c.in-Ok-read_graph.ensures.sound

pub returns-clause-err : goal.returns-clause-err
returns-clause-err g c =
    let found = (rw c.deref.ensures.value at c.in-Err-read_graph.ensures.exact) in
    rw c.from.ensures (graph_refused (g.L.Library.holds c.args.library.now) c.args.name.now c.in-Ok.bytes.items
    c.in-Ok.ensures.bytes c.in-Ok.ensures.within c.in-Err-read_graph.fault _ _ found c.in-Ok.ensures.same)

pub returns-in-Err-clause-unread : goal.returns-in-Err-clause-unread
returns-in-Err-clause-unread g c = rw c.unread_graph.ensures (unread-graph-at _ c.in-Err.refusal c.in-Err.ensures.failed)

pub returns-clause-unread : goal.returns-clause-unread
returns-clause-unread g c = rw c.from.ensures (read-graph-at _ c.in-Err-read_graph.fault)
