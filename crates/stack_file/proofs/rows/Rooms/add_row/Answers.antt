use Rattle.std.proofs.Common.{◌∙◌}
use Rattle.std.proofs.lemmas.List.{take_at}
use Rattle.std.proofs.lemmas.Result.{on_ok_weaker}
use Rattle.stack_file.proofs.Changing.{changed-IsAdded}
use Rattle.stack_file.proofs.rows.Rooms.add_row.Goals as goal

pub returns-clause-added : goal.returns-clause-added
returns-clause-added g c =
    let source = c.args.source.now in
    let rooms = c.args.self.now in
    let out = c.fill.new.out in
    let filled = c.bytes-samples.ensures.value ∙ c.as_slice.ensures.value ∙ take_at out _ rooms.frame.len (c.fill.auto.out ∙ c.deref_mut.ensures.len) in
    on_ok_weaker c.push_row.result (λ pushed. changed-IsAdded (g.C.Change.dims source.change.now) (g.C.Change.change source.change.now)
    source.stack.now source.shape.now c.requires.source c.args.k c.head.result.now c.frame.result.now out c.requires.frame c.head.ensures
    c.frame.ensures.samples c.shape.result.now c.bytes-samples.result.now rooms.rows.items c.push_row.new.out.items c.shape.ensures.value
    filled c.bytes-samples.ensures.small c.fill.ensures.size c.fill.ensures.changed pushed) c.push_row.ensures.bytes
