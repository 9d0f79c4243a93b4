use Rattle.std.specs.Prelude.{map}
use Rattle.stack_file.proofs.Gathering.{gathered-more}
use Rattle.stack_file.proofs.rows.Rooms.gather.Goals as goal

pub loop-k-preserved : goal.loop-k-preserved
loop-k-preserved g c =
    let source = c.args.source.now in
    record {
      room = c.in_ok-add_row.ensures.room;
      gathered =
          gathered-more source.shape.now (map (g.C.Change.change source.change.now) source.stack.now.arrays) c.args.from c.loop-k.k c.loop-k.self.rows.items
          c.add_row.new.self.rows.items c.loop-k.auto.k c.loop-k.invariant.gathered c.in_ok-add_row.ensures.added;
    }
