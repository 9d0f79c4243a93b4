use Rattle.std.proofs.Common.{◌≡◌, length}
use Rattle.std.specs.Prelude.{map}
use Rattle.nd_base.specs.Stacks.{frame_size}
use Rattle.stack_file.specs.Gathered.{AreGathered}
use Rattle.stack_file.proofs.rows.Rooms.gather.Given as goal

-- the rows of the frames before this one are gathered
abbrev pub invariant-loop-k : goal.invariant-loop-k
invariant-loop-k g l =
    let s = l.source.stack.now in
    record {
      room : length l.self.frame.items ≡ frame_size s.shape;
      gathered : AreGathered l.source.shape.now (map (g.C.Change.change l.source.change.now) s.arrays) l.from l.k l.self.rows.items;
    }
