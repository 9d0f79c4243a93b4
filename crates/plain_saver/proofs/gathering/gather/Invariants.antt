use Rattle.std.proofs.Common.{◌≡◌}
use Rattle.std.specs.List.{flat_map}
use Rattle.cdf_write.specs.Layout.{row}
use Rattle.plain_saver.specs.Ahead.{arrays_from}
use Rattle.plain_saver.specs.Rooms.{AreRooms}
use Rattle.plain_saver.proofs.gathering.gather.Given as goal

-- the first rows are gathered
abbrev pub invariant-loop-ahead : goal.invariant-loop-ahead
invariant-loop-ahead l =
    record {
      rooms : AreRooms l.source.graph l.source.stack l.rooms;
      rows : l.rows.items ≡ flat_map (row l.shape) (arrays_from l.source.graph l.source.stack l.node l.pass.gone l.ahead);
    }
