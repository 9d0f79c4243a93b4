use Rattle.std.proofs.Common.{◌≡◌}
use Rattle.plain_saver.proofs.rows.finish_rows.Given as goal

-- nothing has changed
abbrev pub invariant-loop-place : goal.invariant-loop-place
invariant-loop-place g l =
    record {
      files : g.K.Shelf.held l.shelf ≡ g.K.Shelf.held l.fn.shelf;
      none : g.K.Shelf.faults l.shelf ≡ g.K.Shelf.faults l.fn.shelf;
    }
