use Rattle.std.proofs.Common.{◌≡◌}
use Rattle.plain_saver.specs.BegunRows.{AreBegunTo, AreRowsTouched}
use Rattle.plain_saver.proofs.rows.begin_rows.Given as goal

-- the files of the nodes so far are begun
abbrev pub invariant-loop-place : goal.invariant-loop-place
invariant-loop-place g l =
    let held = g.K.Shelf.held in
    record {
      begun : AreBegunTo l.source.graph l.prefix (held l.fn.shelf) (held l.shelf) l.place;
      touched : AreRowsTouched l.source.graph l.prefix (held l.fn.shelf) (held l.shelf);
      none : g.K.Shelf.faults l.shelf ≡ g.K.Shelf.faults l.fn.shelf;
    }
