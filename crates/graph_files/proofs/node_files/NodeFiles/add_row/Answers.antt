use Rattle.std.proofs.Common.{sym, subst, ◌≡◌, ◌+◌, ◌≤◌, ◌∷◌, [], false, arith, rules}
use Rattle.std.specs.Prelude.{nat_lt}
use Rattle.std.proofs.lemmas.Bool.{ltb-false}
use Rattle.nd_base.specs.Shapes.{array_of}
use Rattle.file_out.specs.declared.fault.SaveFault.{SaveFault}
use Rattle.file_out.specs.StreamLaws.{HasRange-HasRows}
use Rattle.graph_files.specs.NodeFiles.{RowStops}
use Rattle.graph_files.specs.NodeFileLaws.{changed-then, changed-more}
use Rattle.graph_files.proofs.Torn.{torn-add, torn-ended, changed-add, changed-count, changed-may}
use Rattle.graph_files.proofs.node_files.NodeFiles.add_row.Goals as goal

pub returns-in-Err-Failed-clause-err : goal.returns-in-Err-Failed-clause-err
returns-in-Err-Failed-clause-err g c =
    (c.requires.none, λ arrays has. torn-add _ _ _ c.args.file arrays _ c.in-Err-Failed.field-0 c.in-Err-Failed.field-0-is has c.in-Err-Failed.ensures.err)

pub returns-in-Err-Failed-clause-changed : goal.returns-in-Err-Failed-clause-changed
returns-in-Err-Failed-clause-changed g c = changed-add c.in-Err-Failed.field-0 _ _ c.args.file.name _ c.in-Err-Failed.ensures.err

pub returns-then-place-self-clause-changed : goal.returns-then-place-self-clause-changed
returns-then-place-self-clause-changed g c = changed-more _ _ c.args.file.name _ c.in-Ok.ensures.ok

pub end-requires-clause-stands : goal.end-requires-clause-stands
end-requires-clause-stands g c = HasRange-HasRows _ c.add.new.self _ (c.in-Ok.ensures.rows c.requires.rows.0 c.requires.rows.1)

pub returns-in-Ok-end-clause-changed : goal.returns-in-Ok-end-clause-changed
returns-in-Ok-end-clause-changed g c =
    let file : c.add.new.self ≡ record c.args.file { count = c.args.file.count + 1 } = c.in-Ok.ensures.counted in
    let ended = (rw file at c.in-Ok-end.ensures.ok) in
    changed-then _ _ _ c.args.file.name (changed-more _ _ c.args.file.name _ c.in-Ok.ensures.ok)
    (changed-count _ _ c.args.file.name c.args.file.numrecs (c.args.file.count + 1) ended)

pub returns-in-Err-clause-err : goal.returns-in-Err-clause-err
returns-in-Err-clause-err g c =
    let file : c.add.new.self ≡ record c.args.file { count = c.args.file.count + 1 } = c.in-Ok.ensures.counted in
    let may = (rw file at c.in-Err.ensures.err) in
    let a = array_of c.args.head.now c.args.file.shape.kind c.args.file.shape.dims c.args.samples.now in
    let size = c.args.self.now.count in
    let last : nat_lt (c.args.place + 1) size ≡ false = search rules in
    let full : size ≤ c.args.file.count + 1 = omega (arith, ltb-false (c.args.place + 1) size last, c.requires.room.1) in
    subst (λ (f : SaveFault). RowStops f size c.args.file a c.args.self.now.current (g.K.Shelf.held c.args.shelf.now) (g.K.Shelf.held c.end.new.shelf))
    (sym c.in-Err.ensures.failed) (
      c.requires.none,
      λ arrays has. torn-ended size _ _ _ c.args.file (c.args.file.count + 1) _ arrays (a ∷ []) full c.in-Ok.ensures.ok
          (rw file at (c.in-Ok.ensures.rows arrays has)) may,
    )

pub returns-in-Err-clause-changed : goal.returns-in-Err-clause-changed
returns-in-Err-clause-changed g c =
    let file : c.add.new.self ≡ record c.args.file { count = c.args.file.count + 1 } = c.in-Ok.ensures.counted in
    let may = (rw file at c.in-Err.ensures.err) in
    changed-then _ _ _ c.args.file.name (changed-more _ _ c.args.file.name _ c.in-Ok.ensures.ok)
    (changed-may _ _ c.args.file.name c.args.file.numrecs (c.args.file.count + 1) may)
