use Rattle.std.proofs.Common.{◌≡◌, ◌≢◌, ◌+◌, ◌++◌, Some, length, take, ap, sym, subst, ◌∙◌, arith}
use Rattle.std.specs.List.{flat_map}
use Rattle.std.proofs.lemmas.List.{append-nil}
use Rattle.std.proofs.lemmas.List.Elements.{All-get_or}
use Rattle.std.proofs.lemmas.Result.{err_from_is_err_and}
use Rattle.edge_traits.specs.Files.{file_at, with_file, with_more}
use Rattle.edge_traits.specs.FileLaws.{Stands-with_file, with_more-with_file, file_at-with_file}
use Rattle.cdf_write.specs.Layout.{header, row}
use Rattle.file_out.specs.declared.group.Row.{Row}
use Rattle.file_out.specs.Streams.{Stream, IsRow, begun_file}
use Rattle.file_out.specs.StreamLaws.{rows_few, HasRange-begun_file}
use Rattle.file_out.specs.Groups.{row_array, arrays_of}
use Rattle.file_out.specs.BegunLaws.{IsBegun-whole, IsBegun-BeginStops, IsBegun-AddStops}
use Rattle.file_out.proofs.Groups.{layout-arrays_of, group-front, group-more, group-whole}
use Rattle.file_out.proofs.group.save_group.Goals as goal

pub overflow_cast-count : goal.overflow_cast-count
overflow_cast-count g c = omega (arith, rows_few c.args.shape.now _ c.requires.within)

pub returns-in_err-file-clause-err : goal.returns-in_err-file-clause-err
returns-in_err-file-clause-err g c =
    let p = err_from_is_err_and c.from_residual.result c.from_residual.ensures.1 in
    let shape = c.args.shape.now in
    let rows = c.args.rows.now in
    rw p.1 (IsBegun-BeginStops c.in_err-file.field-0.0 _ _ c.args.name.now (header shape (Some (length rows))) (flat_map (row shape) (arrays_of shape rows)) _
    (layout-arrays_of shape rows) c.in_err-file.ensures.err)

pub loop-row-init : goal.loop-row-init
loop-row-init g c = record {
  files =
      c.in_ok-file.ensures.ok
      ∙ ap (with_file (g.K.Shelf.held c.args.shelf.now) c.args.name.now) (sym (append-nil (header c.args.shape.now (Some (length c.args.rows.now)))));
  stream = c.in_ok-file.ensures.value;
  within = omega arith;
  none = c.in_ok-file.ensures.cause;
}

pub add-requires-clause-room : goal.add-requires-clause-room
add-requires-clause-room g c = rw c.loop-row.invariant.stream c.loop-row-test.true

pub add-requires-clause-row : goal.add-requires-clause-row
add-requires-clause-row g c =
    let shape = c.args.shape.now in
    let item = c.row-item.result in
    let each : IsRow shape item.head item.samples =
    rw c.row-item.is (All-get_or (λ (r : Row). IsRow shape r.head r.samples) c.args.rows.now c.loop-row.row-index item c.loop-row-test.true c.requires.each) in
    rw (c.loop-row.invariant.stream, c.list.ensures) each

pub add-requires-clause-stands : goal.add-requires-clause-stands
add-requires-clause-stands g c =
    rw (c.loop-row.invariant.stream, c.loop-row.invariant.files) (Stands-with_file (g.K.Shelf.held c.args.shelf.now) c.args.name.now _)

pub returns-in_err-add-clause-err : goal.returns-in_err-add-clause-err
returns-in_err-add-clause-err g c =
    let p = err_from_is_err_and c.from_residual-in_err-add.result c.from_residual-in_err-add.ensures.1 in
    let shape = c.args.shape.now in
    let rows = c.args.rows.now in
    let i = c.loop-row.row-index in
    let item = c.row-item.result in
    let others = group-front shape rows (i + 1) in
    let stops = (rw (c.loop-row.invariant.stream, c.list.ensures) at c.in_err-add.ensures.err) in
    rw p.1 (IsBegun-AddStops c.in_err-add.field-0.0 _ (g.K.Shelf.held c.loop-row.shelf) _ c.args.name.now
    (begun_file shape (Some (length rows)) (arrays_of shape (take i rows)))
    (row shape (row_array shape item)) others.0 _ (others.1
    ∙ ap (λ bytes. bytes ++ others.0) (group-more shape rows i item c.loop-row-test.true c.row-item.is)) c.loop-row.invariant.files stops)

pub loop-row-preserved : goal.loop-row-preserved
loop-row-preserved g c =
    let shape = c.args.shape.now in
    let rows = c.args.rows.now in
    let name = c.args.name.now in
    let i = c.loop-row.row-index in
    let item = c.row-item.result in
    let held = g.K.Shelf.held in
    let added = (rw (c.loop-row.invariant.stream, c.list.ensures) at c.in_ok-add.ensures.ok) in
    record {
      files =
          added ∙ ap (λ w. with_more w name (row shape (row_array shape item))) c.loop-row.invariant.files
          ∙ with_more-with_file (held c.args.shelf.now) name (begun_file shape (Some (length rows)) (arrays_of shape (take i rows)))
          (row shape (row_array shape item))
          ∙ ap (with_file (held c.args.shelf.now) name) (sym (group-more shape rows i item c.loop-row-test.true c.row-item.is));
      stream = c.in_ok-add.ensures.counted ∙ ap (λ (f : Stream). (record f { count = f.count + 1 })) c.loop-row.invariant.stream;
      within = omega (arith, c.loop-row-test.true);
      none = c.in_ok-add.ensures.cause ∙ c.loop-row.invariant.none;
    }

pub end-requires-clause-counted : goal.end-requires-clause-counted
end-requires-clause-counted g c =
    rw c.loop-row.invariant.stream (λ k is. let same : length c.args.rows.now ≡ c.loop-row.row-index =
    omega (arith, c.loop-row.invariant.within, c.loop-row-test.false) in cc)

pub end-requires-clause-stands : goal.end-requires-clause-stands
end-requires-clause-stands g c =
    let shape = c.args.shape.now in
    let rows = c.args.rows.now in
    rw (c.loop-row.invariant.stream, c.loop-row.invariant.files)
    (HasRange-begun_file (g.K.Shelf.held c.args.shelf.now) c.args.name.now shape (Some (length rows)) (arrays_of shape (take c.loop-row.row-index rows)))

pub returns-in_err-end-clause-err : goal.returns-in_err-end-clause-err
returns-in_err-end-clause-err g c =
    let p = err_from_is_err_and c.from_residual-in_err-end.result c.from_residual-in_err-end.ensures.1 in
    let same = (rw c.loop-row.invariant.stream at c.in_err-end.ensures.err) in
    rw p.1 (IsBegun-whole _ _ c.args.name.now _ (same ∙ c.loop-row.invariant.files
    ∙ ap (with_file (g.K.Shelf.held c.args.shelf.now) c.args.name.now)
    (group-whole c.args.shape.now c.args.rows.now c.loop-row.row-index c.loop-row-test.false)))

pub returns-clause-ok : goal.returns-clause-ok
returns-clause-ok g c =
    let same = (rw c.loop-row.invariant.stream at c.in_ok-end.ensures.ok) in
    same ∙ c.loop-row.invariant.files
    ∙ ap (with_file (g.K.Shelf.held c.args.shelf.now) c.args.name.now) (group-whole c.args.shape.now c.args.rows.now c.loop-row.row-index c.loop-row-test.false)

pub returns-in_err-add-clause-others : goal.returns-in_err-add-clause-others
returns-in_err-add-clause-others g c q other =
    let name : c.loop-row.file.name ≡ c.args.name.now = ap (λ (f : Stream). f.name) c.loop-row.invariant.stream in
    c.in_err-add.ensures.others q (subst (λ n. q ≢ n) (sym name) other)
    ∙ ap (λ w. file_at w q) c.loop-row.invariant.files ∙ file_at-with_file (g.K.Shelf.held c.args.shelf.now) c.args.name.now _ q other

pub returns-in_err-end-clause-others : goal.returns-in_err-end-clause-others
returns-in_err-end-clause-others g c q other =
    let name : c.loop-row.file.name ≡ c.args.name.now = ap (λ (f : Stream). f.name) c.loop-row.invariant.stream in
    c.in_err-end.ensures.others q (subst (λ n. q ≢ n) (sym name) other)
    ∙ ap (λ w. file_at w q) c.loop-row.invariant.files ∙ file_at-with_file (g.K.Shelf.held c.args.shelf.now) c.args.name.now _ q other

pub returns-clause-others : goal.returns-clause-others
returns-clause-others g c q other =
    ap (λ w. file_at w q) (returns-clause-ok g c) ∙ file_at-with_file (g.K.Shelf.held c.args.shelf.now) c.args.name.now _ q other
