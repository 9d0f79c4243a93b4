use Rattle.std.proofs.Common.{◌≡◌, ◌+◌, ◌-◌, ◌≤◌, Some, length, take, sym, ap, subst, ◌∙◌, arith}
use Rattle.std.specs.Prelude.{map, All}
use Rattle.std.proofs.lemmas.List.{length-map, take_all}
use Rattle.std.proofs.lemmas.List.Elements.{All-append}
use Rattle.std.proofs.lemmas.Result.{err_from_is_err_and}
use Rattle.edge_traits.specs.FileLaws.{Stands-with_file}
use Rattle.file_out.specs.Streams.{Stream}
use Rattle.file_out.specs.StreamLaws.{HasRange-begun_file}
use Rattle.stack_file.specs.Gathered.{IsGiven, part}
use Rattle.stack_file.proofs.Changing.{changed-IsKeptStack, changed-ReadsBack}
use Rattle.stack_file.proofs.Parts.{length-part, part-join}
use Rattle.stack_file.proofs.Writing.{begin-stops, rows-IsBegun, rows-stop, rows-next}
use Rattle.stack_file.proofs.saving.save_stack.Goals as goal

pub returns-in_err-file-clause-err : goal.returns-in_err-file-clause-err
returns-in_err-file-clause-err g c =
    let p = err_from_is_err_and c.from_residual-in_err-file.result c.from_residual-in_err-file.ensures.1 in
    let arrays = c.args.stack.now.arrays in
    let change = g.C.Change.change c.args.change.now in
    rw p.1 (begin-stops c.args.shape.now (map change arrays) (g.K.Shelf.held c.args.shelf.now) c.args.name.now _ c.frames-count.result
    c.in_err-file.field-0.0 (length-map arrays change ∙ sym c.frames-count.ensures) c.in_err-file.ensures.err)

pub returns-in_err-next-clause-err : goal.returns-in_err-next-clause-err
returns-in_err-next-clause-err g c =
    let p = err_from_is_err_and c.from_residual-in_err-next.result c.from_residual-in_err-next.ensures.1 in
    let changed = map (g.C.Change.change c.args.change.now) c.args.stack.now.arrays in
    rw p.1 (rows-IsBegun c.args.shape.now changed (g.K.Shelf.held c.args.shelf.now) c.args.name.now _ c.loop-done.done c.loop-done.invariant.files)

pub add_rows-requires-clause-rows : goal.add_rows-requires-clause-rows
add_rows-requires-clause-rows g c =
    let arrays = c.args.stack.now.arrays in
    let changed = map (g.C.Change.change c.args.change.now) arrays in
    let count : length changed ≡ length arrays = length-map arrays (g.C.Change.change c.args.change.now) in
    let within : c.in_ok-next.next ≤ length changed = omega (arith, count, c.in_ok-next.ensures.within) in
    rw c.loop-done.invariant.stream (
      part c.loop-done.done c.in_ok-next.next changed,
      length-part c.loop-done.done c.in_ok-next.next changed within,
      c.deref.ensures.value ∙ c.in_ok-next.ensures.rows.bytes,
    )

pub add_rows-requires-clause-stands : goal.add_rows-requires-clause-stands
add_rows-requires-clause-stands g c =
    rw (c.loop-done.invariant.stream, c.loop-done.invariant.files) (Stands-with_file (g.K.Shelf.held c.args.shelf.now) c.args.name.now _)

pub returns-in_err-add_rows-clause-err : goal.returns-in_err-add_rows-clause-err
returns-in_err-add_rows-clause-err g c =
    let p = err_from_is_err_and c.from_residual-in_err-add_rows.result c.from_residual-in_err-add_rows.ensures.1 in
    let changed = map (g.C.Change.change c.args.change.now) c.args.stack.now.arrays in
    let may = (rw c.loop-done.invariant.stream at c.in_err-add_rows.ensures.err) in
    rw p.1 (rows-stop c.args.shape.now changed (g.K.Shelf.held c.args.shelf.now) c.args.name.now (g.K.Shelf.held c.loop-done.shelf) _
    c.loop-done.done c.in_ok-next.next c.deref.result.now (omega (arith, c.in_ok-next.ensures.some)) (c.deref.ensures.value ∙ c.in_ok-next.ensures.rows.bytes)
    c.loop-done.invariant.files may)

pub loop-done-preserved : goal.loop-done-preserved
loop-done-preserved g c =
    let shape = c.args.shape.now in
    let arrays = c.args.stack.now.arrays in
    let changed = map (g.C.Change.change c.args.change.now) arrays in
    let done = c.loop-done.done in
    let next = c.in_ok-next.next in
    let h : done ≤ next = omega (arith, c.in_ok-next.ensures.some) in
    let added = (rw c.loop-done.invariant.stream at c.in_ok-add_rows.ensures.ok) in
    record {
      files =
          rows-next shape changed (g.K.Shelf.held c.args.shelf.now) c.args.name.now (g.K.Shelf.held c.loop-done.shelf) _ done next c.deref.result.now h
          (c.deref.ensures.value ∙ c.in_ok-next.ensures.rows.bytes) c.loop-done.invariant.files added;
      stream =
          c.in_ok-add_rows.ensures.counted ∙ ap (λ (f : Stream). (record f { count = f.count + (next - done) })) c.loop-done.invariant.stream
          ∙ ap (λ n. record { name = c.args.name.now; shape = shape; numrecs = Some (length arrays); room = length arrays; count = n })
          (let same : done + (next - done) ≡ next = omega (arith, h) in same);
      within = c.in_ok-next.ensures.within;
      given =
          subst (All (IsGiven shape)) (part-join done next changed h)
          (All-append (IsGiven shape) (take done changed) (part done next changed) c.loop-done.invariant.given c.in_ok-next.ensures.rows.given);
      room = c.in_ok-next.ensures.room;
      none = c.in_ok-add_rows.ensures.cause ∙ c.loop-done.invariant.none;
    }

pub end-requires-clause-stands : goal.end-requires-clause-stands
end-requires-clause-stands g c =
    let changed = map (g.C.Change.change c.args.change.now) c.args.stack.now.arrays in
    rw (c.loop-done.invariant.stream, c.loop-done.invariant.files)
    (HasRange-begun_file (g.K.Shelf.held c.args.shelf.now) c.args.name.now c.args.shape.now (Some (length changed)) (take c.loop-done.done changed))

pub returns-in_err-end-clause-err : goal.returns-in_err-end-clause-err
returns-in_err-end-clause-err g c =
    let p = err_from_is_err_and c.from_residual-in_err-end.result c.from_residual-in_err-end.ensures.1 in
    let changed = map (g.C.Change.change c.args.change.now) c.args.stack.now.arrays in
    let same = (rw c.loop-done.invariant.stream at c.in_err-end.ensures.err) in
    rw p.1 (rows-IsBegun c.args.shape.now changed (g.K.Shelf.held c.args.shelf.now) c.args.name.now _ c.loop-done.done (same ∙ c.loop-done.invariant.files))

pub returns-clause-kept : goal.returns-clause-kept
returns-clause-kept g c =
    let s = c.args.stack.now in
    let shape = c.args.shape.now in
    let change = g.C.Change.change c.args.change.now in
    let count : length (map change s.arrays) ≡ length s.arrays = length-map s.arrays change in
    let all = take_all c.loop-done.done (map change s.arrays) (omega (arith, count, c.frames-count.ensures, c.loop-done-test.false)) in
    changed-IsKeptStack (g.C.Change.dims c.args.change.now) change s shape
    (record { kept = c.requires.kept; same = c.requires.shape; writable = c.requires.writable }) c.requires.dims
    (subst (All (IsGiven shape)) all c.loop-done.invariant.given)

pub returns-clause-back : goal.returns-clause-back
returns-clause-back g c =
    let s = c.args.stack.now in
    let shape = c.args.shape.now in
    let change = g.C.Change.change c.args.change.now in
    let count : length (map change s.arrays) ≡ length s.arrays = length-map s.arrays change in
    let all = take_all c.loop-done.done (map change s.arrays) (omega (arith, count, c.frames-count.ensures, c.loop-done-test.false)) in
    changed-ReadsBack (g.C.Change.dims c.args.change.now) change s shape
    (record { kept = c.requires.kept; same = c.requires.shape; writable = c.requires.writable }) c.requires.dims
    (subst (All (IsGiven shape)) all c.loop-done.invariant.given) c.requires.within

pub returns-in_err-finish_all-clause-err : goal.returns-in_err-finish_all-clause-err
returns-in_err-finish_all-clause-err g c =
    let p = err_from_is_err_and c.from_residual-in_err-finish_all.result c.from_residual-in_err-finish_all.ensures.1 in
    let changed = map (g.C.Change.change c.args.change.now) c.args.stack.now.arrays in
    let same = (rw c.loop-done.invariant.stream at c.in_ok-end.ensures.ok) in
    rw p.1 (rows-IsBegun c.args.shape.now changed (g.K.Shelf.held c.args.shelf.now) c.args.name.now _ c.loop-done.done
    (c.in_err-finish_all.ensures.files ∙ same ∙ c.loop-done.invariant.files))
