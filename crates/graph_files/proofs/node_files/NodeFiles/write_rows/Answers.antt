use Rattle.std.proofs.Common.{◌≡◌, ◌+◌, ◌-◌, ◌<◌, ◌≤◌, ◌^◌, Some, None, sym, ap, subst, ◌∙◌, arith, rules}
use Rattle.std.specs.List.{flat_map}
use Rattle.std.proofs.lemmas.Result.{err_from_is_err_and}
use Rattle.nd_base.specs.declared.attribute.FileShape.{FileShape}
use Rattle.edge_traits.specs.Files.{with_file}
use Rattle.cdf_write.specs.Layout.{header, row}
use Rattle.file_out.specs.Saving.{BeginStops}
use Rattle.file_out.specs.Streams.{Stream, HasRows}
use Rattle.graph_files.specs.Groups.{group_of}
use Rattle.graph_files.specs.NodeFiles.{NodeFile, HasNumrecs, IsSized, first_count, name_of, stream_of}
use Rattle.graph_files.specs.NodeFileLaws.{open-is, open-has, none-is}
use Rattle.graph_files.proofs.RowsInTurn.{sized-numrecs, go-some, go-none, stops-begin}
use Rattle.graph_files.proofs.node_files.NodeFiles.write_rows.Goals as goal

pub put_rows-requires-clause-room : goal.put_rows-requires-clause-room
put_rows-requires-clause-room g c =
    let x = c.args.self.now in
    let is : x.current ≡ Some c.in-Some.file = search rules in
    let w = c.requires.written in
    let f = open-is x w.0 c.args.group c.args.place _ w.1 w.2 c.in-Some.file is in (
      ap (λ (k : Stream). k.room) f ∙ (let e : x.room ≡ c.self.inside.room = search rules in e),
      ap (λ (k : Stream). k.count) f,
      let e : x.room ≡ c.self.inside.room = search rules in subst (λ n. c.args.place + c.args.count ≤ n) e c.requires.room,
    )

pub put_rows-requires-clause-numrecs : goal.put_rows-requires-clause-numrecs
put_rows-requires-clause-numrecs g c =
    let x = c.args.self.now in
    let is : x.current ≡ Some c.in-Some.file = search rules in
    let given : c.in-Some.file.numrecs ≡ first_count x.late c.args.of = subst (HasNumrecs (first_count x.late c.args.of)) is c.requires.numrecs in
    let e : x.room ≡ c.self.inside.room = search rules in
    sized-numrecs x.late c.args.of c.in-Some.file.numrecs (c.args.place + c.args.count - 1) c.self.inside.room given
    (subst (λ n. IsSized x.late (c.args.place + c.args.count - 1) n c.args.of) e c.requires.sized)

pub put_rows-requires-clause-stands : goal.put_rows-requires-clause-stands
put_rows-requires-clause-stands g c =
    let x = c.args.self.now in
    let is : x.current ≡ Some c.in-Some.file = search rules in
    let w = c.requires.written in
    let f = open-is x w.0 c.args.group c.args.place _ w.1 w.2 c.in-Some.file is in (
      group_of x.count c.args.group w.0,
      subst (λ (k : Stream). HasRows (g.K.Shelf.held c.args.shelf.now) k (group_of x.count c.args.group w.0)) (sym f)
          (open-has x w.0 c.args.group c.args.place _ w.1 w.2 c.in-Some.file is),
    )

pub put_rows-requires-clause-rows : goal.put_rows-requires-clause-rows
put_rows-requires-clause-rows g c =
    let x = c.args.self.now in
    let is : x.current ≡ Some c.in-Some.file = search rules in
    let w = c.requires.written in
    let f = open-is x w.0 c.args.group c.args.place _ w.1 w.2 c.in-Some.file is in
    let r = c.requires.rows in
    (r.0, r.1, r.2 ∙ ap (λ (s : FileShape). flat_map (row s) r.0) (sym (ap (λ (k : Stream). k.shape) f)))

pub returns-in-Some-clause-goes : goal.returns-in-Some-clause-goes
returns-in-Some-clause-goes g c =
    let x = c.args.self.now in
    let f = c.in-Some.file in
    let is : x.current ≡ Some f = search rules in
    let many : c.self.inside.count ≡ x.count = search rules in
    let small : c.args.group < 2 ^ 64 = omega arith in
    let w = c.requires.written in
    let this = open-is x w.0 c.args.group c.args.place _ w.1 w.2 f is in
    let given : f.numrecs ≡ first_count x.late c.args.of = subst (HasNumrecs (first_count x.late c.args.of)) is c.requires.numrecs in
    let few : x.room ≤ x.count = subst (λ (k : NodeFile). k.room ≤ k.count) c.self.view_is c.self.invariant.few in
    let rows =
    subst (λ (k : Stream). HasRows (g.K.Shelf.held c.args.shelf.now) k (group_of x.count c.args.group w.0)) (sym this)
    (open-has x w.0 c.args.group c.args.place _ w.1 w.2 f is) in
    go-some c.put_rows.result x c.args.of c.args.group c.args.place small c.args.count c.self.inside.count many c.requires.some
    (omega (arith, few, c.requires.room)) c.args.rows.now _ f _ _ is this given (group_of x.count c.args.group w.0) rows
    c.put_rows.ensures.ok c.put_rows.ensures.ended c.put_rows.ensures.err c.put_rows.ensures.failed

pub returns-in_err-file-in-None-clause-goes : goal.returns-in_err-file-in-None-clause-goes
returns-in_err-file-in-None-clause-goes g c =
    let p = err_from_is_err_and c.from_residual.result c.from_residual.ensures.1 in
    let x = c.args.self.now in
    let none_ : x.current ≡ None = search rules in
    let t = g.K.Shelf.held c.args.shelf.now in
    let u = g.K.Shelf.held c.begin.new.shelf in
    let fault = c.in_err-file-in-None.field-0.0 in
    let stops : BeginStops fault t (name_of x c.args.group) (header x.shape (first_count x.late c.args.of)) u =
    subst (λ (k : NodeFile). BeginStops fault t (name_of k c.args.group) (header k.shape (first_count k.late c.args.of)) u) c.self.view_is
    c.in_err-file-in-None.ensures.err in
    rw (p.1, p.2) (λ more many parts. stops-begin x c.args.of c.args.group c.args.place more fault _ t u none_ (search rules) stops)

pub put_rows-requires-in-None-clause-room : goal.put_rows-requires-in-None-clause-room
put_rows-requires-in-None-clause-room g c =
    let x = c.args.self.now in
    let none_ : x.current ≡ None = search rules in
    let w = c.requires.written in
    let first = none-is x w.0 c.args.group c.args.place _ w.1 w.2 none_ in
    let value = c.in_ok-file-in-None.ensures.value in
    let e : x.room ≡ c.self.inside.room = search rules in
    (ap (λ (k : Stream). k.room) value, ap (λ (k : Stream). k.count) value ∙ sym first, subst (λ n. c.args.place + c.args.count ≤ n) e c.requires.room)

pub put_rows-requires-in-None-clause-numrecs : goal.put_rows-requires-in-None-clause-numrecs
put_rows-requires-in-None-clause-numrecs g c =
    let x = c.args.self.now in
    let f = c.in_ok-file-in-None.file in
    let value = subst (λ (k : NodeFile). f ≡ stream_of k c.args.group 0 (first_count k.late c.args.of)) c.self.view_is c.in_ok-file-in-None.ensures.value in
    let e : x.room ≡ c.self.inside.room = search rules in
    sized-numrecs x.late c.args.of f.numrecs (c.args.place + c.args.count - 1) c.self.inside.room (ap (λ (k : Stream). k.numrecs) value)
    (subst (λ n. IsSized x.late (c.args.place + c.args.count - 1) n c.args.of) e c.requires.sized)

pub put_rows-requires-in-None-clause-rows : goal.put_rows-requires-in-None-clause-rows
put_rows-requires-in-None-clause-rows g c =
    let f = c.in_ok-file-in-None.file in
    let value = subst (λ (k : NodeFile). f ≡ stream_of k c.args.group 0 (first_count k.late c.args.of)) c.self.view_is c.in_ok-file-in-None.ensures.value in
    let r = c.requires.rows in
    (r.0, r.1, r.2 ∙ ap (λ (s : FileShape). flat_map (row s) r.0) (sym (ap (λ (k : Stream). k.shape) value)))

pub returns-in_ok-file-in-None-clause-goes : goal.returns-in_ok-file-in-None-clause-goes
returns-in_ok-file-in-None-clause-goes g c =
    let x = c.args.self.now in
    let none_ : x.current ≡ None = search rules in
    let many : c.self.inside.count ≡ x.count = search rules in
    let small : c.args.group < 2 ^ 64 = omega arith in
    let f = c.in_ok-file-in-None.file in
    let t = g.K.Shelf.held c.args.shelf.now in
    let v = g.K.Shelf.held c.begin.new.shelf in
    let w = c.requires.written in
    let first = none-is x w.0 c.args.group c.args.place _ w.1 w.2 none_ in
    let few : x.room ≤ x.count = subst (λ (k : NodeFile). k.room ≤ k.count) c.self.view_is c.self.invariant.few in
    let value = subst (λ (k : NodeFile). f ≡ stream_of k c.args.group 0 (first_count k.late c.args.of)) c.self.view_is c.in_ok-file-in-None.ensures.value in
    let made =
    subst (λ (k : NodeFile). v ≡ with_file t (name_of k c.args.group) (header k.shape (first_count k.late c.args.of)))
    c.self.view_is c.in_ok-file-in-None.ensures.ok in
    go-none c.put_rows-in-None.result x c.args.of c.args.group c.args.place small c.args.count c.self.inside.count many c.requires.some
    (omega (arith, few, c.requires.room)) c.args.rows.now _ f t v _ none_ first value made c.in_ok-file-in-None.ensures.rows
    c.put_rows-in-None.ensures.ok c.put_rows-in-None.ensures.ended c.put_rows-in-None.ensures.err c.put_rows-in-None.ensures.failed
