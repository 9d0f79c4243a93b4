use Rattle.std.proofs.Common.{◌≡◌, ◌+◌, ◌<◌, ◌^◌, [], Some, None, sym, ap, subst, refl, ◌∙◌, arith, rules, ltb}
use Rattle.std.proofs.lemmas.Result.{err_from_is_err_and}
use Rattle.nd_base.specs.Array.{Array}
use Rattle.nd_base.specs.Shapes.{array_of}
use Rattle.nd_base.specs.declared.attribute.FileShape.{FileShape}
use Rattle.edge_traits.specs.Files.{with_file}
use Rattle.cdf_write.specs.Layout.{header}
use Rattle.file_out.specs.Saving.{BeginStops}
use Rattle.file_out.specs.Streams.{Stream, HasRows}
use Rattle.graph_files.specs.Groups.{group_of}
use Rattle.graph_files.specs.NodeFiles.{NodeFile, HasNumrecs, IsChangedAt, Wrote, first_count, name_of, stream_of}
use Rattle.graph_files.specs.NodeFileLaws.{open-is, open-has, none-is, changed-then}
use Rattle.graph_files.proofs.Torn.{changed-begin}
use Rattle.graph_files.proofs.Writes.{on-ok, if-err, ended-by, numrecs-after, some-goes, some-stops, begin-stops, none-goes, none-stops}
use Rattle.graph_files.proofs.node_files.NodeFiles.write.Goals as goal

pub add_row-requires-clause-room : goal.add_row-requires-clause-room
add_row-requires-clause-room g c =
    let x = c.args.self.now in
    let is : x.current ≡ Some c.in-Some.file = search rules in
    let w = c.requires.written in
    let f = open-is x w.0 c.args.group c.args.place _ w.1 w.2 c.in-Some.file is in
    (ap (λ (k : Stream). k.room) f ∙ (let e : x.room ≡ c.self.inside.room = search rules in e), ap (λ (k : Stream). k.count) f, search rules)

pub add_row-requires-clause-rows : goal.add_row-requires-clause-rows
add_row-requires-clause-rows g c =
    let x = c.args.self.now in
    let is : x.current ≡ Some c.in-Some.file = search rules in
    let w = c.requires.written in
    let f = open-is x w.0 c.args.group c.args.place _ w.1 w.2 c.in-Some.file is in (
      group_of x.count c.args.group w.0,
      subst (λ (k : Stream). HasRows (g.K.Shelf.held c.args.shelf.now) k (group_of x.count c.args.group w.0)) (sym f)
          (open-has x w.0 c.args.group c.args.place _ w.1 w.2 c.in-Some.file is),
    )

pub returns-in-Some-clause-numrecs : goal.returns-in-Some-clause-numrecs
returns-in-Some-clause-numrecs g c =
    let x = c.args.self.now in
    let is : x.current ≡ Some c.in-Some.file = search rules in
    let w = c.requires.written in
    let f = open-is x w.0 c.args.group c.args.place _ w.1 w.2 c.in-Some.file is in
    let rows =
    subst (λ (k : Stream). HasRows (g.K.Shelf.held c.args.shelf.now) k (group_of x.count c.args.group w.0)) (sym f)
    (open-has x w.0 c.args.group c.args.place _ w.1 w.2 c.in-Some.file is) in
    let given : c.in-Some.file.numrecs ≡ first_count x.late c.args.of = subst (HasNumrecs (first_count x.late c.args.of)) is c.requires.numrecs in
    numrecs-after c.add_row.result _ _ c.in-Some.file _ _ _ _ _ (first_count x.late c.args.of) given rows c.add_row.ensures.ok c.add_row.ensures.err

pub returns-in-Some-clause-ok : goal.returns-in-Some-clause-ok
returns-in-Some-clause-ok g c =
    let x = c.args.self.now in
    let is : x.current ≡ Some c.in-Some.file = search rules in
    let node : c.add_row.new.self ≡ record x { current = c.add_row.new.self.current } = search rules in
    let many : c.self.inside.count ≡ x.count = search rules in
    let small : c.args.group < 2 ^ 64 = omega arith in
    let make : FileShape → Array = λ shape. array_of c.args.head.now shape.kind shape.dims c.args.samples.now in
    on-ok c.add_row.result c.add_row.ensures.ok (λ ok arrays place h.
    some-goes x c.add_row.new.self c.args.group c.args.place small make _ _ node arrays place h c.in-Some.file is
    c.add_row.ensures.changed c.self.inside.count many ok)

pub returns-in-Some-clause-err : goal.returns-in-Some-clause-err
returns-in-Some-clause-err g c =
    let x = c.args.self.now in
    let is : x.current ≡ Some c.in-Some.file = search rules in
    let node : c.add_row.new.self ≡ record x { current = c.add_row.new.self.current } = search rules in
    let many : c.self.inside.count ≡ x.count = search rules in
    let small : c.args.group < 2 ^ 64 = omega arith in
    let make : FileShape → Array = λ shape. array_of c.args.head.now shape.kind shape.dims c.args.samples.now in
    let given : c.in-Some.file.numrecs ≡ first_count x.late c.args.of = subst (HasNumrecs (first_count x.late c.args.of)) is c.requires.numrecs in
    if-err c.add_row.result c.add_row.ensures.err (λ fault stops arrays place h.
    some-stops x c.add_row.new.self c.args.group c.args.place small make _ _ node arrays place h c.in-Some.file is c.add_row.ensures.changed fault
    c.self.inside.count many (first_count x.late c.args.of) given stops)

pub returns-in-Some-clause-changed : goal.returns-in-Some-clause-changed
returns-in-Some-clause-changed g c =
    let x = c.args.self.now in
    let is : x.current ≡ Some c.in-Some.file = search rules in
    let w = c.requires.written in
    let f = open-is x w.0 c.args.group c.args.place _ w.1 w.2 c.in-Some.file is in
    subst (λ (k : Stream). IsChangedAt (g.K.Shelf.held c.args.shelf.now) k.name (g.K.Shelf.held c.add_row.new.shelf)) f c.add_row.ensures.changed

pub returns-in_err-file-in-None-clause-err : goal.returns-in_err-file-in-None-clause-err
returns-in_err-file-in-None-clause-err g c =
    let p = err_from_is_err_and c.from_residual.result c.from_residual.ensures.1 in
    let x = c.args.self.now in
    let none_ : x.current ≡ None = search rules in
    let small : c.args.group < 2 ^ 64 = omega arith in
    let make : FileShape → Array = λ shape. array_of c.args.head.now shape.kind shape.dims c.args.samples.now in
    let t = g.K.Shelf.held c.args.shelf.now in
    let u = g.K.Shelf.held c.begin.new.shelf in
    let fault = c.in_err-file-in-None.field-0.0 in
    let stops : BeginStops fault t (name_of x c.args.group) (header x.shape (first_count x.late c.args.of)) u =
    subst (λ (k : NodeFile). BeginStops fault t (name_of k c.args.group) (header k.shape (first_count k.late c.args.of)) u) c.self.view_is
    c.in_err-file-in-None.ensures.err in
    rw (p.1, p.2) (λ arrays place h. begin-stops x _ c.args.group c.args.place small make t u (search rules) arrays place h none_
    (first_count x.late c.args.of) fault (search rules) stops)

pub returns-in_err-file-in-None-clause-changed : goal.returns-in_err-file-in-None-clause-changed
returns-in_err-file-in-None-clause-changed g c =
    let x = c.args.self.now in
    let t = g.K.Shelf.held c.args.shelf.now in
    let u = g.K.Shelf.held c.begin.new.shelf in
    let fault = c.in_err-file-in-None.field-0.0 in
    changed-begin fault t u (name_of x c.args.group) _
    (subst (λ (k : NodeFile). BeginStops fault t (name_of k c.args.group) (header k.shape (first_count k.late c.args.of)) u)
    c.self.view_is c.in_err-file-in-None.ensures.err)

pub add_row-requires-in-None-clause-room : goal.add_row-requires-in-None-clause-room
add_row-requires-in-None-clause-room g c =
    let x = c.args.self.now in
    let none_ : x.current ≡ None = search rules in
    let w = c.requires.written in
    let first = none-is x w.0 c.args.group c.args.place _ w.1 w.2 none_ in
    let value = c.in_ok-file-in-None.ensures.value in
    (ap (λ (k : Stream). k.room) value, ap (λ (k : Stream). k.count) value ∙ sym first, search rules)

pub returns-in_ok-file-in-None-clause-numrecs : goal.returns-in_ok-file-in-None-clause-numrecs
returns-in_ok-file-in-None-clause-numrecs g c =
    let x = c.args.self.now in
    let f = c.in_ok-file-in-None.file in
    let value = subst (λ (k : NodeFile). f ≡ stream_of k c.args.group 0 (first_count k.late c.args.of)) c.self.view_is c.in_ok-file-in-None.ensures.value in
    numrecs-after c.add_row-in-None.result _ _ f [] _ _ _ _ (first_count x.late c.args.of)
    (ap (λ (k : Stream). k.numrecs) value) c.in_ok-file-in-None.ensures.rows
    c.add_row-in-None.ensures.ok c.add_row-in-None.ensures.err

pub returns-in_ok-file-in-None-clause-ok : goal.returns-in_ok-file-in-None-clause-ok
returns-in_ok-file-in-None-clause-ok g c =
    let x = c.args.self.now in
    let none_ : x.current ≡ None = search rules in
    let node : c.add_row-in-None.new.self ≡ record x { current = c.add_row-in-None.new.self.current } = search rules in
    let many : c.self.inside.count ≡ x.count = search rules in
    let small : c.args.group < 2 ^ 64 = omega arith in
    let make : FileShape → Array = λ shape. array_of c.args.head.now shape.kind shape.dims c.args.samples.now in
    let f = c.in_ok-file-in-None.file in
    let t = g.K.Shelf.held c.args.shelf.now in
    let v = g.K.Shelf.held c.begin.new.shelf in
    let value = subst (λ (k : NodeFile). f ≡ stream_of k c.args.group 0 (first_count k.late c.args.of)) c.self.view_is c.in_ok-file-in-None.ensures.value in
    let made =
    subst (λ (k : NodeFile). v ≡ with_file t (name_of k c.args.group) (header k.shape (first_count k.late c.args.of)))
    c.self.view_is c.in_ok-file-in-None.ensures.ok in
    on-ok c.add_row-in-None.result c.add_row-in-None.ensures.ok (λ ok arrays place h.
    none-goes x c.add_row-in-None.new.self c.args.group c.args.place small make t _ node arrays place h none_
    (first_count x.late c.args.of) f value v made c.in_ok-file-in-None.ensures.rows
    c.add_row-in-None.ensures.changed c.self.inside.count many ok)

pub returns-in_ok-file-in-None-clause-err : goal.returns-in_ok-file-in-None-clause-err
returns-in_ok-file-in-None-clause-err g c =
    let x = c.args.self.now in
    let none_ : x.current ≡ None = search rules in
    let node : c.add_row-in-None.new.self ≡ record x { current = c.add_row-in-None.new.self.current } = search rules in
    let many : c.self.inside.count ≡ x.count = search rules in
    let small : c.args.group < 2 ^ 64 = omega arith in
    let make : FileShape → Array = λ shape. array_of c.args.head.now shape.kind shape.dims c.args.samples.now in
    let f = c.in_ok-file-in-None.file in
    let t = g.K.Shelf.held c.args.shelf.now in
    let v = g.K.Shelf.held c.begin.new.shelf in
    let value = subst (λ (k : NodeFile). f ≡ stream_of k c.args.group 0 (first_count k.late c.args.of)) c.self.view_is c.in_ok-file-in-None.ensures.value in
    let made =
    subst (λ (k : NodeFile). v ≡ with_file t (name_of k c.args.group) (header k.shape (first_count k.late c.args.of)))
    c.self.view_is c.in_ok-file-in-None.ensures.ok in
    if-err c.add_row-in-None.result c.add_row-in-None.ensures.err (λ fault stops arrays place h.
    none-stops x c.add_row-in-None.new.self c.args.group c.args.place small make t _ node arrays place h none_
    (first_count x.late c.args.of) f value v made c.in_ok-file-in-None.ensures.rows
    c.add_row-in-None.ensures.changed fault c.self.inside.count many stops)

pub returns-in_ok-file-in-None-clause-changed : goal.returns-in_ok-file-in-None-clause-changed
returns-in_ok-file-in-None-clause-changed g c =
    let x = c.args.self.now in
    let f = c.in_ok-file-in-None.file in
    let t = g.K.Shelf.held c.args.shelf.now in
    let v = g.K.Shelf.held c.begin.new.shelf in
    let u = g.K.Shelf.held c.add_row-in-None.new.shelf in
    let value = subst (λ (k : NodeFile). f ≡ stream_of k c.args.group 0 (first_count k.late c.args.of)) c.self.view_is c.in_ok-file-in-None.ensures.value in
    let made =
    subst (λ (k : NodeFile). v ≡ with_file t (name_of k c.args.group) (header k.shape (first_count k.late c.args.of)))
    c.self.view_is c.in_ok-file-in-None.ensures.ok in
    changed-then t v u (name_of x c.args.group) (Wrote _ made) (subst (λ (k : Stream). IsChangedAt v k.name u) value c.add_row-in-None.ensures.changed)

pub returns-in-Some-clause-ended : goal.returns-in-Some-clause-ended
returns-in-Some-clause-ended g c =
    let x = c.args.self.now in
    let is : x.current ≡ Some c.in-Some.file = search rules in
    let many : c.self.inside.count ≡ x.count = search rules in
    let w = c.requires.written in
    let f = open-is x w.0 c.args.group c.args.place _ w.1 w.2 c.in-Some.file is in
    let rows =
    subst (λ (k : Stream). HasRows (g.K.Shelf.held c.args.shelf.now) k (group_of x.count c.args.group w.0)) (sym f)
    (open-has x w.0 c.args.group c.args.place _ w.1 w.2 c.in-Some.file is) in
    on-ok c.add_row.result c.add_row.ensures.ok (λ ok last. ended-by (ltb (c.args.place + 1) c.self.inside.count) c.in-Some.file _ c.add_row.new.self.current
    (g.K.Shelf.held c.add_row.new.shelf) (c.args.place + 1) c.self.inside.count refl (last ∙ sym many) (ok _ rows))

pub returns-in_ok-file-in-None-clause-ended : goal.returns-in_ok-file-in-None-clause-ended
returns-in_ok-file-in-None-clause-ended g c =
    let x = c.args.self.now in
    let many : c.self.inside.count ≡ x.count = search rules in
    on-ok c.add_row-in-None.result c.add_row-in-None.ensures.ok
    (λ ok last. ended-by (ltb (c.args.place + 1) c.self.inside.count) c.in_ok-file-in-None.file _ c.add_row-in-None.new.self.current
    (g.K.Shelf.held c.add_row-in-None.new.shelf) (c.args.place + 1) c.self.inside.count refl (last ∙ sym many) (ok [] c.in_ok-file-in-None.ensures.rows))
