use Rattle.std.proofs.Common.{◌≡◌, [], ap, sym, ◌∙◌}
use Rattle.std.proofs.lemmas.List.{append-nil}
use Rattle.std.proofs.lemmas.Result.{err_from_is_err_and}
use Rattle.edge_traits.specs.Files.{file_at, with_file, with_more}
use Rattle.edge_traits.specs.FileLaws.{Stands-with_file, with_more-with_file, file_at-MayAppend, file_at-MayCreate, file_at-with_file}
use Rattle.cdf_write.specs.Layout.{header}
use Rattle.file_out.specs.Streams.{Stream}
use Rattle.file_out.specs.StreamLaws.{HasRows-begun}
use Rattle.file_out.specs.BegunLaws.{IsBegun-create, IsBegun-append}
use Rattle.file_out.proofs.stream.StreamFile.begin.Goals as goal

pub returns-in_err-create-clause-err : goal.returns-in_err-create-clause-err
returns-in_err-create-clause-err g c =
    let p = err_from_is_err_and c.from_residual-in_err-create.result c.from_residual-in_err-create.ensures.1 in
    rw (p.1, p.2) (IsBegun-create _ _ c.args.name.now _ c.in_err-create.ensures.err)

pub append-requires : goal.append-requires
append-requires g c = rw c.in_ok-create.ensures.ok (Stands-with_file (g.K.Shelf.held c.args.shelf.now) c.args.name.now [])

pub returns-in_err-append-clause-err : goal.returns-in_err-append-clause-err
returns-in_err-append-clause-err g c =
    let p = err_from_is_err_and c.from_residual-in_err-append.result c.from_residual-in_err-append.ensures.1 in
    let text : c.deref.result.now ≡ header c.args.shape.now c.args.numrecs = c.deref.ensures.value ∙ c.in_ok-header.ensures in
    rw (p.1, p.2) (IsBegun-append _ _ _ c.args.name.now [] (header c.args.shape.now c.args.numrecs) [] _
    (sym (append-nil (header c.args.shape.now c.args.numrecs))) c.in_ok-create.ensures.ok (rw (← text) c.in_err-append.ensures.err))

pub returns-clause-ok : goal.returns-clause-ok
returns-clause-ok g c =
    let text : c.deref.result.now ≡ header c.args.shape.now c.args.numrecs = c.deref.ensures.value ∙ c.in_ok-header.ensures in
    let held = g.K.Shelf.held in
    let name = c.args.name.now in
    c.in_ok-append.ensures.ok ∙ ap (λ w. with_more w name c.deref.result.now) c.in_ok-create.ensures.ok
    ∙ with_more-with_file (held c.args.shelf.now) name [] c.deref.result.now ∙ ap (with_file (held c.args.shelf.now) name) text

pub returns-in_err-create-clause-others : goal.returns-in_err-create-clause-others
returns-in_err-create-clause-others g c q other = file_at-MayCreate _ _ c.args.name.now q c.in_err-create.ensures.err other

pub returns-in_err-append-clause-others : goal.returns-in_err-append-clause-others
returns-in_err-append-clause-others g c q other =
    file_at-MayAppend _ _ c.args.name.now _ q c.in_err-append.ensures.err other
    ∙ ap (λ w. file_at w q) c.in_ok-create.ensures.ok ∙ file_at-with_file (g.K.Shelf.held c.args.shelf.now) c.args.name.now [] q other

pub returns-clause-others : goal.returns-clause-others
returns-clause-others g c q other =
    ap (λ w. file_at w q) (returns-clause-ok g c)
    ∙ file_at-with_file (g.K.Shelf.held c.args.shelf.now) c.args.name.now (header c.args.shape.now c.args.numrecs) q other

pub returns-clause-rows : goal.returns-clause-rows
returns-clause-rows g c =
    HasRows-begun (g.K.Shelf.held c.args.shelf.now) _ _ (ap (λ (f : Stream). f.count) c.in_ok-file.ensures)
    (returns-clause-ok g c ∙ ap (λ (f : Stream). with_file (g.K.Shelf.held c.args.shelf.now) f.name (header f.shape f.numrecs)) (sym c.in_ok-file.ensures))
