use Rattle.std.proofs.Common.{◌≡◌, [], ap, sym, ◌∙◌}
use Rattle.std.proofs.lemmas.List.{append-nil}
use Rattle.std.proofs.lemmas.Result.{err_from_is_err_and}
use Rattle.edge_traits.specs.Files.{with_file, with_more}
use Rattle.edge_traits.specs.FileLaws.{Stands-with_file, Stands-with_more, with_more-with_file}
use Rattle.file_out.specs.BegunLaws.{IsBegun-create, IsBegun-append, IsBegun-whole}
use Rattle.tool_commands.proofs.printing.save_text.Goals as goal

pub returns-in_err-create-clause-err : goal.returns-in_err-create-clause-err
returns-in_err-create-clause-err g c =
    let p = err_from_is_err_and c.from_residual.result c.from_residual.ensures.1 in
    rw p.1 (IsBegun-create _ _ c.args.name.now _ c.in_err-create.ensures.err)

pub append-requires : goal.append-requires
append-requires g c = rw c.in_ok-create.ensures.ok (Stands-with_file (g.K.Shelf.held c.args.shelf.now) c.args.name.now [])

pub returns-in_err-append-clause-err : goal.returns-in_err-append-clause-err
returns-in_err-append-clause-err g c =
    let p = err_from_is_err_and c.from_residual-in_err-append.result c.from_residual-in_err-append.ensures.1 in
    rw p.1 (IsBegun-append _ _ _ c.args.name.now [] c.as_bytes.result.now [] c.args.text.now
    (sym c.as_bytes.ensures.value ∙ sym (append-nil c.as_bytes.result.now)) c.in_ok-create.ensures.ok c.in_err-append.ensures.err)

pub finish-requires : goal.finish-requires
finish-requires g c = rw c.in_ok-append.ensures.ok (Stands-with_more (g.K.Shelf.held c.create.new.self) c.args.name.now c.as_bytes.result.now)

pub returns-in_err-finish-clause-err : goal.returns-in_err-finish-clause-err
returns-in_err-finish-clause-err g c =
    let p = err_from_is_err_and c.from_residual-in_err-finish.result c.from_residual-in_err-finish.ensures.1 in
    let held = g.K.Shelf.held c.args.shelf.now in
    let name = c.args.name.now in
    let whole : g.K.Shelf.held c.finish.new.self ≡ with_file held name c.args.text.now =
    c.in_err-finish.ensures.files ∙ c.in_ok-append.ensures.ok ∙ ap (λ w. with_more w name c.as_bytes.result.now) c.in_ok-create.ensures.ok
    ∙ with_more-with_file held name [] c.as_bytes.result.now ∙ ap (with_file held name) c.as_bytes.ensures.value in
    rw p.1 (IsBegun-whole held (g.K.Shelf.held c.finish.new.self) name c.args.text.now whole)

pub returns-in_err-finish_all-clause-err : goal.returns-in_err-finish_all-clause-err
returns-in_err-finish_all-clause-err g c =
    let p = err_from_is_err_and c.from_residual-in_err-finish_all.result c.from_residual-in_err-finish_all.ensures.1 in
    let held = g.K.Shelf.held c.args.shelf.now in
    let name = c.args.name.now in
    let whole : g.K.Shelf.held c.finish_all.new.self ≡ with_file held name c.args.text.now =
    c.in_err-finish_all.ensures.files ∙ c.in_ok-finish.ensures.files ∙ c.in_ok-append.ensures.ok
    ∙ ap (λ w. with_more w name c.as_bytes.result.now) c.in_ok-create.ensures.ok
    ∙ with_more-with_file held name [] c.as_bytes.result.now ∙ ap (with_file held name) c.as_bytes.ensures.value in
    rw p.1 (IsBegun-whole held (g.K.Shelf.held c.finish_all.new.self) name c.args.text.now whole)

pub returns-clause-ok : goal.returns-clause-ok
returns-clause-ok g c =
    let held = g.K.Shelf.held c.args.shelf.now in
    let name = c.args.name.now in
    c.in_ok-finish_all.ensures.files ∙ c.in_ok-finish.ensures.files ∙ c.in_ok-append.ensures.ok ∙ ap (λ w. with_more w name c.as_bytes.result.now) c.in_ok-create.ensures.ok
    ∙ with_more-with_file held name [] c.as_bytes.result.now ∙ ap (with_file held name) c.as_bytes.ensures.value
