use Rattle.std.proofs.Common.{◌≡◌, ◌≤◌, Some, subst, refl, rules}
use Rattle.std.proofs.lemmas.Result.{err_from_is_err_and}
use Rattle.file_out.specs.StreamLaws.{HasRange-HasRows}
use Rattle.graph_files.specs.NodeFiles.{IsFilled, Same}
use Rattle.graph_files.proofs.Torn.{changed-count, changed-may}
use Rattle.graph_files.proofs.Writes.{end-some, end-stops, end-rows, end-changed}
use Rattle.graph_files.proofs.node_files.NodeFiles.end.Goals as goal

pub end-requires-clause-stands : goal.end-requires-clause-stands
end-requires-clause-stands g c =
    let x = c.args.self.now in
    let is : x.current ≡ Some c.in-Some.file = search rules in
    let some : 1 ≤ x.count = search rules in
    let w = c.requires.written in
    let t = g.K.Shelf.held c.args.shelf.now in
    HasRange-HasRows t c.in-Some.file _ (end-rows x t t some w.0 w.1 c.in-Some.file is (Same refl))

pub returns-in_err-end-clause-err : goal.returns-in_err-end-clause-err
returns-in_err-end-clause-err g c =
    let p = err_from_is_err_and c.from_residual.result c.from_residual.ensures.1 in
    let x = c.args.self.now in
    let is : x.current ≡ Some c.in-Some.file = search rules in
    let some : 1 ≤ x.count = search rules in
    rw p.1 (λ arrays few h. end-stops x _ _ some arrays h c.in-Some.file is
    (changed-may _ _ c.in-Some.file.name c.in-Some.file.numrecs c.in-Some.file.count c.in_err-end.ensures.err) few c.in_err-end.ensures.err)

pub returns-in_err-end-clause-changed : goal.returns-in_err-end-clause-changed
returns-in_err-end-clause-changed g c =
    let x = c.args.self.now in
    let is : x.current ≡ Some c.in-Some.file = search rules in
    let some : 1 ≤ x.count = search rules in
    λ arrays h.
    end-changed x _ _ some arrays h c.in-Some.file is (changed-may _ _ c.in-Some.file.name c.in-Some.file.numrecs c.in-Some.file.count c.in_err-end.ensures.err)

pub returns-clause-ok : goal.returns-clause-ok
returns-clause-ok g c =
    let x = c.args.self.now in
    let is : x.current ≡ Some c.in-Some.file = search rules in
    let some : 1 ≤ x.count = search rules in
    let filled = subst IsFilled is c.requires.filled in
    λ arrays few h. end-some x _ _ some arrays h c.in-Some.file is
    (changed-count _ _ c.in-Some.file.name c.in-Some.file.numrecs c.in-Some.file.count c.in_ok-end.ensures.ok) few filled.0 c.in_ok-end.ensures.layout

pub returns-clause-changed : goal.returns-clause-changed
returns-clause-changed g c =
    let x = c.args.self.now in
    let is : x.current ≡ Some c.in-Some.file = search rules in
    let some : 1 ≤ x.count = search rules in
    λ arrays h.
    end-changed x _ _ some arrays h c.in-Some.file is (changed-count _ _ c.in-Some.file.name c.in-Some.file.numrecs c.in-Some.file.count c.in_ok-end.ensures.ok)
