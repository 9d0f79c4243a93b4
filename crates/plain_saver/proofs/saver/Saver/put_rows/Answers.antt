use Rattle.std.proofs.Common.{◌≡◌, ◌≤◌, ℕ, List, sym, ap, subst, ◌∙◌}
use Rattle.std.proofs.lemmas.Result.{err_from_is_err_and}
use Rattle.edge_traits.specs.Files.{MayAppend, Stands, with_more}
use Rattle.graph_files.specs.OutFiles.{stats_name}
use Rattle.plain_saver.specs.Saved.{IsSaved}
use Rattle.plain_saver.specs.Texts.{text_at}
use Rattle.plain_saver.proofs.TornSaved.{torn-saved, torn-row}
use Rattle.plain_saver.proofs.Standing.{HasFile-Stands}
use Rattle.plain_saver.proofs.RowSteps.{saved-put}
use Rattle.plain_saver.proofs.Pushed.{node-place}
use Rattle.plain_saver.proofs.saver.Saver.put_rows.Goals as goal

pub returns-in_err-file-clause-err : goal.returns-in_err-file-clause-err
returns-in_err-file-clause-err g c =
    let p = err_from_is_err_and c.from_residual.result c.from_residual.ensures.1 in
    rw p.1 (λ before h.
    torn-saved c.args.source.now.graph c.args.source.now.stack c.args.prefix.now c.known.ensures.graph c.known.ensures.kept before
    c.args.self.now.passes.items c.args.self.now.files (g.K.Shelf.held c.args.shelf.now) h)

pub text-requires : goal.text-requires
text-requires g c =
    let r = c.requires.rule in
    let at = node-place c.args.source.now.graph c.args.node r.0 r.1.1.0 in
    (at.0, subst (λ n. c.args.node ≤ n) (sym c.requires.saved.1.kept) at.1)

pub append-requires : goal.append-requires
append-requires g c =
    let r = c.requires.rule in
    let h = c.requires.saved.1 in
    let t = g.K.Shelf.held c.args.shelf.now in
    let name : c.as_str.result.now ≡ stats_name c.args.prefix.now r.0.name =
    c.as_str.ensures.value ∙ c.in_ok-file.ensures ∙ ap (stats_name c.args.prefix.now) (sym r.1.1.1) in
    subst (Stands t) (sym name) (HasFile-Stands t (stats_name c.args.prefix.now r.0.name) _ (h.rows c.args.node r.0 r.1.0 r.1.1.0 r.1.1.2).2)

pub returns-in_err-append-clause-err : goal.returns-in_err-append-clause-err
returns-in_err-append-clause-err g c =
    let w = err_from_is_err_and c.from_residual-in_err-append.result c.from_residual-in_err-append.ensures.1 in
    let graph = c.args.source.now.graph in
    let s = c.args.source.now.stack in
    let prefix = c.args.prefix.now in
    let ts = c.args.self.now.texts in
    let v = c.args.node in
    let t = g.K.Shelf.held c.args.shelf.now in
    let u = g.K.Shelf.held c.append.new.self in
    let r = c.requires.rule in
    let name : c.as_str.result.now ≡ stats_name prefix r.0.name = c.as_str.ensures.value ∙ c.in_ok-file.ensures ∙ ap (stats_name prefix) (sym r.1.1.1) in
    rw w.1 (λ before h.
    torn-row graph s prefix c.known.ensures.graph c.known.ensures.kept before c.args.self.now.passes.items c.args.self.now.files t h v r.0 r.1.0 r.1.1.0
    r.1.1.2 u (subst (λ (n : List ℕ). MayAppend t n (text_at ts v) u) name
    (subst (λ (b : List ℕ). MayAppend t c.as_str.result.now b u) c.text.ensures c.in_err-append.ensures.err)))

pub empty-requires : goal.empty-requires
empty-requires g c =
    let r = c.requires.rule in
    let at = node-place c.args.source.now.graph c.args.node r.0 r.1.1.0 in
    (at.0, subst (λ n. c.args.node ≤ n) (sym c.requires.saved.1.kept) at.1)

pub returns-clause-saved : goal.returns-clause-saved
returns-clause-saved g c = λ before h.
    let graph = c.args.source.now.graph in
    let s = c.args.source.now.stack in
    let prefix = c.args.prefix.now in
    let ps = c.args.self.now.passes.items in
    let ts = c.args.self.now.texts in
    let v = c.args.node in
    let t = g.K.Shelf.held c.args.shelf.now in
    let u = g.K.Shelf.held c.append.new.self in
    let r = c.requires.rule in
    let name : c.as_str.result.now ≡ stats_name prefix r.0.name = c.as_str.ensures.value ∙ c.in_ok-file.ensures ∙ ap (stats_name prefix) (sym r.1.1.1) in
    let added : u ≡ with_more t (stats_name prefix r.0.name) (text_at ts v) =
    c.in_ok-append.ensures.ok ∙ ap (λ n. with_more t n c.text.result.now) name ∙ ap (with_more t (stats_name prefix r.0.name)) c.text.ensures in
    subst (λ (us : List (List ℕ)). IsSaved graph s prefix before ps us c.args.self.now.files u) (sym c.empty.ensures)
    (saved-put graph s prefix before t ps ts c.args.self.now.files c.known.ensures.graph h v r.0 r.1.0 r.1.1.0 r.1.1.2 u added)
