use Rattle.std.proofs.Common.{◌≡◌, ◌≢◌, ◌+◌, ap, sym, subst, ◌∙◌, arith}
use Rattle.std.specs.List.{flat_map}
use Rattle.edge_traits.specs.Files.{file_at, with_more}
use Rattle.edge_traits.specs.FileLaws.{file_at-MayAppend, file_at-with_more}
use Rattle.cdf_write.specs.Layout.{row}
use Rattle.file_out.specs.Streams.{Stream}
use Rattle.file_out.specs.StreamLaws.{rows_few, HasRows-rows}
use Rattle.file_out.proofs.stream.StreamFile.add_rows.Goals as goal

pub overflow_add-self : goal.overflow_add-self
overflow_add-self g c =
    let few = rows_few c.self.inside.shape c.self.inside.room c.self.invariant.within in
    let count : c.self.inside.count ≡ c.args.self.now.count = ap (λ (s : Stream). s.count) c.self.view_is in
    let room : c.self.inside.room ≡ c.args.self.now.room = ap (λ (s : Stream). s.room) c.self.view_is in
    omega (arith, few, count, room, c.requires.room)

pub returns-clause-rows : goal.returns-clause-rows
returns-clause-rows g c =
    let s = c.args.self.now in
    let held = g.K.Shelf.held c.args.shelf.now in
    let name : c.text.result.now ≡ s.name = c.text.ensures ∙ ap (λ (f : Stream). f.name) c.self.view_is in
    let counted = ap (λ (f : Stream). (record f { count = f.count + c.args.count })) c.self.view_is in
    λ arrays more many is rows.
    let written : g.K.Shelf.held c.append.new.self ≡ with_more held s.name (flat_map (row s.shape) more) =
    c.in_ok-append.ensures.ok ∙ ap (λ n. with_more held n c.args.rows.now) name ∙ ap (with_more held s.name) is in
    rw (written, counted, ← many) (HasRows-rows held s arrays more rows)

pub returns-in_err-append-clause-others : goal.returns-in_err-append-clause-others
returns-in_err-append-clause-others g c q other =
    let name : c.text.result.now ≡ c.args.self.now.name = c.text.ensures ∙ ap (λ (f : Stream). f.name) c.self.view_is in
    file_at-MayAppend _ _ c.text.result.now _ q c.in_err-append.ensures.err (subst (λ n. q ≢ n) (sym name) other)

pub returns-clause-others : goal.returns-clause-others
returns-clause-others g c q other =
    let name : c.text.result.now ≡ c.args.self.now.name = c.text.ensures ∙ ap (λ (f : Stream). f.name) c.self.view_is in
    ap (λ w. file_at w q) c.in_ok-append.ensures.ok
    ∙ file_at-with_more (g.K.Shelf.held c.args.shelf.now) c.text.result.now c.args.rows.now q (subst (λ n. q ≢ n) (sym name) other)
