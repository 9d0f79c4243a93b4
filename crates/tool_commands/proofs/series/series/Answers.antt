use Rattle.std.proofs.Common.{◌≡◌, List, [], ap, sym, subst, refl, ◌∙◌, unwrap_or, inl}
use Rattle.std.specs.Option.{option_map}
use Rattle.std.proofs.lemmas.List.Elements.{All-nil}
use Rattle.std.proofs.lemmas.Result.{err_from_is_err_and}
use Rattle.file_out.specs.Saving.{IsBegun}
use Rattle.nd_series.specs.declared.region.Box4.{Box4}
use Rattle.nd_series.specs.Stacks.{series_of}
use Rattle.nd_series.specs.Text.{series_text}
use Rattle.nd_series.specs.Words.{regions_in}
use Rattle.edge_traits.specs.Files.{with_file}
use Rattle.tool_commands.specs.Answers.{objects_of}
use Rattle.tool_commands.specs.Command.{Series}
use Rattle.tool_commands.specs.Works.{IsBack, series_work}
use Rattle.tool_commands.proofs.Leads.{series_read}
use Rattle.tool_commands.proofs.StackFiles.{stops-one}
use Rattle.tool_commands.proofs.Stops.{Ends-save, Ends-printed}
use Rattle.tool_commands.proofs.Unread.{unread-to, saved-at, printed-at}
use Rattle.tool_commands.proofs.series.series.Goals as goal

pub returns-in_err-save_text-clause-ends : goal.returns-in_err-save_text-clause-ends
returns-in_err-save_text-clause-ends g c =
    let p = err_from_is_err_and c.from_residual-in_err-save_text.result c.from_residual-in_err-save_text.ensures.1 in
    let stack = c.in_ok-stack.stack in
    let name = c.args.name.now in
    let regions : List Box4 = unwrap_or (regions_in c.args.regions.now) [] in
    let found : c.in-Some.regions.items ≡ regions =
    ap (λ o. unwrap_or o []) (ap (option_map (λ v. v.items)) (sym c.in-Some.is) ∙ c.in_ok-regions.ensures.value) in
    let text : c.as_str.result.now ≡ series_text (series_of c.args.most regions stack.arrays) =
    c.as_str.ensures.value ∙ c.in_ok-text.ensures ∙ ap series_text c.in_ok-series.ensures
    ∙ ap (λ rs. series_text (series_of c.args.most rs stack.arrays)) (c.deref.ensures.value ∙ found) in
    let held = g.K.Shelf.held c.args.shelf.now in
    let now = g.K.Shelf.held c.save_text.new.shelf in
    let sink = g.T.Sink.written c.args.out.now in
    rw (p.1, p.2)
    (Ends-save (Series c.args.most regions c.args.stack.now name) (objects_of (g.L.Library.holds c.args.library.now) held now sink sink)
    (series_work c.args.most regions name stack)
    (series_read _ c.args.most regions c.args.stack.now name stack c.in_ok-stack.ensures.ok) _ _ _
    (stops-one c.in_err-save_text.field-0.0 held now name (series_text (series_of c.args.most regions stack.arrays)) _ _
    (subst (λ bytes. IsBegun held name bytes now) text c.in_err-save_text.ensures.err) c.in_err-save_text.ensures.cause) refl)

pub returns-clause-ends : goal.returns-clause-ends
returns-clause-ends g c =
    let stack = c.in_ok-stack.stack in
    let name = c.args.name.now in
    let regions : List Box4 = unwrap_or (regions_in c.args.regions.now) [] in
    let found : c.in-Some.regions.items ≡ regions =
    ap (λ o. unwrap_or o []) (ap (option_map (λ v. v.items)) (sym c.in-Some.is) ∙ c.in_ok-regions.ensures.value) in
    let text : c.as_str.result.now ≡ series_text (series_of c.args.most regions stack.arrays) =
    c.as_str.ensures.value ∙ c.in_ok-text.ensures ∙ ap series_text c.in_ok-series.ensures
    ∙ ap (λ rs. series_text (series_of c.args.most rs stack.arrays)) (c.deref.ensures.value ∙ found) in
    Ends-printed (Series c.args.most regions c.args.stack.now name)
    (objects_of (g.L.Library.holds c.args.library.now) (g.K.Shelf.held c.args.shelf.now) (g.K.Shelf.held c.save_text.new.shelf)
    (g.T.Sink.written c.args.out.now) (g.T.Sink.written c.print_frames.new.out)) (series_work c.args.most regions name stack)
    (series_read _ c.args.most regions c.args.stack.now name stack c.in_ok-stack.ensures.ok)
    (c.in_ok-save_text.ensures.ok ∙ ap (with_file (g.K.Shelf.held c.args.shelf.now) name) text) c.print_frames.result _ _ (All-nil IsBack)
    (rw c.frames.ensures at c.print_frames.ensures.ok) (rw c.frames.ensures at c.print_frames.ensures.err)

pub returns-in_err-stack-clause-unread : goal.returns-in_err-stack-clause-unread
returns-in_err-stack-clause-unread g c =
    let p = err_from_is_err_and c.from_residual.result c.from_residual.ensures.1 in
    rw (p.1, p.2) (unread-to _ _ (λ failed. inl failed) _ c.in_err-stack.ensures.unread)

pub returns-clause-unread : goal.returns-clause-unread
returns-clause-unread g c = printed-at _ c.print_frames.result _ _ _ _ _ c.print_frames.ensures.err
