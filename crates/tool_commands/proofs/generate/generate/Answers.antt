use Rattle.std.proofs.Common.{◌≡◌, ◌≤◌, Some, Ok, length, map, ap, sym, subst, refl, ◌∙◌}
use Rattle.std.proofs.lemmas.List.{map-id}
use Rattle.std.proofs.lemmas.List.FromFn.{length-map-range_with_len}
use Rattle.std.proofs.lemmas.Result.{err_from_is_err_and}
use Rattle.nd_base.specs.Array.{Array}
use Rattle.nd_base.specs.Forms.{longest_of}
use Rattle.nd_base.specs.declared.form.Form.TheVariants.{Classic}
use Rattle.edge_traits.specs.Written.{with_written-nothing}
use Rattle.cdf_write.specs.Layout.{layout}
use Rattle.cdf_write.specs.Lengths.{length_of}
use Rattle.file_out.specs.Saving.{IsBegun}
use Rattle.nd_stack.specs.Generated.{generated_array, generated_shape, generated_stack}
use Rattle.nd_stack.specs.GeneratedLaws.{generated-within}
use Rattle.nd_stack.specs.RoundTrip.{ReadsBack}
use Rattle.stack_file.specs.ChangedStacks.{with_stack_file}
use Rattle.tool_commands.specs.Answers.{objects_of}
use Rattle.tool_commands.specs.Command.{Gen}
use Rattle.tool_commands.specs.Outcomes.{Leads}
use Rattle.tool_commands.specs.Works.{gen_work, outcome_of}
use Rattle.tool_commands.proofs.StackFiles.{written, stops, groups_back}
use Rattle.tool_commands.proofs.Stops.{Ends-save}
use Rattle.tool_commands.proofs.generate.generate.Goals as goal

pub save_stack-requires-clause-within : goal.save_stack-requires-clause-within
save_stack-requires-clause-within g c =
    let r = c.args.rule in
    let within = generated-within r.frames r.width r.height r.kind c.in-Ok.ensures.accepted in
    rw (c.shape.ensures.value, c.in-Ok.ensures.value)
    (subst (λ n. length_of (generated_shape r.width r.height r.kind) n ≤ longest_of Classic)
    (sym (length-map-range_with_len (generated_array r.width r.height r.kind r.start) 0 r.frames)) within)

pub returns-in_err-save_stack-clause-ends : goal.returns-in_err-save_stack-clause-ends
returns-in_err-save_stack-clause-ends g c told sink =
    let p = err_from_is_err_and c.from_residual.result c.from_residual.ensures.1 in
    let r = c.args.rule in
    let name = c.args.name.now in
    let s = generated_stack r.frames r.width r.height r.kind r.start in
    let held = g.K.Shelf.held c.args.shelf.now in
    let now = g.K.Shelf.held c.save_stack.new.shelf in
    let read : Leads told (outcome_of (Some (Gen r name))) (Ok (gen_work r name)) = rw c.in-Ok.ensures.accepted refl in
    let begun : IsBegun held name (layout s.shape s.arrays) now =
    subst (λ xs. IsBegun held name (layout s.shape xs) now) (map-id s.arrays)
    (rw (c.shape.ensures.value, c.in-Ok.ensures.value) at c.in_err-save_stack.ensures.err) in
    let some : 1 ≤ length s.arrays = (rw c.in-Ok.ensures.value at c.in_err-save_stack.ensures.some) in
    rw (p.1, p.2)
    (Ends-save (Gen r name) (objects_of told held now sink sink) (gen_work r name) read _ _ _
    (stops c.in_err-save_stack.field-0.0 held now name s.shape s.arrays _ _ some begun c.in_err-save_stack.ensures.cause) refl)

pub returns-clause-ends : goal.returns-clause-ends
returns-clause-ends g c told sink =
    let r = c.args.rule in
    let name = c.args.name.now in
    let s = generated_stack r.frames r.width r.height r.kind r.start in
    let held = g.K.Shelf.held c.args.shelf.now in
    let made : g.K.Shelf.held c.save_stack.new.shelf ≡ with_stack_file held name s.shape (map (λ (a : Array). a) s.arrays) =
    (rw (c.shape.ensures.value, c.in-Ok.ensures.value) at c.in_ok-save_stack.ensures.ok) in
    let back : 1 ≤ length s.arrays → ReadsBack s.shape (map (λ (a : Array). a) s.arrays) =
    (rw (c.shape.ensures.value, c.in-Ok.ensures.value) at c.in_ok-save_stack.ensures.back) in
    record {
      work = gen_work r name;
      read = rw c.in-Ok.ensures.accepted refl;
      files = made ∙ ap (with_stack_file held name s.shape) (map-id s.arrays) ∙ written held name s.shape s.arrays;
      back = groups_back s.shape s.arrays (subst (λ xs. 1 ≤ length s.arrays → ReadsBack s.shape xs) (map-id s.arrays) back);
      printed = sym (with_written-nothing sink);
    }
