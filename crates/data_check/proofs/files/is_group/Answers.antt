use Rattle.std.proofs.Common.{◌≡◌, ◌≢◌, ℕ, Bool, List, [], ◌++◌, length, sym, ap, subst, ◌∙◌, Some}
use Rattle.std.specs.Prelude.{Option}
use Rattle.std.specs.List.{flat_map}
use Rattle.std.proofs.lemmas.Result.{IfOk-weaker}
use Rattle.edge_traits.specs.Files.{Files}
use Rattle.cdf_write.specs.Layout.{header, layout, row}
use Rattle.cdf_write.specs.Lengths.{length_of}
use Rattle.cdf_write.specs.Writable.{IsWritable}
use Rattle.graph_files.specs.NodeShapes.{file_shape-IsWritable}
use Rattle.graph_files.specs.OutgoingLaws.{length-arrays_out}
use Rattle.data_check.specs.ComparedFiles.{HasOther}
use Rattle.data_check.specs.Fronts.{HasFront, LacksFront, GoesOn, IsVerdict}
use Rattle.data_check.specs.Histories.{arrays_at}
use Rattle.data_check.proofs.Fronts.{lacks-more, lacks-other, size-other}
use Rattle.data_check.proofs.Verdicts.{group-length, sized-verdict}
use Rattle.data_check.proofs.files.is_group.Goals as goal

pub file_length-requires : goal.file_length-requires
file_length-requires g c =
    let h = c.args.history.now in
    subst IsWritable (sym c.requires.shape) (file_shape-IsWritable h.graph h.stack c.args.node c.known.ensures.kept.writable)

pub header_of-requires-clause-writable : goal.header_of-requires-clause-writable
header_of-requires-clause-writable g c =
    let h = c.args.history.now in
    subst IsWritable (sym c.requires.shape) (file_shape-IsWritable h.graph h.stack c.args.node c.known.ensures.kept.writable)

pub returns-then-from-file_length-clause-verdict : goal.returns-then-from-file_length-clause-verdict
returns-then-from-file_length-clause-verdict g c =
    let held : Option Files = g.L.Library.holds c.args.library.now in
    let shape = c.args.shape.now in
    let bytes = layout shape (arrays_at c.args.history.now c.args.node c.args.positions.now) in
    let long = group-length c.args.history.now c.args.node shape c.args.positions.now c.known.ensures c.requires.shape c.requires.frames in
    let apart : c.in_ok-front.front.size ≢ length bytes =
    λ same. c.if-from-file_length.true (c.from.ensures ∙ (c.size.ensures ∙ (same ∙ (long
    ∙ sym (c.file_length.ensures ∙ ap (length_of shape) c.from-2.ensures))))) in
    subst (λ name. HasOther held name bytes) c.in_ok-front.ensures.name (size-other held c.in_ok-front.front [] bytes c.in_ok-front.ensures.front apart)

pub returns-then-not-branch-clause-verdict : goal.returns-then-not-branch-clause-verdict
returns-then-not-branch-clause-verdict g c =
    let held : Option Files = g.L.Library.holds c.args.library.now in
    let h = c.args.history.now in
    let shape = c.args.shape.now in
    let arrays = arrays_at h c.args.node c.args.positions.now in
    let front = c.goes_on.new.self in
    let first : HasFront (g.L.Library.holds c.of.new.library) c.in_ok-front.front [] =
    subst (λ (told : Option Files). HasFront told c.in_ok-front.front []) (sym c.in_ok-front.ensures.files) c.in_ok-front.ensures.front in
    let off : LacksFront (g.L.Library.holds c.of.new.library) front.name c.deref.result.now =
    subst (λ (b : Bool). GoesOn b (g.L.Library.holds c.of.new.library) front c.deref.result.now) c.if-not-branch.true (c.in_ok-goes_on.ensures.goes [] first) in
    let here : LacksFront held front.name c.deref.result.now =
    subst (λ (told : Option Files). LacksFront told front.name c.deref.result.now) c.in_ok-front.ensures.files off in
    let count : length c.args.positions.now ≡ length arrays =
    sym (length-arrays_out h.graph.nodes h.stack.arrays c.args.node c.args.positions.now c.requires.frames) in
    let head : c.deref.result.now ≡ header shape (Some (length arrays)) =
    c.deref.ensures.value ∙ (c.in_ok-header.ensures ∙ ap (λ n. header shape (Some n)) count) in
    let lacks : LacksFront held front.name (layout shape arrays) =
    lacks-more held front.name (header shape (Some (length arrays))) (flat_map (row shape) arrays) (subst (LacksFront held front.name) head here) in
    subst (λ name. HasOther held name (layout shape arrays)) (c.in_ok-goes_on.ensures.name ∙ c.in_ok-front.ensures.name)
    (lacks-other held front.name (layout shape arrays) lacks)

pub returns-clause-verdict : goal.returns-clause-verdict
returns-clause-verdict g c =
    let held : Option Files = g.L.Library.holds c.args.library.now in
    let h = c.args.history.now in
    let shape = c.args.shape.now in
    let arrays = arrays_at h c.args.node c.args.positions.now in
    let rows : List ℕ = flat_map (row shape) arrays in
    let long = group-length h c.args.node shape c.args.positions.now c.known.ensures c.requires.shape c.requires.frames in
    let first : HasFront (g.L.Library.holds c.of.new.library) c.in_ok-front.front [] =
    subst (λ (told : Option Files). HasFront told c.in_ok-front.front []) (sym c.in_ok-front.ensures.files) c.in_ok-front.ensures.front in
    let on : HasFront (g.L.Library.holds c.of.new.library) c.goes_on.new.self c.deref.result.now =
    subst (λ (b : Bool). GoesOn b (g.L.Library.holds c.of.new.library) c.goes_on.new.self c.deref.result.now) c.if-not-branch.false
    (c.in_ok-goes_on.ensures.goes [] first) in
    let there : HasFront (g.L.Library.holds c.goes_on.new.library) c.goes_on.new.self c.deref.result.now =
    subst (λ (told : Option Files). HasFront told c.goes_on.new.self c.deref.result.now) (sym c.in_ok-goes_on.ensures.files) on in
    let files : g.L.Library.holds c.goes_on.new.library ≡ held = c.in_ok-goes_on.ensures.files ∙ c.in_ok-front.ensures.files in
    let count : length c.args.positions.now ≡ length arrays =
    sym (length-arrays_out h.graph.nodes h.stack.arrays c.args.node c.args.positions.now c.requires.frames) in
    let head : c.deref.result.now ≡ header shape (Some (length arrays)) =
    c.deref.ensures.value ∙ (c.in_ok-header.ensures ∙ ap (λ n. header shape (Some n)) count) in
    let name = c.go_on.ensures.name ∙ (c.in_ok-goes_on.ensures.name ∙ c.in_ok-front.ensures.name) in
    let size : c.go_on.new.front.size ≡ length (layout shape arrays) =
    c.go_on.ensures.size ∙ (c.in_ok-goes_on.ensures.size ∙ (sym c.size.ensures ∙ (sym c.from.ensures ∙ (c.if-from-file_length.false
    ∙ (c.file_length.ensures ∙ (ap (length_of shape) c.from-2.ensures ∙ sym long)))))) in
    IfOk-weaker c.go_on.result
    (λ same. (before : List ℕ) → HasFront (g.L.Library.holds c.goes_on.new.library) c.goes_on.new.self before
    → GoesOn same (g.L.Library.holds c.goes_on.new.library) c.go_on.new.front (before ++ rows))
    (λ same. IsVerdict same held c.args.file.now (layout shape arrays))
    (λ same goes. sized-verdict same held c.go_on.new.front c.args.file.now (layout shape arrays) name size
    (subst (λ (told : Option Files). GoesOn same told c.go_on.new.front (layout shape arrays)) files
    (subst (λ bytes. GoesOn same (g.L.Library.holds c.goes_on.new.library) c.go_on.new.front (bytes ++ rows)) head (goes c.deref.result.now there))))
    c.go_on.ensures.goes
