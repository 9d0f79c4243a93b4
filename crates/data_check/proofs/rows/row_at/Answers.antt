use Rattle.std.proofs.Common.{◌≡◌, ℕ, [], ◌∷◌, ◌∙◌, ap, subst, sym, Vec, Global}
use Rattle.std.specs.List.{flat_map}
use Rattle.std.proofs.lemmas.Result.{IfOk-weaker}
use Rattle.nd_base.specs.Shapes.{array_of}
use Rattle.cdf_write.specs.Layout as layout
use Rattle.cdf_write.specs.Writable.{IsWritable}
use Rattle.chain_plain.specs.OneThread.{measure_of_array}
use Rattle.nd_stats.specs.Row as text
use Rattle.graph_files.specs.NodeShapes.{file_shape-IsWritable}
use Rattle.graph_files.specs.OutFiles.{file_shape}
use Rattle.graph_files.specs.RowLaws.{content-IsRow, content-array_of, head_is}
use Rattle.data_check.specs.Histories.{arrays_at}
use Rattle.data_check.specs.Rows.{row_by, IsRowKind}
use Rattle.data_check.specs.declared.rows.RowKind.{RowKind}
use Rattle.data_check.proofs.RowSteps.{row-one}
use Rattle.data_check.proofs.rows.row_at.Goals as goal

pub row_bytes-requires-clause-writable : goal.row_bytes-requires-clause-writable
row_bytes-requires-clause-writable c =
    let h = c.args.history.now in
    let same : c.in-Layout.shape.now ≡ file_shape h.graph h.stack c.args.node = subst (IsRowKind h c.args.node) c.in-Layout.is c.requires.kind in
    subst IsWritable (sym same) (file_shape-IsWritable h.graph h.stack c.args.node c.in_ok-array.ensures.known.kept.writable)

pub row_bytes-requires-clause-columns : goal.row_bytes-requires-clause-columns
row_bytes-requires-clause-columns c =
    let h = c.args.history.now in
    let same : c.in-Layout.shape.now ≡ file_shape h.graph h.stack c.args.node = subst (IsRowKind h c.args.node) c.in-Layout.is c.requires.kind in
    (content-IsRow h.graph h.stack c.args.node c.args.index c.in_ok-array.array c.in-Layout.shape.now c.head.result.now c.bytes.result.now
    c.in_ok-array.ensures.known.kept same c.in_ok-array.ensures.array c.head.ensures.attrs c.bytes.ensures.count).columns

pub row_bytes-requires-clause-samples : goal.row_bytes-requires-clause-samples
row_bytes-requires-clause-samples c =
    let h = c.args.history.now in
    let same : c.in-Layout.shape.now ≡ file_shape h.graph h.stack c.args.node = subst (IsRowKind h c.args.node) c.in-Layout.is c.requires.kind in
    (content-IsRow h.graph h.stack c.args.node c.args.index c.in_ok-array.array c.in-Layout.shape.now c.head.result.now c.bytes.result.now
    c.in_ok-array.ensures.known.kept same c.in_ok-array.ensures.array c.head.ensures.attrs c.bytes.ensures.count).samples

pub returns-in-Layout : goal.returns-in-Layout
returns-in-Layout c =
    let h = c.args.history.now in
    let v = c.args.node in
    let k = c.args.index in
    let a = c.in_ok-array.array in
    let shape = c.in-Layout.shape.now in
    let head = c.head.result.now in
    let made = c.in_ok-array.ensures.array in
    let same : shape ≡ file_shape h.graph h.stack v = subst (IsRowKind h v) c.in-Layout.is c.requires.kind in
    let own = head_is a head c.head.ensures.id c.head.ensures.stamp c.head.ensures.sec c.head.ensures.nsec c.head.ensures.attrs in
    let array : array_of head shape.kind shape.dims c.bytes.result.now ≡ a =
    content-array_of h.graph h.stack v k a shape head c.bytes.result.now c.in_ok-array.ensures.known.kept same made own c.bytes.ensures.samples in
    IfOk-weaker c.row_bytes.result (λ (row : Vec ℕ Global). row.items ≡ layout.row shape (array_of head shape.kind shape.dims c.bytes.result.now))
    (λ (row : Vec ℕ Global). row.items ≡ flat_map (row_by c.args.kind) (arrays_at h v (k ∷ [])))
    (λ row is. is ∙ (ap (layout.row shape) array ∙ (ap (λ (kind : RowKind). row_by kind a) (sym c.in-Layout.is)
    ∙ sym (row-one h.graph.nodes h.stack.arrays v (row_by c.args.kind) k a made)))) c.row_bytes.ensures

pub returns : goal.returns
returns c =
    let h = c.args.history.now in
    let v = c.args.node in
    let k = c.args.index in
    let a = c.in_ok-array.array in
    IfOk-weaker c.text_of.result (λ (row : Vec ℕ Global). row.items ≡ text.row (measure_of_array c.in-Text.rule.now a))
    (λ (row : Vec ℕ Global). row.items ≡ flat_map (row_by c.args.kind) (arrays_at h v (k ∷ [])))
    (λ row is. is ∙ (ap (λ (kind : RowKind). row_by kind a) (sym c.in-Text.is)
    ∙ sym (row-one h.graph.nodes h.stack.arrays v (row_by c.args.kind) k a c.in_ok-array.ensures.array))) c.text_of.ensures
