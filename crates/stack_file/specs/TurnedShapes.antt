-- LAWS: the shape of arrays in another orientation can be written as well, and their file is as long.
use Rattle.std.specs.Prelude.{◌≡◌, ℕ, ◌+◌, ◌*◌, Bool, true, false, List, [], ◌∷◌, All, FitsSigned}
use Rattle.std.specs.Int.{w32}
use Rattle.std.specs.List.{sum_by}
use Rattle.std.proofs.Common.{ap, sym, ◌∙◌}
use Rattle.std.proofs.lemmas.List.Elements.{All-cons, All-head, All-tail}
use Rattle.nd_base.specs.declared.array.Dim.{Dim}
use Rattle.nd_base.specs.declared.attribute.FileShape.{FileShape}
use Rattle.nd_base.specs.declared.form.Form.TheVariants.{Classic}
use Rattle.nd_base.specs.Samples.{width}
use Rattle.cdf_write.specs.Columns.{kind_size}
use Rattle.cdf_write.specs.Layout.{header_length}
use Rattle.cdf_write.specs.Lengths.{attr_header_length, extra_header_length, length_of, offset_length, row_length}
use Rattle.cdf_write.specs.LengthLaws.{header_length_is, row_length_is}
use Rattle.cdf_write.specs.Spelling.{padded_length}
use Rattle.cdf_write.specs.Writable.{IsWritable}
use Rattle.cdf_write.specs.WritableLaws.{shape_for-IsWritable}
use Rattle.nd_stack.specs.LayoutShape.{HasSmallDims}
use Rattle.nd_orient.specs.Orientation.{turn_of, run_over, turned_dims, oriented_dims}
use Rattle.nd_orient.specs.ShapeLaws.{length-oriented_dims, oriented_dims-count, oriented_dims-has_dimensions}
use Rattle.stack_file.specs.ChangedStacks.{changed_shape}

-- it can be written
pub oriented-IsWritable : (mode : ℕ) (shape : FileShape) → IsWritable shape → IsWritable (changed_shape (oriented_dims mode) shape)
oriented-IsWritable mode shape h =
    shape_for-IsWritable shape Classic shape.kind (oriented_dims mode shape.dims) h (oriented_dims-has_dimensions mode shape.dims ∙ h.dimensions)
    (rw (oriented_dims-count mode shape.dims) h.samples)

-- what holds of each dimension however it is run over
turned-All : (P : Dim → Type 0) → ((down : Bool) (d : Dim) → P d → P (run_over down d)) → (swaps x y : Bool) (dims : List Dim) → All P dims
    → All P (turned_dims (record { swaps = swaps; x_down = x; y_down = y }) dims)
turned-All P keeps swaps x y [] h = h
turned-All P keeps swaps x y (d ∷ []) h = h
turned-All P keeps true x y (d ∷ e ∷ dims) h =
    let rest = All-tail P d (e ∷ dims) h in
    All-cons P (run_over x e) (run_over y d ∷ dims) (keeps x e (All-head P e dims rest))
    (All-cons P (run_over y d) dims (keeps y d (All-head P d (e ∷ dims) h)) (All-tail P e dims rest))
turned-All P keeps false x y (d ∷ e ∷ dims) h =
    let rest = All-tail P d (e ∷ dims) h in
    All-cons P (run_over x d) (run_over y e ∷ dims) (keeps x d (All-head P d (e ∷ dims) h))
    (All-cons P (run_over y e) dims (keeps y e (All-head P e dims rest)) (All-tail P e dims rest))

-- the numbers of its dimensions are within their types
pub oriented-HasSmallDims : (mode : ℕ) (shape : FileShape) → HasSmallDims shape → HasSmallDims (changed_shape (oriented_dims mode) shape)
oriented-HasSmallDims mode shape h =
    let t = turn_of mode in
    record {
      offsets = turned-All (λ d. FitsSigned w32 d.offset) (λ down d small. small) t.swaps t.x_down t.y_down shape.dims h.offsets;
      binnings = turned-All (λ d. FitsSigned w32 d.binning) (λ down d small. small) t.swaps t.x_down t.y_down shape.dims h.binnings;
    }

-- a file of as many arrays is as long
pub oriented-length_of : (mode : ℕ) (shape : FileShape) (count : ℕ)
    → length_of (changed_shape (oriented_dims mode) shape) count ≡ length_of (record shape { form = Classic }) count
oriented-length_of mode shape count =
    let turned = changed_shape (oriented_dims mode) shape in
    let plain : FileShape = record shape { form = Classic } in
    let attrs = sum_by (attr_header_length Classic) shape.attrs in
    let extras = sum_by extra_header_length shape.extras in
    let values = sum_by (λ a. padded_length (kind_size shape.width a.kind)) shape.attrs in
    let front : header_length turned ≡ header_length plain =
    header_length_is turned ∙ ap (λ n. 456 + 5 * offset_length Classic + 32 * n + attrs + extras) (length-oriented_dims mode shape.dims)
    ∙ sym (header_length_is plain) in
    let each : row_length turned ≡ row_length plain =
    row_length_is turned ∙ ap (λ n. 20 + padded_length (n * width shape.kind) + values) (oriented_dims-count mode shape.dims) ∙ sym (row_length_is plain) in
    ap (λ n. n + count * row_length turned) front ∙ ap (λ n. header_length plain + count * n) each
