-- The netCDF files of a plain run read back as their arrays.
use Rattle.std.specs.Prelude.{◌≡◌, ℕ, suc, ◌+◌, ◌-◌, ◌*◌, ◌/◌, ◌<◌, ◌≤◌, min, ℤ, pos, negsuc, ◌+ℤ◌, ◌*ℤ◌, List, [], ◌∷◌, length, take, drop, Option, Some}
use Rattle.std.specs.Prelude.{None, All, FitsSigned, refl}
use Rattle.std.specs.Int.{w32, int_min}
use Rattle.std.specs.List.{range_with_len}
use Rattle.std.proofs.Common.{get_or, subst, arith}
use Rattle.std.proofs.Math.Nat.{div-mul-le_self, mul-le-mul_right, suc-mul}
use Rattle.std.proofs.lemmas.Int.{ints, int_min_is, int_max_is}
use Rattle.std.proofs.lemmas.List.{length-take, length-drop}
use Rattle.std.proofs.lemmas.List.Elements.{All-nil, All-cons, All-take, All-drop, All-map, All-from_get_or}
use Rattle.std.proofs.lemmas.List.FromFn.{length-range_with_len, get_or-range_with_len}
use Rattle.nd_base.specs.Array.{Array, StackValue}
use Rattle.nd_base.specs.declared.array.Dim.{Dim}
use Rattle.nd_base.specs.declared.attribute.FileShape.{FileShape}
use Rattle.nd_base.specs.declared.graph.Graph.{Graph}
use Rattle.nd_base.specs.declared.graph.Kind.{Kind}
use Rattle.nd_base.specs.declared.graph.Kind.TheVariants.{Roi, Stats, Circular, File, Scatter}
use Rattle.nd_base.specs.declared.graph.NodeRule.{NodeRule}
use Rattle.nd_base.specs.declared.graph.RoiRule.{RoiRule}
use Rattle.nd_base.specs.GraphRules.{IsGraph, IsKind, IsFile, rule_at}
use Rattle.nd_base.specs.SampleLaws.{IsSample}
use Rattle.nd_roi.specs.Cut.{clamped_i32, cut, cut_dim, dims_from, region_dims}
use Rattle.nd_base.specs.Places.{indices, sizes_of}
use Rattle.nd_roi.specs.Region.{out_type, region}
use Rattle.nd_roi.specs.RegionLaws.{reduced-IsSample}
use Rattle.nd_base.specs.Forms.{longest_of}
use Rattle.cdf_write.specs.Lengths.{length_of}
use Rattle.cdf_write.specs.Writable.{HasShape}
use Rattle.nd_stack.specs.KeptStacks.{IsKeptStack, IsKeptStack-ReadsBack}
use Rattle.nd_stack.specs.RoundTrip.{IsKept, ReadsBack}
use Rattle.chain_plain.specs.declared.shape.Shape.{Shape}
use Rattle.chain_plain.specs.ContentLaws.{passed_on-both}
use Rattle.chain_plain.specs.OneThread.{arrays_out, groups, outputs, files_of, kind_files}
use Rattle.chain_plain.specs.PassingLaws.{rule_within}
use Rattle.chain_plain.specs.Passing.{out_of}
use Rattle.chain_plain.specs.Plans.{region_shape, stack_shape, shape_at}
use Rattle.chain_plain.proofs.Rules.{stands}
use Rattle.graph_conf.specs.Loads.{limit_fault}
use Rattle.graph_files.specs.OutFiles.{file_shape}
use Rattle.graph_files.specs.NodeShapes.{file_shape-IsWritable, length_of-le, longest_fits}
use Rattle.graph_files.specs.OutgoingLaws.{length-arrays_out, arrays_out-all, out_has_shape}
use Rattle.chain_plain.specs.PassedLaws.{passed-frames, passed-few, passed-step}
use Rattle.chain_plain.specs.PlainRun.{passed, passed_to, result_of}

-- DIMENSIONS

clamped_fits : (z : ℤ) → FitsSigned w32 (clamped_i32 z)
clamped_fits z = omega (arith, ints, int_min_is z (pos 2147483647), int_max_is (negsuc 2147483647) (int_min z (pos 2147483647)))

module _ (P : Dim → Type 0) (each : (r : RoiRule) (k : ℕ) (d : Dim) → P (cut_dim d (cut r k d.size))) where
  dims_from-all : (r : RoiRule) (k : ℕ) (dims : List Dim) → All P (dims_from r k dims)
  dims_from-all r k [] = All-nil P
  dims_from-all r k (d ∷ dims) = All-cons P _ (dims_from r (suc k) dims) (each r k d) (dims_from-all r (suc k) dims)

  -- what holds of every cut, and of the stack's dimensions, holds of those of a node's files
  dims_at : (g : Graph) (s : StackValue) (v : ℕ) → All P s.shape.dims → All P (shape_at g.nodes s.shape v).dims
  dims_at g s v all =
      passed_on-both (λ (t u : Shape). All P t.dims) region_shape region_shape (λ r t u h. dims_from-all r 0 t.dims) g.nodes (length g.nodes) v
      (stack_shape s.shape) (stack_shape s.shape) all

region-IsKept : (r : RoiRule) (a : Array) → IsKept a → IsKept (region r a)
region-IsKept r a h =
    record {
      id = h.id;
      stamp = h.stamp;
      sec = h.sec;
      nsec = h.nsec;
      samples = All-map (IsSample (out_type r a.kind)) _ (indices (sizes_of (region_dims r a.dims))) (λ i d within. reduced-IsSample (out_type r a.kind) _);
      attrs = h.attrs;
    }

out_of-IsKept : (nodes : List NodeRule) (v : ℕ) (a : Array) → IsKept a → IsKept (out_of region nodes v a)
out_of-IsKept nodes v a h = passed_on-both (λ (b c : Array). IsKept b) region region (λ r b c kept. region-IsKept r b kept) nodes (length nodes) v a a h

-- THE ARRAYS THAT GO OUT OF A NODE

-- arrays of a shape
abbrev stack_with : FileShape → List Array → StackValue
stack_with shape arrays = record { shape = shape; arrays = arrays }

-- they keep to what a stack keeps to
out-IsKeptStack : (g : Graph) (s : StackValue) (v : ℕ) (ks : List ℕ) → IsKeptStack s → length (arrays_out g.nodes s.arrays v ks) ≤ length s.arrays
    → IsKeptStack (stack_with (file_shape g s v) (arrays_out g.nodes s.arrays v ks))
out-IsKeptStack g s v ks kept few =
    record {
      writable = file_shape-IsWritable g s v kept.writable;
      names = record { attrs = kept.names.attrs; extras = kept.names.extras };
      dims = record {
        offsets = dims_at (λ d. FitsSigned w32 d.offset) (λ r k d. clamped_fits (d.offset +ℤ pos (cut r k d.size).min)) g s v kept.dims.offsets;
        binnings = dims_at (λ d. FitsSigned w32 d.binning) (λ r k d. clamped_fits (d.binning *ℤ pos (cut r k d.size).bin)) g s v kept.dims.binnings;
      };
      each =
          arrays_out-all (HasShape (file_shape g s v)) g.nodes s.arrays v ks (λ i d within. out_has_shape g s v (get_or s.arrays i d) (kept.each i d within));
      kept = arrays_out-all IsKept g.nodes s.arrays v ks (λ i d within. out_of-IsKept g.nodes v (get_or s.arrays i d) (kept.kept i d within));
      few = omega (arith, few, kept.few);
    }

-- GROUPS

-- a group that isn't past the end has an array
begins_within : (n count g : ℕ) → 1 ≤ count → g < (n + (count - 1)) / count → g * count < n
begins_within n count g some within =
    let whole : (n + (count - 1)) / count * count ≤ n + (count - 1) = div-mul-le_self (n + (count - 1)) count in
    let rows : suc g * count ≤ (n + (count - 1)) / count * count = mul-le-mul_right count within in
    let one : suc g * count ≡ g * count + count = suc-mul g count in
    omega (arith, whole, rows, one, some)

-- each group of arrays that keep to what a stack keeps to reads back, where the longest file isn't too long
groups_back : (shape : FileShape) (count : ℕ) (arrays : List Array) → IsKeptStack (stack_with shape arrays) → 1 ≤ count
    → length_of shape (min count (length arrays)) ≤ longest_of shape.form → All (ReadsBack shape) (groups count arrays)
groups_back shape count arrays kept some within =
    let piece = λ (g : ℕ). take count (drop (g * count) arrays) in
    let n : ℕ = (length arrays + (count - 1)) / count in
    All-map (ReadsBack shape) piece (range_with_len 0 n)
    (All-from_get_or (λ g. ReadsBack shape (piece g)) (range_with_len 0 n) 0 (λ i inside.
    let g = get_or (range_with_len 0 n) i 0 in
    let below : i < n = omega (arith, inside, length-range_with_len 0 n) in
    let is : g ≡ 0 + i = get_or-range_with_len 0 n i 0 below in
    let begin = begins_within (length arrays) count g some (omega (arith, is, below)) in
    let long = length-take count (drop (g * count) arrays) in
    let rest = length-drop (g * count) arrays in
    let fits = length_of-le shape (length (piece g)) (min count (length arrays)) (omega (arith, long, rest)) in
    IsKeptStack-ReadsBack (stack_with shape (piece g))
    (record {
      writable = kept.writable;
      names = kept.names;
      dims = kept.dims;
      each = All-take (HasShape shape) count (drop (g * count) arrays) (All-drop (HasShape shape) (g * count) arrays kept.each);
      kept = All-take IsKept count (drop (g * count) arrays) (All-drop IsKept (g * count) arrays kept.kept);
      few = omega (arith, long, rest, kept.few);
    })
    (omega (arith, long, rest, begin, some)) (omega (arith, fits, within))))

-- THE LAW

module _ (g : Graph) (s : StackValue) (sound : IsGraph g) (kept : IsKeptStack s) (within : limit_fault g s ≡ None) (v : ℕ) where
  abbrev shape : FileShape
  shape = file_shape g s v

  -- the arrays that go out of the node
  abbrev out : List Array
  out = arrays_out g.nodes s.arrays v (passed g s v)

  out-few : length out ≤ length s.arrays
  out-few = omega (arith, length-arrays_out g.nodes s.arrays v (passed g s v) (passed-frames g s v), passed-few g s v)

  kind_back : (n : NodeRule) (kind : Kind) → Some n ≡ rule_at g.nodes v → n.kind ≡ kind → All (ReadsBack shape) (kind_files kind out)
  kind_back n (File r) is same =
      let rule : IsFile r = subst IsKind same (stands g v n sound is).sound.kind in
      let no_longer = length_of-le shape (min r.count (length out)) (min r.count (length s.arrays)) (let few = out-few in omega (arith, few)) in
      let fits = longest_fits g s v n r within is same in
      groups_back shape r.count out (out-IsKeptStack g s v (passed g s v) kept out-few) rule.count.0 (omega (arith, no_longer, fits))
  kind_back n (Roi r) is same = All-nil (ReadsBack shape)
  kind_back n (Stats r) is same = All-nil (ReadsBack shape)
  kind_back n (Circular r) is same = All-nil (ReadsBack shape)
  kind_back n Scatter is same = All-nil (ReadsBack shape)

  rule_back : (o : Option NodeRule) → o ≡ rule_at g.nodes v
      → All (ReadsBack shape) (files_of o (arrays_out g.nodes s.arrays v (outputs g.nodes s.arrays v (passed_to g s v))))
  rule_back None is = All-nil (ReadsBack shape)
  rule_back (Some n) is =
      subst (λ ks. All (ReadsBack shape) (kind_files n.kind (arrays_out g.nodes s.arrays v ks)))
      (passed-step g s v sound (rule_within g.nodes v n is)) (kind_back n n.kind is refl)

-- where no limit is passed each file of each node reads back as its arrays
pub files_read_back : (g : Graph) (s : StackValue) → IsGraph g → IsKeptStack s → limit_fault g s ≡ None → (v : ℕ)
    → All (ReadsBack (file_shape g s v)) (result_of g s v).files
files_read_back g s sound kept within v = rule_back g s sound kept within v (rule_at g.nodes v) refl
