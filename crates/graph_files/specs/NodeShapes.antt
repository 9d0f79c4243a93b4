-- The shape of a node's files, and how long they are.
use Rattle.std.proofs.Common.{ℕ, ◌*◌, ◌≤◌, length, arith, ◌≡◌, zero, suc, ◌+◌, ◌<◌, min, Bool, true, false, List, Option, None, Some, inl, inr}
use Rattle.std.proofs.Common.{if◌then◌else◌, refl, ap, sym, subst, ◌∙◌}
use Rattle.std.proofs.lemmas.Nat.{mul-le}
use Rattle.nd_base.specs.Array.{StackValue}
use Rattle.nd_base.specs.Forms.{longest_of}
use Rattle.nd_base.specs.declared.attribute.FileShape.{FileShape}
use Rattle.nd_base.specs.declared.form.Form.{Form}
use Rattle.nd_base.specs.declared.form.Form.TheVariants.{Classic}
use Rattle.nd_base.specs.declared.graph.Graph.{Graph}
use Rattle.nd_base.specs.declared.graph.RoiRule.{RoiRule}
use Rattle.nd_roi.specs.CutLaws.{region_dims-count, region_dims-has_dimensions}
use Rattle.cdf_write.specs.Lengths.{row_length, length_of}
use Rattle.cdf_write.specs.Writable.{IsWritable}
use Rattle.cdf_write.specs.WritableLaws.{shape_for-IsWritable}
use Rattle.chain_plain.specs.declared.shape.Shape.{Shape}
use Rattle.chain_plain.specs.ContentLaws.{IsArrayShape, passed_on-both}
use Rattle.chain_plain.specs.Plans.{region_shape, stack_shape, shape_at}
use Rattle.graph_files.specs.OutFiles.{kind_form, form_at, file_shape}
use Rattle.std.specs.Prelude.{nat_lt}
use Rattle.std.specs.Option.{option_map_or}
use Rattle.std.proofs.lemmas.Bool.{cases_lt}
use Rattle.std.proofs.lemmas.Bool.Decides.{nat_tests}
use Rattle.nd_base.specs.declared.graph.FileRule.{FileRule}
use Rattle.nd_base.specs.declared.graph.Kind.TheVariants.{File}
use Rattle.nd_base.specs.declared.graph.NodeRule.{NodeRule}
use Rattle.nd_base.specs.GraphRules.{IsBetween, rule_at}
use Rattle.chain_plain.specs.PassingLaws.{rule_within}
use Rattle.graph_conf.specs.declared.load.LimitFault.{LimitFault}
use Rattle.graph_conf.specs.declared.load.LimitFault.TheVariants.{Load, Kept, FileTooLarge}
use Rattle.graph_conf.specs.Loads.{arrivals, kept, file_bytes, file_bytes_at, most_bytes, most_bytes_at, first_too_long, limit_fault}

region_sound : (r : RoiRule) (s t : Shape) → IsArrayShape s.dims → IsArrayShape (region_shape r s).dims
region_sound r s t h =
    let less = region_dims-count r s.dims h.dimensions in
    record { dimensions = region_dims-has_dimensions r s.dims h.dimensions; few = omega (arith, less, h.few) }

-- what goes out of a node has dimensions that an array may have
node_sound : (g : Graph) (s : StackValue) (v : ℕ) → IsWritable s.shape → IsArrayShape (shape_at g.nodes s.shape v).dims
node_sound g s v h =
    passed_on-both (λ (t u : Shape). IsArrayShape t.dims) region_shape region_shape region_sound g.nodes (length g.nodes) v
    (stack_shape s.shape) (stack_shape s.shape)
    (record { dimensions = h.dimensions; few = h.samples })

-- and its files can be spelled
pub file_shape-IsWritable : (g : Graph) (s : StackValue) (v : ℕ) → IsWritable s.shape → IsWritable (file_shape g s v)
file_shape-IsWritable g s v h =
    let made = node_sound g s v h in
    shape_for-IsWritable s.shape (form_at g.nodes v) _ _ h made.dimensions made.few

-- a file of fewer arrays is no longer
pub length_of-le : (shape : FileShape) (m n : ℕ) → m ≤ n → length_of shape m ≤ length_of shape n
length_of-le shape m n h =
    let rows : m * row_length shape ≤ n * row_length shape =
    mul-le m (row_length shape) n (row_length shape) h (let same : row_length shape ≤ row_length shape = omega arith in same) in
    omega (arith, rows)

-- A FILE NODE'S LONGEST FILE

-- a node that has a rule isn't the driver, and is one of the graph's
between : (nodes : List NodeRule) (v : ℕ) (n : NodeRule) → Some n ≡ rule_at nodes v → IsBetween 1 (length nodes) v
between nodes zero n is = let e : Some n ≡ None = is in absurd (cc)
between nodes (suc k) n is = (omega arith, rule_within nodes (suc k) n is)

-- a limit that isn't passed
not_refused : (b : Bool) (fault : LimitFault) (rest : Option LimitFault) → (if b then Some fault else rest) ≡ None → (b ≡ false) × (rest ≡ None)
not_refused true fault rest h = absurd (cc)
not_refused false fault rest h = (refl, h)

none_too_long : (g : Graph) (s : StackValue) (v n k : ℕ) → first_too_long g s v n ≡ None → v ≤ k → k < v + n → file_bytes_at g s k ≤ most_bytes_at g k
none_too_long g s v zero k none from below = absurd (omega arith)
none_too_long g s v (suc n) k none from below =
    let parts = not_refused (nat_lt (most_bytes_at g v) (file_bytes_at g s v)) (FileTooLarge v (file_bytes_at g s v)) (first_too_long g s (v + 1) n) none in
    elim (cases_lt v k) [
      | inl later ↦ none_too_long g s (v + 1) n k parts.1 (omega arith) (omega arith)
      | inr here ↦
          let same : v ≡ k = omega arith in
          let short : file_bytes_at g s v ≤ most_bytes_at g v = grind (arith, nat_tests, parts.0) in
          subst (λ w. file_bytes_at g s w ≤ most_bytes_at g w) same short
    ]

limits_hold : (g : Graph) (s : StackValue) → limit_fault g s ≡ None → first_too_long g s 1 (length g.nodes) ≡ None
limits_hold g s none =
    let load = not_refused (nat_lt 1048576 (arrivals g s)) (Load (arrivals g s)) _ none in
    (not_refused (nat_lt 67108864 (kept g s)) (Kept (kept g s)) (first_too_long g s 1 (length g.nodes)) load.1).1

-- a file node's form is that of its rule
pub form_at-rule : (g : Graph) (v : ℕ) (n : NodeRule) (r : FileRule) → Some n ≡ rule_at g.nodes v → n.kind ≡ File r → form_at g.nodes v ≡ r.form
form_at-rule g v n r is kind = ap (λ o. option_map_or (λ (m : NodeRule). kind_form m.kind) o Classic) (sym is) ∙ ap kind_form kind

-- where no limit is passed
pub longest_fits : (g : Graph) (s : StackValue) (v : ℕ) (n : NodeRule) (r : FileRule) → limit_fault g s ≡ None → Some n ≡ rule_at g.nodes v → n.kind ≡ File r →
    length_of (file_shape g s v) (min r.count (length s.arrays)) ≤ longest_of (file_shape g s v).form
longest_fits g s v n r none is kind =
    let place = between g.nodes v n is in
    let form = form_at-rule g v n r is kind in
    let made : FileShape = record s.shape { kind = (shape_at g.nodes s.shape v).kind; dims = (shape_at g.nodes s.shape v).dims } in
    let bytes : file_bytes_at g s v ≡ length_of (file_shape g s v) (min r.count (length s.arrays)) =
    ap (λ o. option_map_or (λ (m : NodeRule). file_bytes m.kind made (length s.arrays)) o 0) (sym is)
    ∙ ap (λ k. file_bytes k made (length s.arrays)) kind
    ∙ ap (λ (f : Form). length_of (record made { form = f }) (min r.count (length s.arrays))) (sym form) in
    let most : most_bytes_at g v ≡ longest_of (form_at g.nodes v) =
    ap (λ o. option_map_or (λ (m : NodeRule). most_bytes m.kind) o 0) (sym is) ∙ ap most_bytes kind ∙ ap longest_of (sym form) in
    subst (λ limit. length_of (file_shape g s v) (min r.count (length s.arrays)) ≤ limit) most
    (subst (λ size. size ≤ most_bytes_at g v) bytes (none_too_long g s 1 (length g.nodes) v (limits_hold g s none) place.0 (omega (arith, place.1))))
