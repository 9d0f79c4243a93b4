-- The groups of a history keep to what a stack keeps to, and so read back.
use Rattle.std.proofs.Common.{◌≡◌, ◌≢◌, ℕ, suc, ◌*◌, ◌≤◌, true, List, [], ◌∷◌, length, min, take, drop, refl, sym, ap, subst, ◌∙◌, arith, Option, None, Some}
use Rattle.std.specs.Prelude.{slice_get, ℤ, pos, negsuc, ◌+ℤ◌, ◌*ℤ◌, All, FitsSigned}
use Rattle.std.specs.Int.{w32, int_min}
use Rattle.std.specs.Option.{option_map}
use Rattle.std.proofs.lemmas.Bool.{and_parts}
use Rattle.std.proofs.lemmas.Int.{ints, int_min_is, int_max_is}
use Rattle.std.proofs.lemmas.List.{length-append, length-map, length-take, length-drop}
use Rattle.std.proofs.lemmas.List.Elements.{All-nil, All-cons, All-head, All-tail, All-take, All-drop, All-map, All-append}
use Rattle.std.proofs.lemmas.Option.{get_or_from_slice_get, slice_get_within}
use Rattle.nd_base.specs.Array.{Array, StackValue}
use Rattle.nd_base.specs.GraphRules.{IsGraph, makes_arrays, rule_at}
use Rattle.nd_base.specs.Places.{indices, sizes_of}
use Rattle.nd_base.specs.SampleLaws.{IsSample}
use Rattle.nd_base.specs.declared.array.Dim.{Dim}
use Rattle.nd_base.specs.declared.attribute.FileShape.{FileShape}
use Rattle.nd_base.specs.declared.frame.FrameName.{FrameName}
use Rattle.nd_base.specs.declared.graph.FileRule.{FileRule}
use Rattle.nd_base.specs.declared.graph.Graph.{Graph}
use Rattle.nd_base.specs.declared.graph.Kind.TheVariants.{File}
use Rattle.nd_base.specs.declared.graph.NodeRule.{NodeRule}
use Rattle.nd_base.specs.declared.graph.RoiRule.{RoiRule}
use Rattle.nd_roi.specs.Cut.{clamped_i32, cut, cut_dim, dims_from, region_dims}
use Rattle.nd_roi.specs.Region.{out_type, region}
use Rattle.nd_roi.specs.RegionLaws.{reduced-IsSample}
use Rattle.cdf_write.specs.Writable.{HasShape}
use Rattle.nd_stack.specs.KeptStacks.{IsKeptStack, IsKeptStack-ReadsBack}
use Rattle.nd_stack.specs.RoundTrip.{IsKept, ReadsBack}
use Rattle.chain_plain.specs.declared.shape.Shape.{Shape}
use Rattle.chain_plain.specs.Content.{content}
use Rattle.chain_plain.specs.ContentLaws.{frame, content-maker, passed_on-both}
use Rattle.chain_plain.specs.Nodes.{maker_at}
use Rattle.chain_plain.specs.OneThread.{listed}
use Rattle.chain_plain.specs.Passing.{out_of}
use Rattle.chain_plain.specs.Plans.{makers_of, region_shape, stack_shape, shape_at}
use Rattle.chain_plain.proofs.Found.{maker_of_other}
use Rattle.graph_conf.specs.Loads.{limit_fault}
use Rattle.flow_journal.specs.Setting.{makes}
use Rattle.flow_journal.specs.Pasts.{Past}
use Rattle.flow_journal.specs.Puts.{puts}
use Rattle.flow_journal.specs.Histories.{is_legal, is_history}
use Rattle.flow_journal.specs.Unsaved.{standing_saves, is_file}
use Rattle.flow_journal.specs.DueLaws.{saved_count}
use Rattle.flow_journal.proofs.Dues.{due_laws}
use Rattle.board_rules.specs.RunMeasures.{run_setting}
use Rattle.run_laws.specs.Results.{contents}
use Rattle.run_laws.proofs.Runs.{known}
use Rattle.graph_files.specs.Groups.{group_of}
use Rattle.graph_files.specs.NodeShapes.{file_shape-IsWritable, length_of-le, longest_fits}
use Rattle.graph_files.specs.OutFiles.{file_shape}
use Rattle.graph_files.specs.OutgoingLaws.{content-HasShape}
use Rattle.flow_saver.specs.ReadBack.{GroupsReadBack}
use Rattle.flow_saver.proofs.Puts.{puts-few, puts-named}

-- DIMENSIONS, as tool_commands has them for a plain run

clamped_fits : (z : ℤ) → FitsSigned w32 (clamped_i32 z)
clamped_fits z = omega (arith, ints, int_min_is z (pos 2147483647), int_max_is (negsuc 2147483647) (int_min z (pos 2147483647)))

module _ (Q : Dim → Type 0) (each : (r : RoiRule) (k : ℕ) (d : Dim) → Q (cut_dim d (cut r k d.size))) where
  dims_from-all : (r : RoiRule) (k : ℕ) (dims : List Dim) → All Q (dims_from r k dims)
  dims_from-all r k [] = All-nil Q
  dims_from-all r k (d ∷ dims) = All-cons Q _ (dims_from r (suc k) dims) (each r k d) (dims_from-all r (suc k) dims)

  dims_at : (g : Graph) (s : StackValue) (v : ℕ) → All Q s.shape.dims → All Q (shape_at g.nodes s.shape v).dims
  dims_at g s v all =
      passed_on-both (λ (t u : Shape). All Q t.dims) region_shape region_shape (λ r t u h. dims_from-all r 0 t.dims) g.nodes (length g.nodes) v
      (stack_shape s.shape) (stack_shape s.shape) all

region-IsKept : (r : RoiRule) (a : Array) → IsKept a → IsKept (region r a)
region-IsKept r a h =
    record {
      id = h.id;
      stamp = h.stamp;
      sec = h.sec;
      nsec = h.nsec;
      samples = All-map (IsSample (out_type r a.kind)) _ (indices (sizes_of (region_dims r a.dims))) (λ i d within. reduced-IsSample (out_type r a.kind) _);
      attrs = h.attrs;
    }

out_of-IsKept : (nodes : List NodeRule) (v : ℕ) (a : Array) → IsKept a → IsKept (out_of region nodes v a)
out_of-IsKept nodes v a h = passed_on-both (λ (b c : Array). IsKept b) region region (λ r b c kept. region-IsKept r b kept) nodes (length nodes) v a a h

-- THE ARRAYS OF NAMES

length-listed : (o : Option Array) → length (listed o) ≤ 1
length-listed None = omega arith
length-listed (Some a) = omega arith

length-contents : (nodes : List NodeRule) (arrays : List Array) (names : List FrameName) → length (contents nodes arrays names) ≤ length names
length-contents nodes arrays [] = omega arith
length-contents nodes arrays (n ∷ names) =
    omega (
      arith,
      length-append (listed (content nodes arrays n)) (contents nodes arrays names),
      length-listed (content nodes arrays n),
      length-contents nodes arrays names,
    )

module _ (g : Graph) (stack : StackValue) (sound : IsGraph g) (kept : IsKeptStack stack) (v : ℕ) where
  abbrev shape : FileShape
  shape = file_shape g stack v

  shaped-by : (name : FrameName) → name.maker ≡ maker_at g.nodes v → (o : Option Array)
      → content g.nodes stack.arrays name ≡ o → All (HasShape shape) (listed o)
  shaped-by name maker None is = All-nil (HasShape shape)
  shaped-by name maker (Some a) is =
      let made : content g.nodes stack.arrays (frame v name.index) ≡ Some a =
      content-maker g stack.arrays v name.index sound ∙ ap (λ (m : ℕ). content g.nodes stack.arrays (frame m name.index)) (sym maker) ∙ is in
      All-cons (HasShape shape) a [] (content-HasShape g stack v name.index a kept made) (All-nil (HasShape shape))

  kept-by : (name : FrameName) (o : Option Array) → slice_get stack.arrays name.index ≡ o
      → All IsKept (listed (option_map (out_of region g.nodes name.maker) o))
  kept-by name None is = All-nil IsKept
  kept-by name (Some a) is =
      let there : IsKept a =
      subst IsKept (get_or_from_slice_get stack.arrays name.index a a is) (kept.kept name.index a (slice_get_within stack.arrays name.index a is)) in
      All-cons IsKept (out_of region g.nodes name.maker a) [] (out_of-IsKept g.nodes name.maker a there) (All-nil IsKept)

  all-shaped : (names : List FrameName) → All (λ (n : FrameName). n.maker ≡ maker_at g.nodes v) names
      → All (HasShape shape) (contents g.nodes stack.arrays names)
  all-shaped [] all = All-nil (HasShape shape)
  all-shaped (n ∷ names) all =
      All-append (HasShape shape) (listed (content g.nodes stack.arrays n)) (contents g.nodes stack.arrays names)
      (shaped-by n (All-head (λ (m : FrameName). m.maker ≡ maker_at g.nodes v) n names all) (content g.nodes stack.arrays n) refl)
      (all-shaped names (All-tail (λ (m : FrameName). m.maker ≡ maker_at g.nodes v) n names all))

  all-kept : (names : List FrameName) → All IsKept (contents g.nodes stack.arrays names)
  all-kept [] = All-nil IsKept
  all-kept (n ∷ names) =
      All-append IsKept (listed (content g.nodes stack.arrays n)) (contents g.nodes stack.arrays names)
      (kept-by n (slice_get stack.arrays n.index) refl) (all-kept names)

  module _ (n : NodeRule) (r : FileRule) (rule : rule_at g.nodes v ≡ Some n) (kind : n.kind ≡ File r)
      (P : Past) (history : is_history (run_setting g stack) P ≡ true) where
    legal : is_legal (run_setting g stack) P ≡ true
    legal = (and_parts (is_legal (run_setting g stack) P) _ history).0

    abbrev names : List FrameName
    names = standing_saves v P

    -- the saves took the first of the puts
    firsts : names ≡ take (saved_count v P) (puts v P)
    firsts = due_laws.saved (run_setting g stack) v P legal (ap is_file (known g (makers_of g.nodes stack.shape) stack.arrays v n (File r) rule kind).work)

    named : All (λ (m : FrameName). m.maker ≡ maker_at g.nodes v) names
    named =
        let work = (known g (makers_of g.nodes stack.shape) stack.arrays v n (File r) rule kind).work in
        let input = puts-named g (makers_of g.nodes stack.shape) stack.arrays P v n sound rule (ap makes work) history in
        let own : maker_at g.nodes v ≡ maker_at g.nodes n.input = maker_of_other g v n sound (sym rule) (ap makes_arrays kind) in
        let all : All (λ (m : FrameName). m.maker ≡ maker_at g.nodes v) (puts v P) =
        subst (λ (w : ℕ). All (λ (m : FrameName). m.maker ≡ w) (puts v P)) (sym own) input in
        subst (λ (ns : List FrameName). All (λ (m : FrameName). m.maker ≡ maker_at g.nodes v) ns) (sym firsts)
        (All-take (λ (m : FrameName). m.maker ≡ maker_at g.nodes v) (saved_count v P) (puts v P) all)

    few-names : length names ≤ length stack.arrays
    few-names =
        let put = puts-few (run_setting g stack) P v legal in
        let ids = length-map stack.arrays (λ (a : Array). a.id) in
        omega (arith, put, ids, ap (λ (ns : List FrameName). length ns) firsts, length-take (saved_count v P) (puts v P))

    some-arrays : (zs : List Array) → zs ≢ [] → 1 ≤ length zs
    some-arrays [] h = absurd (h refl)
    some-arrays (a ∷ zs) h = omega arith

    pub group-back : (i : ℕ) → limit_fault g stack ≡ None → group_of r.count i (contents g.nodes stack.arrays names) ≢ []
        → ReadsBack shape (group_of r.count i (contents g.nodes stack.arrays names))
    group-back i none_ some =
        let all = contents g.nodes stack.arrays names in
        let group = group_of r.count i all in
        let taken = length-take r.count (drop (i * r.count) all) in
        let dropped = length-drop (i * r.count) all in
        let fewer = length-contents g.nodes stack.arrays names in
        let no_longer = length_of-le shape (length group) (min r.count (length stack.arrays)) (omega (arith, taken, dropped, fewer, few-names)) in
        let fits = longest_fits g stack v n r none_ (sym rule) kind in
        IsKeptStack-ReadsBack (record { shape = shape; arrays = group })
        (record {
          writable = file_shape-IsWritable g stack v kept.writable;
          names = record { attrs = kept.names.attrs; extras = kept.names.extras };
          dims = record {
            offsets = dims_at (λ d. FitsSigned w32 d.offset) (λ q k d. clamped_fits (d.offset +ℤ pos (cut q k d.size).min)) g stack v kept.dims.offsets;
            binnings = dims_at (λ d. FitsSigned w32 d.binning) (λ q k d. clamped_fits (d.binning *ℤ pos (cut q k d.size).bin)) g stack v kept.dims.binnings;
          };
          each = All-take (HasShape shape) r.count (drop (i * r.count) all) (All-drop (HasShape shape) (i * r.count) all (all-shaped names named));
          kept = All-take IsKept r.count (drop (i * r.count) all) (All-drop IsKept (i * r.count) all (all-kept names));
          few = omega (arith, taken, dropped, fewer, few-names, kept.few);
        }) (some-arrays group some) (omega (arith, no_longer, fits))

pub groups_read_back : GroupsReadBack
groups_read_back g stack P v i n r sound kept none_ history rule kind some = group-back g stack sound kept v n r rule kind P history i none_ some
