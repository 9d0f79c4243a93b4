-- The groups of a file node, by the positions of what went out of it.
use Rattle.std.proofs.Common.{◌≡◌, ℕ, ◌*◌, ◌<◌, ◌≤◌, min, true, List, [], ◌∷◌, ◌++◌, Option, None, Some, length, take, drop, refl, sym, ap, subst}
use Rattle.std.proofs.Common.{◌∙◌, inl, inr, arith}
use Rattle.std.specs.Prelude.{All}
use Rattle.std.proofs.Math.Seq.{take-append_seam, drop-append_seam}
use Rattle.std.proofs.lemmas.Bool.{cases_lt}
use Rattle.std.proofs.lemmas.Nat.{mul-le}
use Rattle.std.proofs.lemmas.List.{length-append, length-map, length-take, length-drop, take-append-drop, take_all, drop_all}
use Rattle.std.proofs.lemmas.List.Elements.{All-take, All-drop, All-weaker}
use Rattle.nd_base.specs.Array.{Array, StackValue}
use Rattle.nd_base.specs.Forms.{longest_of}
use Rattle.nd_base.specs.GraphRules.{IsFile, IsKind, rule_at}
use Rattle.nd_base.specs.declared.attribute.FileShape.{FileShape}
use Rattle.nd_base.specs.declared.frame.FrameName.{FrameName}
use Rattle.nd_base.specs.declared.graph.FileRule.{FileRule}
use Rattle.nd_base.specs.declared.graph.Graph.{Graph}
use Rattle.nd_base.specs.declared.graph.Kind.{Kind}
use Rattle.nd_base.specs.declared.graph.Kind.TheVariants.{File}
use Rattle.nd_base.specs.declared.graph.NodeRule.{NodeRule}
use Rattle.cdf_write.specs.Layout.{layout}
use Rattle.cdf_write.specs.Lengths.{length_of}
use Rattle.cdf_write.specs.Writable.{HasShape}
use Rattle.nd_stack.specs.KeptStacks.{IsKeptStack}
use Rattle.chain_plain.specs.Content.{content}
use Rattle.chain_plain.specs.OneThread.{arrays_out, listed}
use Rattle.chain_plain.proofs.Rules.{stands}
use Rattle.flow_journal.specs.RunSetting.{work_of}
use Rattle.flow_journal.specs.Unsaved.{standing_saves, is_file}
use Rattle.run_laws.specs.Results.{contents}
use Rattle.board_rules.specs.RunMeasures.{run_setting}
use Rattle.graph_files.specs.Groups.{group_of, whole_file}
use Rattle.graph_files.specs.OutFiles.{file_shape, group_name}
use Rattle.graph_files.specs.NodeShapes.{length_of-le, longest_fits}
use Rattle.graph_files.specs.OutgoingLaws.{arrays_out-append, length-arrays_out, arrays_out-all, out_has_shape}
use Rattle.flow_saver.specs.HistoryFiles.{kind_group}
use Rattle.flow_saver.proofs.Puts.{puts-few}
use Rattle.data_check.specs.ComparedFiles.{file_of, group_files}
use Rattle.data_check.specs.Histories.{HistoryValue, IsHistory, arrays_at, all_arrays}
use Rattle.data_check.proofs.Positions.{saves-puts, out-saves, legal}

-- PARTS OF POSITIONS

module _ (nodes : List NodeRule) (arrays : List Array) (v : ℕ) where
  parts : (n : ℕ) (ks : List ℕ) → arrays_out nodes arrays v ks ≡ arrays_out nodes arrays v (take n ks) ++ arrays_out nodes arrays v (drop n ks)
  parts n ks = ap (arrays_out nodes arrays v) (sym (take-append-drop n ks)) ∙ arrays_out-append nodes arrays v (take n ks) (drop n ks)

  -- the first arrays are those at the first positions
  out-take : (n : ℕ) (ks : List ℕ) → All (λ k. k < length arrays) ks → arrays_out nodes arrays v (take n ks) ≡ take n (arrays_out nodes arrays v ks)
  out-take n ks all =
      let first = arrays_out nodes arrays v (take n ks) in
      let rest = arrays_out nodes arrays v (drop n ks) in
      elim (cases_lt n (length ks)) [
        | inl below ↦
            let long : length first ≡ n =
            length-arrays_out nodes arrays v (take n ks) (All-take (λ k. k < length arrays) n ks all) ∙ (length-take n ks ∙ omega (arith, below)) in
            sym (ap (take n) (parts n ks) ∙ (ap (λ m. take m (first ++ rest)) (sym long) ∙ take-append_seam first rest))
        | inr past ↦
            ap (arrays_out nodes arrays v) (take_all n ks past)
            ∙ sym (take_all n (arrays_out nodes arrays v ks) (omega (arith, past, length-arrays_out nodes arrays v ks all)))
      ]

  out-drop : (n : ℕ) (ks : List ℕ) → All (λ k. k < length arrays) ks → arrays_out nodes arrays v (drop n ks) ≡ drop n (arrays_out nodes arrays v ks)
  out-drop n ks all =
      let first = arrays_out nodes arrays v (take n ks) in
      let rest = arrays_out nodes arrays v (drop n ks) in
      elim (cases_lt n (length ks)) [
        | inl below ↦
            let long : length first ≡ n =
            length-arrays_out nodes arrays v (take n ks) (All-take (λ k. k < length arrays) n ks all) ∙ (length-take n ks ∙ omega (arith, below)) in
            sym (ap (drop n) (parts n ks) ∙ (ap (λ m. drop m (first ++ rest)) (sym long) ∙ drop-append_seam first rest))
        | inr past ↦
            ap (arrays_out nodes arrays v) (drop_all n ks past)
            ∙ sym (drop_all n (arrays_out nodes arrays v ks) (omega (arith, past, length-arrays_out nodes arrays v ks all)))
      ]

  -- and those of a group at the positions of the group
  pub out-group : (count i : ℕ) (ks : List ℕ) → All (λ k. k < length arrays) ks
      → arrays_out nodes arrays v (group_of count i ks) ≡ group_of count i (arrays_out nodes arrays v ks)
  out-group count i ks all =
      out-take count (drop (i * count) ks) (All-drop (λ k. k < length arrays) (i * count) ks all) ∙ ap (take count) (out-drop (i * count) ks all)

-- each array that goes out of a node has the shape of its files
pub all-shaped : (g : Graph) (s : StackValue) (v : ℕ) (ks : List ℕ) → IsKeptStack s → All (HasShape (file_shape g s v)) (arrays_out g.nodes s.arrays v ks)
all-shaped g s v ks kept =
    arrays_out-all (HasShape (file_shape g s v)) g.nodes s.arrays v ks
    (All-weaker (HasShape s.shape) (λ a. HasShape (file_shape g s v) _) (λ a h. out_has_shape g s v a h) s.arrays kept.each)

whole-some : (shape : FileShape) (xs : List Array) → 1 ≤ length xs → whole_file shape xs ≡ Some (layout shape xs)
whole-some shape [] some = absurd (omega (arith, some))
whole-some shape (a ∷ xs) some = refl

whole-none : (shape : FileShape) (xs : List Array) → length xs ≤ 0 → whole_file shape xs ≡ None
whole-none shape [] none = refl
whole-none shape (a ∷ xs) none = absurd (omega (arith, none))

length-listed : (o : Option Array) → length (listed o) ≤ 1
length-listed None = omega arith
length-listed (Some a) = omega arith

-- no more arrays than names
pub length-contents : (nodes : List NodeRule) (arrays : List Array) (names : List FrameName) → length (contents nodes arrays names) ≤ length names
length-contents nodes arrays [] = omega arith
length-contents nodes arrays (n ∷ names) =
    omega (
      arith,
      length-append (listed (content nodes arrays n)) (contents nodes arrays names),
      length-listed (content nodes arrays n),
      length-contents nodes arrays names,
    )

-- THE GROUPS OF A FILE NODE

module _ (h : HistoryValue) (known : IsHistory h) (v : ℕ) (n : NodeRule) (r : FileRule) (rule : rule_at h.graph.nodes v ≡ Some n) (kind : n.kind ≡ File r)
    (ks : List ℕ) (all : arrays_at h v ks ≡ all_arrays h v) (frames : All (λ k. k < length h.stack.arrays) ks) where
  abbrev shape : FileShape
  shape = file_shape h.graph h.stack v

  saves : is_file (work_of n.kind) ≡ true
  saves = ap (λ (k : Kind). is_file (work_of k)) kind

  pub sound : IsFile r
  sound = subst IsKind kind (stands h.graph v n known.graph (sym rule)).sound.kind

  -- they are those of its Saves
  pub saved-are : arrays_at h v ks ≡ contents h.graph.nodes h.stack.arrays (standing_saves v h.past)
  saved-are = all ∙ ap (contents h.graph.nodes h.stack.arrays) (out-saves h known v n rule saves)

  -- of which there are no fewer than positions, and no more than frames
  pub saves-many : length ks ≤ length (standing_saves v h.past)
  saves-many =
      omega (
        arith,
        length-arrays_out h.graph.nodes h.stack.arrays v ks frames,
        ap length saved-are,
        length-contents h.graph.nodes h.stack.arrays (standing_saves v h.past),
      )

  pub positions-few : length ks ≤ length h.stack.arrays
  positions-few =
      omega (
        arith,
        saves-many,
        ap (λ (ns : List FrameName). length ns) (saves-puts h known v n rule saves),
        puts-few (run_setting h.graph h.stack) h.past v (legal h known v n rule),
        length-map h.stack.arrays (λ (a : Array). a.id),
      )

  group-is : (i : ℕ) → kind_group h.graph h.stack h.past v n.kind i ≡ whole_file shape (arrays_at h v (group_of r.count i ks))
  group-is i =
      ap (λ (k : Kind). kind_group h.graph h.stack h.past v k i) kind
      ∙ ap (λ (zs : List Array). whole_file shape (group_of r.count i zs)) (sym saved-are)
      ∙ ap (whole_file shape) (sym (out-group h.graph.nodes h.stack.arrays v r.count i ks frames))

  group-frames : (i : ℕ) → All (λ k. k < length h.stack.arrays) (group_of r.count i ks)
  group-frames i = All-take (λ k. k < length h.stack.arrays) r.count (drop (i * r.count) ks) (All-drop (λ k. k < length h.stack.arrays) (i * r.count) ks frames)

  -- the file of a group that has a position
  pub group-some : (i : ℕ) (part : List ℕ) → part ≡ group_of r.count i ks → 1 ≤ length part
      → group_files h.graph h.stack h.prefix h.past v n i
      ≡ record { node = v; group = i; name = group_name h.prefix n.name i; bytes = layout shape (arrays_at h v part) } ∷ []
  group-some i part is some =
      let long : 1 ≤ length (arrays_at h v (group_of r.count i ks)) =
      omega (arith, some, ap length is, length-arrays_out h.graph.nodes h.stack.arrays v (group_of r.count i ks) (group-frames i)) in
      ap (file_of v i (group_name h.prefix n.name i)) (group-is i ∙ whole-some shape (arrays_at h v (group_of r.count i ks)) long)
      ∙ ap (λ (ps : List ℕ). record { node = v; group = i; name = group_name h.prefix n.name i; bytes = layout shape (arrays_at h v ps) } ∷ []) (sym is)

  -- and of one that has none
  pub group-none : (i : ℕ) → length ks ≤ i * r.count → group_files h.graph h.stack h.prefix h.past v n i ≡ []
  group-none i past =
      let none : length (arrays_at h v (group_of r.count i ks)) ≤ 0 =
      omega (
        arith,
        length-arrays_out h.graph.nodes h.stack.arrays v (group_of r.count i ks) (group-frames i),
        length-take r.count (drop (i * r.count) ks),
        length-drop (i * r.count) ks,
        past,
      ) in
      ap (file_of v i (group_name h.prefix n.name i)) (group-is i ∙ whole-none shape (arrays_at h v (group_of r.count i ks)) none)

  module _ (i : ℕ) (part : List ℕ) (is : part ≡ group_of r.count i ks) (some : 1 ≤ length part) where
    pub part-frames : All (λ k. k < length h.stack.arrays) part
    part-frames = subst (All (λ k. k < length h.stack.arrays)) (sym is) (group-frames i)

    -- it comes before there are as many groups as Saves
    pub part-below : i < length (standing_saves v h.past)
    part-below =
        let here : i * r.count < length ks = omega (arith, some, ap length is, length-take r.count (drop (i * r.count) ks), length-drop (i * r.count) ks) in
        let each : i * 1 ≤ i * r.count = mul-le i 1 i r.count (omega arith) (omega (arith, sound.count.0)) in
        omega (arith, here, each, saves-many)

    pub part-few : length part ≤ 65536
    part-few = omega (arith, ap length is, length-take r.count (drop (i * r.count) ks), sound.count.1)

    pub part-fits : length_of shape (length part) ≤ longest_of shape.form
    part-fits =
        let fewer : length part ≤ min r.count (length h.stack.arrays) =
        omega (arith, ap length is, length-take r.count (drop (i * r.count) ks), length-drop (i * r.count) ks, positions-few) in
        omega (
          arith,
          length_of-le shape (length part) (min r.count (length h.stack.arrays)) fewer,
          longest_fits h.graph h.stack v n r known.within (sym rule) kind,
        )
