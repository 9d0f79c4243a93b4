-- Which files a plain run has, and when a shelf is the one with all of them.
use Rattle.std.proofs.Common.{◌≡◌, ◌≢◌, ◌⊎◌, inl, inr, ℕ, zero, suc, ◌+◌, ◌-◌, ◌*◌, ◌/◌, ◌<◌, ◌≤◌, false, List, [], ◌∷◌, ◌++◌, Option, None, Some, length}
use Rattle.std.proofs.Common.{map, take, drop, refl, ap, sym, subst, ◌∙◌, arith}
use Rattle.std.specs.Prelude.{All, is_some}
use Rattle.std.specs.Cmp.Lexicographic.{nat_list_cmp_total}
use Rattle.std.specs.FinMap as finmap
use Rattle.std.specs.List.{flat_map, range_with_len}
use Rattle.std.specs.Option.{option_map_or}
use Rattle.std.proofs.Common.{length-drop, length-take}
use Rattle.std.proofs.Math.Nat.{div-mul-le_self, mul-le-mul_right, suc-mul}
use Rattle.std.proofs.lemmas.Bool.{false≢true}
use Rattle.std.proofs.lemmas.List.Elements.{All-nil, All-cons, All-head, All-tail}
use Rattle.std.proofs.lemmas.Map.Lookups.{exact_bytes}
use Rattle.std.proofs.lemmas.Nat.{le-div}
use Rattle.std.proofs.lemmas.Option.{slice_get_within}
use Rattle.nd_base.specs.Array.{Array, StackValue}
use Rattle.nd_base.specs.declared.attribute.FileShape.{FileShape}
use Rattle.nd_base.specs.declared.graph.FileRule.{FileRule}
use Rattle.nd_base.specs.declared.graph.Graph.{Graph}
use Rattle.nd_base.specs.declared.graph.Kind.{Kind}
use Rattle.nd_base.specs.declared.graph.Kind.TheVariants.{Roi, Stats, Circular, File, Scatter}
use Rattle.nd_base.specs.declared.graph.Mode.{Mode}
use Rattle.nd_base.specs.declared.graph.NodeRule.{NodeRule}
use Rattle.nd_base.specs.declared.graph.StatsRule.{StatsRule}
use Rattle.nd_base.specs.declared.measure.Measure.{Measure}
use Rattle.nd_base.specs.GraphRules.{IsGraph, IsKind, IsFile, rule_at}
use Rattle.edge_traits.specs.Files.{Files, HasFile, file_at}
use Rattle.edge_traits.specs.FileLaws.{get-insert_cases}
use Rattle.cdf_write.specs.Layout.{layout}
use Rattle.nd_stats.specs.Row.{row}
use Rattle.chain_plain.specs.OneThread.{arrays_out, outputs, groups, measure_of_array, kind_measures, measures_of, files_of}
use Rattle.chain_plain.specs.OneThread as one
use Rattle.chain_plain.specs.PassedLaws.{passed-step}
use Rattle.chain_plain.specs.PassingLaws.{rule_within}
use Rattle.chain_plain.specs.PlainRun.{passed, passed_to, result_of}
use Rattle.chain_plain.proofs.Rules.{stands}
use Rattle.graph_files.specs.Groups.{group_of}
use Rattle.graph_files.specs.NodeFileLaws.{cases_eq}
use Rattle.graph_files.specs.OutFiles.{OutFile, file_shape, group_files, group_name, is_stream, stats_name, kind_files, node_files, plain_files, with_files}

-- ONE OF SOME FILES

-- one of these files is this one
abbrev pub IsIn : List OutFile → OutFile → Type 0
IsIn [] f = ⊥
IsIn (e ∷ fs) f = (e ≡ f) ⊎ IsIn fs f

-- one of the first
in-left : (fs gs : List OutFile) (f : OutFile) → IsIn fs f → IsIn (fs ++ gs) f
in-left [] gs f h = absurd h
in-left (e ∷ fs) gs f (inl is) = inl is
in-left (e ∷ fs) gs f (inr h) = inr (in-left fs gs f h)

-- one of the others
in-right : (fs gs : List OutFile) (f : OutFile) → IsIn gs f → IsIn (fs ++ gs) f
in-right [] gs f h = h
in-right (e ∷ fs) gs f h = inr (in-right fs gs f h)

-- one of both is one of either
in-cases : (fs gs : List OutFile) (f : OutFile) → IsIn (fs ++ gs) f → IsIn fs f ⊎ IsIn gs f
in-cases [] gs f h = inr h
in-cases (e ∷ fs) gs f (inl is) = inl (inl is)
in-cases (e ∷ fs) gs f (inr h) = elim (in-cases fs gs f h) [ inl a ↦ inl (inr a) | inr b ↦ inr b ]

-- of one of the numbers from a on
in-range : (files : ℕ → List OutFile) (a n v : ℕ) (f : OutFile) → a ≤ v → v < a + n → IsIn (files v) f → IsIn (flat_map files (range_with_len a n)) f
in-range files a zero v f low high h = absurd (omega (arith, low, high))
in-range files a (suc n) v f low high h =
    elim (cases_eq a v) [
      | inl same ↦ in-left (files a) (flat_map files (range_with_len (a + 1) n)) f (subst (λ (i : ℕ). IsIn (files i) f) (sym same) h)
      | inr other ↦
          in-right (files a) (flat_map files (range_with_len (a + 1) n)) f (in-range files (a + 1) n v f (omega (arith, low, other)) (omega (arith, high)) h)
    ]

-- and the other way round
out-range : (files : ℕ → List OutFile) (a n : ℕ) (f : OutFile) → IsIn (flat_map files (range_with_len a n)) f → (v : ℕ) × IsIn (files v) f
out-range files a zero f h = absurd h
out-range files a (suc n) f h =
    elim (in-cases (files a) (flat_map files (range_with_len (a + 1) n)) f h) [ inl here ↦ (a, here) | inr later ↦ out-range files (a + 1) n f later ]

-- what holds of each holds of all
pub all-in : (P : OutFile → Type 0) (fs : List OutFile) → ((f : OutFile) → IsIn fs f → P f) → All P fs
all-in P [] h = All-nil P
all-in P (f ∷ fs) h = All-cons P f fs (h f (inl refl)) (all-in P fs (λ e is. h e (inr is)))

-- and what holds of all holds of each
pub in-all : (P : OutFile → Type 0) (fs : List OutFile) → All P fs → (f : OutFile) → IsIn fs f → P f
in-all P [] all f is = absurd is
in-all P (e ∷ fs) all f (inl same) = subst P same (All-head P e fs all)
in-all P (e ∷ fs) all f (inr later) = in-all P fs (All-tail P e fs all) f later

-- THE SHELF WITH THESE FILES

-- a shelf that tells nothing tells nothing
with_files-none : (fs : List OutFile) → with_files None fs ≡ None
with_files-none [] = refl
with_files-none (f ∷ fs) = with_files-none fs

-- and one that tells its files
told-all : (fs : List OutFile) (was now : Files) → ((f : OutFile) → IsIn fs f → finmap.get now f.name ≡ Some f.bytes)
    → ((q : List ℕ) → ((f : OutFile) → IsIn fs f → q ≢ f.name) → finmap.get now q ≡ finmap.get was q) → Some now ≡ with_files (Some was) fs
told-all [] was now each others = ap Some (finmap.same_map nat_list_cmp_total exact_bytes now was (λ q. others q (λ f is. absurd is)))
told-all (f ∷ fs) was now each others =
    told-all fs (finmap.insert was f.name f.bytes) now (λ e is. each e (inr is)) (λ q away.
    elim (get-insert_cases was f.name f.bytes q) [
      | inl p ↦ ap (finmap.get now) p.0 ∙ each f (inl refl) ∙ sym p.1
      | inr p ↦ others q (λ e is. elim is [ inl same ↦ (λ eq. p.0 (eq ∙ ap (λ (z : OutFile). z.name) (sym same))) | inr later ↦ away e later ]) ∙ sym p.1
    ])

-- a shelf where each of these files stands, and every other name is as before, is the one with these files
pub with_files-all : (fs : List OutFile) (before now : Option Files) → is_some now ≡ is_some before
    → ((f : OutFile) → IsIn fs f → HasFile now f.name f.bytes)
    → ((q : List ℕ) → ((f : OutFile) → IsIn fs f → q ≢ f.name) → file_at now q ≡ file_at before q) → now ≡ with_files before fs
with_files-all fs None None told each others = sym (with_files-none fs)
with_files-all fs None (Some now) told each others = absurd (false≢true (sym told))
with_files-all fs (Some was) None told each others = absurd (false≢true told)
with_files-all fs (Some was) (Some now) told each others = told-all fs was now each others

-- GROUPS

-- the files of these groups of a list, from group i on
module _ (mode : Mode) (shape : FileShape) (prefix node : List ℕ) (count : ℕ) (xs : List Array) where
  abbrev piece_file : ℕ → OutFile
  piece_file j = record { name = group_name prefix node j; bytes = layout shape (group_of count j xs); late = is_stream mode }

  abbrev files_from : (i n : ℕ) → List OutFile
  files_from i n = group_files mode shape prefix node i (map (λ g. take count (drop (g * count) xs)) (range_with_len i n))

  -- each of these groups has its file
  group-in : (i n j : ℕ) → i ≤ j → j < i + n → IsIn (files_from i n) (piece_file j)
  group-in i zero j low high = absurd (omega (arith, low, high))
  group-in i (suc n) j low high =
      elim (cases_eq i j) [
        | inl same ↦ inl (ap piece_file same)
        | inr other ↦ inr (group-in (i + 1) n j (omega (arith, low, other)) (omega (arith, high)))
      ]

  -- and each file is that of one of these groups
  group-out : (i n : ℕ) (f : OutFile) → IsIn (files_from i n) f → (j : ℕ) × (j < i + n) × (piece_file j ≡ f)
  group-out i zero f h = absurd h
  group-out i (suc n) f (inl is) = (i, omega arith, is)
  group-out i (suc n) f (inr later) = let p = group-out (i + 1) n f later in (p.0, omega (arith, p.1), p.2)

-- a group that begins within the list is one of its groups
group-count : (n count i : ℕ) → 1 ≤ count → i * count < n → i < (n + (count - 1)) / count
group-count n count i some within =
    let one : suc i * count ≡ i * count + count = suc-mul i count in
    let le : suc i ≤ (n + (count - 1)) / count = le-div (suc i) (n + (count - 1)) count some (omega (arith, one, within, some)) in
    omega (arith, le)

-- and each of them begins within the list
begins : (n count i : ℕ) → 1 ≤ count → i < (n + (count - 1)) / count → i * count < n
begins n count i some within =
    let whole : (n + (count - 1)) / count * count ≤ n + (count - 1) = div-mul-le_self (n + (count - 1)) count in
    let rows : suc i * count ≤ (n + (count - 1)) / count * count = mul-le-mul_right count within in
    let one : suc i * count ≡ i * count + count = suc-mul i count in
    omega (arith, whole, rows, one, some)

-- WHICH FILES THERE ARE

-- all arrays that go out of node v
abbrev pub all_out : Graph → StackValue → ℕ → List Array
all_out g s v = arrays_out g.nodes s.arrays v (passed g s v)

-- the file of group i of node v
abbrev pub group_out : Graph → StackValue → (prefix : List ℕ) → (v i : ℕ) → NodeRule → FileRule → OutFile
group_out g s prefix v i n r =
    record { name = group_name prefix n.name i; bytes = layout (file_shape g s v) (group_of r.count i (all_out g s v)); late = is_stream r.mode }

-- the rows of node v
abbrev pub rows_file : Graph → StackValue → (prefix : List ℕ) → ℕ → NodeRule → StatsRule → OutFile
rows_file g s prefix v n r =
    record { name = stats_name prefix n.name; bytes = flat_map row (map (measure_of_array r) (all_out g s v)); late = false }

-- a group of a file node that has an array, or the rows of a statistics node
pub data IsPlainFile (g : Graph) (s : StackValue) (prefix : List ℕ) (f : OutFile) : Type 0 where
  Group : (v i : ℕ) (n : NodeRule) (r : FileRule) → rule_at g.nodes v ≡ Some n → n.kind ≡ File r → 1 ≤ length (group_of r.count i (all_out g s v))
      → group_out g s prefix v i n r ≡ f → IsPlainFile g s prefix f
  Rows : (v : ℕ) (n : NodeRule) (r : StatsRule) → rule_at g.nodes v ≡ Some n → n.kind ≡ Stats r → rows_file g s prefix v n r ≡ f → IsPlainFile g s prefix f

module _ (g : Graph) (s : StackValue) (prefix : List ℕ) (sound : IsGraph g) (v : ℕ) (n : NodeRule) (at : rule_at g.nodes v ≡ Some n) where
  abbrev shape : FileShape
  shape = file_shape g s v

  abbrev made : List OutFile
  made = kind_files n.kind shape prefix n.name (result_of g s v)

  -- what goes out of the node is what it makes of what its input passes on to it
  out-are : arrays_out g.nodes s.arrays v (outputs g.nodes s.arrays v (passed_to g s v)) ≡ all_out g s v
  out-are = ap (arrays_out g.nodes s.arrays v) (sym (passed-step g s v sound (rule_within g.nodes v n (sym at))))

  module _ (r : FileRule) (same : n.kind ≡ File r) where
    -- the groups of a file node
    files-are : (result_of g s v).files ≡ groups r.count (all_out g s v)
    files-are =
        ap (files_of (rule_at g.nodes v)) out-are ∙ ap (λ (o : Option NodeRule). files_of o (all_out g s v)) at
        ∙ ap (λ (k : Kind). one.kind_files k (all_out g s v)) same

    -- and their files
    made-are : made ≡ files_from r.mode shape prefix n.name r.count (all_out g s v) 0 ((length (all_out g s v) + (r.count - 1)) / r.count)
    made-are = ap (λ (k : Kind). kind_files k shape prefix n.name (result_of g s v)) same ∙ ap (group_files r.mode shape prefix n.name 0) files-are

    -- the file of a group that has an array
    group-to : (i : ℕ) → 1 ≤ length (group_of r.count i (all_out g s v)) → IsIn made (group_out g s prefix v i n r)
    group-to i filled =
        let long = length-take r.count (drop (i * r.count) (all_out g s v)) in
        let rest = length-drop (i * r.count) (all_out g s v) in
        let some : 1 ≤ r.count = omega (arith, filled, long) in
        let begun : i * r.count < length (all_out g s v) = omega (arith, filled, long, rest) in
        let within : i < 0 + (length (all_out g s v) + (r.count - 1)) / r.count = omega (arith, group-count (length (all_out g s v)) r.count i some begun) in
        subst (λ (fs : List OutFile). IsIn fs (group_out g s prefix v i n r)) (sym made-are)
        (group-in r.mode shape prefix n.name r.count (all_out g s v) 0 _ i (omega arith) within)

    -- each file is that of such a group
    group-from : (f : OutFile) → 1 ≤ r.count → IsIn made f → IsPlainFile g s prefix f
    group-from f some h =
        let p = group-out r.mode shape prefix n.name r.count (all_out g s v) 0 _ f (subst (λ (fs : List OutFile). IsIn fs f) made-are h) in
        let within : p.0 < (length (all_out g s v) + (r.count - 1)) / r.count = omega (arith, p.1) in
        let begun : p.0 * r.count < length (all_out g s v) = begins (length (all_out g s v)) r.count p.0 some within in
        let long = length-take r.count (drop (p.0 * r.count) (all_out g s v)) in
        let rest = length-drop (p.0 * r.count) (all_out g s v) in
        Group v p.0 n r at same (omega (arith, long, rest, some, begun)) p.2

  module _ (r : StatsRule) (same : n.kind ≡ Stats r) where
    -- the measures of a statistics node
    measures-are : (result_of g s v).measures ≡ map (measure_of_array r) (all_out g s v)
    measures-are =
        ap (measures_of (rule_at g.nodes v)) out-are ∙ ap (λ (o : Option NodeRule). measures_of o (all_out g s v)) at
        ∙ ap (λ (k : Kind). kind_measures k (all_out g s v)) same

    -- and their rows
    rows-are : made ≡ rows_file g s prefix v n r ∷ []
    rows-are =
        ap (λ (k : Kind). kind_files k shape prefix n.name (result_of g s v)) same
        ∙ ap (λ (ms : List Measure). record { name = stats_name prefix n.name; bytes = flat_map row ms; late = false } ∷ []) measures-are

    -- which the run has
    rows-to : IsIn made (rows_file g s prefix v n r)
    rows-to = subst (λ (fs : List OutFile). IsIn fs (rows_file g s prefix v n r)) (sym rows-are) (inl refl)

    -- and nothing else at that node
    rows-from : (f : OutFile) → IsIn made f → IsPlainFile g s prefix f
    rows-from f h =
        elim (subst (λ (fs : List OutFile). IsIn fs f) rows-are h) [ inl is ↦ Rows v n r at same is | inr none ↦ absurd none ]

  -- by the kind of the node
  from-by : (k : Kind) (f : OutFile) → IsKind n.kind → n.kind ≡ k → IsIn made f → IsPlainFile g s prefix f
  from-by (File r) f kind same h = let rule : IsFile r = subst IsKind same kind in group-from r same f rule.count.0 h
  from-by (Stats r) f kind same h = rows-from r same f h
  from-by (Roi r) f kind same h = absurd (subst (λ (k : Kind). IsIn (kind_files k shape prefix n.name (result_of g s v)) f) same h)
  from-by (Circular r) f kind same h = absurd (subst (λ (k : Kind). IsIn (kind_files k shape prefix n.name (result_of g s v)) f) same h)
  from-by Scatter f kind same h = absurd (subst (λ (k : Kind). IsIn (kind_files k shape prefix n.name (result_of g s v)) f) same h)

-- a node that has a rule is one of the graph's
pub rule-place : (g : Graph) (v : ℕ) (n : NodeRule) → rule_at g.nodes v ≡ Some n → (1 ≤ v) × (v ≤ length g.nodes)
rule-place g zero n at = absurd (cc)
rule-place g (suc k) n at = (omega arith, slice_get_within g.nodes k n at)

module _ (g : Graph) (s : StackValue) (prefix : List ℕ) (sound : IsGraph g) where
  -- a file of a node is one of the run
  at-node : (v : ℕ) (n : NodeRule) (f : OutFile) → rule_at g.nodes v ≡ Some n → IsIn (kind_files n.kind (file_shape g s v) prefix n.name (result_of g s v)) f
      → IsIn (plain_files g s prefix) f
  at-node v n f at h =
      let here : IsIn (node_files g s prefix v) f =
      subst (λ (o : Option NodeRule). IsIn (option_map_or (λ m. kind_files m.kind (file_shape g s v) prefix m.name (result_of g s v)) o []) f) (sym at) h in
      let p = rule-place g v n at in
      in-range (node_files g s prefix) 1 (length g.nodes) v f p.0 (omega (arith, p.1)) here

  -- the run has each of these files
  pub plain-in : (f : OutFile) → IsPlainFile g s prefix f → IsIn (plain_files g s prefix) f
  plain-in f (Group v i n r at same filled is) =
      subst (IsIn (plain_files g s prefix)) is (at-node v n (group_out g s prefix v i n r) at (group-to g s prefix sound v n at r same i filled))
  plain-in f (Rows v n r at same is) =
      subst (IsIn (plain_files g s prefix)) is (at-node v n (rows_file g s prefix v n r) at (rows-to g s prefix sound v n at r same))

  -- and no other
  pub plain-out : (f : OutFile) → IsIn (plain_files g s prefix) f → IsPlainFile g s prefix f
  plain-out f h = let p = out-range (node_files g s prefix) 1 (length g.nodes) f h in by p.0 (rule_at g.nodes p.0) refl p.1
    where
      by : (v : ℕ) (o : Option NodeRule) → rule_at g.nodes v ≡ o
          → IsIn (option_map_or (λ m. kind_files m.kind (file_shape g s v) prefix m.name (result_of g s v)) o []) f → IsPlainFile g s prefix f
      by v None at h = absurd h
      by v (Some n) at h = from-by g s prefix sound v n at n.kind f (stands g v n sound (sym at)).sound.kind refl h
