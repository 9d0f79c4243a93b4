-- No two files have one name.
use Rattle.std.proofs.Common.{◌≡◌, ◌≢◌, inl, inr, ℕ, zero, suc, ◌+◌, ◌-◌, ◌*◌, ◌/◌, ◌^◌, ◌<◌, ◌≤◌, false, List, [], ◌∷◌, Option, None, Some}
use Rattle.std.proofs.Common.{length, take, drop, get_or, refl, ap, sym, subst, ◌∙◌, arith, append_assoc}
use Rattle.std.specs.Prelude.{All, codes}
use Rattle.std.specs.List.{flat_map, range_with_len}
use Rattle.std.specs.Option.{option_map_or}
use Rattle.std.proofs.Math.Nat.{div-le_self}
use Rattle.std.proofs.lemmas.List.Elements.{All-nil, All-cons}
use Rattle.std.proofs.lemmas.List.FromFn.{length-map-range_with_len}
use Rattle.std.proofs.lemmas.List.Kept.{AllPairs-cons}
use Rattle.queue_sort.proofs.ById.{AllPairs-append}
use Rattle.nd_base.specs.Array.{Array, StackValue}
use Rattle.nd_base.specs.declared.attribute.FileShape.{FileShape}
use Rattle.nd_base.specs.declared.graph.FileRule.{FileRule}
use Rattle.nd_base.specs.declared.graph.Graph.{Graph}
use Rattle.nd_base.specs.declared.graph.Kind.{Kind}
use Rattle.nd_base.specs.declared.graph.Kind.TheVariants.{Roi, Stats, Circular, File, Scatter}
use Rattle.nd_base.specs.declared.graph.Mode.{Mode}
use Rattle.nd_base.specs.declared.graph.NodeRule.{NodeRule}
use Rattle.nd_base.specs.GraphRules.{IsGraph, IsKind, IsFile, rule_at}
use Rattle.cdf_write.specs.Layout.{layout}
use Rattle.nd_stats.specs.Row.{row}
use Rattle.chain_plain.specs.OneThread.{arrays_out, outputs, groups, files_of}
use Rattle.chain_plain.specs.OneThread as one
use Rattle.chain_plain.specs.PassedLaws.{passed-step, passed-frames, passed-few}
use Rattle.chain_plain.specs.PassingLaws.{rule_within}
use Rattle.chain_plain.specs.PlainRun.{passed, passed_to, result_of}
use Rattle.chain_plain.proofs.Rules.{stands}
use Rattle.graph_files.specs.NameLaws.{names-differ, stats-differ, stats_names-differ}
use Rattle.graph_files.specs.NodeFileLaws.{cases_eq}
use Rattle.graph_files.specs.OpenFileLaws.{rules-apart}
use Rattle.graph_files.specs.OutFiles.{OutFile, file_shape, group_files, group_name, is_stream, stats_name, kind_files, node_files, plain_files}
use Rattle.graph_files.specs.OutgoingLaws.{length-arrays_out}
use Rattle.tool_commands.specs.Command.{Copy, Plain, Info, Gen, Orient, Correct, Series}
use Rattle.tool_commands.specs.Copy.{copy_graph}
use Rattle.replay_top.specs.FileNames.{HaveOwnNames, CommandsHaveOwnNames, GroupsHaveOwnNames, RowsHaveOwnNames, GroupsAreNoTexts, OnlyLogsMeetTheLog}
use Rattle.replay_top.specs.LogFiles.{log_name}
use Rattle.tool_commands.specs.Works.{Work}
use Rattle.tool_commands.proofs.Copies.{copy_graph-IsGraph}
use Rattle.tool_commands.proofs.EachNode.{All-each}
use Rattle.tool_commands.proofs.FewFiles.{gen_few, orient_few, correct_few, series_few}
use Rattle.tool_commands.proofs.Leads.{of_copy, of_plain, of_info}

-- NODES

-- two nodes of one name are one node
one_node : (g : Graph) → IsGraph g → (v w : ℕ) (m n : NodeRule) → rule_at g.nodes v ≡ Some m → rule_at g.nodes w ≡ Some n → m.name ≡ n.name → v ≡ w
one_node g sound zero w m n at_m at_n same = absurd (cc)
one_node g sound (suc j) zero m n at_m at_n same = absurd (cc)
one_node g sound (suc j) (suc k) m n at_m at_n same =
    elim (cases_eq j k) [ inl here ↦ ap suc here | inr ne ↦ absurd (rules-apart g.nodes sound.names j k m n at_m at_n ne same) ]

-- NAMES

pub group_names : GroupsHaveOwnNames
group_names g prefix v w i j m n sound at_m at_n hi hj same =
    let p = names-differ prefix m.name n.name i j hi hj same in
    (one_node g sound v w m n at_m at_n p.0, p.1)

pub rows_names : RowsHaveOwnNames
rows_names g prefix v w m n sound at_m at_n same = one_node g sound v w m n at_m at_n (stats_names-differ prefix m.name n.name same)

pub log_is : (prefix : List ℕ) → stats_name prefix (codes "log") ≡ log_name prefix
log_is prefix = append_assoc prefix (codes "log") (codes ".txt")

pub no_texts : GroupsAreNoTexts
no_texts prefix m n i = (stats-differ prefix m n i, λ same. stats-differ prefix m (codes "log") i (same ∙ sym (log_is prefix)))

pub only_logs : OnlyLogsMeetTheLog
only_logs prefix n same = stats_names-differ prefix n (codes "log") (same ∙ sym (log_is prefix))

-- the name is that of a group of the node, or of its rows
data IsNameOf (prefix node q : List ℕ) : Type 0 where
  OfGroup : (i : ℕ) → i < 2 ^ 64 → q ≡ group_name prefix node i → IsNameOf prefix node q
  OfRows : q ≡ stats_name prefix node → IsNameOf prefix node q

names-apart : (prefix m n p q : List ℕ) → m ≢ n → IsNameOf prefix m p → IsNameOf prefix n q → p ≢ q
names-apart prefix m n p q ne (OfGroup i hi is) (OfGroup j hj at) same = ne (names-differ prefix m n i j hi hj (sym is ∙ same ∙ at)).0
names-apart prefix m n p q ne (OfGroup i hi is) (OfRows at) same = stats-differ prefix m n i (sym is ∙ same ∙ at)
names-apart prefix m n p q ne (OfRows is) (OfGroup j hj at) same = stats-differ prefix n m j (sym at ∙ sym same ∙ is)
names-apart prefix m n p q ne (OfRows is) (OfRows at) same = ne (stats_names-differ prefix m n (sym is ∙ same ∙ at))

-- FILES

abbrev Apart : OutFile → OutFile → Type 0
Apart a b = a.name ≢ b.name

no_pairs : HaveOwnNames []
no_pairs = λ i j d lt within. absurd (omega (arith, within))

one_file : (f : OutFile) → HaveOwnNames (f ∷ [])
one_file f = λ i j d lt within. absurd (omega (arith, lt, within))

-- names that differ in each list, and from those of every later one, differ in all
pairs-range : (files : ℕ → List OutFile) (a n : ℕ) → ((v : ℕ) → HaveOwnNames (files v))
    → ((v w : ℕ) → v < w → All (λ x. All (Apart x) (files w)) (files v)) → HaveOwnNames (flat_map files (range_with_len a n))
pairs-range files a zero own between = no_pairs
pairs-range files a (suc n) own between =
    AllPairs-append Apart (files a) (flat_map files (range_with_len (a + 1) n)) (own a) (pairs-range files (a + 1) n own between)
    (λ k d within. All-each files (Apart (get_or (files a) k d)) (a + 1) n (λ w low. between a w (omega (arith, low)) k d within))

-- GROUPS

module _ (mode : Mode) (shape : FileShape) (prefix node : List ℕ) where
  -- a file of a group from i on
  abbrev IsFrom : ℕ → OutFile → Type 0
  IsFrom i f = (j : ℕ) × (i ≤ j) × (j < 2 ^ 64) × (f.name ≡ group_name prefix node j)

  abbrev first : ℕ → List Array → OutFile
  first i group = record { name = group_name prefix node i; bytes = layout shape group; late = is_stream mode }

  numbered : (i : ℕ) (gs : List (List Array)) → i + length gs ≤ 2 ^ 64 → All (IsFrom i) (group_files mode shape prefix node i gs)
  numbered i [] few = All-nil (IsFrom i)
  numbered i (x ∷ gs) few =
      All-cons (IsFrom i) (first i x) (group_files mode shape prefix node (i + 1) gs) (i, omega arith, omega (arith, few), refl)
      (λ k d within. let h = numbered (i + 1) gs (omega (arith, few)) k d within in (h.0, omega (arith, h.1), h.2, h.3))

  group_pairs : (i : ℕ) (gs : List (List Array)) → i + length gs ≤ 2 ^ 64 → HaveOwnNames (group_files mode shape prefix node i gs)
  group_pairs i [] few = no_pairs
  group_pairs i (x ∷ gs) few =
      AllPairs-cons Apart (first i x) (group_files mode shape prefix node (i + 1) gs)
      (λ k d within same.
      let h = numbered (i + 1) gs (omega (arith, few)) k d within in
      let e : i ≡ h.0 = (names-differ prefix node node i h.0 (omega (arith, few)) h.2 (same ∙ h.3)).1 in
      absurd (omega (arith, e, h.1)))
      (group_pairs (i + 1) gs (omega (arith, few)))

-- THE PLAIN RUN

module _ (g : Graph) (s : StackValue) (prefix : List ℕ) (sound : IsGraph g) (few : length s.arrays ≤ 65536) where
  module _ (v : ℕ) (n : NodeRule) (at : rule_at g.nodes v ≡ Some n) where
    abbrev out : List Array
    out = arrays_out g.nodes s.arrays v (outputs g.nodes s.arrays v (passed_to g s v))

    -- no more arrays go out than the stack has
    out-few : length out ≤ 65536
    out-few =
        let same = ap (λ (ks : List ℕ). length (arrays_out g.nodes s.arrays v ks)) (passed-step g s v sound (rule_within g.nodes v n (sym at))) in
        let long = length-arrays_out g.nodes s.arrays v (passed g s v) (passed-frames g s v) in
        omega (arith, same, long, passed-few g s v, few)

    -- and no more groups are written
    groups-few : (r : FileRule) → n.kind ≡ File r → 0 + length (result_of g s v).files ≤ 2 ^ 64
    groups-few r same =
        let rule : IsFile r = subst IsKind same (stands g v n sound (sym at)).sound.kind in
        let files : (result_of g s v).files ≡ groups r.count out =
        ap (λ (o : Option NodeRule). files_of o out) at ∙ ap (λ (k : Kind). one.kind_files k out) same in
        let long : length (groups r.count out) ≡ (length out + (r.count - 1)) / r.count =
        length-map-range_with_len (λ i. take r.count (drop (i * r.count) out)) 0 ((length out + (r.count - 1)) / r.count) in
        omega (arith, ap (λ (gs : List (List Array)). length gs) files, long, div-le_self (length out + (r.count - 1)) r.count, out-few, rule.count.1)

    own : (k : Kind) → n.kind ≡ k → HaveOwnNames (kind_files k (file_shape g s v) prefix n.name (result_of g s v))
    own (File r) same = group_pairs r.mode (file_shape g s v) prefix n.name 0 (result_of g s v).files (groups-few r same)
    own (Stats r) same = one_file (record { name = stats_name prefix n.name; bytes = flat_map row (result_of g s v).measures; late = false })
    own (Roi r) same = no_pairs
    own (Circular r) same = no_pairs
    own Scatter same = no_pairs

    abbrev Named : OutFile → Type 0
    Named f = IsNameOf prefix n.name f.name

    named : (k : Kind) → n.kind ≡ k → All Named (kind_files k (file_shape g s v) prefix n.name (result_of g s v))
    named (File r) same =
        λ k d within. let h = numbered r.mode (file_shape g s v) prefix n.name 0 (result_of g s v).files (groups-few r same) k d within in OfGroup h.0 h.2 h.3
    named (Stats r) same =
        All-cons Named (record { name = stats_name prefix n.name; bytes = flat_map row (result_of g s v).measures; late = false }) [] (OfRows refl)
        (All-nil Named)
    named (Roi r) same = All-nil Named
    named (Circular r) same = All-nil Named
    named Scatter same = All-nil Named

  abbrev files_at : ℕ → Option NodeRule → List OutFile
  files_at v o = option_map_or (λ n. kind_files n.kind (file_shape g s v) prefix n.name (result_of g s v)) o []

  own-at : (v : ℕ) (o : Option NodeRule) → rule_at g.nodes v ≡ o → HaveOwnNames (files_at v o)
  own-at v None at = no_pairs
  own-at v (Some n) at = own v n at n.kind refl

  between-at : (v w : ℕ) → v < w → (o p : Option NodeRule) → rule_at g.nodes v ≡ o → rule_at g.nodes w ≡ p
      → All (λ x. All (Apart x) (files_at w p)) (files_at v o)
  between-at v w below None p at_v at_w = All-nil (λ x. All (Apart x) (files_at w p))
  between-at v w below (Some m) None at_v at_w = λ k d within. All-nil (Apart (get_or (files_at v (Some m)) k d))
  between-at v w below (Some m) (Some n) at_v at_w =
      λ k d within l e inside.
      names-apart prefix m.name n.name _ _ (λ same. let here = one_node g sound v w m n at_v at_w same in absurd (omega (arith, below, here)))
      (named v m at_v m.kind refl k d within) (named w n at_w n.kind refl l e inside)

  plain_names : HaveOwnNames (plain_files g s prefix)
  plain_names =
      pairs-range (node_files g s prefix) 1 (length g.nodes) (λ v. own-at v (rule_at g.nodes v) refl)
      (λ v w below. between-at v w below (rule_at g.nodes v) (rule_at g.nodes w) refl refl)

-- COMMANDS

few_names : (files : List OutFile) → length files ≤ 1 → HaveOwnNames files
few_names files few = λ i j d lt within. absurd (omega (arith, few, lt, within))

pub command_names : CommandsHaveOwnNames
command_names told None work leads = absurd (cc)
command_names told (Some (Copy stack prefix)) work leads =
    let p = of_copy told stack prefix work leads in
    subst (λ (w : Work). HaveOwnNames w.files) (sym p.3) (plain_names copy_graph p.0 prefix copy_graph-IsGraph p.1.sound)
command_names told (Some (Plain graph stack prefix)) work leads =
    let p = of_plain told graph stack prefix work leads in
    subst (λ (w : Work). HaveOwnNames w.files) (sym p.2) (plain_names p.0.graph p.0.stack prefix p.1.graph.sound p.1.stack.sound)
command_names told (Some (Info stack)) work leads =
    let p = of_info told stack work leads in
    subst (λ (w : Work). HaveOwnNames w.files) (sym p.2) no_pairs
command_names told (Some (Gen rule name)) work leads = few_names work.files (gen_few told rule name work leads)
command_names told (Some (Orient mode stack name)) work leads = few_names work.files (orient_few told mode stack name work leads)
command_names told (Some (Correct rule dark stack name)) work leads = few_names work.files (correct_few told rule dark stack name work leads)
command_names told (Some (Series most regions stack name)) work leads = few_names work.files (series_few told most regions stack name work leads)
