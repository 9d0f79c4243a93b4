-- The files of a smooth run are those of the plain run.
use Rattle.std.proofs.Common.{◌≡◌, inl, inr, ℕ, zero, suc, ◌≤◌, List, [], ◌∷◌, Some, length, map, refl, ap, sym, subst, ◌∙◌, arith}
use Rattle.std.specs.Prelude.{slice_get, slice_index_or, if◌then◌else◌}
use Rattle.std.specs.List.{flat_map}
use Rattle.std.proofs.lemmas.Option.{same_Some}
use Rattle.nd_base.specs.Array.{Array, StackValue}
use Rattle.nd_base.specs.declared.attribute.FileShape.{FileShape}
use Rattle.nd_base.specs.declared.graph.FileRule.{FileRule}
use Rattle.nd_base.specs.declared.graph.Graph.{Graph}
use Rattle.nd_base.specs.declared.graph.Kind.{Kind}
use Rattle.nd_base.specs.declared.graph.Kind.TheVariants.{Roi, Stats, Circular, File, Scatter}
use Rattle.nd_base.specs.declared.graph.NodeRule.{NodeRule}
use Rattle.nd_base.specs.declared.graph.StatsRule.{StatsRule}
use Rattle.nd_base.specs.GraphRules.{IsGraph, rule_at}
use Rattle.cdf_write.specs.Layout.{layout}
use Rattle.nd_stats.specs.Row.{row}
use Rattle.chain_plain.specs.OneThread.{OneThread, measure_of_array}
use Rattle.flow_journal.specs.Pasts.{Past}
use Rattle.flow_journal.specs.Accepted.{emitted}
use Rattle.flow_journal.specs.RunSetting.{node_of, work_of}
use Rattle.flow_journal.specs.Setting.{Node, no_node, node}
use Rattle.flow_journal.specs.Unsaved.{standing_saves, is_file}
use Rattle.board_rules.specs.RunMeasures.{run_setting}
use Rattle.run_laws.specs.PlainLaws.{ArePlain}
use Rattle.run_laws.specs.Results.{put_out, contents}
use Rattle.graph_files.specs.Groups.{group_of, whole_file}
use Rattle.graph_files.specs.OutFiles.{OutFile, file_shape, group_name, stats_name, plain_files}
use Rattle.graph_files.proofs.PlainNames.{IsIn, IsPlainFile, all_out, group_out, rows_file, plain-in, plain-out}
use Rattle.graph_files.proofs.PlainNames as planned
use Rattle.flow_saver.specs.HistoryFiles.{IsFileOf, Group, Rows, kind_group, kind_rows}
use Rattle.replay_top.specs.SmoothRuns.{IsAmong}
use Rattle.tool_commands.proofs.PlainRuns.{arrays}

-- AMONG FILES

-- one of these files stands among them by its name and bytes
in-among : (fs : List OutFile) (f : OutFile) → IsIn fs f → IsAmong fs f.name f.bytes
in-among [] f h = absurd h
in-among (e ∷ fs) f (inl is) = inl (ap (λ (x : OutFile). x.name) is, ap (λ (x : OutFile). x.bytes) is)
in-among (e ∷ fs) f (inr h) = inr (in-among fs f h)

-- and a name and bytes that stand among them are those of one of them
among-in : (fs : List OutFile) (name bytes : List ℕ) → IsAmong fs name bytes → (f : OutFile) × IsIn fs f × (f.name ≡ name) × (f.bytes ≡ bytes)
among-in [] name bytes h = absurd h
among-in (e ∷ fs) name bytes (inl is) = (e, inl refl, is.0, is.1)
among-in (e ∷ fs) name bytes (inr h) = let p = among-in fs name bytes h in (p.0, inr p.1, p.2, p.3)

whole-is : (shape : FileShape) (xs : List Array) (bytes : List ℕ) → whole_file shape xs ≡ Some bytes → (1 ≤ length xs) × (layout shape xs ≡ bytes)
whole-is shape [] bytes is = absurd (cc)
whole-is shape (x ∷ xs) bytes is = (omega arith, same_Some (layout shape (x ∷ xs)) bytes is)

is-whole : (shape : FileShape) (xs : List Array) → 1 ≤ length xs → whole_file shape xs ≡ Some (layout shape xs)
is-whole shape [] some = absurd (omega (arith, some))
is-whole shape (x ∷ xs) some = refl

-- ONE NODE

at-map : (ns : List NodeRule) (k : ℕ) (n : NodeRule) → slice_get ns k ≡ Some n → slice_index_or (map node_of ns) k no_node ≡ node_of n
at-map [] k n is = absurd (cc)
at-map (m ∷ ns) zero n is = ap node_of (same_Some m n is)
at-map (m ∷ ns) (suc k) n is = at-map ns k n is

module _ (g : Graph) (stack : StackValue) (prefix : List ℕ) (P : Past) (sound : IsGraph g) where
  node-is : (v : ℕ) (n : NodeRule) → rule_at g.nodes v ≡ Some n → (node (run_setting g stack) v).work ≡ work_of n.kind
  node-is zero n at = absurd (cc)
  node-is (suc k) n at = ap (λ (m : Node). m.work) (at-map g.nodes k n at)

  module _ (v : ℕ) (n : NodeRule) (at : rule_at g.nodes v ≡ Some n) (plain : ArePlain g stack v (put_out (run_setting g stack) v P)) where
    abbrev shape : FileShape
    shape = file_shape g stack v

    -- what the node put out in the run is what goes out of it in the plain run
    out-are : contents g.nodes stack.arrays (put_out (run_setting g stack) v P) ≡ all_out g stack v
    out-are = ap (λ (t : OneThread). t.arrays) plain.result ∙ arrays g stack v n sound at

    group-is : (r : FileRule) → n.kind ≡ File r → (i : ℕ)
        → kind_group g stack P v n.kind i ≡ whole_file shape (group_of r.count i (all_out g stack v))
    group-is r same i =
        let saves : put_out (run_setting g stack) v P ≡ standing_saves v P =
        ap (λ w. if is_file w then standing_saves v P else emitted v P) (node-is v n at ∙ ap work_of same) in
        ap (λ (k : Kind). kind_group g stack P v k i) same
        ∙ ap (λ xs. whole_file shape (group_of r.count i xs)) (ap (contents g.nodes stack.arrays) (sym saves) ∙ out-are)

    rows-are : (r : StatsRule) → n.kind ≡ Stats r → kind_rows g stack P v n.kind ≡ Some (flat_map row (map (measure_of_array r) (all_out g stack v)))
    rows-are r same =
        let emits : put_out (run_setting g stack) v P ≡ emitted v P =
        ap (λ w. if is_file w then standing_saves v P else emitted v P) (node-is v n at ∙ ap work_of same) in
        ap (kind_rows g stack P v) same
        ∙ ap (λ xs. Some (flat_map row (map (measure_of_array r) xs))) (ap (contents g.nodes stack.arrays) (sym emits) ∙ out-are)

    -- a file of the run is one of the plain run
    among : (f : OutFile) → IsPlainFile g stack prefix f → IsAmong (plain_files g stack prefix) f.name f.bytes
    among f is = in-among (plain_files g stack prefix) f (plain-in g stack prefix sound f is)

    group-to : (k : Kind) (i : ℕ) (bytes : List ℕ) → n.kind ≡ k → kind_group g stack P v k i ≡ Some bytes
        → IsAmong (plain_files g stack prefix) (group_name prefix n.name i) bytes
    group-to (File r) i bytes same is =
        let p = whole-is shape (group_of r.count i (all_out g stack v)) bytes
        (sym (group-is r same i) ∙ ap (λ (k : Kind). kind_group g stack P v k i) same ∙ is) in
        subst (λ (b : List ℕ). IsAmong (plain_files g stack prefix) (group_name prefix n.name i) b) p.1
        (among (group_out g stack prefix v i n r) (planned.Group v i n r at same p.0 refl))
    group-to (Roi r) i bytes same is = absurd (cc)
    group-to (Stats r) i bytes same is = absurd (cc)
    group-to (Circular r) i bytes same is = absurd (cc)
    group-to Scatter i bytes same is = absurd (cc)

    rows-to : (k : Kind) (bytes : List ℕ) → n.kind ≡ k → kind_rows g stack P v k ≡ Some bytes
        → IsAmong (plain_files g stack prefix) (stats_name prefix n.name) bytes
    rows-to (Stats r) bytes same is =
        let same_bytes = same_Some _ bytes (sym (rows-are r same) ∙ ap (kind_rows g stack P v) same ∙ is) in
        subst (λ (b : List ℕ). IsAmong (plain_files g stack prefix) (stats_name prefix n.name) b) same_bytes
        (among (rows_file g stack prefix v n r) (planned.Rows v n r at same refl))
    rows-to (Roi r) bytes same is = absurd (cc)
    rows-to (File r) bytes same is = absurd (cc)
    rows-to (Circular r) bytes same is = absurd (cc)
    rows-to Scatter bytes same is = absurd (cc)

-- ALL NODES

module _ (g : Graph) (stack : StackValue) (prefix : List ℕ) (P : Past) (sound : IsGraph g)
    (plain : (v : ℕ) (n : NodeRule) → rule_at g.nodes v ≡ Some n → ArePlain g stack v (put_out (run_setting g stack) v P)) where
  pub smooth-to : (name bytes : List ℕ) → IsFileOf g stack prefix P name bytes → IsAmong (plain_files g stack prefix) name bytes
  smooth-to _ _ (Group v i n b at is) = group-to g stack prefix P sound v n at (plain v n at) n.kind i b refl is
  smooth-to _ _ (Rows v n b at is) = rows-to g stack prefix P sound v n at (plain v n at) n.kind b refl is

  -- a file of the plain run is one of the run
  from-plain : (f : OutFile) → IsPlainFile g stack prefix f → IsFileOf g stack prefix P f.name f.bytes
  from-plain f (planned.Group v i n r at same filled is) =
      let held = group-is g stack prefix P sound v n at (plain v n at) r same i
      ∙ is-whole (file_shape g stack v) (group_of r.count i (all_out g stack v)) filled in
      subst (λ (e : OutFile). IsFileOf g stack prefix P e.name e.bytes) is (Group v i n _ at held)
  from-plain f (planned.Rows v n r at same is) =
      subst (λ (e : OutFile). IsFileOf g stack prefix P e.name e.bytes) is (Rows v n _ at (rows-are g stack prefix P sound v n at (plain v n at) r same))

  pub smooth-from : (name bytes : List ℕ) → IsAmong (plain_files g stack prefix) name bytes → IsFileOf g stack prefix P name bytes
  smooth-from name bytes h =
      let p = among-in (plain_files g stack prefix) name bytes h in
      subst (λ (q : List ℕ). IsFileOf g stack prefix P q bytes) p.2
      (subst (λ (b : List ℕ). IsFileOf g stack prefix P p.0.name b) p.3 (from-plain p.0 (plain-out g stack prefix sound p.0 p.1)))
