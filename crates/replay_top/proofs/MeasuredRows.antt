-- What the nodes of a run measured, as rows of its log.
use Rattle.std.proofs.Common.{◌≡◌, ℕ, suc, ◌+◌, false, List, [], ◌∷◌, ◌++◌, Option, None, Some, length, map, refl, ap, ◌∙◌, arith}
use Rattle.std.specs.Prelude.{slice_get}
use Rattle.std.specs.List.{flat_map}
use Rattle.std.proofs.lemmas.List.{length-map}
use Rattle.nd_base.specs.Array.{Array, StackValue}
use Rattle.nd_base.specs.declared.frame.FrameName.{FrameName}
use Rattle.nd_base.specs.declared.graph.Graph.{Graph}
use Rattle.nd_base.specs.declared.graph.Kind.{Kind}
use Rattle.nd_base.specs.declared.graph.Kind.TheVariants.{Roi, Stats, Circular, File, Scatter}
use Rattle.nd_base.specs.declared.graph.NodeRule.{NodeRule}
use Rattle.nd_base.specs.declared.graph.StatsRule.{StatsRule}
use Rattle.nd_base.specs.declared.measure.Measure.{Measure}
use Rattle.nd_base.specs.GraphRules.{rule_at}
use Rattle.chain_plain.specs.Content.{content}
use Rattle.chain_plain.specs.OneThread.{measure_of_array}
use Rattle.chain_plain.specs.OneThread as one
use Rattle.nd_stats.specs.Row.{row}
use Rattle.flow_journal.specs.Pasts.{Past}
use Rattle.flow_journal.specs.Accepted.{emitted}
use Rattle.flow_journal.specs.RunSetting.{node_of}
use Rattle.flow_journal.specs.Setting.{numbers_from}
use Rattle.board_rules.specs.Ends.{listed, measured_at, measured}
use Rattle.board_rules.specs.RunMeasures.{run_setting, kind_measure, rule_measure, run_measure}
use Rattle.run_laws.specs.Results.{contents}
use Rattle.graph_files.specs.OutFiles.{OutFile, stats_name}
use Rattle.flow_saver.specs.HistoryFiles.{kind_rows, rows_file, rows_from, rows_files}
use Rattle.replay_top.specs.MeasuredFiles.{kind_rows_file, measured_rows, measured_files}

module _ (g : Graph) (stack : StackValue) (prefix : List ℕ) (P : Past) where
  -- the measures of a statistics node are those of the arrays that it emitted
  one_measured : (r : StatsRule) (o : Option Array) (ms : List Measure) (xs : List Array) → ms ≡ map (measure_of_array r) xs
      → listed (kind_measure (Stats r) o) ++ ms ≡ map (measure_of_array r) (one.listed o ++ xs)
  one_measured r None ms xs same = same
  one_measured r (Some a) ms xs same = ap (λ ns. measure_of_array r a ∷ ns) same

  all_measured : (r : StatsRule) (xs : List FrameName)
      → flat_map (λ (a : FrameName). listed (kind_measure (Stats r) (content g.nodes stack.arrays a))) xs
      ≡ map (measure_of_array r) (contents g.nodes stack.arrays xs)
  all_measured r [] = refl
  all_measured r (x ∷ xs) = one_measured r (content g.nodes stack.arrays x) _ _ (all_measured r xs)

  -- the rows of a node, by its kind
  kind_is : (v : ℕ) (name : List ℕ) (k : Kind) (ms : List Measure)
      → ms ≡ flat_map (λ (a : FrameName). listed (kind_measure k (content g.nodes stack.arrays a))) (emitted v P)
      → kind_rows_file prefix name k ms ≡ rows_file prefix name (kind_rows g stack P v k)
  kind_is v name (Stats r) ms same =
      ap (λ (ns : List Measure). record { name = stats_name prefix name; bytes = flat_map row ns; late = false } ∷ []) (same ∙ all_measured r (emitted v P))
  kind_is v name (Roi r) ms same = refl
  kind_is v name (Circular r) ms same = refl
  kind_is v name (File r) ms same = refl
  kind_is v name Scatter ms same = refl

  node_is : (v : ℕ) (n : NodeRule) → rule_at g.nodes v ≡ Some n
      → measured_rows prefix n (measured_at (run_measure g stack) P v) ≡ rows_file prefix n.name (kind_rows g stack P v n.kind)
  node_is v n at =
      kind_is v n.name n.kind (measured_at (run_measure g stack) P v)
      (ap (λ (o : Option NodeRule). flat_map (λ (a : FrameName). listed (rule_measure o (content g.nodes stack.arrays a))) (emitted v P)) at)

  -- the rows of these nodes, where v is the number of the first
  nodes_are : (v : ℕ) (ns : List NodeRule) → ((k : ℕ) (n : NodeRule) → slice_get ns k ≡ Some n → rule_at g.nodes (v + k) ≡ Some n)
      → measured_files prefix ns (map (measured_at (run_measure g stack) P) (numbers_from v (map node_of ns))) ≡ rows_from g stack prefix P v ns
  nodes_are v [] at = refl
  nodes_are v (n ∷ ns) at =
      let first : rule_at g.nodes v ≡ Some n = ap (rule_at g.nodes) (let e : v ≡ v + 0 = omega arith in e) ∙ at 0 n refl in
      let rest = nodes_are (v + 1) ns (λ k m is. ap (rule_at g.nodes) (let e : v + 1 + k ≡ v + suc k = omega arith in e) ∙ at (suc k) m is) in
      ap (λ (fs : List OutFile). fs ++ measured_files prefix ns (map (measured_at (run_measure g stack) P) (numbers_from (v + 1) (map node_of ns))))
      (node_is v n first)
      ∙ ap (λ (fs : List OutFile). rows_file prefix n.name (kind_rows g stack P v n.kind) ++ fs) rest

  -- what the nodes measured is the rows of the history
  pub measured-rows : (ms : List (List Measure)) → ms ≡ measured (run_measure g stack) (run_setting g stack) P
      → measured_files prefix g.nodes ms ≡ rows_files g stack prefix P
  measured-rows ms same =
      ap (measured_files prefix g.nodes) same ∙ nodes_are 1 g.nodes (λ k n is. ap (rule_at g.nodes) (let e : 1 + k ≡ suc k = omega arith in e) ∙ is)

-- as many lists of measures as nodes
length-numbers : (v : ℕ) (ns : List NodeRule) → length (numbers_from v (map node_of ns)) ≡ length ns
length-numbers v [] = refl
length-numbers v (n ∷ ns) = ap suc (length-numbers (v + 1) ns)

pub length-measured : (g : Graph) (stack : StackValue) (P : Past) (ms : List (List Measure))
    → ms ≡ measured (run_measure g stack) (run_setting g stack) P → length ms ≡ length g.nodes
length-measured g stack P ms same =
    ap length same ∙ length-map (numbers_from 1 (map node_of g.nodes)) (measured_at (run_measure g stack) P) ∙ length-numbers 1 g.nodes
