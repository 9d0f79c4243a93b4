-- The files of a node, by its kind.
use Rattle.std.proofs.Common.{◌≡◌, ℕ, zero, suc, ◌+◌, Bool, true, false, List, [], ◌++◌, Option, None, Some, length, refl, ap, ◌∙◌, ◌⊎◌, inl, inr}
use Rattle.std.specs.Prelude.{if◌then◌else◌}
use Rattle.std.specs.List.{flat_map, range_with_len}
use Rattle.std.specs.Option.{option_map_or}
use Rattle.std.specs.Str.{bytes_eq}
use Rattle.std.proofs.lemmas.List.{append-nil}
use Rattle.nd_base.specs.Array.{StackValue}
use Rattle.nd_base.specs.GraphRules.{rule_at}
use Rattle.nd_base.specs.declared.graph.CircularRule.{CircularRule}
use Rattle.nd_base.specs.declared.graph.FileRule.{FileRule}
use Rattle.nd_base.specs.declared.graph.Graph.{Graph}
use Rattle.nd_base.specs.declared.graph.Kind.{Kind}
use Rattle.nd_base.specs.declared.graph.Kind.TheVariants.{Roi, Stats, Circular, File, Scatter}
use Rattle.nd_base.specs.declared.graph.NodeRule.{NodeRule}
use Rattle.nd_base.specs.declared.graph.RoiRule.{RoiRule}
use Rattle.nd_base.specs.declared.graph.StatsRule.{StatsRule}
use Rattle.flow_journal.specs.Pasts.{Past}
use Rattle.flow_journal.specs.Unsaved.{standing_saves}
use Rattle.graph_files.specs.OutFiles.{group_name, stats_name}
use Rattle.flow_saver.specs.HistoryFiles.{kind_group, kind_rows}
use Rattle.data_check.specs.ComparedFiles.{ComparedFile, log_node, file_of, group_files, rows_files, rule_files, node_files}

module _ (g : Graph) (stack : StackValue) (prefix : List ℕ) (P : Past) (v : ℕ) where
  pub rule-node : (n : NodeRule) → rule_at g.nodes v ≡ Some n → node_files g stack prefix P v ≡ rule_files g stack prefix P v n
  rule-node n is = ap (λ (o : Option NodeRule). option_map_or (rule_files g stack prefix P v) o []) is

  pub no-node : rule_at g.nodes v ≡ None → node_files g stack prefix P v ≡ []
  no-node is = ap (λ (o : Option NodeRule). option_map_or (rule_files g stack prefix P v) o []) is

  module _ (n : NodeRule) where
    abbrev groups : List ComparedFile
    groups = flat_map (group_files g stack prefix P v n) (range_with_len 0 (length (standing_saves v P)))

    no-groups : ((i : ℕ) → kind_group g stack P v n.kind i ≡ None) → (a m : ℕ) → flat_map (group_files g stack prefix P v n) (range_with_len a m) ≡ []
    no-groups none a zero = refl
    no-groups none a (suc m) =
        ap (λ o. file_of v a (group_name prefix n.name a) o ++ flat_map (group_files g stack prefix P v n) (range_with_len (a + 1) m)) (none a)
        ∙ no-groups none (a + 1) m

    rows-by : (b : Bool) → kind_rows g stack P v n.kind ≡ None
        → (if b then [] else file_of v 0 (stats_name prefix n.name) (kind_rows g stack P v n.kind)) ≡ []
    rows-by true none = refl
    rows-by false none = ap (file_of v 0 (stats_name prefix n.name)) none

    -- a file node has its groups
    pub file-node : (r : FileRule) → n.kind ≡ File r → rule_files g stack prefix P v n ≡ groups
    file-node r kind =
        ap (λ fs. groups ++ fs) (rows-by (bytes_eq n.name log_node) (ap (λ (k : Kind). kind_rows g stack P v k) kind)) ∙ append-nil groups

    -- a statistics node its rows, save where they have the log's name
    pub stats-node : (r : StatsRule) → n.kind ≡ Stats r → bytes_eq n.name log_node ≡ false
        → rule_files g stack prefix P v n ≡ file_of v 0 (stats_name prefix n.name) (kind_rows g stack P v n.kind)
    stats-node r kind other =
        ap (λ fs. fs ++ rows_files g stack prefix P v n) (no-groups (λ i. ap (λ (k : Kind). kind_group g stack P v k i) kind) 0 (length (standing_saves v P)))
        ∙ ap (λ (b : Bool). if b then [] else file_of v 0 (stats_name prefix n.name) (kind_rows g stack P v n.kind)) other

    pub log-node : (r : StatsRule) → n.kind ≡ Stats r → bytes_eq n.name log_node ≡ true → rule_files g stack prefix P v n ≡ []
    log-node r kind same =
        ap (λ fs. fs ++ rows_files g stack prefix P v n) (no-groups (λ i. ap (λ (k : Kind). kind_group g stack P v k i) kind) 0 (length (standing_saves v P)))
        ∙ ap (λ (b : Bool). if b then [] else file_of v 0 (stats_name prefix n.name) (kind_rows g stack P v n.kind)) same

    -- and every other has none
    no-files : ((i : ℕ) → kind_group g stack P v n.kind i ≡ None) → kind_rows g stack P v n.kind ≡ None → rule_files g stack prefix P v n ≡ []
    no-files none no_rows =
        ap (λ fs. fs ++ rows_files g stack prefix P v n) (no-groups none 0 (length (standing_saves v P))) ∙ rows-by (bytes_eq n.name log_node) no_rows

    pub other-node : ((r : RoiRule) × (n.kind ≡ Roi r)) ⊎ (((r : CircularRule) × (n.kind ≡ Circular r)) ⊎ (n.kind ≡ Scatter))
        → rule_files g stack prefix P v n ≡ []
    other-node (inl roi) = no-files (λ i. ap (λ (k : Kind). kind_group g stack P v k i) roi.1) (ap (λ (k : Kind). kind_rows g stack P v k) roi.1)
    other-node (inr (inl circular)) =
        no-files (λ i. ap (λ (k : Kind). kind_group g stack P v k i) circular.1) (ap (λ (k : Kind). kind_rows g stack P v k) circular.1)
    other-node (inr (inr scatter)) = no-files (λ i. ap (λ (k : Kind). kind_group g stack P v k i) scatter) (ap (λ (k : Kind). kind_rows g stack P v k) scatter)
