-- The measures of a board are one list a node.
use Rattle.std.proofs.Common.{◌≡◌, List, length, sym, ap, ◌∙◌}
use Rattle.std.proofs.lemmas.List.{length-map}
use Rattle.nd_base.specs.Array.{StackValue}
use Rattle.nd_base.specs.declared.graph.Graph.{Graph}
use Rattle.nd_base.specs.declared.measure.Measure.{Measure}
use Rattle.nd_base.specs.declared.plan.Plan.{Plan}
use Rattle.chain_plain.specs.Plans.{plan_of}
use Rattle.flow_journal.specs.Setting.{numbers_from}
use Rattle.flow_journal.specs.Pasts.{Past}
use Rattle.flow_journal.specs.RunSetting.{node_of}
use Rattle.flow_journal.proofs.Lengths.{numbers-length}
use Rattle.board_rules.specs.Ends.{measured_at, measured}
use Rattle.board_rules.specs.RunMeasures.{run_setting, run_measure}

-- each node has its measures
pub measures-many : (g : Graph) (stack : StackValue) (p : Plan) (P : Past) (m : List (List Measure)) → p ≡ plan_of g stack
    → m ≡ measured (run_measure g stack) (run_setting g stack) P → length m ≡ length p.graph.nodes
measures-many g stack p P m plan_ is =
    ap length is ∙ (length-map (numbers_from 1 (run_setting g stack).nodes) (measured_at (run_measure g stack) P)
    ∙ (numbers-length 1 (run_setting g stack).nodes ∙ (length-map g.nodes node_of ∙ sym (ap (λ (q : Plan). length q.graph.nodes) plan_))))
