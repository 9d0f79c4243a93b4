use Rattle.std.proofs.Common.{◌∙◌, ◌<◌, ◌+◌, ap, arith, length, get_or, rules, w64, FitsSigned, pos}
use Rattle.std.specs.Prelude.{◌-ℤ◌}
use Rattle.std.proofs.lemmas.Int.{to_z-of_z}
use Rattle.std.proofs.lemmas.List.{length-map}
use Rattle.flow_journal.specs.Setting.{first_prev}
use Rattle.course_parts.specs.RunRules.{as_node}
use Rattle.board_rules.specs.RunMeasures.{run_measure, run_setting}
use Rattle.course_parts.proofs.Starts.{item-within, nodes-none, nodes-more, run-starts}
use Rattle.course_parts.proofs.node.start_nodes.Goals as goal

pub loop-node-init : goal.loop-node-init
loop-node-init g c =
    nodes-none (run_measure g.R.Run.graph g.R.Run.stack) (run_setting g.R.Run.graph g.R.Run.stack) c.in_ok-nodes.nodes.items c.in_ok-nodes.ensures.items

pub new-requires : goal.new-requires
new-requires g c =
    let n = c.node-item.result in
    let fits : FitsSigned w64 c.first_id-first.result = search rules in
    let parts =
    item-within c.args.rules.now (run_setting g.R.Run.graph g.R.Run.stack) c.loop-node.node-index n c.as_slice-node-items.result.now c.requires
    c.loop-node-test.true c.as_slice-node-items.ensures c.node-item.is in
    record { queue = parts.0.2; threads = parts.0.4; work = parts.1; first = rw (to_z-of_z w64 c.first_id-first.result fits) c.first_id-first.ensures.least }

pub loop-node-preserved : goal.loop-node-preserved
loop-node-preserved g c =
    let graph = g.R.Run.graph in
    let stack = g.R.Run.stack in
    let n = c.node-item.result in
    let i = c.loop-node.node-index in
    let r = c.args.rules.now in
    let first = c.first_id-first.result in
    let fits : FitsSigned w64 c.first_id-first.result = search rules in
    let items = c.as_slice-node-items.ensures in
    let within : i < length r.nodes = omega (arith, c.loop-node-test.true, ap length items) in
    let start =
    run-starts graph stack r i n (length c.as_slice.result.now) _ c.requires within
    (c.node-item.is ∙ ap (λ ns. get_or ns i n) items) (ap length c.as_slice.ensures)
    (ap (λ z. z -ℤ pos 1) (to_z-of_z w64 first fits) ∙ c.first_id-first.ensures.first ∙ ap first_prev c.as_slice-2.ensures) in
    nodes-more (run_measure graph stack) (run_setting graph stack) i c.loop-node.nodes.items c.push.new.self.items c.in_ok-new.field-0 c.loop-node.invariant
    c.in_ok-push.ensures.items (c.in_ok-new.ensures (run_measure graph stack) (run_setting graph stack) (i + 1) start)

pub returns : goal.returns
returns g c =
    let upto = c.loop-node.invariant in
    let s = run_setting g.R.Run.graph g.R.Run.stack in
    record {
      all =
          omega (
            arith,
            upto.all,
            c.loop-node-test.false,
            c.loop-node.auto.node-index-end,
            ap length c.as_slice-node-items.ensures,
            ap length c.requires.nodes,
            length-map c.args.rules.now.nodes as_node,
          );
      each = upto.each;
    }
