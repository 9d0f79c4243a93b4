use Rattle.std.proofs.Common.{◌≡◌, ◌∙◌, ap, sym, arith, length, map}
use Rattle.flow_journal.specs.Setting.{Setting, Node, Work}
use Rattle.flow_journal.specs.RunSetting.{need_of as need_among, node_of, setting_of}
use Rattle.course_parts.proofs.RulesOf.{node-at}
use Rattle.course_parts.proofs.rules.node_rules.Goals as goal

pub returns : goal.returns
returns c =
    λ arrays.
    let p = c.args.plan.now in
    let s : Setting = setting_of p.graph p.makers arrays in
    let n = c.index-nodes-node.result in
    let are : s.nodes ≡ map node_of c.as_slice-nodes.result.now = ap (map node_of) (sym c.as_slice-nodes.ensures) in
    let worked : Work → Node = λ w. record { work = w; input = n.input; queue = n.queue; threads = n.threads; sort = n.sort; sort_time = n.sort_time } in
    record {
      node =
          ap worked c.work_of.ensures
          ∙ node-at s c.args.node c.as_slice-nodes.result.now n are c.requires.node.0
          (omega (arith, c.requires.node.1, ap length c.as_slice-nodes.ensures)) c.index-nodes-node.is;
      need = c.need_among.ensures ∙ ap (λ ms. need_among ms c.args.node) c.as_slice.ensures;
      children = c.new.ensures ∙ c.in_ok-children.ensures s are;
    }
