use Rattle.std.proofs.Common.{arith, ◌≡◌, Some, None, ap, ◌∙◌}
use Rattle.nd_base.specs.GraphRules.{rule_at}
use Rattle.chain_plain.proofs.Rules.{stands}
use Rattle.plain_saver.proofs.Nodes.{node-between, no-region, frame-none, frame-passed, on-ok}
use Rattle.plain_saver.proofs.rooms.Rooms.+cut.Goals as goal

pub returns-in_default-clause-ok : goal.returns-in_default-clause-ok
returns-in_default-clause-ok t c =
    let g = c.args.plan.now.graph in
    let none : None ≡ rule_at g.nodes c.args.node = c.in_default.ensures ∙ ap (λ ns. rule_at ns c.args.node) c.as_slice.ensures in
    frame-none g c.args.self.now c.args.node c.args.index none

pub cut-requires : goal.cut-requires
cut-requires t c =
    let g = c.args.plan.now.graph in
    let some : Some c.in-Some.rule.now ≡ rule_at g.nodes c.args.node = c.in-Some.ensures ∙ ap (λ ns. rule_at ns c.args.node) c.as_slice.ensures in
    let near = (stands g c.args.node c.in-Some.rule.now c.requires.graph some).nearer in
    (omega (arith, c.decreases, near), (c.requires.graph, (c.requires.plan, (c.requires.frame, (c.requires.size, c.requires.cut)))))

pub returns-in_default-kind : goal.returns-in_default-kind
returns-in_default-kind t c =
    let g = c.args.plan.now.graph in
    let n = c.in-Some.rule.now in
    let some : Some n ≡ rule_at g.nodes c.args.node = c.in-Some.ensures ∙ ap (λ ns. rule_at ns c.args.node) c.as_slice.ensures in
    record {
      size = c.cut.ensures.size;
      cut = c.cut.ensures.cut;
      kept = c.cut.ensures.kept;
      ok =
          on-ok c.cut.result (frame-passed g c.cut.new.self c.args.node c.args.index n c.requires.graph some (no-region n.kind c.in_default-kind.not-Roi))
          c.cut.ensures.ok;
    }

pub has-requires : goal.has-requires
has-requires t c =
    let g = c.args.plan.now.graph in
    let some : Some c.in-Some.rule.now ≡ rule_at g.nodes c.args.node = c.in-Some.ensures ∙ ap (λ ns. rule_at ns c.args.node) c.as_slice.ensures in
    let between = node-between g c.args.node c.in-Some.rule.now c.requires.graph some in
    (between.0, omega (arith, between.1, c.requires.size))

pub cut-requires-2 : goal.cut-requires-2
cut-requires-2 t c =
    let g = c.args.plan.now.graph in
    let some : Some c.in-Some.rule.now ≡ rule_at g.nodes c.args.node = c.in-Some.ensures ∙ ap (λ ns. rule_at ns c.args.node) c.as_slice.ensures in
    let near = (stands g c.args.node c.in-Some.rule.now c.requires.graph some).nearer in
    (omega (arith, c.decreases, near), (c.requires.graph, (c.requires.plan, (c.requires.frame, (c.requires.size, c.requires.cut)))))
