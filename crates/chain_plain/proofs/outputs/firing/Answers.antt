use Rattle.std.proofs.Common.{take, ◌∙◌}
use Rattle.std.proofs.lemmas.List.{take_more}
use Rattle.chain_plain.proofs.Windows.{fires_more}
use Rattle.chain_plain.proofs.outputs.firing.Goals as goal

pub loop-position-preserved : goal.loop-position-preserved
loop-position-preserved c =
    let rule = c.args.rule.now in
    let arrays = c.args.stack.now.arrays in
    let i = c.loop-position.position-index in
    let within = c.requires.accepted i _ c.loop-position-test.true in
    c.in_ok-push.ensures.items
    ∙ fires_more rule arrays c.loop-position.fired.items (take i c.args.accepted.now) _ _ c.head.result.now _ c.loop-position.invariant
    (take_more c.args.accepted.now i _ c.loop-position-test.true) within c.head.ensures c.trigger_fires.ensures
