use Rattle.std.proofs.Common.{◌≡◌, ◌==◌, ◌-◌, ◌+◌, not, length, ap, sym, ◌∙◌, arith}
use Rattle.graph_conf.specs.Graphs.{source_of}
use Rattle.graph_conf.proofs.Joined.{step_up, no_steps}
use Rattle.graph_conf.proofs.links.is_circular.Goals as goal

pub loop-preserved : goal.loop-preserved
loop-preserved c =
    let inputs = c.args.inputs.now in
    ap (source_of inputs (length inputs - (c.loop.counter + 1))) c.input_of-node.ensures
    ∙ step_up inputs c.loop.node c.loop.counter (length inputs) c.loop-test.true ∙ c.loop.invariant

pub returns : goal.returns
returns c =
    let inputs = c.args.inputs.now in
    let all : c.loop.counter ≡ length inputs = omega arith in
    ap (λ v. not (v == 0)) (sym (no_steps inputs c.loop.node (length inputs))
    ∙ ap (λ k. source_of inputs (length inputs - k) c.loop.node) (sym all) ∙ c.loop.invariant)
