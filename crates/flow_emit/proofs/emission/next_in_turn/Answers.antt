use Rattle.std.proofs.Common.{◌∙◌}
use Rattle.board_rules.specs.RunMeasures.{run_setting}
use Rattle.flow_emit.proofs.InTurn.{is-dealing}
use Rattle.flow_emit.proofs.emission.next_in_turn.Goals as goal

pub first_in_turn-requires-clause-few : goal.first_in_turn-requires-clause-few
first_in_turn-requires-clause-few g c =
    let s = run_setting g.F.Of.Run.graph g.F.Of.Run.stack in
    let told = c.args.course.now.told in
    let d = is-dealing s c.args.from c.requires.emitted.0 told c.turn.result c.children-children.result.now c.requires.legal c.requires.deals
    c.requires.emitted.1 c.turn.ensures c.children-children.ensures.children c.children-children.ensures.few in
    d.few

pub first_in_turn-requires-clause-nodes : goal.first_in_turn-requires-clause-nodes
first_in_turn-requires-clause-nodes g c =
    let s = run_setting g.F.Of.Run.graph g.F.Of.Run.stack in
    let told = c.args.course.now.told in
    let d = is-dealing s c.args.from c.requires.emitted.0 told c.turn.result c.children-children.result.now c.requires.legal c.requires.deals
    c.requires.emitted.1 c.turn.ensures c.children-children.ensures.children c.children-children.ensures.few in
    d.nodes

pub first_in_turn-requires-clause-turn : goal.first_in_turn-requires-clause-turn
first_in_turn-requires-clause-turn g c =
    let s = run_setting g.F.Of.Run.graph g.F.Of.Run.stack in
    let told = c.args.course.now.told in
    let d = is-dealing s c.args.from c.requires.emitted.0 told c.turn.result c.children-children.result.now c.requires.legal c.requires.deals
    c.requires.emitted.1 c.turn.ensures c.children-children.ensures.children c.children-children.ensures.few in
    d.within

pub returns : goal.returns
returns g c =
    let s = run_setting g.F.Of.Run.graph g.F.Of.Run.stack in
    let told = c.args.course.now.told in
    let d = is-dealing s c.args.from c.requires.emitted.0 told c.turn.result c.children-children.result.now c.requires.legal c.requires.deals
    c.requires.emitted.1 c.turn.ensures c.children-children.ensures.children c.children-children.ensures.few in
    c.first_in_turn.ensures ∙ d.first
