use Rattle.std.proofs.Common.{◌∙◌, ap, sym, cond, drop, ◌+◌}
use Rattle.std.proofs.lemmas.Bool.{eq-eqb}
use Rattle.flow_journal.specs.RunSetting.{need_of as need_among}
use Rattle.course_parts.proofs.RulesOf.{need-step}
use Rattle.course_parts.proofs.rules.need_among.Goals as goal

pub returns-then-maker-node : goal.returns-then-maker-node
returns-then-maker-node c =
    let ms = c.args.makers.now in
    let i = c.loop-maker.maker-index in
    let x = c.maker-item.result in
    ap (λ b. cond b x.need (need_among (drop (i + 1) ms) c.args.node)) (sym (eq-eqb x.node c.args.node c.if-maker-node.true))
    ∙ sym (need-step ms i c.args.node x c.loop-maker-test.true c.maker-item.is) ∙ c.loop-maker.invariant
