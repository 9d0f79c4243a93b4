use Rattle.std.proofs.Common.{◌≤◌, subst, sym}
use Rattle.plain_saver.proofs.Dealt.{child-place}
use Rattle.plain_saver.proofs.passing.shared.Goals as goal

pub dealt-requires : goal.dealt-requires
dealt-requires c = subst (λ n. 1 ≤ n) (sym c.fed_by.ensures) (child-place c.args.rules.now c.args.input c.args.node c.requires.node).some
