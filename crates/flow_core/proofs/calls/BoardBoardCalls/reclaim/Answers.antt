use Rattle.std.proofs.Common.{◌∙◌, sym, ap}
use Rattle.board_rules.specs.RunMeasures.{run_setting}
use Rattle.board_rules.specs.States.{past}
use Rattle.course_parts.specs.HandWords.{has_nothing}
use Rattle.run_course.proofs.HandWords.{free-is}
use Rattle.flow_core.proofs.Reclaims.{not-free}
use Rattle.flow_core.proofs.calls.BoardBoardCalls.reclaim.Goals as goal

pub unreachable-requires : goal.unreachable-requires
unreachable-requires g c =
    let s = run_setting g.F.Of.Run.graph g.F.Of.Run.stack in
    let P = past c.self.inside.course.told in
    let free = sym (free-is c.args.role P) ∙ sym (ap has_nothing (sym c.in-Free.is ∙ c.hand.ensures)) in
    not-free s c.args.role P free (λ x is. c.in_default.not-Some x (c.reclaim_refusal.ensures ∙ is))
