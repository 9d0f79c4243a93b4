use Rattle.std.proofs.Common.{◌≡◌, ◌∙◌, ◌==◌, ◌||◌, sym, subst, Option, Some, None, if◌then◌else◌}
use Rattle.std.specs.Prelude.{is_none}
use Rattle.board_rules.specs.RunMeasures.{run_setting}
use Rattle.board_rules.specs.States.{past}
use Rattle.board_rules.specs.declared.answers.NoWhy.TheVariants.{NoHand, Spent}
use Rattle.board_rules.proofs.Legal.{names_role}
use Rattle.flow_journal.specs.declared.entry.Entry.{Entry}
use Rattle.flow_journal.specs.Ended.{was_reclaimed}
use Rattle.flow_journal.specs.Hands.{hand}
use Rattle.flow_journal.specs.Pasts.{Past}
use Rattle.flow_journal.specs.Setting.{last_role}
use Rattle.flow_emit.proofs.HandFree.{hand-free}
use Rattle.flow_emit.proofs.moves.reclaim.Goals as goal

pub unreachable-requires : goal.unreachable-requires
unreachable-requires g c =
    let s = run_setting g.F.Of.Run.graph g.F.Of.Run.stack in
    let r = c.args.role in
    let P : Past = past c.args.course.now.told in
    let none : hand r P ≡ None = hand-free r (hand r P) (names_role r P) (sym c.hand.ensures ∙ c.in-Free.is) in
    let refused : Some NoHand ≡ None =
    subst (λ (o : Option Entry). (if is_none o then Some NoHand else if was_reclaimed r P || (r == last_role s) then Some Spent else None) ≡ None)
    none c.requires.allowed in cc
