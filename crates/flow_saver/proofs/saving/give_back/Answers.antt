use Rattle.std.proofs.Common.{sym, refl}
use Rattle.flow_journal.specs.declared.entry.Entry.TheVariants as entry
use Rattle.board_rules.specs.RunMeasures.{run_setting}
use Rattle.board_rules.specs.States.{plain}
use Rattle.flow_saver.specs.Turns.{AreNone}
use Rattle.flow_saver.proofs.Giving.{never-refused, back-logged, given-back}
use Rattle.flow_saver.proofs.Turning.{gone-logged}
use Rattle.flow_saver.proofs.saving.give_back.Goals as goal

pub saved-requires-clause-brings : goal.saved-requires-clause-brings
saved-requires-clause-brings g c = λ is. sym c.requires.held.2.lent

pub unreachable-requires : goal.unreachable-requires
unreachable-requires g c =
    let h = c.requires.held in
    never-refused g.R.Run.graph g.R.Run.stack h.0 c.args.role _ _ c.args.files.now c.args.fault h.1 c.args.piece _ h.2
    (Unit {0}) c.in_default.field-0 c.in_default.ensures.called

pub returns-clause-given : goal.returns-clause-given
returns-clause-given g c =
    λ start held h. given-back g.R.Run.graph g.R.Run.stack start c.args.role _ _ c.args.files.now c.args.fault held c.args.piece _ h
    (Unit {0}) c.in-Ok.field-0 c.in-Ok.ensures.called

pub returns-clause-goes : goal.returns-clause-goes
returns-clause-goes g c =
    let h = c.requires.held in
    gone-logged (run_setting g.R.Run.graph g.R.Run.stack) AreNone _ _ _ _ c.in-Ok.ensures.called
    (plain (entry.Saved c.args.role h.2.node c.args.piece.name.maker c.args.piece.name.index))
    (back-logged g.R.Run.graph g.R.Run.stack h.0 c.args.role _ _ c.args.files.now c.args.fault h.1 c.args.piece _ h.2
    (Unit {0}) c.in-Ok.field-0 c.in-Ok.ensures.called) refl (λ said. (refl, refl))
