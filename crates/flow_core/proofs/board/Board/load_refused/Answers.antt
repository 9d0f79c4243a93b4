use Rattle.std.proofs.Common.{◌≡◌, ◌∙◌, None, sym, ap, subst}
use Rattle.board_rules.specs.RunMeasures.{run_setting}
use Rattle.board_rules.specs.States.{BoardState, past}
use Rattle.pool_ledger.specs.Grants.{Refused}
use Rattle.flow_journal.specs.Accounts.{grant, held}
use Rattle.board_rules.specs.Feeding.{load_refusal, LoadGives}
use Rattle.board_rules.specs.declared.answers.Load.TheVariants as load
use Rattle.run_course.specs.Courses.{Coursed}
use Rattle.flow_core.proofs.Laws.{move_laws}
use Rattle.flow_core.proofs.Loads.{refused-gives, refused-board}
use Rattle.flow_core.proofs.board.Board.load_refused.Goals as goal

pub invariant_of-self : goal.invariant_of-self
invariant_of-self g c =
    let s = run_setting g.F.Of.Run.graph g.F.Of.Run.stack in
    let w = c.self.inside.course in
    let none = subst (λ (b : BoardState). load_refusal {B = g.row.F-Blank.Denot} s c.args.role (past b) ≡ None) (sym c.self.view_is) c.requires.allowed in
    let given = subst (λ (b : BoardState). grant s (past b) (s.need 0) ≡ Refused) (sym c.self.view_is) c.requires.refused in
    refused-board (Unit {0}) g.F.Named.name_of g.F.Held.parts g.F.Held.bytes_of (move_laws (Unit {0}) g.F.Named.name_of g.F.Held.parts g.F.Held.bytes_of) s w
    c.refuse_load.new.course c.self.inside.table c.args.role c.args.tick c.self.invariant c.requires.role none given c.refuse_load.ensures

pub returns-clause-gives : goal.returns-clause-gives
returns-clause-gives g c =
    let s = run_setting g.F.Of.Run.graph g.F.Of.Run.stack in
    let w = c.self.inside.course in
    let none = subst (λ (b : BoardState). load_refusal {B = g.row.F-Blank.Denot} s c.args.role (past b) ≡ None) (sym c.self.view_is) c.requires.allowed in
    let given = subst (λ (b : BoardState). grant s (past b) (s.need 0) ≡ Refused) (sym c.self.view_is) c.requires.refused in
    let holds : c.args.held ≡ held s (past w.told) = c.requires.held ∙ ap (λ (b : BoardState). held s (past b)) (sym c.self.view_is) in
    subst (λ (b : BoardState). LoadGives g.F.Held.parts g.F.Held.bytes_of s b c.args.role c.args.tick
    (load.Refused c.next_index-index.result c.args.held) c.refuse_load.new.course.told) c.self.view_is
    (refused-gives g.F.Held.parts g.F.Held.bytes_of s w.told c.refuse_load.new.course.told c.args.role c.args.tick c.next_index-index.result c.args.held none
    given c.next_index-index.ensures holds (ap (λ (x : Coursed). x.told) c.refuse_load.ensures))
