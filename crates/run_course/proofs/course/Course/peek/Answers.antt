use Rattle.std.proofs.Common.{◌≡◌, ◌∙◌, [], ap, arith, ℕ}
use Rattle.board_rules.specs.RunMeasures.{run_setting, run_measure}
use Rattle.board_rules.specs.States.{past}
use Rattle.flow_journal.specs.Pasts.{Past}
use Rattle.flow_journal.specs.Accounts.{held}
use Rattle.run_course.specs.Courses.{IsCourse, Coursed, log_of}
use Rattle.run_course.proofs.Opening.{parts}
use Rattle.run_course.proofs.Finding.{held-is}
use Rattle.pool_ledger.specs.Grants.{Answer}
use Rattle.pool_ledger.specs.Ledger.{answered, grant_for}
use Rattle.flow_journal.specs.Accounts.{grant}
use Rattle.run_course.proofs.Finding.{grant-is}
use Rattle.run_course.proofs.course.Course.peek.Goals as goal

pub peek-requires : goal.peek-requires
peek-requires g c =
    let m = run_measure g.F.Of.Run.graph g.F.Of.Run.stack in
    let s = run_setting g.F.Of.Run.graph g.F.Of.Run.stack in
    let k = parts c.self.inside in
    let i : IsCourse m s k = c.self.invariant in
    let v = c.args.node in
    let some = i.ruled.some v c.requires.maker in omega (arith, some, c.need.ensures)

pub returns : goal.returns
returns g c =
    let m = run_measure g.F.Of.Run.graph g.F.Of.Run.stack in
    let s = run_setting g.F.Of.Run.graph g.F.Of.Run.stack in
    let k = parts c.self.inside in
    let i : IsCourse m s k = c.self.invariant in
    let v = c.args.node in
    let still : k.transit ≡ [] = ap (λ (w : Coursed). w.transit) c.self.view_is ∙ c.requires.still in
    let P : Past = past c.args.self.now.told in
    let same : log_of k ≡ P = ap (λ (w : Coursed). past w.told) c.self.view_is in
    c.peek.ensures
    ∙ (ap (λ (j : ℕ). answered j (grant_for c.need.result k.pool)) (held-is m s k i still ∙ ap (held s) same)
    ∙ (ap (λ (y : Answer). answered (held s P) y) (grant-is m s k c.need.result i still ∙ ap (λ (Q : Past). grant s Q c.need.result) same)
    ∙ ap (λ (j : ℕ). answered (held s P) (grant s P j)) c.need.ensures))
