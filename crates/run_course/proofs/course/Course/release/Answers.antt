use Rattle.std.proofs.Common.{◌≡◌, ◌∷◌, ◌<◌, ◌∙◌, ap, sym, subst, length, drop, []}
use Rattle.flow_journal.specs.Accounts.{block_of}
use Rattle.board_rules.specs.RunMeasures.{run_setting, run_measure}
use Rattle.board_rules.specs.States.{past}
use Rattle.run_course.specs.Courses.{Coursed, IsCourse, log_of}
use Rattle.run_course.proofs.Opening.{parts}
use Rattle.run_course.proofs.Coursing.{next-block, next-held, released}
use Rattle.run_course.proofs.Reading.{first-of, read-at}
use Rattle.run_course.proofs.course.Course.release.Goals as goal

pub drop_hold-requires : goal.drop_hold-requires
drop_hold-requires g c =
    let a = c.self.inside in
    let s = run_setting g.F.Of.Run.graph g.F.Of.Run.stack in
    let m = run_measure g.F.Of.Run.graph g.F.Of.Run.stack in
    let k = parts a in
    let i : IsCourse m s k = c.self.invariant in
    let view = sym c.self.view_is in
    let name = c.in-Some.name.now in
    let transit : k.transit ≡ name ∷ drop 1 k.transit =
    first-of k.transit name (read-at k.transit 0 name (subst (λ (v : Coursed). 0 < length v.transit) view c.requires.some) c.in-Some.ensures.lookup) in
    let has = next-block m s k name (drop 1 k.transit) i transit in
    let found : c.block-block.result ≡ has.0 =
    c.block-block.ensures has.0 (subst (λ (v : Coursed). block_of (past v.told) name ≡ has.0 ∷ []) c.self.view_is has.1) in
    let block : block_of (log_of k) name ≡ c.block-block.result ∷ [] = has.1 ∙ ap (λ b. b ∷ []) (sym found) in
    next-held m s k name (drop 1 k.transit) c.block-block.result i transit block

pub invariant_of-self : goal.invariant_of-self
invariant_of-self g c =
    let a = c.self.inside in
    let s = run_setting g.F.Of.Run.graph g.F.Of.Run.stack in
    let m = run_measure g.F.Of.Run.graph g.F.Of.Run.stack in
    let k = parts a in
    let i : IsCourse m s k = c.self.invariant in
    let view = sym c.self.view_is in
    let name = c.in-Some.name.now in
    let transit : k.transit ≡ name ∷ drop 1 k.transit =
    first-of k.transit name (read-at k.transit 0 name (subst (λ (v : Coursed). 0 < length v.transit) view c.requires.some) c.in-Some.ensures.lookup) in
    let has = next-block m s k name (drop 1 k.transit) i transit in
    let found : c.block-block.result ≡ has.0 =
    c.block-block.ensures has.0 (subst (λ (v : Coursed). block_of (past v.told) name ≡ has.0 ∷ []) c.self.view_is has.1) in
    let block : block_of (log_of k) name ≡ c.block-block.result ∷ [] = has.1 ∙ ap (λ b. b ∷ []) (sym found) in
    rw (
      c.drop_hold.ensures.after,
      c.pop_front.ensures.capacity,
      c.pop_front.ensures.rest,
    ) (released m s k name (drop 1 k.transit) c.block-block.result i transit block)
