use Rattle.std.proofs.Common.{◌≡◌, ◌∙◌, false, not, refl, sym, ap}
use Rattle.board_rules.specs.RunMeasures.{run_setting}
use Rattle.board_rules.specs.States.{past}
use Rattle.flow_journal.specs.Setting.{node}
use Rattle.flow_journal.specs.Ended.{is_settled, has_ended}
use Rattle.flow_journal.specs.Queued.{queued}
use Rattle.flow_journal.specs.Finished.{none_left}
use Rattle.run_course.proofs.course.Course.waits_to_settle.Goals as goal

pub returns-then-not-has_ended : goal.returns-then-not-has_ended
returns-then-not-has_ended g c =
    let s = run_setting g.F.Of.Run.graph g.F.Of.Run.stack in
    let v = c.args.node in
    let P = past c.args.self.now.told in
    let open_ : is_settled v P ≡ false = sym c.is_settled.ensures ∙ c.if-is_settled.false in
    let on : has_ended (node s v).input P ≡ c.has_ended.result = sym (c.has_ended.ensures ∙ ap (λ u. has_ended u P) c.input.ensures.input) in
    rw (open_, on, c.if-not-has_ended.true) refl

pub returns-else-has_queued : goal.returns-else-has_queued
returns-else-has_queued g c =
    let s = run_setting g.F.Of.Run.graph g.F.Of.Run.stack in
    let v = c.args.node in
    let P = past c.args.self.now.told in
    let open_ : is_settled v P ≡ false = sym c.is_settled.ensures ∙ c.if-is_settled.false in
    let on : has_ended (node s v).input P ≡ c.has_ended.result = sym (c.has_ended.ensures ∙ ap (λ u. has_ended u P) c.input.ensures.input) in
    let queue : not (none_left (queued v P)) ≡ false = sym c.has_queued.ensures ∙ c.if-has_queued.false in
    rw (open_, on, c.if-not-has_ended.false, queue) c.has_jobs.ensures
