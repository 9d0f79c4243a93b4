use Rattle.std.proofs.Common.{◌≡◌, Bool, false, not, refl, subst}
use Rattle.std.proofs.Math.Bool.{beq}
use Rattle.board_rules.specs.RunMeasures.{run_setting}
use Rattle.journal_check.proofs.Jobs.{put-tries}
use Rattle.journal_check.proofs.puts.try_put.Goals as goal

pub returns-clause-tries : goal.returns-clause-tries
returns-clause-tries g c =
    let fires = subst (λ (w : Bool). not (beq c.args.fired w) ≡ false) c.fires.ensures c.if-fired-fires.false in
    put-tries (run_setting g.R.Run.graph g.R.Run.stack) c.args.put.role c.args.put.node c.args.put.name c.in-Some.name c.args.fired
    c.args.course.now c.put.new.course (c.in-Some.ensures.some c.in-Some.name refl) fires c.put.ensures
