use Rattle.std.proofs.Common.{◌∙◌, sym, arith}
use Rattle.std.proofs.lemmas.Bool.{le-ltb, lt-ltb}
use Rattle.scatter_rule.specs.Rounds.{has_room}
use Rattle.scatter_rule.proofs.Places.{find-here, find-on}
use Rattle.scatter_rule.proofs.first_with_room.Goals as goal

pub loop-place-preserved : goal.loop-place-preserved
loop-place-preserved c =
    c.loop-place.invariant
    ∙ find-on (has_room c.args.queued.now c.args.sizes.now) c.loop-place.place c.args.to (omega (arith, c.loop-place-test.true))
    (le-ltb _ _ c.if-queued-place.false)

pub returns-then-queued-place : goal.returns-then-queued-place
returns-then-queued-place c =
    sym (c.loop-place.invariant
    ∙ find-here (has_room c.args.queued.now c.args.sizes.now) c.loop-place.place c.args.to (omega (arith, c.loop-place-test.true))
    (lt-ltb _ _ c.if-queued-place.true))
