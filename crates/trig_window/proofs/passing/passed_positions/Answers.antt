use Rattle.std.proofs.Common.{◌<◌, length, take, subst}
use Rattle.std.proofs.lemmas.List.{take_more}
use Rattle.trig_window.proofs.Positions.{one_more}
use Rattle.trig_window.proofs.passing.passed_positions.Goals as goal

pub loop-place-preserved : goal.loop-place-preserved
loop-place-preserved c =
    let within : c.loop-place.place < length c.args.positions.now = subst (λ n. c.loop-place.place < n) c.requires.flags c.loop-place-test.true in
    one_more c.args.pre c.args.post c.args.preset (take c.loop-place.place c.args.fired.now) _ (take c.loop-place.place c.args.positions.now) _ _ _
    c.loop-place.window c.push_into.new.window c.loop-place.passed.items c.push_into.new.out.items
    c.requires.positive (take_more c.args.fired.now c.loop-place.place _ c.loop-place-test.true) (take_more c.args.positions.now c.loop-place.place _ within)
    c.loop-place.invariant c.in_ok-push_into.ensures.rule c.in_ok-push_into.ensures.stands c.in_ok-push_into.ensures.out
