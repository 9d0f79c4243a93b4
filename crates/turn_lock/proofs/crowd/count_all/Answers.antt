use Rattle.std.proofs.Common.{rules, ◌≡◌, arith}
use Rattle.turn_lock.specs.Counting.{counted_by}
use Rattle.turn_lock.specs.Passes.{Closes}
use Rattle.turn_lock.proofs.Counts.{each_here}
use Rattle.turn_lock.proofs.crowd.count_all.Goals as goal

pub returns-clause-each : goal.returns-clause-each
returns-clause-each g c = λ q low. let closed : Closes counted_by c.in_ok-lock.lock.seats c.in_ok-keep.keep c.in-Ok.counter = search rules in
    let same : c.in_ok-lock.lock.seats ≡ c.args.seats = search rules in let once = closed.2 q (omega (arith, same, low)) in
    each_here q c.args.times c.in-Ok.counter c.in_ok-keep.keep.made closed.1 (search rules) (omega (arith, once))
