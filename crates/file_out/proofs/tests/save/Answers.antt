use Rattle.std.proofs.Common.{arith}
use Rattle.file_out.specs.Examples.{two_by_two-within}
use Rattle.file_out.proofs.tests.save.Goals as goal

pub save_group-requires-clause-within : goal.save_group-requires-clause-within
save_group-requires-clause-within g c =
    let two = c.in_ok-rows.ensures.count in
    rw c.in_ok-shape.ensures (two_by_two-within _ (omega (arith, two, c.deref.ensures.len)))
