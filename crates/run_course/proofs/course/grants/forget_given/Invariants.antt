use Rattle.std.proofs.Common.{◌≡◌, length}
use Rattle.pool_account.specs.Account.{all_named}
use Rattle.frame_table.specs.Kept.{without_kept}
use Rattle.run_course.proofs.course.grants.forget_given.Given as goal

abbrev pub invariant-loop-block : goal.invariant-loop-block
invariant-loop-block g l =
    (all_named l.pool ≡ all_named l.fn.pool)
    × (without_kept l.pool.unnamed l.table ≡ without_kept l.fn.pool.unnamed l.fn.table)

abbrev pub decreases-loop-block : goal.decreases-loop-block
decreases-loop-block g l = length l.pool.unnamed
