-- A worker leaves, and the drain does its work.
use Rattle.std.specs.Prelude.{◌≡◌, true, false, List, [], ◌∷◌, ◌++◌, pos, refl}
use Rattle.flow_journal.specs.declared.entry.Entry.{Entry}
use Rattle.flow_journal.specs.declared.entry.Entry.TheVariants.{Take, Settle, Close, Leave, Reclaim}
use Rattle.flow_journal.specs.Setting.{Setting, Passes}
use Rattle.flow_journal.specs.FirstEntries.{first}
use Rattle.flow_journal.specs.Histories.{is_history}
use Rattle.flow_journal.specs.WorkedRuns.{one_node, after, fed, taken}

abbrev pub one_worker : Setting
one_worker = one_node (Passes false) 20 1 0 100 0 false (pos 1 ∷ [])

abbrev pub worker_left : List Entry
worker_left = fed 0 ++ taken 1 0 ++ (Leave 1 ∷ Reclaim 1 ∷ [])

the_drain_takes_the_job : is_history one_worker (after (worker_left ++ taken 2 0)) ≡ true
the_drain_takes_the_job = refl

the_worker_doesnt : first one_worker (after worker_left) (Take 1 1 0 0) ≡ false
the_worker_doesnt = refl

one_reclaim_a_role : first one_worker (after worker_left) (Reclaim 1) ≡ false
one_reclaim_a_role = refl

no_role_beyond_the_drain : first one_worker (after (fed 0)) (Take 3 1 0 0) ≡ false
no_role_beyond_the_drain = refl

no_node_beyond_the_last : first one_worker (after (Close 0 ∷ [])) (Settle 1 2) ≡ false
no_node_beyond_the_last = refl
