-- The queue of a node.
use Rattle.std.specs.Prelude.{ℕ, Bool, nat_lt, List, [], ◌∷◌, ◌++◌, length}
use Rattle.nd_base.specs.declared.frame.FrameName.{FrameName}
use Rattle.flow_journal.specs.declared.entry.Entry.TheVariants.{Accept, Take, TakeBlock, PoolDrop, Reclaim}
use Rattle.flow_journal.specs.Setting.{Setting, node}
use Rattle.flow_journal.specs.Pasts.{Past, frame, comes_at, goes_at}
use Rattle.flow_journal.specs.Hands.{hand, job_array}

-- The arrays in the queue, the next one first: an Accept puts its array at the end, and a Take, TakeBlock or PoolDrop takes its
-- array away. The array of a job that is reclaimed is the next one again.
abbrev pub queued : ℕ → Past → List FrameName
queued v [] = []
queued v (Accept w m k ∷ P) = comes_at v w (frame m k) (queued v P)
queued v (Take r w m k ∷ P) = goes_at v w (frame m k) (queued v P)
queued v (TakeBlock f x r w m k b n g ∷ P) = goes_at v w (frame m k) (queued v P)
queued v (PoolDrop r w m k n h ∷ P) = goes_at v w (frame m k) (queued v P)
queued v (Reclaim r ∷ P) = job_array v (hand r P) ++ queued v P
queued v (e ∷ P) = queued v P

-- fewer are queued at the node than its queue takes
abbrev pub has_room : Setting → Past → ℕ → Bool
has_room s P v = nat_lt (length (queued v P)) (node s v).queue
