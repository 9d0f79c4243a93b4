-- What came into a queue and what left it, as counts.
use Rattle.std.specs.Prelude.{ℕ, List, [], length, filter, flat_map}
use Rattle.nd_base.specs.declared.frame.FrameName.{FrameName}
use Rattle.flow_journal.specs.declared.entry.Entry.{Entry}
use Rattle.flow_journal.specs.declared.entry.Entry.TheVariants.{Take, TakeBlock, PoolDrop}
use Rattle.flow_journal.specs.Pasts.{Past, frame, same, comes_at}
use Rattle.flow_journal.specs.Hands.{standing}

-- how often a is among these
abbrev pub times : FrameName → List FrameName → ℕ
times a xs = length (filter (λ x. same x a) xs)

-- the array that an entry takes out of the queue of the node
abbrev pub gone_at : ℕ → Entry → List FrameName
gone_at v (Take r w m k) = comes_at v w (frame m k) []
gone_at v (TakeBlock f x r w m k b n g) = comes_at v w (frame m k) []
gone_at v (PoolDrop r w m k n h) = comes_at v w (frame m k) []
gone_at v _ = []

-- the arrays that left the queue of the node: those of its takes that stand, and of its drops
abbrev pub gone : ℕ → Past → List FrameName
gone v P = flat_map (gone_at v) (standing P)
