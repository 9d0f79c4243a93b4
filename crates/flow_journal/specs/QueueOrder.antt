-- The order of a queue, above its recursion: first what was given back, the last one first, and then what came, the first one first.
use Rattle.std.specs.Prelude.{◌≡◌, ℕ, ◌==◌, Bool, true, false, ◌&&◌, not, List, [], ◌∷◌, ◌++◌, filter}
use Rattle.std.specs.List.{list_any}
use Rattle.nd_base.specs.declared.frame.FrameName.{FrameName}
use Rattle.flow_journal.specs.declared.entry.Entry.{Entry}
use Rattle.flow_journal.specs.declared.entry.Entry.TheVariants.{Take, TakeBlock, PoolDrop, Reclaim}
use Rattle.flow_journal.specs.Setting.{Setting}
use Rattle.flow_journal.specs.Pasts.{Past, frame, same}
use Rattle.flow_journal.specs.Hands.{hand, job_array}
use Rattle.flow_journal.specs.Queued.{queued}
use Rattle.flow_journal.specs.Accepted.{accepts}
use Rattle.flow_journal.specs.Histories.{is_legal}

-- the entry takes the array out of the queue of the node
abbrev pub takes_out : ℕ → FrameName → Entry → Bool
takes_out v a (Take r w m k) = (w == v) && same a (frame m k)
takes_out v a (TakeBlock f x r w m k b n g) = (w == v) && same a (frame m k)
takes_out v a (PoolDrop r w m k n h) = (w == v) && same a (frame m k)
takes_out v a _ = false

-- those of the arrays that none of these entries takes out
abbrev pub stays_in : ℕ → List Entry → List FrameName → List FrameName
stays_in v es xs = filter (λ a. not (list_any (takes_out v a) es)) xs

-- the arrays that the node accepted and that were never taken out, the first one first
abbrev pub never_left : ℕ → Past → List FrameName
never_left v P = stays_in v P (accepts v P)

-- the array that e, after P, gives back to the node
abbrev pub gives_back : ℕ → Entry → Past → List FrameName
gives_back v (Reclaim r) P = job_array v (hand r P)
gives_back v _ P = []

-- of each Reclaim in P the array that it gave back, unless an entry after it takes that out again; newer: what came after P
abbrev pub back_since : ℕ → (newer : List Entry) → Past → List FrameName
back_since v newer [] = []
back_since v newer (e ∷ P) = stays_in v newer (gives_back v e P) ++ back_since v (e ∷ newer) P

-- the arrays that were given back and are in the queue, the last one first
abbrev pub given_back : ℕ → Past → List FrameName
given_back v P = back_since v [] P

-- so the next array is the one that was reclaimed last, or else the one that was accepted first
abbrev pub QueuesInOrder : Type 0
QueuesInOrder = (s : Setting) (P : Past) (v : ℕ) → is_legal s P ≡ true → queued v P ≡ given_back v P ++ never_left v P
