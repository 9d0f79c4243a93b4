-- The first entries of moves: when each is legal after the entries before it. docs/history.md has the same table in words.
use Rattle.std.specs.Prelude.{ℕ, ◌==◌, Bool, true, false, ◌&&◌, ◌||◌, not, nat_lt, List, [], ◌∷◌, length, Option, Some, if◌then◌else◌}
use Rattle.std.specs.List.{list_any, list_all}
use Rattle.nd_base.specs.declared.frame.FrameName.{FrameName}
use Rattle.pool_ledger.specs.Grants.{Answer, Granted, Refused}
use Rattle.flow_journal.specs.declared.entry.Entry.{Entry}
use Rattle.flow_journal.specs.declared.entry.Entry.TheVariants.{Load, LoadRefused, Issue, Take, TakeBlock, PoolDrop, Put, Settle, Save, Saved, Close, Leave}
use Rattle.flow_journal.specs.declared.entry.Entry.TheVariants.{Reclaim}
use Rattle.flow_journal.specs.Setting.{Setting, Work, Watches, node, is_node, is_maker, children, last_role, is_role}
use Rattle.flow_journal.specs.Pasts.{Past, frame, same}
use Rattle.flow_journal.specs.Hands.{hands, hand, is_free, is_loaded, is_piece, jobs}
use Rattle.flow_journal.specs.Ended.{is_settled, is_closed, has_ended, has_left_any, has_left, was_reclaimed}
use Rattle.flow_journal.specs.Offered.{next_index}
use Rattle.flow_journal.specs.Queued.{queued, has_room}
use Rattle.flow_journal.specs.Unsaved.{unsaved, standing_saves, is_file, is_due, group_of}
use Rattle.flow_journal.specs.Accounts.{held, grant}

-- the role has no hand, and nobody has left or the role is the drain
abbrev pub acts : Setting → ℕ → Past → Bool
acts s r P = is_role s r && is_free r P && ((r == last_role s) || not (has_left_any P))

-- a block is loaded and not issued yet
abbrev pub has_loaded : Past → Bool
has_loaded P = list_any is_loaded (hands P)

-- a load is in order, whatever the pool says
abbrev pub may_load : Setting → ℕ → ℕ → Past → Bool
may_load s r k P =
    acts s r P && not (has_loaded P) && (k == next_index P) && nat_lt k (length s.ids)
    && (not s.wait || list_all (has_room s P) (children s 0))

-- the array is the first of these
abbrev pub is_next : FrameName → List FrameName → Bool
is_next a [] = false
is_next a (x ∷ xs) = same x a

-- a take is in order, whatever the pool says
abbrev pub may_take : Setting → ℕ → ℕ → FrameName → Past → Bool
may_take s r v a P = acts s r P && not (is_settled v P) && is_next a (queued v P) && nat_lt (jobs v P) (node s v).threads

abbrev pub both : Bool → Bool → Bool
both a b = if a then b else not b

-- the answer is this grant
abbrev pub is_granted : (block size : ℕ) (fresh : Bool) (given : ℕ) → Answer → Bool
is_granted b n f g Refused = false
is_granted b n f g (Granted block size fresh given) = (b == block) && (n == size) && both fresh f && (g == given)

abbrev pub is_refused : Answer → Bool
is_refused Refused = true
is_refused (Granted b n f g) = false

-- only the storage of a block that isn't fresh can have been made again, and only where blocks are accounted
abbrev pub regrown_fits : Setting → Bool → Bool → Bool
regrown_fits s fresh regrown = not regrown || (s.pooled && not fresh)

-- the pool refuses the maker, for the want of so many bytes while so many are held
abbrev pub pool_refuses : Setting → ℕ → (need held : ℕ) → Past → Bool
pool_refuses s m n h P = is_refused (grant s P (s.need m)) && (n == s.need m) && (h == held s P)

-- the pool grants the maker this block, and it may have been regrown so
abbrev pub pool_grants : Setting → ℕ → (block size : ℕ) (fresh : Bool) (given : ℕ) (regrown : Bool) → Past → Bool
pool_grants s m b n f g x P = is_granted b n f g (grant s P (s.need m)) && regrown_fits s f x

-- the hand is the loaded block of frame k
abbrev pub is_load_of : ℕ → Option Entry → Bool
is_load_of k (Some (Load r j b n f g x)) = j == k
is_load_of k _ = false

-- The hand is a job of v, and a is the name of its result: that of its array, or at a maker the maker's with the same index.
abbrev pub is_result_of : ℕ → FrameName → Option Entry → Bool
is_result_of v a (Some (Take r w m k)) = (w == v) && same a (frame m k)
is_result_of v a (Some (TakeBlock f x r w m k b n g)) = (w == v) && same a (frame v k)
is_result_of v a _ = false

-- the hand is a piece of v with this array
abbrev pub is_piece_of : ℕ → FrameName → Option Entry → Bool
is_piece_of v a (Some (Save r w m k g)) = (w == v) && same a (frame m k)
is_piece_of v a _ = false

-- the trigger of a circular node fires; no other node has one
abbrev pub fires_at : Setting → ℕ → ℕ → Work → Bool
fires_at s v k (Watches pre post preset) = s.fires v k
fires_at s v k _ = false

-- the node isn't settled, its input has ended, and nothing is queued or in hand there
abbrev pub may_settle : Setting → ℕ → Past → Bool
may_settle s v P =
    is_node s v && not (is_settled v P) && has_ended (node s v).input P && (length (queued v P) == 0) && (jobs v P == 0)

-- the array is the first unsaved one and due, and no piece of the node is in a hand
abbrev pub may_save : Setting → ℕ → FrameName → Past → Bool
may_save s v a P =
    is_file (node s v).work && is_next a (unsaved s v P) && is_due (node s v).work v P && not (list_any (is_piece v) (hands P))

-- every frame was offered, and no block is loaded
abbrev pub may_close : Setting → Past → Bool
may_close s P = not (is_closed P) && (next_index P == length s.ids) && not (has_loaded P)

-- THE TABLE: e may be the first entry of a move after P. What isn't listed only follows.
abbrev pub first : Setting → Past → Entry → Bool
first s P (Load r k b n f g x) = may_load s r k P && pool_grants s 0 b n f g x P
first s P (LoadRefused r k n h) = may_load s r k P && pool_refuses s 0 n h P
first s P (Issue r k) = is_load_of k (hand r P)
first s P (Take r v m k) = may_take s r v (frame m k) P && not (is_maker s v)
first s P (TakeBlock f x r v m k b n g) = may_take s r v (frame m k) P && is_maker s v && pool_grants s v b n f g x P
first s P (PoolDrop r v m k n h) = may_take s r v (frame m k) P && is_maker s v && pool_refuses s v n h P
first s P (Put r v m k f) = is_result_of v (frame m k) (hand r P) && both f (fires_at s v k (node s v).work)
first s P (Settle r v) = is_role s r && may_settle s v P
first s P (Save r v m k g) = is_role s r && is_free r P && may_save s v (frame m k) P && (g == group_of (node s v).work (length (standing_saves v P)))
first s P (Saved r v m k) = is_piece_of v (frame m k) (hand r P)
first s P (Close r) = is_role s r && may_close s P
first s P (Leave r) = is_role s r && not (has_left r P)
first s P (Reclaim r) = not (is_free r P) && not (r == last_role s) && not (was_reclaimed r P)
first s P _ = false
