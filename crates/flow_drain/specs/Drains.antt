-- What a drain does, and what it leaves.
use Rattle.std.specs.Prelude.{◌≡◌, ℕ, suc, ◌==◌, Bool, true, false, List, [], ◌∷◌, length, if◌then◌else◌}
use Rattle.nd_base.specs.declared.frame.FrameName.{FrameName}
use Rattle.flow_journal.specs.declared.entry.Entry.{Entry}
use Rattle.flow_journal.specs.declared.entry.Entry.TheVariants.{Load, LoadRefused, Issue, Take, TakeBlock, PoolDrop, Put, Settle, Close}
use Rattle.flow_journal.specs.Setting.{Setting, last_role, is_node}
use Rattle.flow_journal.specs.Pasts.{Past}
use Rattle.flow_journal.specs.Hands.{hands, hand, is_free}
use Rattle.flow_journal.specs.Ended.{is_closed, is_settled}
use Rattle.flow_journal.specs.Offered.{next_index}
use Rattle.flow_journal.specs.Queued.{queued}
use Rattle.flow_journal.specs.Waiting.{waiting}
use Rattle.flow_journal.specs.Rings.{ring}
use Rattle.board_rules.specs.declared.told.Told.{Told}
use Rattle.board_rules.specs.declared.answers.Left.{Left}
use Rattle.board_rules.specs.States.{BoardState, past, loses}
use Rattle.board_rules.specs.Moving.{moved, moved_at}
use Rattle.board_rules.specs.Storage.{lost_of, KeepsStorage}

-- the entry begins a move of the drain that feeds or works: it saves nothing, and doesn't leave
abbrev pub is_drains : Setting → Entry → Bool
is_drains s (Load r k b n f g x) = r == last_role s
is_drains s (LoadRefused r k n h) = r == last_role s
is_drains s (Issue r k) = r == last_role s
is_drains s (Take r v m k) = r == last_role s
is_drains s (TakeBlock f x r v m k b n g) = r == last_role s
is_drains s (PoolDrop r v m k n h) = r == last_role s
is_drains s (Put r v m k f) = r == last_role s
is_drains s (Settle r v) = r == last_role s
is_drains s (Close r) = r == last_role s
is_drains s _ = false

abbrev pub is_load : Entry → Bool
is_load (Load r k b n f g x) = true
is_load (LoadRefused r k n h) = true
is_load _ = false

-- Such moves, one after the other, lead from the one board to the other. Each load was handed this tick, and each entry keeps storage.
pub data DrainMoves (s : Setting) (tick : ℕ) (old : BoardState) : (new : BoardState) → Type 0 where
  none : (new : BoardState) → new ≡ old → DrainMoves s tick old new
  more : (b new : BoardState) (t : Told) (at : ℕ) → DrainMoves s tick old b → is_drains s t.entry ≡ true → (is_load t.entry ≡ true → at ≡ tick)
      → KeepsStorage b t → new ≡ moved_at s at t b → DrainMoves s tick old new

-- WHAT ROLES LEFT

-- the board once the hand of a role was taken back, where it has one
abbrev pub taken : {F B O : Type 0} → (F → FrameName) → Setting → (r : ℕ) → Left F B O → BoardState → BoardState
taken name_of s r left b = if is_free r (past b) then b else moved s (loses r (lost_of name_of (past b) (hand r (past b)) left)) b

-- once the hands of the roles from r on were taken back, one after the other, of which these are left
abbrev pub taken_back : {F B O : Type 0} → (F → FrameName) → Setting → (r : ℕ) → List (Left F B O) → BoardState → BoardState
taken_back name_of s r [] b = b
taken_back name_of s r (left ∷ ends) b = taken_back name_of s (suc r) ends (taken name_of s r left b)

-- WHAT IS LEFT

-- nothing is left of the run but pieces to save: all has ended, every frame was offered, and nothing is in hand, queued, waiting or in a ring
pub record IsDrained (s : Setting) (P : Past) : Type 0 where
  pub closed : is_closed P ≡ true
  pub offered : next_index P ≡ length s.ids
  pub free : hands P ≡ []
  pub settled : (v : ℕ) → is_node s v ≡ true → is_settled v P ≡ true
  pub queues : (v : ℕ) → is_node s v ≡ true → queued v P ≡ []
  pub lists : (v : ℕ) → is_node s v ≡ true → waiting s v P ≡ []
  pub rings : (v : ℕ) → is_node s v ≡ true → ring s v P ≡ []
