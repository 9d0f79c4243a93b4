-- LAWS of the moves: the table that holds the blocks of a log holds those of the longer log, once the move's frames came and went.
use Rattle.std.specs.Prelude.{◌≡◌, ℕ, Bool, true, false, List, [], ◌∷◌, Option, Some, None, if◌then◌else◌}
use Rattle.nd_base.specs.declared.frame.FrameName.{FrameName}
use Rattle.nd_base.specs.Parts.{Parts}
use Rattle.flow_journal.specs.declared.entry.Entry.{Entry}
use Rattle.flow_journal.specs.declared.entry.Entry.TheVariants.{Load, Issue, Take, TakeBlock, Put, Save, Saved, Reclaim}
use Rattle.flow_journal.specs.Setting.{Setting, is_maker}
use Rattle.flow_journal.specs.Pasts.{frame, same}
use Rattle.flow_journal.specs.Hands.{hand}
use Rattle.flow_journal.specs.Accounts.{block_of}
use Rattle.flow_journal.specs.Histories.{is_legal}
use Rattle.board_rules.specs.declared.answers.Left.{Left}
use Rattle.board_rules.specs.States.{BoardState, past, plain, lends, loses, lent_to}
use Rattle.board_rules.specs.Moving.{moved, moved_at}
use Rattle.board_rules.specs.InHand.{is_load_of, is_job_on, is_piece_on, granted_block, granted_size, IsWholeOf, IsMadeAs}
use Rattle.flow_journal.specs.ResultNames.{result_name}
use Rattle.board_rules.specs.Storage.{lost_of}
use Rattle.board_rules.specs.Leaving.{reclaim_refusal, MayReclaim}
use Rattle.frame_table.specs.Kept.{Kept, Frame, Storage, kept_at, with_kept, IsPartOf, less_one, united}
use Rattle.kept_blocks.specs.Keeping.{HoldsBlocks, IsRunOf}

-- the entry gives no hand and ends none
abbrev pub touches_no_hand : Entry → Bool
touches_no_hand (Load r k b n f g x) = false
touches_no_hand (Issue r k) = false
touches_no_hand (Take r v m k) = false
touches_no_hand (TakeBlock f x r v m k b n g) = false
touches_no_hand (Put r v m k f) = false
touches_no_hand (Save r v m k g) = false
touches_no_hand (Saved r v m k) = false
touches_no_hand (Reclaim r) = false
touches_no_hand _ = true

-- the table once what came back of a hand's array, whose block is c, was given back: a frame of another name is dropped
abbrev pub with_input : {F : Type 0} → (F → FrameName) → (F → Option Parts) → FrameName → (c : ℕ) → Option F → List Kept → List Kept
with_input name_of parts a c None t = t
with_input name_of parts a c (Some f) t = if same (name_of f) a then with_kept t c (united (kept_at t c) (parts f)) else t

-- the table once what came back of the block b that was granted with the hand was kept: the frame, or else the storage
abbrev pub with_grant : {F B : Type 0} → (F → FrameName) → (F → Option Parts) → (B → ℕ) → (B → Bool) → (b : ℕ) → (made : Option F)
    → (blank : Option B) → List Kept → List Kept
with_grant name_of parts bytes_of is_used b (Some f) blank t = with_kept t b (Frame (name_of f) (parts f))
with_grant name_of parts bytes_of is_used b None (Some k) t = with_kept t b (Storage (bytes_of k) (is_used k))
with_grant name_of parts bytes_of is_used b None None t = t

-- the move of a Reclaim of this role, with what stayed away
abbrev pub taken_back : {F B O : Type 0} → (F → FrameName) → Setting → (r : ℕ) → Left F B O → BoardState → BoardState
taken_back name_of s r left told = moved s (loses r (lost_of name_of (past told) (hand r (past told)) left)) told

-- the hand of the role may be taken back with this
pub record MayTakeBack {F B O : Type 0} (name_of : F → FrameName) (parts : F → Option Parts)
    (bytes_of : B → ℕ) (s : Setting) (told : BoardState) (t : List Kept) (r : ℕ) (left : Left F B O) : Type 0 where
  pub run : IsRunOf s told
  pub holds : HoldsBlocks parts s told t
  pub allowed : reclaim_refusal s r (past told) ≡ None
  pub brings : MayReclaim name_of parts bytes_of s told r left
  pub legal : is_legal s (past (taken_back name_of s r left told)) ≡ true

pub record MoveLaws {F B : Type 0} (O : Type 0) (name_of : F → FrameName) (parts : F → Option Parts) (bytes_of : B → ℕ) : Type 0 where
  -- a move that touches no hand: a Close, Leave, Settle, LoadRefused and PoolDrop
  pub still : (s : Setting) (told : BoardState) (t : List Kept) (tick : ℕ) (e : Entry) → IsRunOf s told → HoldsBlocks parts s told t
      → touches_no_hand e ≡ true → is_legal s (past (moved_at s tick (plain e) told)) ≡ true → HoldsBlocks parts s (moved_at s tick (plain e) told) t
  -- a part of the array was lent
  pub take : (s : Setting) (told : BoardState) (t : List Kept) (r v c : ℕ) (a : FrameName) (q : Option Parts) → IsRunOf s told → HoldsBlocks parts s told t
      → block_of (past told) a ≡ c ∷ [] → IsPartOf (kept_at t c) a q → is_legal s (past (moved s (lends (Take r v a.maker a.index) q) told)) ≡ true
      → HoldsBlocks parts s (moved s (lends (Take r v a.maker a.index) q) told) (with_kept t c (less_one (kept_at t c)))
  pub save : (s : Setting) (told : BoardState) (t : List Kept) (r v g c : ℕ) (a : FrameName) (q : Option Parts) → IsRunOf s told → HoldsBlocks parts s told t
      → block_of (past told) a ≡ c ∷ [] → IsPartOf (kept_at t c) a q → is_legal s (past (moved s (lends (Save r v a.maker a.index g) q) told)) ≡ true
      → HoldsBlocks parts s (moved s (lends (Save r v a.maker a.index g) q) told) (with_kept t c (less_one (kept_at t c)))
  -- the loaded frame is kept
  pub issue : (s : Setting) (told : BoardState) (t : List Kept) (r b : ℕ) (f : F) → IsRunOf s told → HoldsBlocks parts s told t
      → is_load_of (name_of f) (hand r (past told)) ≡ true → granted_block (hand r (past told)) ≡ b ∷ []
      → IsWholeOf (granted_size (hand r (past told))) (parts f) → is_legal s (past (moved s (plain (Issue r (name_of f).index)) told)) ≡ true
      → HoldsBlocks parts s (moved s (plain (Issue r (name_of f).index)) told) (with_kept t b (Frame (name_of f) (parts f)))
  -- the array of a piece and of a job is given back, and what was made is kept
  pub saved : (s : Setting) (told : BoardState) (t : List Kept) (r v c : ℕ) (f : F) → IsRunOf s told → HoldsBlocks parts s told t
      → is_piece_on (name_of f) (hand r (past told)) ≡ true → block_of (past told) (name_of f) ≡ c ∷ [] → parts f ≡ lent_to r told
      → is_legal s (past (moved s (plain (Saved r v (name_of f).maker (name_of f).index)) told)) ≡ true
      → HoldsBlocks parts s (moved s (plain (Saved r v (name_of f).maker (name_of f).index)) told) (with_kept t c (united (kept_at t c) (parts f)))
  pub put : (s : Setting) (told : BoardState) (t : List Kept) (r v m c : ℕ) (f : F) (fired : Bool) → IsRunOf s told → HoldsBlocks parts s told t
      → is_job_on v (name_of f) (hand r (past told)) ≡ true → block_of (past told) (name_of f) ≡ c ∷ [] → parts f ≡ lent_to r told
      → IsMadeAs name_of (is_maker s v) (result_name s v (name_of f)) None
      → is_legal s (past (moved s (plain (Put r v m (name_of f).index fired)) told)) ≡ true
      → HoldsBlocks parts s (moved s (plain (Put r v m (name_of f).index fired)) told) (with_kept t c (united (kept_at t c) (parts f)))
  pub put_made : (s : Setting) (told : BoardState) (t : List Kept) (r v m b c : ℕ) (f made : F) (fired : Bool) → IsRunOf s told → HoldsBlocks parts s told t
      → is_job_on v (name_of f) (hand r (past told)) ≡ true → block_of (past told) (name_of f) ≡ c ∷ [] → parts f ≡ lent_to r told
      → granted_block (hand r (past told)) ≡ b ∷ [] → IsMadeAs name_of (is_maker s v) (result_name s v (name_of f)) (Some made)
      → IsWholeOf (granted_size (hand r (past told))) (parts made)
      → is_legal s (past (moved s (plain (Put r v m (name_of f).index fired)) told)) ≡ true
      → HoldsBlocks parts s (moved s (plain (Put r v m (name_of f).index fired)) told)
      (with_kept (with_kept t c (united (kept_at t c) (parts f))) b (Frame (name_of made) (parts made)))
  -- what came back of a hand that is taken back is given back and kept, whether or not a frame stood on the storage
  pub reclaim_load : (is_used : B → Bool) (s : Setting) (told : BoardState) (t : List Kept) (r : ℕ) (left : Left F B O)
      (q k b n : ℕ) (f : Bool) (g : ℕ) (x : Bool)
      → MayTakeBack name_of parts bytes_of s told t r left → hand r (past told) ≡ Some (Load q k b n f g x)
      → HoldsBlocks parts s (taken_back name_of s r left told) (with_grant name_of parts bytes_of is_used b left.made left.blank t)
  pub reclaim_take : (s : Setting) (told : BoardState) (t : List Kept) (r : ℕ) (left : Left F B O) (q v m k c : ℕ)
      → MayTakeBack name_of parts bytes_of s told t r left → hand r (past told) ≡ Some (Take q v m k) → block_of (past told) (frame m k) ≡ c ∷ []
      → HoldsBlocks parts s (taken_back name_of s r left told) (with_input name_of parts (frame m k) c left.input t)
  pub reclaim_block : (is_used : B → Bool) (s : Setting) (told : BoardState) (t : List Kept) (r : ℕ) (left : Left F B O)
      (q v m k b n c : ℕ) (f : Bool) (g : ℕ) (x : Bool)
      → MayTakeBack name_of parts bytes_of s told t r left → hand r (past told) ≡ Some (TakeBlock f x q v m k b n g)
      → block_of (past told) (frame m k) ≡ c ∷ []
      → HoldsBlocks parts s (taken_back name_of s r left told)
      (with_grant name_of parts bytes_of is_used b left.made left.blank (with_input name_of parts (frame m k) c left.input t))
  pub reclaim_piece : (s : Setting) (told : BoardState) (t : List Kept) (r : ℕ) (left : Left F B O) (q v m k g c : ℕ)
      → MayTakeBack name_of parts bytes_of s told t r left → hand r (past told) ≡ Some (Save q v m k g) → block_of (past told) (frame m k) ≡ c ∷ []
      → HoldsBlocks parts s (taken_back name_of s r left told) (with_input name_of parts (frame m k) c left.input t)
