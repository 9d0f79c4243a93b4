-- What the rows of the table of legal moves say, fact by fact.
use Rattle.std.specs.Prelude.{◌≡◌, ◌≢◌, ℕ, ◌<◌, ◌≤◌, ◌⊎◌, Bool, true, false, List, [], ◌∷◌, length, Some, None}
use Rattle.std.specs.List.{list_any, list_all}
use Rattle.nd_base.specs.declared.frame.FrameName.{FrameName}
use Rattle.pool_ledger.specs.Grants.{Granted, Refused}
use Rattle.flow_journal.specs.declared.entry.Entry.{Entry}
use Rattle.flow_journal.specs.declared.entry.Entry.TheVariants.{Load, Take, TakeBlock, Save}
use Rattle.flow_journal.specs.Setting.{Setting, node, children, last_role}
use Rattle.flow_journal.specs.Pasts.{Past}
use Rattle.flow_journal.specs.Hands.{hands, hand, is_piece, jobs}
use Rattle.flow_journal.specs.Ended.{is_settled, is_closed, has_ended, has_left_any, was_reclaimed}
use Rattle.flow_journal.specs.Offered.{next_index}
use Rattle.flow_journal.specs.Queued.{queued, has_room}
use Rattle.flow_journal.specs.Unsaved.{unsaved, standing_saves, is_file, is_due, group_of}
use Rattle.flow_journal.specs.Accounts.{held, grant}
use Rattle.flow_journal.specs.FirstEntries.{has_loaded}

-- a is the first of these
abbrev pub IsFirstOf : FrameName → List FrameName → Type 0
IsFirstOf a xs = (rest : List FrameName) × (xs ≡ a ∷ rest)

-- the role acts: it has no hand, and nobody has left or it is the drain
pub record Acts (s : Setting) (r : ℕ) (P : Past) : Type 0 where
  pub role : r ≤ last_role s
  pub free : hand r P ≡ None
  pub stays : r ≢ last_role s → has_left_any P ≡ false

-- what the rows of Load and LoadRefused have in common
pub record LoadFacts (s : Setting) (r k : ℕ) (P : Past) : Type 0 where
  pub acts : Acts s r P
  pub unloaded : has_loaded P ≡ false
  pub in_turn : k ≡ next_index P
  pub some : k < length s.ids
  pub room : s.wait ≡ true → list_all (has_room s P) (children s 0) ≡ true

-- the pool grants the maker m this block, and x says whether it may have been regrown
pub record GrantFacts (s : Setting) (m b n : ℕ) (f : Bool) (g : ℕ) (x : Bool) (P : Past) : Type 0 where
  pub answer : grant s P (s.need m) ≡ Granted b n f g
  pub accounted : x ≡ true → s.pooled ≡ true
  pub stale : x ≡ true → f ≡ false

-- the fields of a grant without a pool
pub record AreZeros (b n : ℕ) (f : Bool) (g : ℕ) (x : Bool) : Type 0 where
  pub block : b ≡ 0
  pub size : n ≡ 0
  pub fresh : f ≡ false
  pub given : g ≡ 0
  pub regrown : x ≡ false

-- the pool refuses the maker m
pub record RefusalFacts (s : Setting) (m n h : ℕ) (P : Past) : Type 0 where
  pub answer : grant s P (s.need m) ≡ Refused
  pub need : n ≡ s.need m
  pub holds : h ≡ held s P

-- what the rows of Take, TakeBlock and PoolDrop have in common
pub record TakeFacts (s : Setting) (r v : ℕ) (a : FrameName) (P : Past) : Type 0 where
  pub acts : Acts s r P
  pub unsettled : is_settled v P ≡ false
  pub front : IsFirstOf a (queued v P)
  pub room : jobs v P < (node s v).threads

-- the hand of the role is the loaded block of frame k
abbrev pub HasLoaded : ℕ → ℕ → Past → Type 0
HasLoaded r k P = (b n : ℕ) × (f : Bool) × (g : ℕ) × (x : Bool) × (hand r P ≡ Some (Load r k b n f g x))

-- the hand of the role is a job of v that passes on the frame (m, k)
abbrev pub HasJob : (r v m k : ℕ) → Past → Type 0
HasJob r v m k P = hand r P ≡ Some (Take r v m k)

-- the hand of the role is a job of v that makes a frame of this index
abbrev pub HasMaking : (r v k : ℕ) → Past → Type 0
HasMaking r v k P = (m b n : ℕ) × (f : Bool) × (g : ℕ) × (x : Bool) × (hand r P ≡ Some (TakeBlock f x r v m k b n g))

-- the hand of the role is a job of v, whose result is the frame (m, k)
abbrev pub HasResult : (r v m k : ℕ) → Past → Type 0
HasResult r v m k P = HasJob r v m k P ⊎ ((m ≡ v) × HasMaking r v k P)

-- the hand of the role is a piece of v with the frame (m, k)
abbrev pub HasPiece : (r v m k : ℕ) → Past → Type 0
HasPiece r v m k P = (g : ℕ) × (hand r P ≡ Some (Save r v m k g))

pub record SettleFacts (s : Setting) (v : ℕ) (P : Past) : Type 0 where
  pub above : 0 < v
  pub known : v ≤ length s.nodes
  pub unsettled : is_settled v P ≡ false
  pub input : has_ended (node s v).input P ≡ true
  pub empty : queued v P ≡ []
  pub idle : jobs v P ≡ 0

-- v has a piece to save
pub record PieceFacts (s : Setting) (v : ℕ) (a : FrameName) (P : Past) : Type 0 where
  pub file : is_file (node s v).work ≡ true
  pub front : IsFirstOf a (unsaved s v P)
  pub due : is_due (node s v).work v P ≡ true
  pub none : list_any (is_piece v) (hands P) ≡ false

pub record SaveFacts (s : Setting) (r v : ℕ) (a : FrameName) (g : ℕ) (P : Past) : Type 0 where
  pub role : r ≤ last_role s
  pub free : hand r P ≡ None
  pub piece : PieceFacts s v a P
  pub group : g ≡ group_of (node s v).work (length (standing_saves v P))

pub record CloseFacts (s : Setting) (P : Past) : Type 0 where
  pub open_ : is_closed P ≡ false
  pub offered : next_index P ≡ length s.ids
  pub unloaded : has_loaded P ≡ false

pub record ReclaimFacts (s : Setting) (r : ℕ) (P : Past) : Type 0 where
  pub holds : (e : Entry) × (hand r P ≡ Some e)
  pub worker : r ≢ last_role s
  pub once : was_reclaimed r P ≡ false
