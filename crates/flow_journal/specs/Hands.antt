-- What each role has in hand, and which entries stand.
use Rattle.std.specs.Prelude.{ℕ, ◌==◌, Bool, true, false, List, [], ◌∷◌, length, filter, find, Option, Some, is_none, if◌then◌else◌}
use Rattle.nd_base.specs.declared.frame.FrameName.{FrameName}
use Rattle.flow_journal.specs.declared.entry.Entry.{Entry}
use Rattle.flow_journal.specs.declared.entry.Entry.TheVariants.{Load, Issue, Take, TakeBlock, Put, Save, Saved, Reclaim}
use Rattle.flow_journal.specs.Pasts.{Past, frame, comes_at}

-- the entry gives a hand to this role
abbrev pub takes_up : ℕ → Entry → Bool
takes_up r (Load q k b n f g x) = q == r
takes_up r (Take q v m k) = q == r
takes_up r (TakeBlock f x q v m k b n g) = q == r
takes_up r (Save q v m k g) = q == r
takes_up r _ = false

-- these without the newest entry that gives a hand to the role
abbrev pub let_go : ℕ → Past → Past
let_go r [] = []
let_go r (e ∷ P) = if takes_up r e then P else e ∷ let_go r P

-- The hands: of each role its last Load, Take, TakeBlock or Save, where no Issue, Put, Saved or Reclaim of that role came after it.
abbrev pub hands : Past → Past
hands [] = []
hands (Load r k b n f g x ∷ P) = Load r k b n f g x ∷ let_go r (hands P)
hands (Take r v m k ∷ P) = Take r v m k ∷ let_go r (hands P)
hands (TakeBlock f x r v m k b n g ∷ P) = TakeBlock f x r v m k b n g ∷ let_go r (hands P)
hands (Save r v m k g ∷ P) = Save r v m k g ∷ let_go r (hands P)
hands (Issue r k ∷ P) = let_go r (hands P)
hands (Put r v m k f ∷ P) = let_go r (hands P)
hands (Saved r v m k ∷ P) = let_go r (hands P)
hands (Reclaim r ∷ P) = let_go r (hands P)
hands (e ∷ P) = hands P

-- the hand of a role
abbrev pub hand : ℕ → Past → Option Entry
hand r P = find (takes_up r) (hands P)

-- the role has no hand
abbrev pub is_free : ℕ → Past → Bool
is_free r P = is_none (hand r P)

-- the entries that stand: all but the hands that a Reclaim ended, which without a hand ends none
abbrev pub standing : Past → Past
standing [] = []
standing (Reclaim r ∷ P) = Reclaim r ∷ (if is_free r P then standing P else let_go r (standing P))
standing (e ∷ P) = e ∷ standing P

-- the hand is a loaded block
abbrev pub is_loaded : Entry → Bool
is_loaded (Load r k b n f g x) = true
is_loaded _ = false

-- the hand is a job of the node
abbrev pub is_job : ℕ → Entry → Bool
is_job v (Take r w m k) = w == v
is_job v (TakeBlock f x r w m k b n g) = w == v
is_job v _ = false

-- the hand is a piece of the node
abbrev pub is_piece : ℕ → Entry → Bool
is_piece v (Save r w m k g) = w == v
is_piece v _ = false

-- how many jobs of the node are in hand
abbrev pub jobs : ℕ → Past → ℕ
jobs v P = length (filter (is_job v) (hands P))

-- the array that a hand took from the queue of the node
abbrev pub job_array : ℕ → Option Entry → List FrameName
job_array v (Some (Take r w m k)) = comes_at v w (frame m k) []
job_array v (Some (TakeBlock f x r w m k b n g)) = comes_at v w (frame m k) []
job_array v _ = []
