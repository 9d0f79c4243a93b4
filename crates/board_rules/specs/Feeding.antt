-- What the calls of the feeder answer, and what they log.
use Rattle.std.specs.Prelude.{◌≡◌, ℕ, ◌≤◌, Bool, false, ◌==◌, ◌&&◌, ◌||◌, not, nat_le, length, Option, Some, None, Result, Ok, Err, IsTrue, if◌then◌else◌}
use Rattle.std.specs.List.{list_all}
use Rattle.nd_base.specs.declared.frame.FrameName.{FrameName}
use Rattle.nd_base.specs.Parts.{Parts}
use Rattle.pool_ledger.specs.Grants.{Answer, Granted}
use Rattle.pool_ledger.specs.Grants as pool
use Rattle.flow_journal.specs.declared.entry.Entry.TheVariants as entry
use Rattle.flow_journal.specs.Setting.{Setting, children, last_role}
use Rattle.flow_journal.specs.Pasts.{Past}
use Rattle.flow_journal.specs.Hands.{hand, is_free}
use Rattle.flow_journal.specs.Ended.{is_closed, has_left_any}
use Rattle.flow_journal.specs.Offered.{next_index}
use Rattle.flow_journal.specs.Queued.{has_room}
use Rattle.flow_journal.specs.Accounts.{held, grant}
use Rattle.flow_journal.specs.FirstEntries.{has_loaded}
use Rattle.board_rules.specs.declared.answers.Load.{Load}
use Rattle.board_rules.specs.declared.answers.Load.TheVariants.{Left, Busy, Ended, NotYet, Refused, OutOfMemory, Loaded}
use Rattle.board_rules.specs.declared.answers.NotYours.{NotYours}
use Rattle.board_rules.specs.declared.answers.Settled.{Settled}
use Rattle.board_rules.specs.declared.answers.Settled.TheVariants as settled
use Rattle.board_rules.specs.States.{BoardState, past, plain}
use Rattle.board_rules.specs.Moving.{moved, moved_at}
use Rattle.board_rules.specs.InHand.{at, hand_name, is_load_of, just, granted_size, IsWholeOf, TellParts}
use Rattle.board_rules.specs.Storage.{wants_storage, IsRegrown}

-- some role has left, and this one isn't the drain
abbrev pub is_sent_away : Setting → ℕ → Past → Bool
is_sent_away s r P = has_left_any P && not (r == last_role s)

-- what stands against a load, in the order of the tests
abbrev pub load_refusal : {B : Type 0} → Setting → ℕ → Past → Option (Load B)
load_refusal s r P =
    if is_sent_away s r P then Some Left
    else if has_loaded P || not (is_free r P) then Some Busy
    else if nat_le (length s.ids) (next_index P) then Some Ended
    else if s.wait && not (list_all (has_room s P) (children s 0)) then Some NotYet
    else None

-- With no refusal it goes by what the pool answers. A refused frame and a loaded one are moves, with the tick handed in.
abbrev pub LoadAnswers : {F B : Type 0} → (F → Option Parts) → (B → ℕ) → Setting → BoardState → (r tick : ℕ) → Option (Load B) → Answer → Load B
    → BoardState → Type 0
LoadAnswers parts bytes_of s old r tick (Some refusal) g answer new = (answer ≡ refusal) × (new ≡ old)
LoadAnswers parts bytes_of s old r tick None pool.Refused (Refused k h) new =
    (k ≡ next_index (past old)) × (h ≡ held s (past old)) × (new ≡ moved_at s tick (plain (entry.LoadRefused r k (s.need 0) h)) old)
LoadAnswers parts bytes_of s old r tick None (Granted b n f g) (Loaded k blank) new =
    (k ≡ next_index (past old)) × (bytes_of blank ≡ n)
    × ((regrown : Bool) × IsRegrown parts old b f regrown × (new ≡ moved_at s tick (plain (entry.Load r k b n f g regrown)) old))
LoadAnswers parts bytes_of s old r tick None (Granted b n f g) OutOfMemory new =
    (TellParts parts → IsTrue (wants_storage old (Granted b n f g))) × (new ≡ old)
LoadAnswers parts bytes_of s old r tick None g _ new = ⊥

-- The refusal, where one stands, and nothing changed; else the next frame, refused by the pool or with storage of the granted size. Want
-- of memory comes only where storage is wanted, and changes nothing.
abbrev pub LoadGives : {F B : Type 0} → (F → Option Parts) → (B → ℕ) → Setting → BoardState → (r tick : ℕ) → Load B → BoardState → Type 0
LoadGives parts bytes_of s old r tick answer new =
    LoadAnswers parts bytes_of s old r tick (load_refusal s r (past old)) (grant s (past old) (s.need 0)) answer new

-- what is loaded has the storage that was granted, and room for a frame
abbrev pub HasRoom : {B : Type 0} → (B → ℕ) → Setting → (r : ℕ) → Load B → BoardState → Type 0
HasRoom bytes_of s r (Loaded k blank) new = (s.need 0 ≤ bytes_of blank) × (bytes_of blank ≡ granted_size (hand r (past new)))
HasRoom bytes_of s r _ new = Unit {0}

-- a frame that is issued stands whole on the storage that was granted, where the call takes it
abbrev pub MayIssue : {F : Type 0} → (F → FrameName) → (F → Option Parts) → BoardState → (r : ℕ) → F → Type 0
MayIssue name_of parts b r f = IsTrue (is_load_of (name_of f) (hand r (past b))) → IsWholeOf (granted_size (hand r (past b))) (parts f)

-- issued where the hand of the role is the load of this frame; else the frame comes back, and nothing changed
abbrev pub IssueGives : {F E : Type 0} → (F → FrameName) → Setting → BoardState → (r : ℕ) → F → Result E (NotYours F) → BoardState → Type 0
IssueGives name_of s old r f (Ok done) new =
    IsTrue (is_load_of (name_of f) (hand r (past old))) × (new ≡ moved s (plain (entry.Issue r (name_of f).index)) old)
IssueGives name_of s old r f (Err e) new =
    (is_load_of (name_of f) (hand r (past old)) ≡ false)
    × (e ≡ record { kept = hand_name (hand r (past old)); given = at 0 (name_of f); back = just 0 f })
    × (new ≡ old)

-- a frame wasn't offered yet, or a loaded one wasn't issued
abbrev pub waits_to_close : Setting → Past → Bool
waits_to_close s P = not (next_index P == length s.ids) || has_loaded P

-- the feed is closed from the first time on
abbrev pub CloseGives : Setting → BoardState → (r : ℕ) → Settled → BoardState → Type 0
CloseGives s old r settled.NotYet new = IsTrue (waits_to_close s (past old)) × (new ≡ old)
CloseGives s old r settled.Done new =
    (waits_to_close s (past old) ≡ false) × (new ≡ (if is_closed (past old) then old else moved s (plain (entry.Close r)) old))
