-- What the calls of a worker answer, and what they log.
use Rattle.std.specs.Prelude.{◌≡◌, ℕ, ◌≤◌, Bool, false, ◌&&◌, ◌||◌, not, nat_le, nat_lt, Option, Some, None, Result, Ok, Err, IsTrue, if◌then◌else◌}
use Rattle.nd_base.specs.declared.frame.FrameName.{FrameName}
use Rattle.nd_base.specs.declared.measure.Measure.{Measure}
use Rattle.nd_base.specs.Parts.{Parts}
use Rattle.pool_ledger.specs.Grants.{Answer, Granted, Refused}
use Rattle.flow_journal.specs.declared.entry.Entry.TheVariants as entry
use Rattle.flow_journal.specs.Setting.{Setting, node, is_node, is_maker}
use Rattle.flow_journal.specs.Pasts.{Past}
use Rattle.flow_journal.specs.Hands.{hand, is_free, jobs}
use Rattle.flow_journal.specs.Ended.{is_settled, has_ended}
use Rattle.flow_journal.specs.Queued.{queued}
use Rattle.flow_journal.specs.Accounts.{held, grant}
use Rattle.flow_journal.specs.FirstEntries.{is_next, fires_at}
use Rattle.flow_journal.specs.Finished.{none_left}
use Rattle.board_rules.specs.declared.answers.Take.{Take}
use Rattle.board_rules.specs.declared.answers.Take.TheVariants.{Left, Busy, Ended, Idle, PoolDrop, OutOfMemory, Job}
use Rattle.board_rules.specs.declared.answers.Done.{Done}
use Rattle.board_rules.specs.declared.answers.NotYours.{NotYours}
use Rattle.board_rules.specs.declared.answers.Settled.{Settled}
use Rattle.board_rules.specs.declared.answers.Settled.TheVariants as settled
use Rattle.board_rules.specs.States.{BoardState, past, plain, lends, lent_to, take_block}
use Rattle.board_rules.specs.Moving.{moved}
use Rattle.board_rules.specs.InHand.{at, hand_name, is_job_on, granted_size, IsOnePart, IsWholeOf, IsMadeAs, OfSome, TellParts}
use Rattle.flow_journal.specs.ResultNames.{result_name}
use Rattle.board_rules.specs.Storage.{wants_storage, IsRegrown}
use Rattle.board_rules.specs.Feeding.{is_sent_away}

-- TAKE

-- what stands against a take, in the order of the tests
abbrev pub take_refusal : {F B O : Type 0} → Setting → (r v : ℕ) → Past → Option (Take F B O)
take_refusal s r v P =
    if is_sent_away s r P then Some Left
    else if not (is_free r P) then Some Busy
    else if is_settled v P then Some Ended
    else if none_left (queued v P) || nat_le (node s v).threads (jobs v P) then Some Idle
    else None

-- what the pool answers to a take: nothing is asked of it but by a maker
abbrev pub asked : Setting → ℕ → Past → Option Answer
asked s v P = if is_maker s v then Some (grant s P (s.need v)) else None

-- this is a part of the next array of the queue
abbrev pub IsNextPart : {F : Type 0} → (F → FrameName) → (F → Option Parts) → ℕ → Past → F → Type 0
IsNextPart name_of parts v P f = IsTrue (is_next (name_of f) (queued v P)) × IsOnePart (parts f)

-- With no refusal the next array goes out as a job, at a maker with the block that the pool grants; where the pool refuses, it is dropped.
abbrev pub TakeAnswers : {F B O : Type 0} → (F → FrameName) → (F → Option Parts) → (B → ℕ) → Setting → BoardState → (r v : ℕ) → Option (Take F B O)
    → Option Answer → Take F B O → BoardState → Type 0
TakeAnswers name_of parts bytes_of s old r v (Some refusal) g answer new = (answer ≡ refusal) × (new ≡ old)
TakeAnswers name_of parts bytes_of s old r v None (Some Refused) (PoolDrop k h) new =
    (h ≡ held s (past old))
    × ((a : FrameName) × IsTrue (is_next a (queued v (past old))) × (k ≡ a.index)
    × (new ≡ moved s (plain (entry.PoolDrop r v a.maker a.index (s.need v) h)) old))
TakeAnswers name_of parts bytes_of s old r v None (Some (Granted b n f g)) (Job w input (Some blank)) new =
    (w ≡ v) × IsNextPart name_of parts v (past old) input × (bytes_of blank ≡ n)
    × ((regrown : Bool) × IsRegrown parts old b f regrown
    × (new ≡ moved s (lends (take_block r v (name_of input) b n f g regrown) (parts input)) old))
TakeAnswers name_of parts bytes_of s old r v None (Some (Granted b n f g)) OutOfMemory new =
    (TellParts parts → IsTrue (wants_storage old (Granted b n f g))) × (new ≡ old)
TakeAnswers name_of parts bytes_of s old r v None None (Job w input None) new =
    (w ≡ v) × IsNextPart name_of parts v (past old) input
    × (new ≡ moved s (lends (entry.Take r v (name_of input).maker (name_of input).index) (parts input)) old)
TakeAnswers name_of parts bytes_of s old r v None None OutOfMemory new = (TellParts parts → ⊥) × (new ≡ old)
TakeAnswers name_of parts bytes_of s old r v None g _ new = ⊥

-- The refusal, where one stands, and nothing changed; else the next array of the queue, as a job or dropped. Want of memory comes only
-- where storage is wanted or frames don't tell their parts, and changes nothing.
abbrev pub TakeGives : {F B O : Type 0} → (F → FrameName) → (F → Option Parts) → (B → ℕ) → Setting → BoardState → (r v : ℕ) → Take F B O → BoardState → Type 0
TakeGives name_of parts bytes_of s old r v answer new =
    TakeAnswers name_of parts bytes_of s old r v (take_refusal s r v (past old)) (asked s v (past old)) answer new

-- the part of a job is what the role was lent, and its storage is what was granted, with room for an array of the node
abbrev pub LendsJob : {F B O : Type 0} → (F → Option Parts) → (B → ℕ) → Setting → (r v : ℕ) → Take F B O → BoardState → Type 0
LendsJob parts bytes_of s r v (Job w input blank) new =
    (lent_to r new ≡ parts input)
    × OfSome (λ b. (s.need v ≤ bytes_of b) × (bytes_of b ≡ granted_size (hand r (past new)))) blank
LendsJob parts bytes_of s r v _ new = Unit {0}

-- PUT

-- what a result has to be, by its node: what it made, what it measured, and whether it fired
pub record IsResult {F : Type 0} (name_of : F → FrameName) (measure_at : ℕ → FrameName → Option Measure) (s : Setting) (done : Done F) : Type 0 where
  pub made : IsMadeAs name_of (is_maker s done.node) (result_name s done.node (name_of done.input)) done.made
  pub measured : done.measured ≡ measure_at done.node (name_of done.input)
  pub fired : done.fired ≡ fires_at s done.node (name_of done.input).index (node s done.node).work

-- the result is of a node of the graph
abbrev pub IsAtNode : {F : Type 0} → Setting → Done F → Type 0
IsAtNode s done = IsTrue (is_node s done.node)

-- Where the call takes it, it is the result of its node on this input, the input is what the role was lent, and what was made stands whole
-- on the storage that was granted.
abbrev pub MayPut : {F : Type 0} → (F → FrameName) → (F → Option Parts) → (ℕ → FrameName → Option Measure) → Setting → BoardState → (r : ℕ) → Done F → Type 0
MayPut name_of parts measure_at s b r done =
    IsTrue (is_job_on done.node (name_of done.input) (hand r (past b)))
    → IsResult name_of measure_at s done × (parts done.input ≡ lent_to r b)
    × OfSome (λ f. IsWholeOf (granted_size (hand r (past b))) (parts f)) done.made

-- put where the hand of the role is a job of the node on this array; else all comes back, and nothing changed
abbrev pub PutGives : {F E : Type 0} → (F → FrameName) → Setting → BoardState → (r : ℕ) → Done F → Result E (NotYours F) → BoardState → Type 0
PutGives name_of s old r done (Ok _) new =
    IsTrue (is_job_on done.node (name_of done.input) (hand r (past old)))
    × (new ≡ moved s (plain (entry.Put r done.node (result_name s done.node (name_of done.input)).maker (name_of done.input).index done.fired)) old)
PutGives name_of s old r done (Err e) new =
    (is_job_on done.node (name_of done.input) (hand r (past old)) ≡ false)
    × (e ≡ record { kept = hand_name (hand r (past old)); given = at done.node (name_of done.input); back = done })
    × (new ≡ old)

-- SETTLE

-- the node isn't settled, and its input hasn't ended, or something is queued there or in hand
abbrev pub waits_to_settle : Setting → ℕ → Past → Bool
waits_to_settle s v P =
    not (is_settled v P) && (not (has_ended (node s v).input P) || not (none_left (queued v P)) || nat_lt 0 (jobs v P))

-- the node is settled from the first time on, with its flush
abbrev pub SettleGives : Setting → BoardState → (r v : ℕ) → Settled → BoardState → Type 0
SettleGives s old r v settled.NotYet new = IsTrue (waits_to_settle s v (past old)) × (new ≡ old)
SettleGives s old r v settled.Done new =
    (waits_to_settle s v (past old) ≡ false) × (new ≡ (if is_settled v (past old) then old else moved s (plain (entry.Settle r v)) old))
