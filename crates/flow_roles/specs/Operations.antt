-- What an operation asks of the moves of its role, and which replies it may have.
use Rattle.std.specs.Prelude.{◌≡◌, ℕ, ◌<◌, ◌≤◌, true, List, ◌++◌, reverse, Option, Some, None, IsTrue}
use Rattle.nd_base.specs.Parts.{Parts}
use Rattle.nd_base.specs.declared.frame.FrameName.{FrameName}
use Rattle.nd_base.specs.declared.measure.Measure.{Measure}
use Rattle.flow_journal.specs.Setting.{Setting, last_role, is_node}
use Rattle.flow_journal.specs.Histories.{is_history}
use Rattle.board_rules.specs.declared.told.Told.{Told}
use Rattle.board_rules.specs.States.{BoardState, past}
use Rattle.flow_journal.specs.MoveLists.{begun_by}
use Rattle.board_rules.specs.Movers.{moves_by, IsMoveOf}
use Rattle.board_rules.specs.Feeding.{MayIssue, HasRoom}
use Rattle.board_rules.specs.Working.{LendsJob, IsAtNode, MayPut}
use Rattle.board_rules.specs.Saving.{LendsPiece, MaySaved}
use Rattle.board_rules.specs.Storage.{HasAllStorage}
use Rattle.board_rules.specs.Runs.{Frames, Call, Loads, Issues, Takes, Puts, Settles, Saves, Saveds, Closes, Leaves, Asks, Gives}
use Rattle.flow_roles.specs.declared.last.Said.{Said}
use Rattle.flow_roles.specs.Lasts.{said_load, said_given, said_take, said_close, said_leave, said_other, said_progress}
use Rattle.flow_roles.specs.Passes.{only_drain_saves}
use Rattle.flow_roles.specs.declared.operation.DeskOp.{DeskOp}
use Rattle.flow_roles.specs.declared.operation.DeskOp.TheVariants as op
use Rattle.flow_roles.specs.declared.operation.DeskReply.{DeskReply}
use Rattle.flow_roles.specs.declared.operation.DeskReply.TheVariants as reply

abbrev pub frames_of : {F B : Type 0} → (F → FrameName) → (F → Option Parts) → (B → ℕ) → (ℕ → FrameName → Option Measure) → Frames F B
frames_of name_of parts bytes_of measure_at = record { name_of = name_of; parts = parts; bytes_of = bytes_of; measure_at = measure_at }

abbrev pub role_of : {F : Type 0} → DeskOp F → ℕ
role_of (op.Load r tick) = r
role_of (op.Issue r frame) = r
role_of (op.Take r v) = r
role_of (op.Put r done) = r
role_of (op.Settle r v) = r
role_of (op.Close r) = r
role_of (op.Leave r) = r
role_of (op.Save r v) = r
role_of (op.Saved r frame) = r
role_of (op.Progress r) = r

-- what a load is handed
abbrev pub tick_of : {F : Type 0} → DeskOp F → ℕ
tick_of (op.Load r tick) = tick
tick_of _ = 0

-- the operation may be played, by the moves that its role made; the drain alone saves
abbrev pub MayPlay : {F B : Type 0} → Frames F B → Setting → (made : BoardState) → DeskOp F → Type 0
MayPlay fs s made (op.Load r tick) = r < last_role s
MayPlay fs s made (op.Issue r frame) = (r < last_role s) × MayIssue fs.name_of fs.parts made r frame
MayPlay fs s made (op.Take r v) = (r < last_role s) × IsTrue (is_node s v)
MayPlay fs s made (op.Put r done) = (r < last_role s) × IsAtNode s done × MayPut fs.name_of fs.parts fs.measure_at s made r done
MayPlay fs s made (op.Settle r v) = (r < last_role s) × IsTrue (is_node s v)
MayPlay fs s made (op.Close r) = r < last_role s
MayPlay fs s made (op.Leave r) = r < last_role s
MayPlay fs s made (op.Save r v) = (r ≡ last_role s) × IsTrue (is_node s v)
MayPlay fs s made (op.Saved r frame) = (r ≡ last_role s) × MaySaved fs.name_of fs.parts made r frame
MayPlay fs s made (op.Progress r) = r ≤ last_role s

-- the call of the board that an operation with its reply is; a reply of another name makes none
abbrev pub call_of : {F B O : Type 0} → DeskOp F → DeskReply F B O → Option (Call F B O)
call_of (op.Load r tick) (reply.Load answer) = Some (Loads r tick answer)
call_of (op.Issue r frame) (reply.Issue answer) = Some (Issues r frame answer)
call_of (op.Take r v) (reply.Take answer) = Some (Takes r v answer)
call_of (op.Put r done) (reply.Put answer) = Some (Puts r done answer)
call_of (op.Settle r v) (reply.Settle answer) = Some (Settles r v answer)
call_of (op.Close r) (reply.Close answer) = Some (Closes r answer)
call_of (op.Leave r) reply.Leave = Some (Leaves r)
call_of (op.Save r v) (reply.Save answer) = Some (Saves r v answer)
call_of (op.Saved r frame) (reply.Saved answer) = Some (Saveds r frame answer)
call_of (op.Progress r) (reply.Progress answer) = Some (Asks answer)
call_of _ _ = None

abbrev pub GivesCall : {F B O : Type 0} → Frames F B → Setting → BoardState → Option (Call F B O) → BoardState → Type 0
GivesCall fs s old (Some call) new = Gives fs s old call new
GivesCall fs s old None new = ⊥

-- the operation may have this reply, and leave the board so
abbrev pub Replies : {F B O : Type 0} → Frames F B → Setting → BoardState → DeskOp F → DeskReply F B O → BoardState → Type 0
Replies fs s old o reply new = GivesCall fs s old (call_of o reply) new

-- what is handed out has room, and its part is what the role was lent
abbrev pub Lends : {F B O : Type 0} → Frames F B → Setting → DeskOp F → DeskReply F B O → BoardState → Type 0
Lends fs s (op.Load r tick) (reply.Load answer) new = HasRoom fs.bytes_of s r answer new
Lends fs s (op.Take r v) (reply.Take answer) new = LendsJob fs.parts fs.bytes_of s r v answer new
Lends fs s (op.Save r v) (reply.Save answer) new = LendsPiece fs.parts r answer new
Lends fs s _ _ new = Unit {0}

-- what a call that was answered so leaves of what its role was answered; `tick` is what a load was handed
abbrev pub said_reply : {F B O : Type 0} → (tick : ℕ) → DeskReply F B O → Said → Said
said_reply tick (reply.Load answer) = said_load answer tick
said_reply tick (reply.Issue answer) = said_given answer
said_reply tick (reply.Take answer) = said_take answer
said_reply tick (reply.Put answer) = said_given answer
said_reply tick (reply.Settle answer) = said_other
said_reply tick (reply.Close answer) = said_close answer
said_reply tick reply.Leave = said_leave
said_reply tick (reply.Save answer) = said_other
said_reply tick (reply.Saved answer) = said_given answer
said_reply tick (reply.Progress answer) = said_progress answer

-- UNDER A LOCK, whose log has the oldest entry first

abbrev pub begins_of : Told → Option ℕ
begins_of t = begun_by t.entry

abbrev pub MayBePlayed : {F B : Type 0} → Frames F B → Setting → (mine : List Told) → DeskOp F → Type 0
MayBePlayed fs s mine o = MayPlay fs s (reverse mine) o

-- after this log the operation has this reply, and adds these entries
pub record IsPlayed {F B O : Type 0} (fs : Frames F B) (s : Setting) (old : List Told) (o : DeskOp F)
    (answer : DeskReply F B O) (added : List Told) : Type 0 where
  pub replies : Replies fs s (reverse old) o answer (reverse (old ++ added))
  pub lends : Lends fs s o answer (reverse (old ++ added))
  pub legal : is_history s (past (reverse (old ++ added))) ≡ true
  pub drained : only_drain_saves s (past (reverse (old ++ added))) ≡ true

-- LAWS

-- An operation adds nothing or one move of its role; a legal history is legal after it; and where only the drain saved and no storage stayed away, so it
-- is then.
abbrev pub RepliesAreMoves : (F B O : Type 0) → Type 0
RepliesAreMoves F B O = (fs : Frames F B) (s : Setting) (old new : BoardState) (o : DeskOp F) (reply : DeskReply F B O) → MayPlay fs s old o
    → Replies fs s old o reply new
    → ((added : BoardState) × (new ≡ added ++ old) × IsMoveOf (role_of o) added)
    × (s.pooled ≡ true → is_history s (past old) ≡ true → is_history s (past new) ≡ true)
    × (only_drain_saves s (past old) ≡ true → only_drain_saves s (past new) ≡ true)
    × (HasAllStorage fs.parts old → HasAllStorage fs.parts new)

-- what a role may play by its own moves, it may play on the board
abbrev pub MovesAllow : (F B : Type 0) → Type 0
MovesAllow F B = (fs : Frames F B) (s : Setting) (b : BoardState) (o : DeskOp F) → MayPlay fs s (moves_by (role_of o) b) o → MayPlay fs s b o
