-- Where the drain stands between two calls.
use Rattle.std.specs.Prelude.{◌≡◌, ℕ, ◌<◌, ◌≤◌, true, false, List, [], ◌∷◌, length, Option, Some, None}
use Rattle.std.specs.List.{list_all}
use Rattle.nd_base.specs.Array.{StackValue}
use Rattle.nd_base.specs.declared.graph.Graph.{Graph}
use Rattle.frame_store.specs.Sealed.{Sealed}
use Rattle.flow_journal.specs.declared.entry.Entry.{Entry}
use Rattle.flow_journal.specs.Setting.{Setting, node, last_role, children}
use Rattle.flow_journal.specs.Pasts.{Past, frame}
use Rattle.flow_journal.specs.Hands.{takes_up, hands}
use Rattle.flow_journal.specs.Ended.{is_closed, is_settled, has_ended}
use Rattle.flow_journal.specs.Offered.{next_index}
use Rattle.flow_journal.specs.Queued.{queued, has_room}
use Rattle.flow_journal.specs.Histories.{is_history}
use Rattle.board_rules.specs.States.{BoardState, past, lent_to}
use Rattle.board_rules.specs.InHand.{is_load_of, is_job_on, granted_size, IsOfHand}
use Rattle.board_rules.specs.RunMeasures.{run_setting}
use Rattle.flow_roles.specs.Feeder.{name_of, parts_of}
use Rattle.flow_roles.specs.Worker.{ComesTo, FitsNode}

-- nobody has anything in hand
pub record IsIdle (s : Setting) (b : BoardState) : Type 0 where
  pub legal : is_history s (past b) ≡ true
  pub free : hands (past b) ≡ []

-- this hand of the drain is the only one
pub record Holds (s : Setting) (e : Entry) (b : BoardState) : Type 0 where
  pub legal : is_history s (past b) ≡ true
  pub only : hands (past b) ≡ e ∷ []
  pub drain : takes_up (last_role s) e ≡ true

-- the drain has frame k in hand, which is to be filled into storage of so many bytes
pub record HasFrame (s : Setting) (k size : ℕ) (b : BoardState) : Type 0 where
  pub hand : Entry
  pub holds : Holds s hand b
  pub loaded : is_load_of (frame 0 k) (Some hand) ≡ true
  pub granted : granted_size (Some hand) ≡ size
  pub there : k < length s.ids
  pub room : s.need 0 ≤ size

-- the drain has this job of node v in hand
pub record HasWork (g : Graph) (stack : StackValue) (v : ℕ) (input : Sealed) (blank : Option (List ℕ)) (b : BoardState) : Type 0 where
  pub hand : Entry
  pub holds : Holds (run_setting g stack) hand b
  pub job : is_job_on v input.name (Some hand) ≡ true
  pub held : IsOfHand name_of parts_of length (lent_to (last_role (run_setting g stack)) b) (Some hand) (Some input) None blank
  pub comes : ComesTo g v input
  pub fits : FitsNode g stack v blank

-- the feed has ended
pub record IsFed (s : Setting) (P : Past) : Type 0 where
  pub closed : is_closed P ≡ true
  pub offered : next_index P ≡ length s.ids

-- some child of the driver has no room, and the feed waits
abbrev pub Waits : Setting → Past → Type 0
Waits s P = list_all (has_room s P) (children s 0) ≡ false

-- nothing is queued at the node, and it is settled where its input has ended
pub record IsQuiet (s : Setting) (P : Past) (v : ℕ) : Type 0 where
  pub empty : queued v P ≡ []
  pub settled : has_ended (node s v).input P ≡ true → is_settled v P ≡ true
