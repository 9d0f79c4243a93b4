-- A move that is tried.
use Rattle.std.specs.Prelude.{◌≡◌, ◌≤◌, ℕ, Bool, true, false}
use Rattle.nd_base.specs.declared.frame.FrameName.{FrameName}
use Rattle.flow_journal.specs.declared.entry.Entry.{Entry}
use Rattle.flow_journal.specs.Setting.{Setting, is_node, last_role}
use Rattle.flow_journal.specs.Pasts.{Past}
use Rattle.flow_journal.specs.Hands.{hand as hand_of}
use Rattle.flow_journal.specs.FirstEntries.{first, is_result_of}
use Rattle.flow_journal.specs.ResultNames.{result_name}
use Rattle.board_rules.specs.States.{BoardState, past, plain}
use Rattle.board_rules.specs.Moving.{moved_at}
use Rattle.board_rules.specs.InHand.{is_job_on}

-- true where the entry begins a move, and then it was made, with this tick at a load; else false, and nothing changed
abbrev pub Tries : Setting → (tick : ℕ) → Entry → BoardState → Bool → BoardState → Type 0
Tries s tick e old true new = (first s (past old) e ≡ true) × (new ≡ moved_at s tick (plain e) old)
Tries s tick e old false new = (first s (past old) e ≡ false) × (new ≡ old)

-- the role has a job of the node on this array in hand, and the job's result has the name made
pub record IsJobFor (s : Setting) (r v : ℕ) (made name : FrameName) (P : Past) : Type 0 where
  pub role : r ≤ last_role s
  pub node : is_node s v ≡ true
  pub hand : is_job_on v name (hand_of r P) ≡ true
  pub result : is_result_of v made (hand_of r P) ≡ true
  pub named : result_name s v name ≡ made
