-- The feeder with a frame in hand, and what its frames are.
use Rattle.std.specs.Prelude.{◌≡◌, ℕ, ◌<◌, ◌≤◌, true, List, length, Option, Some, IsTrue}
use Rattle.std.specs.List.{list_all}
use Rattle.nd_base.specs.Parts.{Parts}
use Rattle.nd_base.specs.declared.frame.FrameName.{FrameName}
use Rattle.frame_store.specs.Sealed.{Sealed}
use Rattle.flow_journal.specs.Setting.{Setting}
use Rattle.flow_journal.specs.Pasts.{frame}
use Rattle.flow_journal.specs.Hands.{hand}
use Rattle.board_rules.specs.States.{past}
use Rattle.board_rules.specs.InHand.{is_load_of, granted_size}
use Rattle.board_rules.specs.declared.answers.Load.{Load}
use Rattle.board_rules.specs.Feeding.{LoadGives, HasRoom}
use Rattle.flow_roles.specs.Lasts.{said_load}
use Rattle.flow_roles.specs.Passes.{Pass}
use Rattle.flow_roles.specs.RoleMoves.{feeder_logs, HasAsked}

abbrev pub name_of : Sealed → FrameName
name_of f = f.name

abbrev pub parts_of : Sealed → Option Parts
parts_of f = Some f.parts

-- the feeder has frame k in hand, which is to be filled into storage of so many bytes
pub record HasLoaded (s : Setting) (k size : ℕ) (p : Pass) : Type 0 where
  pub role : p.role ≡ 0
  pub moves : list_all feeder_logs (past p.made) ≡ true
  pub loaded : IsTrue (is_load_of (frame 0 k) (hand 0 (past p.made)))
  pub granted : granted_size (hand 0 (past p.made)) ≡ size
  pub there : k < length s.ids
  pub room : s.need 0 ≤ size

-- with nothing in hand before it, the feeder made this load, which was answered so
abbrev pub HasAskedLoad : Setting → (tick : ℕ) → Load (List ℕ) → Pass → Type 0
HasAskedLoad s tick a p =
    HasAsked s feeder_logs 0 (λ old new. LoadGives parts_of length s old 0 tick a new) (said_load a tick) p × HasRoom length s 0 a p.made
