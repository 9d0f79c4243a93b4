-- What a course is seen as, and what its parts have to do with its log.
use Rattle.std.specs.Prelude.{◌≡◌, ◌≤◌, ℕ, true, List, length, Option}
use Rattle.std.specs.List.{All, flat_map}
use Rattle.nd_base.specs.declared.frame.FrameName.{FrameName}
use Rattle.nd_base.specs.declared.measure.Measure.{Measure}
use Rattle.pool_ledger.specs.Ledger.{Ledger}
use Rattle.flow_journal.specs.Setting.{Setting, last_role}
use Rattle.flow_journal.specs.Pasts.{Past}
use Rattle.flow_journal.specs.Accounts.{block_of}
use Rattle.flow_journal.specs.Histories.{is_legal}
use Rattle.flow_journal.specs.LengthLaws.{most_entries}
use Rattle.board_rules.specs.States.{BoardState, past}
use Rattle.pool_account.specs.Account.{IsAccount}
use Rattle.told_log.specs.ToldLogs.{ToldState}
use Rattle.course_parts.specs.declared.rules.Rules.{Rules}
use Rattle.course_parts.specs.declared.node.NodeState.{NodeState}
use Rattle.course_parts.specs.declared.hand.RoleState.{RoleState}
use Rattle.course_parts.specs.declared.facts.Facts.{Facts}
use Rattle.course_parts.specs.RunRules.{AreRules}
use Rattle.course_parts.specs.NodeStates.{AreNodes}
use Rattle.course_parts.specs.RoleStates.{AreRoles}
use Rattle.course_parts.specs.Facts.{facts_of}
use Rattle.run_course.specs.FrameBlocks.{AreBlocks}
use Rattle.flow_journal.specs.Having.{HasBlock}

-- the log, with what was told beside it, and the arrays that are on their way from one place to another, the next one first
pub record Coursed : Type 0 where
  pub told : BoardState
  pub transit : List FrameName

-- what a course keeps
pub record Parts : Type 0 where
  pub log : ToldState
  pub rules : Rules
  pub nodes : List NodeState
  pub roles : List RoleState
  pub pool : Ledger
  pub blocks : List ℕ
  pub facts : Facts
  pub transit : List FrameName
  pub room : ℕ

abbrev pub log_of : Parts → Past
log_of k = past k.log.told

-- all that is kept is what the log says; each array on its way has a block, and a hold of it
pub record IsCourse (measure : ℕ → FrameName → Option Measure) (s : Setting) (k : Parts) : Type 0 where
  pub ruled : AreRules k.rules s
  pub legal : is_legal s (log_of k) ≡ true
  pub nodes : AreNodes measure s (log_of k) k.nodes
  pub roles : AreRoles s (log_of k) k.roles
  pub account : IsAccount s (log_of k) (flat_map (block_of (log_of k)) k.transit) k.pool
  pub standing : All (HasBlock (log_of k)) k.transit
  pub blocks : AreBlocks s (log_of k) k.blocks
  pub facts : k.facts ≡ facts_of (log_of k)
  pub log_room : k.log.room ≡ most_entries s
  pub reclaims : last_role s ≤ k.log.reclaims
  pub moving : length k.transit ≤ 4097
  pub transit_room : 4097 ≤ k.room
