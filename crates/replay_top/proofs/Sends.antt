-- A board may go to another thread where its frames and their storage may.
use denote.RattleType.{RattleType}
use denote.Param.Send.{IsSend, view_send, recorded_send, struct_send, sendable}
use denote.Struct.Declared.{shape}
use Rattle.std.proofs.Crossing.{crosses}
use Rattle.nd_base.specs.declared.frame.Held as held
use Rattle.nd_base.specs.declared.frame.Named as named
use Rattle.nd_base.specs.declared.run.Run as run
use Rattle.run_course.specs.contracts.course.Course as course
use Rattle.frame_table.specs.contracts.table.FrameTable as table
use Rattle.flow_core.specs.contracts.board.Board as board
use Rattle.flow_core.specs.contracts.board.Board.TheInside as inside
use Rattle.pool_ledger.specs.contracts.pools.Pool as pool
use Rattle.pool_ledger.proofs.key_tree.KeyTree.TheLaws.TheKnot as knot
use Rattle.pool_ledger.proofs.pools.Slot.TheSendSync as slot
use Rattle.course_parts.proofs.rules.Rules.TheSendSync as rules_sent
use Rattle.course_parts.proofs.facts.Facts.TheSendSync as facts_sent
use Rattle.course_parts.proofs.node.NodeState.TheSendSync as node_sent
use Rattle.course_parts.proofs.hand.RoleState.TheSendSync as role_sent
use Rattle.course_parts.proofs.ending.MeasureRoom.TheSendSync as room_sent
use Rattle.flow_journal.proofs.log.Log.TheSendSync as log_sent
use Rattle.nd_base.proofs.frame.FrameName.TheSendSync as name_sent
use Rattle.told_log.proofs.lost.LostBlocks.TheSendSync as lost_sent
use Rattle.frame_table.proofs.place.Place.TheSendSync as place_sent
use Rattle.frame_table.proofs.table.FrameTable.TheSendSync as table_sent

pub pool-send : IsSend pool.the_row
pool-send = search (crosses, sendable, knot.crosses, slot.the_send) depth 30

pub ruleset sent = (
  pool-send,
  rules_sent.the_send,
  facts_sent.the_send,
  node_sent.the_send,
  role_sent.the_send,
  room_sent.the_send,
  log_sent.the_send,
  name_sent.the_send,
  table_sent.the_send,
  lost_sent.the_send,
  place_sent.the_send,
  crosses,
  sendable,
)

module _ (F B R : RattleType) (h : held.Ghosts F.Denot B.Denot R.Denot) (n : named.Ghosts F.Denot R.Denot) (r : run.Ghosts R.Denot)
    (f : IsSend F) (b : IsSend B) where
  course-send : IsSend (course.the_row F B R h n r)
  course-send = search sent depth 40 fits 100000

  table-send : IsSend (table.the_row F B R h n r)
  table-send = search sent depth 40 fits 100000

  inside-send : IsSend (inside.the_row F B R h n r)
  inside-send =
      recorded_send _ _ _ (inside.the_type F B R h n r).to_one
      (struct_send (shape (inside.the_type F B R h n r)) (course-send, (table-send, (room_sent.the_field_send, tt))))

  pub board-send : IsSend (board.the_row F B R h n r)
  board-send = view_send _ _ _ _ _ inside-send
