use denote.Param.Send.{sendable}
use Rattle.frame_store.proofs.frame.Frame.TheSendSync as frame_sent
use Rattle.frame_store.proofs.blank.Blank.TheSendSync as blank_sent
use Rattle.flow_run.proofs.Sharing.{if-ok}
use Rattle.flow_watch.specs.Reads.{unwatched}
use Rattle.plain_saver.proofs.KeptStacks.{IsKeptStack-IsStack}
use Rattle.replay_top.proofs.Sends.{board-send}
use Rattle.replay_top.proofs.histories.play.Goals as goal

pub start-requires-clause-stack : goal.start-requires-clause-stack
start-requires-clause-stack g c = IsKeptStack-IsStack _ c.requires.kept

pub watch_run-requires-send-B : goal.watch_run-requires-send-B
watch_run-requires-send-B g c κs within = search (board-send, frame_sent.the_send, blank_sent.the_send, sendable) depth 40 fits 100000

pub play_run-requires-send-B : goal.play_run-requires-send-B
play_run-requires-send-B g c κs within = search (board-send, frame_sent.the_send, blank_sent.the_send, sendable) depth 40 fits 100000

pub returns-then-watched-clause-run : goal.returns-then-watched-clause-run
returns-then-watched-clause-run g c = if-ok c.watch_run.result _ _ (λ end h. ((unwatched, h.0), h.1)) c.watch_run.ensures.run

pub returns-clause-run : goal.returns-clause-run
returns-clause-run g c = ((_, _), c.in_ok-run.ensures.run)
