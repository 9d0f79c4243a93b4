-- LAWS of what has ended.
use Rattle.std.specs.Prelude.{◌≡◌, ℕ, ◌≤◌, true, false, [], length, Some}
use Rattle.flow_journal.specs.declared.entry.Entry.{Entry}
use Rattle.flow_journal.specs.Setting.{Setting, node, is_node, last_role}
use Rattle.flow_journal.specs.Pasts.{Past}
use Rattle.flow_journal.specs.Hands.{hand, is_free}
use Rattle.flow_journal.specs.Ended.{is_closed, is_settled, has_ended}
use Rattle.flow_journal.specs.Offered.{next_index}
use Rattle.flow_journal.specs.Queued.{queued}
use Rattle.flow_journal.specs.Waiting.{waiting}
use Rattle.flow_journal.specs.FirstEntries.{has_loaded}
use Rattle.flow_journal.specs.Histories.{is_legal, is_history}
use Rattle.flow_roles.specs.Passes.{only_drain_saves}
use Rattle.flow_drain.specs.Drains.{IsDrained}

pub record EndLaws : Type 0 where
  -- once the feed is closed every frame was offered, and none is loaded
  pub offered : (s : Setting) (P : Past) → is_legal s P ≡ true → is_closed P ≡ true → next_index P ≡ length s.ids
  pub unloaded : (s : Setting) (P : Past) → is_legal s P ≡ true → is_closed P ≡ true → has_loaded P ≡ false
  -- the input of a settled node has ended
  pub input : (s : Setting) (P : Past) (v : ℕ) → is_legal s P ≡ true → is_settled v P ≡ true → has_ended (node s v).input P ≡ true
  -- and nothing is queued or waits at it
  pub queue : (s : Setting) (P : Past) (v : ℕ) → is_legal s P ≡ true → is_settled v P ≡ true → queued v P ≡ []
  pub list : (s : Setting) (P : Past) (v : ℕ) → is_history s P ≡ true → is_settled v P ≡ true → waiting s v P ≡ []
  -- who has a hand is a role of the run
  pub roles : (s : Setting) (P : Past) (r : ℕ) (e : Entry) → is_legal s P ≡ true → hand r P ≡ Some e → r ≤ last_role s
  -- where the feed is closed and all nodes are settled, and the last role alone has saved and has nothing in hand, nothing is left but pieces to save
  pub drained : (s : Setting) (P : Past) → is_history s P ≡ true → is_closed P ≡ true → ((v : ℕ) → is_node s v ≡ true → is_settled v P ≡ true)
      → only_drain_saves s P ≡ true → is_free (last_role s) P ≡ true → IsDrained s P
