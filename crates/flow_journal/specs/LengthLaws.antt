-- LAWS of the length of a log: no legal log has more entries than these.
use Rattle.std.specs.Prelude.{◌≡◌, ℕ, ◌+◌, ◌*◌, ◌≤◌, true, length, sum_by}
use Rattle.flow_journal.specs.Setting.{Setting, Node, last_role}
use Rattle.flow_journal.specs.Pasts.{Past}
use Rattle.flow_journal.specs.Offered.{offered}
use Rattle.flow_journal.specs.Histories.{is_legal}

-- each frame at each node
abbrev pub arrivals : Setting → ℕ
arrivals s = length s.ids * length s.nodes

-- the threads of all nodes
abbrev pub threads : Setting → ℕ
threads s = sum_by (λ (n : Node). n.threads) s.nodes

-- Five entries an arrival and four a frame. Each node settles once and each role leaves once, the feed closes once, and each role
-- but the drain is reclaimed once, after which a load and its tick, a take or a save may come again.
abbrev pub most_entries : Setting → ℕ
most_entries s = 5 * arrivals s + 4 * length s.ids + length s.nodes + 4 * last_role s + 2

pub record LengthLaws : Type 0 where
  -- to a node comes one array of each frame at most
  pub offers : (s : Setting) (P : Past) (v : ℕ) → is_legal s P ≡ true → length (offered v P) ≤ length s.ids
  pub entries : (s : Setting) (P : Past) → is_legal s P ≡ true → length P ≤ most_entries s
  -- with 32 nodes and 64 threads in all at most
  pub within_limits : (s : Setting) (P : Past) → length s.nodes ≤ 32 → threads s ≤ 64 → is_legal s P ≡ true → length P ≤ 5 * arrivals s + 4 * length s.ids + 400
