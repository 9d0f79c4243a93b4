-- LAWS: a feed that waits for room finds it.
use Rattle.std.specs.Prelude.{◌≡◌, ℕ, true, false}
use Rattle.flow_journal.specs.Setting.{Setting, node, is_node}
use Rattle.flow_journal.specs.Pasts.{Past}
use Rattle.flow_journal.specs.Histories.{is_legal}
use Rattle.run_laws.specs.Drops.{fulls, has_reclaim}

-- where the feed waits and no hand was taken back, no frame found the queue of a child of the driver full
abbrev pub WaitingFeedFindsRoom : Type 0
WaitingFeedFindsRoom =
    (s : Setting) (P : Past) (v : ℕ) → is_node s v ≡ true → s.wait ≡ true → (node s v).input ≡ 0 → is_legal s P ≡ true → has_reclaim P ≡ false → fulls v P ≡ 0
