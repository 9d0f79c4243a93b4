-- When a history is finished.
use Rattle.std.specs.Prelude.{ℕ, ◌==◌, Bool, true, false, ◌&&◌, List, [], ◌∷◌, length}
use Rattle.std.specs.List.{list_all}
use Rattle.flow_journal.specs.Setting.{Setting, node_numbers}
use Rattle.flow_journal.specs.Pasts.{Past}
use Rattle.flow_journal.specs.Hands.{hands}
use Rattle.flow_journal.specs.Ended.{is_closed, is_settled}
use Rattle.flow_journal.specs.Offered.{next_index}
use Rattle.flow_journal.specs.Accounts.{arrays_at}

abbrev pub none_left : {X : Type 0} → List X → Bool
none_left [] = true
none_left (x ∷ xs) = false

-- the node is settled, and nothing is queued, waits, is in its ring or is unsaved there
abbrev pub is_done : Setting → Past → ℕ → Bool
is_done s P v = is_settled v P && none_left (arrays_at s P v)

-- the feed is closed, every frame was offered, no role has a hand, and every node is done
abbrev pub is_finished : Setting → Past → Bool
is_finished s P =
    is_closed P && (next_index P == length s.ids) && none_left (hands P) && list_all (is_done s P) (node_numbers s)
