-- LAWS of the moves of a log.
use Rattle.std.specs.Prelude.{◌≡◌, ℕ, true, List, [], ◌∷◌, ◌++◌}
use Rattle.flow_journal.specs.declared.entry.Entry.{Entry}
use Rattle.flow_journal.specs.Setting.{Setting}
use Rattle.flow_journal.specs.Pasts.{Past}
use Rattle.flow_journal.specs.Hands.{hand}
use Rattle.flow_journal.specs.Ended.{now}
use Rattle.flow_journal.specs.Histories.{is_legal, is_history}
use Rattle.flow_journal.specs.Moves.{onto, is_move, are_moves, all_of}
use Rattle.flow_journal.specs.MoveLists.{moves, role_moves}

pub record MoveLaws : Type 0 where
  -- a legal history is the list of its moves, each of them legal after those before it
  pub legal : (s : Setting) (P : Past) → is_history s P ≡ true → are_moves s [] (moves P) ≡ true
  -- and no entry is lost, whatever the log
  pub whole : (P : Past) → onto (all_of (moves P)) [] ≡ P
  -- there is no other way to cut it into legal moves
  pub one_way : (s : Setting) (P : Past) (ms : List (List Entry)) → are_moves s [] ms ≡ true → onto (all_of ms) [] ≡ P → ms ≡ moves P
  -- after one past the first entry of a legal move, and the tick that is kept, tell the rest
  pub one_rest : (s : Setting) (P : Past) (e : Entry) (es ds : List Entry) → is_history s P ≡ true → is_move s P (e ∷ es) ≡ true → is_move s P (e ∷ ds) ≡ true
      → now (onto (e ∷ es) P) ≡ now (onto (e ∷ ds) P) → es ≡ ds
  -- what a role has in hand depends on its own moves alone
  pub own_hand : (P : Past) (r : ℕ) → hand r P ≡ hand r (onto (all_of (role_moves r P)) [])

-- each legal log goes on to a legal history: what is still owed can come
abbrev pub LogsGoOn : Type 0
LogsGoOn = (s : Setting) (P : Past) → is_legal s P ≡ true → (newer : List Entry) × (is_history s (newer ++ P) ≡ true)
