-- A call of the board as a call of the last role, which has the board alone.
use Rattle.std.proofs.Common.{◌≡◌, ℕ, true, List, [], ◌++◌, length, refl, ap, ◌∙◌, None, Result}
use Rattle.std.specs.Prelude.{IsTrue}
use Rattle.frame_store.specs.Sealed.{Sealed}
use Rattle.flow_journal.specs.Setting.{Setting, last_role, is_node}
use Rattle.flow_journal.specs.Histories.{is_history}
use Rattle.board_rules.specs.declared.answers.Save.{Save}
use Rattle.board_rules.specs.declared.answers.NotYours.{NotYours}
use Rattle.board_rules.specs.States.{BoardState, past}
use Rattle.board_rules.specs.Movers.{moves_by, IsMoveOf}
use Rattle.board_rules.specs.Runs.{Frames}
use Rattle.board_rules.specs.Saving.{SaveGives, SavedGives, MaySaved}
use Rattle.board_rules.proofs.Moves.{moves-added}
use Rattle.flow_roles.specs.declared.operation.DeskOp.TheVariants as op
use Rattle.flow_roles.specs.declared.operation.DeskReply.TheVariants as reply
use Rattle.flow_roles.specs.Lasts.{said_other}
use Rattle.flow_roles.specs.Passes.{Called, only_drain_saves}
use Rattle.flow_roles.specs.Feeder.{name_of, parts_of}
use Rattle.flow_roles.proofs.Playing.{replies_are_moves}
use Rattle.flow_saver.specs.Remaining.{alone}

frames : Frames Sealed (List ℕ)
frames = record { name_of = name_of; parts = parts_of; bytes_of = λ blank. length blank; measure_at = λ v a. None }

-- what a call of the last role adds
pub record Adds (s : Setting) (b new : BoardState) : Type 0 where
  pub added : BoardState
  pub is : new ≡ added ++ b
  pub move : IsMoveOf (last_role s) added
  pub legal : is_history s (past new) ≡ true
  pub drained : only_drain_saves s (past new) ≡ true

module _ (s : Setting) (b new : BoardState) (pooled : s.pooled ≡ true) (legal : is_history s (past b) ≡ true)
    (drained : only_drain_saves s (past b) ≡ true) where
  pub saves-add : (v : ℕ) (answer : Save Sealed) → IsTrue (is_node s v) → SaveGives name_of parts_of s b (last_role s) v answer new → Adds s b new
  unfolding frames
  saves-add v answer node c =
      let m = replies_are_moves {F = Sealed} {B = List ℕ} {O = ℕ} frames s b new (op.Save (last_role s) v) (reply.Save answer) (refl, node) c in
      record { added = m.0.0; is = m.0.1; move = m.0.2; legal = m.1 pooled legal; drained = m.2 drained }

  pub saveds-add : (f : Sealed) (answer : Result (Unit {0}) (NotYours Sealed)) → MaySaved name_of parts_of b (last_role s) f
      → SavedGives name_of s b (last_role s) f answer new → Adds s b new
  unfolding frames
  saveds-add f answer may c =
      let m = replies_are_moves {F = Sealed} {B = List ℕ} {O = ℕ} frames s b new (op.Saved (last_role s) f) (reply.Saved answer) (refl, may) c in
      record { added = m.0.0; is = m.0.1; move = m.0.2; legal = m.1 pooled legal; drained = m.2 drained }

  pub called-alone : (gives : BoardState → BoardState → Type 0) → gives b new → Adds s b new → Called s gives said_other (alone s b) (alone s new)
  called-alone gives c a = record {
    between = [];
    added = a.added;
    seen = a.is;
    answer = c;
    move = a.move;
    made = ap (λ (x : BoardState). moves_by (last_role s) x) a.is ∙ (moves-added a.added b (last_role s) a.move).0;
    exact = refl;
    role = refl;
    said = refl;
    legal = a.legal;
    drained = a.drained;
  }
