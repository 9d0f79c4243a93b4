-- What a played board adds to the lock's log.
use Rattle.std.proofs.Common.{◌≡◌, true, List, ◌++◌, sym, ap, ◌∙◌, subst, subst₂}
use Rattle.std.specs.Prelude.{reverse}
use Rattle.std.proofs.lemmas.List.{reverse-reverse, reverse-append}
use Rattle.flow_journal.specs.Setting.{Setting}
use Rattle.flow_journal.specs.Histories.{is_history}
use Rattle.board_rules.specs.declared.told.Told.{Told}
use Rattle.board_rules.specs.States.{BoardState, past}
use Rattle.board_rules.specs.Movers.{moves_by}
use Rattle.board_rules.specs.Runs.{Frames}
use Rattle.board_rules.specs.Storage.{HasAllStorage}
use Rattle.turn_lock.specs.Logs.{IsMove, moves_of}
use Rattle.flow_roles.specs.declared.operation.DeskOp.{DeskOp}
use Rattle.flow_roles.specs.declared.operation.DeskReply.{DeskReply}
use Rattle.flow_roles.specs.Passes.{only_drain_saves}
use Rattle.flow_roles.specs.Operations.{role_of, begins_of, MayPlay, MayBePlayed, Replies, Lends, IsPlayed}
use Rattle.flow_roles.proofs.Playing.{moves_allow, replies_are_moves}
use Rattle.flow_roles.proofs.Reversed.{moves_reversed, move_reversed}

module _ {F B : Type 0} (fs : Frames F B) (s : Setting) (b : BoardState) (o : DeskOp F) where
  -- what the lock allows, the board's moves allow
  pub may_play : MayBePlayed fs s (moves_of begins_of (role_of o) (reverse b)) o → MayPlay fs s (moves_by (role_of o) b) o
  may_play h = subst (λ (c : BoardState). MayPlay fs s c o) (moves_reversed (role_of o) b) h

module _ {F B O : Type 0} (fs : Frames F B) (s : Setting) (b new : BoardState) (o : DeskOp F) (reply : DeskReply F B O)
    (pooled : s.pooled ≡ true) (legal : is_history s (past b) ≡ true) (drained : only_drain_saves s (past b) ≡ true)
    (may : MayBePlayed fs s (moves_of begins_of (role_of o) (reverse b)) o) (c : Replies fs s b o reply new) where
  pub legal_after : is_history s (past new) ≡ true
  legal_after = (replies_are_moves fs s b new o reply (moves_allow fs s b o (may_play fs s b o may)) c).1 pooled legal

  pub drained_after : only_drain_saves s (past new) ≡ true
  drained_after = (replies_are_moves fs s b new o reply (moves_allow fs s b o (may_play fs s b o may)) c).2 drained

  pub storage_after : HasAllStorage fs.parts b → HasAllStorage fs.parts new
  storage_after = (replies_are_moves fs s b new o reply (moves_allow fs s b o (may_play fs s b o may)) c).3

  pub played : Lends fs s o reply new
      → (added : List Told) × (reverse new ≡ reverse b ++ added) × IsMove begins_of (role_of o) added × IsPlayed fs s (reverse b) o reply added
  played lends =
      let m = (replies_are_moves fs s b new o reply (moves_allow fs s b o (may_play fs s b o may)) c).0 in
      let log : reverse new ≡ reverse b ++ reverse m.0 = ap reverse m.1 ∙ reverse-append m.0 b in
      let back : reverse (reverse b ++ reverse m.0) ≡ new = ap reverse (sym log) ∙ reverse-reverse new in (
        reverse m.0,
        log,
        move_reversed (role_of o) m.0 m.2,
        record {
          replies = subst₂ (λ (x y : BoardState). Replies fs s x o reply y) (sym (reverse-reverse b)) (sym back) c;
          lends = subst (λ (y : BoardState). Lends fs s o reply y) (sym back) lends;
          legal = subst (λ (y : BoardState). is_history s (past y) ≡ true) (sym back) legal_after;
          drained = subst (λ (y : BoardState). only_drain_saves s (past y) ≡ true) (sym back) drained_after;
        },
      )
