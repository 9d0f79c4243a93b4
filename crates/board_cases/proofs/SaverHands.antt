-- What the calls of the role that saves leave in its hand.
use Rattle.std.proofs.Common.{◌≡◌, ℕ, Bool, true, false, not, ◌||◌, cond, refl, ap, sym, ◌∙◌, Option, Some, None, Ok}
use Rattle.std.specs.Prelude.{is_some}
use Rattle.std.specs.List.{list_any}
use Rattle.std.proofs.lemmas.Bool.{false≢true, true≢false, eq-eqb}
use Rattle.frame_store.specs.Sealed.{Sealed}
use Rattle.flow_journal.specs.declared.entry.Entry.{Entry}
use Rattle.flow_journal.specs.declared.entry.Entry.TheVariants.{Load, LoadRefused, Issue, Take, TakeBlock, PoolDrop, Put, Settle, Save, Saved, Close, Leave}
use Rattle.flow_journal.specs.declared.entry.Entry.TheVariants.{Reclaim}
use Rattle.flow_journal.specs.Setting.{Setting}
use Rattle.flow_journal.specs.Hands.{hand, is_free, hands, is_piece}
use Rattle.flow_journal.proofs.Changes.{hand_laws}
use Rattle.board_rules.specs.declared.answers.Save.{Save as save_answer}
use Rattle.board_rules.specs.declared.answers.Save.TheVariants as save
use Rattle.board_rules.specs.States.{BoardState, past, plain, lends}
use Rattle.flow_journal.specs.MoveLists.{begun_by}
use Rattle.board_rules.specs.Moving.{moved_at}
use Rattle.board_rules.specs.InHand.{is_piece_on, hand_node}
use Rattle.board_rules.specs.Saving.{has_due, save_refusal, SaveAnswers, SaveGives, LendsPiece, MaySaved, SavedGives}
use Rattle.flow_roles.specs.Lasts.{said_other, said_given}
use Rattle.flow_roles.specs.Passes.{Pass, Called}
use Rattle.flow_roles.specs.RoleMoves.{saver_logs, HasNothing}
use Rattle.flow_roles.specs.Feeder.{name_of, parts_of}
use Rattle.flow_roles.proofs.Calls.{here, moved, role-after}
use Rattle.flow_roles.proofs.WorkerCalls.{same-self}
use Rattle.board_cases.specs.Hands.{is_still_save, piece_of}
use Rattle.board_cases.specs.Seats.{HasPiece, HoldsPiece}
use Rattle.board_cases.proofs.Staying.{piece-still}

pub saver-quiet : (e : Entry) → begun_by e ≡ None → saver_logs e ≡ true
saver-quiet (Load q k b n f g x) h = cc
saver-quiet (LoadRefused q k n z) h = cc
saver-quiet (Issue q k) h = cc
saver-quiet (Take q w m k) h = cc
saver-quiet (TakeBlock f x q w m k b n g) h = cc
saver-quiet (PoolDrop q w m k n z) h = cc
saver-quiet (Put q w m k f) h = cc
saver-quiet (Settle q w) h = cc
saver-quiet (Close q) h = cc
saver-quiet (Leave q) h = cc
saver-quiet (Reclaim q) h = cc
saver-quiet _ h = refl

save-still : {F : Type 0} (s : Setting) (name_of : F → _) (parts : F → _) (old new : BoardState) (r v : ℕ) (o : Option (save_answer F)) (a : save_answer F)
    → is_still_save a ≡ true
    → SaveAnswers name_of parts s old r v o a new → new ≡ old
save-still s name_of parts old new r v (Some x) a still c = c.1
save-still s name_of parts old new r v None save.OutOfMemory still c = c.1
save-still s name_of parts old new r v None save.Busy still c = absurd c
save-still s name_of parts old new r v None save.NotYet still c = absurd c
save-still s name_of parts old new r v None (save.Piece input group place of) still c = absurd (false≢true still)

-- a refusal is no piece
no-piece : {F : Type 0} (busy none : Bool) (input : F) (group place : ℕ) (of : Option ℕ) (x : save_answer F)
    → cond busy (Some save.Busy) (cond none (Some save.NotYet) None) ≡ Some x → save.Piece input group place of ≡ x → ⊥
no-piece true none input group place of x is same = cc
no-piece false true input group place of x is same = cc
no-piece false false input group place of x is same = cc

-- the move that hands a piece out
save-moves : (s : Setting) (old new : BoardState) (r v : ℕ) (o : Option (save_answer Sealed)) (input : Sealed) (group place : ℕ) (of : Option ℕ)
    → save_refusal s r v (past old) ≡ o
    → SaveAnswers name_of parts_of s old r v o (save.Piece input group place of) new
    → new ≡ moved_at s 0 (lends (Save r v input.name.maker input.name.index group) (parts_of input)) old
save-moves s old new r v (Some x) input group place of is c =
    absurd (no-piece (not (is_free r (past old))) (not (has_due s v (past old)) || list_any (is_piece v) (hands (past old))) input group place of x is c.0)
save-moves s old new r v None input group place of is c = c.5

pub none-free : (r : ℕ) (p : Pass) (o : Option Sealed) → is_some o ≡ false → HoldsPiece r p o → HasNothing saver_logs r p
none-free r p None is h = h
none-free r p (Some piece) is h = absurd (true≢false is)

module _ (s : Setting) (r : ℕ) (old new : Pass) where
  pub save-stays : (v : ℕ) (a : save_answer Sealed) (o : Option Sealed) → is_still_save a ≡ true
      → Called s (λ x y. SaveGives name_of parts_of s x r v a y) said_other old new → HoldsPiece r old o → HoldsPiece r new o
  save-stays v a o still c h =
      let f = λ (x y : BoardState). SaveGives name_of parts_of s x r v a y in
      let b = here s f said_other old new old.role refl c in
      piece-still s f said_other old new r o c (save-still s name_of parts_of b new.seen r v (save_refusal s r v (past b)) a still c.answer) h

  pub save-holds : (v : ℕ) (a : save_answer Sealed) → HasNothing saver_logs r old
      → Called s (λ x y. SaveGives name_of parts_of s x r v a y) said_other old new → LendsPiece parts_of r a new.made
      → HoldsPiece r new (piece_of a)
  save-holds v save.Busy n c lent_ = save-stays v save.Busy None refl c n
  save-holds v save.NotYet n c lent_ = save-stays v save.NotYet None refl c n
  save-holds v save.OutOfMemory n c lent_ = save-stays v save.OutOfMemory None refl c n
  save-holds v (save.Piece input group place of) n c lent_ =
      let a = save.Piece input group place of in
      let f = λ (x y : BoardState). SaveGives name_of parts_of s x r v a y in
      let b = here s f said_other old new r n.role c in
      let e = Save r v input.name.maker input.name.index group in
      let m =
      moved s f said_other old new r n.role c saver_logs 0 (lends e (parts_of input))
      (save-moves s b new.seen r v (save_refusal s r v (past b)) input group place of refl c.answer) refl saver-quiet refl n.moves in
      record {
        role = role-after s f said_other old new r n.role c;
        moves = m.moves;
        on = ap (λ (o : Option Entry). is_piece_on input.name o) (m.hand ∙ hand_laws.up r e (past b) (eq-eqb r r refl)) ∙ same-self input.name;
        lent = sym lent_;
      }

  pub saved-may : (piece : Sealed) → HasPiece r piece old → MaySaved name_of parts_of old.made r piece
  saved-may piece h is = h.lent

  pub saved-holds : {E : Type 0} (piece : Sealed) (done : E) → HasPiece r piece old
      → Called s (λ x y. SavedGives {E = E} name_of s x r piece (Ok done) y) (said_given {F = Sealed} {E = E} (Ok done)) old new → HasNothing saver_logs r new
  saved-holds {E} piece done h c =
      let f = λ (x y : BoardState). SavedGives {E = E} name_of s x r piece (Ok done) y in
      let b = here s f (said_given {F = Sealed} {E = E} (Ok done)) old new r h.role c in
      let e = Saved r (hand_node (hand r (past b))) piece.name.maker piece.name.index in
      let m = moved s f (said_given {F = Sealed} {E = E} (Ok done)) old new r h.role c saver_logs 0 (plain e) c.answer.1 refl saver-quiet refl h.moves in
      record {
        role = role-after s f (said_given {F = Sealed} {E = E} (Ok done)) old new r h.role c;
        moves = m.moves;
        free = m.hand ∙ hand_laws.down s r e (past b) m.legal (eq-eqb r r refl);
      }
