-- A piece that is given back.
use Rattle.std.proofs.Common.{◌≡◌, ℕ, Bool, true, List, ◌∷◌, ◌++◌, length, refl, sym, ap, subst, ◌∙◌, Option, Some, Ok, Err}
use Rattle.std.proofs.lemmas.Bool.{and_parts, eq-eqb, false≢true}
use Rattle.nd_base.specs.Array.{StackValue}
use Rattle.nd_base.specs.declared.graph.Graph.{Graph}
use Rattle.edge_traits.specs.Files.{Files}
use Rattle.frame_store.specs.Sealed.{Sealed}
use Rattle.flow_journal.specs.declared.entry.Entry.{Entry}
use Rattle.flow_journal.specs.declared.entry.Entry.TheVariants as entry
use Rattle.flow_journal.specs.Setting.{Setting}
use Rattle.flow_journal.specs.Hands.{hand}
use Rattle.flow_journal.specs.Histories.{is_legal}
use Rattle.flow_journal.specs.Unsaved.{saves}
use Rattle.flow_journal.proofs.Changes.{hand_laws}
use Rattle.flow_journal.proofs.Steps.{same_refl}
use Rattle.board_rules.specs.declared.told.Told.{Told}
use Rattle.board_rules.specs.declared.answers.NotYours.{NotYours}
use Rattle.board_rules.specs.States.{BoardState, past, plain}
use Rattle.board_rules.specs.InHand.{is_piece_on, hand_node}
use Rattle.board_rules.specs.RunMeasures.{run_setting}
use Rattle.board_rules.specs.Saving.{SavedGives}
use Rattle.flow_roles.specs.declared.last.Said.{Said}
use Rattle.flow_roles.specs.Passes.{Pass, Called}
use Rattle.flow_roles.specs.Feeder.{name_of}
use Rattle.flow_roles.proofs.Calls.{Moved, hand-before, role-after}
use Rattle.graph_files.specs.NodeFiles.{NodeFile}
use Rattle.flow_saver.specs.GivenBack.{given_back, written_by}
use Rattle.flow_saver.specs.Saver.{Start, IsSaving, IsToGiveBack, AreSaved}
use Rattle.flow_saver.proofs.Steps.{one-entry, saved-more, saved-since, any-moved}

module _ (g : Graph) (stack : StackValue) (start : Start) (r : ℕ) (p q : Pass) (xs : List NodeFile)
    (fault : Bool) (held : Option Files) (piece : Sealed) (answers : Said → Said)
    (st : IsToGiveBack g stack start r p xs fault held piece) where
  abbrev s : Setting
  s = run_setting g stack

  -- the hand is this piece, whatever others did
  piece-on : (gives : BoardState → BoardState → Type 0) (c : Called s gives answers p q)
      → is_piece_on (name_of piece) (hand r (past (c.between ++ p.seen))) ≡ true
  piece-on gives c = ap (is_piece_on (name_of piece)) (hand-before s gives answers p q r st.role c ∙ st.hand) ∙ same_refl piece.name

  pub never-refused : (E : Type 0) (e : NotYours Sealed)
      → Called s (λ old new. SavedGives {F = Sealed} {E = E} name_of s old r piece (Err e) new) answers p q → ⊥
  never-refused E e c = false≢true (sym c.answer.0 ∙ piece-on (λ old new. SavedGives {F = Sealed} {E = E} name_of s old r piece (Err e) new) c)

  -- what it logs
  pub back-logged : (E : Type 0) (u : E) (c : Called s (λ old new. SavedGives {F = Sealed} {E = E} name_of s old r piece (Ok u) new) answers p q)
      → q.seen ≡ plain (entry.Saved r st.node piece.name.maker piece.name.index) ∷ (c.between ++ p.seen)
  back-logged E u c =
      let gives : BoardState → BoardState → Type 0 = λ old new. SavedGives {F = Sealed} {E = E} name_of s old r piece (Ok u) new in
      let here : BoardState = c.between ++ p.seen in
      let in_hand : hand r (past here) ≡ Some (entry.Save r st.node piece.name.maker piece.name.index st.group) =
      hand-before s gives answers p q r st.role c ∙ st.hand in
      c.answer.1 ∙ ap (λ (o : Option Entry). plain (entry.Saved r (hand_node o) piece.name.maker piece.name.index) ∷ here) in_hand

  pub given-back : (E : Type 0) (u : E) → Called s (λ old new. SavedGives {F = Sealed} {E = E} name_of s old r piece (Ok u) new) answers p q
      → IsSaving g stack start r q xs fault held
  given-back E u c =
      let gives : BoardState → BoardState → Type 0 = λ old new. SavedGives {F = Sealed} {E = E} name_of s old r piece (Ok u) new in
      let here : BoardState = c.between ++ p.seen in
      let t : Told = plain (entry.Saved r st.node piece.name.maker piece.name.index) in
      let logged : q.seen ≡ t ∷ here = back-logged E u c in
      let made : q.made ≡ t ∷ p.made = one-entry s gives answers p q r st.role c t refl logged in
      let m : Moved s (λ (e : Entry). true) r t here p q = any-moved s gives answers p q r st.role c t refl logged in
      let legal = subst (λ (b : BoardState). is_legal s (past b) ≡ true) logged (and_parts (is_legal s (past q.seen)) _ c.legal).0 in
      let saved = saved-more g stack start (past (t ∷ p.made)) (t ∷ c.between) p.seen xs fault held legal st.saved in
      record {
        role = role-after s gives answers p q r st.role c;
        moves = saved-since start.made p.made q.made t refl made st.moves;
        free = m.hand ∙ hand_laws.down s r t.entry (past here) m.legal (eq-eqb r r refl);
        alike = subst (λ (b : BoardState). (v : ℕ) → saves v (past b) ≡ given_back v (past b)) (sym made) st.alike;
        whole = subst (λ (b : BoardState). (v : ℕ) → length (written_by g stack (past b) v) ≡ length (given_back v (past b))) (sym made) st.whole;
        nodes = st.nodes;
        rows = st.rows;
        saved = subst (λ (b : BoardState). AreSaved g stack start.held (past b) (past q.seen) xs fault held) (sym made)
            (subst (λ (b : BoardState). AreSaved g stack start.held (past (t ∷ p.made)) (past b) xs fault held) (sym logged) saved);
      }
