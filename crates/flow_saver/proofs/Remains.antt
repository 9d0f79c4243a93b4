-- One save of the last role on a board that it has alone.
use Rattle.std.proofs.Common.{◌≡◌, ◌≢◌, ℕ, suc, ◌<◌, ◌≤◌, Bool, true, List, [], ◌∷◌, length, refl, sym, ap, subst, ◌∙◌, arith, Option, Some, Ok, Err}
use Rattle.std.specs.Prelude.{slice_get, IsTrue}
use Rattle.std.proofs.lemmas.Bool.{eq-eqb}
use Rattle.nd_base.specs.Array.{StackValue}
use Rattle.nd_base.specs.GraphRules.{IsGraph}
use Rattle.nd_base.specs.declared.graph.Graph.{Graph}
use Rattle.edge_traits.specs.Files.{Files}
use Rattle.frame_store.specs.Sealed.{Sealed}
use Rattle.flow_journal.specs.declared.entry.Entry.{Entry}
use Rattle.flow_journal.specs.declared.entry.Entry.TheVariants as entry
use Rattle.flow_journal.specs.Setting.{Setting, last_role, is_node}
use Rattle.flow_journal.specs.Hands.{hand}
use Rattle.flow_journal.specs.Histories.{is_history}
use Rattle.flow_journal.specs.Unsaved.{unsaved}
use Rattle.flow_journal.proofs.Changes.{hand_laws}
use Rattle.board_rules.specs.declared.answers.NotYours.{NotYours}
use Rattle.board_rules.specs.declared.answers.Save.TheVariants.{Busy, NotYet, Piece}
use Rattle.board_rules.specs.States.{BoardState, past, plain, lends}
use Rattle.board_rules.specs.InHand.{hand_node}
use Rattle.board_rules.specs.RunMeasures.{run_setting}
use Rattle.board_rules.specs.Saving.{SaveGives, SavedGives, MaySaved}
use Rattle.board_rules.proofs.Moves.{moves-tell}
use Rattle.flow_roles.specs.Lasts.{said_other}
use Rattle.flow_roles.specs.Passes.{Pass}
use Rattle.flow_roles.specs.Feeder.{name_of, parts_of}
use Rattle.flow_drain.specs.Drains.{IsDrained}
use Rattle.graph_files.specs.NodeFiles.{NodeFile}
use Rattle.flow_saver.specs.declared.piece.DuePiece.{DuePiece}
use Rattle.flow_saver.specs.Saver.{Start, HasUnsaved, IsToGiveBack, back_of}
use Rattle.flow_saver.specs.Remaining.{alone, RestMoves, IsSavingAlone, HasUnsavedAlone, IsToGiveBackAlone}
use Rattle.flow_saver.proofs.Alone.{Adds, saves-add, saveds-add, called-alone}
use Rattle.flow_saver.proofs.Answers.{piece-given, not_yet-still}
use Rattle.flow_saver.proofs.Giving.{never-refused, given-back}
use Rattle.flow_saver.proofs.Resting.{drained-after, others-after, nothing-left, rest-one, rest-on}
use Rattle.flow_saver.proofs.SaveOne.{one-node, one-busy, one-taken}

-- GIVING BACK

module _ (g : Graph) (stack : StackValue) (b new : BoardState) where
  abbrev rules : Setting
  rules = run_setting g stack

  abbrev drain : ℕ
  drain = last_role rules

  module _ (prefix : List ℕ) (before : Option Files) (xs : List NodeFile) (fault : Bool) (held : Option Files)
      (piece : Sealed) (h : IsToGiveBackAlone g stack prefix before b xs fault held piece) where
    pub return-may : MaySaved name_of parts_of b drain piece
    return-may is = sym (sym (moves-tell b drain).1 ∙ h.to_give.lent)

    abbrev origin : Start
    origin = record { prefix = prefix; made = h.made; held = before }

    pub return-never : (e : NotYours Sealed) → SavedGives {F = Sealed} {E = Unit {0}} name_of rules b drain piece (Err e) new → ⊥
    return-never e c =
        let gives : BoardState → BoardState → Type 0 = λ old n. SavedGives {F = Sealed} {E = Unit {0}} name_of rules old drain piece (Err e) n in
        never-refused g stack origin drain (alone rules b) (alone rules new) xs fault held piece said_other h.to_give (Unit {0}) e
        (called-alone rules b new refl h.legal h.drained gives c (saveds-add rules b new refl h.legal h.drained piece (Err e) return-may c))

    pub return-given : (u : Unit {0}) → SavedGives {F = Sealed} {E = Unit {0}} name_of rules b drain piece (Ok u) new
        → IsSavingAlone g stack prefix before new xs fault held
    return-given u c =
        let gives : BoardState → BoardState → Type 0 = λ old n. SavedGives {F = Sealed} {E = Unit {0}} name_of rules old drain piece (Ok u) n in
        let a = saveds-add rules b new refl h.legal h.drained piece (Ok u) return-may c in
        record {
          legal = a.legal;
          drained = a.drained;
          made = h.made;
          saving =
              given-back g stack origin drain (alone rules b) (alone rules new) xs fault held piece said_other h.to_give (Unit {0}) u
              (called-alone rules b new refl h.legal h.drained gives c a);
        }

  pub return-logged : (piece : Sealed) (u : Unit {0}) → SavedGives {F = Sealed} {E = Unit {0}} name_of rules b drain piece (Ok u) new → (v m k i : ℕ)
      → hand drain (past b) ≡ Some (entry.Save drain v m k i)
      → new ≡ plain (back_of drain v piece.name) ∷ b
  return-logged piece u c v m k i in_hand =
      c.1 ∙ ap (λ (o : Option Entry). plain (entry.Saved drain (hand_node o) piece.name.maker piece.name.index) ∷ b) in_hand

-- ONE SAVE

module _ (g : Graph) (stack : StackValue) (sound : IsGraph g) (prefix : List ℕ) (before : Option Files) (b mid : BoardState) (xs : List NodeFile)
    (fault : Bool) (held : Option Files)
    (h : IsSavingAlone g stack prefix before b xs fault held)
    (k v : ℕ) (node : (x : NodeFile) → slice_get xs k ≡ Some x → v ≡ x.node) (within : k < length xs) where
  abbrev s : Setting
  s = run_setting g stack

  abbrev r : ℕ
  r = last_role s

  abbrev begun : Start
  begun = record { prefix = prefix; made = h.made; held = before }

  pub next-node : IsTrue (is_node s v)
  next-node = one-node g stack sound begun r refl (alone s b) (alone s b) xs fault held said_other h.saving k v node within

  pub next-busy : SaveGives {F = Sealed} name_of parts_of s b r v Busy mid → ⊥
  next-busy c =
      let gives : BoardState → BoardState → Type 0 = λ old n. SaveGives {F = Sealed} name_of parts_of s old r v Busy n in
      one-busy g stack sound begun r refl (alone s b) (alone s mid) xs fault held said_other h.saving k v node within
      (called-alone s b mid refl h.legal h.drained gives c (saves-add s b mid refl h.legal h.drained v Busy next-node c))

  pub next-still : SaveGives {F = Sealed} name_of parts_of s b r v NotYet mid → mid ≡ b
  next-still c = not_yet-still s b mid r v c

  pub next-nothing : SaveGives {F = Sealed} name_of parts_of s b r v NotYet mid → IsSavingAlone g stack prefix before mid xs fault held
  next-nothing c = subst (λ (x : BoardState). IsSavingAlone g stack prefix before x xs fault held) (sym (next-still c)) h

  pub next-empty : IsDrained s (past b) → SaveGives {F = Sealed} name_of parts_of s b r v NotYet mid → unsaved s v (past mid) ≡ []
  next-empty drained c = ap (λ (x : BoardState). unsaved s v (past x)) (next-still c) ∙ nothing-left s b mid v drained next-node c

  module _ (input : Sealed) (group place : ℕ) (of : Option ℕ) (c : SaveGives {F = Sealed} name_of parts_of s b r v (Piece input group place of) mid) where
    adds : Adds s b mid
    adds = saves-add s b mid refl h.legal h.drained v (Piece input group place of) next-node c

    pub next-logged : mid ≡ lends (entry.Save r v input.name.maker input.name.index group) (parts_of input) ∷ b
    next-logged = (piece-given s b mid r v input group place of c).logged

    pub next-legal : is_history s (past mid) ≡ true
    next-legal = adds.legal

    pub next-taken : length stack.arrays ≤ 65536
        → HasUnsavedAlone g stack prefix before mid xs fault held (record { piece = input; at = k; group = group; place = place; of = of })
    next-taken small =
        let gives : BoardState → BoardState → Type 0 = λ old n. SaveGives {F = Sealed} name_of parts_of s old r v (Piece input group place of) n in
        record {
          legal = adds.legal;
          drained = adds.drained;
          made = h.made;
          unsaved =
              one-taken g stack sound begun r refl (alone s b) (alone s mid) xs fault held said_other h.saving k v node within small input group place of
              (called-alone s b mid refl h.legal h.drained gives c adds);
        }

    -- and once it is back
    pub next-back : (new : BoardState) → ((w m j i : ℕ) → hand r (past mid) ≡ Some (entry.Save r w m j i) → new ≡ plain (back_of r w input.name) ∷ mid)
        → new ≡ plain (back_of r v input.name) ∷ lends (entry.Save r v input.name.maker input.name.index group) (parts_of input) ∷ b
    next-back new logged =
        let in_hand : hand r (past mid) ≡ Some (entry.Save r v input.name.maker input.name.index group) =
        ap (λ (x : BoardState). hand r (past x)) next-logged
        ∙ hand_laws.up r (entry.Save r v input.name.maker input.name.index group) (past b) (eq-eqb r r refl) in
        logged v input.name.maker input.name.index group in_hand ∙ ap (λ (x : BoardState). plain (back_of r v input.name) ∷ x) next-logged

    module _ (new : BoardState) (is : new
        ≡ plain (back_of r v input.name) ∷ lends (entry.Save r v input.name.maker input.name.index group) (parts_of input) ∷ b) where
      pub next-drained : is_history s (past new) ≡ true → IsDrained s (past b) → IsDrained s (past new)
      next-drained legal d =
          subst (λ (x : BoardState). IsDrained s (past x)) (sym is)
          (drained-after s r v input.name.maker input.name.index group (past b) (subst (λ (x : BoardState). is_history s (past x) ≡ true) is legal) d)

      pub next-longer : length (past b) < length (past new)
      next-longer = let e : length (past new) ≡ suc (suc (length (past b))) = ap (λ (x : BoardState). length (past x)) is in omega (arith, e)

      pub next-others : (w : ℕ) → w ≢ v → unsaved s w (past new) ≡ unsaved s w (past b)
      next-others w apart = ap (λ (x : BoardState). unsaved s w (past x)) is ∙ others-after s r v input.name.maker input.name.index group w (past b) apart

    pub next-moves : (new : BoardState) → RestMoves s mid new → RestMoves s b new
    next-moves new m =
        rest-on s b mid new (rest-one s (lends (entry.Save r v input.name.maker input.name.index group) (parts_of input)) b mid (eq-eqb r r refl) refl next-logged) m

-- what was written can be given back
pub to-give-alone : (g : Graph) (stack : StackValue) (prefix : List ℕ) (before : Option Files) (b : BoardState) (xs ys : List NodeFile)
    (fault torn : Bool) (held stands : Option Files) (due : DuePiece Sealed)
    → HasUnsavedAlone g stack prefix before b xs fault held due
    → ((start : Start) (role : ℕ) (pass : Pass) → HasUnsaved g stack start role pass xs fault held due
    → IsToGiveBack g stack start role pass ys torn stands due.piece)
    → IsToGiveBackAlone g stack prefix before b ys torn stands due.piece
to-give-alone g stack prefix before b xs ys fault torn held stands due h ok = record {
  legal = h.legal;
  drained = h.drained;
  made = h.made;
  to_give = ok (record { prefix = prefix; made = h.made; held = before }) (last_role (run_setting g stack)) (alone (run_setting g stack) b) h.unsaved;
}

-- and what wasn't is still in hand
pub unsaved-still : (g : Graph) (stack : StackValue) (prefix : List ℕ) (before : Option Files) (b : BoardState) (xs ys : List NodeFile)
    (fault torn : Bool) (held stands : Option Files) (due : DuePiece Sealed)
    → HasUnsavedAlone g stack prefix before b xs fault held due
    → ((start : Start) (role : ℕ) (pass : Pass) → HasUnsaved g stack start role pass xs fault held due → HasUnsaved g stack start role pass ys torn stands due)
    → HasUnsavedAlone g stack prefix before b ys torn stands due
unsaved-still g stack prefix before b xs ys fault torn held stands due h ok = record {
  legal = h.legal;
  drained = h.drained;
  made = h.made;
  unsaved = ok (record { prefix = prefix; made = h.made; held = before }) (last_role (run_setting g stack)) (alone (run_setting g stack) b) h.unsaved;
}

-- one that was given back was a save
pub back-moves : (s : Setting) (b new : BoardState) (v : ℕ) (piece : Sealed) → new ≡ plain (back_of (last_role s) v piece.name) ∷ b → RestMoves s b new
back-moves s b new v piece is = rest-one s (plain (back_of (last_role s) v piece.name)) b new (eq-eqb (last_role s) (last_role s) refl) refl is
