-- What a role leaves may be reclaimed.
use Rattle.std.proofs.Common.{◌≡◌, ℕ, sym, ap, ◌∙◌, subst₂, Option, Some, None}
use Rattle.std.specs.Prelude.{IsTrue}
use Rattle.std.proofs.lemmas.Bool.{true≢false}
use Rattle.nd_base.specs.Parts.{Parts}
use Rattle.nd_base.specs.declared.frame.FrameName.{FrameName}
use Rattle.flow_journal.specs.declared.entry.Entry.{Entry}
use Rattle.flow_journal.specs.declared.entry.Entry.TheVariants.{Load, Take, TakeBlock, Save}
use Rattle.flow_journal.specs.Setting.{Setting}
use Rattle.flow_journal.specs.Hands.{hand}
use Rattle.board_rules.specs.declared.answers.Left.{Left}
use Rattle.board_rules.specs.States.{BoardState, past, lent_to}
use Rattle.board_rules.specs.Movers.{moves_by}
use Rattle.board_rules.specs.InHand.{has_part_of, has_grant, granted_size, IsWholeOf, OfSome, TellParts, IsOfHand}
use Rattle.board_rules.proofs.Moves.{moves-tell}
use Rattle.flow_roles.specs.RoleEnds.{MayComeBack}

module _ {F B : Type 0} (name_of : F → FrameName) (parts : F → Option Parts) (bytes_of : B → ℕ) (lent : Option Parts) where
  back-input : (o : Option Entry) (input made : Option F) (blank : Option B) → IsOfHand name_of parts bytes_of lent o input made blank
      → OfSome (λ f. IsTrue (has_part_of (name_of f) o) → parts f ≡ lent) input
  back-input o None made blank h = tt
  back-input None (Some f) made blank h = absurd (true≢false h.0)
  back-input (Some (Load q k b n y g x)) (Some f) made blank h = absurd (true≢false h.0)
  back-input (Some (Take q u m k)) (Some f) made blank h = λ i. h.0.1
  back-input (Some (TakeBlock y x q u m k b n g)) (Some f) made blank h = λ i. h.0.1
  back-input (Some (Save q u m k g)) (Some f) made blank h = λ i. h.0.1
  back-input (Some _) (Some f) made blank h = absurd h

  back-made : (o : Option Entry) (input made : Option F) (blank : Option B) → IsOfHand name_of parts bytes_of lent o input made blank
      → OfSome (λ f. IsTrue (has_grant o) → IsWholeOf (granted_size o) (parts f)) made
  back-made o input None blank h = tt
  back-made None input (Some f) blank h = absurd (true≢false h.1)
  back-made (Some (Load q k b n y g x)) input (Some f) None h = λ i. h.1.1
  back-made (Some (Load q k b n y g x)) input (Some f) (Some blank) h = absurd h.1
  back-made (Some (Take q u m k)) input (Some f) blank h = absurd (true≢false h.1)
  back-made (Some (TakeBlock y x q u m k b n g)) input (Some f) None h = λ i. h.1.1
  back-made (Some (TakeBlock y x q u m k b n g)) input (Some f) (Some blank) h = absurd h.1
  back-made (Some (Save q u m k g)) input (Some f) blank h = absurd (true≢false h.1)
  back-made (Some _) input (Some f) blank h = absurd h

  back-blank : (o : Option Entry) (input made : Option F) (blank : Option B) → IsOfHand name_of parts bytes_of lent o input made blank
      → OfSome (λ k. TellParts parts → IsTrue (has_grant o) → bytes_of k ≡ granted_size o) blank
  back-blank o input made None h = tt
  back-blank None input made (Some blank) h = absurd (true≢false h.2)
  back-blank (Some (Load q k b n y g x)) input None (Some blank) h = λ t i. h.1
  back-blank (Some (Load q k b n y g x)) input (Some f) (Some blank) h = absurd h.1
  back-blank (Some (Take q u m k)) input made (Some blank) h = absurd (true≢false h.2)
  back-blank (Some (TakeBlock y x q u m k b n g)) input None (Some blank) h = λ t i. h.1
  back-blank (Some (TakeBlock y x q u m k b n g)) input (Some f) (Some blank) h = absurd h.1
  back-blank (Some (Save q u m k g)) input made (Some blank) h = absurd (true≢false h.2)
  back-blank (Some _) input made (Some blank) h = absurd h

-- what is of a hand by the moves of its role is of it at each board that has just these
pub handed-at : {F B : Type 0} (name_of : F → FrameName) (parts : F → Option Parts) (bytes_of : B → ℕ) (r : ℕ) (made b : BoardState)
    (input done : Option F) (blank : Option B) → moves_by r b ≡ made
    → IsOfHand name_of parts bytes_of (lent_to r made) (hand r (past made)) input done blank
    → IsOfHand name_of parts bytes_of (lent_to r b) (hand r (past b)) input done blank
handed-at name_of parts bytes_of r made b input done blank same h =
    subst₂ (λ (l : Option Parts) (o : Option Entry). IsOfHand name_of parts bytes_of l o input done blank)
    (ap (λ (w : BoardState). lent_to r w) (sym same) ∙ (moves-tell b r).1) (ap (λ (w : BoardState). hand r (past w)) (sym same) ∙ (moves-tell b r).0) h

pub comes-back : {F B O : Type 0} (name_of : F → FrameName) (parts : F → Option Parts)
    (bytes_of : B → ℕ) (s : Setting) (r : ℕ) (made : BoardState) (left : Left F B O)
    → IsOfHand name_of parts bytes_of (lent_to r made) (hand r (past made)) left.input left.made left.blank → MayComeBack name_of parts bytes_of s r made left
comes-back {F} {B} {O} name_of parts bytes_of s r made left h b same none_ =
    let here_ = handed-at name_of parts bytes_of r made b left.input left.made left.blank same h in (
      back-input name_of parts bytes_of (lent_to r b) (hand r (past b)) left.input left.made left.blank here_,
      back-made name_of parts bytes_of (lent_to r b) (hand r (past b)) left.input left.made left.blank here_,
      back-blank name_of parts bytes_of (lent_to r b) (hand r (past b)) left.input left.made left.blank here_,
    )
