-- What there was is legal where all that is made of it is.
use Rattle.std.proofs.Common.{◌≡◌, ◌∙◌, ℕ, zero, suc, true, List, [], ◌∷◌, ◌++◌, refl, sym, ap, subst}
use Rattle.std.proofs.lemmas.List.{append_assoc}
use Rattle.flow_journal.specs.declared.entry.Entry.{Entry}
use Rattle.flow_journal.specs.Setting.{Setting}
use Rattle.flow_journal.specs.Histories.{is_legal}
use Rattle.flow_journal.specs.Following.{calls_for}
use Rattle.flow_journal.proofs.Histories.{legal-front}
use Rattle.board_rules.specs.States.{BoardState, past, plain}
use Rattle.board_rules.specs.Moving.{with_all, made_of}
use Rattle.board_rules.proofs.Pasts.{past-append}

-- what is made is put before what there was
grown : (s : Setting) (t n : ℕ) (ds : List Entry) (b : BoardState) → (more : BoardState) × (with_all s t n ds b ≡ more ++ b)
grown s t zero ds b = ([], refl)
grown s t (suc n) [] b = ([], refl)
grown s t (suc n) (d ∷ ds) b =
    let e = made_of s t (past b) d in
    let inner = grown s t n (calls_for s (past b) e) (plain e ∷ b) in
    let outer = grown s t (suc n) ds (with_all s t n (calls_for s (past b) e) (plain e ∷ b)) in (
      outer.0 ++ (inner.0 ++ plain e ∷ []),
      outer.1
          ∙ (ap (λ (xs : BoardState). outer.0 ++ xs) (inner.1 ∙ sym (append_assoc inner.0 (plain e ∷ []) b))
          ∙ sym (append_assoc outer.0 (inner.0 ++ plain e ∷ []) b)),
    )

-- so what there was is legal where all is
pub legal-before : (s : Setting) (t n : ℕ) (ds : List Entry) (b : BoardState) → is_legal s (past (with_all s t n ds b)) ≡ true → is_legal s (past b) ≡ true
legal-before s t n ds b h =
    let g = grown s t n ds b in
    legal-front s (past g.0) (past b) (subst (λ P. is_legal s P ≡ true) (ap past g.1 ∙ past-append g.0 b) h)
