-- A text that grew by a name and a value.
use Rattle.std.proofs.Common.{◌≡◌, ℕ, List, ◌++◌, ap, sym, ◌∙◌, append_assoc}

pub one_more : (old more before text name value : List ℕ) → before ≡ old ++ more → text ≡ before ++ (name ++ value) → text ≡ old ++ (more ++ name ++ value)
one_more old more before text name value first then =
    then ∙ ap (λ t. t ++ (name ++ value)) first ∙ append_assoc old more (name ++ value) ∙ ap (λ t. old ++ t) (sym (append_assoc more name value))
