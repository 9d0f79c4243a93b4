use Rattle.std.proofs.Common.{◌≡◌, ℕ, zero, suc, ◌<◌, List, [], ◌∷◌, ◌++◌, length, slice_index_or, sym, ap, subst, ◌∙◌, arith}
use Rattle.file_out.specs.declared.group.Row.{Row}
use Rattle.file_out.specs.Examples.{two_by_two}
use Rattle.file_out.specs.Streams.{IsRow}
use Rattle.file_out.proofs.tests.both.Goals as goal

-- what holds of two holds of each of them
each_of_two : {A : Type 0} (P : A → Type 0) (a b : A) → P a → P b → (k : ℕ) (d : A) → k < length (a ∷ b ∷ []) → P (slice_index_or (a ∷ b ∷ []) k d)
each_of_two P a b p q zero d within = p
each_of_two P a b p q (suc zero) d within = q
each_of_two P a b p q (suc (suc k)) d within = absurd (omega (arith, within))

pub returns-clause-each : goal.returns-clause-each
returns-clause-each c =
    let a : Row = c.in_ok-frame.field-0 in
    let b : Row = c.in_ok-frame-2.field-0 in
    let first : c.push.new.self.items ≡ a ∷ [] = c.in_ok-push.ensures.items ∙ ap (λ (l : List Row). l ++ a ∷ []) c.new-rows.ensures.items in
    let both : c.push-2.new.self.items ≡ a ∷ b ∷ [] = c.in_ok-push-2.ensures.items ∙ ap (λ (l : List Row). l ++ b ∷ []) first in
    subst (λ (l : List Row). (k : ℕ) (d : Row) → k < length l → IsRow two_by_two (slice_index_or l k d).head (slice_index_or l k d).samples) (sym both)
    (each_of_two (λ (r : Row). IsRow two_by_two r.head r.samples) a b c.in_ok-frame.ensures c.in_ok-frame-2.ensures)
