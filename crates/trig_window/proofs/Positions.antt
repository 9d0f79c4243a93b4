-- One more position of a whole list.
use Rattle.std.proofs.Common.{◌≡◌, ℕ, ◌≤◌, Bool, List, [], ◌∷◌, ◌++◌, ap, sym, subst, ◌∙◌}
use Rattle.trig_window.specs.Windows.{passed_items, goes_out}
use Rattle.trig_window.specs.WindowLaws.{passed_items-push}
use Rattle.trig_window.specs.Watch.{Watch, new_watch}
use Rattle.trig_window.specs.Watching.{SameRule, StandsAt}

-- the window stands after these positions, and what went out is what passes of them
abbrev pub Passes : (pre post preset : ℕ) → Watch ℕ → (flags : List Bool) (xs out : List ℕ) → Type 0
Passes pre post preset w flags xs out =
    SameRule (new_watch {X = ℕ} pre post preset) w × StandsAt w flags xs × (out ≡ passed_items pre post preset flags xs)

pub one_more : (pre post preset : ℕ) (flags longer : List Bool) (xs more : List ℕ) (f : Bool) (x : ℕ) (old new : Watch ℕ) (done out : List ℕ)
    → 1 ≤ post → longer ≡ flags ++ f ∷ [] → more ≡ xs ++ x ∷ []
    → Passes pre post preset old flags xs done
    → SameRule old new
    → ((gs : List Bool) (ys : List ℕ) → StandsAt old gs ys → StandsAt new (gs ++ f ∷ []) (ys ++ x ∷ []))
    → ((gs : List Bool) (ys : List ℕ) → StandsAt old gs ys → out ≡ done ++ goes_out old.pre old.post old.preset gs ys f x)
    → Passes pre post preset new longer more out
one_more pre post preset flags longer xs more f x old new done out positive flags_are more_are before rule stands goes =
    let was = before.0 in
    let out_is : out ≡ passed_items pre post preset (flags ++ f ∷ []) (xs ++ x ∷ []) =
    goes flags xs before.1
    ∙ ap (λ p. done ++ goes_out p old.post old.preset flags xs f x) was.0
    ∙ ap (λ p. done ++ goes_out pre p old.preset flags xs f x) was.1
    ∙ ap (λ p. done ++ goes_out pre post p flags xs f x) was.2
    ∙ ap (λ ys. ys ++ goes_out pre post preset flags xs f x) before.2
    ∙ sym (passed_items-push pre post preset flags xs before.1.items f x positive) in
    subst (λ gs. Passes pre post preset new gs more out) (sym flags_are)
    (subst (λ ys. Passes pre post preset new (flags ++ f ∷ []) ys out) (sym more_are)
    ((rule.0 ∙ was.0, rule.1 ∙ was.1, rule.2 ∙ was.2), stands flags xs before.1, out_is))
