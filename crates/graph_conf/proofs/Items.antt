-- Going over the items of an array.
use Rattle.std.proofs.Common.{◌≡◌, ℕ, ◌+◌, ◌<◌, List, [], ◌∷◌, ◌++◌, length, get_or, drop, Option, Some, None, refl, ap, sym, ◌∙◌, append_assoc}
use Rattle.std.specs.Option.{option_map, option_and_then}
use Rattle.toml.specs.Data.{Data}
use Rattle.toml.specs.View.{view, items_view}
use Rattle.toml.specs.declared.value.Value.{Value}
use Rattle.toml.proofs.Views.{items_view-drop}
use Rattle.graph_conf.specs.Keys.{all_of}

-- what follows some values
abbrev pub behind : {A : Type 0} → List A → Option (List A) → Option (List A)
behind front more = option_map (λ xs. front ++ xs) more

one_more : {A : Type 0} (front : List A) (x : A) (more : Option (List A)) → behind front (option_map (λ xs. x ∷ xs) more) ≡ behind (front ++ x ∷ []) more
one_more front x None = refl
one_more front x (Some xs) = ap Some (sym (append_assoc front (x ∷ []) xs))

-- an item of the form is one more value
pub all_of-more : {A : Type 0} (form : Data → Option A) (front : List A) (vs : List Value) (i : ℕ) (d : Value) (x : A) → i < length vs
    → form (view (get_or vs i d)) ≡ Some x →
    behind front (all_of form (items_view (drop i vs))) ≡ behind (front ++ x ∷ []) (all_of form (items_view (drop (i + 1) vs)))
all_of-more form front vs i d x within is =
    ap (λ ds. behind front (all_of form ds)) (items_view-drop vs i d within)
    ∙ ap (λ o. behind front (option_and_then (λ y. option_map (λ xs. y ∷ xs) (all_of form (items_view (drop (i + 1) vs)))) o)) is
    ∙ one_more front x (all_of form (items_view (drop (i + 1) vs)))

-- an item of another form leaves none
pub all_of-none : {A : Type 0} (form : Data → Option A) (front : List A) (vs : List Value) (i : ℕ) (d : Value) → i < length vs
    → form (view (get_or vs i d)) ≡ None →
    behind front (all_of form (items_view (drop i vs))) ≡ None
all_of-none form front vs i d within is =
    ap (λ ds. behind front (all_of form ds)) (items_view-drop vs i d within)
    ∙ ap (λ o. behind front (option_and_then (λ y. option_map (λ xs. y ∷ xs) (all_of form (items_view (drop (i + 1) vs)))) o)) is
