-- The keys that a table may have.
use Rattle.std.proofs.Common.{◌≡◌, ◌||◌, ℕ, List, [], ◌∷◌, Bool, true, false, Bor, Option, Some, None, Global, String, Less, Greater, map, cond}
use Rattle.std.proofs.Common.{string_bytes, nat_cmp, inl, inr, refl, ap, ◌∙◌}
use Rattle.std.specs.Prelude.{IfSome}
use Rattle.std.specs.Ordering.{is_lt, ordering_reverse}
use Rattle.std.specs.Cmp.Lexicographic.{slice_cmp}
use Rattle.std.specs.List.{AllByRecursion, list_any}
use Rattle.std.specs.Map.{keys_of}
use Rattle.std.specs.Str.{bytes_eq}
use Rattle.std.specs.String.{string_cmp}
use Rattle.std.proofs.lemmas.Bool.{cases_Bool}
use Rattle.std.proofs.lemmas.Cmp.{nat_list_cmp_total}
use Rattle.toml.proofs.Views.{Entry}
use Rattle.toml.specs.View.{members_view}
use Rattle.graph_conf.specs.Keys.{first_unknown, lesser}

pub list_any_map : {X Y : Type 0} (test : Y → Bool) (f : X → Y) (xs : List X) → list_any test (map f xs) ≡ list_any (λ x. test (f x)) xs
list_any_map test f [] = refl
list_any_map test f (x ∷ xs) = ap (λ b. test (f x) || b) (list_any_map test f xs)

-- of two keys above a third, the lesser is above it
lesser_above : (k key : List ℕ) (o : Option (List ℕ)) → slice_cmp nat_cmp k key ≡ Less → IfSome o (λ other. slice_cmp nat_cmp k other ≡ Less)
    → slice_cmp nat_cmp k (lesser key o) ≡ Less
lesser_above k key None here more = here
lesser_above k key (Some other) here more =
    elim (cases_Bool (is_lt (slice_cmp nat_cmp other key))) [
      | inl less ↦ ap (λ b. slice_cmp nat_cmp k (cond b other key)) less ∙ more
      | inr above ↦ ap (λ b. slice_cmp nat_cmp k (cond b other key)) above ∙ here
    ]

found_above : (k key : List ℕ) (o : Option (List ℕ)) (is : Bool) → slice_cmp nat_cmp k key ≡ Less → IfSome o (λ other. slice_cmp nat_cmp k other ≡ Less) →
    IfSome (cond is o (Some (lesser key o))) (λ other. slice_cmp nat_cmp k other ≡ Less)
found_above k key o true here more = more
found_above k key o false here more = lesser_above k key o here more

-- where all keys are above one, so is the first unknown one
unknown_above : (known : List (List ℕ)) (k : String Global) (es : List Entry) → AllByRecursion (λ y. string_cmp k y ≡ Less) (keys_of es) →
    IfSome (first_unknown known (members_view es)) (λ other. slice_cmp nat_cmp (string_bytes k) other ≡ Less)
unknown_above known k [] above = tt
unknown_above known k (e ∷ es) above =
    found_above (string_bytes k) (string_bytes e.0) (first_unknown known (members_view es))
    (list_any (bytes_eq (string_bytes e.0)) known) above.0 (unknown_above known k es above.1)

lesser_first : (key : List ℕ) (o : Option (List ℕ)) → IfSome o (λ other. slice_cmp nat_cmp key other ≡ Less) → lesser key o ≡ key
lesser_first key None above = refl
lesser_first key (Some other) above =
    let greater : slice_cmp nat_cmp other key ≡ Greater = nat_list_cmp_total.antisymm other key ∙ ap ordering_reverse above in
    ap (λ c. cond (is_lt c) other key) greater

first_key : (known : List (Bor (List ℕ))) (e : Entry) (rest : List Entry) (is : Bool) → list_any (λ k. bytes_eq (string_bytes e.0) k.now) known ≡ is →
    first_unknown (map (λ k. k.now) known) (members_view (e ∷ rest))
    ≡ cond is (first_unknown (map (λ k. k.now) known) (members_view rest))
    (Some (lesser (string_bytes e.0) (first_unknown (map (λ k. k.now) known) (members_view rest))))
first_key known e rest is h =
    ap (λ b. cond b (first_unknown (map (λ k. k.now) known) (members_view rest))
    (Some (lesser (string_bytes e.0) (first_unknown (map (λ k. k.now) known) (members_view rest)))))
    (list_any_map (bytes_eq (string_bytes e.0)) (λ k. k.now) known ∙ h)

-- a key that is known leaves the search to those after it
pub past_known : (known : List (Bor (List ℕ))) (e : Entry) (rest : List Entry) → list_any (λ k. bytes_eq (string_bytes e.0) k.now) known ≡ true →
    first_unknown (map (λ k. k.now) known) (members_view (e ∷ rest)) ≡ first_unknown (map (λ k. k.now) known) (members_view rest)
past_known known e rest h = first_key known e rest true h

-- one that isn't is the first, where those after it are above it
pub at_unknown : (known : List (Bor (List ℕ))) (e : Entry) (rest : List Entry) → list_any (λ k. bytes_eq (string_bytes e.0) k.now) known ≡ false
    → AllByRecursion (λ y. string_cmp e.0 y ≡ Less) (keys_of rest) →
    first_unknown (map (λ k. k.now) known) (members_view (e ∷ rest)) ≡ Some (string_bytes e.0)
at_unknown known e rest h above =
    first_key known e rest false h ∙ ap Some (lesser_first (string_bytes e.0) _ (unknown_above (map (λ k. k.now) known) e.0 rest above))
