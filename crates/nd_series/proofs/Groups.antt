-- The groups of a word.
use Rattle.std.proofs.Common.{◌≡◌, ℕ, ◌<◌, ◌≤◌, ◌==◌, nat_le, true, false, List, length, map, get_or, None, Some, refl, ap, sym, ◌∙◌, arith, subst}
use Rattle.std.specs.List.{list_all, flat_map, slice_split}
use Rattle.std.specs.Option.{is_some, option_to_list}
use Rattle.std.proofs.Math.Bool.{and-false}
use Rattle.std.proofs.lemmas.Bool.{le-leb, lt-leb}
use Rattle.std.proofs.lemmas.List.{length-map}
use Rattle.std.proofs.lemmas.List.Folds.{list_all-map, list_all_at, flat_map-map}
use Rattle.nd_series.specs.Words.{region_in, regions_of, regions_in}

module _ {X : Type 0} (v : X → List ℕ) (items : List X) (text : List ℕ) (same : map v items ≡ slice_split (λ c. c == 59) text) where
  pub too_many : 32 < length items → None ≡ regions_in text
  too_many h =
      let many : nat_le (length (map v items)) 32 ≡ false = lt-leb (length (map v items)) 32 (let l = length-map items v in omega (arith, l, h)) in
      subst (λ gs. None ≡ regions_of gs) same (rw many refl)

  pub one_bad : (i : ℕ) (d : X) → i < length items → region_in (v (get_or items i d)) ≡ None → None ≡ regions_in text
  one_bad i d h e =
      let bad : list_all (λ g. is_some (region_in g)) (map v items) ≡ false =
      list_all-map (λ g. is_some (region_in g)) v items ∙ list_all_at (λ x. is_some (region_in (v x))) items i d h (ap is_some e) in
      subst (λ gs. None ≡ regions_of gs) same (rw (bad, and-false) refl)

  pub all_good : length items ≤ 32 → list_all (λ x. is_some (region_in (v x))) items ≡ true
      → Some (flat_map (λ x. option_to_list (region_in (v x))) items) ≡ regions_in text
  all_good h e =
      let few : nat_le (length (map v items)) 32 ≡ true = le-leb (length (map v items)) 32 (let l = length-map items v in omega (arith, l, h)) in
      let good : list_all (λ g. is_some (region_in g)) (map v items) ≡ true = list_all-map (λ g. is_some (region_in g)) v items ∙ e in
      ap Some (sym (flat_map-map (λ g. option_to_list (region_in g)) v items))
      ∙ subst (λ gs. Some (flat_map (λ g. option_to_list (region_in g)) (map v items)) ≡ regions_of gs) same (rw (few, good) refl)
