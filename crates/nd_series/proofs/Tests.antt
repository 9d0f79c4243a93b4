-- Whether words are regions.
use Rattle.std.proofs.Common.{◌≡◌, ℕ, ◌<◌, ◌≤◌, ◌&&◌, nat_le, true, false, Bool, List, [], ◌∷◌, length, None, Some, refl, ap, sym, ◌∙◌, arith}
use Rattle.std.specs.Prelude.{Option, if◌then◌else◌}
use Rattle.std.specs.List.{list_all, flat_map}
use Rattle.std.specs.Option.{is_some, option_to_list}
use Rattle.std.proofs.lemmas.Bool.{le-leb, lt-leb}
use Rattle.nd_series.specs.declared.region.Box4.{Box4}
use Rattle.nd_series.specs.Words.{side_in, box_with, box_of, region_in, regions_of}

-- each of four numbers is spelled
with_all : (x y w h : Option ℕ) → (is_some x && (is_some y && (is_some w && (is_some h && true)))) ≡ is_some (box_with x y w h)
with_all None y w h = refl
with_all (Some a) None w h = refl
with_all (Some a) (Some b) None h = refl
with_all (Some a) (Some b) (Some c) None = refl
with_all (Some a) (Some b) (Some c) (Some d) = refl

pub four_words : (words : List (List ℕ)) → length words ≡ 4 → list_all (λ w. is_some (side_in w)) words ≡ is_some (box_of words)
four_words (x ∷ y ∷ w ∷ h ∷ []) four = with_all (side_in x) (side_in y) (side_in w) (side_in h)
four_words [] four = absurd (omega (arith, four))
four_words (x ∷ []) four = absurd (omega (arith, four))
four_words (x ∷ y ∷ []) four = absurd (omega (arith, four))
four_words (x ∷ y ∷ w ∷ []) four = absurd (omega (arith, four))
four_words (x ∷ y ∷ w ∷ h ∷ v ∷ words) four = absurd (omega (arith, four))

pub other_words : (words : List (List ℕ)) → (length words ≡ 4 → ⊥) → is_some (box_of words) ≡ false
other_words (x ∷ y ∷ w ∷ h ∷ []) other = absurd (other refl)
other_words [] other = refl
other_words (x ∷ []) other = refl
other_words (x ∷ y ∷ []) other = refl
other_words (x ∷ y ∷ w ∷ []) other = refl
other_words (x ∷ y ∷ w ∷ h ∷ v ∷ words) other = refl

-- up to 32 groups, each a region
tested : (few all : Bool) (boxes : List Box4) → (few && all) ≡ is_some (if few && all then Some boxes else None)
tested true true boxes = refl
tested true false boxes = refl
tested false all boxes = refl

pub few_groups : (groups : List (List ℕ)) → length groups ≤ 32 → list_all (λ g. is_some (region_in g)) groups ≡ is_some (regions_of groups)
few_groups groups few =
    let low : nat_le (length groups) 32 ≡ true = le-leb (length groups) 32 few in
    ap (λ b. b && list_all (λ g. is_some (region_in g)) groups) (sym low)
    ∙ tested (nat_le (length groups) 32) (list_all (λ g. is_some (region_in g)) groups) (flat_map (λ g. option_to_list (region_in g)) groups)

pub many_groups : (groups : List (List ℕ)) → 32 < length groups → is_some (regions_of groups) ≡ false
many_groups groups many =
    let high : nat_le (length groups) 32 ≡ false = lt-leb (length groups) 32 many in
    sym (tested (nat_le (length groups) 32) (list_all (λ g. is_some (region_in g)) groups) (flat_map (λ g. option_to_list (region_in g)) groups))
    ∙ ap (λ b. b && list_all (λ g. is_some (region_in g)) groups) high
