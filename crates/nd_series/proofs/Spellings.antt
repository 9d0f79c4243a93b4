-- What words ask for is what they spell.
use Rattle.std.proofs.Common.{◌≡◌, ℕ, ◌≤◌, ◌==◌, ◌&&◌, nat_le, Bool, true, false, List, [], ◌∷◌, ◌++◌, length, None, Some, refl, ap, sym, subst, ◌∙◌, arith}
use Rattle.std.specs.Prelude.{Option, All, if◌then◌else◌}
use Rattle.std.specs.Char.{is_ascii_digit}
use Rattle.std.specs.List.{list_all, flat_map, slice_split, join_with_byte, AllZip}
use Rattle.std.specs.Option.{is_some, option_to_list}
use Rattle.std.specs.Str.Parse.{digits_value}
use Rattle.std.proofs.lemmas.Bool.{leb-true, le-leb, eqb-true, eq-eqb, and_parts}
use Rattle.std.proofs.lemmas.List.Elements.{All-nil, All-cons, All-append}
use Rattle.std.proofs.lemmas.List.Splits.{slice_split_none, slice_split_at, length-slice_split, join_with_byte-slice_split}
use Rattle.nd_series.specs.declared.region.Box4.{Box4}
use Rattle.decimal_words.specs.Numbers.{number_of}
use Rattle.nd_series.specs.Words.{side_in, box_with, box_of, region_in, regions_of, regions_in}
use Rattle.nd_series.specs.Spelled.{IsNumber, IsRegion, AreRegions}

some_is : {X : Type 0} (a b : X) → Some a ≡ Some b → a ≡ b
some_is a b e = cc

asked : {X : Type 0} (b : Bool) (v n : X) → (if b then Some v else None) ≡ Some n → (b ≡ true) × (v ≡ n)
asked true v n e = (refl, some_is v n e)
asked false v n e = absurd (cc)

-- numbers

module _ (digits least most : ℕ) (text : List ℕ) (n : ℕ) where
  pub number-spelled : number_of digits least most text ≡ Some n → IsNumber digits least most text n
  number-spelled e =
      let v = digits_value 10 text in
      let counted = nat_le 1 (length text) && nat_le (length text) digits in
      let decimal = counted && list_all is_ascii_digit text in
      let is = asked (decimal && nat_le least v && nat_le v most) v n e in
      let one = and_parts (decimal && nat_le least v) (nat_le v most) is.0 in
      let two = and_parts decimal (nat_le least v) one.0 in
      let three = and_parts counted (list_all is_ascii_digit text) two.0 in
      let four = and_parts (nat_le 1 (length text)) (nat_le (length text) digits) three.0 in
      let same = is.1 in
      let from = leb-true least v two.1 in
      let upto = leb-true v most one.1 in
      record {
        count = (leb-true 1 (length text) four.0, leb-true (length text) digits four.1);
        decimal = three.1;
        value = same;
        range = (subst (λ m. least ≤ m) same from, subst (λ m. m ≤ most) same upto);
      }

  pub spelled-number : IsNumber digits least most text n → number_of digits least most text ≡ Some n
  spelled-number is =
      let v = digits_value 10 text in
      let some = le-leb 1 (length text) is.count.0 in
      let few = le-leb (length text) digits is.count.1 in
      let from = le-leb least v (subst (λ m. least ≤ m) (sym is.value) is.range.0) in
      let upto = le-leb v most (subst (λ m. m ≤ most) (sym is.value) is.range.1) in
      let decimal = is.decimal in
      rw (some, few, decimal, from, upto) (ap Some is.value)

-- texts without a byte, joined by it

other_byte : (sep c : ℕ) → is_ascii_digit sep ≡ false → is_ascii_digit c ≡ true → (c == sep) ≡ false
other_byte sep c none digit = here (c == sep) refl
  where
    here : (b : Bool) → (c == sep) ≡ b → b ≡ false
    here false e = refl
    here true e = let same = eqb-true c sep e in let clash : true ≡ false = sym digit ∙ ap is_ascii_digit same ∙ none in absurd (cc)

digits-lack : (sep : ℕ) (text : List ℕ) → is_ascii_digit sep ≡ false → list_all is_ascii_digit text ≡ true → All (λ c. (c == sep) ≡ false) text
digits-lack sep [] none all = All-nil (λ c. (c == sep) ≡ false)
digits-lack sep (c ∷ text) none all =
    let parts = and_parts (is_ascii_digit c) (list_all is_ascii_digit text) all in
    All-cons (λ c. (c == sep) ≡ false) c text (other_byte sep c none parts.0) (digits-lack sep text none parts.1)

module _ {B : Type 0} (R : List ℕ → B → Type 0) (sep : ℕ) where
  joined-lack : (other : ℕ) → (sep == other) ≡ false → ((text : List ℕ) (b : B) → R text b → All (λ c. (c == other) ≡ false) text)
      → (texts : List (List ℕ)) (bs : List B) → AllZip R texts bs → All (λ c. (c == other) ≡ false) (join_with_byte sep texts)
  joined-lack other ne each [] bs are = All-nil (λ c. (c == other) ≡ false)
  joined-lack other ne each (text ∷ texts) [] are = absurd are
  joined-lack other ne each (text ∷ []) (b ∷ bs) are = each text b are.0
  joined-lack other ne each (text ∷ next ∷ texts) (b ∷ bs) are =
      All-append (λ c. (c == other) ≡ false) text (sep ∷ join_with_byte sep (next ∷ texts)) (each text b are.0)
      (All-cons (λ c. (c == other) ≡ false) sep (join_with_byte sep (next ∷ texts)) ne (joined-lack other ne each (next ∷ texts) bs are.1))

  split_joined : ((text : List ℕ) (b : B) → R text b → All (λ c. (c == sep) ≡ false) text)
      → (texts : List (List ℕ)) (bs : List B) → 1 ≤ length bs → AllZip R texts bs → slice_split (λ c. c == sep) (join_with_byte sep texts) ≡ texts
  split_joined each [] [] some are = absurd (omega arith)
  split_joined each [] (b ∷ bs) some are = absurd are
  split_joined each (text ∷ texts) [] some are = absurd are
  split_joined each (text ∷ []) (b ∷ bs) some are = slice_split_none (λ c. c == sep) text (each text b are.0)
  split_joined each (text ∷ next ∷ texts) (b ∷ []) some are = absurd are.1
  split_joined each (text ∷ next ∷ texts) (b ∷ c ∷ bs) some are =
      slice_split_at (λ c. c == sep) text sep (join_with_byte sep (next ∷ texts)) (each text b are.0) (eq-eqb sep sep refl)
      ∙ ap (λ parts. text ∷ parts) (split_joined each (next ∷ texts) (c ∷ bs) (omega arith) are.1)

  length-zip : (texts : List (List ℕ)) (bs : List B) → AllZip R texts bs → length texts ≡ length bs
  length-zip [] [] are = refl
  length-zip [] (b ∷ bs) are = absurd are
  length-zip (text ∷ texts) [] are = absurd are
  length-zip (text ∷ texts) (b ∷ bs) are = let rest = length-zip texts bs are.1 in omega (arith, rest)

-- regions

abbrev IsSide : List ℕ → ℕ → Type 0
IsSide = IsNumber 8 0 67108864

side-lacks : (sep : ℕ) → is_ascii_digit sep ≡ false → (text : List ℕ) (n : ℕ) → IsSide text n → All (λ c. (c == sep) ≡ false) text
side-lacks sep none text n is = digits-lack sep text none is.decimal

sides : (x y w h : List ℕ) (b : Box4) (p q r s : Option ℕ) → side_in x ≡ p → side_in y ≡ q → side_in w ≡ r → side_in h ≡ s
    → box_with p q r s ≡ Some b → AllZip IsSide (x ∷ y ∷ w ∷ h ∷ []) (b.x ∷ b.y ∷ b.w ∷ b.h ∷ [])
sides x y w h b None q r s i j k l e = absurd (cc)
sides x y w h b (Some p) None r s i j k l e = absurd (cc)
sides x y w h b (Some p) (Some q) None s i j k l e = absurd (cc)
sides x y w h b (Some p) (Some q) (Some r) None i j k l e = absurd (cc)
sides x y w h b (Some p) (Some q) (Some r) (Some s) i j k l e =
    let made : Box4 = record { x = p; y = q; w = r; h = s } in
    subst (λ (c : Box4). AllZip IsSide (x ∷ y ∷ w ∷ h ∷ []) (c.x ∷ c.y ∷ c.w ∷ c.h ∷ [])) (some_is made b e) (
      number-spelled 8 0 67108864 x p i,
      (
        number-spelled 8 0 67108864 y q j,
        (number-spelled 8 0 67108864 w r k, (number-spelled 8 0 67108864 h s l, tt)),
      ),
    )

box-spelled : (words : List (List ℕ)) (b : Box4) → box_of words ≡ Some b → AllZip IsSide words (b.x ∷ b.y ∷ b.w ∷ b.h ∷ [])
box-spelled [] b e = absurd (cc)
box-spelled (x ∷ []) b e = absurd (cc)
box-spelled (x ∷ y ∷ []) b e = absurd (cc)
box-spelled (x ∷ y ∷ w ∷ []) b e = absurd (cc)
box-spelled (x ∷ y ∷ w ∷ h ∷ []) b e = sides x y w h b (side_in x) (side_in y) (side_in w) (side_in h) refl refl refl refl e
box-spelled (x ∷ y ∷ w ∷ h ∷ v ∷ words) b e = absurd (cc)

spelled-box : (words : List (List ℕ)) (b : Box4) → AllZip IsSide words (b.x ∷ b.y ∷ b.w ∷ b.h ∷ []) → box_of words ≡ Some b
spelled-box [] b are = absurd are
spelled-box (x ∷ []) b are = absurd are.1
spelled-box (x ∷ y ∷ []) b are = absurd are.1.1
spelled-box (x ∷ y ∷ w ∷ []) b are = absurd are.1.1.1
spelled-box (x ∷ y ∷ w ∷ h ∷ []) b are =
    let i = spelled-number 8 0 67108864 x b.x are.0 in
    let j = spelled-number 8 0 67108864 y b.y are.1.0 in
    let k = spelled-number 8 0 67108864 w b.w are.1.1.0 in
    let l = spelled-number 8 0 67108864 h b.h are.1.1.1.0 in
    rw (i, j, k, l) refl
spelled-box (x ∷ y ∷ w ∷ h ∷ v ∷ words) b are = absurd are.1.1.1.1

region-spelled : (text : List ℕ) (b : Box4) → region_in text ≡ Some b → IsRegion text b
region-spelled text b e = record {
  words = slice_split (λ c. c == 44) text;
  joined = sym (join_with_byte-slice_split 44 text);
  sides = box-spelled (slice_split (λ c. c == 44) text) b e;
}

spelled-region : (text : List ℕ) (b : Box4) → IsRegion text b → region_in text ≡ Some b
spelled-region text b is =
    ap (λ t. box_of (slice_split (λ c. c == 44) t)) is.joined
    ∙ ap box_of (split_joined IsSide 44 (side-lacks 44 refl) is.words (b.x ∷ b.y ∷ b.w ∷ b.h ∷ []) (omega arith) is.sides)
    ∙ spelled-box is.words b is.sides

region-lacks : (text : List ℕ) (b : Box4) → IsRegion text b → All (λ c. (c == 59) ≡ false) text
region-lacks text b is =
    subst (λ t. All (λ c. (c == 59) ≡ false) t) (sym is.joined)
    (joined-lack IsSide 44 59 refl (side-lacks 59 refl) is.words (b.x ∷ b.y ∷ b.w ∷ b.h ∷ []) is.sides)

-- several of them

abbrev are_regions : List (List ℕ) → Bool
are_regions groups = list_all (λ g. is_some (region_in g)) groups

abbrev boxes_of : List (List ℕ) → List Box4
boxes_of groups = flat_map (λ g. option_to_list (region_in g)) groups

one_zipped : (group : List ℕ) (groups : List (List ℕ)) (boxes : List Box4) (found : Option Box4) → region_in group ≡ found → is_some found ≡ true
    → AllZip IsRegion groups boxes → AllZip IsRegion (group ∷ groups) (option_to_list found ++ boxes)
one_zipped group groups boxes None e some are = absurd (cc)
one_zipped group groups boxes (Some b) e some are = (region-spelled group b e, are)

zipped : (groups : List (List ℕ)) → are_regions groups ≡ true → AllZip IsRegion groups (boxes_of groups)
zipped [] all = tt
zipped (group ∷ groups) all =
    let parts = and_parts (is_some (region_in group)) (are_regions groups) all in
    one_zipped group groups (boxes_of groups) (region_in group) refl parts.0 (zipped groups parts.1)

all_are : (groups : List (List ℕ)) (boxes : List Box4) → AllZip IsRegion groups boxes → (are_regions groups ≡ true) × (boxes_of groups ≡ boxes)
all_are [] [] are = (refl, refl)
all_are [] (b ∷ boxes) are = absurd are
all_are (group ∷ groups) [] are = absurd are
all_are (group ∷ groups) (b ∷ boxes) are =
    let here = spelled-region group b are.0 in
    let rest = all_are groups boxes are.1 in
    (ap (λ o. is_some o && are_regions groups) here ∙ rest.0, ap (λ o. option_to_list o ++ boxes_of groups) here ∙ ap (λ bs. b ∷ bs) rest.1)

pub regions-spelled : (text : List ℕ) (boxes : List Box4) → regions_in text ≡ Some boxes → AreRegions text boxes
regions-spelled text boxes e =
    let groups = slice_split (λ c. c == 59) text in
    let is = asked (nat_le (length groups) 32 && are_regions groups) (boxes_of groups) boxes e in
    let parts = and_parts (nat_le (length groups) 32) (are_regions groups) is.0 in
    let are = subst (λ (bs : List Box4). AllZip IsRegion groups bs) is.1 (zipped groups parts.1) in
    let few = leb-true (length groups) 32 parts.0 in
    let same = length-zip IsRegion 59 groups boxes are in
    let some = length-slice_split (λ c. c == 59) text in
    record {
      groups = groups;
      joined = sym (join_with_byte-slice_split 59 text);
      regions = are;
      range = (omega (arith, same, some), omega (arith, same, few));
    }

pub spelled-regions : (text : List ℕ) (boxes : List Box4) → AreRegions text boxes → regions_in text ≡ Some boxes
spelled-regions text boxes is =
    let all = all_are is.groups boxes is.regions in
    let same = length-zip IsRegion 59 is.groups boxes is.regions in
    let few : nat_le (length is.groups) 32 ≡ true = le-leb (length is.groups) 32 (let most = is.range.1 in omega (arith, same, most)) in
    let good = all.0 in
    ap (λ t. regions_of (slice_split (λ c. c == 59) t)) is.joined
    ∙ ap regions_of (split_joined IsRegion 59 region-lacks is.groups boxes is.range.0 is.regions)
    ∙ rw (few, good) (ap Some all.1)
