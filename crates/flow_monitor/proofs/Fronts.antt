-- Fronts of one list, by their lengths.
use Rattle.std.proofs.Common.{◌≡◌, ◌≤◌, Bool, true, false, nat_lt, MatchBool, List, ◌++◌, length, take, drop, refl, sym, ap, ◌∙◌, arith, append_assoc}
use Rattle.std.proofs.lemmas.List.{take_all, take-append-le, take-append-drop}
use Rattle.std.proofs.lemmas.Bool.Decides.{nat_tests}
use Rattle.std.proofs.Math.Seq.{take-append_seam}
use mathlib.Core.List.{IsPrefix}

module _ {A : Type 0} where
  -- a front is as much of the whole as it is long
  taken : (xs zs : List A) → IsPrefix xs zs → take (length xs) zs ≡ xs
  taken xs zs p = ap (take (length xs)) (sym p.1) ∙ take-append_seam xs p.0

  pub front_more : (xs ys zs : List A) → IsPrefix xs ys → IsPrefix xs (ys ++ zs)
  front_more xs ys zs p = (p.0 ++ zs, sym (append_assoc xs p.0 zs) ∙ ap (λ l. l ++ zs) p.1)

  -- of two fronts of one list, the one that is no longer is a front of the other
  front_of_longer : (xs ys zs : List A) → IsPrefix xs zs → IsPrefix ys zs → length xs ≤ length ys → IsPrefix xs ys
  front_of_longer xs ys zs p q le =
      let n = length xs in
      let same : xs ≡ take n ys = sym (taken xs zs p) ∙ (ap (take n) (sym q.1) ∙ take-append-le n ys q.0 le) in
      (drop n ys, ap (λ l. l ++ drop n ys) same ∙ take-append-drop n ys)

  -- a front that is no shorter than the whole
  pub front_as_long : (xs ys : List A) → IsPrefix xs ys → length ys ≤ length xs → xs ≡ ys
  front_as_long xs ys p le = sym (taken xs ys p) ∙ take_all (length xs) ys le

  by_test : (xs ys zs : List A) → IsPrefix xs zs → IsPrefix ys zs → (b : Bool) → nat_lt (length xs) (length ys) ≡ b
      → MatchBool b (IsPrefix xs ys) (IsPrefix ys xs)
  by_test xs ys zs p q true is = front_of_longer xs ys zs p q (grind (arith, nat_tests))
  by_test xs ys zs p q false is = front_of_longer ys xs zs q p (grind (arith, nat_tests))

  -- of two fronts of one list, the shorter is a front of the other
  pub fronts_by_length : (xs ys zs : List A) → IsPrefix xs zs → IsPrefix ys zs
      → MatchBool (nat_lt (length xs) (length ys)) (IsPrefix xs ys) (IsPrefix ys xs)
  fronts_by_length xs ys zs p q = by_test xs ys zs p q (nat_lt (length xs) (length ys)) refl
