-- The bytes before the first zero byte, and lists that a loop fills.
use Rattle.std.proofs.Common.{◌≡◌, ◌≤◌, ◌<◌, ◌+◌, ℕ, Bool, true, false, List, [], ◌∷◌, ◌++◌, length, map, take, get_or, Option, Some, None, refl, ap, sym}
use Rattle.std.proofs.Common.{◌∙◌, cond}
use Rattle.std.specs.Prelude.{nat_lt, position, filter, if◌then◌else◌}
use Rattle.std.specs.List.{position_or_len, before_first}
use Rattle.std.proofs.lemmas.Bool.{ltb-false}
use Rattle.std.proofs.lemmas.List.{take_all, map-append}
use Rattle.std.proofs.lemmas.List.Elements.{filter_more}

past : (n m : ℕ) (b : Bool) → nat_lt n m ≡ b → ◌≡◌ {A = Option ℕ} (if b then Some n else None) None → m ≤ n
past n m true e none = absurd (cc)
past n m false e none = ltb-false n m e

at : (n i : ℕ) (b : Bool) → ◌≡◌ {A = Option ℕ} (if b then Some n else None) (Some i) → i ≡ n
at n i true e = cc
at n i false e = absurd (cc)

pub before_first-none : {X : Type 0} (p : X → Bool) (xs : List X) → position p xs ≡ None → before_first p xs ≡ xs
before_first-none p xs e = take_all (position_or_len p xs) xs (past (position_or_len p xs) (length xs) (nat_lt (position_or_len p xs) (length xs)) refl e)

pub before_first-some : {X : Type 0} (p : X → Bool) (xs : List X) (i : ℕ) → position p xs ≡ Some i → before_first p xs ≡ take i xs
before_first-some p xs i e = ap (λ n. take n xs) (sym (at (position_or_len p xs) i (nat_lt (position_or_len p xs) (length xs)) e))

one_kept : {X Y : Type 0} (b : Bool) (f : X → Y) (front : List X) (x : X) → map f (front ++ cond b (x ∷ []) []) ≡ map f front ++ cond b (f x ∷ []) []
one_kept true f front x = map-append f front (x ∷ [])
one_kept false f front x = map-append f front []

-- one element more of those that pass a test
pub map-filter_more : {X Y : Type 0} (p : X → Bool) (f : X → Y) (xs : List X) (i : ℕ) (x : X) → i < length xs → x ≡ get_or xs i x
    → map f (filter p (take (i + 1) xs)) ≡ map f (filter p (take i xs)) ++ cond (p x) (f x ∷ []) []
map-filter_more p f xs i x within is =
    ap (map f) (filter_more p xs i x within) ∙ one_kept (p (get_or xs i x)) f (filter p (take i xs)) (get_or xs i x)
    ∙ ap (λ y. map f (filter p (take i xs)) ++ cond (p y) (f y ∷ []) []) (sym is)
