-- Lists by their places.
use Rattle.std.proofs.Common.{◌≡◌, ℕ, zero, suc, ◌+◌, ◌<◌, List, [], ◌∷◌, ◌++◌, map, length, take, drop, refl, sym, ap, ◌∙◌, subst, arith, Some}
use Rattle.std.specs.Prelude.{slice_get, All, slice_index_or}
use Rattle.std.proofs.lemmas.List.Elements.{All-get_or}
use Rattle.std.proofs.lemmas.Option.{get_or_from_slice_get, slice_get-get_or, slice_get_within}

pub at-front : {X : Type 0} (xs ys : List X) (k : ℕ) (x : X) → slice_get xs k ≡ Some x → slice_get (xs ++ ys) k ≡ Some x
at-front [] ys k x h = cc
at-front (a ∷ xs) ys zero x h = h
at-front (a ∷ xs) ys (suc k) x h = at-front xs ys k x h

pub at-end : {X : Type 0} (xs : List X) (y : X) → slice_get (xs ++ y ∷ []) (length xs) ≡ Some y
at-end [] y = refl
at-end (a ∷ xs) y = at-end xs y

pub at-map : {X Y : Type 0} (f : X → Y) (xs : List X) (k : ℕ) (y : Y) → slice_get (map f xs) k ≡ Some y → (x : X) × (slice_get xs k ≡ Some x) × (f x ≡ y)
at-map f [] k y h = cc
at-map f (x ∷ xs) zero y h = let is : f x ≡ y = cc in (x, refl, is)
at-map f (x ∷ xs) (suc k) y h = at-map f xs k y h

pub map-at : {X Y : Type 0} (f : X → Y) (xs : List X) (k : ℕ) (x : X) → slice_get xs k ≡ Some x → slice_get (map f xs) k ≡ Some (f x)
map-at f [] k x h = cc
map-at f (a ∷ xs) zero x h = let is : a ≡ x = cc in ap (λ z. Some (f z)) is
map-at f (a ∷ xs) (suc k) x h = map-at f xs k x h

pub listed : {X : Type 0} (xs : List X) (k : ℕ) → k < length xs → (x : X) × (slice_get xs k ≡ Some x)
listed [] k h = absurd (omega (arith, h))
listed (x ∷ xs) zero h = (x, refl)
listed (x ∷ xs) (suc k) h = listed xs k (omega (arith, h))

-- what holds of all holds of the one at a place
pub all-at : {X : Type 0} (Q : X → Type 0) (xs : List X) (k : ℕ) (x : X) → All Q xs → slice_get xs k ≡ Some x → Q x
all-at Q xs k x all at = subst Q (get_or_from_slice_get xs k x x at) (All-get_or Q xs k x (slice_get_within xs k x at) all)

pub all-from : {X : Type 0} (Q : X → Type 0) (xs : List X) → ((k : ℕ) (x : X) → slice_get xs k ≡ Some x → Q x) → All Q xs
all-from Q xs each k d low = each k (slice_index_or xs k d) (slice_get-get_or xs k d low)

-- the first of a list, and the others
pub parted : {P : Type 0} (xs ys : List P) (x : P) → 0 < length xs → x ≡ slice_index_or xs 0 x → ys ≡ take 0 xs ++ drop (0 + 1) xs → xs ≡ x ∷ ys
parted [] ys x some is rest = absurd (omega (arith, some))
parted {P} (y ∷ xs) ys x some is rest = ap (λ (z : P). z ∷ xs) (sym is) ∙ ap (λ (zs : List P). x ∷ zs) (sym rest)
