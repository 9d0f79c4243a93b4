-- Sums, counts and extremes of samples, and of one sample more.
use Rattle.std.proofs.Common.{◌≡◌, ◌+◌, ◌≤◌, Bool, true, false, cond, List, [], ◌∷◌, ◌++◌, length, filter, refl, ap, sym, ◌∙◌, arith, length-append, ℤ, pos}
use Rattle.std.proofs.Common.{negsuc, ◌+ℤ◌}
use Rattle.std.specs.Prelude.{int_lt, unsigned_abs, if◌then◌else◌}
use Rattle.std.proofs.Math.IntN.{+ℤ_assoc, +ℤ_idl, +ℤ_idr}
use Rattle.std.proofs.lemmas.Int.{ints}
use Rattle.std.proofs.lemmas.List.Elements.{filter-append}
use Rattle.nd_stats.specs.Samples.{Sample, sum_of, least_from, greatest_from}

pub sum_of-append : (f : Sample → ℤ) (xs ys : List Sample) → sum_of f (xs ++ ys) ≡ sum_of f xs +ℤ sum_of f ys
sum_of-append f [] ys = sym (+ℤ_idl (sum_of f ys))
sum_of-append f (s ∷ xs) ys = ap (λ n. f s +ℤ n) (sum_of-append f xs ys) ∙ sym (+ℤ_assoc (f s) (sum_of f xs) (sum_of f ys))

sum_of-last : (f : Sample → ℤ) (s : Sample) (b : Bool) → sum_of f (cond b (s ∷ []) []) ≡ (if b then f s else pos 0)
sum_of-last f s true = +ℤ_idr (f s)
sum_of-last f s false = refl

pub sum_where-append : (p : Sample → Bool) (f : Sample → ℤ) (xs ys : List Sample)
    → sum_of f (filter p (xs ++ ys)) ≡ sum_of f (filter p xs) +ℤ sum_of f (filter p ys)
sum_where-append p f xs ys = ap (sum_of f) (filter-append p xs ys) ∙ sum_of-append f (filter p xs) (filter p ys)

-- one sample more
pub sum_where-more : (p : Sample → Bool) (f : Sample → ℤ) (xs : List Sample) (s : Sample)
    → sum_of f (filter p (xs ++ s ∷ [])) ≡ sum_of f (filter p xs) +ℤ (if p s then f s else pos 0)
sum_where-more p f xs s =
    sum_where-append p f xs (s ∷ []) ∙ ap (λ n. sum_of f (filter p xs) +ℤ n) (sum_of-last f s (p s))

pub sum_of-more : (f : Sample → ℤ) (xs : List Sample) (s : Sample) → sum_of f (xs ++ s ∷ []) ≡ sum_of f xs +ℤ f s
sum_of-more f xs s = sum_of-append f xs (s ∷ []) ∙ ap (λ n. sum_of f xs +ℤ n) (+ℤ_idr (f s))

length-last : (s : Sample) (b : Bool) → length (cond b (s ∷ []) []) ≡ (if b then 1 else 0)
length-last s true = refl
length-last s false = refl

pub count-append : (p : Sample → Bool) (xs ys : List Sample) → length (filter p (xs ++ ys)) ≡ length (filter p xs) + length (filter p ys)
count-append p xs ys = ap length (filter-append p xs ys) ∙ length-append (filter p xs) (filter p ys)

pub count-more : (p : Sample → Bool) (xs : List Sample) (s : Sample) → length (filter p (xs ++ s ∷ [])) ≡ length (filter p xs) + (if p s then 1 else 0)
count-more p xs s =
    count-append p xs (s ∷ []) ∙ ap (λ n. length (filter p xs) + n) (length-last s (p s))

-- the first sample by itself
pub count-first : (p : Sample → Bool) (s : Sample) (xs : List Sample) → length (filter p (s ∷ xs)) ≡ (if p s then 1 else 0) + length (filter p xs)
count-first p s xs = count-append p (s ∷ []) xs ∙ ap (λ n. n + length (filter p xs)) (length-last s (p s))

pub sum_where-first : (p : Sample → Bool) (f : Sample → ℤ) (s : Sample) (xs : List Sample)
    → sum_of f (filter p (s ∷ xs)) ≡ (if p s then f s else pos 0) +ℤ sum_of f (filter p xs)
sum_where-first p f s xs = sum_where-append p f (s ∷ []) xs ∙ ap (λ n. n +ℤ sum_of f (filter p xs)) (sum_of-last f s (p s))

pub count-le : (p : Sample → Bool) (xs : List Sample) → length (filter p xs) ≤ length xs
count-le p [] = omega arith
count-le p (s ∷ xs) = let rest = count-le p xs in grind arith

-- the earlier of the two where they are equal
lesser : Sample → Sample → Sample
lesser s t = if int_lt t.value s.value then t else s

greater : Sample → Sample → Sample
greater s t = if int_lt s.value t.value then t else s

lesser_assoc : (s t u : Sample) → lesser s (lesser t u) ≡ lesser (lesser s t) u
unfolding lesser
lesser_assoc s t u = grind (arith, ints)

greater_assoc : (s t u : Sample) → greater s (greater t u) ≡ greater (greater s t) u
unfolding greater
greater_assoc s t u = grind (arith, ints)

least_lesser : (s : Sample) (xs : List Sample) (u : Sample) (ys : List Sample) → least_from s (xs ++ u ∷ ys) ≡ lesser (least_from s xs) (least_from u ys)
unfolding lesser
least_lesser s [] u ys = refl
least_lesser s (t ∷ xs) u ys = ap (λ m. lesser s m) (least_lesser t xs u ys) ∙ lesser_assoc s (least_from t xs) (least_from u ys)

greatest_greater : (s : Sample) (xs : List Sample) (u : Sample) (ys : List Sample)
    → greatest_from s (xs ++ u ∷ ys) ≡ greater (greatest_from s xs) (greatest_from u ys)
unfolding greater
greatest_greater s [] u ys = refl
greatest_greater s (t ∷ xs) u ys = ap (λ m. greater s m) (greatest_greater t xs u ys) ∙ greater_assoc s (greatest_from t xs) (greatest_from u ys)

-- the extremes of two lists
pub least-append : (s : Sample) (xs : List Sample) (u : Sample) (ys : List Sample)
    → least_from s (xs ++ u ∷ ys) ≡ (let one = least_from s xs in let two = least_from u ys in (if int_lt two.value one.value then two else one))
unfolding lesser
least-append s xs u ys = least_lesser s xs u ys

pub greatest-append : (s : Sample) (xs : List Sample) (u : Sample) (ys : List Sample)
    → greatest_from s (xs ++ u ∷ ys) ≡ (let one = greatest_from s xs in let two = greatest_from u ys in (if int_lt one.value two.value then two else one))
unfolding greater
greatest-append s xs u ys = greatest_greater s xs u ys

value_if : (b : Bool) (s t : Sample) → (if b then s.value else t.value) ≡ (if b then s else t).value
value_if true s t = refl
value_if false s t = refl

place_if : (b : Bool) (s t : Sample) → (if b then s.place else t.place) ≡ (if b then s else t).place
place_if true s t = refl
place_if false s t = refl

-- the least of two lists by value and place
pub least-both : (s : Sample) (xs : List Sample) (u : Sample) (ys : List Sample) →
    (let one = least_from s xs in let two = least_from u ys in let both = least_from s (xs ++ u ∷ ys) in
    ((if int_lt two.value one.value then two.value else one.value) ≡ both.value) × ((if int_lt two.value one.value then two.place else one.place) ≡ both.place))
least-both s xs u ys =
    let one = least_from s xs in
    let two = least_from u ys in
    let e = sym (least-append s xs u ys) in
    (value_if (int_lt two.value one.value) two one ∙ ap (λ t. t.value) e, place_if (int_lt two.value one.value) two one ∙ ap (λ t. t.place) e)

pub greatest-both : (s : Sample) (xs : List Sample) (u : Sample) (ys : List Sample) →
    (let one = greatest_from s xs in let two = greatest_from u ys in let both = greatest_from s (xs ++ u ∷ ys) in
    ((if int_lt one.value two.value then two.value else one.value) ≡ both.value) × ((if int_lt one.value two.value then two.place else one.place) ≡ both.place))
greatest-both s xs u ys =
    let one = greatest_from s xs in
    let two = greatest_from u ys in
    let e = sym (greatest-append s xs u ys) in
    (value_if (int_lt one.value two.value) two one ∙ ap (λ t. t.value) e, place_if (int_lt one.value two.value) two one ∙ ap (λ t. t.place) e)

pub abs-add : (a b : ℤ) → unsigned_abs (a +ℤ b) ≤ unsigned_abs a + unsigned_abs b
abs-add (pos a) (pos b) = omega (arith, ints)
abs-add (pos a) (negsuc b) = omega (arith, ints)
abs-add (negsuc a) (pos b) = omega (arith, ints)
abs-add (negsuc a) (negsuc b) = omega (arith, ints)
