-- Laws of sizes and places.
use Rattle.std.specs.Prelude.{◌≡◌, ℕ, position, sum_by, Option, Some, None, suc, ◌+◌, ◌*◌, ◌<◌, ◌≤◌, max, List, [], ◌∷◌, length, map, filter, Bool, true}
use Rattle.std.specs.Prelude.{false, nat_lt, if◌then◌else◌, refl}
use Rattle.std.proofs.Common.{ap, sym, ◌∙◌, arith, cond, get_or, drop, add-one, zero-add, drop-cons, below_more}
use Rattle.std.proofs.lemmas.List.{get_or_read}
use Rattle.std.proofs.Math.Nat.{one-mul, one-le-mul, mul-le-mul_right}
use Rattle.std.proofs.lemmas.Bool.{ltb-true, ltb-false, lt-ltb, le-ltb}
use Rattle.std.proofs.lemmas.List.Sums.{sum_by-cons, position_or_len_is, fails_before_first}
use Rattle.std.specs.List.{position_or_len}
use Rattle.nd_base.specs.Shapes.{product}
use Rattle.cdf_read.specs.declared.head.HeadDim.{HeadDim}
use Rattle.cdf_read.specs.Places.{dim_length, value_count}

count_more : (b : Bool) (n : ℕ) (ns : List ℕ) → nat_lt 0 n ≡ b
    → product (cond b (n ∷ filter (nat_lt 0) ns) (filter (nat_lt 0) ns)) ≡ max n 1 * product (filter (nat_lt 0) ns)
count_more true n ns e = let some : 0 < n = ltb-true 0 n e in let is : max n 1 ≡ n = omega arith in rw is refl
count_more false n ns e = let none : n ≤ 0 = ltb-false 0 n e in let is : max n 1 ≡ 1 = omega arith in rw (is, one-mul) refl

-- one dimension more; the record dimension counts once
pub value_count-cons : (dims : List HeadDim) (number : ℕ) (numbers : List ℕ)
    → value_count dims (number ∷ numbers) ≡ max (dim_length dims number) 1 * value_count dims numbers
value_count-cons dims number numbers = count_more (nat_lt 0 (dim_length dims number)) (dim_length dims number) (map (dim_length dims) numbers) refl

pub value_count-positive : (dims : List HeadDim) (numbers : List ℕ) → 1 ≤ value_count dims numbers
value_count-positive dims [] = omega arith
value_count-positive dims (number ∷ numbers) =
    rw (value_count-cons dims number numbers) (one-le-mul (omega arith) (value_count-positive dims numbers))

regrouped : (all rest size grown whole : ℕ) → all ≡ grown * rest → all * size ≡ whole → rest * (size * grown) ≡ whole
regrouped all rest size grown whole is e = omega (arith, is, e, ap (λ (n : ℕ). n * size) is)

scaled : (times size whole : ℕ) → 1 ≤ times → times * size ≡ whole → size ≤ whole
scaled times size whole some e = omega (arith, e, mul-le-mul_right size some)

-- the bytes of what is left, after one dimension more
pub size_step : (dims : List HeadDim) (numbers : List ℕ) (i size grown whole : ℕ) → i < length numbers
    → grown ≡ max (dim_length dims (get_or numbers i 0)) 1 → value_count dims (drop i numbers) * size ≡ whole
    → value_count dims (drop (i + 1) numbers) * (size * grown) ≡ whole
size_step dims numbers i size grown whole h is e =
    let front : drop i numbers ≡ get_or numbers i 0 ∷ drop (i + 1) numbers = rw add-one (drop-cons numbers i 0 h) in
    let more = value_count-cons dims (get_or numbers i 0) (drop (i + 1) numbers) in
    let all : value_count dims (drop i numbers) ≡ grown * value_count dims (drop (i + 1) numbers) = ap (value_count dims) front ∙ more
    ∙ ap (λ n. n * value_count dims (drop (i + 1) numbers)) (sym is) in
    regrouped (value_count dims (drop i numbers)) (value_count dims (drop (i + 1) numbers)) size grown whole all e

-- what is left has no fewer bytes than what stands before it
pub size_most : (dims : List HeadDim) (numbers : List ℕ) (size whole : ℕ) → value_count dims numbers * size ≡ whole → size ≤ whole
size_most dims numbers size whole e = scaled (value_count dims numbers) size whole (value_count-positive dims numbers) e

kept_sum : {X : Type 0} (b : Bool) (f : X → ℕ) (x : X) (xs : List X) → sum_by f (cond b (x ∷ xs) xs) ≡ (if b then f x else 0) + sum_by f xs
kept_sum true f x xs = sum_by-cons f x xs
kept_sum false f x xs = sym (zero-add (sum_by f xs))

-- one element more of a sum over those that pass a test
pub sum_by-filter-drop : {X : Type 0} (p : X → Bool) (f : X → ℕ) (xs : List X) (i : ℕ) (x : X) → i < length xs → x ≡ get_or xs i x
    → sum_by f (filter p (drop i xs)) ≡ (if p x then f x else 0) + sum_by f (filter p (drop (i + 1) xs))
sum_by-filter-drop p f xs i x h is =
    let front : drop i xs ≡ x ∷ drop (i + 1) xs = rw add-one (drop-cons xs i x h ∙ ap (λ y. y ∷ drop (suc i) xs) (sym is)) in
    ap (λ ys. sum_by f (filter p ys)) front ∙ kept_sum (p x) f x (filter p (drop (i + 1) xs))

-- the first element that passes a test
pub position-first : {X : Type 0} (p : X → Bool) (xs : List X) (i : ℕ) (x : X) → i < length xs → x ≡ get_or xs i x → p x ≡ true
    → ((k : ℕ) → k < i → p (get_or xs k x) ≡ false) → position p xs ≡ Some i
position-first p xs i x h is passes earlier =
    let here : position_or_len p xs ≡ i = position_or_len_is p xs i x (omega arith) earlier (λ _. ap p (sym is) ∙ passes) in
    let within : nat_lt (position_or_len p xs) (length xs) ≡ true = lt-ltb _ _ (omega (arith, here)) in
    rw within (ap Some here)

-- no element passes it
pub position-none : {X : Type 0} (p : X → Bool) (xs : List X) → ((k : ℕ) (d : X) → k < length xs → p (get_or xs k d) ≡ false) → position p xs ≡ None
position-none p [] fails = refl
position-none p (x ∷ xs) fails =
    let never = λ (k : ℕ) (h : k < length (x ∷ xs)). fails k x h in
    let here : position_or_len p (x ∷ xs) ≡ length (x ∷ xs) =
    position_or_len_is p (x ∷ xs) (length (x ∷ xs)) x (omega arith) never (λ h. absurd (omega arith)) in
    let past : nat_lt (position_or_len p (x ∷ xs)) (length (x ∷ xs)) ≡ false = le-ltb _ _ (omega (arith, here)) in
    rw past refl

-- one element more fails it
pub fails_more : {X : Type 0} (p : X → Bool) (xs : List X) (i : ℕ) (x : X) → i < length xs → x ≡ get_or xs i x → p x ≡ false
    → ((k : ℕ) (d : X) → k < i → p (get_or xs k d) ≡ false) → (k : ℕ) (d : X) → k < i + 1 → p (get_or xs k d) ≡ false
fails_more p xs i x h is fails earlier k d below =
    below_more (λ m. p (get_or xs m d) ≡ false) i (λ m l. earlier m d l) (ap p (sym (get_or_read xs i x h is d)) ∙ fails) k below

past_length : (n m : ℕ) (b : Bool) → nat_lt n m ≡ b → ◌≡◌ {A = Option ℕ} (if b then Some n else None) None → m ≤ n
past_length n m true e none = absurd (cc)
past_length n m false e none = ltb-false n m e

-- where no element passes, each fails
pub position-None : {X : Type 0} (p : X → Bool) (xs : List X) → position p xs ≡ None → (k : ℕ) (d : X) → k < length xs → p (get_or xs k d) ≡ false
position-None p xs e k d within =
    let past = past_length (position_or_len p xs) (length xs) (nat_lt (position_or_len p xs) (length xs)) refl e in
    fails_before_first p xs k d (omega (arith, past))
