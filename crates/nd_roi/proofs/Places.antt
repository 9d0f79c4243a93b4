-- Sums and lists over all indices, and the walk along the axes.
use Rattle.std.proofs.Common.{◌≡◌, ℕ, zero, suc, ◌+◌, ◌*◌, ℤ, ◌+ℤ◌, List, [], ◌∷◌, ◌++◌, length, map, reverse, refl, ap, sym, ◌∙◌, arith, append_assoc}
use Rattle.std.specs.List.{range_with_len, flat_map}
use Rattle.std.proofs.lemmas.Int.{ints}
use Rattle.std.proofs.lemmas.List.{reverse-append, append-nil}
use Rattle.std.proofs.lemmas.Grind.{flat_map-append}
use Rattle.std.proofs.lemmas.List.Folds.{flat_map-map}
use Rattle.nd_base.specs.declared.array.Dim.{Dim}
use Rattle.nd_base.specs.declared.graph.RoiRule.{RoiRule}
use Rattle.nd_roi.specs.Groups.{Groups}
use Rattle.nd_roi.specs.declared.walk.Axis.{Axis}
use Rattle.nd_roi.specs.Cut.{cut, cuts_from, dims_from}
use Rattle.nd_base.specs.Places.{place, product_of, indices, sizes_of}
use Rattle.nd_roi.specs.Region.{first_covered, covered_by, covered, sum_over}
use Rattle.nd_base.specs.PlaceLaws.{range-split}
use Rattle.nd_roi.specs.Walk.{held, sum_below, lines_total, concat_below, lines, axes_from}

-- sums

pub sum_over-cong : {X : Type 0} (f g : X → ℤ) (xs : List X) → ((x : X) → f x ≡ g x) → sum_over f xs ≡ sum_over g xs
sum_over-cong f g [] each = refl
sum_over-cong f g (x ∷ xs) each = ap (λ z. z +ℤ sum_over f xs) (each x) ∙ ap (λ z. g x +ℤ z) (sum_over-cong f g xs each)

sum_over-append : {X : Type 0} (f : X → ℤ) (xs ys : List X) → sum_over f (xs ++ ys) ≡ sum_over f xs +ℤ sum_over f ys
sum_over-append f [] ys = omega (arith, ints)
sum_over-append f (x ∷ xs) ys = let e = sum_over-append f xs ys in omega (arith, ints, e)

pub sum_over-map : {X Y : Type 0} (f : Y → ℤ) (v : X → Y) (xs : List X) → sum_over f (map v xs) ≡ sum_over (λ x. f (v x)) xs
sum_over-map f v [] = refl
sum_over-map f v (x ∷ xs) = ap (λ z. f (v x) +ℤ z) (sum_over-map f v xs)

pub sum_over-flat_map : {X Y : Type 0} (f : Y → ℤ) (v : X → List Y) (xs : List X) → sum_over f (flat_map v xs) ≡ sum_over (λ x. sum_over f (v x)) xs
sum_over-flat_map f v [] = refl
sum_over-flat_map f v (x ∷ xs) = sum_over-append f (v x) (flat_map v xs) ∙ ap (λ z. sum_over f (v x) +ℤ z) (sum_over-flat_map f v xs)

pub sum_below-cong : (n : ℕ) (f g : ℕ → ℤ) → ((j : ℕ) → f j ≡ g j) → sum_below n f ≡ sum_below n g
sum_below-cong zero f g each = refl
sum_below-cong (suc n) f g each = ap (λ z. z +ℤ f n) (sum_below-cong n f g each) ∙ ap (λ z. sum_below n g +ℤ z) (each n)

sum_below-front : (n : ℕ) (f : ℕ → ℤ) → sum_below (suc n) f ≡ f 0 +ℤ sum_below n (λ j. f (suc j))
sum_below-front zero f = omega (arith, ints)
sum_below-front (suc n) f = let e = sum_below-front n f in omega (arith, ints, e)

pub sum_over-range : (f : ℕ → ℤ) (from n : ℕ) → sum_over f (range_with_len from n) ≡ sum_below n (λ j. f (from + j))
sum_over-range f from zero = refl
sum_over-range f from (suc n) =
    ap (λ z. f from +ℤ z) (sum_over-range f (from + 1) n ∙ sum_below-cong n (λ j. f (from + 1 + j)) (λ j. f (from + suc j)) (λ j. ap f (omega arith)))
    ∙ ap (λ z. z +ℤ sum_below n (λ j. f (from + suc j))) (ap f (omega arith))
    ∙ sym (sum_below-front n (λ j. f (from + j)))

-- lists

pub flat_map-cong : {X Y : Type 0} (f g : X → List Y) (xs : List X) → ((x : X) → f x ≡ g x) → flat_map f xs ≡ flat_map g xs
flat_map-cong f g [] each = refl
flat_map-cong f g (x ∷ xs) each = ap (λ z. z ++ flat_map f xs) (each x) ∙ ap (λ z. g x ++ z) (flat_map-cong f g xs each)

pub flat_map-flat_map : {X Y Z : Type 0} (f : Y → List Z) (v : X → List Y) (xs : List X) → flat_map f (flat_map v xs) ≡ flat_map (λ x. flat_map f (v x)) xs
flat_map-flat_map f v [] = refl
flat_map-flat_map f v (x ∷ xs) = flat_map-append f (v x) (flat_map v xs) ∙ ap (λ z. flat_map f (v x) ++ z) (flat_map-flat_map f v xs)

concat_below-cong : {X : Type 0} (n : ℕ) (f g : ℕ → List X) → ((j : ℕ) → f j ≡ g j) → concat_below n f ≡ concat_below n g
concat_below-cong zero f g each = refl
concat_below-cong (suc n) f g each = ap (λ z. z ++ f n) (concat_below-cong n f g each) ∙ ap (λ z. concat_below n g ++ z) (each n)

flat_map-range : {X : Type 0} (f : ℕ → List X) (n : ℕ) → flat_map f (range_with_len 0 n) ≡ concat_below n f
flat_map-range f zero = refl
flat_map-range f (suc n) =
    let e : suc n ≡ n + 1 = omega arith in
    ap (λ k. flat_map f (range_with_len 0 k)) e ∙ ap (flat_map f) (range-split 0 n 1) ∙ flat_map-append f (range_with_len 0 n) ((0 + n) ∷ [])
    ∙ ap (λ z. z ++ (f (0 + n) ++ [])) (flat_map-range f n) ∙ ap (λ z. concat_below n f ++ z) (append-nil (f (0 + n)))
    ∙ ap (λ k. concat_below n f ++ f k) (omega arith)

reverse-cons : {X : Type 0} (x : X) (xs ys : List X) → reverse (x ∷ xs) ++ ys ≡ reverse xs ++ (x ∷ ys)
reverse-cons x xs ys = ap (λ z. z ++ ys) (reverse-append (x ∷ []) xs) ∙ append_assoc (reverse xs) (x ∷ []) ys

-- the first covered index in each dimension
abbrev pub starts : List Groups → List ℕ → List ℕ
starts [] index = []
starts (c ∷ cs) [] = []
starts (c ∷ cs) (out ∷ index) = first_covered c out ∷ starts cs index

-- the sum over all covered indices is that of the walk
pub total_is : (rule : RoiRule) (k t : ℕ) (dims : List Dim) (acc : List Axis) (value : ℕ → ℤ) (base : ℕ) (index : List ℕ) → length index ≡ length dims →
    sum_over (λ i. lines_total acc value (base + t * place (sizes_of dims) i)) (covered (cuts_from rule k dims) index)
    ≡ lines_total (reverse (axes_from rule k t dims) ++ acc) value (base + t * place (sizes_of dims) (starts (cuts_from rule k dims) index))
total_is rule k t [] acc value base index long = omega (arith, ints)
total_is rule k t (dim ∷ dims) acc value base [] long = absurd (omega arith)
total_is rule k t (dim ∷ dims) acc value base (out ∷ index) long =
    let n = dim.size in
    let c : Groups = cut rule k n in
    let a : Axis = record { cut = held c; stride = t } in
    let cs = cuts_from rule (suc k) dims in
    let sizes = sizes_of dims in
    let from = first_covered c out in
    let H : List ℕ → ℤ = λ i. lines_total acc value (base + t * place (n ∷ sizes) i) in
    let inner = λ (rest : List ℕ).
    sum_over-map H (λ x. x ∷ rest) (covered_by c out) ∙ sum_over-range (λ x. H (x ∷ rest)) from c.bin
    ∙ sum_below-cong c.bin (λ j. H ((from + j) ∷ rest)) (λ j. lines_total acc value ((base + t * from) + (t * n) * place sizes rest + j * t))
    (λ j. ap (lines_total acc value) (grind arith)) in
    sum_over-flat_map H (λ rest. map (λ x. x ∷ rest) (covered_by c out)) (covered cs index)
    ∙ sum_over-cong (λ rest. sum_over H (map (λ x. x ∷ rest) (covered_by c out)))
    (λ rest. lines_total (a ∷ acc) value ((base + t * from) + (t * n) * place sizes rest)) (covered cs index) inner
    ∙ total_is rule (suc k) (t * n) dims (a ∷ acc) value (base + t * from) index (omega arith)
    ∙ ap (λ axes. lines_total axes value ((base + t * from) + (t * n) * place sizes (starts cs index)))
    (sym (reverse-cons a (axes_from rule (suc k) (t * n) dims) acc))
    ∙ ap (lines_total (reverse (a ∷ axes_from rule (suc k) (t * n) dims) ++ acc) value) (grind arith)

-- the output in the order of its indices is that of the walk
pub lines_are : {X : Type 0} (rule : RoiRule) (k t : ℕ) (dims : List Dim) (acc : List Axis) (line : ℕ → List X) (base : ℕ) →
    lines (reverse (axes_from rule k t dims) ++ acc) line base
    ≡ flat_map (λ index. lines acc line (base + t * place (sizes_of dims) (starts (cuts_from rule k dims) index))) (indices (sizes_of (dims_from rule k dims)))
lines_are {X = X} rule k t [] acc line base = ap (lines acc line) (omega arith) ∙ sym (append-nil (lines acc line (base + t * 0)))
lines_are {X = X} rule k t (dim ∷ dims) acc line base =
    let n = dim.size in
    let c : Groups = cut rule k n in
    let a : Axis = record { cut = held c; stride = t } in
    let cs = cuts_from rule (suc k) dims in
    let sizes = sizes_of dims in
    let outs = indices (sizes_of (dims_from rule (suc k) dims)) in
    let H : List ℕ → List X = λ i. lines acc line (base + t * place (n ∷ sizes) (starts (c ∷ cs) i)) in
    let inner = λ (rest : List ℕ).
    flat_map-map H (λ x. x ∷ rest) (range_with_len 0 c.size) ∙ flat_map-range (λ x. H (x ∷ rest)) c.size
    ∙ concat_below-cong c.size (λ x. H (x ∷ rest)) (λ x. lines acc line (base + (t * n) * place sizes (starts cs rest) + first_covered c x * t))
    (λ x. ap (lines acc line) (grind arith)) in
    ap (λ axes. lines axes line base) (reverse-cons a (axes_from rule (suc k) (t * n) dims) acc)
    ∙ lines_are rule (suc k) (t * n) dims (a ∷ acc) line base
    ∙ sym (
    flat_map-flat_map H (λ rest. map (λ x. x ∷ rest) (range_with_len 0 c.size)) outs
    ∙ flat_map-cong (λ rest. flat_map H (map (λ x. x ∷ rest) (range_with_len 0 c.size)))
    (λ rest. lines (a ∷ acc) line (base + (t * n) * place sizes (starts cs rest))) outs inner)

-- all of a product have as many numbers as it has lists
pub product-cong : {X : Type 0} (choices : List (List ℕ)) (f g : List ℕ → List X) → ((index : List ℕ) → length index ≡ length choices → f index ≡ g index)
    → flat_map f (product_of choices) ≡ flat_map g (product_of choices)
product-cong [] f g each = ap (λ z. z ++ []) (each [] refl)
product-cong (xs ∷ choices) f g each =
    flat_map-flat_map f (λ rest. map (λ x. x ∷ rest) xs) (product_of choices)
    ∙ product-cong choices (λ rest. flat_map f (map (λ x. x ∷ rest) xs)) (λ rest. flat_map g (map (λ x. x ∷ rest) xs))
    (λ rest long. flat_map-map f (λ x. x ∷ rest) xs ∙ flat_map-cong (λ x. f (x ∷ rest)) (λ x. g (x ∷ rest)) xs (λ x. each (x ∷ rest) (ap suc long))
    ∙ sym (flat_map-map g (λ x. x ∷ rest) xs))
    ∙ sym (flat_map-flat_map g (λ rest. map (λ x. x ∷ rest) xs) (product_of choices))
