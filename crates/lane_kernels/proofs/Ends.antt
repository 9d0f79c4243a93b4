-- The least or the greatest of some numbers, part by part.
use Rattle.std.proofs.Common.{◌≡◌, ℕ, suc, ◌+◌, ◌*◌, ◌<◌, ◌-◌, ◌^◌, Bool, true, false, cond, List, [], ◌∷◌, ◌++◌, length, get_or, map, take, drop, ℤ, pos, is_some, ◌+ℤ◌, Option, Some, None, refl, ap, sym, ◌∙◌, arith}
use Rattle.std.specs.Prelude.{int_lt}
use Rattle.std.specs.Int.{Width, int_min, int_max}
use Rattle.std.specs.Simd.Lanes.{zip2, sel_l, top}
use Rattle.std.proofs.lemmas.Int.{ints}
use Rattle.std.proofs.lemmas.Simd.{tops_compared, length-zip2, length-sel_l}
use mir.Val.{bits, hbits}
use Rattle.std.proofs.lemmas.Bool.{true≢false}
use Rattle.std.proofs.Math.Seq.{take-suc}
use Rattle.std.proofs.lemmas.List.{map-append}
use Rattle.nd_base.specs.declared.array.SampleType.{SampleType}
use Rattle.nd_base.specs.Samples.{width, numbers}
use Rattle.lane_kernels.specs.Plain.{least, greatest, least_with, greatest_with, min_max}
use Rattle.lane_kernels.specs.declared.extremes.MinMax.{MinMax}
use Rattle.lane_kernels.proofs.Leasts.{min_shift, max_shift}
use Rattle.lane_kernels.proofs.Slices.{numbers-split}

-- the one that an operation picks of two, where there are two
abbrev joined : (ℤ → ℤ → ℤ) → Option ℤ → Option ℤ → Option ℤ
joined op None b = b
joined op (Some a) None = Some a
joined op (Some a) (Some b) = Some (op a b)

-- and of all
abbrev pub one_of : (ℤ → ℤ → ℤ) → List ℤ → Option ℤ
one_of op [] = None
one_of op (v ∷ vs) = joined op (Some v) (one_of op vs)

pub is_least : (vs : List ℤ) → least vs ≡ one_of int_min vs
is_least [] = refl
is_least (v ∷ []) = refl
is_least (v ∷ w ∷ vs) = ap (joined int_min (Some v)) (is_least (w ∷ vs))

pub is_greatest : (vs : List ℤ) → greatest vs ≡ one_of int_max vs
is_greatest [] = refl
is_greatest (v ∷ []) = refl
is_greatest (v ∷ w ∷ vs) = ap (joined int_max (Some v)) (is_greatest (w ∷ vs))

-- an operation that picks one of two, the same in any order
pub record IsPick (op : ℤ → ℤ → ℤ) : Type 0 where
  assoc : (a b c : ℤ) → op a (op b c) ≡ op (op a b) c
  comm : (a b : ℤ) → op a b ≡ op b a
  shift : (a b o : ℤ) → op a b +ℤ o ≡ op (a +ℤ o) (b +ℤ o)

pub picks_least : IsPick int_min
picks_least = record { assoc = λ a b c. grind (arith, ints); comm = λ a b. grind (arith, ints); shift = min_shift }

pub picks_greatest : IsPick int_max
picks_greatest = record { assoc = λ a b c. grind (arith, ints); comm = λ a b. grind (arith, ints); shift = max_shift }

module _ (op : ℤ → ℤ → ℤ) (pick : IsPick op) where
  joined_assoc : (a b c : Option ℤ) → joined op a (joined op b c) ≡ joined op (joined op a b) c
  joined_assoc None b c = refl
  joined_assoc (Some a) None c = refl
  joined_assoc (Some a) (Some b) None = refl
  joined_assoc (Some a) (Some b) (Some c) = ap Some (pick.assoc a b c)

  crossed : (x y a b : ℤ) → op (op x y) (op a b) ≡ op (op x a) (op y b)
  crossed x y a b =
      sym (pick.assoc x y (op a b)) ∙ ap (op x) (pick.assoc y a b ∙ ap (λ z. op z b) (pick.comm y a) ∙ sym (pick.assoc a y b)) ∙ pick.assoc x a (op y b)

  joined_pairs : (x y : ℤ) (a b : Option ℤ) → joined op (Some (op x y)) (joined op a b) ≡ joined op (joined op (Some x) a) (joined op (Some y) b)
  joined_pairs x y None None = refl
  joined_pairs x y (Some a) None = ap Some (sym (pick.assoc x y a) ∙ ap (op x) (pick.comm y a) ∙ pick.assoc x a y)
  joined_pairs x y None (Some b) = ap Some (sym (pick.assoc x y b))
  joined_pairs x y (Some a) (Some b) = ap Some (crossed x y a b)

  pub one_of-append : (us vs : List ℤ) → one_of op (us ++ vs) ≡ joined op (one_of op us) (one_of op vs)
  one_of-append [] vs = refl
  one_of-append (u ∷ us) vs = ap (joined op (Some u)) (one_of-append us vs) ∙ joined_assoc (Some u) (one_of op us) (one_of op vs)

  -- lanes of which the one or the other is taken
  one_of-taken : (up : ℕ → ℤ) (t : ℕ → ℕ → Bool) → ((a b : ℕ) → up (cond (t a b) a b) ≡ op (up a) (up b)) → (xs ys : List ℕ) → length xs ≡ length ys
      → one_of op (map up (sel_l (zip2 t xs ys) xs ys)) ≡ joined op (one_of op (map up xs)) (one_of op (map up ys))
  one_of-taken up t h [] [] e = refl
  one_of-taken up t h [] (y ∷ ys) e = absurd (omega (arith, e))
  one_of-taken up t h (x ∷ xs) [] e = absurd (omega (arith, e))
  one_of-taken up t h (x ∷ xs) (y ∷ ys) e =
      (λ i. joined op (Some (h x y i)) (one_of-taken up t h xs ys (omega (arith, e)) i)) ∙ joined_pairs (up x) (up y) (one_of op (map up xs)) (one_of op (map up ys))

  -- one lane more
  pub one_of-last : (o m new : ℤ) (k : ℕ) (xs : List ℤ) → k < length xs → Some (m +ℤ o) ≡ one_of op (map (λ x. x +ℤ o) (take k xs)) → new ≡ op m (get_or xs k (pos 0))
      → Some (new +ℤ o) ≡ one_of op (map (λ x. x +ℤ o) (take (k + 1) xs))
  one_of-last o m new k xs h e f =
      let up : ℤ → ℤ = λ x. x +ℤ o in
      let v = get_or xs k (pos 0) in
      let next : suc k ≡ k + 1 = omega arith in
      ap (λ z. Some (z +ℤ o)) f ∙ ap Some (pick.shift m v o) ∙ ap (λ a. joined op a (Some (v +ℤ o))) e
      ∙ sym (one_of-append (map up (take k xs)) (map up (v ∷ []))) ∙ ap (one_of op) (sym (map-append up (take k xs) (v ∷ [])))
      ∙ ap (λ l. one_of op (map up l)) (sym (take-suc xs k (pos 0) h)) ∙ ap (λ n. one_of op (map up (take n xs))) next

  joined_comm : (a b : Option ℤ) → joined op a b ≡ joined op b a
  joined_comm None None = refl
  joined_comm None (Some b) = refl
  joined_comm (Some a) None = refl
  joined_comm (Some a) (Some b) = ap Some (pick.comm a b)

  -- a row more
  one_of-row : (kind : SampleType) (k n at : ℕ) (bytes : List ℕ) (us vs : List ℤ) → at ≡ k * width kind → one_of op us ≡ one_of op (numbers kind k bytes)
      → vs ≡ numbers kind n (drop at bytes) → joined op (one_of op us) (one_of op vs) ≡ one_of op (numbers kind (k + n) bytes)
  one_of-row kind k n at bytes us vs is e f =
      ap (λ a. joined op a (one_of op vs)) e ∙ ap (λ l. joined op (one_of op (numbers kind k bytes)) (one_of op l)) (f ∙ ap (λ at. numbers kind n (drop at bytes)) is)
      ∙ sym (one_of-append (numbers kind k bytes) (numbers kind n (drop (k * width kind) bytes))) ∙ ap (one_of op) (sym (numbers-split kind k n bytes))

turned : (t : ℕ → ℕ → Bool) (xs ys : List ℕ) → zip2 t xs ys ≡ zip2 (λ b a. t a b) ys xs
turned t [] [] = refl
turned t [] (y ∷ ys) = refl
turned t (x ∷ xs) [] = refl
turned t (x ∷ xs) (y ∷ ys) = let rest = turned t xs ys in λ i. t x y ∷ rest i

least_of : (x y : ℤ) (t : Bool) → int_lt x y ≡ t → cond t x y ≡ int_min x y
least_of x y true e = grind (arith, ints)
least_of x y false e = grind (arith, ints)

greatest_of : (x y : ℤ) (t : Bool) → int_lt x y ≡ t → cond t y x ≡ int_max x y
greatest_of x y true e = grind (arith, ints)
greatest_of x y false e = grind (arith, ints)

either : (z : ℕ → ℤ) (t : Bool) (a b : ℕ) → z (cond t a b) ≡ cond t (z a) (z b)
either z true a b = refl
either z false a b = refl

-- a row more, lane by lane, where the lanes b stand for z b more than o
module _ (w : Width) (z : ℕ → ℤ) (o : ℤ) (kind : SampleType) (k n at : ℕ) (bytes xs ys : List ℕ) (same : length xs ≡ length ys) (is : at ≡ k * width kind)
    (row : map (λ b. z b +ℤ o) ys ≡ numbers kind n (drop at bytes)) where
  abbrev masks : List Bool
  masks = map (top (hbits w)) (zip2 (λ a b. cond (int_lt (z a) (z b)) (2 ^ bits w - 1) 0) xs ys)

  tests : masks ≡ zip2 (λ a b. int_lt (z a) (z b)) xs ys
  tests = tops_compared w (λ a b. int_lt (z a) (z b)) xs ys

  long : length masks ≡ length xs
  long = ap length tests ∙ length-zip2 (λ a b. int_lt (z a) (z b)) xs ys same

  pub long_least : length (sel_l masks xs ys) ≡ length xs
  long_least = length-sel_l masks xs ys long (long ∙ same) ∙ long

  pub long_greatest : length (sel_l masks ys xs) ≡ length xs
  long_greatest = length-sel_l masks ys xs (long ∙ same) long ∙ long

  pub least_row : one_of int_min (map (λ b. z b +ℤ o) xs) ≡ one_of int_min (numbers kind k bytes)
      → one_of int_min (map (λ b. z b +ℤ o) (sel_l masks xs ys)) ≡ one_of int_min (numbers kind (k + n) bytes)
  least_row e =
      let up : ℕ → ℤ = λ b. z b +ℤ o in
      let lane : (a b : ℕ) → up (cond (int_lt (z a) (z b)) a b) ≡ int_min (up a) (up b) = λ a b.
      ap (λ v. v +ℤ o) (either z (int_lt (z a) (z b)) a b ∙ least_of (z a) (z b) (int_lt (z a) (z b)) refl) ∙ min_shift (z a) (z b) o in
      ap (λ ms. one_of int_min (map up (sel_l ms xs ys))) tests ∙ one_of-taken int_min picks_least up (λ a b. int_lt (z a) (z b)) lane xs ys same
      ∙ one_of-row int_min picks_least kind k n at bytes (map up xs) (map up ys) is e row

  pub greatest_row : one_of int_max (map (λ b. z b +ℤ o) xs) ≡ one_of int_max (numbers kind k bytes)
      → one_of int_max (map (λ b. z b +ℤ o) (sel_l masks ys xs)) ≡ one_of int_max (numbers kind (k + n) bytes)
  greatest_row e =
      let up : ℕ → ℤ = λ b. z b +ℤ o in
      let lane : (b a : ℕ) → up (cond (int_lt (z a) (z b)) b a) ≡ int_max (up b) (up a) = λ b a.
      ap (λ v. v +ℤ o) (either z (int_lt (z a) (z b)) b a ∙ greatest_of (z a) (z b) (int_lt (z a) (z b)) refl) ∙ max_shift (z a) (z b) o
      ∙ picks_greatest.comm (up a) (up b) in
      ap (λ ms. one_of int_max (map up (sel_l ms ys xs))) (tests ∙ turned (λ a b. int_lt (z a) (z b)) xs ys)
      ∙ one_of-taken int_max picks_greatest up (λ b a. int_lt (z a) (z b)) lane ys xs (sym same)
      ∙ joined_comm int_max picks_greatest (one_of int_max (map up ys)) (one_of int_max (map up xs))
      ∙ one_of-row int_max picks_greatest kind k n at bytes (map up xs) (map up ys) is e row

-- the least with others behind
pub least_behind : (m : ℤ) (us vs : List ℤ) → Some m ≡ least us → Some (least_with m vs) ≡ least (us ++ vs)
least_behind m us vs e =
    is_least (m ∷ vs) ∙ ap (λ a. joined int_min a (one_of int_min vs)) (e ∙ is_least us)
    ∙ sym (one_of-append int_min picks_least us vs) ∙ sym (is_least (us ++ vs))

pub greatest_behind : (m : ℤ) (us vs : List ℤ) → Some m ≡ greatest us → Some (greatest_with m vs) ≡ greatest (us ++ vs)
greatest_behind m us vs e =
    is_greatest (m ∷ vs) ∙ ap (λ a. joined int_max a (one_of int_max vs)) (e ∙ is_greatest us)
    ∙ sym (one_of-append int_max picks_greatest us vs) ∙ sym (is_greatest (us ++ vs))

value : Option ℤ → ℤ
value (Some v) = v
value None = pos 0

-- both
pub both_ends : (vs : List ℤ) (ends : MinMax) → Some ends.min ≡ least vs → Some ends.max ≡ greatest vs → Some ends ≡ min_max vs
unfolding value
both_ends [] ends e f = absurd (true≢false (ap is_some e))
both_ends (v ∷ vs) ends e f =
    ap (λ m. Some (record { min = m; max = ends.max })) (ap value e) ∙ ap (λ m. Some (record { min = least_with v vs; max = m })) (ap value f)
