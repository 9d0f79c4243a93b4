-- The samples of a row, and what it adds to the sums of columns.
use Rattle.std.proofs.Common.{◌≡◌, ℕ, zero, suc, ◌+◌, ◌*◌, ◌<◌, ◌≤◌, List, [], ◌∷◌, length, get_or, map, take, drop, pos, Fits, w8, refl, ap, sym, ◌∙◌, arith, subst}
use Rattle.std.proofs.Common.{Bool, true, false, not, nat_le, if◌then◌else◌, ℤ, ◌+ℤ◌, ◌-ℤ◌, ◌*ℤ◌}
use Rattle.std.specs.Prelude.{unsigned_abs, int_lt}
use Rattle.std.specs.List.{count_by}
use Rattle.std.specs.Simd.Lanes.{zip2, sum_l}
use Rattle.std.proofs.Math.ListN.{get_or-map}
use Rattle.std.proofs.Math.Nat.{mul-add, add-mul, mul-le-mul}
use Rattle.std.proofs.lemmas.Simd.{sum-zip2, length-zip2, get_or-zip2, Each1-from_get_or, sum_bound}
use Rattle.std.proofs.lemmas.List.{length-map}
use Rattle.std.proofs.lemmas.List.Sums.{sum_by-cons}
use Rattle.std.proofs.lemmas.Int.{ints}
use Rattle.std.proofs.Math.IntN.{pos-*ℤ-pos}
use Rattle.nd_base.specs.declared.array.SampleType.{SampleType}
use Rattle.nd_base.specs.declared.array.SampleType.TheVariants.{Int8, UInt8, Int16, UInt16, Int32, UInt32}
use Rattle.nd_base.specs.Samples.{width, number, numbers, samples_of}
use Rattle.lane_kernels.specs.Plain.{stored}
use Rattle.nd_stats.specs.declared.over.Over.{Over}
use Rattle.nd_stats.specs.Samples.{Sample, placed}
use Rattle.nd_stats.specs.Measured.{count_where, value_where}
use Rattle.nd_stats.specs.Over.{IsOver, reaches, weighted}
use Rattle.nd_stats.specs.Columns.{IsNarrowUnsigned, moment}
use Rattle.lane_kernels.proofs.Slices.{get_or-numbers}
use Rattle.nd_stats.proofs.Overs.{narrow_stored}
use Rattle.nd_stats.proofs.Joinings.{part_count, over_join}
use Rattle.nd_stats.proofs.Parts.{parts-more}
use Rattle.nd_stats.proofs.Sums.{count-first, sum_where-first}

-- the samples of a row have at most 16 bits
pub row_most : (kind : SampleType) (row values : List ℕ) → ((i : ℕ) → Fits w8 (get_or row i 0)) → width kind ≤ 2 → length row ≡ 8 * width kind
    → values ≡ map unsigned_abs (samples_of kind row) → (k : ℕ) → k < 8 → get_or values k 0 ≤ 65535
row_most kind row values fit few long e k h =
    let count = part_count kind 8 (length row) long in
    let same : get_or values k 0 ≡ unsigned_abs (stored kind row k) =
    ap (λ vs. get_or vs k 0) e ∙ get_or-map unsigned_abs (samples_of kind row) k (pos 0)
    ∙ ap (λ n. unsigned_abs (get_or (numbers kind n row) k (pos 0))) count ∙ ap unsigned_abs (get_or-numbers kind 8 k row h) in
    rw same (narrow_stored kind row k fit few)

-- v where it reaches the least number
abbrev pub kept_lane : ℕ → ℕ → ℕ
kept_lane l v = if nat_le l v then v else 0

kept_le : (b : Bool) (v m : ℕ) → v ≤ m → (if b then v else 0) ≤ m
kept_le true v m h = h
kept_le false v m h = omega arith

pub kept_most : (l m : ℕ) (vs : List ℕ) (j : ℕ) → get_or vs j 0 ≤ m → get_or (map (kept_lane l) vs) j 0 ≤ m
kept_most l m [] j h = omega arith
kept_most l m (v ∷ vs) zero h = kept_le (nat_le l v) v m h
kept_most l m (v ∷ vs) (suc j) h = kept_most l m vs j h

pub moment-zip2 : (k : ℕ) (xs ys : List ℕ) → length xs ≡ length ys → moment k (zip2 (λ a b. a + b) xs ys) ≡ moment k xs + moment k ys
moment-zip2 k [] [] e = refl
moment-zip2 k [] (y ∷ ys) e = absurd (omega (arith, e))
moment-zip2 k (x ∷ xs) [] e = absurd (omega (arith, e))
moment-zip2 k (x ∷ xs) (y ∷ ys) e =
    let m = mul-add k x y in
    let r = moment-zip2 (k + 1) xs ys (omega (arith, e)) in
    omega (arith, m, r)

-- the numbers of samples without a sign are their sizes
sizes : (kind : SampleType) → IsNarrowUnsigned kind → (n : ℕ) (bytes : List ℕ) → map pos (map unsigned_abs (numbers kind n bytes)) ≡ numbers kind n bytes
sizes UInt8 u zero bytes = refl
sizes UInt8 u (suc n) bytes = ap (λ vs. number UInt8 (take 1 bytes) ∷ vs) (sizes UInt8 u n (drop 1 bytes))
sizes UInt16 u zero bytes = refl
sizes UInt16 u (suc n) bytes = ap (λ vs. number UInt16 (take 2 bytes) ∷ vs) (sizes UInt16 u n (drop 2 bytes))
sizes Int8 u n bytes = absurd u
sizes Int16 u n bytes = absurd u
sizes Int32 u n bytes = absurd u
sizes UInt32 u n bytes = absurd u

abbrev IsLeast : ℕ → ℤ → Type 0
IsLeast l t = (v : ℕ) → v ≤ 65535 → nat_le l v ≡ not (int_lt (pos v) t)

abbrev AreNarrow : List ℕ → Type 0
AreNarrow vs = (j : ℕ) → j < length vs → get_or vs j 0 ≤ 65535

later : (v : ℕ) (vs : List ℕ) → AreNarrow (v ∷ vs) → AreNarrow vs
later v vs few = λ j h. few (suc j) (omega (arith, h))

row_count : (l : ℕ) (t : ℤ) → IsLeast l t → (p : ℕ) (vs : List ℕ) → AreNarrow vs
    → count_by (λ v. nat_le l v) vs ≡ count_where (reaches t) (placed p (map pos vs))
row_count l t same p [] few = refl
row_count l t same p (v ∷ vs) few =
    let s : Sample = record { place = p; value = pos v } in
    sum_by-cons (λ x. if nat_le l x then 1 else 0) v vs
    ∙ ap (λ n. (if nat_le l v then 1 else 0) + n) (row_count l t same (p + 1) vs (later v vs few))
    ∙ ap (λ b. (if b then 1 else 0) + count_where (reaches t) (placed (p + 1) (map pos vs))) (same v (few 0 (omega arith)))
    ∙ sym (count-first (reaches t) s (placed (p + 1) (map pos vs)))

value_more : (b : Bool) (v n : ℕ) → pos ((if b then v else 0) + n) ≡ (if b then pos v else pos 0) +ℤ pos n
value_more true v n = omega (arith, ints)
value_more false v n = omega (arith, ints)

row_value : (l : ℕ) (t : ℤ) → IsLeast l t → (p : ℕ) (vs : List ℕ) → AreNarrow vs
    → pos (sum_l (map (kept_lane l) vs)) ≡ value_where (reaches t) (placed p (map pos vs))
row_value l t same p [] few = refl
row_value l t same p (v ∷ vs) few =
    let s : Sample = record { place = p; value = pos v } in
    value_more (nat_le l v) v (sum_l (map (kept_lane l) vs))
    ∙ ap (λ z. (if nat_le l v then pos v else pos 0) +ℤ z) (row_value l t same (p + 1) vs (later v vs few))
    ∙ ap (λ b. (if b then pos v else pos 0) +ℤ value_where (reaches t) (placed (p + 1) (map pos vs))) (same v (few 0 (omega arith)))
    ∙ sym (sum_where-first (reaches t) (λ u. u.value) s (placed (p + 1) (map pos vs)))

weighted_more : (b : Bool) (p v n : ℕ) → pos (p * (if b then v else 0) + n) ≡ (if b then pos p *ℤ pos v else pos 0) +ℤ pos n
weighted_more true p v n = let e = pos-*ℤ-pos p v in omega (arith, ints, e)
weighted_more false p v n = omega (arith, ints)

row_weighted : (l : ℕ) (t : ℤ) → IsLeast l t → (p : ℕ) (vs : List ℕ) → AreNarrow vs
    → pos (moment p (map (kept_lane l) vs)) ≡ weighted t (placed p (map pos vs))
row_weighted l t same p [] few = refl
row_weighted l t same p (v ∷ vs) few =
    let s : Sample = record { place = p; value = pos v } in
    weighted_more (nat_le l v) p v (moment (p + 1) (map (kept_lane l) vs))
    ∙ ap (λ z. (if nat_le l v then pos p *ℤ pos v else pos 0) +ℤ z) (row_weighted l t same (p + 1) vs (later v vs few))
    ∙ ap (λ b. (if b then pos p *ℤ pos v else pos 0) +ℤ weighted t (placed (p + 1) (map pos vs))) (same v (few 0 (omega arith)))
    ∙ sym (sum_where-first (reaches t) (λ u. pos u.place *ℤ u.value) s (placed (p + 1) (map pos vs)))

-- the numbers that the sums of columns and the sums of these stand for after k rows
abbrev pub over_of : ℕ → ℕ → List ℕ → List ℕ → Over
over_of k count sums running = record {
  count = count;
  sum = pos (sum_l sums);
  weighted = pos (moment 0 sums + k * 8 * sum_l sums) -ℤ pos (8 * sum_l running);
}

-- how the weighted sum grows by a row: m and s of the sums before it, r of the sums of these, n and d of what the row adds
grown : (k m s r n d : ℕ) → pos (m + n + (k + 1) * 8 * (s + d)) -ℤ pos (8 * (r + (s + d))) ≡ (pos (m + k * 8 * s) -ℤ pos (8 * r)) +ℤ (pos n +ℤ (pos (k * 8) *ℤ pos d))
grown k m s r n d =
    let a : (k + 1) * 8 * (s + d) ≡ k * 8 * s + k * 8 * d + 8 * (s + d) =
    (let x = add-mul (k * 8) 8 (s + d) in let y = mul-add (k * 8) s d in omega (arith, x, y)) in
    let e = pos-*ℤ-pos (k * 8) d in
    omega (arith, ints, a, e)

pub added_long : (xs ys new : List ℕ) → new ≡ zip2 (λ x y. x + y) xs ys → length xs ≡ 8 → length ys ≡ 8 → length new ≡ 8
added_long xs ys new e long as_long = ap length e ∙ length-zip2 (λ x y. x + y) xs ys (omega (arith, long, as_long)) ∙ long

-- one row more
pub rows_step : (kind : SampleType) → IsNarrowUnsigned kind → (l : ℕ) (t : ℤ) → IsLeast l t → (k count more : ℕ) (rows sums running values kept new newer : List ℕ)
    → IsOver t (placed 0 (numbers kind (k * 8) rows)) (over_of k count sums running)
    → values ≡ map unsigned_abs (numbers kind 8 (drop (k * 8 * width kind) rows)) → length values ≡ 8 → ((j : ℕ) → j < 8 → get_or values j 0 ≤ 65535)
    → more ≡ count_by (λ v. nat_le l v) values → kept ≡ map (kept_lane l) values → new ≡ zip2 (λ a b. a + b) sums kept
    → newer ≡ zip2 (λ a b. a + b) running new → length sums ≡ 8 → length running ≡ 8
    → IsOver t (placed 0 (numbers kind ((k + 1) * 8) rows)) (over_of (k + 1) (count + more) new newer)
rows_step kind u l t same k count more rows sums running values kept new newer before is eight most m_is k_is n_is r_is long as_long =
    let ss = numbers kind 8 (drop (k * 8 * width kind) rows) in
    let all : map pos values ≡ ss = ap (map pos) is ∙ sizes kind u 8 (drop (k * 8 * width kind) rows) in
    let few : AreNarrow values = λ j h. most j (omega (arith, h, eight)) in
    let row : Over = record { count = more; sum = pos (sum_l kept); weighted = pos (moment 0 kept) } in
    let kept_long : length kept ≡ 8 = ap length k_is ∙ length-map values (kept_lane l) ∙ eight in
    let new_long = added_long sums kept new n_is long kept_long in
    let one : IsOver t (placed 0 ss) row = subst (λ us. IsOver t (placed 0 us) row) all (record {
      count = m_is ∙ row_count l t same 0 values few;
      sum = ap (λ vs. pos (sum_l vs)) k_is ∙ row_value l t same 0 values few;
      weighted = ap (λ vs. pos (moment 0 vs)) k_is ∙ row_weighted l t same 0 values few;
    }) in
    let s = ap sum_l n_is ∙ sum-zip2 sums kept (omega (arith, long, kept_long)) in
    let m = ap (moment 0) n_is ∙ moment-zip2 0 sums kept (omega (arith, long, kept_long)) in
    let r = ap sum_l r_is ∙ sum-zip2 running new (omega (arith, as_long, new_long)) in
    let e : pos (sum_l new) ≡ pos (sum_l sums) +ℤ pos (sum_l kept) = omega (arith, ints, s) in
    let g : pos (moment 0 new + (k + 1) * 8 * sum_l new) -ℤ pos (8 * sum_l newer)
    ≡ (pos (moment 0 sums + k * 8 * sum_l sums) -ℤ pos (8 * sum_l running)) +ℤ (pos (moment 0 kept) +ℤ (pos (k * 8) *ℤ pos (sum_l kept))) =
    rw m (rw r (rw s (grown k (moment 0 sums) (sum_l sums) (sum_l running) (moment 0 kept) (sum_l kept)))) in
    let places : (k + 1) * 8 ≡ k * 8 + 8 = omega arith in
    subst (λ xs. IsOver t xs (over_of (k + 1) (count + more) new newer)) (sym (ap (λ n. placed 0 (numbers kind n rows)) places ∙ parts-more kind 0 (k * 8) 8 rows))
    (over_join t (placed 0 (numbers kind (k * 8) rows)) (k * 8) (0 + k * 8) ss (over_of k count sums running) row (over_of (k + 1) (count + more) new newer)
    (omega arith) before one refl e g)

-- the bounds of the lanes after one row more
pub added_most : (sums kept new : List ℕ) (a b : ℕ) → new ≡ zip2 (λ x y. x + y) sums kept → length sums ≡ 8 → length kept ≡ 8
    → ((j : ℕ) → j < 8 → get_or sums j 0 ≤ a) → ((j : ℕ) → j < 8 → get_or kept j 0 ≤ b) → (j : ℕ) → j < 8 → get_or new j 0 ≤ a + b
added_most sums kept new a b e long as_long m n j h =
    let at = ap (λ xs. get_or xs j 0) e ∙ get_or-zip2 (λ x y. x + y) sums kept j 0 0 0 (omega (arith, long)) (omega (arith, as_long)) in
    let one = m j h in
    let two = n j h in
    omega (arith, at, one, two)

-- a sum of lanes by a bound of each
pub sum_most : (xs : List ℕ) (b : ℕ) → length xs ≡ 8 → ((j : ℕ) → j < 8 → get_or xs j 0 ≤ b) → sum_l xs ≤ b * 8
sum_most xs b long most =
    let each = Each1-from_get_or (λ a. a ≤ b) xs 0 (λ j h. most j (omega (arith, h, long))) in
    let all = sum_bound b xs each in
    rw (sym long) all

moment_le : (k : ℕ) (xs : List ℕ) → moment k xs ≤ (k + length xs) * sum_l xs
moment_le k [] = omega arith
moment_le k (x ∷ xs) =
    let rest = moment_le (k + 1) xs in
    let n = k + length (x ∷ xs) in
    let same : k + 1 + length xs ≡ n = omega arith in
    let all : moment (k + 1) xs ≤ n * sum_l xs = subst (λ m. moment (k + 1) xs ≤ m * sum_l xs) same rest in
    let first : k * x ≤ n * x = mul-le-mul (omega arith) (omega arith) in
    let e = mul-add n x (sum_l xs) in
    omega (arith, all, first, e)

pub moment_most : (xs : List ℕ) → length xs ≡ 8 → moment 0 xs ≤ 8 * sum_l xs
moment_most xs long = subst (λ n. moment 0 xs ≤ n * sum_l xs) (let e : 0 + length xs ≡ 8 = omega (arith, long) in e) (moment_le 0 xs)

-- the bound of the weighted sum after k rows
pub weight_most : (k : ℕ) (sums running : List ℕ) → k ≤ 128 → length sums ≡ 8 → length running ≡ 8
    → ((j : ℕ) → j < 8 → get_or sums j 0 ≤ k * 65535) → ((j : ℕ) → j < 8 → get_or running j 0 ≤ k * (k * 65535))
    → unsigned_abs (pos (moment 0 sums + k * 8 * sum_l sums) -ℤ pos (8 * sum_l running)) ≤ k * 8 * 549755813888
weight_most k sums running few long as_long most most_running =
    let s = sum_most sums (k * 65535) long most in
    let r = sum_most running (k * (k * 65535)) as_long most_running in
    let m = moment_most sums long in
    let w : k * 8 * sum_l sums ≤ 1024 * (k * 65535 * 8) = mul-le-mul (omega (arith, few)) s in
    let x : k * (k * 65535) ≤ 128 * (k * 65535) = mul-le-mul few (omega arith) in
    omega (arith, ints, s, r, m, w, x)
