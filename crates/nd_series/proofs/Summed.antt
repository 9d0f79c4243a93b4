-- The sums of a series as rows come and fall out.
use Rattle.std.proofs.Common.{◌≡◌, ℕ, suc, ◌+◌, ◌-◌, ◌*◌, ◌<◌, ◌≤◌, ◌^◌, true, false, List, [], ◌∷◌, ◌++◌, length, take, drop, get_or, refl, ap, sym, subst, ◌∙◌, arith, ℤ, pos, ◌+ℤ◌, None, Some, Bool}
use Rattle.std.proofs.Common.{nat_lt, slice_get}
use Rattle.std.specs.Prelude.{All, unsigned_abs, ◌-ℤ◌, if◌then◌else◌}
use Rattle.std.proofs.Math.Nat.{suc-mul}
use Rattle.std.proofs.lemmas.Bool.{ltb-true, ltb-false}
use Rattle.std.proofs.lemmas.Int.{ints}
use Rattle.std.proofs.lemmas.List.{ext_get_or, get_or_past, length_push, take_at}
use Rattle.std.proofs.lemmas.List.Elements.{All-head, All-tail, All-append, All-nil, All-cons}
use Rattle.std.proofs.lemmas.List.FromFn.{length-map-range_with_len, get_or-map-range_with_len}
use Rattle.circular_buffer.specs.Buffer.{Buffer, buffer, keep_last}
use Rattle.nd_series.specs.declared.row.SeriesRow.{SeriesRow}
use Rattle.nd_series.specs.Kept.{part_at, sum_at, sums_over}
use Rattle.nd_series.specs.KeptFields.{IsRow, IsSeries}
use Rattle.nd_series.proofs.Pushes.{keep_last-few}

sum_at-append : (k : ℕ) (xs ys : List SeriesRow) → sum_at k (xs ++ ys) ≡ sum_at k xs +ℤ sum_at k ys
sum_at-append k [] ys = omega (arith, ints)
sum_at-append k (row ∷ xs) ys = let e = sum_at-append k xs ys in omega (arith, ints, e)

-- a list of the sums, number by number
are_sums : (n : ℕ) (rows : List SeriesRow) (xs : List ℤ) → length xs ≡ n → ((k : ℕ) → k < n → get_or xs k (pos 0) ≡ sum_at k rows) → xs ≡ sums_over n rows
are_sums n rows xs long each =
    ext_get_or (pos 0) xs (sums_over n rows) (long ∙ sym (length-map-range_with_len (λ k. sum_at k rows) 0 n))
    (λ k h. each k (omega arith) ∙ sym (get_or-map-range_with_len (λ k. sum_at k rows) 0 n k k (pos 0) (omega arith) (omega arith)))

sums_are : (n : ℕ) (rows : List SeriesRow) (xs : List ℤ) (k : ℕ) → xs ≡ sums_over n rows → k < n → get_or xs k (pos 0) ≡ sum_at k rows
sums_are n rows xs k is h = ap (λ l. get_or l k (pos 0)) is ∙ get_or-map-range_with_len (λ k. sum_at k rows) 0 n k k (pos 0) h (omega arith)

sum_at-bound : (n k : ℕ) (rows : List SeriesRow) → All (IsRow n) rows → unsigned_abs (sum_at k rows) ≤ length rows * 2 ^ 63
sum_at-bound n k [] are = omega arith
sum_at-bound n k (row ∷ rows) are =
    let here = (All-head (IsRow n) row rows are).small k in
    let rest = sum_at-bound n k rows (All-tail (IsRow n) row rows are) in
    let more = suc-mul (length rows) (2 ^ 63) in
    omega (arith, ints, here, rest, more)

-- the sums over so few rows have room
pub sums_room : (n : ℕ) (rows : List SeriesRow) (xs : List ℤ) → All (IsRow n) rows → length rows ≤ 4097 → length xs ≡ n → xs ≡ sums_over n rows
    → (k : ℕ) → unsigned_abs (get_or xs k (pos 0)) < 2 ^ 100
sums_room n rows xs are few long is k = here (nat_lt k n) refl
  where
    here : (b : Bool) → nat_lt k n ≡ b → unsigned_abs (get_or xs k (pos 0)) < 2 ^ 100
    here true e = let h = sum_at-bound n k rows are in rw (sums_are n rows xs k is (ltb-true k n e)) (omega (arith, h))
    here false e = rw (get_or_past xs k (pos 0) (let h = ltb-false k n e in omega arith)) (omega arith)

-- a series without rows
pub no_sums : (n : ℕ) (xs : List ℤ) → length xs ≡ n → ((k : ℕ) → k < n → get_or xs k (pos 0) ≡ pos 0) → xs ≡ sums_over n []
no_sums n xs long each = are_sums n [] xs long each

pub full : (n most : ℕ) (rows : List SeriesRow) (row oldest : SeriesRow) → Some oldest ≡ (if nat_lt n most then None else slice_get (rows ++ row ∷ []) 0) → most ≤ n
full n most rows row oldest e = here (nat_lt n most) refl e
  where
    here : (b : Bool) → nat_lt n most ≡ b → Some oldest ≡ (if b then None else slice_get (rows ++ row ∷ []) 0) → most ≤ n
    here true h e = absurd (cc)
    here false h e = ltb-false n most h

pub not_full : (n most : ℕ) (rows : List SeriesRow) (row : SeriesRow) → None ≡ (if nat_lt n most then None else slice_get (rows ++ row ∷ []) 0) → n < most
not_full n most [] row e = here (nat_lt n most) refl e
  where
    here : (b : Bool) → nat_lt n most ≡ b → None ≡ (if b then None else Some row) → n < most
    here true h e = ltb-true n most h
    here false h e = absurd (cc)
not_full n most (first ∷ rows) row e = here (nat_lt n most) refl e
  where
    here : (b : Bool) → nat_lt n most ≡ b → None ≡ (if b then None else Some first) → n < most
    here true h e = ltb-true n most h
    here false h e = absurd (cc)

-- a row comes
module _ (kept : Buffer SeriesRow) (sums : List ℤ) (is : IsSeries kept sums) (row : SeriesRow) (parts : length row.parts ≡ length sums)
    (small : (k : ℕ) → unsigned_abs (part_at k row.parts).total ≤ 2 ^ 63) (added : List ℤ) (long : length added ≡ length sums)
    (each : (k : ℕ) → k < length added → get_or added k (pos 0) ≡ get_or sums k (pos 0) +ℤ (part_at k row.parts).total) where
  rows_more : All (IsRow (length sums)) (kept.items ++ row ∷ [])
  rows_more = All-append (IsRow (length sums)) kept.items (row ∷ []) is.rows
      (All-cons (IsRow (length sums)) row [] (record { parts = parts; small = small }) (All-nil (IsRow (length sums))))

  added_is : added ≡ sums_over (length sums) (kept.items ++ row ∷ [])
  added_is = are_sums (length sums) (kept.items ++ row ∷ []) added long (λ k h.
      each k (omega (arith, long)) ∙ ap (λ z. z +ℤ (part_at k row.parts).total) (sums_are (length sums) kept.items sums k is.summed h)
      ∙ (let e = sum_at-append k kept.items (row ∷ []) in omega (arith, ints, e)))

  few_more : length (kept.items ++ row ∷ []) ≤ 4097
  few_more = let e = length_push kept.items row in let a = is.room in let b = is.most in omega (arith, e, a, b)

  pub added_room : (k : ℕ) → unsigned_abs (get_or added k (pos 0)) < 2 ^ 100
  added_room = sums_room (length sums) (kept.items ++ row ∷ []) added rows_more few_more long added_is

  -- and there is room for it
  pub series_grown : (new : Buffer SeriesRow) (now : List ℤ) → now ≡ added → new ≡ buffer (keep_last kept.capacity (kept.items ++ row ∷ [])) kept.capacity
      → length kept.items < kept.capacity → IsSeries new now
  series_grown new now same e room =
      let long_more = length_push kept.items row in
      let all : new ≡ buffer (kept.items ++ row ∷ []) kept.capacity =
      e ∙ ap (λ rows. buffer rows kept.capacity) (keep_last-few kept.capacity (kept.items ++ row ∷ []) (omega (arith, long_more))) in
      subst (λ b. IsSeries b now) (sym all) (subst (λ xs. IsSeries (buffer (kept.items ++ row ∷ []) kept.capacity) xs) (sym same) (record {
        some = is.some;
        most = is.most;
        room = omega (arith, long_more);
        rows = subst (λ m. All (IsRow m) (kept.items ++ row ∷ [])) (sym long) rows_more;
        summed = added_is ∙ ap (λ m. sums_over m (kept.items ++ row ∷ [])) (sym long);
      }))

  -- and the oldest falls out
  module _ (oldest : SeriesRow) (others : List SeriesRow) (split : kept.items ++ row ∷ [] ≡ oldest ∷ others) where
    pub oldest_parts : length oldest.parts ≡ length added
    oldest_parts = (All-head (IsRow (length sums)) oldest others (subst (All (IsRow (length sums))) split rows_more)).parts ∙ sym long

    pub series_moved : (new : Buffer SeriesRow) (now taken : List ℤ) → now ≡ taken → length taken ≡ length added
        → ((k : ℕ) → k < length taken → get_or taken k (pos 0) ≡ get_or added k (pos 0) -ℤ (part_at k oldest.parts).total)
        → new ≡ buffer (keep_last kept.capacity (kept.items ++ row ∷ [])) kept.capacity → kept.capacity ≤ length kept.items → IsSeries new now
    series_moved new now taken same as_long off e full =
        let room = is.room in
        let long_more = length_push kept.items row in
        let one : length (kept.items ++ row ∷ []) - kept.capacity ≡ 1 = omega (arith, long_more) in
        let last : keep_last kept.capacity (kept.items ++ row ∷ []) ≡ others = ap (λ m. drop m (kept.items ++ row ∷ [])) one ∙ ap (drop 1) split in
        let count : suc (length others) ≡ length kept.items + 1 = sym (ap length split) ∙ long_more in
        let all : new ≡ buffer others kept.capacity = e ∙ ap (λ rows. buffer rows kept.capacity) last in
        let length_is : length taken ≡ length sums = as_long ∙ long in
        subst (λ b. IsSeries b now) (sym all) (subst (λ xs. IsSeries (buffer others kept.capacity) xs) (sym same) (record {
          some = is.some;
          most = is.most;
          room = omega (arith, count);
          rows = subst (λ m. All (IsRow m) others) (sym length_is)
              (All-tail (IsRow (length sums)) oldest others (subst (All (IsRow (length sums))) split rows_more));
          summed = are_sums (length taken) others taken refl (λ k h.
              let here = sums_are (length sums) (kept.items ++ row ∷ []) added k added_is (omega (arith, length_is)) in
              let first = ap (sum_at k) split in
              off k h ∙ (let a = here ∙ first in omega (arith, ints, a)));
        }))

-- where a row falls out of the rows, it is the first of them
pub first_of : (n most : ℕ) (rows : List SeriesRow) (row oldest : SeriesRow) → Some oldest ≡ (if nat_lt n most then None else slice_get (rows ++ row ∷ []) 0)
    → rows ++ row ∷ [] ≡ oldest ∷ drop 1 (rows ++ row ∷ [])
first_of n most [] row oldest e = here (nat_lt n most) e
  where
    here : (b : Bool) → Some oldest ≡ (if b then None else Some row) → row ∷ [] ≡ oldest ∷ []
    here true e = absurd (cc)
    here false e = let same : oldest ≡ row = cc in ap (λ r. r ∷ []) (sym same)
first_of n most (first ∷ rows) row oldest e = here (nat_lt n most) e
  where
    here : (b : Bool) → Some oldest ≡ (if b then None else Some first) → first ∷ (rows ++ row ∷ []) ≡ oldest ∷ (rows ++ row ∷ [])
    here true e = absurd (cc)
    here false e = let same : oldest ≡ first = cc in ap (λ r. r ∷ (rows ++ row ∷ [])) (sym same)

-- what a write to all of a list leaves
pub written_whole : (xs ys : List ℤ) (n : ℕ) → n ≡ length ys → length xs ≡ length ys → take n (xs ++ drop (length xs) ys) ≡ xs
written_whole xs ys n e f = take_at xs (drop (length xs) ys) n (f ∙ sym e)
