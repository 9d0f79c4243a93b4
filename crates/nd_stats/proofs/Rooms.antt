-- Sums of few samples have room.
use Rattle.std.proofs.Common.{◌≡◌, ℕ, ◌+◌, ◌<◌, ◌≤◌, ◌^◌, List, [], length, refl, sym, subst, arith, ℤ, pos, true, false, Bool}
use Rattle.nd_base.specs.declared.array.Dim.{Dim}
use Rattle.nd_base.specs.declared.graph.StatsRule.{StatsRule}
use Rattle.nd_base.specs.Shapes.{sample_count, most_samples}
use Rattle.nd_base.specs.Places.{index_in, size_in}
use Rattle.nd_stats.specs.Samples.{Sample, table}
use Rattle.nd_stats.specs.Measured.{count_where, value_where, has_index, is_in_bin, profile}
use Rattle.nd_stats.specs.Tallies.{AreSmall, HasRoom, HaveRoom}
use Rattle.nd_stats.proofs.Sums.{count-le}
use Rattle.nd_stats.proofs.Tables.{get_or-table, length-table}
use Rattle.nd_stats.proofs.Bounds.{where_room, size-most}
use Rattle.nd_stats.proofs.Places.{AreSizes, index_below}

pub count_room : (p : Sample → Bool) (xs : List Sample) (n : ℕ) → n ≡ count_where p xs → length xs ≤ 67108864 → n < 2 ^ 31
count_room p xs n e few = let c = count-le p xs in omega (arith, c, e, few)

table_room : (f : ℕ → ℤ) (n : ℕ) → ((k : ℕ) → HasRoom (f k)) → HaveRoom (table f 0 n)
table_room f n each k h = subst HasRoom (sym (get_or-table f 0 n k (pos 0) (subst (λ m. k < m) (length-table f 0 n) h))) (each (0 + k))

pub bins_room : (rule : StatsRule) (xs : List Sample) → length xs ≤ 67108864 → HaveRoom (table (λ k. pos (count_where (is_in_bin rule k) xs)) 0 rule.hist_size)
bins_room rule xs few =
    table_room (λ k. pos (count_where (is_in_bin rule k) xs)) rule.hist_size (λ k. let c = count-le (is_in_bin rule k) xs in omega (arith, c, few))

pub profile_room : (dims : List Dim) (d n : ℕ) (xs : List Sample) → AreSmall xs → length xs ≤ 67108864
    → HaveRoom (table (λ k. value_where (has_index dims d k) xs) 0 n)
profile_room dims d n xs small few = table_room (λ k. value_where (has_index dims d k) xs) n (λ k. where_room (has_index dims d k) xs small few)

pub index_most : (dims : List Dim) (k p : ℕ) → AreSizes dims → sample_count dims ≤ most_samples → index_in dims k p ≤ 67108864
index_most dims k p sizes few = let a = index_below dims k p sizes in let b = size-most dims k sizes in omega (arith, a, b, few)

-- with profiles a profile has a sum for each index
pub profile_on : (rule : StatsRule) (dims : List Dim) (d : ℕ) (xs : List Sample) → rule.profiles ≡ true
    → profile rule dims d xs ≡ table (λ k. value_where (has_index dims d k) xs) 0 (size_in dims d)
profile_on rule dims d xs h = rw h refl

pub profile_off : (rule : StatsRule) (dims : List Dim) (d : ℕ) (xs : List Sample) → rule.profiles ≡ false → profile rule dims d xs ≡ []
profile_off rule dims d xs h = rw h refl
