-- The measure of two pieces.
use Rattle.std.proofs.Common.{◌≡◌, ℕ, ◌+◌, ◌<◌, ◌≤◌, List, [], ◌∷◌, ◌++◌, length, refl, ap, sym, subst, ◌∙◌, arith, ℤ, pos, ◌*ℤ◌, true, false, Bool}
use Rattle.std.proofs.Common.{length-append}
use Rattle.std.specs.Prelude.{if◌then◌else◌}
use Rattle.std.proofs.lemmas.List.Sums.{sum_by-append}
use Rattle.nd_base.specs.declared.array.Dim.{Dim}
use Rattle.nd_base.specs.declared.graph.StatsRule.{StatsRule}
use Rattle.nd_base.specs.declared.measure.Measure.{Measure}
use Rattle.nd_base.specs.Shapes.{sample_count}
use Rattle.nd_base.specs.Places.{index_in, size_in}
use Rattle.nd_stats.specs.Samples.{Sample, table}
use Rattle.nd_stats.specs.Measured.{count_where, value_where, square, has_index, is_in_bin, is_on_border, is_over, is_below, is_above, measured}
use Rattle.nd_stats.specs.Running.{IsFrame}
use Rattle.nd_stats.specs.Tallies.{AreSmall, HaveRoom}
use Rattle.nd_stats.specs.Joined.{summed, joined, HasRooms, HaveSameLengths}
use Rattle.nd_stats.specs.Merging.{AreRising, CanMerge, IsMerged}
use Rattle.nd_stats.proofs.Sums.{least-both, greatest-both, sum_of-append, sum_where-append, count-append}
use Rattle.nd_stats.proofs.Tables.{table-same, length-table}
use Rattle.nd_stats.proofs.Bounds.{where_room, value_room, moment_room, squares_room}
use Rattle.nd_stats.proofs.Rooms.{count_room, bins_room, profile_room, index_most}
use Rattle.nd_stats.proofs.Joins.{summed-table}

-- an array has no more samples than places
length-rising : (count from : ℕ) (xs : List Sample) → from ≤ count → AreRising count from xs → from + length xs ≤ count
length-rising count from [] h rising = omega arith
length-rising count from (s ∷ xs) h rising = let rest = length-rising count (s.place + 1) xs (omega (arith, rising.1)) rising.2 in omega (arith, rest, rising.0)

small_first : (xs ys : List Sample) → AreSmall (xs ++ ys) → AreSmall xs
small_first [] ys small = tt
small_first (s ∷ xs) ys small = (small.0, small_first xs ys small.1)

small_later : (xs ys : List Sample) → AreSmall (xs ++ ys) → AreSmall ys
small_later [] ys small = small
small_later (s ∷ xs) ys small = small_later xs ys small.1

profile_rooms : (b : Bool) (dims : List Dim) (d n : ℕ) (xs : List Sample) → AreSmall xs → length xs ≤ 67108864
    → HaveRoom (if b then table (λ k. value_where (has_index dims d k) xs) 0 n else [])
profile_rooms true dims d n xs small few = profile_room dims d n xs small few
profile_rooms false dims d n xs small few = λ k h. absurd (omega arith)

-- the numbers of so few samples have room for as much again
pub rooms_of : (rule : StatsRule) (id : ℤ) (dims : List Dim) (xs : List Sample) → IsFrame rule dims → AreSmall xs → length xs ≤ 67108864
    → HasRooms (measured rule id dims xs)
unfolding measured
rooms_of rule id dims xs frame small few =
    let index = λ (k p : ℕ). index_most dims k p frame.sizes frame.few in
    record {
      sums = record {
        n = omega (arith, few);
        total = value_room xs small few;
        squares = squares_room xs small few;
        border = where_room (is_on_border rule dims) xs small few;
        border_n = count_room (is_on_border rule dims) xs _ refl few;
      };
      moments = record {
        over = count_room (is_over rule) xs _ refl few;
        m0 = where_room (is_over rule) xs small few;
        mx = moment_room dims 0 (is_over rule) (index 0) xs small few;
        my = moment_room dims 1 (is_over rule) (index 1) xs small few;
      };
      lists = record {
        below = count_room (is_below rule) xs _ refl few;
        bins = bins_room rule xs few;
        above = count_room (is_above rule) xs _ refl few;
        x = profile_rooms rule.profiles dims 0 (size_in dims 0) xs small few;
        y = profile_rooms rule.profiles dims 1 (size_in dims 1) xs small few;
      };
    }

same_length : (f g : ℕ → ℤ) (n : ℕ) → length (table f 0 n) ≡ length (table g 0 n)
same_length f g n = length-table f 0 n ∙ sym (length-table g 0 n)

same_length_if : (b : Bool) (f g : ℕ → ℤ) (n : ℕ) → length (if b then table f 0 n else []) ≡ length (if b then table g 0 n else [])
same_length_if true f g n = same_length f g n
same_length_if false f g n = refl

pub lengths_of : (rule : StatsRule) (id : ℤ) (dims : List Dim) (xs ys : List Sample) → HaveSameLengths (measured rule id dims xs) (measured rule id dims ys)
unfolding measured
lengths_of rule id dims xs ys = record {
  bins = same_length (λ k. pos (count_where (is_in_bin rule k) xs)) (λ k. pos (count_where (is_in_bin rule k) ys)) rule.hist_size;
  x = same_length_if rule.profiles (λ k. value_where (has_index dims 0 k) xs) (λ k. value_where (has_index dims 0 k) ys) (size_in dims 0);
  y = same_length_if rule.profiles (λ k. value_where (has_index dims 1 k) xs) (λ k. value_where (has_index dims 1 k) ys) (size_in dims 1);
}

pub bins-both : (rule : StatsRule) (xs ys : List Sample) (n : ℕ)
    → summed (table (λ k. pos (count_where (is_in_bin rule k) xs)) 0 n) (table (λ k. pos (count_where (is_in_bin rule k) ys)) 0 n)
    ≡ table (λ k. pos (count_where (is_in_bin rule k) (xs ++ ys))) 0 n
bins-both rule xs ys n =
    summed-table (λ k. pos (count_where (is_in_bin rule k) xs)) (λ k. pos (count_where (is_in_bin rule k) ys)) 0 n
    ∙ table-same _ _ 0 n (λ k h. ap pos (sym (count-append (is_in_bin rule k) xs ys)))

profile-both : (b : Bool) (dims : List Dim) (d n : ℕ) (xs ys : List Sample) →
    summed (if b then table (λ k. value_where (has_index dims d k) xs) 0 n else []) (if b then table (λ k. value_where (has_index dims d k) ys) 0 n else [])
    ≡ (if b then table (λ k. value_where (has_index dims d k) (xs ++ ys)) 0 n else [])
profile-both false dims d n xs ys = refl
profile-both true dims d n xs ys =
    summed-table (λ k. value_where (has_index dims d k) xs) (λ k. value_where (has_index dims d k) ys) 0 n
    ∙ table-same _ _ 0 n (λ k h. sym (sum_where-append (has_index dims d k) (λ s. s.value) xs ys))

joined-some : (rule : StatsRule) (id : ℤ) (dims : List Dim) (s : Sample) (xs : List Sample) (u : Sample) (ys : List Sample)
    → joined (measured rule id dims (s ∷ xs)) (measured rule id dims (u ∷ ys)) ≡ measured rule id dims ((s ∷ xs) ++ (u ∷ ys))
unfolding measured
joined-some rule id dims s xs u ys =
    let a = s ∷ xs in
    let b = u ∷ ys in
    let low = least-both s xs u ys in
    let high = greatest-both s xs u ys in
    let n : length a + length b ≡ length (a ++ b) = sym (length-append a b) in
    let total = sym (sum_of-append (λ t. t.value) a b) in
    let squares = sym (sum_by-append (λ (t : Sample). square t.value) a b) in
    let border = sym (sum_where-append (is_on_border rule dims) (λ t. t.value) a b) in
    let border_n = sym (count-append (is_on_border rule dims) a b) in
    let over = sym (count-append (is_over rule) a b) in
    let m0 = sym (sum_where-append (is_over rule) (λ t. t.value) a b) in
    let mx = sym (sum_where-append (is_over rule) (λ t. pos (index_in dims 0 t.place) *ℤ t.value) a b) in
    let my = sym (sum_where-append (is_over rule) (λ t. pos (index_in dims 1 t.place) *ℤ t.value) a b) in
    let below = sym (count-append (is_below rule) a b) in
    let above = sym (count-append (is_above rule) a b) in
    let bins = bins-both rule a b rule.hist_size in
    let x = profile-both rule.profiles dims 0 (size_in dims 0) a b in
    let y = profile-both rule.profiles dims 1 (size_in dims 1) a b in
    cc (low.0, low.1, high.0, high.1, n, total, squares, border, border_n, over, m0, mx, my, below, above, bins, x, y)

pub joined-measured : (rule : StatsRule) (id : ℤ) (dims : List Dim) (xs ys : List Sample) → 0 < length xs → 0 < length ys
    → joined (measured rule id dims xs) (measured rule id dims ys) ≡ measured rule id dims (xs ++ ys)
joined-measured rule id dims [] ys some more = absurd (omega arith)
joined-measured rule id dims (s ∷ xs) [] some more = absurd (omega arith)
joined-measured rule id dims (s ∷ xs) (u ∷ ys) some more = joined-some rule id dims s xs u ys

-- what two measures of pieces have
pub can_join : (a b : Measure) → CanMerge a b → HasRooms a × HasRooms b × HaveSameLengths a b
unfolding CanMerge
can_join a b can =
    let p = can.0 in
    let are = can.1 in
    let both = length-append p.first p.later in
    let fits = length-rising (sample_count p.dims) 0 (p.first ++ p.later) (omega arith) are.rising in
    let few = are.frame.few in (
      subst HasRooms (sym are.one) (rooms_of p.rule p.id p.dims p.first are.frame (small_first p.first p.later are.small) (omega (arith, both, fits, few))),
      subst HasRooms (sym are.two) (rooms_of p.rule p.id p.dims p.later are.frame (small_later p.first p.later are.small) (omega (arith, both, fits, few))),
      subst (λ m. HaveSameLengths m b) (sym are.one)
          (subst (λ m. HaveSameLengths (measured p.rule p.id p.dims p.first) m) (sym are.two) (lengths_of p.rule p.id p.dims p.first p.later)),
    )

-- the two in one are the measure of both pieces
pub merged-joined : (a b both : Measure) → both ≡ joined a b → IsMerged a b both
unfolding IsMerged
merged-joined a b both e =
    λ p are. e ∙ ap (λ m. joined m b) are.one ∙ ap (joined (measured p.rule p.id p.dims p.first)) are.two
    ∙ joined-measured p.rule p.id p.dims p.first p.later are.some are.more
