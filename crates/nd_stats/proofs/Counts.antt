-- Counts of a histogram: of one sample more, and of two pieces.
use Rattle.std.proofs.Common.{◌≡◌, ℕ, ◌+◌, ◌≤◌, List, [], ◌∷◌, ◌++◌, length, ap, sym, subst, ◌∙◌, arith, ℤ, pos}
use Rattle.std.proofs.Common.{◌&&◌}
use Rattle.std.specs.Prelude.{int_lt}
use Rattle.nd_base.specs.declared.array.SampleType.{SampleType}
use Rattle.nd_base.specs.declared.graph.StatsRule.{StatsRule}
use Rattle.nd_base.specs.GraphRules.{IsStats}
use Rattle.nd_base.specs.Samples.{numbers}
use Rattle.lane_kernels.specs.Plain.{stored}
use Rattle.nd_stats.specs.declared.histogram.Ends.{Ends}
use Rattle.nd_stats.specs.Samples.{Sample, placed}
use Rattle.nd_stats.specs.Measured.{count_where, has_histogram, is_below, is_above, is_in_bin}
use Rattle.nd_stats.specs.Tallies.{HaveRoom, bins_after, one_if}
use Rattle.nd_stats.specs.Joined.{summed}
use Rattle.nd_stats.specs.Running.{IsCounted, HaveCountRooms}
use Rattle.nd_stats.proofs.Growth.{counted_more}
use Rattle.nd_stats.proofs.Merges.{bins-both}
use Rattle.nd_stats.proofs.Pieces.{length-piece, piece-more, sample_at}
use Rattle.nd_stats.proofs.Rooms.{bins_room, count_room}
use Rattle.nd_stats.proofs.Sums.{count-append}
use Rattle.nd_stats.proofs.Tables.{length-table}

-- counts of so few samples have room for one more
pub can_count : (rule : StatsRule) (kind : SampleType) (from k : ℕ) (bytes : List ℕ) (e : Ends) (counts : List ℤ)
    → IsCounted rule (placed from (numbers kind k bytes)) e counts → k ≤ 67108864 → HaveCountRooms rule e counts
can_count rule kind from k bytes e counts is few =
    let xs = placed from (numbers kind k bytes) in
    let long = length-piece kind from k bytes in
    let fits : length xs ≤ 67108864 = omega (arith, long, few) in
    record {
      size = ap length is.bins ∙ length-table (λ b. pos (count_where (is_in_bin rule b) xs)) 0 rule.hist_size;
      room = subst HaveRoom (sym is.bins) (bins_room rule xs fits);
      below = count_room (is_below rule) xs e.below is.below fits;
      above = count_room (is_above rule) xs e.above is.above fits;
    }

-- the counts of the next sample of a piece
pub counted_next : (rule : StatsRule) (kind : SampleType) (from k : ℕ) (bytes : List ℕ) (v : ℤ) (a b : Ends) (old new : List ℤ) → IsStats rule
    → v ≡ stored kind bytes k → IsCounted rule (placed from (numbers kind k bytes)) a old
    → b.below ≡ a.below + one_if (has_histogram rule && int_lt v rule.hist_lo) → new ≡ bins_after rule v old
    → b.above ≡ a.above + one_if (has_histogram rule && int_lt rule.hist_hi v)
    → IsCounted rule (placed from (numbers kind (k + 1) bytes)) b new
counted_next rule kind from k bytes v a b old new sound value is below bins above =
    let s : Sample = record { place = from + k; value = v } in
    let same : s ≡ sample_at kind from k bytes = ap (λ w. let u : Sample = record { place = from + k; value = w } in u) value in
    subst (λ xs. IsCounted rule xs b new) (ap (λ u. placed from (numbers kind k bytes) ++ u ∷ []) same ∙ sym (piece-more kind from k bytes))
    (counted_more rule (placed from (numbers kind k bytes)) s a b old new sound is below bins above)

-- the counts of two pieces
pub counted_both : (rule : StatsRule) (xs ys : List Sample) (a b c : Ends) (first second both : List ℤ) → IsCounted rule xs a first → IsCounted rule ys b second
    → c.below ≡ a.below + b.below → both ≡ summed first second → c.above ≡ a.above + b.above → IsCounted rule (xs ++ ys) c both
counted_both rule xs ys a b c first second both one two below bins above =
    record {
      below = below ∙ ap (λ n. n + b.below) one.below ∙ ap (λ n. count_where (is_below rule) xs + n) two.below ∙ sym (count-append (is_below rule) xs ys);
      bins = bins ∙ ap (λ l. summed l second) one.bins ∙ ap (summed _) two.bins ∙ bins-both rule xs ys rule.hist_size;
      above = above ∙ ap (λ n. n + b.above) one.above ∙ ap (λ n. count_where (is_above rule) xs + n) two.above ∙ sym (count-append (is_above rule) xs ys);
    }
