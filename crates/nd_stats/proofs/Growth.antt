-- The numbers of one sample more.
use Rattle.std.proofs.Common.{◌≡◌, ℕ, ◌+◌, ◌<◌, ◌≤◌, ◌^◌, List, [], ◌∷◌, ◌++◌, length, refl, ap, sym, subst, ◌∙◌, arith, ℤ, pos, ◌+ℤ◌, ◌*ℤ◌, true, false}
use Rattle.std.proofs.Common.{Bool, not, ◌&&◌, length-append, mul-zero}
use Rattle.std.specs.Prelude.{int_lt, if◌then◌else◌, unsigned_abs}
use Rattle.nd_base.specs.declared.array.Dim.{Dim}
use Rattle.nd_base.specs.declared.graph.StatsRule.{StatsRule}
use Rattle.nd_base.specs.GraphRules.{IsStats}
use Rattle.nd_stats.specs.declared.tally.Tally.{Tally}
use Rattle.nd_stats.specs.declared.tally.Extremes.{Extremes}
use Rattle.nd_stats.specs.declared.tally.Sums.{Sums}
use Rattle.nd_stats.specs.declared.tally.Moments.{Moments}
use Rattle.nd_stats.specs.declared.histogram.Ends.{Ends}
use Rattle.nd_stats.specs.declared.tally.Histogram.{Histogram}
use Rattle.nd_stats.specs.declared.spot.Spot.{Spot}
use Rattle.nd_base.specs.Places.{index_in, size_in}
use Rattle.nd_stats.specs.Samples.{Sample, least_from, greatest_from, is_at_border}
use Rattle.nd_stats.specs.Measured.{count_where, value_where, square, has_histogram, has_index, is_in_bin, is_on_border, is_over, is_below, is_above}
use Rattle.nd_stats.specs.Measured.{moment, profile}
use Rattle.nd_stats.specs.Spots.{IsSpot}
use Rattle.nd_stats.specs.Tallies.{AreSmall, HasRoom, HaveRoom, added_at, bins_after, counted, one_if}
use Rattle.nd_stats.specs.Running.{IsFrame, AreExtremes, AreSums, AreMoments, IsHistogram, IsCounted, CanGrow}
use Rattle.nd_stats.proofs.Sums.{least-both, greatest-both, sum_of-more, sum_where-more, count-more}
use Rattle.nd_stats.proofs.Steps.{profile-more, bins-more}
use Rattle.nd_stats.proofs.Tables.{length-table}
use Rattle.nd_stats.proofs.Places.{index_below}
use Rattle.nd_stats.proofs.Bounds.{where_room, value_room, moment_room, squares_room}
use Rattle.nd_stats.proofs.Rooms.{count_room, bins_room, profile_room, index_most, profile_on, profile_off}
use Rattle.std.proofs.lemmas.List.Sums.{sum_by_push}

pub extremes_more : (first : Sample) (xs : List Sample) (s : Sample) (e f : Extremes) → AreExtremes first xs e
    → f.min ≡ (if int_lt s.value e.min then s.value else e.min) → f.min_at ≡ (if int_lt s.value e.min then s.place else e.min_at)
    → f.max ≡ (if int_lt e.max s.value then s.value else e.max) → f.max_at ≡ (if int_lt e.max s.value then s.place else e.max_at)
    → AreExtremes first (xs ++ s ∷ []) f
extremes_more first xs s e f are a b c d =
    let low = least_from first xs in
    let high = greatest_from first xs in
    let least = least-both first xs s [] in
    let greatest = greatest-both first xs s [] in
    record {
      min = a ∙ ap (λ m. if int_lt s.value m then s.value else m) are.min ∙ least.0;
      min_at = b ∙ ap (λ m. if int_lt s.value m then s.place else e.min_at) are.min ∙ ap (λ p. if int_lt s.value low.value then s.place else p) are.min_at
          ∙ least.1;
      max = c ∙ ap (λ m. if int_lt m s.value then s.value else m) are.max ∙ greatest.0;
      max_at = d ∙ ap (λ m. if int_lt m s.value then s.place else e.max_at) are.max ∙ ap (λ p. if int_lt high.value s.value then s.place else p) are.max_at
          ∙ greatest.1;
    }

pub sums_more : (rule : StatsRule) (dims : List Dim) (xs : List Sample) (s : Sample) (at_border : Bool) (a b : Sums) → AreSums rule dims xs a
    → at_border ≡ is_at_border rule.border dims s.place
    → b.n ≡ a.n + 1 → b.total ≡ a.total +ℤ s.value → b.squares ≡ a.squares + square s.value → b.border ≡ a.border +ℤ counted at_border s.value
    → b.border_n ≡ a.border_n + one_if at_border
    → AreSums rule dims (xs ++ s ∷ []) b
sums_more rule dims xs s at_border a b are edge e f g h i =
    record {
      n = e ∙ ap (λ n. n + 1) are.n ∙ sym (length-append xs (s ∷ []));
      total = f ∙ ap (λ n. n +ℤ s.value) are.total ∙ sym (sum_of-more (λ t. t.value) xs s);
      squares = g ∙ ap (λ n. n + square s.value) are.squares ∙ sym (sum_by_push (λ t. square t.value) xs s);
      border = h ∙ ap (λ n. n +ℤ counted at_border s.value) are.border ∙ ap (λ x. value_where (is_on_border rule dims) xs +ℤ counted x s.value) edge
          ∙ sym (sum_where-more (is_on_border rule dims) (λ t. t.value) xs s);
      border_n = i ∙ ap (λ n. n + one_if at_border) are.border_n ∙ ap (λ x. count_where (is_on_border rule dims) xs + one_if x) edge
          ∙ sym (count-more (is_on_border rule dims) xs s);
    }

pub times_counted : (test : Bool) (x : ℕ) (v : ℤ) → pos x *ℤ counted test v ≡ (if test then pos x *ℤ v else pos 0)
times_counted true x v = refl
times_counted false x v = ap pos (mul-zero x)

pub moments_more : (rule : StatsRule) (dims : List Dim) (xs : List Sample) (s : Sample) (spot : Spot) (over : Bool) (weight : ℤ) (a b : Moments)
    → AreMoments rule dims xs a → over ≡ not (int_lt s.value rule.threshold) → weight ≡ counted over s.value
    → IsSpot rule.border dims spot → spot.place ≡ s.place
    → b.over ≡ a.over + one_if over → b.m0 ≡ a.m0 +ℤ weight → b.mx ≡ a.mx +ℤ (pos spot.x *ℤ weight) → b.my ≡ a.my +ℤ (pos spot.y *ℤ weight)
    → AreMoments rule dims (xs ++ s ∷ []) b
moments_more rule dims xs s spot over weight a b are e w is at f g h i =
    let t = is_over rule s in
    let wt : weight ≡ counted t s.value = w ∙ ap (λ x. counted x s.value) e in
    let x : spot.x ≡ index_in dims 0 s.place = is.x ∙ ap (index_in dims 0) at in
    let y : spot.y ≡ index_in dims 1 s.place = is.y ∙ ap (index_in dims 1) at in
    record {
      over = f ∙ ap (λ n. n + one_if over) are.over ∙ ap (λ z. count_where (is_over rule) xs + one_if z) e ∙ sym (count-more (is_over rule) xs s);
      m0 = g ∙ ap (λ n. n +ℤ weight) are.m0 ∙ ap (λ z. value_where (is_over rule) xs +ℤ z) wt ∙ sym (sum_where-more (is_over rule) (λ u. u.value) xs s);
      mx = h ∙ ap (λ n. n +ℤ (pos spot.x *ℤ weight)) are.mx ∙ ap (λ z. moment rule dims 0 xs +ℤ (pos z *ℤ weight)) x
          ∙ ap (λ z. moment rule dims 0 xs +ℤ (pos (index_in dims 0 s.place) *ℤ z)) wt
          ∙ ap (λ z. moment rule dims 0 xs +ℤ z) (times_counted t (index_in dims 0 s.place) s.value)
          ∙ sym (sum_where-more (is_over rule) (λ u. pos (index_in dims 0 u.place) *ℤ u.value) xs s);
      my = i ∙ ap (λ n. n +ℤ (pos spot.y *ℤ weight)) are.my ∙ ap (λ z. moment rule dims 1 xs +ℤ (pos z *ℤ weight)) y
          ∙ ap (λ z. moment rule dims 1 xs +ℤ (pos (index_in dims 1 s.place) *ℤ z)) wt
          ∙ ap (λ z. moment rule dims 1 xs +ℤ z) (times_counted t (index_in dims 1 s.place) s.value)
          ∙ sym (sum_where-more (is_over rule) (λ u. pos (index_in dims 1 u.place) *ℤ u.value) xs s);
    }

pub histogram_more : (rule : StatsRule) (dims : List Dim) (xs : List Sample) (s : Sample) (a b : Histogram) → IsFrame rule dims → IsHistogram rule xs a
    → b.below ≡ a.below + one_if (has_histogram rule && int_lt s.value rule.hist_lo) → b.bins.items ≡ bins_after rule s.value a.bins.items
    → b.above ≡ a.above + one_if (has_histogram rule && int_lt rule.hist_hi s.value)
    → IsHistogram rule (xs ++ s ∷ []) b
histogram_more rule dims xs s a b frame is e f g =
    record {
      below = e ∙ ap (λ n. n + one_if (is_below rule s)) is.below ∙ sym (count-more (is_below rule) xs s);
      bins = f ∙ ap (bins_after rule s.value) is.bins ∙ bins-more rule xs s frame.sound;
      above = g ∙ ap (λ n. n + one_if (is_above rule s)) is.above ∙ sym (count-more (is_above rule) xs s);
    }

-- the counts of one sample more
pub counted_more : (rule : StatsRule) (xs : List Sample) (s : Sample) (a b : Ends) (old new : List ℤ) → IsStats rule → IsCounted rule xs a old
    → b.below ≡ a.below + one_if (has_histogram rule && int_lt s.value rule.hist_lo) → new ≡ bins_after rule s.value old
    → b.above ≡ a.above + one_if (has_histogram rule && int_lt rule.hist_hi s.value)
    → IsCounted rule (xs ++ s ∷ []) b new
counted_more rule xs s a b old new sound is e f g =
    record {
      below = e ∙ ap (λ n. n + one_if (is_below rule s)) is.below ∙ sym (count-more (is_below rule) xs s);
      bins = f ∙ ap (bins_after rule s.value) is.bins ∙ bins-more rule xs s sound;
      above = g ∙ ap (λ n. n + one_if (is_above rule s)) is.above ∙ sym (count-more (is_above rule) xs s);
    }

pub profile_grows : (rule : StatsRule) (dims : List Dim) (d : ℕ) (xs : List Sample) (s : Sample) (i : ℕ) (a b : List ℤ) → IsFrame rule dims
    → rule.profiles ≡ true → a ≡ profile rule dims d xs → i ≡ index_in dims d s.place → b ≡ added_at a i s.value → b ≡ profile rule dims d (xs ++ s ∷ [])
profile_grows rule dims d xs s i a b frame on is at e =
    e ∙ ap (λ k. added_at a k s.value) at
    ∙ ap (λ l. added_at l (index_in dims d s.place) s.value) (is ∙ profile_on rule dims d xs on)
    ∙ profile-more dims d (size_in dims d) xs s (index_below dims d s.place frame.sizes)
    ∙ sym (profile_on rule dims d (xs ++ s ∷ []) on)

pub profile_stays : (rule : StatsRule) (dims : List Dim) (d : ℕ) (xs : List Sample) (s : Sample) (a : List ℤ) → rule.profiles ≡ false
    → a ≡ profile rule dims d xs → a ≡ profile rule dims d (xs ++ s ∷ [])
profile_stays rule dims d xs s a off is = is ∙ profile_off rule dims d xs off ∙ sym (profile_off rule dims d (xs ++ s ∷ []) off)

-- what one sample more asks of the numbers so far
pub record Rooms (rule : StatsRule) (dims : List Dim) (t : Tally) : Type 0 where
  pub n : t.sums.n < 2 ^ 31
  pub total : HasRoom t.sums.total
  pub squares : t.sums.squares < 2 ^ 100
  pub border : HasRoom t.sums.border
  pub border_n : t.sums.border_n < 2 ^ 31
  pub over : t.moments.over < 2 ^ 31
  pub m0 : HasRoom t.moments.m0
  pub mx : unsigned_abs t.moments.mx < 2 ^ 100
  pub my : unsigned_abs t.moments.my < 2 ^ 100
  pub below : t.histogram.below < 2 ^ 31
  pub bins : length t.histogram.bins.items ≡ rule.hist_size
  pub bins_room : HaveRoom t.histogram.bins.items
  pub above : t.histogram.above < 2 ^ 31
  pub x : rule.profiles ≡ true → HaveRoom t.x.items × (length t.x.items ≡ size_in dims 0)
  pub y : rule.profiles ≡ true → HaveRoom t.y.items × (length t.y.items ≡ size_in dims 1)

profile_has : (rule : StatsRule) (dims : List Dim) (d : ℕ) (xs : List Sample) (items : List ℤ) → items ≡ profile rule dims d xs → AreSmall xs
    → length xs ≤ 67108864 → rule.profiles ≡ true → HaveRoom items × (length items ≡ size_in dims d)
profile_has rule dims d xs items is small few on =
    let e = is ∙ profile_on rule dims d xs on in (
      subst HaveRoom (sym e) (profile_room dims d (size_in dims d) xs small few),
      ap length e
          ∙ length-table (λ k. value_where (has_index dims d k) xs) 0 (size_in dims d),
    )

pub rooms : (rule : StatsRule) (dims : List Dim) (t : Tally) → IsFrame rule dims → ((first : Sample) × ((xs : List Sample) × CanGrow rule dims first xs t))
    → Rooms rule dims t
rooms rule dims t frame before =
    let xs = before.1.0 in
    let grow = before.1.1 in
    let is = grow.tally in
    let index = λ (k p : ℕ). index_most dims k p frame.sizes frame.few in
    record {
      n = (let few = grow.few in let e = is.sums.n in omega (arith, few, e));
      total = subst HasRoom (sym is.sums.total) (value_room xs grow.small grow.few);
      squares = subst (λ n. n < 2 ^ 100) (sym is.sums.squares) (squares_room xs grow.small grow.few);
      border = subst HasRoom (sym is.sums.border) (where_room (is_on_border rule dims) xs grow.small grow.few);
      border_n = count_room (is_on_border rule dims) xs t.sums.border_n is.sums.border_n grow.few;
      over = count_room (is_over rule) xs t.moments.over is.moments.over grow.few;
      m0 = subst HasRoom (sym is.moments.m0) (where_room (is_over rule) xs grow.small grow.few);
      mx = subst (λ v. unsigned_abs v < 2 ^ 100) (sym is.moments.mx) (moment_room dims 0 (is_over rule) (index 0) xs grow.small grow.few);
      my = subst (λ v. unsigned_abs v < 2 ^ 100) (sym is.moments.my) (moment_room dims 1 (is_over rule) (index 1) xs grow.small grow.few);
      below = count_room (is_below rule) xs t.histogram.below is.histogram.below grow.few;
      bins = ap length is.histogram.bins ∙ length-table (λ k. pos (count_where (is_in_bin rule k) xs)) 0 rule.hist_size;
      bins_room = subst HaveRoom (sym is.histogram.bins) (bins_room rule xs grow.few);
      above = count_room (is_above rule) xs t.histogram.above is.histogram.above grow.few;
      x = λ on. profile_has rule dims 0 xs t.x.items is.x grow.small grow.few on;
      y = λ on. profile_has rule dims 1 xs t.y.items is.y grow.small grow.few on;
    }
