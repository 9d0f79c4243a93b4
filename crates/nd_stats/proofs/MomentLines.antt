-- Moments line by line.
use Rattle.std.proofs.Common.{◌≡◌, ℕ, ◌+◌, ◌<◌, ◌≤◌, ◌^◌, List, ◌++◌, length, ap, sym, subst, ◌∙◌, arith, ℤ, pos, ◌+ℤ◌, ◌*ℤ◌}
use Rattle.std.specs.Prelude.{unsigned_abs}
use Rattle.nd_base.specs.declared.array.Dim.{Dim}
use Rattle.nd_base.specs.declared.graph.StatsRule.{StatsRule}
use Rattle.nd_stats.specs.declared.over.Over.{Over}
use Rattle.nd_stats.specs.declared.tally.Moments.{Moments}
use Rattle.nd_base.specs.Places.{index_in, size_in}
use Rattle.nd_stats.specs.Samples.{Sample, placed}
use Rattle.nd_stats.specs.Measured.{count_where, value_where, is_over, moment}
use Rattle.nd_stats.specs.Tallies.{AreSmall, HasRoom}
use Rattle.nd_stats.specs.Over.{IsOver, weighted}
use Rattle.nd_stats.specs.Running.{IsFrame, AreMoments, HaveMomentRooms}
use Rattle.nd_stats.proofs.Sums.{count-append, sum_where-append}
use Rattle.nd_stats.proofs.Alongs.{count_moved, value_moved, weighted_moved, moment_along, moment_across}
use Rattle.nd_stats.proofs.Bounds.{where_room, moment_room}
use Rattle.nd_stats.proofs.Rooms.{count_room, index_most}

-- with the samples of a line
pub moments_line : (rule : StatsRule) (dims : List Dim) (xs : List Sample) (p x y : ℕ) (vs : List ℤ) (a b : Moments) (o : Over) → AreMoments rule dims xs a
    → IsOver rule.threshold (placed 0 vs) o
    → x ≡ index_in dims 0 p → y ≡ index_in dims 1 p → x + length vs ≤ size_in dims 0
    → b.over ≡ a.over + o.count → b.m0 ≡ a.m0 +ℤ o.sum → b.mx ≡ a.mx +ℤ (o.weighted +ℤ (pos x *ℤ o.sum)) → b.my ≡ a.my +ℤ (pos y *ℤ o.sum)
    → AreMoments rule dims (xs ++ placed p vs) b
moments_line rule dims xs p x y vs a b o are is ex ey fits e f g h =
    let t = rule.threshold in
    let q = is_over rule in
    let back : x + 0 ≡ x = omega arith in
    record {
      over = e ∙ ap (λ n. n + o.count) are.over ∙ ap (λ n. count_where q xs + n) (is.count ∙ count_moved t 0 p vs) ∙ sym (count-append q xs (placed p vs));
      m0 = f ∙ ap (λ z. z +ℤ o.sum) are.m0 ∙ ap (λ z. value_where q xs +ℤ z) (is.sum ∙ value_moved t 0 p vs)
          ∙ sym (sum_where-append q (λ s. s.value) xs (placed p vs));
      mx = g ∙ ap (λ z. z +ℤ (o.weighted +ℤ (pos x *ℤ o.sum))) are.mx
          ∙ ap (λ z. moment rule dims 0 xs +ℤ (z +ℤ (pos x *ℤ o.sum))) is.weighted
          ∙ ap (λ z. moment rule dims 0 xs +ℤ (weighted t (placed 0 vs) +ℤ (pos x *ℤ z))) is.sum
          ∙ ap (λ z. moment rule dims 0 xs +ℤ z) (sym (weighted_moved t x 0 vs) ∙ ap (λ n. weighted t (placed n vs)) back
          ∙ sym (moment_along rule dims p x vs (sym ex) fits))
          ∙ sym (sum_where-append q (λ s. pos (index_in dims 0 s.place) *ℤ s.value) xs (placed p vs));
      my = h ∙ ap (λ z. z +ℤ (pos y *ℤ o.sum)) are.my ∙ ap (λ z. moment rule dims 1 xs +ℤ (pos y *ℤ z)) (is.sum ∙ value_moved t 0 p vs)
          ∙ ap (λ z. moment rule dims 1 xs +ℤ z) (sym (moment_across rule dims p x y vs (sym ex) (sym ey) fits))
          ∙ sym (sum_where-append q (λ s. pos (index_in dims 1 s.place) *ℤ s.value) xs (placed p vs));
    }

-- with the moments of later samples
pub moments_both : (rule : StatsRule) (dims : List Dim) (xs ys : List Sample) (a b c : Moments) → AreMoments rule dims xs a → AreMoments rule dims ys b
    → c.over ≡ a.over + b.over → c.m0 ≡ a.m0 +ℤ b.m0 → c.mx ≡ a.mx +ℤ b.mx → c.my ≡ a.my +ℤ b.my → AreMoments rule dims (xs ++ ys) c
moments_both rule dims xs ys a b c one two e f g h =
    let q = is_over rule in
    record {
      over = e ∙ ap (λ n. n + b.over) one.over ∙ ap (λ n. count_where q xs + n) two.over ∙ sym (count-append q xs ys);
      m0 = f ∙ ap (λ z. z +ℤ b.m0) one.m0 ∙ ap (λ z. value_where q xs +ℤ z) two.m0 ∙ sym (sum_where-append q (λ s. s.value) xs ys);
      mx = g ∙ ap (λ z. z +ℤ b.mx) one.mx ∙ ap (λ z. moment rule dims 0 xs +ℤ z) two.mx
          ∙ sym (sum_where-append q (λ s. pos (index_in dims 0 s.place) *ℤ s.value) xs ys);
      my = h ∙ ap (λ z. z +ℤ b.my) one.my ∙ ap (λ z. moment rule dims 1 xs +ℤ z) two.my
          ∙ sym (sum_where-append q (λ s. pos (index_in dims 1 s.place) *ℤ s.value) xs ys);
    }

pub moment_rooms : (rule : StatsRule) (dims : List Dim) (xs : List Sample) (m : Moments) → IsFrame rule dims → AreMoments rule dims xs m → AreSmall xs
    → length xs ≤ 67108864 → HaveMomentRooms m
moment_rooms rule dims xs m frame is small few =
    let index = λ (k p : ℕ). index_most dims k p frame.sizes frame.few in
    record {
      over = count_room (is_over rule) xs m.over is.over few;
      m0 = subst HasRoom (sym is.m0) (where_room (is_over rule) xs small few);
      mx = subst (λ v. unsigned_abs v < 2 ^ 100) (sym is.mx) (moment_room dims 0 (is_over rule) (index 0) xs small few);
      my = subst (λ v. unsigned_abs v < 2 ^ 100) (sym is.my) (moment_room dims 1 (is_over rule) (index 1) xs small few);
    }
