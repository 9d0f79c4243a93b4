-- Two measures in one.
use Rattle.std.specs.Prelude.{◌≡◌, ◌+◌, ◌<◌, ◌^◌, ℤ, ◌+ℤ◌, List, [], ◌∷◌, length, int_lt, unsigned_abs, if◌then◌else◌}
use Rattle.nd_base.specs.declared.measure.Measure.{Measure}
use Rattle.nd_stats.specs.Tallies.{HasRoom, HaveRoom}

-- sums place by place; those without a partner stay
abbrev pub summed : List ℤ → List ℤ → List ℤ
summed [] ys = []
summed (x ∷ xs) [] = x ∷ xs
summed (x ∷ xs) (y ∷ ys) = (x +ℤ y) ∷ summed xs ys

-- the extremes of both; of equal ones that of the first
abbrev pub with_extremes : Measure → Measure → Measure
with_extremes one two = record one {
  min = (if int_lt two.min one.min then two.min else one.min);
  min_at = (if int_lt two.min one.min then two.min_at else one.min_at);
  max = (if int_lt one.max two.max then two.max else one.max);
  max_at = (if int_lt one.max two.max then two.max_at else one.max_at);
}

abbrev pub with_sums : Measure → Measure → Measure
with_sums one two = record one {
  n = one.n + two.n;
  total = one.total +ℤ two.total;
  squares = one.squares + two.squares;
  border = one.border +ℤ two.border;
  border_n = one.border_n + two.border_n;
}

abbrev pub with_moments : Measure → Measure → Measure
with_moments one two = record one {
  over = one.over + two.over;
  m0 = one.m0 +ℤ two.m0;
  mx = one.mx +ℤ two.mx;
  my = one.my +ℤ two.my;
}

abbrev pub with_lists : Measure → Measure → Measure
with_lists one two = record one {
  below = one.below + two.below;
  bins = summed one.bins two.bins;
  above = one.above + two.above;
  x = summed one.x two.x;
  y = summed one.y two.y;
}

abbrev pub joined : Measure → Measure → Measure
joined one two = with_lists (with_moments (with_sums (with_extremes one two) two) two) two

-- sums that have room for as much again
pub record HaveSumRooms (m : Measure) : Type 0 where
  pub n : m.n < 2 ^ 31
  pub total : HasRoom m.total
  pub squares : m.squares < 2 ^ 100
  pub border : HasRoom m.border
  pub border_n : m.border_n < 2 ^ 31

pub record HaveMomentRooms (m : Measure) : Type 0 where
  pub over : m.over < 2 ^ 31
  pub m0 : HasRoom m.m0
  pub mx : unsigned_abs m.mx < 2 ^ 100
  pub my : unsigned_abs m.my < 2 ^ 100

pub record HaveListRooms (m : Measure) : Type 0 where
  pub below : m.below < 2 ^ 31
  pub bins : HaveRoom m.bins
  pub above : m.above < 2 ^ 31
  pub x : HaveRoom m.x
  pub y : HaveRoom m.y

pub record HasRooms (m : Measure) : Type 0 where
  pub sums : HaveSumRooms m
  pub moments : HaveMomentRooms m
  pub lists : HaveListRooms m

-- lists of the same lengths
pub record HaveSameLengths (one two : Measure) : Type 0 where
  pub bins : length one.bins ≡ length two.bins
  pub x : length one.x ≡ length two.x
  pub y : length one.y ≡ length two.y
