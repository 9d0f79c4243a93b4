-- The numbers of some samples with those of others.
use Rattle.std.specs.Prelude.{◌+◌, ◌<◌, ◌^◌, ◌+ℤ◌, unsigned_abs}
use Rattle.std.specs.Int.{int_min, int_max}
use Rattle.nd_series.specs.declared.row.Part.{Part}

abbrev pub joined : Part → Part → Part
joined a b = record {
  min = int_min a.min b.min;
  max = int_max a.max b.max;
  total = a.total +ℤ b.total;
  border = a.border +ℤ b.border;
  border_n = a.border_n + b.border_n;
}

-- numbers that have room for as much again
pub record HasRooms (p : Part) : Type 0 where
  pub total : unsigned_abs p.total < 2 ^ 60
  pub border : unsigned_abs p.border < 2 ^ 60
  pub border_n : p.border_n < 2 ^ 31
