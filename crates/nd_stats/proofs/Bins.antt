-- Bins of a histogram, and products.
use Rattle.std.proofs.Common.{◌≡◌, ◌≢◌, ℕ, zero, suc, ◌+◌, ◌-◌, ◌*◌, ◌/◌, ◌<◌, ◌≤◌, ◌^◌, sym, subst, arith, ℤ, pos, negsuc, ◌-ℤ◌, ◌*ℤ◌, ◌≤ℤ◌, ◌<ℤ◌, w64}
use Rattle.std.proofs.Common.{FitsSigned}
use Rattle.std.proofs.Common.{List, ap}
use Rattle.std.specs.Prelude.{Bool, true, false, not, ◌&&◌, refl, unsigned_abs, int_lt, if◌then◌else◌}
use Rattle.std.proofs.lemmas.Bool.{ne_eqb}
use Rattle.std.proofs.Math.Nat.{mul-le-mul, mul-le-mul_left, mul-le-mul_right, div-lt_iff_lt-mul}
use Rattle.std.proofs.lemmas.Int.{ints, fits_signed_mul}
use Rattle.nd_base.specs.GraphRules.{IsStats}
use Rattle.nd_base.specs.declared.graph.StatsRule.{StatsRule}
use Rattle.nd_stats.specs.Measured.{bin_at, bin_of, has_histogram}
use Rattle.nd_stats.specs.Tallies.{added_at, bins_after}

pub fits_product : (x : ℕ) (a b v : ℤ) → a ≡ pos x → b ≡ v → x ≤ 67108864 → unsigned_abs v < 2 ^ 32 → FitsSigned w64 (a *ℤ b)
fits_product x a b v e f small weight =
    let g : unsigned_abs a ≤ 67108864 = subst (λ z. unsigned_abs z ≤ 67108864) (sym e) small in
    let h : unsigned_abs b ≤ 4294967296 = subst (λ z. unsigned_abs z ≤ 4294967296) (sym f) (omega arith) in
    fits_signed_mul w64 a b 67108864 4294967296 g h (omega arith)

-- a value of the range is no further from its low end than the high end is
pub within_range : (lo v hi : ℤ) → lo ≤ℤ v → v ≤ℤ hi → unsigned_abs (v -ℤ lo) ≤ unsigned_abs (hi -ℤ lo)
within_range (pos a) (pos b) (pos c) h k = omega (arith, ints)
within_range (pos a) (pos b) (negsuc c) h k = absurd (omega (arith, ints))
within_range (pos a) (negsuc b) hi h k = absurd (omega (arith, ints))
within_range (negsuc a) (pos b) (pos c) h k = omega (arith, ints)
within_range (negsuc a) (pos b) (negsuc c) h k = absurd (omega (arith, ints))
within_range (negsuc a) (negsuc b) (pos c) h k = omega (arith, ints)
within_range (negsuc a) (negsuc b) (negsuc c) h k = omega (arith, ints)

pub range_most : (lo hi : ℤ) → negsuc 2147483647 ≤ℤ lo → hi ≤ℤ pos 4294967295 → lo ≤ℤ hi → unsigned_abs (hi -ℤ lo) ≤ 8589934592
range_most (pos a) (pos b) h k l = omega (arith, ints)
range_most (pos a) (negsuc b) h k l = absurd (omega (arith, ints))
range_most (negsuc a) (pos b) h k l = omega (arith, ints)
range_most (negsuc a) (negsuc b) h k l = omega (arith, ints)

pub range_positive : (lo hi : ℤ) → lo <ℤ hi → 0 < unsigned_abs (hi -ℤ lo)
range_positive (pos a) (pos b) h = omega (arith, ints)
range_positive (pos a) (negsuc b) h = absurd (omega (arith, ints))
range_positive (negsuc a) (pos b) h = omega (arith, ints)
range_positive (negsuc a) (negsuc b) h = omega (arith, ints)

pub ordered_ends : (lo v hi : ℤ) → lo ≤ℤ v → v ≤ℤ hi → lo ≤ℤ hi
ordered_ends lo v hi h k = omega (arith, ints)

-- the ends of a histogram's range
pub ordered : (rule : StatsRule) → IsStats rule → rule.hist_size ≢ 0 → rule.hist_lo ≤ℤ rule.hist_hi
ordered rule stats some = at_most rule.hist_lo rule.hist_hi (stats.ordered some)
  where
    at_most : (lo hi : ℤ) → lo <ℤ hi → lo ≤ℤ hi
    at_most lo hi h = grind (arith, ints)

pub bin_product : (a m : ℕ) → a ≤ 8589934592 → m ≤ 1024 → 2 * a * m ≤ 17592186044416
bin_product a m h k = let p = mul-le-mul (mul-le-mul_left 2 h) k in omega (arith, p)

-- the bin of a value is below the number of bins
pub bin_below : (a range size : ℕ) → a ≤ range → 0 < range → 0 < size → (2 * a * (size - 1) + range) / (2 * range) < size
bin_below a range zero h some any = absurd (omega arith)
bin_below a range (suc m) h some any =
    let p : a * m ≤ range * m = mul-le-mul_right m h in
    let e : suc m - 1 ≡ m = omega arith in
    (div-lt_iff_lt-mul (omega arith)).1 (rw e (omega (arith, p)))

-- the bins of the range are below their number
pub bin_at_below : (rule : StatsRule) (above : ℕ) → IsStats rule → rule.hist_size ≢ 0 → above ≤ unsigned_abs (rule.hist_hi -ℤ rule.hist_lo)
    → bin_at rule above < rule.hist_size
bin_at_below rule above stats some within =
    bin_below above (unsigned_abs (rule.hist_hi -ℤ rule.hist_lo)) rule.hist_size within
    (range_positive rule.hist_lo rule.hist_hi (stats.ordered some)) (omega (arith, some))

-- the bin of a value of the range is one of the bins
pub bin_of_range : (rule : StatsRule) (v : ℤ) → IsStats rule → rule.hist_size ≢ 0 → rule.hist_lo ≤ℤ v → v ≤ℤ rule.hist_hi → bin_of rule v < rule.hist_size
bin_of_range rule v stats some from to =
    bin_at_below rule (unsigned_abs (v -ℤ rule.hist_lo)) stats some (within_range rule.hist_lo v rule.hist_hi from to)

-- a value that is no further from the low end than the high end is lies in the range
pub in_range : (lo v hi : ℤ) → lo ≤ℤ hi → lo ≤ℤ v → unsigned_abs (v -ℤ lo) ≤ unsigned_abs (hi -ℤ lo) → v ≤ℤ hi
in_range lo v hi h k l = omega (arith, ints, h, k, l)

-- and one that is further lies above it
pub beyond_range : (lo v hi : ℤ) → lo ≤ℤ hi → lo ≤ℤ v → unsigned_abs (hi -ℤ lo) < unsigned_abs (v -ℤ lo) → int_lt hi v ≡ true
beyond_range lo v hi h k l = grind (arith, ints)

pub not_above : (a b : ℤ) → a ≤ℤ b → int_lt b a ≡ false
not_above a b h = grind (arith, ints)

pub some_histogram : (rule : StatsRule) → rule.hist_size ≢ 0 → has_histogram rule ≡ true
some_histogram rule some = ap not (ne_eqb rule.hist_size 0 some)

not_less : (a b : ℤ) → a ≤ℤ b → not (int_lt b a) ≡ true
not_less a b h = ap not (not_above a b h)

-- one value of the range more
pub bins_inside : (rule : StatsRule) (v : ℤ) (bins : List ℤ) → rule.hist_size ≢ 0 → rule.hist_lo ≤ℤ v → v ≤ℤ rule.hist_hi
    → bins_after rule v bins ≡ added_at bins (bin_of rule v) (pos 1)
bins_inside rule v bins some from to = rw (some_histogram rule some) (rw (not_less rule.hist_lo v from) (rw (not_less v rule.hist_hi to) refl))

-- one value above the range more
pub bins_beyond : (rule : StatsRule) (v : ℤ) (bins : List ℤ) → int_lt rule.hist_hi v ≡ true → bins_after rule v bins ≡ bins
bins_beyond rule v bins over = outside (has_histogram rule) (not (int_lt v rule.hist_lo)) (int_lt rule.hist_hi v) over
  where
    outside : (a b c : Bool) → c ≡ true → (if a && (b && not c) then added_at bins (bin_of rule v) (pos 1) else bins) ≡ bins
    outside true true c e = rw e refl
    outside true false c e = refl
    outside false b c e = refl
