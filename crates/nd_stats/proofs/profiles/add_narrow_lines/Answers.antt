use Rattle.std.proofs.Common.{◌≡◌, ◌+◌, ◌*◌, ◌/◌, length, arith, ap, sym, subst}
use Rattle.nd_base.specs.Samples.{width}
use Rattle.nd_base.specs.Places.{size_in}
use Rattle.nd_stats.specs.Running.{AreWithin}
use Rattle.nd_stats.proofs.Withins.{within_blank}
use Rattle.nd_stats.proofs.profiles.add_narrow_lines.Goals as goal

pub loop-done-init : goal.loop-done-init
loop-done-init c = record {
  done = omega arith;
  parts = omega arith;
  some = omega arith;
  place = omega (arith, c.spot_at-spot.ensures.place);
  spot = c.spot_at-spot.ensures.spot;
  columns = c.requires.blank_columns;
  room = subst (AreWithin 0) (sym c.requires.blank_columns) (within_blank (size_in c.args.dims.now 0));
  rows = c.requires.blank_rows;
}

pub loop-done-preserved : goal.loop-done-preserved
loop-done-preserved c =
    let count : length c.args.samples.now / c.width.result ≡ length c.args.samples.now / width c.args.kind =
    ap (λ w. length c.args.samples.now / w) c.width.ensures in
    let part : c.loop-done.parts * 65535 + 65535 ≡ (c.loop-done.parts + 1) * 65535 = omega arith in
    record {
      done = omega (arith, count, c.on_line-size.ensures.left);
      parts = omega (arith, c.if-parts-lt-PARTS.true);
      some = omega (arith, c.loop-done.invariant.some, c.on_line-size.ensures.some);
      place = c.add_row-spot.ensures.place;
      spot = c.add_row-spot.ensures.spot;
      columns = c.add_narrow_line-sum.ensures.sums;
      room = subst (λ n. AreWithin n c.add_narrow_line-sum.new.sums) part
          (c.add_narrow_line-sum.ensures.grown (c.loop-done.parts * 65535) c.loop-done.invariant.room);
      rows = c.add_row-spot.ensures.rows;
    }
