use Rattle.std.proofs.lemmas.Int.{to_z-of_z}
use Rattle.std.proofs.Common.{rules, w64, FitsSigned, length, arith, refl, sym, subst, ap, ◌∙◌}
use Rattle.nd_stats.specs.Samples.{Sample}
use Rattle.nd_stats.specs.Tallies.{HaveRoom, added_at}
use Rattle.nd_stats.proofs.Growth.{rooms, extremes_more, sums_more, moments_more, histogram_more, profile_grows, profile_stays}
use Rattle.nd_stats.proofs.Tables.{slice_written}
use Rattle.nd_stats.proofs.Rooms.{index_most}
use Rattle.nd_stats.proofs.Places.{index_below}
use Rattle.nd_stats.proofs.tally.Tally.add.Goals as goal

pub add-requires-2-clause-total : goal.add-requires-2-clause-total
add-requires-2-clause-total c = (rooms c.args.rule.now c.args.dims.now c.args.self.now c.requires.frame c.requires.before).total

pub add-requires-2-clause-squares : goal.add-requires-2-clause-squares
add-requires-2-clause-squares c = (rooms c.args.rule.now c.args.dims.now c.args.self.now c.requires.frame c.requires.before).squares

pub add-requires-2-clause-border : goal.add-requires-2-clause-border
add-requires-2-clause-border c = (rooms c.args.rule.now c.args.dims.now c.args.self.now c.requires.frame c.requires.before).border

pub add-requires-2-clause-border_n : goal.add-requires-2-clause-border_n
add-requires-2-clause-border_n c = (rooms c.args.rule.now c.args.dims.now c.args.self.now c.requires.frame c.requires.before).border_n

pub add-requires-3-clause-x : goal.add-requires-3-clause-x
add-requires-3-clause-x c = let e = c.requires.spot.x in
    let m = index_most c.args.dims.now 0 c.args.spot.now.place c.requires.frame.sizes c.requires.frame.few in omega (arith, e, m)

pub add-requires-3-clause-y : goal.add-requires-3-clause-y
add-requires-3-clause-y c = let e = c.requires.spot.y in
    let m = index_most c.args.dims.now 1 c.args.spot.now.place c.requires.frame.sizes c.requires.frame.few in omega (arith, e, m)

pub add-requires-3-clause-over : goal.add-requires-3-clause-over
add-requires-3-clause-over c = (rooms c.args.rule.now c.args.dims.now c.args.self.now c.requires.frame c.requires.before).over

pub add-requires-3-clause-m0 : goal.add-requires-3-clause-m0
add-requires-3-clause-m0 c = (rooms c.args.rule.now c.args.dims.now c.args.self.now c.requires.frame c.requires.before).m0

pub add-requires-3-clause-mx : goal.add-requires-3-clause-mx
add-requires-3-clause-mx c = (rooms c.args.rule.now c.args.dims.now c.args.self.now c.requires.frame c.requires.before).mx

pub add-requires-3-clause-my : goal.add-requires-3-clause-my
add-requires-3-clause-my c = (rooms c.args.rule.now c.args.dims.now c.args.self.now c.requires.frame c.requires.before).my

pub add-requires-4-clause-bins : goal.add-requires-4-clause-bins
add-requires-4-clause-bins c =
    let e = (rooms c.args.rule.now c.args.dims.now c.args.self.now c.requires.frame c.requires.before).bins in
    let len = c.args.self.now.histogram.bins.ok.0 in
    omega (arith, e, len)

pub add-requires-4-clause-room : goal.add-requires-4-clause-room
add-requires-4-clause-room c = (rooms c.args.rule.now c.args.dims.now c.args.self.now c.requires.frame c.requires.before).bins_room

pub add-requires-4-clause-below : goal.add-requires-4-clause-below
add-requires-4-clause-below c = (rooms c.args.rule.now c.args.dims.now c.args.self.now c.requires.frame c.requires.before).below

pub add-requires-4-clause-above : goal.add-requires-4-clause-above
add-requires-4-clause-above c = (rooms c.args.rule.now c.args.dims.now c.args.self.now c.requires.frame c.requires.before).above

pub add_at-requires-clause-index : goal.add_at-requires-clause-index
add_at-requires-clause-index c = let e = c.requires.spot.x in let m = index_below c.args.dims.now 0 c.args.spot.now.place c.requires.frame.sizes in
    let n = ((rooms c.args.rule.now c.args.dims.now c.args.self.now c.requires.frame c.requires.before).x c.if-rule.true).1 in
    let v = ap length c.deref_mut.ensures.value in omega (arith, e, m, n, v)

pub add_at-requires-clause-room : goal.add_at-requires-clause-room
add_at-requires-clause-room c =
    subst HaveRoom (sym c.deref_mut.ensures.value)
    ((rooms c.args.rule.now c.args.dims.now c.args.self.now c.requires.frame c.requires.before).x c.if-rule.true).0

pub add_at-requires-then-rule-clause-index : goal.add_at-requires-then-rule-clause-index
add_at-requires-then-rule-clause-index c = let e = c.requires.spot.y in
    let m = index_below c.args.dims.now 1 c.args.spot.now.place c.requires.frame.sizes in
    let n = ((rooms c.args.rule.now c.args.dims.now c.args.self.now c.requires.frame c.requires.before).y c.if-rule.true).1 in
    let v = ap length c.deref_mut-then-rule.ensures.value in omega (arith, e, m, n, v)

pub add_at-requires-then-rule-clause-room : goal.add_at-requires-then-rule-clause-room
add_at-requires-then-rule-clause-room c =
    subst HaveRoom (sym c.deref_mut-then-rule.ensures.value)
    ((rooms c.args.rule.now c.args.dims.now c.args.self.now c.requires.frame c.requires.before).y c.if-rule.true).0

pub returns-then-rule : goal.returns-then-rule
returns-then-rule c =
    let rule = c.args.rule.now in
    let dims = c.args.dims.now in
    let fits : FitsSigned w64 c.args.value = search rules in
    let reach : FitsSigned w64 c.args.rule.now.threshold = search rules in
    let weighs : FitsSigned w64 c.counted.result = search rules in
    let s : Sample = record { place = c.args.spot.now.place; value = c.args.value } in
    λ first xs is.
    record {
      extremes = extremes_more first xs s c.args.self.now.extremes c.add.new.self is.extremes (simp to_z-of_z at c.add.ensures.min)
          (simp to_z-of_z at c.add.ensures.min_at) (simp to_z-of_z at c.add.ensures.max) (simp to_z-of_z at c.add.ensures.max_at);
      sums = sums_more rule dims xs s c.is_on_border-at_border.result c.args.self.now.sums c.add-2.new.self is.sums c.is_on_border-at_border.ensures
          c.add-2.ensures.n (simp to_z-of_z at c.add-2.ensures.total) (simp to_z-of_z at c.add-2.ensures.squares)
          (simp to_z-of_z at c.add-2.ensures.border) c.add-2.ensures.border_n;
      moments = moments_more rule dims xs s c.args.spot.now c.reaches-is_over.result c.counted.result c.args.self.now.moments c.add-3.new.self is.moments
          (simp to_z-of_z at c.reaches-is_over.ensures) (simp to_z-of_z at c.counted.ensures.value) c.requires.spot refl c.add-3.ensures.over
          (simp to_z-of_z at c.add-3.ensures.m0) (simp to_z-of_z at c.add-3.ensures.mx) (simp to_z-of_z at c.add-3.ensures.my);
      histogram = histogram_more rule dims xs s c.args.self.now.histogram c.add-4.new.self c.requires.frame is.histogram
          (simp to_z-of_z at c.add-4.ensures.below) (simp to_z-of_z at c.add-4.ensures.bins) (simp to_z-of_z at c.add-4.ensures.above);
      x = profile_grows rule dims 0 xs s c.args.spot.now.x c.args.self.now.x.items _ c.requires.frame c.if-rule.true is.x c.requires.spot.x
          (slice_written c.args.self.now.x.items c.add_at.new.sums _ c.args.spot.now.x c.args.value (sym c.args.self.now.x.ok.0)
          ((simp to_z-of_z at c.add_at.ensures) ∙ ap (λ l. added_at l c.args.spot.now.x c.args.value) c.deref_mut.ensures.value));
      y = profile_grows rule dims 1 xs s c.args.spot.now.y c.args.self.now.y.items _ c.requires.frame c.if-rule.true is.y c.requires.spot.y
          (slice_written c.args.self.now.y.items c.add_at-then-rule.new.sums _ c.args.spot.now.y c.args.value (sym c.args.self.now.y.ok.0)
          ((simp to_z-of_z at c.add_at-then-rule.ensures) ∙ ap (λ l. added_at l c.args.spot.now.y c.args.value) c.deref_mut-then-rule.ensures.value));
    }

pub returns-else-rule : goal.returns-else-rule
returns-else-rule c =
    let rule = c.args.rule.now in
    let dims = c.args.dims.now in
    let fits : FitsSigned w64 c.args.value = search rules in
    let reach : FitsSigned w64 c.args.rule.now.threshold = search rules in
    let weighs : FitsSigned w64 c.counted.result = search rules in
    let s : Sample = record { place = c.args.spot.now.place; value = c.args.value } in
    λ first xs is.
    record {
      extremes = extremes_more first xs s c.args.self.now.extremes c.add.new.self is.extremes (simp to_z-of_z at c.add.ensures.min)
          (simp to_z-of_z at c.add.ensures.min_at) (simp to_z-of_z at c.add.ensures.max) (simp to_z-of_z at c.add.ensures.max_at);
      sums = sums_more rule dims xs s c.is_on_border-at_border.result c.args.self.now.sums c.add-2.new.self is.sums c.is_on_border-at_border.ensures
          c.add-2.ensures.n (simp to_z-of_z at c.add-2.ensures.total) (simp to_z-of_z at c.add-2.ensures.squares)
          (simp to_z-of_z at c.add-2.ensures.border) c.add-2.ensures.border_n;
      moments = moments_more rule dims xs s c.args.spot.now c.reaches-is_over.result c.counted.result c.args.self.now.moments c.add-3.new.self is.moments
          (simp to_z-of_z at c.reaches-is_over.ensures) (simp to_z-of_z at c.counted.ensures.value) c.requires.spot refl c.add-3.ensures.over
          (simp to_z-of_z at c.add-3.ensures.m0) (simp to_z-of_z at c.add-3.ensures.mx) (simp to_z-of_z at c.add-3.ensures.my);
      histogram = histogram_more rule dims xs s c.args.self.now.histogram c.add-4.new.self c.requires.frame is.histogram
          (simp to_z-of_z at c.add-4.ensures.below) (simp to_z-of_z at c.add-4.ensures.bins) (simp to_z-of_z at c.add-4.ensures.above);
      x = profile_stays rule dims 0 xs s c.args.self.now.x.items c.if-rule.false is.x;
      y = profile_stays rule dims 1 xs s c.args.self.now.y.items c.if-rule.false is.y;
    }
