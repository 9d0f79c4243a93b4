use Rattle.std.proofs.Common.{rules, ◌≡◌, ◌/◌, length, take, arith, ap, subst, w64, FitsSigned}
use Rattle.std.proofs.lemmas.Int.{to_z-of_z}
use Rattle.nd_base.specs.Samples.{width, number, numbers}
use Rattle.nd_stats.specs.Samples.{Sample, placed}
use Rattle.nd_stats.specs.Running.{IsTally}
use Rattle.nd_stats.proofs.Pieces.{sample_at, same_sample, tally-next, small-next, length-piece}
use Rattle.nd_stats.proofs.measures.add_all.Goals as goal

pub add-requires-clause-before : goal.add-requires-clause-before
add-requires-clause-before c =
    let kind = c.args.kind in
    let first : Sample = record { place = c.args.from; value = number kind (take (width kind) c.args.samples.now) } in
    let k = c.loop-k.k in
    let piece = length-piece kind c.args.from k c.args.samples.now in
    let count : length c.args.samples.now / c.width-width.result ≡ length c.args.samples.now / width kind =
    ap (λ w. length c.args.samples.now / w) c.width-width.ensures in (
      first,
      (
        placed c.args.from (numbers kind k c.args.samples.now),
        record {
          tally = c.loop-k.invariant.tally;
          small = c.loop-k.invariant.small;
          few = omega (arith, piece, count, c.loop-k-test.true, c.requires.within, c.requires.frame.few);
        },
      ),
    )

pub loop-k-preserved : goal.loop-k-preserved
loop-k-preserved c =
    let kind = c.args.kind in
    let from = c.args.from in
    let bytes = c.args.samples.now in
    let first : Sample = record { place = from; value = number kind (take (width kind) bytes) } in
    let k = c.loop-k.k in
    let fits : FitsSigned w64 c.number_at-value.result = search rules in
    let s : Sample = record { place = c.loop-k.spot.place; value = c.number_at-value.result } in
    let same : s ≡ sample_at kind from k bytes =
    same_sample kind from k c.width-width.result c.loop-k.spot.place c.number_at-value.result bytes c.loop-k.invariant.place c.width-width.ensures
    c.number_at-value.ensures.value in
    record {
      tally = tally-next c.args.rule.now c.args.dims.now first kind from k bytes s _ same
          (simp to_z-of_z at (c.add.ensures first (placed from (numbers kind k bytes)) c.loop-k.invariant.tally));
      small = small-next kind from k bytes s same c.loop-k.invariant.small c.number_at-value.ensures.small;
      spot = c.next_spot-spot.ensures.spot;
      place = omega (arith, c.next_spot-spot.ensures.place, c.loop-k.invariant.place);
    }

pub returns : goal.returns
returns c =
    let kind = c.args.kind in
    let bytes = c.args.samples.now in
    let first : Sample = record { place = c.args.from; value = number kind (take (width kind) bytes) } in
    let count : length bytes / c.width-width.result ≡ length bytes / width kind = ap (λ w. length bytes / w) c.width-width.ensures in
    let all : c.loop-k.k ≡ length bytes / width kind = omega (arith, count, c.loop-k-test.false, c.loop-k.auto.k-end) in
    subst (λ n. IsTally c.args.rule.now c.args.dims.now first (placed c.args.from (numbers kind n bytes)) c.loop-k.tally) all c.loop-k.invariant.tally
