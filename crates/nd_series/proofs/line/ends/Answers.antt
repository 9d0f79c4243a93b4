use Rattle.std.proofs.Common.{◌≡◌, ◌-◌, ◌/◌, ℕ, length, arith, ap, ◌∙◌, w64}
use Rattle.std.proofs.lemmas.Int.{to_z-of_z}
use Rattle.nd_base.specs.Samples.{width}
use Rattle.nd_base.specs.SampleLaws.{length-numbers}
use Rattle.lane_kernels.specs.Plain.{stored}
use Rattle.nd_stats.specs.Tallies.{HasRoom}
use Rattle.nd_stats.proofs.Joins.{fits_room, room_sum}
use Rattle.nd_series.proofs.LineNumbers.{one_end, two_ends}
use Rattle.nd_series.proofs.line.ends.Goals as goal

pub returns-then-last-eq0-clause-sum : goal.returns-then-last-eq0-clause-sum
returns-then-last-eq0-clause-sum c =
    let kind = c.args.kind in
    let n : ℕ = length c.args.line.now / width kind in
    let count : length c.args.line.now / c.width.result ≡ n = ap (λ w. length c.args.line.now / w) c.width.ensures in
    let room : HasRoom c.sample_at-first.result = (let s = c.sample_at-first.ensures.small in omega (arith, s)) in
    to_z-of_z w64 c.sample_at-first.result (fits_room c.sample_at-first.result room)
    ∙ one_end kind n c.args.line.now c.sample_at-first.result c.sample_at-first.ensures.value (omega (arith, count, c.if-last-eq0.true, c.requires))

pub returns-else-last-eq0-clause-sum : goal.returns-else-last-eq0-clause-sum
returns-else-last-eq0-clause-sum c =
    let kind = c.args.kind in
    let n : ℕ = length c.args.line.now / width kind in
    let count : length c.args.line.now / c.width.result ≡ n = ap (λ w. length c.args.line.now / w) c.width.ensures in
    let one : HasRoom c.sample_at-first.result = (let s = c.sample_at-first.ensures.small in omega (arith, s)) in
    let two : HasRoom c.sample_at.result = (let s = c.sample_at.ensures.small in omega (arith, s)) in
    room_sum c.sample_at-first.result c.sample_at.result one two
    ∙ two_ends kind n c.args.line.now c.sample_at-first.result c.sample_at.result (omega (arith, count, c.if-last-eq0.false, c.requires))
    c.sample_at-first.ensures.value (c.sample_at.ensures.value ∙ ap (λ m. stored kind c.args.line.now (m - 1)) count)

pub returns-else-last-eq0-clause-count : goal.returns-else-last-eq0-clause-count
returns-else-last-eq0-clause-count c =
    let kind = c.args.kind in
    let count : length c.args.line.now / c.width.result ≡ length c.args.line.now / width kind = ap (λ w. length c.args.line.now / w) c.width.ensures in
    let long = length-numbers kind (length c.args.line.now / width kind) c.args.line.now in
    omega (arith, count, long, c.if-last-eq0.false, c.requires)
