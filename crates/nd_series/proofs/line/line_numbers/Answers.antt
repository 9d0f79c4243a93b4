use Rattle.std.proofs.Common.{◌≡◌, ◌+◌, ◌*◌, ◌/◌, ◌≤◌, ◌∷◌, length, drop, ap, sym, ◌∙◌, arith}
use Rattle.std.proofs.Math.Nat.{mul-div_cancel, mul-le-mul_left}
use Rattle.nd_base.specs.Samples.{width, numbers}
use Rattle.nd_base.specs.SampleLaws.{width-positive}
use Rattle.nd_base.specs.Shapes.{sample_count}
use Rattle.nd_stats.specs.Samples.{placed}
use Rattle.nd_series.specs.Spans.{span_at, spans_from, frame_place}
use Rattle.nd_series.specs.InPlace.{numbers_of}
use Rattle.nd_series.proofs.SpanLaws.{span_at-IsSpan}
use Rattle.nd_series.proofs.LineNumbers.{line_values}
use Rattle.nd_series.proofs.line.line_numbers.Goals as goal
use Rattle.nd_series.proofs.line.line_numbers.Goals.{After-spot_at-spot}

within : (c : After-spot_at-spot) → c.span_at-columns.result.first + c.args.frame.now.columns * c.spot_at-spot.result.place + c.span_at-columns.result.count
    ≤ c.args.frame.now.columns * sample_count c.args.frame.now.others.now
within c =
    let columns = c.args.frame.now.columns in
    let s = span_at-IsSpan c.args.region.now 0 columns c.requires.frame.some in
    let first = ap (λ t. t.first) c.span_at-columns.ensures in
    let count = ap (λ t. t.count) c.span_at-columns.ensures in
    let m = mul-le-mul_left columns c.spot_at-spot.ensures.within in
    omega (arith, s.within, first, count, m)

pub bytes_from-line-requires : goal.bytes_from-line-requires
bytes_from-line-requires c =
    let frame = c.args.frame.now in
    let n = frame.columns * sample_count frame.others.now in
    let count : length frame.samples.now / width frame.kind ≡ n = ap (λ m. m / width frame.kind) c.requires.frame.count
    ∙ mul-div_cancel n (width-positive frame.kind) in
    let h = within ((goal.at.bytes_from-line-requires c).After-spot_at-spot) in
    omega (arith, count, h)

pub returns : goal.returns
returns c =
    let frame = c.args.frame.now in
    let kind = frame.kind in
    let region = c.args.region.now in
    let s = span_at region 0 frame.columns in
    let spans = spans_from region 1 frame.others.now in
    let n = frame.columns * sample_count frame.others.now in
    let at = c.span_at-columns.result.first + frame.columns * c.spot_at-spot.result.place in
    let same = ap (λ t. t.count) c.span_at-columns.ensures in
    let long : s.count ≡ length c.bytes_from-line.result.now / width kind =
    sym (ap (λ m. m / width kind) c.bytes_from-line.ensures.len ∙ mul-div_cancel c.span_at-columns.result.count (width-positive kind) ∙ same) in
    let place : at ≡ s.first + s.size * frame_place spans c.args.number =
    ap (λ m. m + frame.columns * c.spot_at-spot.result.place) (ap (λ t. t.first) c.span_at-columns.ensures)
    ∙ ap (λ q. s.first + frame.columns * q) c.spot_at-spot.ensures.place in
    let h = within ((goal.at.returns c).After-spot_at-spot) in
    c.part_of_line.ensures s spans c.args.number long (sym c.spot_at-spot.ensures.edge)
    ∙ ap (λ vs. numbers_of (s ∷ spans) (placed (c.args.number * s.count) vs))
    (c.bytes_from-line.ensures.values
    ∙ ap (λ m. numbers kind m (drop (at * width kind) frame.samples.now)) same
    ∙ sym (line_values s spans c.args.number at kind frame.samples.now n c.requires.frame.count place (omega (arith, h, same))))
