use Rattle.std.proofs.Common.{◌≡◌, ◌≤◌, ◌+◌, ◌*◌, ◌-◌, drop, take, length, arith, ap, ◌∙◌}
use Rattle.std.proofs.Math.Nat.{add-mul}
use Rattle.std.proofs.lemmas.List.{length-take-le, length-drop}
use Rattle.nd_base.specs.Samples.{width}
use Rattle.lane_kernels.proofs.Slices.{samples_of-take}
use Rattle.nd_stats.proofs.Parts.{part_within}
use Rattle.nd_series.proofs.line.bytes_from.Goals as goal

pub returns-clause-values : goal.returns-clause-values
returns-clause-values c =
    let w = c.width-width.result in
    let kind = c.args.kind in
    let size : (c.args.place + c.args.count) * w - c.args.place * w ≡ c.args.count * width kind =
    (let a = add-mul c.args.place c.args.count w in let b = ap (λ n. c.args.count * n) c.width-width.ensures in omega arith) in
    let start : drop (c.args.place * w) c.args.samples.now ≡ drop (c.args.place * width kind) c.args.samples.now =
    ap (λ n. drop (c.args.place * n) c.args.samples.now) c.width-width.ensures in
    let within = part_within c.args.place c.args.count (length c.args.samples.now) (width kind) c.requires in
    let long = length-drop (c.args.place * w) c.args.samples.now in
    let fits : c.args.place * w + c.args.count * width kind ≤ length c.args.samples.now =
    (let e : c.args.place * w ≡ c.args.place * width kind = ap (λ n. c.args.place * n) c.width-width.ensures in omega (arith, e, within)) in
    samples_of-take kind c.args.count ((c.args.place + c.args.count) * w - c.args.place * w) (drop (c.args.place * width kind) c.args.samples.now) _ size
    (ap (take ((c.args.place + c.args.count) * w - c.args.place * w)) start)
    (length-take-le ((c.args.place + c.args.count) * w - c.args.place * w) (drop (c.args.place * w) c.args.samples.now) (omega (arith, size, long, fits)) ∙ size)
