use Rattle.std.proofs.Common.{◌≡◌, ◌≤◌, ◌+◌, ◌*◌, ◌-◌, drop, take, length, arith, ap, ◌∙◌}
use Rattle.std.proofs.Math.Nat.{add-mul}
use Rattle.std.proofs.lemmas.List.{length-take-le, length-drop}
use Rattle.nd_base.specs.Samples.{width}
use Rattle.lane_kernels.proofs.Slices.{samples_of-take}
use Rattle.nd_stats.proofs.Parts.{part_within}
use Rattle.nd_stats.proofs.sample.part.Goals as goal

pub returns-clause-values : goal.returns-clause-values
returns-clause-values c =
    let w = c.width-width.result in
    let kind = c.args.kind in
    let size : (c.args.done + c.args.size) * w - c.args.done * w ≡ c.args.size * width kind =
    (let a = add-mul c.args.done c.args.size w in let b = ap (λ n. c.args.size * n) c.width-width.ensures in omega arith) in
    let start : drop (c.args.done * w) c.args.samples.now ≡ drop (c.args.done * width kind) c.args.samples.now =
    ap (λ n. drop (c.args.done * n) c.args.samples.now) c.width-width.ensures in
    let within = part_within c.args.done c.args.size (length c.args.samples.now) (width kind) c.requires in
    let long = length-drop (c.args.done * w) c.args.samples.now in
    let fits : c.args.done * w + c.args.size * width kind ≤ length c.args.samples.now =
    (let e : c.args.done * w ≡ c.args.done * width kind = ap (λ n. c.args.done * n) c.width-width.ensures in omega (arith, e, within)) in
    samples_of-take kind c.args.size ((c.args.done + c.args.size) * w - c.args.done * w) (drop (c.args.done * width kind) c.args.samples.now) _ size
    (ap (take ((c.args.done + c.args.size) * w - c.args.done * w)) start)
    (length-take-le ((c.args.done + c.args.size) * w - c.args.done * w) (drop (c.args.done * w) c.args.samples.now) (omega (arith, size, long, fits)) ∙ size)
