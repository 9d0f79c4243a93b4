use Rattle.std.proofs.Common.{◌≡◌, ◌+◌, ◌*◌, ◌<◌, ◌≤◌, Some, length, ap, sym, ◌∙◌, subst, arith}
use Rattle.std.specs.List.{slice_get}
use Rattle.std.proofs.lemmas.Option.{slice_get-get_or}
use Rattle.chain_plain.specs.Plans.{shape_at}
use Rattle.graph_conf.specs.Loads.{kept_by}
use Rattle.graph_conf.proofs.Planned.{kept_next, few_frames, few_numbers}
use Rattle.graph_conf.proofs.load.kept.Goals as goal

pub loop-place-preserved : goal.loop-place-preserved
loop-place-preserved c =
    let g = c.args.graph.now in
    let s = c.args.stack.now in
    let k = c.loop-place.place in
    let node = c.index-nodes-place.result in
    let within : k < length g.nodes = subst (λ ns. k < length ns) c.as_slice-nodes.ensures c.loop-place-test.true in
    let is : slice_get g.nodes k ≡ Some node =
    ap (λ ns. slice_get ns k) (sym c.as_slice-nodes.ensures) ∙ slice_get-get_or c.as_slice-nodes.result.now k node c.loop-place-test.true
    ∙ ap Some (sym c.index-nodes-place.is) in
    let frames : c.from-frames.result ≡ length s.arrays = c.from-frames.ensures ∙ c.frames.ensures in
    let number : c.kept_by.result ≡ kept_by node.kind (shape_at g.nodes s.shape (k + 1)).dims =
    c.kept_by.ensures.numbers ∙ ap (λ n. kept_by n.kind c.as_slice.result.now) (sym c.index-nodes-place.is)
    ∙ ap (kept_by node.kind) (c.as_slice.ensures ∙ c.made_at-made.ensures.dims) in
    let product : c.from-frames.result * c.kept_by.result ≡ length s.arrays * kept_by node.kind (shape_at g.nodes s.shape (k + 1)).dims =
    ap (λ f. f * c.kept_by.result) frames ∙ ap (λ n. length s.arrays * n) number in
    let next = kept_next g s k (length g.nodes) node within is in
    let few : c.from-frames.result ≤ 1048576 =
    few_frames c.from-frames.result (length g.nodes) (omega arith) (subst (λ f. f * length g.nodes ≤ 1048576) (sym frames) c.requires.load) in
    let small = few_numbers c.from-frames.result c.kept_by.result few (omega (arith, c.kept_by.ensures.small)) in
    record {
      told = omega (arith, next, product, c.loop-place.invariant.told);
      small = omega (arith, small, c.loop-place.invariant.small);
    }
