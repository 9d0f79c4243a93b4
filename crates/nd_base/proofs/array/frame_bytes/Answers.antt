use Rattle.std.proofs.Common.{◌≡◌, ◌*◌, suc, take, get_or, arith, add-one, sym, ◌∙◌, ap, false, pos}
use Rattle.nd_base.specs.declared.array.Dim.{Dim}
use Rattle.nd_base.specs.Shapes.{sample_count}
use Rattle.nd_base.specs.ShapeLaws.{sample_count-take, sample_count-front, has_dimensions-none_empty}
use Rattle.nd_base.proofs.array.frame_bytes.Goals as goal

nothing : Dim
nothing = record { size = 0; offset = pos 0; binning = pos 0; reverse = false }

pub overflow_mul-count : goal.overflow_mul-count
unfolding nothing
overflow_mul-count c =
    let dims = c.args.dims.now in
    let i = c.loop-dim.dim-index in
    let size = (get_or dims i nothing).size in
    let more = sample_count-take dims i nothing c.loop-dim-test.true in
    let front = sample_count-front dims (suc i) (has_dimensions-none_empty dims c.requires.dimensions) in
    let here : c.loop-dim.count * size ≡ sample_count (take (suc i) dims) = ap (λ n. n * size) c.loop-dim.invariant ∙ sym more in
    omega (arith, here, front, c.requires.few)

pub loop-dim-preserved : goal.loop-dim-preserved
unfolding nothing
loop-dim-preserved c =
    let dims = c.args.dims.now in
    let i = c.loop-dim.dim-index in
    let size = (get_or dims i nothing).size in
    let more = sample_count-take dims i nothing c.loop-dim-test.true in
    rw add-one (ap (λ n. n * size) c.loop-dim.invariant ∙ sym more)
