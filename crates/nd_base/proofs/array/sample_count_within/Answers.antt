use Rattle.std.proofs.Common.{◌≡◌, ◌*◌, suc, take, arith, add-one, sym, ◌∙◌, ap, false, pos}
use Rattle.nd_base.specs.declared.array.Dim.{Dim}
use Rattle.nd_base.specs.Shapes.{sample_count}
use Rattle.nd_base.specs.ShapeLaws.{sample_count-take, sample_count-front, has_dimensions-none_empty}
use Rattle.nd_base.proofs.array.sample_count_within.Goals as goal

nothing : Dim
nothing = record { size = 0; offset = pos 0; binning = pos 0; reverse = false }

pub returns-then-count-gt-MOST_SAMPLES-clause-none : goal.returns-then-count-gt-MOST_SAMPLES-clause-none
unfolding nothing
returns-then-count-gt-MOST_SAMPLES-clause-none c =
    let dims = c.args.dims.now in
    let i = c.loop-dim.dim-index in
    let more = sample_count-take dims i nothing c.loop-dim-test.true in
    let front = sample_count-front dims (suc i) (has_dimensions-none_empty dims c.requires) in
    let here : c.loop-dim.count * c.from-count.result ≡ sample_count (take (suc i) dims) =
    ap (λ n. n * c.from-count.result) c.loop-dim.invariant.front ∙ ap (λ n. sample_count (take i dims) * n) c.from-count.ensures ∙ sym more in
    omega (arith, here, front, c.if-count-gt-MOST_SAMPLES.true)

pub loop-dim-preserved : goal.loop-dim-preserved
unfolding nothing
loop-dim-preserved c =
    let dims = c.args.dims.now in
    let i = c.loop-dim.dim-index in
    let more = sample_count-take dims i nothing c.loop-dim-test.true in
    record {
      front = rw add-one (ap (λ n. n * c.from-count.result) c.loop-dim.invariant.front ∙ ap (λ n. sample_count (take i dims) * n) c.from-count.ensures
          ∙ sym more);
      within = c.if-count-gt-MOST_SAMPLES.false;
    }
