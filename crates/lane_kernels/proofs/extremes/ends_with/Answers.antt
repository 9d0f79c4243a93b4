use Rattle.std.proofs.Common.{rules, ◌≡◌, ℤ, to_z, w64, FitsSigned, ap, sym, ◌∙◌}
use Rattle.std.specs.Int.{int_min, int_max}
use Rattle.std.proofs.lemmas.Int.{to_z-of_z}
use Rattle.nd_base.specs.Samples.{numbers}
use Rattle.lane_kernels.specs.Plain.{least_with, greatest_with}
use Rattle.lane_kernels.proofs.Leasts.{least-more, greatest-more}
use Rattle.lane_kernels.proofs.extremes.ends_with.Goals as goal

pub loop-k-preserved : goal.loop-k-preserved
loop-k-preserved c =
    let kind = c.args.kind in
    let bytes = c.args.samples.now in
    let k = c.loop-k.k in
    let v : ℤ = c.sample_at-sample.result in
    let fa : FitsSigned w64 c.min-min.result = search rules in
    let fb : FitsSigned w64 c.max-max.result = search rules in
    let fv : FitsSigned w64 v = search rules in
    let min : c.min-min.result ≡ int_min (to_z w64 c.loop-k.min-bits) v = simp to_z-of_z at c.min-min.ensures.value in
    let max : c.max-max.result ≡ int_max (to_z w64 c.loop-k.max-bits) v = simp to_z-of_z at c.max-max.ensures.value in
    record {
      min = to_z-of_z w64 c.min-min.result fa ∙ min ∙ ap (λ z. int_min z v) c.loop-k.invariant.min
          ∙ ap (int_min (least_with c.args.ends.min (numbers kind k bytes))) c.sample_at-sample.ensures.value ∙ sym (least-more c.args.ends.min kind k bytes);
      max = to_z-of_z w64 c.max-max.result fb ∙ max ∙ ap (λ z. int_max z v) c.loop-k.invariant.max
          ∙ ap (int_max (greatest_with c.args.ends.max (numbers kind k bytes))) c.sample_at-sample.ensures.value ∙ sym (greatest-more c.args.ends.max kind k bytes);
    }
