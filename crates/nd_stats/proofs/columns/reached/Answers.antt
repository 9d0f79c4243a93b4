use Rattle.std.proofs.Common.{◌∙◌, ◌%◌, ◌^◌, ap, arith, ℕ, nat_le, w32, map}
use Rattle.std.specs.Simd.Lanes.{mask_l}
use Rattle.std.specs.Prelude.{replicate}
use Rattle.std.specs.Int.RustNames.{count_ones}
use Rattle.std.proofs.lemmas.Simd.{tops_compared, zip2_splat_left, ones-mask_l, mask_l-mod}
use Rattle.std.proofs.lemmas.List.{length-map}
use Rattle.nd_stats.proofs.columns.reached.Goals as goal

pub returns : goal.returns
returns c =
    let vs = c.args.values in
    let test = λ (a b : ℕ). nat_le a b in
    let p = λ (v : ℕ). nat_le c.args.least v in
    ap (λ ms. count_ones (mask_l ms % 2 ^ 64)) (tops_compared w32 test (replicate 8 c.args.least) vs ∙ zip2_splat_left test c.args.least 8 vs c.requires)
    ∙ ap count_ones (mask_l-mod (map p vs) 64 (omega (arith, length-map vs p, c.requires))) ∙ ones-mask_l p vs
