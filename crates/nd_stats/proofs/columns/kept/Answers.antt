use Rattle.std.proofs.Common.{◌∙◌, ap, ℕ, nat_le, w32}
use Rattle.std.specs.Simd.Lanes.{sel_l}
use Rattle.std.specs.Prelude.{replicate}
use Rattle.std.proofs.lemmas.Simd.{tops_compared, zip2_splat_left}
use Rattle.nd_stats.proofs.Lanes.{sel-map}
use Rattle.nd_stats.proofs.columns.kept.Goals as goal

pub returns : goal.returns
returns c =
    let vs = c.args.values in
    let test = λ (a b : ℕ). nat_le a b in
    ap (λ ms. sel_l ms vs (replicate 8 0)) (tops_compared w32 test (replicate 8 c.args.least) vs ∙ zip2_splat_left test c.args.least 8 vs c.requires)
    ∙ sel-map (λ v. nat_le c.args.least v) 8 vs c.requires
