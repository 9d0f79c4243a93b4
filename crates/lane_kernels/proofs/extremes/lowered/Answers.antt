use Rattle.std.proofs.Common.{◌+◌, ◌-◌, ◌%◌, ◌≡◌, List, ℕ, length, map, map-id, to_z, of_z, w32, w64, replicate, FitsSigned, ap, sym, subst, ◌∙◌}
use Rattle.std.specs.Simd.Lanes.{Each1, zip2}
use Rattle.std.proofs.lemmas.Simd.{zip2_splat}
use Rattle.lane_kernels.proofs.Rows.{low, lowered_fit, lowered_lanes}
use Rattle.lane_kernels.proofs.extremes.lowered.Goals as goal

lanes_less : (bs : List ℕ) → length bs ≡ 4 → zip2 (λ a b. (a + (18446744073709551616 - b)) % 18446744073709551616) (map (λ b. b) bs) (replicate 4 2147483648) ≡ map low bs
lanes_less bs long = ap (λ l. zip2 (λ a b. (a + (18446744073709551616 - b)) % 18446744073709551616) l (replicate 4 2147483648)) (map-id bs)
    ∙ zip2_splat (λ a b. (a + (18446744073709551616 - b)) % 18446744073709551616) bs 4 2147483648 long

pub overflow_cast-result-2 : goal.overflow_cast-result-2
overflow_cast-result-2 c =
    subst (Each1 (λ b. FitsSigned w32 (to_z w64 b))) (sym (lanes_less c.args.lanes c.requires)) (lowered_fit c.args.lanes c.fits-lanes.1)

pub returns : goal.returns
returns c = ap (λ l. map (to_z w32) (map (λ b. of_z w32 (to_z w64 b)) l)) (lanes_less c.args.lanes c.requires) ∙ lowered_lanes c.args.lanes c.fits-lanes.1
