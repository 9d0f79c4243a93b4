use Rattle.std.proofs.Common.{◌≡◌, ℕ, zero, suc, ℤ, ◌+◌, ◌*◌, ◌≤◌, List, ◌∷◌, [], Fits, FitsSigned, get_or, map, of_z, to_z, w8, w32, ap, ◌∙◌, arith}
use Rattle.std.specs.List.{range_with_len}
use Rattle.std.specs.Simd.Lanes.{Each1}
use Rattle.nd_base.specs.declared.array.SampleType.{SampleType}
use Rattle.nd_base.specs.declared.array.SampleType.TheVariants.{Int16}
use Rattle.nd_base.specs.Samples.{width}
use Rattle.lane_kernels.specs.Plain.{run}
use Rattle.lane_kernels.proofs.Narrow.{two_fit}
use Rattle.lane_kernels.proofs.Rows.{kept}
use Rattle.lane_kernels.proofs.binned.low_pair_sums.Goals as goal
use Rattle.lane_kernels.proofs.binned.low_pair_sums.Goals.{in-Int16, in_default}

-- the sums of each two samples fit
all_fit : (kind : SampleType) (line : List ℕ) (place n a : ℕ) → ((i : ℕ) → Fits w8 (get_or line i 0)) → width kind ≤ 2
    → Each1 (FitsSigned w32) (map (λ k. run kind line 2 (place + k * 2)) (range_with_len a n))
all_fit kind line place zero a fit few = tt
all_fit kind line place (suc n) a fit few = (two_fit kind line (place + a * 2) fit few, all_fit kind line place n (a + 1) fit few)

pub returns : goal.returns
returns c =
    let kind = c.args.kind in
    let line = c.args.line.now in
    let place = c.args.place in
    let sums : List ℤ = map (λ k. run kind line 2 (place + k * 2)) (range_with_len 0 8) in
    let bits : c.match-kind.result ≡ map (of_z w32) sums = elim c.match-kind.branch [
      | in-Int16 w ↦
          let lane : ℕ → ℕ = λ p. of_z w32 (run Int16 line 2 p) in
          let at : (k : ℕ) → place + 8 + k * 2 ≡ place + (k + 4) * 2 = λ k. omega arith in
          let p4 = ap lane (at 0) in
          let p5 = ap lane (at 1) in
          let p6 = ap lane (at 2) in
          let p7 = ap lane (at 3) in
          w.result-is ∙ rw w.signed_pair_sums-first.ensures (rw w.signed_pair_sums-second.ensures (rw w.in-Int16.is
          (λ i. lane (place + 0) ∷ lane (place + 2) ∷ lane (place + 4) ∷ lane (place + 6) ∷ p4 i ∷ p5 i ∷ p6 i ∷ p7 i ∷ [])))
      | in_default w ↦ w.result-is ∙ ap (map (of_z w32)) w.byte_pair_sums.ensures
    ] in
    ap (map (to_z w32)) bits ∙ kept w32 sums (all_fit kind line place 8 0 c.type_inv.line c.requires.narrow)
