use Rattle.std.proofs.Common.{rules, ◌≡◌, ◌≢◌, ◌+◌, ◌*◌, ◌%◌, ◌<◌, ◌≤◌, ℕ, ℤ, List, length, get_or, map, pos, ◌+ℤ◌, w8, w32, Fits, FitsSigned, to_z, of_z, ap, ◌∙◌, arith, below_more}
use Rattle.std.proofs.Common.{get_or-set_other, get_or-set_same, length-set}
use Rattle.std.specs.Int.{int_wrap}
use Rattle.std.specs.List.{range_with_len}
use Rattle.std.proofs.Math.ListN.{get_or-map}
use Rattle.std.proofs.lemmas.Int.{to_z-of_z, wrapping_add_is}
use Rattle.std.proofs.lemmas.List.FromFn.{get_or-map-range_with_len}
use Rattle.nd_base.specs.declared.array.SampleType.{SampleType}
use Rattle.nd_base.specs.Samples.{width}
use Rattle.lane_kernels.specs.Plain.{run}
use Rattle.lane_kernels.proofs.Narrow.{two_fit}
use Rattle.lane_kernels.proofs.binned.add_low_lanes.Goals as goal

-- one of the lanes
lane : (kind : SampleType) (line : List ℕ) (place k : ℕ) (more : List ℤ) → width kind ≤ 2 → ((i : ℕ) → Fits w8 (get_or line i 0)) → k < 8
    → more ≡ map (λ k. run kind line 2 (place + k * 2)) (range_with_len 0 8)
    → get_or (map (to_z w32) (map (of_z w32) more)) k (pos 0) ≡ run kind line 2 (place + k * 2)
lane kind line place k more few fit h e =
    get_or-map (to_z w32) (map (of_z w32) more) k 0 ∙ ap (to_z w32) (get_or-map (of_z w32) more k (pos 0))
    ∙ ap (λ l. to_z w32 (of_z w32 (get_or l k (pos 0)))) e
    ∙ ap (λ z. to_z w32 (of_z w32 z)) (get_or-map-range_with_len (λ k. run kind line 2 (place + k * 2)) 0 8 k k (pos 0) h (omega arith))
    ∙ to_z-of_z w32 (run kind line 2 (place + k * 2)) (two_fit kind line (place + k * 2) fit few)

pub loop-k-preserved : goal.loop-k-preserved
loop-k-preserved c =
    let kind = c.args.kind in
    let line = c.args.line.now in
    let i = c.loop-k.k in
    let more = run kind line 2 (c.args.place + i * 2) in
    let old : ℤ = get_or c.loop-k.sums i (pos 0) in
    let fits : FitsSigned w32 old = search rules in
    let is = lane kind line c.args.place i c.low_pair_sums.result c.requires.narrow c.type_inv.line (omega arith) c.low_pair_sums.ensures in
    let here = ap (λ z. to_z w32 ((of_z w32 old + of_z w32 z) % 4294967296)) is
    ∙ wrapping_add_is w32 old more fits (two_fit kind line (c.args.place + i * 2) c.type_inv.line c.requires.narrow)
    ∙ ap (λ z. int_wrap w32 (z +ℤ more)) (c.loop-k.invariant.rest i (omega arith)) in
    record {
      lanes = rw length-set c.loop-k.invariant.lanes;
      added = below_more _ _
          (λ k h. let ne : k ≢ i = omega arith in rw get_or-set_other (c.loop-k.invariant.added k h))
          (let lt : i < length c.loop-k.sums = omega (arith, c.loop-k.invariant.lanes) in rw get_or-set_same here);
      rest = λ k h. let ne : k ≢ i = omega arith in rw get_or-set_other (c.loop-k.invariant.rest k (omega arith));
    }
