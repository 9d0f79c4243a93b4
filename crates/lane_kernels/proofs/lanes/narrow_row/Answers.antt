use Rattle.std.proofs.Common.{◌≡◌, ◌*◌, ℕ, drop, map, to_z, of_z, w32, ap, refl, sym, ◌∙◌, arith}
use Rattle.std.specs.Int.{w16}
use Rattle.nd_base.specs.declared.array.SampleType.TheVariants.{Int8, UInt8}
use Rattle.nd_base.specs.Samples.{width, numbers}
use Rattle.nd_base.specs.SampleLaws.{AreBytes}
use Rattle.lane_kernels.proofs.Rows.{bytes_behind, narrow_fits, kept, pairs_wider}
use Rattle.lane_kernels.proofs.lanes.narrow_row.Goals as goal
use Rattle.lane_kernels.proofs.lanes.narrow_row.Goals.{in-Int8, in-UInt8, in-Int16}

pub returns : goal.returns
returns c =
    let bytes = c.args.bytes.now in
    let place = c.args.place in
    let one : place ≡ place * 1 = omega arith in
    let small : (at : ℕ) → AreBytes (drop at bytes) = λ at. bytes_behind at bytes c.type_inv.bytes in
    elim c.match-kind.branch [
      | in-Int8 w ↦ ap (map (to_z w32)) (w.result-is ∙ ap (map (of_z w32)) (w.signed_bytes_at.ensures ∙ ap (λ at. numbers Int8 8 (drop at bytes)) one))
          ∙ kept w32 (numbers Int8 8 (drop (place * 1) bytes)) (narrow_fits Int8 (omega arith) 8 (drop (place * 1) bytes) (small (place * 1)))
          ∙ ap (λ kind. numbers kind 8 (drop (place * width kind) bytes)) (sym w.in-Int8.is)
      | in-UInt8 w ↦ ap (map (to_z w32)) (w.result-is ∙ ap (map (of_z w32)) (w.bytes_at.ensures ∙ ap (λ at. numbers UInt8 8 (drop at bytes)) one))
          ∙ kept w32 (numbers UInt8 8 (drop (place * 1) bytes)) (narrow_fits UInt8 (omega arith) 8 (drop (place * 1) bytes) (small (place * 1)))
          ∙ ap (λ kind. numbers kind 8 (drop (place * width kind) bytes)) (sym w.in-UInt8.is)
      | in-Int16 w ↦ ap (map (to_z w32)) w.result-is
          ∙ pairs_wider (λ b. of_z w32 (to_z w16 b)) (λ b. refl) 8 (drop (place * 2) bytes) w.signed_pairs_at.result w.signed_pairs_at.ensures (small (place * 2))
          ∙ ap (λ kind. numbers kind 8 (drop (place * width kind) bytes)) (sym w.in-Int16.is)
    ]
