use Rattle.std.proofs.Common.{◌+◌, ◌%◌, drop, take, map, pos, negsuc, ◌+ℤ◌, ap, refl, sym, ◌∙◌, arith}
use Rattle.std.proofs.lemmas.Int.{ints}
use Rattle.std.proofs.lemmas.List.{length-drop, length-take-le}
use Rattle.std.proofs.lemmas.Simd.{zip2_splat, map-map}
use Rattle.nd_base.specs.declared.array.SampleType.TheVariants.{Int8, UInt8}
use Rattle.nd_base.specs.Samples.{numbers}
use Rattle.lane_kernels.specs.Lanes.{offset}
use Rattle.lane_kernels.proofs.Rows.{bytes_behind, byte_row, turned_byte}
use Rattle.lane_kernels.proofs.lanes.byte_lanes.Goals as goal
use Rattle.lane_kernels.proofs.lanes.byte_lanes.Goals.{in-Int8, in-UInt8}

pub returns : goal.returns
returns c =
    let bytes = drop c.args.at c.args.bytes.now in
    let small = bytes_behind c.args.at c.args.bytes.now c.type_inv.bytes in
    let behind = length-drop c.args.at c.args.bytes.now in
    elim c.match-kind.branch [
      | in-Int8 w ↦ ap (λ kind. map (λ x. pos x +ℤ offset kind) c.match-kind.result) w.in-Int8.is
          ∙ ap (map (λ x. pos x +ℤ negsuc 127)) (w.result-is ∙ zip2_splat (λ a b. (a + b) % 256) (take 16 bytes) 16 128 (length-take-le 16 bytes (omega (arith, behind))))
          ∙ map-map (λ x. pos x +ℤ negsuc 127) (λ b. (b + 128) % 256) (take 16 bytes)
          ∙ byte_row Int8 (λ b. pos ((b + 128) % 256) +ℤ negsuc 127) refl turned_byte 16 bytes (omega (arith, behind)) small
          ∙ ap (λ kind. numbers kind 16 bytes) (sym w.in-Int8.is)
      | in-UInt8 w ↦ ap (λ kind. map (λ x. pos x +ℤ offset kind) c.match-kind.result) w.in-UInt8.is
          ∙ ap (map (λ x. pos x +ℤ pos 0)) w.result-is
          ∙ byte_row UInt8 (λ b. pos b +ℤ pos 0) refl (λ b h. omega (arith, ints)) 16 bytes (omega (arith, behind)) small
          ∙ ap (λ kind. numbers kind 16 bytes) (sym w.in-UInt8.is)
    ]
