use Rattle.std.proofs.Common.{◌≡◌, ◌*◌, ◌%◌, ℤ, drop, map, to_z, of_z, w32, ap, sym, subst, ◌∙◌}
use Rattle.std.specs.Simd.Lanes.{Each1}
use Rattle.nd_base.specs.Samples.{width, number}
use Rattle.lane_kernels.specs.Plain.{square}
use Rattle.lane_kernels.proofs.Rows.{bytes_behind, each_number, squared, square_lane, short_number}
use Rattle.lane_kernels.proofs.lanes.square_row.Goals as goal

pub returns : goal.returns
returns c =
    let kind = c.args.kind in
    let bytes = drop (c.args.place * width kind) c.args.bytes.now in
    let small = bytes_behind (c.args.place * width kind) c.args.bytes.now c.type_inv.bytes in
    let IsSquare : ℤ → Type 0 = λ v. to_z w32 ((of_z w32 v * of_z w32 v) % 4294967296) ≡ square v in
    let each = each_number IsSquare kind (λ b s. square_lane (number kind b) (short_number kind c.requires.narrow c.requires.other b s)) 8 bytes small in
    squared (λ a b. (a * b) % 4294967296) c.narrow_row-row.result (subst (Each1 IsSquare) (sym c.narrow_row-row.ensures) each)
    ∙ ap (map square) c.narrow_row-row.ensures
