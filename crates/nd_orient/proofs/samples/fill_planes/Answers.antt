use borrow.Rule.Slice.PartMut.{put_mid}
use Rattle.std.proofs.Common.{rules, ◌≡◌, ◌+◌, ◌-◌, ◌*◌, ◌<◌, ◌≤◌, length, take, drop, inl, inr, ap, sym, ◌∙◌, arith}
use Rattle.std.proofs.lemmas.Bool.{cases_lt}
use Rattle.nd_orient.specs.Walk.{cell, line_size, source}
use Rattle.nd_orient.proofs.Parts.{cell_end, cell-put, cell-put_before, cell-between}
use Rattle.nd_orient.proofs.Lines.{place_below, source_below}
use Rattle.nd_orient.proofs.samples.fill_planes.Goals as goal

pub slice_bounds-fill_plane-end : goal.slice_bounds-fill_plane-end
slice_bounds-fill_plane-end c =
    let size = c.args.plane.columns * c.args.plane.rows * c.args.width in
    let end = cell_end c.loop-z.z c.args.planes size c.loop-z-test.true in
    let same : c.loop-z.z * size + size ≤ length c.args.out.now = omega (arith, end, c.requires.output) in
    search (rules, same)

pub loop-z-preserved : goal.loop-z-preserved
loop-z-preserved c = λ x y z h g below.
    let line = line_size c.args.plane in
    let w = c.args.width in
    let area = c.args.plane.columns * c.args.plane.rows in
    let at = c.loop-z.z * (area * w) in
    let start : at ≡ c.loop-z.z * area * w = omega arith in
    let many : at + area * w - at ≡ area * w = omega arith in
    let long : length c.fill_plane.new.out ≡ area * w = omega arith in
    let end = cell_end c.loop-z.z c.args.planes (area * w) c.loop-z-test.true in
    let within : c.loop-z.z * area * w + area * w ≤ length c.loop-z.out = omega (arith, end, c.requires.output) in
    let inner : y * line + x < area = place_below c.args.plane x y h g in
    elim (cases_lt z c.loop-z.z) [
      | inl before ↦
          let earlier = cell_end z c.loop-z.z area before in
          cell-put_before w (c.loop-z.z * area) area at (at + area * w - at) c.loop-z.out c.fill_plane.new.out start many long within
          (z * area + (y * line + x)) (omega (arith, earlier, inner)) ∙ c.loop-z.invariant x y z h g before
      | inr after ↦
          let here : z ≡ c.loop-z.z = omega arith in
          ap (λ v. cell w (put_mid at (at + area * w - at) c.loop-z.out c.fill_plane.new.out) (v * area + (y * line + x))) here
          ∙ cell-put w (c.loop-z.z * area) area at (at + area * w - at) c.loop-z.out c.fill_plane.new.out start many long within (y * line + x) inner
          ∙ c.fill_plane.ensures x y h g
          ∙ ap (λ n. cell w (take n (drop at c.args.input.now)) (source c.args.plane x y)) many
          ∙ ap (λ n. cell w (take (area * w) (drop n c.args.input.now)) (source c.args.plane x y)) start
          ∙ cell-between w (c.loop-z.z * area) area (source c.args.plane x y) c.args.input.now (source_below c.args.plane x y h g)
          ∙ ap (λ v. cell w c.args.input.now (v * area + source c.args.plane x y)) (sym here)
    ]
