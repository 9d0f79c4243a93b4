use Rattle.std.proofs.Common.{◌≡◌, ℕ, ◌+◌, ◌*◌, ◌/◌, ◌++◌, ℤ, ◌+ℤ◌, w64, length, take, drop, arith, ap, sym, subst, ◌∙◌, to_z, sum_by}
use Rattle.std.proofs.lemmas.List.Sums.{sum_by-append}
use Rattle.std.proofs.lemmas.Int.{to_z-of_z}
use Rattle.lane_kernels.specs.Plain.{total, squares}
use Rattle.nd_base.specs.Samples.{width, number, numbers, samples_of}
use Rattle.nd_stats.specs.declared.blocks.Basics.{Basics}
use Rattle.nd_stats.specs.Samples.{Sample, placed, sum_of}
use Rattle.nd_stats.specs.Measured.{square}
use Rattle.nd_stats.specs.Running.{AreBasics, AreExtremes, IsEdge, AreMoments}
use Rattle.nd_stats.proofs.BlockRooms.{fit_behind, block_total, block_squares, block_edge, block_moments}
use Rattle.nd_stats.proofs.Edges.{edges_both}
use Rattle.nd_stats.proofs.Joins.{room_more, fits_room, fits_rooms}
use Rattle.nd_stats.proofs.MomentLines.{moments_both}
use Rattle.nd_stats.proofs.Parts.{parts-more}
use Rattle.nd_stats.proofs.Sums.{sum_of-append}
use Rattle.nd_stats.proofs.Totals.{total_placed, squares_placed}
use Rattle.nd_stats.proofs.blocks.basics_of.Goals as goal

pub overflow_add-total : goal.overflow_add-total
overflow_add-total c =
    let kind = c.args.kind in
    let at = c.loop-done.done * width kind in
    let rest = drop at c.args.samples.now in
    let a : ℤ = to_z w64 c.loop-done.total-bits in
    let b : ℤ = c.sums_bytes-more.result.0 in
    let count : length c.args.samples.now / c.width.result ≡ length c.args.samples.now / width kind = ap (λ w. length c.args.samples.now / w) c.width.ensures in
    let ha = block_total kind c.args.from c.loop-done.done c.args.samples.now c.type_inv.samples
    (omega (arith, count, c.loop-done.invariant.done, c.requires.within, c.requires.frame.few)) a c.loop-done.invariant.total in
    let hb = block_total kind 0 c.min-size.result rest (fit_behind at c.args.samples.now c.type_inv.samples)
    (omega (arith, count, c.min-size.ensures, c.requires.within, c.requires.frame.few)) b
    (c.sums_bytes-more.ensures.sum ∙ ap total c.part-block.ensures.values ∙ total_placed 0 (numbers kind c.min-size.result rest)) in
    rw (to_z-of_z w64 b (fits_room b hb)) (fits_rooms a b ha hb)

pub overflow_add-squares : goal.overflow_add-squares
overflow_add-squares c =
    let kind = c.args.kind in
    let at = c.loop-done.done * width kind in
    let rest = drop at c.args.samples.now in
    let count : length c.args.samples.now / c.width.result ≡ length c.args.samples.now / width kind = ap (λ w. length c.args.samples.now / w) c.width.ensures in
    let ha = block_squares kind c.args.from c.loop-done.done c.args.samples.now c.type_inv.samples
    (omega (arith, count, c.loop-done.invariant.done, c.requires.within, c.requires.frame.few)) c.loop-done.squares c.loop-done.invariant.squares in
    let hb = block_squares kind 0 c.min-size.result rest (fit_behind at c.args.samples.now c.type_inv.samples)
    (omega (arith, count, c.min-size.ensures, c.requires.within, c.requires.frame.few)) c.sums_bytes-more.result.1
    (c.sums_bytes-more.ensures.squares ∙ ap squares c.part-block.ensures.values ∙ squares_placed 0 (numbers kind c.min-size.result rest)) in
    record { fits = omega (arith, ha, hb) }

pub extend-requires-clause-one : goal.extend-requires-clause-one
extend-requires-clause-one c =
    let bytes = c.args.samples.now in
    let count : length bytes / c.width.result ≡ length bytes / width c.args.kind = ap (λ w. length bytes / w) c.width.ensures in
    block_edge c.args.kind c.args.from c.loop-done.done bytes c.type_inv.samples
    (omega (arith, count, c.loop-done.invariant.done, c.requires.within, c.requires.frame.few))
    c.args.rule.now c.args.dims.now c.loop-done.edge c.loop-done.invariant.edge

pub extend-requires-clause-two : goal.extend-requires-clause-two
extend-requires-clause-two c =
    let kind = c.args.kind in
    let at = c.loop-done.done * width kind in
    let rest = drop at c.args.samples.now in
    let count : length c.args.samples.now / c.width.result ≡ length c.args.samples.now / width kind = ap (λ w. length c.args.samples.now / w) c.width.ensures in
    let p : ℕ = c.args.from + c.loop-done.done in
    block_edge kind p c.min-size.result rest (fit_behind at c.args.samples.now c.type_inv.samples)
    (omega (arith, count, c.min-size.ensures, c.requires.within, c.requires.frame.few)) c.args.rule.now c.args.dims.now c.edge_of.result
    (subst (λ vs. IsEdge c.args.rule.now c.args.dims.now (placed p vs) c.edge_of.result) c.part-block.ensures.values c.edge_of.ensures)

pub join-requires-clause-one : goal.join-requires-clause-one
join-requires-clause-one c =
    let bytes = c.args.samples.now in
    let count : length bytes / c.width.result ≡ length bytes / width c.args.kind = ap (λ w. length bytes / w) c.width.ensures in
    block_moments c.args.kind c.args.from c.loop-done.done bytes c.type_inv.samples
    (omega (arith, count, c.loop-done.invariant.done, c.requires.within, c.requires.frame.few))
    c.args.rule.now c.args.dims.now c.loop-done.moments c.requires.frame c.loop-done.invariant.moments

pub join-requires-clause-two : goal.join-requires-clause-two
join-requires-clause-two c =
    let kind = c.args.kind in
    let at = c.loop-done.done * width kind in
    let rest = drop at c.args.samples.now in
    let count : length c.args.samples.now / c.width.result ≡ length c.args.samples.now / width kind = ap (λ w. length c.args.samples.now / w) c.width.ensures in
    let p : ℕ = c.args.from + c.loop-done.done in
    block_moments kind p c.min-size.result rest (fit_behind at c.args.samples.now c.type_inv.samples)
    (omega (arith, count, c.min-size.ensures, c.requires.within, c.requires.frame.few))
    c.args.rule.now c.args.dims.now c.moments_of.result c.requires.frame
    (subst (λ vs. AreMoments c.args.rule.now c.args.dims.now (placed p vs) c.moments_of.result) c.part-block.ensures.values c.moments_of.ensures)

pub loop-done-preserved : goal.loop-done-preserved
loop-done-preserved c =
    let rule = c.args.rule.now in
    let dims = c.args.dims.now in
    let kind = c.args.kind in
    let bytes = c.args.samples.now in
    let from = c.args.from in
    let k = c.loop-done.done in
    let m = c.min-size.result in
    let block = c.part-block.result.now in
    let at = k * width kind in
    let rest = drop at bytes in
    let first : Sample = record { place = from; value = number kind (take (width kind) bytes) } in
    let xs = placed from (numbers kind k bytes) in
    let ys = placed (from + k) (samples_of kind block) in
    let count : length bytes / c.width.result ≡ length bytes / width kind = ap (λ w. length bytes / w) c.width.ensures in
    let both : placed from (numbers kind (k + m) bytes) ≡ xs ++ ys =
    parts-more kind from k m bytes ∙ ap (λ vs. xs ++ placed (from + k) vs) (sym c.part-block.ensures.values) in
    let a : ℤ = to_z w64 c.loop-done.total-bits in
    let b : ℤ = c.sums_bytes-more.result.0 in
    let ha = block_total kind from k bytes c.type_inv.samples (omega (arith, count, c.loop-done.invariant.done, c.requires.within, c.requires.frame.few)) a
    c.loop-done.invariant.total in
    let hb = block_total kind 0 m rest (fit_behind at bytes c.type_inv.samples)
    (omega (arith, count, c.min-size.ensures, c.requires.within, c.requires.frame.few)) b
    (c.sums_bytes-more.ensures.sum ∙ ap total c.part-block.ensures.values ∙ total_placed 0 (numbers kind m rest)) in
    record {
      done = omega (arith, count, c.min-size.ensures, c.loop-done-test.true);
      extremes = subst (λ zs. AreExtremes first zs c.with_block-extremes.result) (sym both) (c.with_block-extremes.ensures first xs
          c.loop-done.invariant.extremes);
      total = room_more a b ha hb ∙ ap (λ z. z +ℤ b) c.loop-done.invariant.total
          ∙ ap (λ z. sum_of (λ t. t.value) xs +ℤ z) (c.sums_bytes-more.ensures.sum ∙ total_placed (from + k) (samples_of kind block))
          ∙ sym (sum_of-append (λ t. t.value) xs ys) ∙ ap (sum_of (λ t. t.value)) (sym both);
      squares = ap (λ n. n + c.sums_bytes-more.result.1) c.loop-done.invariant.squares
          ∙ ap (λ n. sum_by (λ t. square t.value) xs + n) (c.sums_bytes-more.ensures.squares ∙ squares_placed (from + k) (samples_of kind block))
          ∙ sym (sum_by-append (λ (t : Sample). square t.value) xs ys) ∙ ap (sum_by (λ t. square t.value)) (sym both);
      edge = subst (λ zs. IsEdge rule dims zs c.extend.new.self) (sym both)
          (edges_both rule dims xs ys c.loop-done.edge c.edge_of.result c.extend.new.self c.loop-done.invariant.edge c.edge_of.ensures
          c.extend.ensures.count c.extend.ensures.sum);
      moments = subst (λ zs. AreMoments rule dims zs c.join.new.self) (sym both)
          (moments_both rule dims xs ys c.loop-done.moments c.moments_of.result c.join.new.self c.loop-done.invariant.moments c.moments_of.ensures
          c.join.ensures.over c.join.ensures.m0 c.join.ensures.mx c.join.ensures.my);
    }

pub returns : goal.returns
returns c =
    let rule = c.args.rule.now in
    let dims = c.args.dims.now in
    let kind = c.args.kind in
    let bytes = c.args.samples.now in
    let first : Sample = record { place = c.args.from; value = number kind (take (width kind) bytes) } in
    let basics : Basics =
    record {
      extremes = c.loop-done.extremes;
      total = to_z w64 c.loop-done.total-bits;
      squares = c.loop-done.squares;
      edge = c.loop-done.edge;
      moments = c.loop-done.moments;
    } in
    let count : length bytes / c.width.result ≡ length bytes / width kind = ap (λ w. length bytes / w) c.width.ensures in
    let all : c.loop-done.done ≡ length bytes / width kind = omega (arith, count, c.loop-done.invariant.done, c.loop-done-test.false) in
    let is : AreBasics rule dims first (placed c.args.from (numbers kind c.loop-done.done bytes)) basics = record {
      extremes = c.loop-done.invariant.extremes;
      total = c.loop-done.invariant.total;
      squares = c.loop-done.invariant.squares;
      edge = c.loop-done.invariant.edge;
      moments = c.loop-done.invariant.moments;
    } in
    subst (λ n. AreBasics rule dims first (placed c.args.from (numbers kind n bytes)) basics) all is
