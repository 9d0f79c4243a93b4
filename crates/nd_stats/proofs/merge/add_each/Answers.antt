use Rattle.std.proofs.Common.{◌≡◌, take, get_or, set, ℤ, pos, ◌+ℤ◌, sym, subst, ap, ◌∙◌, arith, add-one, w64, FitsSigned}
use Rattle.std.proofs.lemmas.Int.{to_z-of_z}
use Rattle.nd_stats.specs.Joined.{summed}
use Rattle.nd_stats.specs.Tallies.{HasRoom}
use Rattle.nd_stats.proofs.Joins.{summed-nil, get_or-summed, summed-more, fits_room, fits_rooms, room_sum}
use Rattle.nd_stats.proofs.merge.add_each.Goals as goal

pub loop-index-init : goal.loop-index-init
loop-index-init c = sym (summed-nil c.args.sums.now)

pub overflow_add-sums : goal.overflow_add-sums
overflow_add-sums c =
    let i = c.loop-index.index in
    let a : ℤ = get_or c.loop-index.sums i (pos 0) in
    let b : ℤ = get_or c.args.more.now i (pos 0) in
    let same : a ≡ get_or c.args.sums.now i (pos 0) = ap (λ l. get_or l i (pos 0)) c.loop-index.invariant ∙ get_or-summed c.args.sums.now c.args.more.now i in
    let ha : HasRoom a = subst HasRoom (sym same) (c.requires.room i (omega (arith, c.requires.lengths))) in
    let hb : HasRoom b = c.requires.more i c.loop-index-test.true in
    let fa : FitsSigned w64 a = fits_room a ha in
    let fb : FitsSigned w64 b = fits_room b hb in
    simp to_z-of_z (fits_rooms a b ha hb)

pub loop-index-preserved : goal.loop-index-preserved
loop-index-preserved c =
    let i = c.loop-index.index in
    let olds = c.args.sums.now in
    let more = c.args.more.now in
    let a : ℤ = get_or c.loop-index.sums i (pos 0) in
    let b : ℤ = get_or more i (pos 0) in
    let same : a ≡ get_or olds i (pos 0) = ap (λ l. get_or l i (pos 0)) c.loop-index.invariant ∙ get_or-summed olds more i in
    let ha : HasRoom a = subst HasRoom (sym same) (c.requires.room i (omega (arith, c.requires.lengths))) in
    let hb : HasRoom b = c.requires.more i c.loop-index-test.true in
    ap (set c.loop-index.sums i) (room_sum a b ha hb ∙ ap (λ v. v +ℤ b) same)
    ∙ ap (λ l. set l i (get_or olds i (pos 0) +ℤ b)) c.loop-index.invariant
    ∙ summed-more olds more i c.loop-index-test.true c.requires.lengths
    ∙ ap (λ k. summed olds (take k more)) (sym (add-one i))
