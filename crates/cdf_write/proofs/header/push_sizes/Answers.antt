use Rattle.std.proofs.Common.{◌≡◌, ◌+◌, ◌-◌, ◌++◌, length, take, false, pos, ap, sym, ◌∙◌, append_assoc, arith}
use Rattle.nd_base.specs.declared.array.Dim.{Dim}
use Rattle.cdf_write.proofs.DimensionList.{sizes_from, sizes_from-more}
use Rattle.cdf_write.proofs.header.push_sizes.Goals as goal

nothing : Dim
nothing = record { size = 0; offset = pos 0; binning = pos 0; reverse = false }

pub loop-i-preserved : goal.loop-i-preserved
unfolding nothing
loop-i-preserved c =
    let dims = c.args.dims.now in
    let i = c.loop-i.i in
    let m = length dims - 1 - i in
    let left : length dims - i ≡ m + 1 = omega arith in
    let rest : length dims - (i + 1) ≡ m = omega arith in
    let slowest = ap (λ n. sizes_from i (take n dims)) left ∙ sizes_from-more dims i m nothing (omega arith) in
    let before = c.loop-i.invariant in
    rw rest (ap (λ bytes. bytes ++ sizes_from (i + 1) (take m dims)) c.in_ok-push_dimension.ensures
    ∙ append_assoc c.loop-i.out.items _ (sizes_from (i + 1) (take m dims)) ∙ ap (λ bytes. c.loop-i.out.items ++ bytes) (sym slowest) ∙ before)
