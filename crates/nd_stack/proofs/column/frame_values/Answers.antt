use Rattle.std.proofs.Common.{◌≡◌, drop, arith, ap, sym, ◌∙◌}
use Rattle.nd_stack.proofs.Sizes.{count-most}
use Rattle.nd_stack.proofs.column.frame_values.Goals as goal

pub count_of-requires : goal.count_of-requires
count_of-requires c =
    let rest : drop 1 c.args.var.now.dims ≡ c.in-Some.others.now = ap (drop 1) (sym c.as_slice.ensures ∙ c.in-Some.ensures.cases.0) in
    let most = count-most c.args.header.now c.args.var.now in
    rw (c.as_slice-in-Some.ensures, ← rest) (omega (arith, most, c.requires))
