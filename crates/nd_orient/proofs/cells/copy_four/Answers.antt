use Rattle.std.proofs.Common.{◌++◌, take, drop, ap, sym, ◌∙◌}
use Rattle.nd_orient.proofs.Bytes.{set-four, take-four}
use Rattle.nd_orient.proofs.cells.copy_four.Goals as goal

pub returns : goal.returns
returns c =
    let out = c.args.out.now in
    let target = c.args.target in
    set-four out target _ _ _ _ c.requires.output
    ∙ ap (λ ys. take target out ++ (ys ++ drop 4 (drop target out))) (sym (take-four c.args.input.now c.args.source c.requires.input))
