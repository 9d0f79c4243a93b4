use Rattle.std.proofs.Common.{◌++◌, take, drop, ap, sym, ◌∙◌}
use Rattle.nd_orient.proofs.Bytes.{set-two, take-two}
use Rattle.nd_orient.proofs.cells.copy_two.Goals as goal

pub returns : goal.returns
returns c =
    let out = c.args.out.now in
    let target = c.args.target in
    set-two out target _ _ c.requires.output
    ∙ ap (λ ys. take target out ++ (ys ++ drop 2 (drop target out))) (sym (take-two c.args.input.now c.args.source c.requires.input))
