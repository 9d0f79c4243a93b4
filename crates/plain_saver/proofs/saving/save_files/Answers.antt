use Rattle.std.proofs.Common.{◌≡◌, length, subst, arith}
use Rattle.plain_saver.specs.Saved.{AreLeftFrom}
use Rattle.plain_saver.proofs.saving.save_files.Goals as goal

pub end-requires-clause-left : goal.end-requires-clause-left
end-requires-clause-left g c =
    let e : c.loop-index.index ≡ length c.args.stack.now.arrays = omega (arith, c.frames-index-end.ensures) in
    subst (λ n. AreLeftFrom c.args.plan.now.graph c.loop-index.saver.passes.items c.loop-index.saver.files n n) e c.loop-index.invariant.left
