use Rattle.std.proofs.Common.{sym, ap, subst, ◌≤◌, ◌≡◌, ◌∙◌, length, arith}
use Rattle.std.specs.Prelude.{min}
use Rattle.std.proofs.Math.Nat.{min-le_left}
use Rattle.nd_base.specs.Forms.{longest_of}
use Rattle.nd_base.specs.declared.attribute.FileShape.{FileShape}
use Rattle.cdf_write.specs.Lengths.{length_of}
use Rattle.cdf_write.specs.Writable.{IsWritable}
use Rattle.graph_files.specs.NodeShapes.{file_shape-IsWritable}
use Rattle.graph_files.specs.OutFiles.{file_shape}
use Rattle.graph_files.proofs.node_files.NodeFiles.new.Goals as goal

pub invariant_of-result : goal.invariant_of-result
invariant_of-result c =
    let shape : c.in_ok-shape.shape ≡ file_shape c.args.plan.now.graph c.args.stack.now c.args.node = c.in_ok-shape.ensures in
    let room : c.min.result ≡ min c.args.rule.now.count (length c.args.stack.now.arrays) = c.min.ensures ∙ ap (min c.args.rule.now.count) c.frames.ensures in
    record {
      writable = subst IsWritable (sym shape) (file_shape-IsWritable c.args.plan.now.graph c.args.stack.now c.args.node c.requires.kept.writable);
      some = c.requires.rule.count.0;
      few = omega (arith, room, min-le_left c.args.rule.now.count (length c.args.stack.now.arrays));
      within =
          subst (λ (n : _). length_of c.in_ok-shape.shape n ≤ longest_of c.in_ok-shape.shape.form) (sym room)
          (subst (λ (sh : FileShape). length_of sh (min c.args.rule.now.count (length c.args.stack.now.arrays)) ≤ longest_of sh.form)
          (sym shape) c.requires.within);
    }
