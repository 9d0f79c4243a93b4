use Rattle.std.proofs.Common.{take, drop, ap, sym, ◌∙◌, arith, length-drop}
use Rattle.std.proofs.Math.Seq.{take-add}
use Rattle.edge_traits.specs.Written.{with_written, with_written-with_written}
use Rattle.tool_commands.proofs.Files.{rest_of}
use Rattle.tool_commands.proofs.printing.write_all.Goals as goal

pub loop-at-preserved : goal.loop-at-preserved
loop-at-preserved g c =
    let e = c.in_ok-at.ensures in
    let i = c.loop-at.invariant in
    let at = c.loop-at.at in
    let n = c.in_ok-at.field-0 in
    let text = c.args.text.now in
    record {
      within = omega (arith, e.bound, length-drop at text, i.within);
      so_far =
          e.ok ∙ ap (λ rest. with_written (g.T.Sink.written c.loop-at.out) (take n rest)) (rest_of at text)
          ∙ ap (λ w. with_written w (take n (drop at text))) i.so_far
          ∙ with_written-with_written (g.T.Sink.written c.args.out.now) (take at text) (take n (drop at text))
          ∙ ap (with_written (g.T.Sink.written c.args.out.now)) (sym (take-add at n text));
      none = e.cause ∙ i.none;
    }
