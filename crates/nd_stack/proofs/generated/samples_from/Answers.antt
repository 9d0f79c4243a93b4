use Rattle.std.proofs.Common.{◌++◌, ℕ, List, map, ap, sym, ◌∙◌}
use Rattle.std.specs.Prelude.{ℤ}
use Rattle.std.specs.List.{range_with_len}
use Rattle.nd_base.specs.Samples.{sample_bytes, bytes_of}
use Rattle.nd_stack.specs.Generated.{next_number, number_after, sample_for}
use Rattle.nd_stack.proofs.GeneratedFrames.{bytes-more, number_after-more}
use Rattle.nd_stack.proofs.generated.samples_from.Goals as goal

pub loop-preserved : goal.loop-preserved
loop-preserved c =
    let kind = c.args.kind in
    let one : ℕ → ℤ = λ j. sample_for kind (number_after c.args.first j) in
    let before : List ℕ = bytes_of kind (map one (range_with_len 0 c.loop.counter)) in (
      c.in_ok-push_sample.ensures ∙ ap (λ bytes. bytes ++ sample_bytes kind (sample_for kind c.loop.number)) c.loop.invariant.0
          ∙ ap (λ x. before ++ sample_bytes kind (sample_for kind x)) c.loop.invariant.1 ∙ sym (bytes-more kind one c.loop.counter),
      c.next_number-number.ensures ∙ ap next_number c.loop.invariant.1 ∙ sym (number_after-more c.args.first c.loop.counter),
    )
