use Rattle.std.proofs.Common.{arith, sym, length, pos, subst, refl}
use Rattle.std.specs.Prelude.{[], replicate}
use Rattle.std.proofs.lemmas.List.{length-replicate, get_or-replicate}
use Rattle.std.proofs.lemmas.List.Elements.{All-nil}
use Rattle.circular_buffer.specs.Buffer.{buffer}
use Rattle.nd_series.specs.KeptFields.{IsSeries, IsRow}
use Rattle.nd_series.proofs.Summed.{no_sums}
use Rattle.nd_series.proofs.series.Series.new.Goals as goal

pub invariant_of-result : goal.invariant_of-result
invariant_of-result c =
    let n = c.args.regions in
    let zeros = replicate n (pos 0) in
    subst (λ kept. IsSeries kept c.in_ok-sums.sums.items) (sym c.in_ok-kept.ensures)
    (subst (IsSeries (buffer [] c.args.length)) (sym (c.in_ok-sums.ensures.items_if_clones_equal (λ y e. e))) (record {
      some = c.requires.length.0;
      most = c.requires.length.1;
      room = omega arith;
      rows = All-nil (IsRow (length zeros));
      summed = no_sums (length zeros) zeros refl (λ k h. get_or-replicate n k (pos 0) (pos 0) (let l = length-replicate n (pos 0) in omega (arith, l)));
    }))
