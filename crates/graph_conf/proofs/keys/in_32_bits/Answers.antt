use Rattle.std.proofs.Common.{◌≡◌, ℤ, pos, negsuc, not, false, get_or, to_z, of_z, ◌++◌, ◌∷◌, [], ap, sym, ◌∙◌, arith, rules}
use Rattle.std.specs.Prelude.{FitsSigned}
use Rattle.std.specs.Int.{w32, w64}
use Rattle.std.proofs.lemmas.Int.{ints, to_z-of_z}
use Rattle.std.proofs.lemmas.List.{take_more}
use Rattle.graph_conf.specs.Keys.{is_within}
use Rattle.graph_conf.proofs.Lists.{find_past}
use Rattle.graph_conf.proofs.keys.in_32_bits.Goals as goal

fits_is_within : (v : ℤ) → FitsSigned w32 v → not (is_within (negsuc 2147483647) (pos 2147483647) v) ≡ false
fits_is_within v fits = grind (arith, ints)

pub loop-number-preserved : goal.loop-number-preserved
loop-number-preserved c =
    let xs = c.args.list.now in
    let i = c.loop-number.number-index in
    let v = get_or xs i (pos 0) in
    let whole : FitsSigned w64 v = search rules in
    let (fits, is) = simp to_z-of_z at c.in-Ok.ensures in
    record {
      kept =
          c.in_ok-push-in-Ok.ensures.items
          ∙ ap (λ n. c.loop-number.kept.items ++ n ∷ []) (ap (λ n. to_z w32 (of_z w32 n)) is ∙ to_z-of_z w32 v fits)
          ∙ ap (λ front. front ++ v ∷ []) c.loop-number.invariant.kept
          ∙ sym (take_more xs i (pos 0) c.loop-number-test.true);
      left = find_past _ xs i (pos 0) c.loop-number-test.true (fits_is_within v fits) ∙ c.loop-number.invariant.left;
    }
