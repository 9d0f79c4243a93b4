use Rattle.std.proofs.Common.{◌≡◌, ◌++◌, map, take, ap, sym, ◌∙◌, arith}
use Rattle.std.proofs.lemmas.List.{take_all}
use Rattle.std.specs.List.{flat_map}
use Rattle.cdf_write.specs.Spelling.{signed_word}
use Rattle.cdf_write.specs.DimParts.{part_of}
use Rattle.cdf_write.proofs.Pieces.{gains, then}
use Rattle.cdf_write.specs.SpellingLaws.{int_attribute-map}
use Rattle.cdf_write.proofs.attributes.push_dim_part.Goals as goal

pub returns : goal.returns
returns c =
    let dims = c.args.dims.now in
    let all : take c.loop-dim.dim-index dims ≡ dims = take_all c.loop-dim.dim-index dims (omega arith) in
    let numbers : c.loop-dim.out.items ≡ c.push_word-2.new.out.items ++ flat_map signed_word (map (part_of c.args.part) dims) =
    rw all at c.loop-dim.invariant in
    let front = then (then (gains _ _ _ c.in_ok-push_name.ensures) (gains _ _ _ c.in_ok-push_word.ensures.bytes)) (gains _ _ _ c.in_ok-push_word-2.ensures.bytes) in
    (then front (gains _ _ _ numbers)).is ∙ ap (λ bytes. c.args.out.now.items ++ bytes) (sym (int_attribute-map c.args.name.now (part_of c.args.part) dims))
