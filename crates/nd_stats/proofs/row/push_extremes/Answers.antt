use Rattle.std.proofs.Common.{rules, ◌++◌, ◌∙◌, ap, codes, string_bytes, w64}
use Rattle.std.specs.Fmt.{decimal, signed_decimal}
use Rattle.std.proofs.lemmas.Int.{to_z-of_z}
use Rattle.std.proofs.lemmas.Result.{on_ok_weaker}
use Rattle.nd_stats.proofs.Texts.{one_more}
use Rattle.nd_stats.proofs.row.push_extremes.Goals as goal

pub returns : goal.returns
returns c =
    let m = c.args.m.now in
    let value-1 = to_z-of_z w64 m.min (search rules) in
    let value-3 = to_z-of_z w64 m.max (search rules) in
    let old = string_bytes c.args.text.now in
    let more-1 = codes " min=" ++ signed_decimal m.min in
    let more-2 = more-1 ++ codes "@" ++ decimal m.min_at in
    let more-3 = more-2 ++ codes " max=" ++ signed_decimal m.max in
    let second = one_more old more-1 (string_bytes c.push_named.new.text) (string_bytes c.push_named-2.new.text) (codes "@") (decimal m.min_at)
    (c.in_ok-push_named.ensures ∙ ap (λ v. string_bytes c.args.text.now ++ (codes " min=" ++ signed_decimal v)) value-1)
    c.in_ok-push_named-2.ensures in
    let third = one_more old more-2 (string_bytes c.push_named-2.new.text) (string_bytes c.push_named-3.new.text) (codes " max=") (signed_decimal m.max) second
    (c.in_ok-push_named-3.ensures ∙ ap (λ v. string_bytes c.push_named-2.new.text ++ (codes " max=" ++ signed_decimal v)) value-3) in
    on_ok_weaker c.push_named-4.result
    (λ fourth. one_more old more-3 (string_bytes c.push_named-3.new.text) (string_bytes c.push_named-4.new.text) (codes "@") (decimal m.max_at) third
    fourth)
    c.push_named-4.ensures
