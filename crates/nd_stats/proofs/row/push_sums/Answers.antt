use Rattle.std.proofs.Common.{rules, ◌++◌, ◌∙◌, ap, codes, string_bytes, w64}
use Rattle.std.specs.Fmt.{decimal, signed_decimal}
use Rattle.std.proofs.lemmas.Int.{to_z-of_z}
use Rattle.std.proofs.lemmas.Result.{on_ok_weaker}
use Rattle.nd_stats.proofs.Texts.{one_more}
use Rattle.nd_stats.proofs.row.push_sums.Goals as goal

pub returns : goal.returns
returns c =
    let m = c.args.m.now in
    let value-1 = to_z-of_z w64 m.total (search rules) in
    let value-3 = to_z-of_z w64 m.border (search rules) in
    let old = string_bytes c.args.text.now in
    let more-1 = codes " total=" ++ signed_decimal m.total in
    let more-2 = more-1 ++ codes " squares=" ++ decimal m.squares in
    let more-3 = more-2 ++ codes " border=" ++ signed_decimal m.border in
    let second = one_more old more-1 (string_bytes c.push_named.new.text) (string_bytes c.push_named-2.new.text) (codes " squares=") (decimal m.squares)
    (c.in_ok-push_named.ensures ∙ ap (λ v. string_bytes c.args.text.now ++ (codes " total=" ++ signed_decimal v)) value-1)
    c.in_ok-push_named-2.ensures in
    let third = one_more old more-2 (string_bytes c.push_named-2.new.text) (string_bytes c.push_named-3.new.text) (codes " border=")
    (signed_decimal m.border) second
    (c.in_ok-push_named-3.ensures ∙ ap (λ v. string_bytes c.push_named-2.new.text ++ (codes " border=" ++ signed_decimal v)) value-3) in
    on_ok_weaker c.push_named-4.result
    (λ fourth. one_more old more-3 (string_bytes c.push_named-3.new.text) (string_bytes c.push_named-4.new.text) (codes "/") (decimal m.border_n) third
    fourth)
    c.push_named-4.ensures
