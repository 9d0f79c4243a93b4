use Rattle.std.proofs.Common.{rules, ◌++◌, ◌∙◌, ap, codes, string_bytes, w64}
use Rattle.std.specs.Int.{w128}
use Rattle.std.specs.Fmt.{decimal, signed_decimal}
use Rattle.std.proofs.lemmas.Int.{to_z-of_z}
use Rattle.std.proofs.lemmas.Result.{on_ok_weaker}
use Rattle.nd_stats.proofs.Texts.{one_more}
use Rattle.nd_stats.proofs.row.push_moments.Goals as goal

pub returns : goal.returns
returns c =
    let m = c.args.m.now in
    let value-2 = to_z-of_z w64 m.m0 (search rules) in
    let value-3 = to_z-of_z w128 m.mx (search rules) in
    let value-4 = to_z-of_z w128 m.my (search rules) in
    let old = string_bytes c.args.text.now in
    let more-1 = codes " over=" ++ decimal m.over in
    let more-2 = more-1 ++ codes " m0=" ++ signed_decimal m.m0 in
    let more-3 = more-2 ++ codes " mx=" ++ signed_decimal m.mx in
    let second = one_more old more-1 (string_bytes c.push_named.new.text) (string_bytes c.push_named-2.new.text) (codes " m0=")
    (signed_decimal m.m0) c.in_ok-push_named.ensures
    (c.in_ok-push_named-2.ensures ∙ ap (λ v. string_bytes c.push_named.new.text ++ (codes " m0=" ++ signed_decimal v)) value-2) in
    let third = one_more old more-2 (string_bytes c.push_named-2.new.text) (string_bytes c.push_named-3.new.text) (codes " mx=") (signed_decimal m.mx) second
    (c.in_ok-push_named-3.ensures ∙ ap (λ v. string_bytes c.push_named-2.new.text ++ (codes " mx=" ++ signed_decimal v)) value-3) in
    on_ok_weaker c.push_named-4.result
    (λ fourth. one_more old more-3 (string_bytes c.push_named-3.new.text) (string_bytes c.push_named-4.new.text) (codes " my=") (signed_decimal m.my) third
    (fourth ∙ ap (λ v. string_bytes c.push_named-3.new.text ++ (codes " my=" ++ signed_decimal v)) value-4))
    c.push_named-4.ensures
