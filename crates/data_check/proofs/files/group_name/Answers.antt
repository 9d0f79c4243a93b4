use Rattle.std.proofs.Common.{◌≡◌, ℕ, ◌-◌, ◌^◌, List, [], ◌++◌, false, ap, ◌∙◌, append_assoc}
use Rattle.std.specs.Prelude.{codes}
use Rattle.std.specs.Fmt.{decimal, format_spec, padded_integral}
use Rattle.std.proofs.lemmas.Result.{IfOk-weaker}
use Rattle.graph_files.specs.OutFiles.{group_number, group_name}
use Rattle.graph_files.proofs.Names.{group_number-padded}
use Rattle.data_check.proofs.files.group_name.Goals as goal

regroup : (a b c d e : List ℕ) → a ++ (b ++ (c ++ (d ++ e))) ≡ (((a ++ b) ++ c) ++ d) ++ e
regroup a b c d e = simp append_assoc

parts : (prefix node : List ℕ) (g : ℕ)
    → prefix ++ (node ++ (codes "_" ++ (padded_integral (format_spec 32 0 4 3 (2 ^ 64 - 1)) false [] (decimal g) ++ codes ".nc"))) ≡ group_name prefix node g
parts prefix node g =
    ap (λ digits. prefix ++ (node ++ (codes "_" ++ (digits ++ codes ".nc")))) (group_number-padded g)
    ∙ regroup prefix node (codes "_") (group_number g) (codes ".nc")

pub returns : goal.returns
returns c =
    let laid : c.laid_out.result ≡ format_spec 32 0 4 3 (2 ^ 64 - 1) = c.laid_out.ensures in
    let ok = (rw laid at c.format.ensures.ok) in
    IfOk-weaker c.format.result _ _ (λ s h. h ∙ parts c.args.prefix.now c.args.node.now c.args.group) ok
