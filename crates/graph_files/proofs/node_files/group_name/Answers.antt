use Rattle.std.proofs.Common.{◌≡◌, ℕ, ◌-◌, ◌^◌, List, [], ◌++◌, false, ap, sym, ◌∙◌, append_assoc}
use Rattle.std.specs.Prelude.{codes}
use Rattle.std.specs.Fmt.{decimal, format_spec, padded_integral}
use Rattle.std.proofs.lemmas.Result.{IfOk-weaker}
use Rattle.graph_files.specs.OutFiles.{group_number}
use Rattle.graph_files.proofs.Names.{group_number-padded}
use Rattle.graph_files.proofs.node_files.group_name.Goals as goal

parts : (stem : List ℕ) (g : ℕ)
    → stem ++ (padded_integral (format_spec 32 0 4 3 (2 ^ 64 - 1)) false [] (decimal g) ++ codes ".nc") ≡ stem ++ group_number g ++ codes ".nc"
parts stem g = ap (λ digits. stem ++ (digits ++ codes ".nc")) (group_number-padded g) ∙ sym (append_assoc stem (group_number g) (codes ".nc"))

pub returns : goal.returns
returns c =
    let laid : c.laid_out.result ≡ format_spec 32 0 4 3 (2 ^ 64 - 1) = c.laid_out.ensures in
    let ok = (rw laid at c.format.ensures.ok) in
    IfOk-weaker c.format.result _ _ (λ s h. h ∙ parts c.args.stem.now c.args.group) ok
