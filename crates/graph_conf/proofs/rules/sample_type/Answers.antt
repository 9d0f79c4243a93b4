use Rattle.std.proofs.Common.{ap, sym, ◌∙◌, codes}
use Rattle.graph_conf.specs.Answers.{◌>>=◌}
use Rattle.graph_conf.specs.Keys.{formed, meaning_in}
use Rattle.graph_conf.specs.Nodes.{sample_types}
use Rattle.graph_conf.proofs.rules.sample_type.Goals as goal

pub returns-in-Some : goal.returns-in-Some
returns-in-Some c =
    ap (λ r. r >>= λ word. formed (codes "type") (meaning_in sample_types word)) c.in_ok-text_in.ensures
    ∙ ap (formed (codes "type")) (sym c.sample_type_named.ensures ∙ c.in-Some.is)
