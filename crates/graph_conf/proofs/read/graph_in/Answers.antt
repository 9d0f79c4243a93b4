use Rattle.std.proofs.Common.{◌≡◌, List, ℕ, false, Some, inl, inr, cond, Err, ap, sym, ◌∙◌, subst}
use Rattle.std.specs.Str.{IsUtf8, is_utf8}
use Rattle.std.proofs.lemmas.Bool.{cases_Bool}
use Rattle.std.proofs.lemmas.Str.{IsUtf8-from_is_utf8, is_utf8-from_IsUtf8}
use Rattle.toml.specs.View.{table_view}
use Rattle.toml.specs.Parse.{parse_document}
use Rattle.graph_conf.specs.declared.fault.GraphFault.TheVariants.{Text}
use Rattle.graph_conf.specs.Answers.{Gives}
use Rattle.graph_conf.specs.Graphs.{graph_or_text, graph_of, graph_of_bytes}
use Rattle.graph_conf.proofs.read.graph_in.Goals as goal

not_utf8 : (bs : List ℕ) → ¬ IsUtf8 bs → is_utf8 bs ≡ false
not_utf8 bs other =
    elim (cases_Bool (is_utf8 bs)) [
      | inl valid ↦ absurd (other (IsUtf8-from_is_utf8 bs valid))
      | inr invalid ↦ invalid
    ]

pub returns-in_default-clause-exact : goal.returns-in_default-clause-exact
returns-in_default-clause-exact c =
    let bytes = c.args.bytes.now in
    ap (λ b. cond b (graph_or_text (parse_document bytes)) (Err Text)) (not_utf8 bytes c.in_default.ensures.cases.0)

pub returns-in-Ok-table_from_str-clause-exact : goal.returns-in-Ok-table_from_str-clause-exact
returns-in-Ok-table_from_str-clause-exact c =
    let bytes = c.args.bytes.now in
    let (same, utf8) = c.in-Ok.ensures.cases in
    let parsed : parse_document bytes ≡ Some (table_view c.in-Ok-table_from_str.table) = sym (ap parse_document same) ∙ c.in-Ok-table_from_str.ensures.ok in
    let whole : graph_of_bytes bytes ≡ graph_of (table_view c.in-Ok-table_from_str.table) =
    ap (λ b. cond b (graph_or_text (parse_document bytes)) (Err Text)) (is_utf8-from_IsUtf8 bytes utf8) ∙ ap graph_or_text parsed in
    subst (λ r. Gives (λ x. x) c.graph_of.result r) (sym whole) c.graph_of.ensures.gives
