use Rattle.std.proofs.Common.{◌≡◌, ap, sym, subst, ◌∙◌, inl, List}
use Rattle.std.proofs.lemmas.Result.{on_err_weaker, on_ok_weaker}
use Rattle.nd_base.specs.declared.graph.Kind.{Kind}
use Rattle.nd_base.specs.declared.graph.Kind.TheVariants.{Stats}
use Rattle.nd_base.specs.declared.graph.StatsRule.{StatsRule}
use Rattle.nd_base.specs.declared.graph.NodeRule.{NodeRule}
use Rattle.nd_base.specs.declared.measure.Measure.{Measure}
use Rattle.std.proofs.Common.{ℕ}
use Rattle.graph_files.specs.BegunFiles.{AreBegun, Unended}
use Rattle.graph_files.specs.OutFiles.{OutFile, with_files}
use Rattle.replay_top.specs.MeasuredFiles.{kind_rows_file, measured_rows}
use Rattle.replay_top.proofs.run_rows.save_node_rows.Goals as goal

rows-are : (prefix name : List ℕ) (n : NodeRule) (r : StatsRule) (ms : List Measure) → name ≡ n.name → n.kind ≡ Stats r
    → kind_rows_file prefix name (Stats r) ms ≡ measured_rows prefix n ms
rows-are prefix name n r ms same kind =
    ap (λ m. kind_rows_file prefix m (Stats r) ms) same ∙ ap (λ (k : Kind). kind_rows_file prefix n.name k ms) (sym kind)

pub returns-in-Stats-clause-ok : goal.returns-in-Stats-clause-ok
returns-in-Stats-clause-ok g c =
    let held = g.K.Shelf.held c.args.shelf.now in
    let same = rows-are c.args.prefix.now c.text.result.now c.args.rule.now c.in-Stats.field-0 c.args.measures.now c.text.ensures c.in-Stats.is in
    on_ok_weaker c.save_stats_rows.result (λ h. h ∙ ap (with_files held) same) c.save_stats_rows.ensures.ok

pub returns-in-Stats-clause-err : goal.returns-in-Stats-clause-err
returns-in-Stats-clause-err g c =
    let held = g.K.Shelf.held c.args.shelf.now in
    let same = rows-are c.args.prefix.now c.text.result.now c.args.rule.now c.in-Stats.field-0 c.args.measures.now c.text.ensures c.in-Stats.is in
    on_err_weaker c.save_stats_rows.result
    (λ h. subst (λ (fs : List OutFile). AreBegun held fs (g.K.Shelf.held c.save_stats_rows.new.shelf)) same (inl (Unended h))) c.save_stats_rows.ensures.err
