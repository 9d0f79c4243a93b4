use Rattle.std.proofs.Common.{refl, Some, false}
use Rattle.flow_roles.proofs.Results.{result-stats, result-circular, result-file, result-scatter, rule-of, node-has-rule, blank-there, passed-on}
use Rattle.flow_roles.proofs.job.result_of.Goals as goal

pub unreachable-requires : goal.unreachable-requires
unreachable-requires g c =
    node-has-rule g.R.Run.graph g.R.Run.stack c.args.plan.now c.as_slice.result.now c.args.node c.requires.plan c.as_slice.ensures
    c.requires.node c.in_default.ensures

pub region_on-made-requires-clause-rule : goal.region_on-made-requires-clause-rule
region_on-made-requires-clause-rule g c =
    rule-of g.R.Run.graph g.R.Run.stack c.args.plan.now c.as_slice.result.now c.args.node
    (Some c.in-Some.rule.now) c.requires.plan c.as_slice.ensures c.in-Some.ensures

pub measured-requires-clause-rule : goal.measured-requires-clause-rule
measured-requires-clause-rule g c =
    rule-of g.R.Run.graph g.R.Run.stack c.args.plan.now c.as_slice.result.now c.args.node
    (Some c.in-Some.rule.now) c.requires.plan c.as_slice.ensures c.in-Some.ensures

pub fires_at-fired-requires-clause-rule : goal.fires_at-fired-requires-clause-rule
fires_at-fired-requires-clause-rule g c =
    rule-of g.R.Run.graph g.R.Run.stack c.args.plan.now c.as_slice.result.now c.args.node
    (Some c.in-Some.rule.now) c.requires.plan c.as_slice.ensures c.in-Some.ensures

pub unreachable-requires-in_default-blank : goal.unreachable-requires-in_default-blank
unreachable-requires-in_default-blank g c =
    let rule_ =
    rule-of g.R.Run.graph g.R.Run.stack c.args.plan.now c.as_slice.result.now c.args.node
    (Some c.in-Some.rule.now) c.requires.plan c.as_slice.ensures c.in-Some.ensures in
    blank-there g.R.Run.graph g.R.Run.stack c.args.node c.in-Some.rule.now c.args.input c.in-Roi.roi c.args.blank rule_ c.in-Roi.is
    c.requires.fits c.in_default-blank.is

pub returns-in-Ok-clause-done : goal.returns-in-Ok-clause-done
returns-in-Ok-clause-done g c =
    let rule_ =
    rule-of g.R.Run.graph g.R.Run.stack c.args.plan.now c.as_slice.result.now c.args.node
    (Some c.in-Some.rule.now) c.requires.plan c.as_slice.ensures c.in-Some.ensures in
    record {
      node = refl;
      given = refl;
      result =
          result-stats g.R.Run.graph g.R.Run.stack c.args.node c.in-Some.rule.now c.args.input rule_ c.in-Stats.stats
          c.in-Ok.numbers c.in-Stats.is c.in-Ok.ensures;
      whole = tt;
    }

pub returns-in-Circular-clause-done : goal.returns-in-Circular-clause-done
returns-in-Circular-clause-done g c =
    let rule_ =
    rule-of g.R.Run.graph g.R.Run.stack c.args.plan.now c.as_slice.result.now c.args.node
    (Some c.in-Some.rule.now) c.requires.plan c.as_slice.ensures c.in-Some.ensures in
    passed-on g.R.Run.graph g.R.Run.stack c.args.node c.args.input c.args.blank c.fires_at-fired.result c.passed_on.result c.passed_on.ensures
    (result-circular g.R.Run.graph g.R.Run.stack c.args.node c.in-Some.rule.now c.args.input rule_ c.in-Circular.circular c.fires_at-fired.result
    c.in-Circular.is c.fires_at-fired.ensures)

pub returns-in-File-clause-done : goal.returns-in-File-clause-done
returns-in-File-clause-done g c =
    let rule_ =
    rule-of g.R.Run.graph g.R.Run.stack c.args.plan.now c.as_slice.result.now c.args.node
    (Some c.in-Some.rule.now) c.requires.plan c.as_slice.ensures c.in-Some.ensures in
    passed-on g.R.Run.graph g.R.Run.stack c.args.node c.args.input c.args.blank false c.passed_on-in-File.result c.passed_on-in-File.ensures
    (result-file g.R.Run.graph g.R.Run.stack c.args.node c.in-Some.rule.now c.args.input rule_ c.in-File.field-0 c.in-File.is)

pub returns-in-Scatter-clause-done : goal.returns-in-Scatter-clause-done
returns-in-Scatter-clause-done g c =
    let rule_ =
    rule-of g.R.Run.graph g.R.Run.stack c.args.plan.now c.as_slice.result.now c.args.node
    (Some c.in-Some.rule.now) c.requires.plan c.as_slice.ensures c.in-Some.ensures in
    passed-on g.R.Run.graph g.R.Run.stack c.args.node c.args.input c.args.blank false c.passed_on-in-Scatter.result c.passed_on-in-Scatter.ensures
    (result-scatter g.R.Run.graph g.R.Run.stack c.args.node c.in-Some.rule.now c.args.input rule_ c.in-Scatter.is)
