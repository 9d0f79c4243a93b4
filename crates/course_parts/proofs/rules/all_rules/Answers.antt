use Rattle.std.proofs.Common.{ap, arith, length}
use Rattle.std.proofs.lemmas.List.{length-map}
use Rattle.flow_journal.specs.RunSetting.{node_of, setting_of}
use Rattle.course_parts.proofs.RulesOf.{rules-none, rules-more}
use Rattle.course_parts.proofs.rules.all_rules.Goals as goal

pub loop-place-init : goal.loop-place-init
loop-place-init c = λ arrays. rules-none (setting_of c.args.plan.now.graph c.args.plan.now.makers arrays) c.new-rules.result.items c.new-rules.ensures.items

pub loop-place-preserved : goal.loop-place-preserved
loop-place-preserved c =
    λ arrays.
    let n = c.in_ok-node_rules.field-0 in
    rules-more (setting_of c.args.plan.now.graph c.args.plan.now.makers arrays) c.loop-place.place c.loop-place.rules.items c.push.new.self.items n
    (c.loop-place.invariant arrays) c.in_ok-push.ensures.items (c.in_ok-node_rules.ensures arrays)

pub returns : goal.returns
returns c =
    λ arrays.
    let p = c.args.plan.now in
    let upto = c.loop-place.invariant arrays in
    record {
      all = omega (arith, upto.all, c.loop-place-test.false, c.loop-place.auto.place-end, ap length c.as_slice.ensures, length-map p.graph.nodes node_of);
      each = upto.each;
    }
