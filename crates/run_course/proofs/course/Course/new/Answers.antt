use Rattle.std.proofs.Common.{◌≡◌, ◌∙◌, ◌+◌, ◌*◌, ℤ, [], List, length, replicate, refl, sym, ap}
use Rattle.board_rules.specs.RunMeasures.{run_setting, run_measure}
use Rattle.flow_journal.specs.LengthLaws.{most_entries}
use Rattle.pool_ledger.specs.Ledger.{empty_ledger}
use Rattle.course_parts.specs.declared.rules.NodeRules.{NodeRules}
use Rattle.course_parts.specs.Facts.{facts_of}
use Rattle.course_parts.specs.RunRules.{AreRules}
use Rattle.run_course.proofs.Finding.{course-as}
use Rattle.run_course.proofs.Starting.{course-none, empty_log}
use Rattle.run_course.proofs.course.Course.new.Goals as goal

pub invariant_of-result : goal.invariant_of-result
invariant_of-result g c =
    let m = run_measure g.F.Of.Run.graph g.F.Of.Run.stack in
    let s = run_setting g.F.Of.Run.graph g.F.Of.Run.stack in
    let ru = c.in_ok-rules.rules in
    let ruled : AreRules ru s = c.in_ok-rules.ensures in
    let last = c.last_role-last.result in
    let blocks : c.in_ok-blocks.blocks.items ≡ replicate ((length ru.nodes + 1) * length ru.ids) 0 =
    c.in_ok-blocks.ensures
    ∙ (ap (λ (ns : List NodeRules). replicate ((length ns + 1) * length c.as_slice-2.result.now) 0) c.as_slice.ensures
    ∙ ap (λ (ids : List ℤ). replicate ((length ru.nodes + 1) * length ids) 0) c.as_slice-2.ensures) in
    course-as m s (record {
      log = empty_log (most_entries s) last;
      rules = ru;
      nodes = c.in_ok-nodes.nodes.items;
      roles = c.in_ok-roles.roles.items;
      pool = empty_ledger ru.limit 0;
      blocks = c.in_ok-blocks.blocks.items;
      facts = facts_of [];
      transit = [];
      room = 4097;
    })
    _ _ _ _ _ _ _ _ (sym (c.in_ok-log.ensures ∙ ap (λ n. empty_log n last) (c.most_entries.ensures s ruled))) refl refl (sym c.in_ok-pool.ensures) refl
    (sym c.none.ensures) (sym c.in_ok-transit.ensures.items) (sym c.in_ok-transit.ensures.exact)
    (course-none m s ru c.in_ok-nodes.nodes.items c.in_ok-roles.roles.items c.in_ok-blocks.blocks.items last ruled c.in_ok-nodes.ensures
    c.last_role-last.ensures c.in_ok-roles.ensures blocks)
