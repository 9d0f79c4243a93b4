use Rattle.std.proofs.Common.{◌≡◌, Option, length, sym, subst, ◌∙◌, inl, inr, arith}
use Rattle.std.specs.Prelude.{All}
use Rattle.std.proofs.lemmas.Bool.{cases_lt}
use Rattle.std.proofs.lemmas.Result.{err_from_is_err_and}
use Rattle.edge_traits.specs.Files.{Files}
use Rattle.data_check.specs.ComparedFiles.{node_files, HasFailed, IsSame, IsFound, IsFirstUnread}
use Rattle.data_check.specs.declared.difference.Difference.{Difference}
use Rattle.data_check.proofs.Finds.{same-from_one, first-from_one, found-from_one, none-found}
use Rattle.data_check.proofs.Unread.{none-then, fault-then, unread-then}
use Rattle.data_check.proofs.compare.first_difference.Goals as goal

pub returns-then-is_some-clause-found : goal.returns-then-is_some-clause-found
returns-then-is_some-clause-found g c =
    let held : Option Files = g.L.Library.holds c.args.library.now in
    let F = node_files c.args.plan.now.graph c.args.stack.now c.args.prefix.now c.args.log.now.past in
    let v = c.loop-node.node in
    let found : IsFound held (F v) c.in_ok-found.found =
    subst (λ (told : Option Files). IsFound told (F v) c.in_ok-found.found) c.loop-node.invariant.same c.in_ok-found.ensures.found in
    found-from_one held F (length c.args.plan.now.graph.nodes) v c.in_ok-found.found (sym c.is_some.ensures ∙ c.if-is_some.true) c.loop-node.auto.node
    (omega (arith, c.loop-node-test.true, c.nodes-node-end.ensures)) c.loop-node.invariant.all found

pub loop-node-preserved : goal.loop-node-preserved
loop-node-preserved g c =
    let held : Option Files = g.L.Library.holds c.args.library.now in
    let F = node_files c.args.plan.now.graph c.args.stack.now c.args.prefix.now c.args.log.now.past in
    let v = c.loop-node.node in
    let found : IsFound held (F v) c.in_ok-found.found =
    subst (λ (told : Option Files). IsFound told (F v) c.in_ok-found.found) c.loop-node.invariant.same c.in_ok-found.ensures.found in
    let this = none-found held (F v) c.in_ok-found.found (sym c.is_some.ensures ∙ c.if-is_some.false) found in
    record {
      same = c.in_ok-found.ensures.files ∙ c.loop-node.invariant.same;
      none = c.in_ok-found.ensures.cause ∙ c.loop-node.invariant.none;
      at = none-then (g.L.Library.faults_at c.args.library.now) (g.L.Library.faults_at c.loop-node.library) (g.L.Library.faults_at c.difference_at.new.library)
          c.loop-node.invariant.at c.in_ok-found.ensures.unread;
      all = λ k low high. elim (cases_lt k v) [
        | inl below ↦ c.loop-node.invariant.all k low below
        | inr past ↦
            let here : v ≡ k = omega (arith, high, past) in
            subst (λ m. All (IsSame held) (F m)) here this
      ];
    }

pub returns-clause-found : goal.returns-clause-found
returns-clause-found g c =
    let held : Option Files = g.L.Library.holds c.args.library.now in
    let F = node_files c.args.plan.now.graph c.args.stack.now c.args.prefix.now c.args.log.now.past in
    same-from_one held F (length c.args.plan.now.graph.nodes)
    (λ k low high. c.loop-node.invariant.all k low (omega (arith, high, c.loop-node-test.false, c.nodes-node-end.ensures)))

pub returns-in_err-found-clause-unread : goal.returns-in_err-found-clause-unread
returns-in_err-found-clause-unread g c =
    let held : Option Files = g.L.Library.holds c.args.library.now in
    let F = node_files c.args.plan.now.graph c.args.stack.now c.args.prefix.now c.args.log.now.past in
    let v = c.loop-node.node in
    let before = g.L.Library.faults_at c.args.library.now in
    let middle = g.L.Library.faults_at c.loop-node.library in
    let now = g.L.Library.faults_at c.difference_at.new.library in
    let none = c.loop-node.invariant.at in
    let p = err_from_is_err_and c.from_residual.result c.from_residual.ensures.1 in
    rw (p.1, p.2) (fault-then before middle now none (Option Difference) (Option Difference) (IsFirstUnread (g.L.Library.holds c.loop-node.library) middle now (F v)) _ _
    (λ first. first-from_one held F (λ f. HasFailed before now f.name) (length c.args.plan.now.graph.nodes) v c.loop-node.auto.node
    (omega (arith, c.loop-node-test.true, c.nodes-node-end.ensures)) c.loop-node.invariant.all
    (unread-then before middle now none held (F v) (subst (λ (told : Option Files). IsFirstUnread told middle now (F v)) c.loop-node.invariant.same first)))
    c.in_err-found.ensures.unread)
