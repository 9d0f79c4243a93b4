use Rattle.std.proofs.Common.{◌+◌, ◌<◌, ◌≤◌, length, refl, ◌∙◌, arith}
use Rattle.std.proofs.lemmas.List.Elements.{All-nil}
use Rattle.board_rules.specs.RunMeasures.{run_setting}
use Rattle.graph_files.specs.OpenFiles.{file_nodes}
use Rattle.flow_saver.specs.Turns.{Falls, FallBefore}
use Rattle.flow_saver.proofs.RestLoops.{step-first, step-then}
use Rattle.flow_saver.proofs.Turning.{gone-still, gone-as, turn-on}
use Rattle.flow_saver.proofs.saving.save_turn.Goals as goal
use Rattle.flow_saver.proofs.saving.save_turn.Goals.{in-Nothing, in-Wrote}

pub loop-at-init : goal.loop-at-init
loop-at-init g c =
    record {
      ours = c.requires.ours;
      saving = λ start st. st;
      count = refl;
      cause = step-first c.args.fault.now (g.K.Shelf.faults c.args.shelf.now) (g.K.Shelf.held c.args.shelf.now);
      goes = λ start st. gone-still (run_setting g.R.Run.graph g.R.Run.stack) (FallBefore (file_nodes g.R.Run.graph g.R.Run.stack start.prefix) 0)
          (g.D.Desk.knows c.args.pass.now) (tt, λ j x above here. All-nil (λ w. w ≤ x.node));
    }

pub loop-at-preserved : goal.loop-at-preserved
loop-at-preserved g c =
    let gr = g.R.Run.graph in
    let stack = g.R.Run.stack in
    let s = run_setting gr stack in
    let inv = c.loop-at.invariant in
    let within : c.loop-at.at < length c.loop-at.files = omega (arith, inv.count) in
    record {
      ours = c.save_node.ensures.ours;
      saving = λ start st. elim c.match-save_node.branch [
        | in-Nothing w ↦ w.in-Nothing.ensures.leaves start (inv.saving start st)
        | in-Wrote w ↦ w.in-Wrote.ensures.leaves start (inv.saving start st)
      ];
      count = c.save_node.ensures.count ∙ inv.count;
      cause =
          step-then c.args.fault.now c.loop-at.fault c.save_node.new.fault (g.K.Shelf.faults c.args.shelf.now) (g.K.Shelf.faults c.loop-at.shelf)
          (g.K.Shelf.faults c.save_node.new.shelf) (g.K.Shelf.held c.args.shelf.now) (g.K.Shelf.held c.loop-at.shelf)
          (g.K.Shelf.held c.save_node.new.shelf) inv.cause c.save_node.ensures.cause;
      goes = λ start st. turn-on gr stack start.prefix c.loop-at.files (inv.saving start st).nodes s c.loop-at.at (g.D.Desk.knows c.args.pass.now)
          (g.D.Desk.knows c.loop-at.pass) (g.D.Desk.knows c.save_node.new.pass) within (inv.goes start st)
          (c.save_node.ensures.goes start (inv.saving start st));
    }

pub returns-in-Wants-clause-goes : goal.returns-in-Wants-clause-goes
returns-in-Wants-clause-goes g c =
    let gr = g.R.Run.graph in
    let stack = g.R.Run.stack in
    let s = run_setting gr stack in
    let inv = c.loop-at.invariant in
    let within : c.loop-at.at < length c.loop-at.files = omega (arith, inv.count) in
    λ start st. gone-as s (FallBefore (file_nodes gr stack start.prefix) (c.loop-at.at + 1)) Falls _ _ (λ vs f. f.0)
    (turn-on gr stack start.prefix c.loop-at.files (inv.saving start st).nodes s c.loop-at.at (g.D.Desk.knows c.args.pass.now)
    (g.D.Desk.knows c.loop-at.pass) (g.D.Desk.knows c.save_node.new.pass) within (inv.goes start st)
    (c.save_node.ensures.goes start (inv.saving start st)))

pub returns-then-any-clause-goes : goal.returns-then-any-clause-goes
returns-then-any-clause-goes g c =
    let gr = g.R.Run.graph in
    let stack = g.R.Run.stack in
    let s = run_setting gr stack in
    λ start st. gone-as s (FallBefore (file_nodes gr stack start.prefix) c.loop-at.at) Falls _ _ (λ vs f. f.0) (c.loop-at.invariant.goes start st)

pub returns-else-any-clause-goes : goal.returns-else-any-clause-goes
returns-else-any-clause-goes g c =
    let gr = g.R.Run.graph in
    let stack = g.R.Run.stack in
    let s = run_setting gr stack in
    λ start st. gone-as s (FallBefore (file_nodes gr stack start.prefix) c.loop-at.at) Falls _ _ (λ vs f. f.0) (c.loop-at.invariant.goes start st)
