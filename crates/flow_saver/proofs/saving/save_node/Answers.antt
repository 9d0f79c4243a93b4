use Rattle.std.proofs.Common.{◌≡◌, refl, ◌∙◌}
use Rattle.std.proofs.lemmas.List.Elements.{All-nil}
use Rattle.board_rules.specs.RunMeasures.{run_setting}
use Rattle.flow_saver.specs.Turns.{AreAt}
use Rattle.flow_saver.proofs.RestLoops.{step-first, step-then}
use Rattle.flow_saver.proofs.Turning.{gone-still, gone-at}
use Rattle.flow_saver.proofs.saving.save_node.Goals as goal

pub loop-init : goal.loop-init
loop-init g c =
    record {
      ours = c.requires.ours;
      saving = λ start st. st;
      count = refl;
      cause = step-first c.args.fault.now (g.K.Shelf.faults c.args.shelf.now) (g.K.Shelf.held c.args.shelf.now);
      goes = λ start st x at. gone-still (run_setting g.R.Run.graph g.R.Run.stack) (AreAt x.node) (g.D.Desk.knows c.args.pass.now)
          (All-nil (λ w. w ≡ x.node));
    }

pub loop-preserved : goal.loop-preserved
loop-preserved g c =
    let s = run_setting g.R.Run.graph g.R.Run.stack in
    let inv = c.loop.invariant in
    record {
      ours = c.save_one.ensures.ours;
      saving = λ start st. c.in-Wrote.ensures.leaves start (inv.saving start st);
      count = c.save_one.ensures.count ∙ inv.count;
      cause =
          step-then c.args.fault.now c.loop.fault c.save_one.new.fault (g.K.Shelf.faults c.args.shelf.now) (g.K.Shelf.faults c.loop.shelf)
          (g.K.Shelf.faults c.save_one.new.shelf) (g.K.Shelf.held c.args.shelf.now) (g.K.Shelf.held c.loop.shelf)
          (g.K.Shelf.held c.save_one.new.shelf) inv.cause c.save_one.ensures.cause;
      goes = λ start st x at. gone-at s x.node _ _ _ (inv.goes start st x at) (c.save_one.ensures.goes start (inv.saving start st) x at);
    }

pub returns-in-Nothing-clause-goes : goal.returns-in-Nothing-clause-goes
returns-in-Nothing-clause-goes g c =
    let s = run_setting g.R.Run.graph g.R.Run.stack in
    let inv = c.loop.invariant in
    λ start st x at. gone-at s x.node _ _ _ (inv.goes start st x at) (c.save_one.ensures.goes start (inv.saving start st) x at)

pub returns-in-Wants-clause-goes : goal.returns-in-Wants-clause-goes
returns-in-Wants-clause-goes g c =
    let s = run_setting g.R.Run.graph g.R.Run.stack in
    let inv = c.loop.invariant in
    λ start st x at. gone-at s x.node _ _ _ (inv.goes start st x at) (c.save_one.ensures.goes start (inv.saving start st) x at)
