use Rattle.std.proofs.Common.{◌≡◌, ◌<◌, [], ℕ, refl, sym, ap, subst, ◌∙◌}
use Rattle.flow_journal.specs.Unsaved.{unsaved}
use Rattle.board_rules.specs.States.{BoardState, past}
use Rattle.board_rules.specs.RunMeasures.{run_setting}
use Rattle.flow_drain.specs.Drains.{IsDrained}
use Rattle.flow_drain.proofs.Rounds.{more-entries}
use Rattle.graph_files.specs.NodeFiles.{NodeFile}
use Rattle.flow_saver.proofs.KeptNames.{saving-kept, unsaved-kept}
use Rattle.flow_saver.proofs.Resting.{rest-none, rest-on}
use Rattle.flow_saver.proofs.RestLoops.{same-files, same-count, step-first, step-then}
use Rattle.flow_saver.proofs.SaveOne.{item}
use Rattle.flow_saver.proofs.remaining.save_all.Goals as goal

pub pieces-init : goal.pieces-init
pieces-init g c =
    let s = run_setting g.R.Run.graph g.R.Run.stack in
    let b = g.B.BoardCalls.shown c.args.board.now in
    let h = c.requires.saving in
    record {
      saving = λ prefix before st. st;
      drained = c.requires.drained;
      others = λ x at w ne. refl;
      moves = rest-none s b b refl;
      legal = h.1.1.legal;
      nodes = refl;
      cause = step-first c.args.fault.now (g.K.Shelf.faults c.args.shelf.now) (g.K.Shelf.held c.args.shelf.now);
    }

pub save_next-requires-clause-at : goal.save_next-requires-clause-at
save_next-requires-clause-at g c =
    let gr = g.R.Run.graph in
    let stack = g.R.Run.stack in
    let s = run_setting gr stack in
    let xs = c.args.files.now in
    let b = g.B.BoardCalls.shown c.args.board.now in
    let inv = c.pieces.invariant in
    let here = g.B.BoardCalls.shown c.pieces.board in
    subst (λ (n : ℕ). c.args.at < n) (sym (same-count xs c.pieces.files inv.nodes)) c.requires.at

pub save_next-requires-clause-saving : goal.save_next-requires-clause-saving
save_next-requires-clause-saving g c =
    let gr = g.R.Run.graph in
    let stack = g.R.Run.stack in
    let s = run_setting gr stack in
    let xs = c.args.files.now in
    let b = g.B.BoardCalls.shown c.args.board.now in
    let inv = c.pieces.invariant in
    let here = g.B.BoardCalls.shown c.pieces.board in
    let h = c.requires.saving in
    (h.0, (h.1.0, inv.saving h.0 h.1.0 h.1.1))

pub returns-in-Nothing-clause-saving : goal.returns-in-Nothing-clause-saving
returns-in-Nothing-clause-saving g c =
    let gr = g.R.Run.graph in
    let stack = g.R.Run.stack in
    let s = run_setting gr stack in
    let xs = c.args.files.now in
    let b = g.B.BoardCalls.shown c.args.board.now in
    let inv = c.pieces.invariant in
    let here = g.B.BoardCalls.shown c.pieces.board in
    λ prefix before st. c.in-Nothing.ensures.leaves prefix before (inv.saving prefix before st)

pub returns-in-Nothing-clause-drained : goal.returns-in-Nothing-clause-drained
returns-in-Nothing-clause-drained g c =
    let gr = g.R.Run.graph in
    let stack = g.R.Run.stack in
    let s = run_setting gr stack in
    let xs = c.args.files.now in
    let b = g.B.BoardCalls.shown c.args.board.now in
    let inv = c.pieces.invariant in
    let here = g.B.BoardCalls.shown c.pieces.board in
    let new = g.B.BoardCalls.shown c.save_next.new.board in
    let i = item xs c.args.at c.requires.at in
    let f = same-files xs c.pieces.files c.args.at i.0 inv.nodes i.1 in
    subst (λ (x : BoardState). IsDrained s (past x)) (sym (c.in-Nothing.ensures.rests f.0 f.1).0) inv.drained

pub returns-in-Nothing-clause-empty : goal.returns-in-Nothing-clause-empty
returns-in-Nothing-clause-empty g c =
    let gr = g.R.Run.graph in
    let stack = g.R.Run.stack in
    let s = run_setting gr stack in
    let xs = c.args.files.now in
    let b = g.B.BoardCalls.shown c.args.board.now in
    let inv = c.pieces.invariant in
    let here = g.B.BoardCalls.shown c.pieces.board in
    let new = g.B.BoardCalls.shown c.save_next.new.board in
    λ x at.
    let f = same-files xs c.pieces.files c.args.at x inv.nodes at in
    subst (λ (v : ℕ). unsaved s v (past new) ≡ []) (ap (λ (z : NodeFile). z.node) f.2) (c.in-Nothing.ensures.rests f.0 f.1).1

pub returns-in-Nothing-clause-others : goal.returns-in-Nothing-clause-others
returns-in-Nothing-clause-others g c =
    let gr = g.R.Run.graph in
    let stack = g.R.Run.stack in
    let s = run_setting gr stack in
    let xs = c.args.files.now in
    let b = g.B.BoardCalls.shown c.args.board.now in
    let inv = c.pieces.invariant in
    let here = g.B.BoardCalls.shown c.pieces.board in
    let new = g.B.BoardCalls.shown c.save_next.new.board in
    λ x at w ne.
    let f = same-files xs c.pieces.files c.args.at x inv.nodes at in
    ap (λ (y : BoardState). unsaved s w (past y)) (c.in-Nothing.ensures.rests f.0 f.1).0 ∙ inv.others x at w ne

pub returns-in-Nothing-clause-moves : goal.returns-in-Nothing-clause-moves
returns-in-Nothing-clause-moves g c =
    let gr = g.R.Run.graph in
    let stack = g.R.Run.stack in
    let s = run_setting gr stack in
    let xs = c.args.files.now in
    let b = g.B.BoardCalls.shown c.args.board.now in
    let inv = c.pieces.invariant in
    let here = g.B.BoardCalls.shown c.pieces.board in
    let new = g.B.BoardCalls.shown c.save_next.new.board in
    rest-on s b here new inv.moves c.in-Nothing.ensures.moves

pub returns-in-Nothing-clause-nodes : goal.returns-in-Nothing-clause-nodes
returns-in-Nothing-clause-nodes g c =
    let gr = g.R.Run.graph in
    let stack = g.R.Run.stack in
    let s = run_setting gr stack in
    let xs = c.args.files.now in
    let b = g.B.BoardCalls.shown c.args.board.now in
    let inv = c.pieces.invariant in
    let here = g.B.BoardCalls.shown c.pieces.board in
    c.in-Nothing.ensures.nodes ∙ inv.nodes

pub returns-in-Nothing-clause-cause : goal.returns-in-Nothing-clause-cause
returns-in-Nothing-clause-cause g c =
    let gr = g.R.Run.graph in
    let stack = g.R.Run.stack in
    let s = run_setting gr stack in
    let xs = c.args.files.now in
    let b = g.B.BoardCalls.shown c.args.board.now in
    let inv = c.pieces.invariant in
    let here = g.B.BoardCalls.shown c.pieces.board in
    step-then c.args.fault.now c.pieces.fault c.save_next.new.fault (g.K.Shelf.faults c.args.shelf.now) (g.K.Shelf.faults c.pieces.shelf)
    (g.K.Shelf.faults c.save_next.new.shelf) (g.K.Shelf.held c.args.shelf.now) (g.K.Shelf.held c.pieces.shelf)
    (g.K.Shelf.held c.save_next.new.shelf) inv.cause c.in-Nothing.ensures.cause

pub pieces-smaller : goal.pieces-smaller
pieces-smaller g c =
    let gr = g.R.Run.graph in
    let stack = g.R.Run.stack in
    let s = run_setting gr stack in
    let xs = c.args.files.now in
    let b = g.B.BoardCalls.shown c.args.board.now in
    let inv = c.pieces.invariant in
    let here = g.B.BoardCalls.shown c.pieces.board in
    let new = g.B.BoardCalls.shown c.save_next.new.board in
    let i = item xs c.args.at c.requires.at in
    let f = same-files xs c.pieces.files c.args.at i.0 inv.nodes i.1 in
    more-entries s here new c.in-Wrote.ensures.legal (c.in-Wrote.ensures.rests f.0 f.1).1

pub pieces-preserved : goal.pieces-preserved
pieces-preserved g c =
    let gr = g.R.Run.graph in
    let stack = g.R.Run.stack in
    let s = run_setting gr stack in
    let xs = c.args.files.now in
    let b = g.B.BoardCalls.shown c.args.board.now in
    let inv = c.pieces.invariant in
    let here = g.B.BoardCalls.shown c.pieces.board in
    let new = g.B.BoardCalls.shown c.save_next.new.board in
    let i = item xs c.args.at c.requires.at in
    let f = same-files xs c.pieces.files c.args.at i.0 inv.nodes i.1 in
    let rests = c.in-Wrote.ensures.rests f.0 f.1 in
    record {
      saving = λ prefix before st. c.in-Wrote.ensures.leaves prefix before (inv.saving prefix before st);
      drained = rests.0;
      others = λ x at w ne.
          let k = same-files xs c.pieces.files c.args.at x inv.nodes at in
          (c.in-Wrote.ensures.rests k.0 k.1).2 w (λ e. ne (e ∙ ap (λ (z : NodeFile). z.node) k.2)) ∙ inv.others x at w ne;
      moves = rest-on s b here new inv.moves c.in-Wrote.ensures.moves;
      legal = c.in-Wrote.ensures.legal;
      nodes = c.in-Wrote.ensures.nodes ∙ inv.nodes;
      cause =
          step-then c.args.fault.now c.pieces.fault c.save_next.new.fault (g.K.Shelf.faults c.args.shelf.now) (g.K.Shelf.faults c.pieces.shelf)
          (g.K.Shelf.faults c.save_next.new.shelf) (g.K.Shelf.held c.args.shelf.now) (g.K.Shelf.held c.pieces.shelf)
          (g.K.Shelf.held c.save_next.new.shelf) inv.cause c.in-Wrote.ensures.cause;
    }

pub returns-in-Wants-clause-moves : goal.returns-in-Wants-clause-moves
returns-in-Wants-clause-moves g c =
    let gr = g.R.Run.graph in
    let stack = g.R.Run.stack in
    let s = run_setting gr stack in
    let xs = c.args.files.now in
    let b = g.B.BoardCalls.shown c.args.board.now in
    let inv = c.pieces.invariant in
    let here = g.B.BoardCalls.shown c.pieces.board in
    let new = g.B.BoardCalls.shown c.save_next.new.board in
    rest-on s b here new inv.moves c.in-Wants.ensures.moves

pub returns-in-Wants-clause-nodes : goal.returns-in-Wants-clause-nodes
returns-in-Wants-clause-nodes g c =
    let gr = g.R.Run.graph in
    let stack = g.R.Run.stack in
    let s = run_setting gr stack in
    let xs = c.args.files.now in
    let b = g.B.BoardCalls.shown c.args.board.now in
    let inv = c.pieces.invariant in
    let here = g.B.BoardCalls.shown c.pieces.board in
    c.in-Wants.ensures.nodes ∙ inv.nodes

pub returns-in-Wants-clause-cause : goal.returns-in-Wants-clause-cause
returns-in-Wants-clause-cause g c =
    let gr = g.R.Run.graph in
    let stack = g.R.Run.stack in
    let s = run_setting gr stack in
    let xs = c.args.files.now in
    let b = g.B.BoardCalls.shown c.args.board.now in
    let inv = c.pieces.invariant in
    let here = g.B.BoardCalls.shown c.pieces.board in
    step-then c.args.fault.now c.pieces.fault c.save_next.new.fault (g.K.Shelf.faults c.args.shelf.now) (g.K.Shelf.faults c.pieces.shelf)
    (g.K.Shelf.faults c.save_next.new.shelf) (g.K.Shelf.held c.args.shelf.now) (g.K.Shelf.held c.pieces.shelf)
    (g.K.Shelf.held c.save_next.new.shelf) inv.cause c.in-Wants.ensures.cause

pub returns-in-Nothing-clause-elsewhere : goal.returns-in-Nothing-clause-elsewhere
returns-in-Nothing-clause-elsewhere g c =
    λ prefix before st. saving-kept g.R.Run.graph g.R.Run.stack c.requires.graph prefix before _ _ _ _
    (c.in-Nothing.ensures.leaves prefix before (c.pieces.invariant.saving prefix before st))

pub returns-in-Wants-clause-elsewhere : goal.returns-in-Wants-clause-elsewhere
returns-in-Wants-clause-elsewhere g c =
    λ prefix before st. unsaved-kept g.R.Run.graph g.R.Run.stack c.requires.graph prefix before _ _ _ _ _
    (c.in-Wants.ensures.leaves prefix before (c.pieces.invariant.saving prefix before st))
