use Rattle.std.proofs.Common.{◌≡◌, ◌≢◌, ◌<◌, [], ℕ, length, inl, inr, refl, sym, ap, subst, ◌∙◌, arith}
use Rattle.std.proofs.lemmas.Bool.{cases_lt}
use Rattle.std.proofs.lemmas.Option.{slice_get_within, same_Some}
use Rattle.std.specs.Prelude.{slice_get}
use Rattle.flow_journal.specs.Unsaved.{unsaved}
use Rattle.board_rules.specs.States.{past}
use Rattle.board_rules.specs.RunMeasures.{run_setting}
use Rattle.graph_files.specs.NodeFiles.{NodeFile}
use Rattle.flow_saver.proofs.KeptNames.{saving-kept}
use Rattle.flow_saver.proofs.Resting.{rest-none, rest-on}
use Rattle.flow_saver.proofs.RestLoops.{same-files, same-count, step-first, step-then, nodes-differ, rest-finished}
use Rattle.flow_saver.proofs.SaveOne.{item}
use Rattle.flow_saver.proofs.remaining.save_rest.Goals as goal

pub loop-at-init : goal.loop-at-init
loop-at-init g c =
    let s = run_setting g.R.Run.graph g.R.Run.stack in
    let b = g.B.BoardCalls.shown c.args.board.now in
    let h = c.requires.saving in
    record {
      saving = λ prefix before st. st;
      drained = c.requires.drained;
      empty = λ k x low at. absurd (omega (arith, low));
      moves = rest-none s b b refl;
      legal = h.1.1.legal;
      nodes = refl;
      cause = step-first c.args.fault.now (g.K.Shelf.faults c.args.shelf.now) (g.K.Shelf.held c.args.shelf.now);
    }

pub save_all-requires-clause-at : goal.save_all-requires-clause-at
save_all-requires-clause-at g c =
    let gr = g.R.Run.graph in
    let stack = g.R.Run.stack in
    let s = run_setting gr stack in
    let xs = c.args.files.now in
    let b = g.B.BoardCalls.shown c.args.board.now in
    let inv = c.loop-at.invariant in
    let here = g.B.BoardCalls.shown c.loop-at.board in
    let same = same-count xs c.loop-at.files inv.nodes in
    omega (arith, same)

pub save_all-requires-clause-saving : goal.save_all-requires-clause-saving
save_all-requires-clause-saving g c =
    let gr = g.R.Run.graph in
    let stack = g.R.Run.stack in
    let s = run_setting gr stack in
    let xs = c.args.files.now in
    let b = g.B.BoardCalls.shown c.args.board.now in
    let inv = c.loop-at.invariant in
    let here = g.B.BoardCalls.shown c.loop-at.board in
    let h = c.requires.saving in
    (h.0, (h.1.0, inv.saving h.0 h.1.0 h.1.1))

pub loop-at-preserved : goal.loop-at-preserved
loop-at-preserved g c =
    let gr = g.R.Run.graph in
    let stack = g.R.Run.stack in
    let s = run_setting gr stack in
    let xs = c.args.files.now in
    let b = g.B.BoardCalls.shown c.args.board.now in
    let inv = c.loop-at.invariant in
    let here = g.B.BoardCalls.shown c.loop-at.board in
    let new = g.B.BoardCalls.shown c.save_all.new.board in
    let n = c.loop-at.at in
    let h = c.requires.saving in
    let within : n < length xs = omega arith in
    let i = item xs n within in
    let f = same-files xs c.loop-at.files n i.0 inv.nodes i.1 in
    let node = ap (λ (z : NodeFile). z.node) f.2 in
    let ok = c.in_ok-save_all.ensures in
    record {
      saving = λ prefix before st. ok.saving prefix before (inv.saving prefix before st);
      drained = ok.drained;
      empty = λ k x low at. elim (cases_lt k n) [
        | inl early ↦
            let apart : x.node ≢ i.0.node =
            nodes-differ gr stack c.requires.graph h.0 xs h.1.1.saving.nodes k n x i.0 at i.1 (λ e. absurd (omega (arith, early, e))) in
            ok.others f.0 f.1 x.node (λ e. apart (e ∙ node)) ∙ inv.empty k x early at
        | inr late ↦
            let here_ : k ≡ n = omega (arith, late, low) in
            let same : i.0 ≡ x = same_Some i.0 x (sym i.1 ∙ ap (λ (w : ℕ). slice_get xs w) (sym here_) ∙ at) in
            subst (λ (v : ℕ). unsaved s v (past new) ≡ []) (node ∙ ap (λ (z : NodeFile). z.node) same) (ok.empty f.0 f.1)
      ];
      moves = rest-on s b here new inv.moves ok.moves;
      legal = ok.legal;
      nodes = ok.nodes ∙ inv.nodes;
      cause =
          step-then c.args.fault.now c.loop-at.fault c.save_all.new.fault (g.K.Shelf.faults c.args.shelf.now) (g.K.Shelf.faults c.loop-at.shelf)
          (g.K.Shelf.faults c.save_all.new.shelf) (g.K.Shelf.held c.args.shelf.now) (g.K.Shelf.held c.loop-at.shelf)
          (g.K.Shelf.held c.save_all.new.shelf) inv.cause ok.cause;
    }

pub returns-in_err-save_all-clause-moves : goal.returns-in_err-save_all-clause-moves
returns-in_err-save_all-clause-moves g c =
    let gr = g.R.Run.graph in
    let stack = g.R.Run.stack in
    let s = run_setting gr stack in
    let xs = c.args.files.now in
    let b = g.B.BoardCalls.shown c.args.board.now in
    let inv = c.loop-at.invariant in
    let here = g.B.BoardCalls.shown c.loop-at.board in
    let new = g.B.BoardCalls.shown c.save_all.new.board in
    rest-on s b here new inv.moves c.in_err-save_all.ensures.moves

pub returns-in_err-save_all-clause-cause : goal.returns-in_err-save_all-clause-cause
returns-in_err-save_all-clause-cause g c =
    let gr = g.R.Run.graph in
    let stack = g.R.Run.stack in
    let s = run_setting gr stack in
    let xs = c.args.files.now in
    let b = g.B.BoardCalls.shown c.args.board.now in
    let inv = c.loop-at.invariant in
    let here = g.B.BoardCalls.shown c.loop-at.board in
    step-then c.args.fault.now c.loop-at.fault c.save_all.new.fault (g.K.Shelf.faults c.args.shelf.now) (g.K.Shelf.faults c.loop-at.shelf)
    (g.K.Shelf.faults c.save_all.new.shelf) (g.K.Shelf.held c.args.shelf.now) (g.K.Shelf.held c.loop-at.shelf)
    (g.K.Shelf.held c.save_all.new.shelf) inv.cause c.in_err-save_all.ensures.cause

pub returns-clause-finished : goal.returns-clause-finished
returns-clause-finished g c =
    let gr = g.R.Run.graph in
    let stack = g.R.Run.stack in
    let s = run_setting gr stack in
    let xs = c.args.files.now in
    let b = g.B.BoardCalls.shown c.args.board.now in
    let inv = c.loop-at.invariant in
    let here = g.B.BoardCalls.shown c.loop-at.board in
    let h = c.requires.saving in
    rest-finished gr stack c.requires.graph h.0 xs h.1.1.saving.nodes (past here) inv.drained
    (λ k x at. inv.empty k x (let low = slice_get_within xs k x at in omega (arith, low)) at)

pub returns-in_err-save_all-clause-elsewhere : goal.returns-in_err-save_all-clause-elsewhere
returns-in_err-save_all-clause-elsewhere g c =
    λ prefix before st. c.in_err-save_all.ensures.elsewhere prefix before (c.loop-at.invariant.saving prefix before st)

pub returns-clause-elsewhere : goal.returns-clause-elsewhere
returns-clause-elsewhere g c =
    λ prefix before st. saving-kept g.R.Run.graph g.R.Run.stack c.requires.graph prefix before _ _ _ _ (c.loop-at.invariant.saving prefix before st)
