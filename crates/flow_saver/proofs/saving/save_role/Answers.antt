use Rattle.std.proofs.Common.{◌≡◌, ◌⊎◌, inl, inr, true, [], ◌∷◌, length, sym, subst, refl, ◌∙◌, Option, None}
use Rattle.std.proofs.lemmas.Bool.{true≢false}
use Rattle.edge_traits.specs.Files.{Files}
use Rattle.flow_journal.specs.declared.entry.Entry.{Entry}
use Rattle.board_rules.specs.RunMeasures.{run_setting}
use Rattle.board_rules.specs.States.{past, lent_to}
use Rattle.flow_roles.proofs.Calls.{still-owned}
use Rattle.flow_roles.proofs.RoleCalls.{fresh-owned}
use Rattle.flow_saver.specs.Saver.{AreSaved, IsPieceOfHand}
use Rattle.flow_saver.specs.Turns.{Falls, AreNone}
use Rattle.flow_saver.proofs.Steps.{saving-still, all-given}
use Rattle.flow_saver.proofs.Beginning.{fresh-saving, fresh-asked, all-since, saving-from, unsaved-from, hand-piece}
use Rattle.flow_saver.proofs.Counting.{counts-then}
use Rattle.flow_saver.proofs.Turning.{call-own, gone-asked, once-asked, ended-asked, ended-wanting, gone-on, turns-first, turns-same, turns-next, noted-more}
use Rattle.flow_saver.proofs.saving.save_role.Goals as goal
use Rattle.flow_saver.proofs.saving.save_role.Goals.{then-progress-via-then-progress, then-progress-via-else-progress+then-progress-2}

pub loop-init : goal.loop-init
loop-init g c =
    let files = c.requires.files in
    record {
      ours = c.requires.ours;
      start = record { prefix = files.0; made = []; held = g.K.Shelf.held c.args.shelf.now };
      began = refl;
      first = refl;
      named = sym files.1;
      saving =
          fresh-saving g.R.Run.graph g.R.Run.stack files.0 (g.K.Shelf.held c.args.shelf.now) c.args.role
          (g.D.Desk.knows c.args.pass) c.args.files files.1 c.requires.fresh;
      cause = refl;
      fronts = [];
      noted = refl;
      turns = λ q gone own. turns-first (run_setting g.R.Run.graph g.R.Run.stack) (g.D.Desk.knows c.args.pass) q
          (c.requires.fresh.role ∙ c.requires.role) c.requires.fresh.made gone own;
      owned = fresh-owned _ _ c.requires.fresh;
      asked = fresh-asked _ _ c.requires.fresh;
      home = refl;
    }

pub returns-then-progress-clause-moves : goal.returns-then-progress-clause-moves
returns-then-progress-clause-moves g c =
    let gr = g.R.Run.graph in
    let stack = g.R.Run.stack in
    let inv = c.loop.invariant in
    let still =
    saving-still gr stack inv.start c.args.role _ _ (g.D.Desk.knows c.loop.pass) (g.D.Desk.knows c.progress-progress.new.pass) c.loop.files c.loop.fault
    (g.K.Shelf.held c.loop.shelf) inv.saving c.progress-progress.ensures.called c.progress-progress.ensures.called.answer.1 in
    all-since inv.start.made (g.D.Desk.knows c.progress-progress.new.pass).made still.moves inv.first

pub returns-then-progress-clause-left : goal.returns-then-progress-clause-left
returns-then-progress-clause-left g c =
    let gr = g.R.Run.graph in
    let stack = g.R.Run.stack in
    let inv = c.loop.invariant in
    let still =
    saving-still gr stack inv.start c.args.role _ _ (g.D.Desk.knows c.loop.pass) (g.D.Desk.knows c.progress-progress.new.pass) c.loop.files c.loop.fault
    (g.K.Shelf.held c.loop.shelf) inv.saving c.progress-progress.ensures.called c.progress-progress.ensures.called.answer.1 in
    (subst (λ (e : Option Entry). IsPieceOfHand (lent_to c.args.role (g.D.Desk.knows c.progress-progress.new.pass).made) e None) (sym still.free) refl)

pub returns-then-progress-clause-history : goal.returns-then-progress-clause-history
returns-then-progress-clause-history g c =
    let gr = g.R.Run.graph in
    let stack = g.R.Run.stack in
    let inv = c.loop.invariant in
    let still =
    saving-still gr stack inv.start c.args.role _ _ (g.D.Desk.knows c.loop.pass) (g.D.Desk.knows c.progress-progress.new.pass) c.loop.files c.loop.fault
    (g.K.Shelf.held c.loop.shelf) inv.saving c.progress-progress.ensures.called c.progress-progress.ensures.called.answer.1 in
    λ done. all-given (run_setting gr stack) _ _ (g.D.Desk.knows c.loop.pass)
    (g.D.Desk.knows c.progress-progress.new.pass) c.args.role inv.saving.role c.requires.role c.progress-progress.ensures.called still.alike

pub returns-then-progress-clause-nodes : goal.returns-then-progress-clause-nodes
returns-then-progress-clause-nodes g c =
    let gr = g.R.Run.graph in
    let stack = g.R.Run.stack in
    let inv = c.loop.invariant in
    let still =
    saving-still gr stack inv.start c.args.role _ _ (g.D.Desk.knows c.loop.pass) (g.D.Desk.knows c.progress-progress.new.pass) c.loop.files c.loop.fault
    (g.K.Shelf.held c.loop.shelf) inv.saving c.progress-progress.ensures.called c.progress-progress.ensures.called.answer.1 in
    still.nodes ∙ inv.named

pub returns-then-progress-clause-saved : goal.returns-then-progress-clause-saved
returns-then-progress-clause-saved g c =
    let gr = g.R.Run.graph in
    let stack = g.R.Run.stack in
    let inv = c.loop.invariant in
    let still =
    saving-still gr stack inv.start c.args.role _ _ (g.D.Desk.knows c.loop.pass) (g.D.Desk.knows c.progress-progress.new.pass) c.loop.files c.loop.fault
    (g.K.Shelf.held c.loop.shelf) inv.saving c.progress-progress.ensures.called c.progress-progress.ensures.called.answer.1 in
    subst (λ (h : Option Files). AreSaved gr stack h (past (g.D.Desk.knows c.progress-progress.new.pass).made)
    (past (g.D.Desk.knows c.progress-progress.new.pass).seen) c.loop.files c.loop.fault (g.K.Shelf.held c.loop.shelf)) inv.began still.saved

pub save_turn-requires-clause-saving : goal.save_turn-requires-clause-saving
save_turn-requires-clause-saving g c =
    let gr = g.R.Run.graph in
    let stack = g.R.Run.stack in
    let inv = c.loop.invariant in
    let still =
    saving-still gr stack inv.start c.args.role _ _ (g.D.Desk.knows c.loop.pass) (g.D.Desk.knows c.progress-progress.new.pass) c.loop.files c.loop.fault
    (g.K.Shelf.held c.loop.shelf) inv.saving c.progress-progress.ensures.called c.progress-progress.ensures.called.answer.1 in
    (inv.start, still)

pub loop-preserved-in-Nothing : goal.loop-preserved-in-Nothing
loop-preserved-in-Nothing g c =
    let gr = g.R.Run.graph in
    let stack = g.R.Run.stack in
    let inv = c.loop.invariant in
    let still =
    saving-still gr stack inv.start c.args.role _ _ (g.D.Desk.knows c.loop.pass) (g.D.Desk.knows c.progress-progress.new.pass) c.loop.files c.loop.fault
    (g.K.Shelf.held c.loop.shelf) inv.saving c.progress-progress.ensures.called c.progress-progress.ensures.called.answer.1 in
    let s = run_setting gr stack in
    let q = g.D.Desk.knows c.progress-progress.new.pass in
    let call = c.progress-progress.ensures.called in
    let own = call-own s _ _ _ q call in
    let before = inv.turns _ (gone-asked s _ _ _ q call call.answer.1) own in
    let goes = c.save_turn.ensures.goes inv.start still in
    record {
      ours = c.save_turn.ensures.ours;
      start = inv.start;
      began = inv.began;
      first = inv.first;
      named = inv.named;
      saving = c.in-Nothing.ensures.leaves inv.start still;
      cause =
          counts-then c.loop.fault c.save_turn.new.fault _ (g.K.Shelf.faults c.loop.shelf) _ (g.K.Shelf.held c.loop.shelf)
          (g.K.Shelf.held c.save_turn.new.shelf) inv.cause c.save_turn.ensures.cause;
      fronts = past q.seen ∷ inv.fronts;
      noted = noted-more s inv.fronts _ _ _ c.note.result c.progress-progress.result _ q.seen call.answer.0 call.answer.1 inv.noted c.note.ensures.ok
          c.note.ensures.err;
      turns = λ r gone mine. turns-next s inv.fronts q r (still.role ∙ c.requires.role)
          (gone-on s Falls q (g.D.Desk.knows c.save_turn.new.pass) r goes gone) own mine before;
      owned = goes.owned (still-owned _ _ _ _ _ c.args.role inv.saving.role call refl inv.owned);
      asked = goes.asked ∙ once-asked s _ c.progress-progress.result _ q call (length inv.fronts) inv.asked;
      home = c.note.ensures.home ∙ inv.home;
    }

pub loop-preserved : goal.loop-preserved
loop-preserved g c =
    let gr = g.R.Run.graph in
    let stack = g.R.Run.stack in
    let inv = c.loop.invariant in
    let still =
    saving-still gr stack inv.start c.args.role _ _ (g.D.Desk.knows c.loop.pass) (g.D.Desk.knows c.progress-progress.new.pass) c.loop.files c.loop.fault
    (g.K.Shelf.held c.loop.shelf) inv.saving c.progress-progress.ensures.called c.progress-progress.ensures.called.answer.1 in
    let s = run_setting gr stack in
    let q = g.D.Desk.knows c.progress-progress.new.pass in
    let call = c.progress-progress.ensures.called in
    let own = call-own s _ _ _ q call in
    let before = inv.turns _ (gone-asked s _ _ _ q call call.answer.1) own in
    let goes = c.save_turn.ensures.goes inv.start still in
    record {
      ours = c.save_turn.ensures.ours;
      start = inv.start;
      began = inv.began;
      first = inv.first;
      named = inv.named;
      saving = c.in-Wrote.ensures.leaves inv.start still;
      cause =
          counts-then c.loop.fault c.save_turn.new.fault _ (g.K.Shelf.faults c.loop.shelf) _ (g.K.Shelf.held c.loop.shelf)
          (g.K.Shelf.held c.save_turn.new.shelf) inv.cause c.save_turn.ensures.cause;
      fronts = past q.seen ∷ inv.fronts;
      noted = noted-more s inv.fronts _ _ _ c.note.result c.progress-progress.result _ q.seen call.answer.0 call.answer.1 inv.noted c.note.ensures.ok
          c.note.ensures.err;
      turns = λ r gone mine. turns-next s inv.fronts q r (still.role ∙ c.requires.role)
          (gone-on s Falls q (g.D.Desk.knows c.save_turn.new.pass) r goes gone) own mine before;
      owned = goes.owned (still-owned _ _ _ _ _ c.args.role inv.saving.role call refl inv.owned);
      asked = goes.asked ∙ once-asked s _ c.progress-progress.result _ q call (length inv.fronts) inv.asked;
      home = c.note.ensures.home ∙ inv.home;
    }

pub returns-in-Wants-clause-role : goal.returns-in-Wants-clause-role
returns-in-Wants-clause-role g c =
    let gr = g.R.Run.graph in
    let stack = g.R.Run.stack in
    let inv = c.loop.invariant in
    let still =
    saving-still gr stack inv.start c.args.role _ _ (g.D.Desk.knows c.loop.pass) (g.D.Desk.knows c.progress-progress.new.pass) c.loop.files c.loop.fault
    (g.K.Shelf.held c.loop.shelf) inv.saving c.progress-progress.ensures.called c.progress-progress.ensures.called.answer.1 in
    let end = c.in-Wants.ensures.leaves inv.start still in
    end.role

pub returns-in-Wants-clause-moves : goal.returns-in-Wants-clause-moves
returns-in-Wants-clause-moves g c =
    let gr = g.R.Run.graph in
    let stack = g.R.Run.stack in
    let inv = c.loop.invariant in
    let still =
    saving-still gr stack inv.start c.args.role _ _ (g.D.Desk.knows c.loop.pass) (g.D.Desk.knows c.progress-progress.new.pass) c.loop.files c.loop.fault
    (g.K.Shelf.held c.loop.shelf) inv.saving c.progress-progress.ensures.called c.progress-progress.ensures.called.answer.1 in
    let end = c.in-Wants.ensures.leaves inv.start still in
    all-since inv.start.made (g.D.Desk.knows c.save_turn.new.pass).made end.moves inv.first

pub returns-in-Wants-clause-left : goal.returns-in-Wants-clause-left
returns-in-Wants-clause-left g c =
    let gr = g.R.Run.graph in
    let stack = g.R.Run.stack in
    let inv = c.loop.invariant in
    let still =
    saving-still gr stack inv.start c.args.role _ _ (g.D.Desk.knows c.loop.pass) (g.D.Desk.knows c.progress-progress.new.pass) c.loop.files c.loop.fault
    (g.K.Shelf.held c.loop.shelf) inv.saving c.progress-progress.ensures.called c.progress-progress.ensures.called.answer.1 in
    let end = c.in-Wants.ensures.leaves inv.start still in
    hand-piece c.args.role end.node.node c.in-Wants.due.group _ c.in-Wants.due.piece _ end.hand end.lent

pub returns-in-Wants-clause-nodes : goal.returns-in-Wants-clause-nodes
returns-in-Wants-clause-nodes g c =
    let gr = g.R.Run.graph in
    let stack = g.R.Run.stack in
    let inv = c.loop.invariant in
    let still =
    saving-still gr stack inv.start c.args.role _ _ (g.D.Desk.knows c.loop.pass) (g.D.Desk.knows c.progress-progress.new.pass) c.loop.files c.loop.fault
    (g.K.Shelf.held c.loop.shelf) inv.saving c.progress-progress.ensures.called c.progress-progress.ensures.called.answer.1 in
    let end = c.in-Wants.ensures.leaves inv.start still in
    end.nodes ∙ inv.named

pub returns-in-Wants-clause-saved : goal.returns-in-Wants-clause-saved
returns-in-Wants-clause-saved g c =
    let gr = g.R.Run.graph in
    let stack = g.R.Run.stack in
    let inv = c.loop.invariant in
    let still =
    saving-still gr stack inv.start c.args.role _ _ (g.D.Desk.knows c.loop.pass) (g.D.Desk.knows c.progress-progress.new.pass) c.loop.files c.loop.fault
    (g.K.Shelf.held c.loop.shelf) inv.saving c.progress-progress.ensures.called c.progress-progress.ensures.called.answer.1 in
    let end = c.in-Wants.ensures.leaves inv.start still in
    subst (λ (h : Option Files). AreSaved gr stack h (past (g.D.Desk.knows c.save_turn.new.pass).made)
    (past (g.D.Desk.knows c.save_turn.new.pass).seen) c.save_turn.new.files c.save_turn.new.fault (g.K.Shelf.held c.save_turn.new.shelf)) inv.began end.saved

pub returns-in-Wants-clause-fault : goal.returns-in-Wants-clause-fault
returns-in-Wants-clause-fault g c =
    let gr = g.R.Run.graph in
    let stack = g.R.Run.stack in
    let inv = c.loop.invariant in
    let still =
    saving-still gr stack inv.start c.args.role _ _ (g.D.Desk.knows c.loop.pass) (g.D.Desk.knows c.progress-progress.new.pass) c.loop.files c.loop.fault
    (g.K.Shelf.held c.loop.shelf) inv.saving c.progress-progress.ensures.called c.progress-progress.ensures.called.answer.1 in
    counts-then c.loop.fault c.save_turn.new.fault _ (g.K.Shelf.faults c.loop.shelf) _ (g.K.Shelf.held c.loop.shelf)
    (g.K.Shelf.held c.save_turn.new.shelf) inv.cause c.save_turn.ensures.cause

pub returns-then-progress-clause-leaves : goal.returns-then-progress-clause-leaves
returns-then-progress-clause-leaves g c =
    let gr = g.R.Run.graph in
    let stack = g.R.Run.stack in
    let inv = c.loop.invariant in
    let still =
    saving-still gr stack inv.start c.args.role _ _ (g.D.Desk.knows c.loop.pass) (g.D.Desk.knows c.progress-progress.new.pass) c.loop.files c.loop.fault
    (g.K.Shelf.held c.loop.shelf) inv.saving c.progress-progress.ensures.called c.progress-progress.ensures.called.answer.1 in
    λ prefix is. saving-from gr stack inv.start prefix (g.K.Shelf.held c.args.shelf.now) c.args.role
    (g.D.Desk.knows c.progress-progress.new.pass) c.loop.files c.loop.fault (g.K.Shelf.held c.loop.shelf) inv.began inv.first (inv.named ∙ is) still

pub returns-in-Wants-clause-leaves : goal.returns-in-Wants-clause-leaves
returns-in-Wants-clause-leaves g c =
    let gr = g.R.Run.graph in
    let stack = g.R.Run.stack in
    let inv = c.loop.invariant in
    let still =
    saving-still gr stack inv.start c.args.role _ _ (g.D.Desk.knows c.loop.pass) (g.D.Desk.knows c.progress-progress.new.pass) c.loop.files c.loop.fault
    (g.K.Shelf.held c.loop.shelf) inv.saving c.progress-progress.ensures.called c.progress-progress.ensures.called.answer.1 in
    let end = c.in-Wants.ensures.leaves inv.start still in
    λ prefix is. unsaved-from gr stack inv.start prefix (g.K.Shelf.held c.args.shelf.now) c.args.role (g.D.Desk.knows c.save_turn.new.pass)
    c.save_turn.new.files c.save_turn.new.fault (g.K.Shelf.held c.save_turn.new.shelf) inv.began inv.first (inv.named ∙ is) c.in-Wants.due end

pub returns-then-progress-clause-notes : goal.returns-then-progress-clause-notes
returns-then-progress-clause-notes g c =
    let gr = g.R.Run.graph in
    let stack = g.R.Run.stack in
    let inv = c.loop.invariant in
    let s = run_setting gr stack in
    let q = g.D.Desk.knows c.progress-progress.new.pass in
    let call = c.progress-progress.ensures.called in
    let own = call-own s _ _ _ q call in
    let told : (c.progress-progress.result.done ≡ true) ⊎ (c.progress-progress.result.left ≡ true) = elim c.then-progress.branch [
      | then-progress-via-then-progress w ↦ inl w.if-progress.true
      | then-progress-via-else-progress+then-progress-2 w ↦ inr w.if-progress-2.true
    ] in
    let before = inv.turns _ (gone-asked s _ _ _ q call call.answer.1) own in (
      record {
        last = past q.seen;
        earlier = inv.fronts;
        ended = ended-asked s c.progress-progress.result _ q.seen call.answer.0 call.answer.1 told;
        noted = noted-more s inv.fronts _ _ _ c.note.result c.progress-progress.result _ q.seen call.answer.0 call.answer.1 inv.noted c.note.ensures.ok
            c.note.ensures.err;
        turns = turns-same s inv.fronts (past q.seen) before;
        whole = λ fine. refl;
      },
      once-asked s _ c.progress-progress.result _ q call (length inv.fronts) inv.asked,
    )

pub returns-in-Wants-clause-notes : goal.returns-in-Wants-clause-notes
returns-in-Wants-clause-notes g c =
    let gr = g.R.Run.graph in
    let stack = g.R.Run.stack in
    let inv = c.loop.invariant in
    let still =
    saving-still gr stack inv.start c.args.role _ _ (g.D.Desk.knows c.loop.pass) (g.D.Desk.knows c.progress-progress.new.pass) c.loop.files c.loop.fault
    (g.K.Shelf.held c.loop.shelf) inv.saving c.progress-progress.ensures.called c.progress-progress.ensures.called.answer.1 in
    let s = run_setting gr stack in
    let q = g.D.Desk.knows c.progress-progress.new.pass in
    let call = c.progress-progress.ensures.called in
    let own = call-own s _ _ _ q call in
    let before = inv.turns _ (gone-asked s _ _ _ q call call.answer.1) own in
    let end = c.in-Wants.ensures.leaves inv.start still in
    let goes = c.save_turn.ensures.goes inv.start still in (
      record {
        last = past q.seen;
        earlier = inv.fronts;
        ended = ended-wanting s c.args.role (g.D.Desk.knows c.save_turn.new.pass) _ (goes.own own).0 end.role c.requires.role end.hand;
        noted = noted-more s inv.fronts _ _ _ c.note.result c.progress-progress.result _ q.seen call.answer.0 call.answer.1 inv.noted c.note.ensures.ok
            c.note.ensures.err;
        turns = turns-next s inv.fronts q (g.D.Desk.knows c.save_turn.new.pass) (still.role ∙ c.requires.role) goes own (goes.own own) before;
        whole = λ fine. absurd (true≢false fine);
      },
      goes.asked ∙ once-asked s _ c.progress-progress.result _ q call (length inv.fronts) inv.asked,
    )

pub returns-then-progress-clause-home : goal.returns-then-progress-clause-home
returns-then-progress-clause-home g c = c.note.ensures.home ∙ c.loop.invariant.home

pub returns-in-Wants-clause-home : goal.returns-in-Wants-clause-home
returns-in-Wants-clause-home g c = c.note.ensures.home ∙ c.loop.invariant.home

pub returns-then-progress-clause-owned : goal.returns-then-progress-clause-owned
returns-then-progress-clause-owned g c =
    let inv = c.loop.invariant in
    still-owned _ _ _ _ _ c.args.role inv.saving.role c.progress-progress.ensures.called refl inv.owned

pub returns-in-Wants-clause-owned : goal.returns-in-Wants-clause-owned
returns-in-Wants-clause-owned g c =
    let inv = c.loop.invariant in
    let call = c.progress-progress.ensures.called in
    let still =
    saving-still g.R.Run.graph g.R.Run.stack inv.start c.args.role _ _ (g.D.Desk.knows c.loop.pass) (g.D.Desk.knows c.progress-progress.new.pass) c.loop.files
    c.loop.fault (g.K.Shelf.held c.loop.shelf) inv.saving call call.answer.1 in
    (c.save_turn.ensures.goes inv.start still).owned (still-owned _ _ _ _ _ c.args.role inv.saving.role call refl inv.owned)
