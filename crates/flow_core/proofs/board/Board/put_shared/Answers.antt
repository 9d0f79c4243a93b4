use Rattle.std.proofs.Common.{◌≡◌, ◌∙◌, None, true, sym, ap, subst}
use Rattle.nd_base.specs.declared.frame.FrameName.{FrameName}
use Rattle.board_rules.specs.RunMeasures.{run_setting, run_measure}
use Rattle.board_rules.specs.States.{BoardState, past, plain, lent_to}
use Rattle.board_rules.specs.Moving.{moved}
use Rattle.flow_journal.specs.Hands.{hand}
use Rattle.board_rules.specs.InHand.{is_job_on}
use Rattle.run_course.specs.Puts.{put_of}
use Rattle.kept_blocks.proofs.Looks.{look_laws}
use Rattle.flow_core.proofs.Laws.{move_laws}
use Rattle.flow_core.proofs.Lent.{lent-named, may-back}
use Rattle.flow_core.proofs.Handing.{Brings, job-shares, put-board}
use Rattle.flow_core.proofs.board.Board.put_shared.Goals as goal

pub give_back-requires-clause-place : goal.give_back-requires-clause-place
give_back-requires-clause-place g c =
    let name_of = g.F.Named.name_of in
    let parts_ = g.F.Held.parts in
    let bytes = g.F.Held.bytes_of in
    let s = run_setting g.F.Of.Run.graph g.F.Of.Run.stack in
    let w = c.self.inside.course in
    let t = c.self.inside.table in
    let r = c.args.role in
    let f = c.args.input in
    let job : is_job_on c.args.node (name_of f) (hand r (past w.told)) ≡ true =
    subst (λ (x : BoardState). is_job_on c.args.node (name_of f) (hand r (past x)) ≡ true) (sym c.self.view_is) c.requires.hand in
    let own : parts_ f ≡ lent_to r w.told = subst (λ (x : BoardState). parts_ f ≡ lent_to r x) (sym c.self.view_is) c.requires.lent in
    let l =
    lent-named parts_ (look_laws parts_) s w t r (name_of f) c.name-name.result c.block-block.result c.self.invariant c.name-name.ensures c.block-block.ensures
    (job-shares c.args.node (name_of f) (hand r (past w.told)) job) in
    l.place

pub give_back-requires-clause-frame : goal.give_back-requires-clause-frame
give_back-requires-clause-frame g c =
    let name_of = g.F.Named.name_of in
    let parts_ = g.F.Held.parts in
    let bytes = g.F.Held.bytes_of in
    let s = run_setting g.F.Of.Run.graph g.F.Of.Run.stack in
    let w = c.self.inside.course in
    let t = c.self.inside.table in
    let r = c.args.role in
    let f = c.args.input in
    let job : is_job_on c.args.node (name_of f) (hand r (past w.told)) ≡ true =
    subst (λ (x : BoardState). is_job_on c.args.node (name_of f) (hand r (past x)) ≡ true) (sym c.self.view_is) c.requires.hand in
    let own : parts_ f ≡ lent_to r w.told = subst (λ (x : BoardState). parts_ f ≡ lent_to r x) (sym c.self.view_is) c.requires.lent in
    let l =
    lent-named parts_ (look_laws parts_) s w t r (name_of f) c.name-name.result c.block-block.result c.self.invariant c.name-name.ensures c.block-block.ensures
    (job-shares c.args.node (name_of f) (hand r (past w.told)) job) in
    may-back parts_ r w.told t (name_of f) c.block-block.result f l own

pub invariant_of-self : goal.invariant_of-self
invariant_of-self g c =
    let name_of = g.F.Named.name_of in
    let parts_ = g.F.Held.parts in
    let bytes = g.F.Held.bytes_of in
    let s = run_setting g.F.Of.Run.graph g.F.Of.Run.stack in
    let w = c.self.inside.course in
    let t = c.self.inside.table in
    let r = c.args.role in
    let f = c.args.input in
    let job : is_job_on c.args.node (name_of f) (hand r (past w.told)) ≡ true =
    subst (λ (x : BoardState). is_job_on c.args.node (name_of f) (hand r (past x)) ≡ true) (sym c.self.view_is) c.requires.hand in
    let own : parts_ f ≡ lent_to r w.told = subst (λ (x : BoardState). parts_ f ≡ lent_to r x) (sym c.self.view_is) c.requires.lent in
    let l =
    lent-named parts_ (look_laws parts_) s w t r (name_of f) c.name-name.result c.block-block.result c.self.invariant c.name-name.ensures c.block-block.ensures
    (job-shares c.args.node (name_of f) (hand r (past w.told)) job) in
    let measure = run_measure g.F.Of.Run.graph g.F.Of.Run.stack in
    let i : Brings name_of parts_ measure s w t r c.args.node f None c.args.measured c.args.fired =
    record { board = c.self.invariant; job = job; kind = c.requires.passes; own_measure = c.requires.measured; own_fired = c.requires.fired; own = own } in
    put-board {O = Unit {0}} name_of parts_ bytes measure (move_laws (Unit {0}) name_of parts_ bytes) s w c.put.new.course t c.give_back.new.self r c.args.node
    c.block-block.result f c.args.measured c.args.fired i l.has
    (c.put.ensures ∙ ap (λ (x : FrameName). record w { told = moved s (plain (put_of s r c.args.node x c.args.fired)) w.told }) c.name-name.ensures)
    c.give_back.ensures
