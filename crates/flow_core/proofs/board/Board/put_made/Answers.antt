use Rattle.std.proofs.Common.{◌≡◌, ◌<◌, ◌∙◌, ℕ, List, length, Some, true, sym, ap, subst}
use Rattle.std.proofs.lemmas.Bool.{true≢false}
use Rattle.nd_base.specs.declared.frame.FrameName.{FrameName}
use Rattle.board_rules.specs.RunMeasures.{run_setting, run_measure}
use Rattle.board_rules.specs.States.{BoardState, past, plain, lent_to}
use Rattle.board_rules.specs.Moving.{moved}
use Rattle.flow_journal.specs.Hands.{hand}
use Rattle.flow_journal.specs.Setting.{is_maker}
use Rattle.board_rules.specs.InHand.{is_job_on, has_grant, granted_size, IsWholeOf}
use Rattle.flow_journal.specs.ResultNames.{result_name}
use Rattle.frame_table.specs.Kept.{Kept, Frame, kept_at, with_kept, united}
use Rattle.run_course.specs.Puts.{put_of}
use Rattle.kept_blocks.proofs.Looks.{look_laws}
use Rattle.kept_blocks.proofs.Holding.{same-length}
use Rattle.flow_core.proofs.Laws.{move_laws}
use Rattle.flow_core.proofs.Lent.{lent-named, may-back}
use Rattle.flow_core.proofs.Handing.{Brings, job-shares, job-granted, made-maker, put_made-board}
use Rattle.flow_core.proofs.Boarding.{legal-of}
use Rattle.flow_core.proofs.board.Board.put_made.Goals as goal

pub unreachable-requires : goal.unreachable-requires
unreachable-requires g c =
    let name_of = g.F.Named.name_of in
    let parts_ = g.F.Held.parts in
    let bytes = g.F.Held.bytes_of in
    let s = run_setting g.F.Of.Run.graph g.F.Of.Run.stack in
    let w = c.self.inside.course in
    let t = c.self.inside.table in
    let r = c.args.role in
    let f = c.args.input in
    let job : is_job_on c.args.node (name_of f) (hand r (past w.told)) ≡ true =
    subst (λ (x : BoardState). is_job_on c.args.node (name_of f) (hand r (past x)) ≡ true) (sym c.self.view_is) c.requires.hand in
    let own : parts_ f ≡ lent_to r w.told = subst (λ (x : BoardState). parts_ f ≡ lent_to r x) (sym c.self.view_is) c.requires.lent in
    let maker : is_maker s c.args.node ≡ true =
    made-maker name_of (is_maker s c.args.node) (result_name s c.args.node (name_of f)) c.args.made c.requires.makes in
    let some : has_grant (hand r (past w.told)) ≡ true =
    job-granted s (past w.told) r c.args.node (name_of f) (legal-of s w.told c.self.invariant.run.history) maker job in
    true≢false (sym some ∙ c.in_default.ensures.some)

pub give_back-requires-clause-place : goal.give_back-requires-clause-place
give_back-requires-clause-place g c =
    let name_of = g.F.Named.name_of in
    let parts_ = g.F.Held.parts in
    let bytes = g.F.Held.bytes_of in
    let s = run_setting g.F.Of.Run.graph g.F.Of.Run.stack in
    let w = c.self.inside.course in
    let t = c.self.inside.table in
    let r = c.args.role in
    let f = c.args.input in
    let job : is_job_on c.args.node (name_of f) (hand r (past w.told)) ≡ true =
    subst (λ (x : BoardState). is_job_on c.args.node (name_of f) (hand r (past x)) ≡ true) (sym c.self.view_is) c.requires.hand in
    let own : parts_ f ≡ lent_to r w.told = subst (λ (x : BoardState). parts_ f ≡ lent_to r x) (sym c.self.view_is) c.requires.lent in
    let l =
    lent-named parts_ (look_laws parts_) s w t r (name_of f) c.name-name.result c.block-block.result c.self.invariant c.name-name.ensures c.block-block.ensures
    (job-shares c.args.node (name_of f) (hand r (past w.told)) job) in
    l.place

pub give_back-requires-clause-frame : goal.give_back-requires-clause-frame
give_back-requires-clause-frame g c =
    let name_of = g.F.Named.name_of in
    let parts_ = g.F.Held.parts in
    let bytes = g.F.Held.bytes_of in
    let s = run_setting g.F.Of.Run.graph g.F.Of.Run.stack in
    let w = c.self.inside.course in
    let t = c.self.inside.table in
    let r = c.args.role in
    let f = c.args.input in
    let job : is_job_on c.args.node (name_of f) (hand r (past w.told)) ≡ true =
    subst (λ (x : BoardState). is_job_on c.args.node (name_of f) (hand r (past x)) ≡ true) (sym c.self.view_is) c.requires.hand in
    let own : parts_ f ≡ lent_to r w.told = subst (λ (x : BoardState). parts_ f ≡ lent_to r x) (sym c.self.view_is) c.requires.lent in
    let l =
    lent-named parts_ (look_laws parts_) s w t r (name_of f) c.name-name.result c.block-block.result c.self.invariant c.name-name.ensures c.block-block.ensures
    (job-shares c.args.node (name_of f) (hand r (past w.told)) job) in
    may-back parts_ r w.told t (name_of f) c.block-block.result f l own

pub keep-requires : goal.keep-requires
keep-requires g c =
    let name_of = g.F.Named.name_of in
    let parts_ = g.F.Held.parts in
    let bytes = g.F.Held.bytes_of in
    let s = run_setting g.F.Of.Run.graph g.F.Of.Run.stack in
    let w = c.self.inside.course in
    let t = c.self.inside.table in
    let r = c.args.role in
    let f = c.args.input in
    let job : is_job_on c.args.node (name_of f) (hand r (past w.told)) ≡ true =
    subst (λ (x : BoardState). is_job_on c.args.node (name_of f) (hand r (past x)) ≡ true) (sym c.self.view_is) c.requires.hand in
    let own : parts_ f ≡ lent_to r w.told = subst (λ (x : BoardState). parts_ f ≡ lent_to r x) (sym c.self.view_is) c.requires.lent in
    let b = c.in-Some.granted.number in
    let place = ((look_laws parts_).in_making s w.told t r b c.self.invariant.run c.self.invariant.holds c.in-Some.ensures.block).place in
    subst (λ (n : ℕ). b < n)
    (sym (ap (length {A = Kept}) c.give_back.ensures ∙ same-length t c.block-block.result (united (kept_at t c.block-block.result) (parts_ f)))) place

pub invariant_of-self : goal.invariant_of-self
invariant_of-self g c =
    let name_of = g.F.Named.name_of in
    let parts_ = g.F.Held.parts in
    let bytes = g.F.Held.bytes_of in
    let s = run_setting g.F.Of.Run.graph g.F.Of.Run.stack in
    let w = c.self.inside.course in
    let t = c.self.inside.table in
    let r = c.args.role in
    let f = c.args.input in
    let job : is_job_on c.args.node (name_of f) (hand r (past w.told)) ≡ true =
    subst (λ (x : BoardState). is_job_on c.args.node (name_of f) (hand r (past x)) ≡ true) (sym c.self.view_is) c.requires.hand in
    let own : parts_ f ≡ lent_to r w.told = subst (λ (x : BoardState). parts_ f ≡ lent_to r x) (sym c.self.view_is) c.requires.lent in
    let l =
    lent-named parts_ (look_laws parts_) s w t r (name_of f) c.name-name.result c.block-block.result c.self.invariant c.name-name.ensures c.block-block.ensures
    (job-shares c.args.node (name_of f) (hand r (past w.told)) job) in
    let measure = run_measure g.F.Of.Run.graph g.F.Of.Run.stack in
    let i : Brings name_of parts_ measure s w t r c.args.node f (Some c.args.made) c.args.measured c.args.fired =
    record { board = c.self.invariant; job = job; kind = c.requires.makes; own_measure = c.requires.measured; own_fired = c.requires.fired; own = own } in
    let whole = subst (λ (x : BoardState). IsWholeOf (granted_size (hand r (past x))) (parts_ c.args.made)) (sym c.self.view_is) c.requires.whole in
    put_made-board {O = Unit {0}} name_of parts_ bytes measure (move_laws (Unit {0}) name_of parts_ bytes) s w c.put.new.course t c.keep.new.self r c.args.node
    c.in-Some.granted.number c.block-block.result f c.args.made c.args.measured c.args.fired i l.has c.in-Some.ensures.block whole
    (c.put.ensures ∙ ap (λ (x : FrameName). record w { told = moved s (plain (put_of s r c.args.node x c.args.fired)) w.told }) c.name-name.ensures)
    (c.keep.ensures ∙ ap (λ (u : List Kept). with_kept u c.in-Some.granted.number (Frame (name_of c.args.made) (parts_ c.args.made))) c.give_back.ensures)
