use Rattle.std.proofs.Common.{◌≡◌, ◌∙◌, [], true, sym, ap, subst, List}
use Rattle.std.proofs.lemmas.Bool.{and_parts}
use Rattle.nd_base.specs.declared.frame.FrameName.{FrameName}
use Rattle.flow_journal.specs.Histories.{is_legal}
use Rattle.board_rules.specs.Moving.{moved, with_all}
use Rattle.board_rules.specs.RunMeasures.{run_setting}
use Rattle.board_rules.specs.States.{BoardState, past, plain}
use Rattle.run_course.specs.Courses.{Coursed}
use Rattle.run_course.specs.Puts.{put_of}
use Rattle.run_course.specs.Watched.{IsPutInRing, ring_outs}
use Rattle.course_parts.specs.declared.moving.Watched.{Watched}
use Rattle.course_parts.specs.declared.moving.Watched.TheVariants.{Out}
use Rattle.run_course.proofs.Handed.{job-on}
use Rattle.flow_emit.proofs.MovedPuts.{put-whole}
use Rattle.flow_emit.proofs.Ringing.{moved-ring}
use Rattle.flow_emit.proofs.watching.put_watched.Goals as goal

pub let_ring_out-requires-clause-legal : goal.let_ring_out-requires-clause-legal
let_ring_out-requires-clause-legal g c =
    let s = run_setting g.F.Of.Run.graph g.F.Of.Run.stack in
    let v = c.args.node in
    let r = c.args.role in
    let a = c.args.name in
    let f = c.args.fired in
    let old : Coursed = c.args.course.now in
    let mid : Coursed = c.put_in_ring.new.self in
    let q : IsPutInRing s r v a f old mid Out = subst (λ (x : Watched). IsPutInRing s r v a f old mid x) c.in-Out.is c.put_in_ring.ensures in
    let whole : moved s (plain (put_of s r v a f)) old.told ≡ with_all s 0 2 (ring_outs v mid.transit) mid.told =
    moved-ring s v r a f mid.transit old.told q.1 ∙ ap (with_all s 0 2 (ring_outs v mid.transit)) (sym q.0) in
    let job = job-on s v r a (past old.told) (and_parts _ _ c.requires.history).0 c.requires.hand in
    subst (λ (b : BoardState). is_legal s (past b) ≡ true) whole (and_parts _ _ (put-whole s v r a f old.told c.requires.history job c.requires.fired)).0

pub returns-in-Out : goal.returns-in-Out
returns-in-Out g c =
    let s = run_setting g.F.Of.Run.graph g.F.Of.Run.stack in
    let v = c.args.node in
    let r = c.args.role in
    let a = c.args.name in
    let f = c.args.fired in
    let old : Coursed = c.args.course.now in
    let mid : Coursed = c.put_in_ring.new.self in
    let q : IsPutInRing s r v a f old mid Out = subst (λ (x : Watched). IsPutInRing s r v a f old mid x) c.in-Out.is c.put_in_ring.ensures in
    let whole : moved s (plain (put_of s r v a f)) old.told ≡ with_all s 0 2 (ring_outs v mid.transit) mid.told =
    moved-ring s v r a f mid.transit old.told q.1 ∙ ap (with_all s 0 2 (ring_outs v mid.transit)) (sym q.0) in
    c.let_ring_out.ensures
    ∙ (ap (λ (b : BoardState). (let w : Coursed = record { told = b; transit = [] } in w)) (sym whole)
    ∙ ap (λ (ts : List FrameName). (let w : Coursed = record { told = moved s (plain (put_of s r v a f)) old.told; transit = ts } in w)) (sym c.requires.still))
