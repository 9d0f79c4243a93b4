use Rattle.std.proofs.Common.{◌≡◌, ◌∙◌, ◌∷◌, [], true, false, ap, sym, refl, subst, drop, List}
use Rattle.std.proofs.lemmas.Bool.{and_parts}
use Rattle.nd_base.specs.declared.frame.FrameName.{FrameName}
use Rattle.flow_journal.specs.ResultNames.{result_name}
use Rattle.board_rules.specs.Moving.{moved, with_all}
use Rattle.board_rules.specs.RunMeasures.{run_setting, run_measure}
use Rattle.board_rules.specs.States.{BoardState, past, plain}
use Rattle.flow_journal.specs.declared.entry.Why.TheVariants.{Plain}
use Rattle.flow_journal.specs.Following.{emit}
use Rattle.flow_journal.specs.Histories.{is_legal}
use Rattle.flow_journal.specs.Setting.{is_maker}
use Rattle.run_course.specs.Courses.{Coursed}
use Rattle.run_course.specs.Puts.{put_of, job_arrays}
use Rattle.run_course.proofs.Handed.{job-on}
use Rattle.run_course.proofs.PutMoves.{put-legal, result-measures}
use Rattle.flow_emit.proofs.MovedPuts.{put-whole, moved-result, emitted-put}
use Rattle.flow_emit.proofs.puts.put_at_once.Goals as goal

pub put_plain-requires-clause-legal : goal.put_plain-requires-clause-legal
put_plain-requires-clause-legal g c =
    let s = run_setting g.F.Of.Run.graph g.F.Of.Run.stack in
    let b = c.args.course.now.told in
    put-legal s c.args.node c.args.role c.args.name c.args.fired b c.requires.history
    (job-on s c.args.node c.args.role c.args.name (past b) (and_parts _ _ c.requires.history).0 c.requires.hand) c.requires.fired

pub emit-requires-clause-measured : goal.emit-requires-clause-measured
emit-requires-clause-measured g c =
    c.requires.measured
    ∙ (result-measures g.F.Of.Run.graph g.F.Of.Run.stack c.args.node c.args.name
    ∙ ap (run_measure g.F.Of.Run.graph g.F.Of.Run.stack c.args.node) (sym c.result_name-made.ensures))

pub emit-requires-clause-legal : goal.emit-requires-clause-legal
emit-requires-clause-legal g c =
    let s = run_setting g.F.Of.Run.graph g.F.Of.Run.stack in
    let b = c.args.course.now.told in
    let whole =
    put-whole s c.args.node c.args.role c.args.name c.args.fired b c.requires.history
    (job-on s c.args.node c.args.role c.args.name (past b) (and_parts _ _ c.requires.history).0 c.requires.hand) c.requires.fired in
    let legal : is_legal s (past (moved s (plain (put_of s c.args.role c.args.node c.args.name c.args.fired)) b)) ≡ true = (and_parts _ _ whole).0 in
    let made : FrameName = result_name s c.args.node c.args.name in
    let told = ap (λ (v : Coursed). v.told) c.put_plain.ensures in
    let out : is_legal s (past (with_all s 0 2 (emit c.args.node Plain made ∷ []) (plain (put_of s c.args.role c.args.node c.args.name c.args.fired) ∷ b)))
    ≡ true =
    subst (λ (n : BoardState). is_legal s (past n) ≡ true)
    (moved-result s c.args.node c.args.role c.args.name c.args.fired b c.requires.kind c.requires.unsorted) legal in
    subst (λ (n : FrameName). is_legal s (past (with_all s 0 2 (emit c.args.node Plain n ∷ []) c.put_plain.new.self.told)) ≡ true)
    (sym c.result_name-made.ensures)
    (subst (λ (d : BoardState). is_legal s (past (with_all s 0 2 (emit c.args.node Plain made ∷ []) d)) ≡ true) (sym told) out)

pub returns-then-is_maker : goal.returns-then-is_maker
returns-then-is_maker g c =
    let s = run_setting g.F.Of.Run.graph g.F.Of.Run.stack in
    let v = c.args.node in
    let makes : is_maker s v ≡ true = sym c.is_maker.ensures ∙ c.if-is_maker.true in
    let none : drop 1 (drop 1 (job_arrays s v c.args.name)) ≡ [] = rw makes refl in
    let out =
    emitted-put s v c.args.role c.args.name c.result_name-made.result c.args.fired c.args.course.now c.put_plain.new.self c.emit.new.course c.requires.kind
    c.requires.unsorted c.result_name-made.ensures c.put_plain.ensures c.emit.ensures in
    c.release.ensures
    ∙ (ap (λ (w : Coursed). record w { transit = drop 1 w.transit }) out
    ∙ ap (λ (ts : List FrameName). record c.args.course.now {
      told = moved s (plain (put_of s c.args.role v c.args.name c.args.fired)) c.args.course.now.told;
      transit = ts;
    }) (none ∙ sym c.requires.still))

pub returns-else-is_maker : goal.returns-else-is_maker
returns-else-is_maker g c =
    let s = run_setting g.F.Of.Run.graph g.F.Of.Run.stack in
    let v = c.args.node in
    let makes : is_maker s v ≡ false = sym c.is_maker.ensures ∙ c.if-is_maker.false in
    let none : drop 1 (job_arrays s v c.args.name) ≡ [] = rw makes refl in
    let out =
    emitted-put s v c.args.role c.args.name c.result_name-made.result c.args.fired c.args.course.now c.put_plain.new.self c.emit.new.course c.requires.kind
    c.requires.unsorted c.result_name-made.ensures c.put_plain.ensures c.emit.ensures in
    out
    ∙ ap (λ (ts : List FrameName). record c.args.course.now {
      told = moved s (plain (put_of s c.args.role v c.args.name c.args.fired)) c.args.course.now.told;
      transit = ts;
    }) (none ∙ sym c.requires.still)
