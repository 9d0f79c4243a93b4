use Rattle.std.proofs.Common.{◌≡◌, ◌∙◌, ◌-◌, ◌∷◌, true, ap, sym, refl, subst}
use Rattle.nd_base.specs.declared.frame.FrameName.{FrameName}
use Rattle.board_rules.specs.InHand.{is_job_on}
use Rattle.flow_journal.specs.ResultNames.{result_name}
use Rattle.board_rules.specs.RunMeasures.{run_setting, run_measure}
use Rattle.board_rules.specs.States.{BoardState, past, plain}
use Rattle.board_rules.specs.Moving.{moved}
use Rattle.told_log.specs.ToldLogs.{ToldState}
use Rattle.run_course.specs.Puts.{put_of}
use Rattle.flow_journal.specs.declared.entry.Entry.TheVariants.{Put}
use Rattle.flow_journal.specs.Hands.{hand}
use Rattle.flow_journal.specs.Histories.{is_legal, is_history}
use Rattle.run_course.specs.Courses.{Coursed, log_of}
use Rattle.run_course.proofs.Coursing.{room-for}
use Rattle.run_course.proofs.Finding.{node-found, role-found}
use Rattle.run_course.proofs.Handed.{job-on, taken-as}
use Rattle.run_course.proofs.Opening.{parts}
use Rattle.run_course.proofs.Putting.{put_file_at, some-job, few-puts, unsaved-short, file-passes}
use Rattle.run_course.proofs.PutMoves.{put-legal, moved-file}
use Rattle.run_course.proofs.Reading.{place-of}
use Rattle.run_course.proofs.course.Course.put_to_save.Goals as goal

pub keep_unsaved-requires-clause-some : goal.keep_unsaved-requires-clause-some
keep_unsaved-requires-clause-some g c =
    let s = run_setting g.F.Of.Run.graph g.F.Of.Run.stack in
    let m = run_measure g.F.Of.Run.graph g.F.Of.Run.stack in
    let k = parts c.self.inside in
    let n = c.index_mut.result.now in
    some-job m s k c.args.node c.args.role c.args.name n c.self.invariant c.requires.node
    (node-found m s k c.args.node n c.self.invariant c.requires.node c.index_mut.ensures.value)
    (subst (λ (w : Coursed). is_job_on c.args.node c.args.name (hand c.args.role (past w.told)) ≡ true) (sym c.self.view_is) c.requires.hand)

pub keep_unsaved-requires-clause-few : goal.keep_unsaved-requires-clause-few
keep_unsaved-requires-clause-few g c =
    let s = run_setting g.F.Of.Run.graph g.F.Of.Run.stack in
    let m = run_measure g.F.Of.Run.graph g.F.Of.Run.stack in
    let k = parts c.self.inside in
    let n = c.index_mut.result.now in
    few-puts m s k c.args.node n c.self.invariant c.requires.node (node-found m s k c.args.node n c.self.invariant c.requires.node c.index_mut.ensures.value)

pub keep_unsaved-requires-clause-room : goal.keep_unsaved-requires-clause-room
keep_unsaved-requires-clause-room g c =
    let s = run_setting g.F.Of.Run.graph g.F.Of.Run.stack in
    let m = run_measure g.F.Of.Run.graph g.F.Of.Run.stack in
    let k = parts c.self.inside in
    let i = c.self.invariant in
    let v = c.args.node in
    let r = c.args.role in
    let a = c.args.name in
    let n = c.index_mut.result.now in
    let job = job-on s v r a (log_of k) i.legal (subst (λ (w : Coursed). is_job_on v a (hand r (past w.told)) ≡ true) (sym c.self.view_is) c.requires.hand) in
    unsaved-short m s k v r (result_name s v a).maker a.index c.args.fired n i c.requires.node
    (node-found m s k v n i c.requires.node c.index_mut.ensures.value) c.requires.kind
    (put-legal s v r a c.args.fired k.log.told
    (subst (λ (w : Coursed). is_history s (past w.told) ≡ true) (sym c.self.view_is) c.requires.history) job c.requires.fired)

pub push-requires-clause-room : goal.push-requires-clause-room
push-requires-clause-room g c =
    let s = run_setting g.F.Of.Run.graph g.F.Of.Run.stack in
    let k = parts c.self.inside in
    let i = c.self.invariant in
    let v = c.args.node in
    let r = c.args.role in
    let a = c.args.name in
    let job = job-on s v r a (log_of k) i.legal (subst (λ (w : Coursed). is_job_on v a (hand r (past w.told)) ≡ true) (sym c.self.view_is) c.requires.hand) in
    room-for (run_measure g.F.Of.Run.graph g.F.Of.Run.stack) s k (Put r v (result_name s v a).maker a.index c.args.fired) i
    (put-legal s v r a c.args.fired k.log.told
    (subst (λ (w : Coursed). is_history s (past w.told) ≡ true) (sym c.self.view_is) c.requires.history) job c.requires.fired)

pub invariant_of-self : goal.invariant_of-self
invariant_of-self g c =
    let s = run_setting g.F.Of.Run.graph g.F.Of.Run.stack in
    let m = run_measure g.F.Of.Run.graph g.F.Of.Run.stack in
    let k = parts c.self.inside in
    let i = c.self.invariant in
    let v = c.args.node in
    let r = c.args.role in
    let a = c.args.name in
    let f = c.args.fired in
    let n = c.index_mut.result.now in
    let x = c.index_mut-2.result.now in
    let at = node-found m s k v n i c.requires.node c.index_mut.ensures.value in
    let here = role-found m s k r x i c.requires.role c.index_mut-2.ensures.value in
    let job = job-on s v r a (log_of k) i.legal (subst (λ (w : Coursed). is_job_on v a (hand r (past w.told)) ≡ true) (sym c.self.view_is) c.requires.hand) in
    let passes = file-passes s v c.requires.kind in
    let name : result_name s v a ≡ a = rw passes refl in
    let legal : is_legal s (Put r v a.maker a.index f ∷ log_of k) ≡ true =
    subst (λ (b : FrameName). is_legal s (Put r v b.maker a.index f ∷ log_of k) ≡ true) name (put-legal s v r a f k.log.told
    (subst (λ (w : Coursed). is_history s (past w.told) ≡ true) (sym c.self.view_is) c.requires.history) job c.requires.fired) in
    let taken = taken-as s v r a (log_of k) job passes in
    let done =
    put_file_at m s k v r (v - 1) a.maker a.index f taken.0 x n c.keep_unsaved.new.node (place-of s v c.requires.node).0 i legal here at (ap
    (λ (w : Coursed). w.transit) c.self.view_is ∙ c.requires.still) taken.1 c.requires.kind c.keep_unsaved.ensures.items c.keep_unsaved.ensures.room in
    rw (c.push.ensures, c.keep_unsaved.ensures.node, c.let_go.ensures) done

pub returns : goal.returns
returns g c =
    let s = run_setting g.F.Of.Run.graph g.F.Of.Run.stack in
    let k = parts c.self.inside in
    let v = c.args.node in
    let r = c.args.role in
    let a = c.args.name in
    let f = c.args.fired in
    let seen : BoardState → Coursed = λ b. record { told = b; transit = k.transit } in
    ap (λ (l : ToldState). seen l.told) c.push.ensures
    ∙ (ap seen (moved-file s r v a f k.log.told c.requires.kind (file-passes s v c.requires.kind))
    ∙ ap (λ (w : Coursed). record w { told = moved s (plain (put_of s r v a f)) w.told }) c.self.view_is)
