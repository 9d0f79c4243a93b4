use Rattle.std.proofs.Common.{◌≡◌, ◌∙◌, ◌-◌, ◌∷◌, true, ap, sym, refl, subst, length, arith}
use Rattle.nd_base.specs.declared.frame.FrameName.{FrameName}
use Rattle.trig_window.specs.Watching.{StandsAt}
use Rattle.board_rules.specs.InHand.{is_job_on}
use Rattle.flow_journal.specs.ResultNames.{result_name}
use Rattle.board_rules.specs.RunMeasures.{run_setting, run_measure}
use Rattle.board_rules.specs.States.{past, plain}
use Rattle.told_log.specs.ToldLogs.{ToldState}
use Rattle.flow_journal.specs.declared.entry.Entry.TheVariants.{Put}
use Rattle.flow_journal.specs.Following.{calls_for}
use Rattle.flow_journal.specs.Hands.{hand}
use Rattle.flow_journal.specs.Histories.{is_history}
use Rattle.flow_journal.specs.Puts.{puts, firings}
use Rattle.flow_journal.proofs.Settled.{put-unsettled}
use Rattle.run_course.specs.Courses.{Coursed, log_of}
use Rattle.run_course.specs.Puts.{put_of}
use Rattle.course_parts.specs.Windows.{IsWatched}
use Rattle.run_course.specs.Watched.{IsOnItsWay}
use Rattle.course_parts.specs.declared.node.NodeState.{NodeState}
use Rattle.run_course.proofs.Coursing.{room-for}
use Rattle.run_course.proofs.Finding.{node-found, role-found, node-is}
use Rattle.run_course.proofs.Handed.{job-on}
use Rattle.run_course.proofs.Opening.{parts}
use Rattle.run_course.proofs.Putting.{some-job, few-puts}
use Rattle.run_course.proofs.PutMoves.{put-first, put-legal}
use Rattle.run_course.proofs.PutWatched.{put_in_ring_at, calls-on-way}
use Rattle.run_course.proofs.RingWindows.{window-at, watch-passes}
use Rattle.run_course.proofs.Reading.{place-of}
use Rattle.run_course.proofs.course.Course.put_in_ring.Goals as goal

pub count_put-requires-clause-some : goal.count_put-requires-clause-some
count_put-requires-clause-some g c =
    let s = run_setting g.F.Of.Run.graph g.F.Of.Run.stack in
    let m = run_measure g.F.Of.Run.graph g.F.Of.Run.stack in
    let k = parts c.self.inside in
    let n = c.index_mut-state.result.now in
    some-job m s k c.args.node c.args.role c.args.name n c.self.invariant c.requires.node
    (node-found m s k c.args.node n c.self.invariant c.requires.node c.index_mut-state.ensures.value)
    (subst (λ (w : Coursed). is_job_on c.args.node c.args.name (hand c.args.role (past w.told)) ≡ true) (sym c.self.view_is) c.requires.hand)

pub count_put-requires-clause-few : goal.count_put-requires-clause-few
count_put-requires-clause-few g c =
    let s = run_setting g.F.Of.Run.graph g.F.Of.Run.stack in
    let m = run_measure g.F.Of.Run.graph g.F.Of.Run.stack in
    let k = parts c.self.inside in
    let n = c.index_mut-state.result.now in
    few-puts m s k c.args.node n c.self.invariant c.requires.node
    (node-found m s k c.args.node n c.self.invariant c.requires.node c.index_mut-state.ensures.value)

pub watch-watched-requires-clause-stands : goal.watch-watched-requires-clause-stands
watch-watched-requires-clause-stands g c =
    let s = run_setting g.F.Of.Run.graph g.F.Of.Run.stack in
    let m = run_measure g.F.Of.Run.graph g.F.Of.Run.stack in
    let k = parts c.self.inside in
    let i = c.self.invariant in
    let v = c.args.node in
    let r = c.args.role in
    let a = c.args.name in
    let f = c.args.fired in
    let n = c.index_mut-state.result.now in
    let at = node-found m s k v n i c.requires.node c.index_mut-state.ensures.value in
    let on = subst (λ (w : Coursed). is_job_on v a (hand r (past w.told)) ≡ true) (sym c.self.view_is) c.requires.hand in
    let history : is_history s (log_of k) ≡ true = subst (λ (w : Coursed). is_history s (past w.told) ≡ true) (sym c.self.view_is) c.requires.history in
    let job = job-on s v r a (log_of k) i.legal on in
    let running = put-unsettled s r v (result_name s v a).maker a.index f (log_of k) i.legal (put-first s v r a f (log_of k) job c.requires.fired) in
    let window = window-at m s k v n i (node-is m s k v n i c.requires.node at) c.requires.kind running in
    let stands : StandsAt c.count_put.new.node.window (firings v (log_of k)) (puts v (log_of k)) =
    subst (λ (y : NodeState). StandsAt y.window (firings v (log_of k)) (puts v (log_of k))) (sym c.count_put.ensures) window.stands in
    (firings v (log_of k), puts v (log_of k), stands)

pub watch-watched-requires-clause-room : goal.watch-watched-requires-clause-room
watch-watched-requires-clause-room g c =
    let s = run_setting g.F.Of.Run.graph g.F.Of.Run.stack in
    let m = run_measure g.F.Of.Run.graph g.F.Of.Run.stack in
    let k = parts c.self.inside in
    let i = c.self.invariant in
    let v = c.args.node in
    let r = c.args.role in
    let a = c.args.name in
    let f = c.args.fired in
    let n = c.index_mut-state.result.now in
    let at = node-found m s k v n i c.requires.node c.index_mut-state.ensures.value in
    let on = subst (λ (w : Coursed). is_job_on v a (hand r (past w.told)) ≡ true) (sym c.self.view_is) c.requires.hand in
    let history : is_history s (log_of k) ≡ true = subst (λ (w : Coursed). is_history s (past w.told) ≡ true) (sym c.self.view_is) c.requires.history in
    let job = job-on s v r a (log_of k) i.legal on in
    let running = put-unsettled s r v (result_name s v a).maker a.index f (log_of k) i.legal (put-first s v r a f (log_of k) job c.requires.fired) in
    let window = window-at m s k v n i (node-is m s k v n i c.requires.node at) c.requires.kind running in
    let stands : StandsAt c.count_put.new.node.window (firings v (log_of k)) (puts v (log_of k)) =
    subst (λ (y : NodeState). StandsAt y.window (firings v (log_of k)) (puts v (log_of k))) (sym c.count_put.ensures) window.stands in
    omega (arith, ap (λ (y : NodeState). length y.window.ring) c.count_put.ensures, window.few, i.transit_room)

pub push-requires-clause-room : goal.push-requires-clause-room
push-requires-clause-room g c =
    let s = run_setting g.F.Of.Run.graph g.F.Of.Run.stack in
    let m = run_measure g.F.Of.Run.graph g.F.Of.Run.stack in
    let k = parts c.self.inside in
    let i = c.self.invariant in
    let v = c.args.node in
    let r = c.args.role in
    let a = c.args.name in
    let f = c.args.fired in
    let n = c.index_mut-state.result.now in
    let at = node-found m s k v n i c.requires.node c.index_mut-state.ensures.value in
    let on = subst (λ (w : Coursed). is_job_on v a (hand r (past w.told)) ≡ true) (sym c.self.view_is) c.requires.hand in
    let history : is_history s (log_of k) ≡ true = subst (λ (w : Coursed). is_history s (past w.told) ≡ true) (sym c.self.view_is) c.requires.history in
    let job = job-on s v r a (log_of k) i.legal on in
    room-for m s k (put_of s r v a f) i (put-legal s v r a f k.log.told history job c.requires.fired)

pub invariant_of-self : goal.invariant_of-self
invariant_of-self g c =
    let s = run_setting g.F.Of.Run.graph g.F.Of.Run.stack in
    let m = run_measure g.F.Of.Run.graph g.F.Of.Run.stack in
    let k = parts c.self.inside in
    let i = c.self.invariant in
    let v = c.args.node in
    let r = c.args.role in
    let a = c.args.name in
    let f = c.args.fired in
    let n = c.index_mut-state.result.now in
    let at = node-found m s k v n i c.requires.node c.index_mut-state.ensures.value in
    let on = subst (λ (w : Coursed). is_job_on v a (hand r (past w.told)) ≡ true) (sym c.self.view_is) c.requires.hand in
    let history : is_history s (log_of k) ≡ true = subst (λ (w : Coursed). is_history s (past w.told) ≡ true) (sym c.self.view_is) c.requires.history in
    let job = job-on s v r a (log_of k) i.legal on in
    let running = put-unsettled s r v (result_name s v a).maker a.index f (log_of k) i.legal (put-first s v r a f (log_of k) job c.requires.fired) in
    let window = window-at m s k v n i (node-is m s k v n i c.requires.node at) c.requires.kind running in
    let stands : StandsAt c.count_put.new.node.window (firings v (log_of k)) (puts v (log_of k)) =
    subst (λ (y : NodeState). StandsAt y.window (firings v (log_of k)) (puts v (log_of k))) (sym c.count_put.ensures) window.stands in
    let out = c.watch-watched.new.transit.items in
    let q = c.watch-watched.result in
    let new = c.watch-watched.new.window in
    let watched : IsWatched (firings v (log_of k)) (puts v (log_of k)) f a n.window new out q =
    subst (λ (y : NodeState). IsWatched (firings v (log_of k)) (puts v (log_of k)) f a y.window new out q) c.count_put.ensures
    (c.watch-watched.ensures.watched (firings v (log_of k)) (puts v (log_of k)) stands) in
    let name : result_name s v a ≡ a = rw (watch-passes s v c.requires.kind) refl in
    let x = c.index_mut.result.now in
    let y : NodeState = record n { window = new } in
    let done = put_in_ring_at m s k v (v - 1) r a f x n y out q (place-of s v c.requires.node).0 i (record {
      here = at;
      role = role-found m s k r x i c.requires.role c.index_mut.ensures.value;
      legal = put-legal s v r a f k.log.told history job c.requires.fired;
      empty = ap (λ (w : Coursed). w.transit) c.self.view_is ∙ c.requires.still;
      job = job;
      kind = c.requires.kind;
      running = running;
      watched = watched;
    }) in
    rw (c.push.ensures, c.count_put.ensures, c.let_go.ensures, c.watch-watched.ensures.room) done

pub returns : goal.returns
returns g c =
    let s = run_setting g.F.Of.Run.graph g.F.Of.Run.stack in
    let m = run_measure g.F.Of.Run.graph g.F.Of.Run.stack in
    let k = parts c.self.inside in
    let i = c.self.invariant in
    let v = c.args.node in
    let r = c.args.role in
    let a = c.args.name in
    let f = c.args.fired in
    let n = c.index_mut-state.result.now in
    let at = node-found m s k v n i c.requires.node c.index_mut-state.ensures.value in
    let on = subst (λ (w : Coursed). is_job_on v a (hand r (past w.told)) ≡ true) (sym c.self.view_is) c.requires.hand in
    let history : is_history s (log_of k) ≡ true = subst (λ (w : Coursed). is_history s (past w.told) ≡ true) (sym c.self.view_is) c.requires.history in
    let job = job-on s v r a (log_of k) i.legal on in
    let running = put-unsettled s r v (result_name s v a).maker a.index f (log_of k) i.legal (put-first s v r a f (log_of k) job c.requires.fired) in
    let window = window-at m s k v n i (node-is m s k v n i c.requires.node at) c.requires.kind running in
    let stands : StandsAt c.count_put.new.node.window (firings v (log_of k)) (puts v (log_of k)) =
    subst (λ (y : NodeState). StandsAt y.window (firings v (log_of k)) (puts v (log_of k))) (sym c.count_put.ensures) window.stands in
    let out = c.watch-watched.new.transit.items in
    let q = c.watch-watched.result in
    let new = c.watch-watched.new.window in
    let watched : IsWatched (firings v (log_of k)) (puts v (log_of k)) f a n.window new out q =
    subst (λ (y : NodeState). IsWatched (firings v (log_of k)) (puts v (log_of k)) f a y.window new out q) c.count_put.ensures
    (c.watch-watched.ensures.watched (firings v (log_of k)) (puts v (log_of k)) stands) in
    let name : result_name s v a ≡ a = rw (watch-passes s v c.requires.kind) refl in (
      ap (λ (l : ToldState). l.told) c.push.ensures
          ∙ (ap (λ (b : FrameName). plain (Put r v b.maker a.index f) ∷ k.log.told) (sym name)
          ∙ ap (λ (w : Coursed). plain (put_of s r v a f) ∷ w.told) c.self.view_is),
      subst (λ (w : Coursed). IsOnItsWay v (calls_for s (past w.told) (put_of s r v a f)) out q) c.self.view_is
          (calls-on-way s v r a f (log_of k) n.window new out q c.requires.kind window watched),
    )
