use Rattle.std.proofs.Common.{◌≡◌, ◌∷◌, ◌++◌, ◌∙◌, ◌-◌, true, ap, sym, subst, refl, List, [], get_or, set}
use Rattle.nd_base.specs.declared.frame.FrameName.{FrameName}
use Rattle.flow_journal.specs.Setting.{node}
use Rattle.flow_journal.specs.Following.{emit, look}
use Rattle.flow_journal.specs.Histories.{is_legal}
use Rattle.board_rules.specs.RunMeasures.{run_setting, run_measure}
use Rattle.board_rules.specs.States.{past, plain}
use Rattle.board_rules.specs.Moving.{with_all}
use Rattle.told_log.specs.ToldLogs.{ToldState}
use Rattle.course_parts.specs.declared.rules.NodeRules.{NodeRules}
use Rattle.run_course.specs.Courses.{Coursed, IsCourse, log_of}
use Rattle.run_course.specs.Leaving.{LeavesList}
use Rattle.run_course.proofs.Opening.{parts}
use Rattle.run_course.proofs.Coursing.{room-for}
use Rattle.run_course.proofs.Finding.{course-as, coursed-as}
use Rattle.run_course.proofs.Looking.{due-looks, stays-looks, list-ticks}
use Rattle.run_course.proofs.Leaving.{GoesOut, node-read, time-read, sort_time-read, room-left, due-out}
use Rattle.run_course.proofs.course.Course.leave_due.Goals as goal

pub let_out-requires-clause-ticks : goal.let_out-requires-clause-ticks
let_out-requires-clause-ticks g c =
    let s = run_setting g.F.Of.Run.graph g.F.Of.Run.stack in
    let m = run_measure g.F.Of.Run.graph g.F.Of.Run.stack in
    let k = parts c.self.inside in
    let n = c.index_mut.result.now in
    let read = node-read m s k c.args.node n c.self.invariant c.requires.node c.index_mut.ensures.value in
    list-ticks m s c.args.node (log_of k) n k.facts.tick read.here (time-read m s k c.self.invariant)

pub let_out-requires-clause-room : goal.let_out-requires-clause-room
let_out-requires-clause-room g c =
    let s = run_setting g.F.Of.Run.graph g.F.Of.Run.stack in
    let m = run_measure g.F.Of.Run.graph g.F.Of.Run.stack in
    let k = parts c.self.inside in
    let i : IsCourse m s k = c.self.invariant in
    let v = c.args.node in
    let n = c.index_mut.result.now in
    let r = c.index-as_slice-place.result in
    let read = node-read m s k v n i c.requires.node c.index_mut.ensures.value in
    let wait : c.from-sort_time.result ≡ (node s v).sort_time =
    c.from-sort_time.ensures
    ∙ (ap (λ (x : NodeRules). x.sort_time) (sym c.index-as_slice-place.is)
    ∙ sort_time-read m s k v r i c.requires.node (c.index-as_slice-place.is ∙ ap (λ (ns : List NodeRules). get_or ns (v - 1) r) c.as_slice.ensures)) in
    let legal : is_legal s (past (with_all s 0 2 (look s v (log_of k)) k.log.told)) ≡ true =
    subst (λ (w : Coursed). is_legal s (past (with_all s 0 2 (look s v (past w.told)) w.told)) ≡ true) (sym c.self.view_is) c.requires.legal in
    λ w ws x why is due some.
    room-left m s k v n w ws why x (look s v) i c.requires.node read is
    (due-looks m s v (log_of k) n k.facts.tick c.from-sort_time.result w ws why read.here c.requires.sorted (time-read m s k i) wait is due) legal some

pub returns-in_default-clause-none : goal.returns-in_default-clause-none
returns-in_default-clause-none g c =
    let s = run_setting g.F.Of.Run.graph g.F.Of.Run.stack in
    let m = run_measure g.F.Of.Run.graph g.F.Of.Run.stack in
    let k = parts c.self.inside in
    let i : IsCourse m s k = c.self.invariant in
    let v = c.args.node in
    let n = c.index_mut.result.now in
    let r = c.index-as_slice-place.result in
    let read = node-read m s k v n i c.requires.node c.index_mut.ensures.value in
    let wait : c.from-sort_time.result ≡ (node s v).sort_time =
    c.from-sort_time.ensures
    ∙ (ap (λ (x : NodeRules). x.sort_time) (sym c.index-as_slice-place.is)
    ∙ sort_time-read m s k v r i c.requires.node (c.index-as_slice-place.is ∙ ap (λ (ns : List NodeRules). get_or ns (v - 1) r) c.as_slice.ensures)) in
    λ e. (
      ap (λ (w : Coursed). look s v (past w.told)) (sym c.self.view_is)
          ∙ stays-looks m s v (log_of k) n k.facts.tick c.from-sort_time.result read.here c.requires.sorted (time-read m s k i) wait
          (c.let_out.ensures.none c.in_default.is).0,
      c.self.view_is,
    )

pub push-requires-clause-room : goal.push-requires-clause-room
push-requires-clause-room g c =
    let s = run_setting g.F.Of.Run.graph g.F.Of.Run.stack in
    let m = run_measure g.F.Of.Run.graph g.F.Of.Run.stack in
    let k = parts c.self.inside in
    let i : IsCourse m s k = c.self.invariant in
    let v = c.args.node in
    let n = c.index_mut.result.now in
    let y = c.let_out.new.node in
    let name = c.in-Some.name in
    let why = c.in-Some.why in
    let r = c.index-as_slice-place.result in
    let read = node-read m s k v n i c.requires.node c.index_mut.ensures.value in
    let wait : c.from-sort_time.result ≡ (node s v).sort_time =
    c.from-sort_time.ensures
    ∙ (ap (λ (x : NodeRules). x.sort_time) (sym c.index-as_slice-place.is)
    ∙ sort_time-read m s k v r i c.requires.node (c.index-as_slice-place.is ∙ ap (λ (ns : List NodeRules). get_or ns (v - 1) r) c.as_slice.ensures)) in
    let legal : is_legal s (past (with_all s 0 2 (look s v (log_of k)) k.log.told)) ≡ true =
    subst (λ (w : Coursed). is_legal s (past (with_all s 0 2 (look s v (past w.told)) w.told)) ≡ true) (sym c.self.view_is) c.requires.legal in
    let still : k.transit ≡ [] = ap (λ (w : Coursed). w.transit) c.self.view_is ∙ c.requires.still in
    let out = c.let_out.ensures.some name why c.in-Some.is in
    let goes : GoesOut m s k v (look s v) why name n y =
    due-out m s k v k.facts.tick c.from-sort_time.result n y name why i c.requires.node c.requires.sorted read (time-read m s k i) wait still legal out in
    room-for m s k (emit v why name) i goes.legal

pub invariant_of-self-2 : goal.invariant_of-self-2
invariant_of-self-2 g c =
    let s = run_setting g.F.Of.Run.graph g.F.Of.Run.stack in
    let m = run_measure g.F.Of.Run.graph g.F.Of.Run.stack in
    let k = parts c.self.inside in
    let i : IsCourse m s k = c.self.invariant in
    let v = c.args.node in
    let n = c.index_mut.result.now in
    let y = c.let_out.new.node in
    let name = c.in-Some.name in
    let why = c.in-Some.why in
    let r = c.index-as_slice-place.result in
    let read = node-read m s k v n i c.requires.node c.index_mut.ensures.value in
    let wait : c.from-sort_time.result ≡ (node s v).sort_time =
    c.from-sort_time.ensures
    ∙ (ap (λ (x : NodeRules). x.sort_time) (sym c.index-as_slice-place.is)
    ∙ sort_time-read m s k v r i c.requires.node (c.index-as_slice-place.is ∙ ap (λ (ns : List NodeRules). get_or ns (v - 1) r) c.as_slice.ensures)) in
    let legal : is_legal s (past (with_all s 0 2 (look s v (log_of k)) k.log.told)) ≡ true =
    subst (λ (w : Coursed). is_legal s (past (with_all s 0 2 (look s v (past w.told)) w.told)) ≡ true) (sym c.self.view_is) c.requires.legal in
    let still : k.transit ≡ [] = ap (λ (w : Coursed). w.transit) c.self.view_is ∙ c.requires.still in
    let out = c.let_out.ensures.some name why c.in-Some.is in
    let goes : GoesOut m s k v (look s v) why name n y =
    due-out m s k v k.facts.tick c.from-sort_time.result n y name why i c.requires.node c.requires.sorted read (time-read m s k i) wait still legal out in
    course-as m s (record k {
      log = record k.log { told = plain (emit v why name) ∷ k.log.told };
      nodes = set k.nodes (v - 1) (record n { list = y.list; measures = y.measures });
      transit = name ∷ [];
    })
    _ _ _ _ _ _ _ _ (sym c.push.ensures) (ap (set k.nodes (v - 1)) (sym out.changed)) refl refl refl refl
    (sym (c.push_back_reserved.ensures.items ∙ ap (λ (ts : List FrameName). ts ++ name ∷ []) still)) (sym c.push_back_reserved.ensures.capacity) goes.course

pub returns-clause-some : goal.returns-clause-some
returns-clause-some g c =
    let s = run_setting g.F.Of.Run.graph g.F.Of.Run.stack in
    let m = run_measure g.F.Of.Run.graph g.F.Of.Run.stack in
    let k = parts c.self.inside in
    let i : IsCourse m s k = c.self.invariant in
    let v = c.args.node in
    let n = c.index_mut.result.now in
    let y = c.let_out.new.node in
    let name = c.in-Some.name in
    let why = c.in-Some.why in
    let r = c.index-as_slice-place.result in
    let read = node-read m s k v n i c.requires.node c.index_mut.ensures.value in
    let wait : c.from-sort_time.result ≡ (node s v).sort_time =
    c.from-sort_time.ensures
    ∙ (ap (λ (x : NodeRules). x.sort_time) (sym c.index-as_slice-place.is)
    ∙ sort_time-read m s k v r i c.requires.node (c.index-as_slice-place.is ∙ ap (λ (ns : List NodeRules). get_or ns (v - 1) r) c.as_slice.ensures)) in
    let legal : is_legal s (past (with_all s 0 2 (look s v (log_of k)) k.log.told)) ≡ true =
    subst (λ (w : Coursed). is_legal s (past (with_all s 0 2 (look s v (past w.told)) w.told)) ≡ true) (sym c.self.view_is) c.requires.legal in
    let still : k.transit ≡ [] = ap (λ (w : Coursed). w.transit) c.self.view_is ∙ c.requires.still in
    let out = c.let_out.ensures.some name why c.in-Some.is in
    let goes : GoesOut m s k v (look s v) why name n y =
    due-out m s k v k.facts.tick c.from-sort_time.result n y name why i c.requires.node c.requires.sorted read (time-read m s k i) wait still legal out in
    let told : c.push.new.self.told ≡ plain (emit v why name) ∷ k.log.told = ap (λ (l : ToldState). l.told) c.push.ensures in
    let moves : c.push_back_reserved.new.self.items ≡ name ∷ [] = c.push_back_reserved.ensures.items ∙ ap (λ (ts : List FrameName). ts ++ name ∷ []) still in
    let new : Coursed = record { told = c.push.new.self.told; transit = c.push_back_reserved.new.self.items } in
    λ a is.
    let same : name ≡ a = cc in
    subst (λ (x : FrameName). LeavesList s v (look s v) x c.args.self.now new) same
    (subst (LeavesList s v (look s v) name c.args.self.now) (coursed-as (sym told) (sym moves))
    (subst (λ (w : Coursed). LeavesList s v (look s v) name w (record { told = plain (emit v why name) ∷ k.log.told; transit = name ∷ [] })) c.self.view_is
    goes.leaves))
