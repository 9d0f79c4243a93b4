use Rattle.std.proofs.Common.{◌≡◌, ◌∙◌, ◌∷◌, ◌<◌, true, false, ap, sym, refl, subst, ℤ, length, arith, w64, to_z, of_z}
use Rattle.std.proofs.lemmas.Int.{to_z-of_z}
use Rattle.nd_base.specs.declared.frame.FrameName.{FrameName}
use Rattle.board_rules.specs.InHand.{is_job_on}
use Rattle.flow_journal.specs.ResultNames.{result_name}
use Rattle.board_rules.specs.RunMeasures.{run_setting, run_measure}
use Rattle.board_rules.specs.States.{past, plain}
use Rattle.flow_journal.specs.declared.entry.Entry.TheVariants.{Emit, SortDrop}
use Rattle.flow_journal.specs.declared.entry.Why.TheVariants.{Step}
use Rattle.flow_journal.specs.Setting.{id_at, node}
use Rattle.flow_journal.specs.Notes.{drops}
use Rattle.flow_journal.specs.Waiting.{waiting}
use Rattle.flow_journal.specs.Breaks.{prev}
use Rattle.flow_journal.specs.Hands.{hand}
use Rattle.flow_journal.specs.Histories.{is_history}
use Rattle.queue_sort.specs.Sorting.{keeps_step}
use Rattle.run_course.specs.Courses.{Coursed, log_of}
use Rattle.course_parts.specs.SortLists.{IsListed}
use Rattle.run_course.specs.Puts.{put_of, inputs, job_arrays}
use Rattle.course_parts.specs.declared.results.Placement.{Placement}
use Rattle.course_parts.specs.declared.results.Placement.TheVariants.{Out, Waits, Full}
use Rattle.course_parts.specs.declared.facts.Facts.{Facts}
use Rattle.course_parts.specs.declared.node.Kept.{Kept}
use Rattle.run_course.proofs.Coursing.{room-for, few-there}
use Rattle.run_course.proofs.Finding.{node-found, role-found, node-is}
use Rattle.run_course.proofs.Handed.{job-on}
use Rattle.run_course.proofs.Opening.{parts}
use Rattle.run_course.proofs.PlacedCourse.{Putting, kept_of, out-course, waits-course, full-course, measures-room, room-for-two, out-legal, full-legal}
use Rattle.run_course.proofs.PlacedCourse.{step-known, waits-known}
use Rattle.run_course.proofs.Putting.{some-job, few-puts}
use Rattle.run_course.proofs.PutMoves.{put-legal, result-measures}
use Rattle.run_course.proofs.course.Course.put_placed.Goals as goal

pub place-placement-requires-clause-some : goal.place-placement-requires-clause-some
place-placement-requires-clause-some g c =
    let s = run_setting g.F.Of.Run.graph g.F.Of.Run.stack in
    let m = run_measure g.F.Of.Run.graph g.F.Of.Run.stack in
    let k = parts c.self.inside in
    let i = c.self.invariant in
    let v = c.args.node in
    let r = c.args.role in
    let a = c.args.name in
    let f = c.args.fired in
    let n = c.index_mut.result.now in
    let at = node-found m s k v n i c.requires.node c.index_mut.ensures.value in
    let on = subst (λ (w : Coursed). is_job_on v a (hand r (past w.told)) ≡ true) (sym c.self.view_is) c.requires.hand in
    let history : is_history s (log_of k) ≡ true = subst (λ (w : Coursed). is_history s (past w.told) ≡ true) (sym c.self.view_is) c.requires.history in
    let job = job-on s v r a (log_of k) i.legal on in
    some-job m s k v r a n i c.requires.node at on

pub place-placement-requires-clause-few : goal.place-placement-requires-clause-few
place-placement-requires-clause-few g c =
    let s = run_setting g.F.Of.Run.graph g.F.Of.Run.stack in
    let m = run_measure g.F.Of.Run.graph g.F.Of.Run.stack in
    let k = parts c.self.inside in
    let i = c.self.invariant in
    let v = c.args.node in
    let r = c.args.role in
    let a = c.args.name in
    let f = c.args.fired in
    let n = c.index_mut.result.now in
    let at = node-found m s k v n i c.requires.node c.index_mut.ensures.value in
    few-puts m s k v n i c.requires.node at

pub place-placement-requires-clause-room : goal.place-placement-requires-clause-room
place-placement-requires-clause-room g c =
    let s = run_setting g.F.Of.Run.graph g.F.Of.Run.stack in
    let m = run_measure g.F.Of.Run.graph g.F.Of.Run.stack in
    let k = parts c.self.inside in
    let i = c.self.invariant in
    let v = c.args.node in
    let r = c.args.role in
    let a = c.args.name in
    let f = c.args.fired in
    let n = c.index_mut.result.now in
    let at = node-found m s k v n i c.requires.node c.index_mut.ensures.value in
    let on = subst (λ (w : Coursed). is_job_on v a (hand r (past w.told)) ≡ true) (sym c.self.view_is) c.requires.hand in
    let history : is_history s (log_of k) ≡ true = subst (λ (w : Coursed). is_history s (past w.told) ≡ true) (sym c.self.view_is) c.requires.history in
    let job = job-on s v r a (log_of k) i.legal on in
    let id : to_z w64 (of_z w64 c.id_at-id.result) ≡ id_at s a.index =
    to_z-of_z w64 c.id_at-id.result (record { sfits = c.id_at-id.type_inv }) ∙ c.id_at-id.ensures in
    λ w h some. measures-room m s k v r a f n _ w i history job c.requires.fired c.requires.sorted c.requires.node at id h
    (sym (c.requires.measured ∙ result-measures g.F.Of.Run.graph g.F.Of.Run.stack v a) ∙ some)

pub push-requires-clause-room : goal.push-requires-clause-room
push-requires-clause-room g c =
    let s = run_setting g.F.Of.Run.graph g.F.Of.Run.stack in
    let m = run_measure g.F.Of.Run.graph g.F.Of.Run.stack in
    let k = parts c.self.inside in
    let i = c.self.invariant in
    let v = c.args.node in
    let r = c.args.role in
    let a = c.args.name in
    let f = c.args.fired in
    let n = c.index_mut.result.now in
    let at = node-found m s k v n i c.requires.node c.index_mut.ensures.value in
    let on = subst (λ (w : Coursed). is_job_on v a (hand r (past w.told)) ≡ true) (sym c.self.view_is) c.requires.hand in
    let history : is_history s (log_of k) ≡ true = subst (λ (w : Coursed). is_history s (past w.told) ≡ true) (sym c.self.view_is) c.requires.history in
    let job = job-on s v r a (log_of k) i.legal on in
    room-for m s k (put_of s r v a f) i (put-legal s v r a f k.log.told history job c.requires.fired)

pub push-requires-in-Out-clause-room : goal.push-requires-in-Out-clause-room
push-requires-in-Out-clause-room g c =
    let s = run_setting g.F.Of.Run.graph g.F.Of.Run.stack in
    let m = run_measure g.F.Of.Run.graph g.F.Of.Run.stack in
    let k = parts c.self.inside in
    let i = c.self.invariant in
    let v = c.args.node in
    let r = c.args.role in
    let a = c.args.name in
    let f = c.args.fired in
    let n = c.index_mut.result.now in
    let at = node-found m s k v n i c.requires.node c.index_mut.ensures.value in
    let on = subst (λ (w : Coursed). is_job_on v a (hand r (past w.told)) ≡ true) (sym c.self.view_is) c.requires.hand in
    let history : is_history s (log_of k) ≡ true = subst (λ (w : Coursed). is_history s (past w.told) ≡ true) (sym c.self.view_is) c.requires.history in
    let job = job-on s v r a (log_of k) i.legal on in
    let id : to_z w64 (of_z w64 c.id_at-id.result) ≡ id_at s a.index =
    to_z-of_z w64 c.id_at-id.result (record { sfits = c.id_at-id.type_inv }) ∙ c.id_at-id.ensures in
    let y = c.place-placement.new.node in
    let tick = c.self.inside.facts.tick in
    let kept : (let q : Kept = record { name = c.result_name-made.result; measured = c.args.measured } in q) ≡ kept_of m s v a =
    ap (λ (b : FrameName). record { name = b; measured = c.args.measured }) c.result_name-made.ensures
    ∙ ap (λ o. record { name = result_name s v a; measured = o }) (c.requires.measured ∙ result-measures g.F.Of.Run.graph g.F.Of.Run.stack v a) in
    let l : IsListed (id_at s a.index) tick (kept_of m s v a) n y Out =
    subst (λ (q : Placement). IsListed (id_at s a.index) tick (kept_of m s v a) n y q) c.in-Out.is
    (subst (λ (b : Kept). IsListed (id_at s a.index) tick b n y c.place-placement.result) kept
    (subst (λ (j : ℤ). IsListed j tick (record { name = c.result_name-made.result; measured = c.args.measured }) n y c.place-placement.result) id
    c.place-placement.ensures)) in
    let was = node-is m s k v n i c.requires.node at in
    let step = step-known m s v (log_of k) n (id_at s a.index) (id_at s a.index) true was c.requires.sorted refl l.1 in
    rw c.push.ensures (room-for-two m s k (Emit v (result_name s v a).maker a.index Step) (put_of s r v a f) i
    (out-legal s v r a f (log_of k) history job c.requires.fired c.requires.sorted step))

pub invariant_of-self : goal.invariant_of-self
invariant_of-self g c =
    let s = run_setting g.F.Of.Run.graph g.F.Of.Run.stack in
    let m = run_measure g.F.Of.Run.graph g.F.Of.Run.stack in
    let k = parts c.self.inside in
    let i = c.self.invariant in
    let v = c.args.node in
    let r = c.args.role in
    let a = c.args.name in
    let f = c.args.fired in
    let n = c.index_mut.result.now in
    let at = node-found m s k v n i c.requires.node c.index_mut.ensures.value in
    let on = subst (λ (w : Coursed). is_job_on v a (hand r (past w.told)) ≡ true) (sym c.self.view_is) c.requires.hand in
    let history : is_history s (log_of k) ≡ true = subst (λ (w : Coursed). is_history s (past w.told) ≡ true) (sym c.self.view_is) c.requires.history in
    let job = job-on s v r a (log_of k) i.legal on in
    let id : to_z w64 (of_z w64 c.id_at-id.result) ≡ id_at s a.index =
    to_z-of_z w64 c.id_at-id.result (record { sfits = c.id_at-id.type_inv }) ∙ c.id_at-id.ensures in
    let x = c.index_mut-2.result.now in
    let empty = ap (λ (w : Coursed). w.transit) c.self.view_is ∙ c.requires.still in
    let p : Putting m s k v r a f x n =
    record {
      here = c.requires.node;
      role = role-found m s k r x i c.requires.role c.index_mut-2.ensures.value;
      at = at;
      empty = empty;
      history = history;
      job = job;
      fires = c.requires.fired;
      sorted = c.requires.sorted;
    } in
    let y = c.place-placement.new.node in
    let tick = c.self.inside.facts.tick in
    let kept : (let q : Kept = record { name = c.result_name-made.result; measured = c.args.measured } in q) ≡ kept_of m s v a =
    ap (λ (b : FrameName). record { name = b; measured = c.args.measured }) c.result_name-made.ensures
    ∙ ap (λ o. record { name = result_name s v a; measured = o }) (c.requires.measured ∙ result-measures g.F.Of.Run.graph g.F.Of.Run.stack v a) in
    let l : IsListed (id_at s a.index) tick (kept_of m s v a) n y Out =
    subst (λ (q : Placement). IsListed (id_at s a.index) tick (kept_of m s v a) n y q) c.in-Out.is
    (subst (λ (b : Kept). IsListed (id_at s a.index) tick b n y c.place-placement.result) kept
    (subst (λ (j : ℤ). IsListed j tick (record { name = c.result_name-made.result; measured = c.args.measured }) n y c.place-placement.result) id
    c.place-placement.ensures)) in
    rw (c.push-in-Out.ensures, c.push.ensures, c.let_go.ensures, c.carry.ensures.items, c.carry.ensures.room, c.result_name-made.ensures, c.is_maker-makes.ensures)
    (out-course m s k v r a f x n y (id_at s a.index) tick i p refl l)

pub invariant_of-self-in-Waits : goal.invariant_of-self-in-Waits
invariant_of-self-in-Waits g c =
    let s = run_setting g.F.Of.Run.graph g.F.Of.Run.stack in
    let m = run_measure g.F.Of.Run.graph g.F.Of.Run.stack in
    let k = parts c.self.inside in
    let i = c.self.invariant in
    let v = c.args.node in
    let r = c.args.role in
    let a = c.args.name in
    let f = c.args.fired in
    let n = c.index_mut.result.now in
    let at = node-found m s k v n i c.requires.node c.index_mut.ensures.value in
    let on = subst (λ (w : Coursed). is_job_on v a (hand r (past w.told)) ≡ true) (sym c.self.view_is) c.requires.hand in
    let history : is_history s (log_of k) ≡ true = subst (λ (w : Coursed). is_history s (past w.told) ≡ true) (sym c.self.view_is) c.requires.history in
    let job = job-on s v r a (log_of k) i.legal on in
    let id : to_z w64 (of_z w64 c.id_at-id.result) ≡ id_at s a.index =
    to_z-of_z w64 c.id_at-id.result (record { sfits = c.id_at-id.type_inv }) ∙ c.id_at-id.ensures in
    let x = c.index_mut-2.result.now in
    let empty = ap (λ (w : Coursed). w.transit) c.self.view_is ∙ c.requires.still in
    let p : Putting m s k v r a f x n =
    record {
      here = c.requires.node;
      role = role-found m s k r x i c.requires.role c.index_mut-2.ensures.value;
      at = at;
      empty = empty;
      history = history;
      job = job;
      fires = c.requires.fired;
      sorted = c.requires.sorted;
    } in
    let y = c.place-placement.new.node in
    let tick = c.self.inside.facts.tick in
    let kept : (let q : Kept = record { name = c.result_name-made.result; measured = c.args.measured } in q) ≡ kept_of m s v a =
    ap (λ (b : FrameName). record { name = b; measured = c.args.measured }) c.result_name-made.ensures
    ∙ ap (λ o. record { name = result_name s v a; measured = o }) (c.requires.measured ∙ result-measures g.F.Of.Run.graph g.F.Of.Run.stack v a) in
    let l : IsListed (id_at s a.index) tick (kept_of m s v a) n y Waits =
    subst (λ (q : Placement). IsListed (id_at s a.index) tick (kept_of m s v a) n y q) c.in-Waits.is
    (subst (λ (b : Kept). IsListed (id_at s a.index) tick b n y c.place-placement.result) kept
    (subst (λ (j : ℤ). IsListed j tick (record { name = c.result_name-made.result; measured = c.args.measured }) n y c.place-placement.result) id
    c.place-placement.ensures)) in
    rw (c.push.ensures, c.let_go.ensures, c.carry_input.ensures.items, c.carry_input.ensures.room, c.result_name-made.ensures, c.is_maker-makes.ensures)
    (waits-course m s k v r a f x n y (id_at s a.index) tick i p refl (ap (λ (q : Facts). q.tick) i.facts) l)

pub overflow_add-self : goal.overflow_add-self
overflow_add-self g c =
    let s = run_setting g.F.Of.Run.graph g.F.Of.Run.stack in
    let m = run_measure g.F.Of.Run.graph g.F.Of.Run.stack in
    let k = parts c.self.inside in
    omega (arith, ap (λ (q : Facts). q.dropped) c.self.invariant.facts, few-there m s k drops c.self.invariant)

pub push-requires-in-Full-clause-room : goal.push-requires-in-Full-clause-room
push-requires-in-Full-clause-room g c =
    let s = run_setting g.F.Of.Run.graph g.F.Of.Run.stack in
    let m = run_measure g.F.Of.Run.graph g.F.Of.Run.stack in
    let k = parts c.self.inside in
    let i = c.self.invariant in
    let v = c.args.node in
    let r = c.args.role in
    let a = c.args.name in
    let f = c.args.fired in
    let n = c.index_mut.result.now in
    let at = node-found m s k v n i c.requires.node c.index_mut.ensures.value in
    let on = subst (λ (w : Coursed). is_job_on v a (hand r (past w.told)) ≡ true) (sym c.self.view_is) c.requires.hand in
    let history : is_history s (log_of k) ≡ true = subst (λ (w : Coursed). is_history s (past w.told) ≡ true) (sym c.self.view_is) c.requires.history in
    let job = job-on s v r a (log_of k) i.legal on in
    let id : to_z w64 (of_z w64 c.id_at-id.result) ≡ id_at s a.index =
    to_z-of_z w64 c.id_at-id.result (record { sfits = c.id_at-id.type_inv }) ∙ c.id_at-id.ensures in
    let y = c.place-placement.new.node in
    let tick = c.self.inside.facts.tick in
    let kept : (let q : Kept = record { name = c.result_name-made.result; measured = c.args.measured } in q) ≡ kept_of m s v a =
    ap (λ (b : FrameName). record { name = b; measured = c.args.measured }) c.result_name-made.ensures
    ∙ ap (λ o. record { name = result_name s v a; measured = o }) (c.requires.measured ∙ result-measures g.F.Of.Run.graph g.F.Of.Run.stack v a) in
    let l : IsListed (id_at s a.index) tick (kept_of m s v a) n y Full =
    subst (λ (q : Placement). IsListed (id_at s a.index) tick (kept_of m s v a) n y q) c.in-Full.is
    (subst (λ (b : Kept). IsListed (id_at s a.index) tick b n y c.place-placement.result) kept
    (subst (λ (j : ℤ). IsListed j tick (record { name = c.result_name-made.result; measured = c.args.measured }) n y c.place-placement.result) id
    c.place-placement.ensures)) in
    let was = node-is m s k v n i c.requires.node at in
    let step = step-known m s v (log_of k) n (id_at s a.index) (id_at s a.index) false was c.requires.sorted refl l.1 in
    let full : length (waiting s v (log_of k)) ≡ (node s v).sort = omega (arith, waits-known m s v (log_of k) n was, was.list_size, l.2) in
    rw c.push.ensures (room-for-two m s k (SortDrop v (result_name s v a).maker a.index) (put_of s r v a f) i
    (full-legal s v r a f (log_of k) history job c.requires.fired c.requires.sorted step full))

pub invariant_of-self-in-Full : goal.invariant_of-self-in-Full
invariant_of-self-in-Full g c =
    let s = run_setting g.F.Of.Run.graph g.F.Of.Run.stack in
    let m = run_measure g.F.Of.Run.graph g.F.Of.Run.stack in
    let k = parts c.self.inside in
    let i = c.self.invariant in
    let v = c.args.node in
    let r = c.args.role in
    let a = c.args.name in
    let f = c.args.fired in
    let n = c.index_mut.result.now in
    let at = node-found m s k v n i c.requires.node c.index_mut.ensures.value in
    let on = subst (λ (w : Coursed). is_job_on v a (hand r (past w.told)) ≡ true) (sym c.self.view_is) c.requires.hand in
    let history : is_history s (log_of k) ≡ true = subst (λ (w : Coursed). is_history s (past w.told) ≡ true) (sym c.self.view_is) c.requires.history in
    let job = job-on s v r a (log_of k) i.legal on in
    let id : to_z w64 (of_z w64 c.id_at-id.result) ≡ id_at s a.index =
    to_z-of_z w64 c.id_at-id.result (record { sfits = c.id_at-id.type_inv }) ∙ c.id_at-id.ensures in
    let x = c.index_mut-2.result.now in
    let empty = ap (λ (w : Coursed). w.transit) c.self.view_is ∙ c.requires.still in
    let p : Putting m s k v r a f x n =
    record {
      here = c.requires.node;
      role = role-found m s k r x i c.requires.role c.index_mut-2.ensures.value;
      at = at;
      empty = empty;
      history = history;
      job = job;
      fires = c.requires.fired;
      sorted = c.requires.sorted;
    } in
    let y = c.place-placement.new.node in
    let tick = c.self.inside.facts.tick in
    let kept : (let q : Kept = record { name = c.result_name-made.result; measured = c.args.measured } in q) ≡ kept_of m s v a =
    ap (λ (b : FrameName). record { name = b; measured = c.args.measured }) c.result_name-made.ensures
    ∙ ap (λ o. record { name = result_name s v a; measured = o }) (c.requires.measured ∙ result-measures g.F.Of.Run.graph g.F.Of.Run.stack v a) in
    let l : IsListed (id_at s a.index) tick (kept_of m s v a) n y Full =
    subst (λ (q : Placement). IsListed (id_at s a.index) tick (kept_of m s v a) n y q) c.in-Full.is
    (subst (λ (b : Kept). IsListed (id_at s a.index) tick b n y c.place-placement.result) kept
    (subst (λ (j : ℤ). IsListed j tick (record { name = c.result_name-made.result; measured = c.args.measured }) n y c.place-placement.result) id
    c.place-placement.ensures)) in
    rw (
      c.push-in-Full.ensures,
      c.push.ensures,
      c.let_go.ensures,
      c.carry-in-Full.ensures.items,
      c.carry-in-Full.ensures.room,
      c.result_name-made.ensures,
      c.is_maker-makes.ensures,
    )
    (full-course m s k v r a f x n y (id_at s a.index) tick i p refl l)

pub returns-in-Out : goal.returns-in-Out
returns-in-Out g c =
    let s = run_setting g.F.Of.Run.graph g.F.Of.Run.stack in
    let m = run_measure g.F.Of.Run.graph g.F.Of.Run.stack in
    let k = parts c.self.inside in
    let i = c.self.invariant in
    let v = c.args.node in
    let r = c.args.role in
    let a = c.args.name in
    let f = c.args.fired in
    let n = c.index_mut.result.now in
    let at = node-found m s k v n i c.requires.node c.index_mut.ensures.value in
    let id : to_z w64 (of_z w64 c.id_at-id.result) ≡ id_at s a.index =
    to_z-of_z w64 c.id_at-id.result (record { sfits = c.id_at-id.type_inv }) ∙ c.id_at-id.ensures in
    let y = c.place-placement.new.node in
    let tick = c.self.inside.facts.tick in
    let kept : (let q : Kept = record { name = c.result_name-made.result; measured = c.args.measured } in q) ≡ kept_of m s v a =
    ap (λ (b : FrameName). record { name = b; measured = c.args.measured }) c.result_name-made.ensures
    ∙ ap (λ o. record { name = result_name s v a; measured = o }) (c.requires.measured ∙ result-measures g.F.Of.Run.graph g.F.Of.Run.stack v a) in
    let l : IsListed (id_at s a.index) tick (kept_of m s v a) n y Out =
    subst (λ (q : Placement). IsListed (id_at s a.index) tick (kept_of m s v a) n y q) c.in-Out.is
    (subst (λ (b : Kept). IsListed (id_at s a.index) tick b n y c.place-placement.result) kept
    (subst (λ (j : ℤ). IsListed j tick (record { name = c.result_name-made.result; measured = c.args.measured }) n y c.place-placement.result) id
    c.place-placement.ensures)) in
    let was = node-is m s k v n i c.requires.node at in
    let step = step-known m s v (log_of k) n (id_at s a.index) (id_at s a.index) true was c.requires.sorted refl l.1 in
    let known = subst (λ (w : Coursed). keeps_step (prev s v (past w.told)) (id_at s a.index) ≡ true) c.self.view_is step in (
      known,
      rw (c.push-in-Out.ensures, c.push.ensures, c.carry.ensures.items, c.result_name-made.ensures, c.is_maker-makes.ensures) (ap (λ (w : Coursed).
          record {
            told = plain (Emit v (result_name s v a).maker a.index Step) ∷ plain (put_of s r v a f) ∷ w.told;
            transit = job_arrays s v a;
          }) c.self.view_is),
    )

pub returns-in-Waits : goal.returns-in-Waits
returns-in-Waits g c =
    let s = run_setting g.F.Of.Run.graph g.F.Of.Run.stack in
    let m = run_measure g.F.Of.Run.graph g.F.Of.Run.stack in
    let k = parts c.self.inside in
    let i = c.self.invariant in
    let v = c.args.node in
    let r = c.args.role in
    let a = c.args.name in
    let f = c.args.fired in
    let n = c.index_mut.result.now in
    let at = node-found m s k v n i c.requires.node c.index_mut.ensures.value in
    let id : to_z w64 (of_z w64 c.id_at-id.result) ≡ id_at s a.index =
    to_z-of_z w64 c.id_at-id.result (record { sfits = c.id_at-id.type_inv }) ∙ c.id_at-id.ensures in
    let y = c.place-placement.new.node in
    let tick = c.self.inside.facts.tick in
    let kept : (let q : Kept = record { name = c.result_name-made.result; measured = c.args.measured } in q) ≡ kept_of m s v a =
    ap (λ (b : FrameName). record { name = b; measured = c.args.measured }) c.result_name-made.ensures
    ∙ ap (λ o. record { name = result_name s v a; measured = o }) (c.requires.measured ∙ result-measures g.F.Of.Run.graph g.F.Of.Run.stack v a) in
    let l : IsListed (id_at s a.index) tick (kept_of m s v a) n y Waits =
    subst (λ (q : Placement). IsListed (id_at s a.index) tick (kept_of m s v a) n y q) c.in-Waits.is
    (subst (λ (b : Kept). IsListed (id_at s a.index) tick b n y c.place-placement.result) kept
    (subst (λ (j : ℤ). IsListed j tick (record { name = c.result_name-made.result; measured = c.args.measured }) n y c.place-placement.result) id
    c.place-placement.ensures)) in
    let was = node-is m s k v n i c.requires.node at in
    let step = step-known m s v (log_of k) n (id_at s a.index) (id_at s a.index) false was c.requires.sorted refl l.1 in
    let known = subst (λ (w : Coursed). keeps_step (prev s v (past w.told)) (id_at s a.index) ≡ false) c.self.view_is step in
    let short : length (waiting s v (log_of k)) < (node s v).sort = omega (arith, waits-known m s v (log_of k) n was, was.list_size, l.2) in (
      known,
      subst (λ (w : Coursed). length (waiting s v (past w.told)) < (node s v).sort) c.self.view_is short,
      rw (
        c.push.ensures,
        c.carry_input.ensures.items,
        c.result_name-made.ensures,
        c.is_maker-makes.ensures,
      ) (ap (λ (w : Coursed). record { told = plain (put_of s r v a f) ∷ w.told; transit = inputs s v a }) c.self.view_is),
    )

pub returns-in-Full : goal.returns-in-Full
returns-in-Full g c =
    let s = run_setting g.F.Of.Run.graph g.F.Of.Run.stack in
    let m = run_measure g.F.Of.Run.graph g.F.Of.Run.stack in
    let k = parts c.self.inside in
    let i = c.self.invariant in
    let v = c.args.node in
    let r = c.args.role in
    let a = c.args.name in
    let f = c.args.fired in
    let n = c.index_mut.result.now in
    let at = node-found m s k v n i c.requires.node c.index_mut.ensures.value in
    let id : to_z w64 (of_z w64 c.id_at-id.result) ≡ id_at s a.index =
    to_z-of_z w64 c.id_at-id.result (record { sfits = c.id_at-id.type_inv }) ∙ c.id_at-id.ensures in
    let y = c.place-placement.new.node in
    let tick = c.self.inside.facts.tick in
    let kept : (let q : Kept = record { name = c.result_name-made.result; measured = c.args.measured } in q) ≡ kept_of m s v a =
    ap (λ (b : FrameName). record { name = b; measured = c.args.measured }) c.result_name-made.ensures
    ∙ ap (λ o. record { name = result_name s v a; measured = o }) (c.requires.measured ∙ result-measures g.F.Of.Run.graph g.F.Of.Run.stack v a) in
    let l : IsListed (id_at s a.index) tick (kept_of m s v a) n y Full =
    subst (λ (q : Placement). IsListed (id_at s a.index) tick (kept_of m s v a) n y q) c.in-Full.is
    (subst (λ (b : Kept). IsListed (id_at s a.index) tick b n y c.place-placement.result) kept
    (subst (λ (j : ℤ). IsListed j tick (record { name = c.result_name-made.result; measured = c.args.measured }) n y c.place-placement.result) id
    c.place-placement.ensures)) in
    let was = node-is m s k v n i c.requires.node at in
    let step = step-known m s v (log_of k) n (id_at s a.index) (id_at s a.index) false was c.requires.sorted refl l.1 in
    let known = subst (λ (w : Coursed). keeps_step (prev s v (past w.told)) (id_at s a.index) ≡ false) c.self.view_is step in
    let long : length (waiting s v (log_of k)) ≡ (node s v).sort = omega (arith, waits-known m s v (log_of k) n was, was.list_size, l.2) in (
      known,
      subst (λ (w : Coursed). length (waiting s v (past w.told)) ≡ (node s v).sort) c.self.view_is long,
      rw (c.push-in-Full.ensures, c.push.ensures, c.carry-in-Full.ensures.items, c.result_name-made.ensures, c.is_maker-makes.ensures) (ap (λ (w : Coursed).
          record {
            told = plain (SortDrop v (result_name s v a).maker a.index) ∷ plain (put_of s r v a f) ∷ w.told;
            transit = job_arrays s v a;
          }) c.self.view_is),
    )
