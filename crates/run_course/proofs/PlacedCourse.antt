-- What is kept of a run, by what the list of a node answered to a put.
use Rattle.std.proofs.Common.{◌≡◌, ◌<◌, ◌∙◌, ◌-◌, ◌+◌, ℕ, ℤ, suc, true, false, Bool, List, [], ◌∷◌, Some, length, length-append, set, sym, ap, subst, arith}
use Rattle.std.specs.Prelude.{slice_get, vec_len, vec_capacity}
use Rattle.flow_journal.specs.Accepted.{emitted}
use Rattle.flow_journal.proofs.Steps.{comes_here}
use Rattle.std.proofs.lemmas.List.{length-map}
use Rattle.nd_base.specs.declared.frame.FrameName.{FrameName}
use Rattle.nd_base.specs.declared.measure.Measure.{Measure}
use Rattle.queue_sort.specs.Sorting.{SortState, keeps_step}
use Rattle.queue_sort.specs.Sorting as sorting
use Rattle.flow_journal.specs.declared.entry.Entry.{Entry}
use Rattle.flow_journal.specs.declared.entry.Entry.TheVariants.{Emit, SortDrop}
use Rattle.flow_journal.specs.declared.entry.Why.TheVariants.{Step}
use Rattle.flow_journal.specs.Setting.{Setting, node, id_at, is_node, is_sorted}
use Rattle.flow_journal.specs.Pasts.{Past, frame}
use Rattle.flow_journal.specs.Ended.{now}
use Rattle.flow_journal.specs.Breaks.{prev}
use Rattle.flow_journal.specs.Waiting.{waiting, least_first}
use Rattle.flow_journal.specs.Following.{calls_for, look}
use Rattle.flow_journal.specs.Histories.{is_legal, is_history, Owes}
use Rattle.flow_journal.specs.Pushes.{history-owes, push-first, push-owed, answers-Emit, answers-SortDrop}
use Rattle.flow_journal.proofs.Leasts.{least_laws}
use Rattle.flow_journal.proofs.Looks.{look_laws}
use Rattle.flow_journal.specs.ResultNames.{result_name}
use Rattle.board_rules.specs.States.{plain}
use Rattle.board_rules.proofs.Pasts.{past-length}
use Rattle.run_course.specs.Courses.{Parts, log_of, IsCourse}
use Rattle.course_parts.specs.NodeStates.{IsNode, list_of, listed}
use Rattle.course_parts.specs.SortLists.{IsListed}
use Rattle.run_course.specs.Puts.{put_of, fires_for, inputs, job_arrays}
use Rattle.course_parts.specs.declared.results.Placement.TheVariants.{Out, Waits, Full}
use Rattle.course_parts.specs.declared.hand.Hand.TheVariants.{Free}
use Rattle.course_parts.specs.declared.hand.RoleState.{RoleState}
use Rattle.course_parts.specs.declared.node.Kept.{Kept}
use Rattle.course_parts.specs.declared.node.NodeState.{NodeState}
use Rattle.run_course.proofs.Bounds.{emits-short}
use Rattle.run_course.proofs.Coursing.{Measuring, listed-some}
use Rattle.flow_journal.proofs.Lengths.{length_laws}
use Rattle.run_course.proofs.Finding.{node-is}
use Rattle.run_course.proofs.Handed.{JobOn}
use Rattle.run_course.proofs.Placing.{list-comes, put_in_list_at, put_out_at, put_full_at}
use Rattle.run_course.proofs.PutMoves.{put-first, put-legal, whole-name}
use Rattle.run_course.proofs.Reading.{place-of}

-- WHAT THE LIST KNOWS
pub step-known : (measure : Measuring) (s : Setting) (v : ℕ) (P : Past) (n : NodeState) (id other : ℤ) (b : Bool) → IsNode measure s v P n
    → is_sorted s v ≡ true → id ≡ other → keeps_step n.list.last id ≡ b → keeps_step (prev s v P) other ≡ b
step-known measure s v P n id other b i sorted is known =
    sym (ap (λ (l : ℤ). keeps_step l other) (i.last sorted)) ∙ (sym (ap (keeps_step n.list.last) is) ∙ known)

pub waits-known : (measure : Measuring) (s : Setting) (v : ℕ) (P : Past) (n : NodeState) → IsNode measure s v P n
    → length n.list.waiting ≡ length (waiting s v P)
waits-known measure s v P n i = ap length i.waits ∙ (length-map (least_first s (waiting s v P)) (listed measure s v) ∙ least_laws.count s (waiting s v P))

-- WHAT MAY FOLLOW
owes-put : (s : Setting) (v r : ℕ) (a : FrameName) (f : Bool) (P : Past) → is_history s P ≡ true → JobOn s v r a P → f ≡ fires_for s v a
    → Owes s (put_of s r v a f ∷ P) (calls_for s P (put_of s r v a f))
owes-put s v r a f P h job fires = push-first {s = s} {P = P} (put_of s r v a f) (history-owes {s = s} {P = P} h) (put-first s v r a f P job fires)

pub out-legal : (s : Setting) (v r : ℕ) (a : FrameName) (f : Bool) (P : Past) → is_history s P ≡ true → JobOn s v r a P → f ≡ fires_for s v a
    → is_sorted s v ≡ true → keeps_step (prev s v P) (id_at s a.index) ≡ true
    → is_legal s (Emit v (result_name s v a).maker a.index Step ∷ put_of s r v a f ∷ P) ≡ true
out-legal s v r a f P h job fires sorted step =
    let m = (result_name s v a).maker in
    let Q : Past = put_of s r v a f ∷ P in
    let e : Entry = Emit v m a.index Step in
    let o = owes-put s v r a f P h job fires in
    let calls = look_laws.put_steps s r v m a.index f P sorted o.legal step in
    (push-owed {s = s} {P = Q} {d = e} {ds = look s v (e ∷ Q)} e (subst (λ (ds : List Entry). Owes s Q ds) calls o) (answers-Emit s Q v m a.index Step)).legal

pub full-legal : (s : Setting) (v r : ℕ) (a : FrameName) (f : Bool) (P : Past) → is_history s P ≡ true → JobOn s v r a P → f ≡ fires_for s v a
    → is_sorted s v ≡ true → keeps_step (prev s v P) (id_at s a.index) ≡ false → length (waiting s v P) ≡ (node s v).sort
    → is_legal s (SortDrop v (result_name s v a).maker a.index ∷ put_of s r v a f ∷ P) ≡ true
full-legal s v r a f P h job fires sorted step full =
    let m = (result_name s v a).maker in
    let Q : Past = put_of s r v a f ∷ P in
    let e : Entry = SortDrop v m a.index in
    let o = owes-put s v r a f P h job fires in
    let calls = look_laws.put_full s r v m a.index f P sorted o.legal step full in
    (push-owed {s = s} {P = Q} {d = e} {ds = look s v (e ∷ Q)} e (subst (λ (ds : List Entry). Owes s Q ds) calls o) (answers-SortDrop s Q v m a.index)).legal

-- a result, as it is kept
abbrev pub kept_of : Measuring → Setting → ℕ → FrameName → Kept
kept_of measure s v a = record { name = result_name s v a; measured = measure v (result_name s v a) }

-- a role and a node, and what the put needs to know
pub record Putting (measure : Measuring) (s : Setting) (k : Parts) (v r : ℕ) (a : FrameName) (f : Bool) (x : RoleState) (n : NodeState) : Type 0 where
  pub here : is_node s v ≡ true
  pub role : slice_get k.roles r ≡ Some x
  pub at : slice_get k.nodes (v - 1) ≡ Some n
  pub empty : k.transit ≡ []
  pub history : is_history s (log_of k) ≡ true
  pub job : JobOn s v r a (log_of k)
  pub fires : f ≡ fires_for s v a
  pub sorted : is_sorted s v ≡ true

pub out-course : (measure : Measuring) (s : Setting) (k : Parts) (v r : ℕ) (a : FrameName) (f : Bool) (x : RoleState) (n y : NodeState) (id : ℤ) (tick : ℕ)
    → IsCourse measure s k → Putting measure s k v r a f x n → id ≡ id_at s a.index → IsListed id tick (kept_of measure s v a) n y Out
    → IsCourse measure s
    (record k {
      log = record k.log { told = plain (Emit v (result_name s v a).maker a.index Step) ∷ plain (put_of s r v a f) ∷ k.log.told };
      nodes = set k.nodes (v - 1) y;
      roles = set k.roles r (record x { hand = Free });
      transit = job_arrays s v a;
    })
out-course measure s k v r a f x n y id tick i p is l =
    let P = log_of k in
    let was = node-is measure s k v n i p.here p.at in
    let step = step-known measure s v P n id (id_at s a.index) true was p.sorted is l.1 in
    subst (λ (z : NodeState). IsCourse measure s
    (record k {
      log = record k.log { told = plain (Emit v (result_name s v a).maker a.index Step) ∷ plain (put_of s r v a f) ∷ k.log.told };
      nodes = set k.nodes (v - 1) z;
      roles = set k.roles r (record x { hand = Free });
      transit = job_arrays s v a;
    })) (sym l.0)
    (put_out_at measure s k v r (v - 1) a f x n y (place-of s v p.here).0 i (put-legal s v r a f k.log.told p.history p.job p.fires)
    (out-legal s v r a f P p.history p.job p.fires p.sorted step) p.role p.at p.empty p.job p.sorted l.2 (l.3 ∙ is) l.4 l.5
    (λ b w some. omega (arith, l.6, was.measures_room b w some)))

pub waits-course : (measure : Measuring) (s : Setting) (k : Parts) (v r : ℕ) (a : FrameName) (f : Bool) (x : RoleState) (n y : NodeState) (id : ℤ) (tick : ℕ)
    → IsCourse measure s k → Putting measure s k v r a f x n → id ≡ id_at s a.index → tick ≡ now (log_of k) → IsListed id tick (kept_of measure s v a) n y Waits
    → IsCourse measure s (record k {
      log = record k.log { told = plain (put_of s r v a f) ∷ k.log.told };
      nodes = set k.nodes (v - 1) y;
      roles = set k.roles r (record x { hand = Free });
      transit = inputs s v a;
    })
waits-course measure s k v r a f x n y id tick i p is time l =
    let P = log_of k in
    let was = node-is measure s k v n i p.here p.at in
    let name = whole-name s v a in
    let list : y.list.waiting ≡ list_of measure s v (put_of s r v a f ∷ P) =
    ap (λ (q : SortState Kept). q.waiting) l.3
    ∙ (ap (λ (j : ℤ). sorting.placed (record { id = j; tick = tick; item = kept_of measure s v a }) n.list.waiting) is
    ∙ (ap (λ (t : ℕ). sorting.placed (record { id = id_at s a.index; tick = t; item = kept_of measure s v a }) n.list.waiting) time
    ∙ (ap (sorting.placed (record { id = id_at s a.index; tick = now P; item = kept_of measure s v a })) was.waits
    ∙ (ap (λ (b : FrameName). sorting.placed (record { id = id_at s a.index; tick = now P; item = record { name = b; measured = measure v b } })
    (list_of measure s v P)) (sym name)
    ∙ sym (list-comes measure s r v (result_name s v a).maker a.index f P p.sorted))))) in
    subst (λ (z : NodeState). IsCourse measure s (record k {
      log = record k.log { told = plain (put_of s r v a f) ∷ k.log.told };
      nodes = set k.nodes (v - 1) z;
      roles = set k.roles r (record x { hand = Free });
      transit = inputs s v a;
    })) (sym l.0)
    (put_in_list_at measure s k v r (v - 1) a f x n y.list (place-of s v p.here).0 i (put-legal s v r a f k.log.told p.history p.job p.fires) p.role p.at
    p.empty p.job p.sorted (ap (λ (q : SortState Kept). q.size) l.3) (ap (λ (q : SortState Kept). q.last) l.3) list)

pub full-course : (measure : Measuring) (s : Setting) (k : Parts) (v r : ℕ) (a : FrameName) (f : Bool) (x : RoleState) (n y : NodeState) (id : ℤ) (tick : ℕ)
    → IsCourse measure s k → Putting measure s k v r a f x n → id ≡ id_at s a.index → IsListed id tick (kept_of measure s v a) n y Full
    → IsCourse measure s (record k {
      log = record k.log { told = plain (SortDrop v (result_name s v a).maker a.index) ∷ plain (put_of s r v a f) ∷ k.log.told };
      nodes = set k.nodes (v - 1) y;
      roles = set k.roles r (record x { hand = Free });
      facts = record k.facts { dropped = k.facts.dropped + 1 };
      transit = job_arrays s v a;
    })
full-course measure s k v r a f x n y id tick i p is l =
    let P = log_of k in
    let was = node-is measure s k v n i p.here p.at in
    let step = step-known measure s v P n id (id_at s a.index) false was p.sorted is l.1 in
    let full : length (waiting s v P) ≡ (node s v).sort = omega (arith, waits-known measure s v P n was, was.list_size, l.2) in
    subst (λ (z : NodeState). IsCourse measure s
    (record k {
      log = record k.log { told = plain (SortDrop v (result_name s v a).maker a.index) ∷ plain (put_of s r v a f) ∷ k.log.told };
      nodes = set k.nodes
          (v - 1) z;
      roles = set k.roles r (record x { hand = Free });
      facts = record k.facts { dropped = k.facts.dropped + 1 };
      transit = job_arrays s v a;
    }))
    (sym l.0)
    (put_full_at measure s k v r (v - 1) a f x n (place-of s v p.here).0 i (put-legal s v r a f k.log.told p.history p.job p.fires)
    (full-legal s v r a f P p.history p.job p.fires p.sorted step full) p.role p.at p.empty p.job p.sorted)

-- there is room for one more measure
pub measures-room : (measure : Measuring) (s : Setting) (k : Parts) (v r : ℕ) (a : FrameName) (f : Bool) (n : NodeState) (id : ℤ) (w : Measure)
    → IsCourse measure s k → is_history s (log_of k) ≡ true → JobOn s v r a (log_of k) → f ≡ fires_for s v a → is_sorted s v ≡ true → is_node s v ≡ true
    → slice_get k.nodes (v - 1) ≡ Some n → id ≡ id_at s a.index → keeps_step n.list.last id ≡ true → measure v (result_name s v a) ≡ Some w
    → vec_len n.measures < vec_capacity n.measures
measures-room measure s k v r a f n id w i history job fires sorted here at is known some =
    let P = log_of k in
    let was = node-is measure s k v n i here at in
    let step = step-known measure s v P n id (id_at s a.index) true was sorted is known in
    let m = (result_name s v a).maker in
    let Q : Past = put_of s r v a f ∷ P in
    let gone = emits-short s (Emit v m a.index Step ∷ Q) v (out-legal s v r a f P history job fires sorted step) in
    let few = listed-some v measure w (emitted v P) in
    omega (
      arith,
      gone,
      few,
      ap length (comes_here v (frame m a.index) (emitted v P)),
      length-append (emitted v P) (frame m a.index ∷ []),
      ap length was.measures,
      was.measures_room (result_name s v a) w some,
    )

-- and in the log for two more entries
pub room-for-two : (measure : Measuring) (s : Setting) (k : Parts) (e d : Entry) → IsCourse measure s k → is_legal s (e ∷ d ∷ log_of k) ≡ true
    → suc (length k.log.told) < k.log.room
room-for-two measure s k e d i legal = omega (arith, length_laws.entries s (e ∷ d ∷ log_of k) legal, i.log_room, past-length k.log.told)
