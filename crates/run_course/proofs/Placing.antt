-- What is kept of a run, after a Put at a node with a sort list, and what follows it at once.
use Rattle.std.proofs.Common.{◌≡◌, ◌≤◌, ◌<◌, ◌∙◌, ◌-◌, ℕ, ◌+◌, suc, true, false, Bool, List, [], ◌∷◌, ◌++◌, Some, length, map, set, refl, sym, ap, subst, arith}
use Rattle.std.specs.Prelude.{slice_get, if◌then◌else◌}
use Rattle.std.specs.List.{flat_map}
use Rattle.std.proofs.lemmas.Bool.{and_parts, false≢true}
use Rattle.std.proofs.lemmas.List.{length-set, get_or-set_same, set-set}
use Rattle.std.proofs.lemmas.List.Elements.{All-head, All-tail}
use Rattle.std.proofs.lemmas.Option.{slice_get_within, slice_get_read}
use Rattle.nd_base.specs.declared.frame.FrameName.{FrameName}
use Rattle.queue_sort.specs.Sorting.{SortState}
use Rattle.queue_sort.specs.Sorting as sorting
use Rattle.queue_sort.proofs.ById.{map-placed}
use Rattle.flow_journal.specs.declared.entry.Entry.{Entry}
use Rattle.flow_journal.specs.declared.entry.Entry.TheVariants.{Emit, Put, SortDrop}
use Rattle.flow_journal.specs.declared.entry.Why.{Why}
use Rattle.flow_journal.specs.declared.entry.Why.TheVariants.{Step}
use Rattle.flow_journal.specs.Setting.{Setting, Work, Makes, Passes, Watches, Saves, node, id_at, is_maker, is_sorted, may_sort}
use Rattle.flow_journal.specs.Pasts.{Past, frame}
use Rattle.flow_journal.specs.Ended.{now}
use Rattle.flow_journal.specs.Waiting.{Waiting, waiting, id_of, least_first}
use Rattle.flow_journal.specs.Accounts.{block_of}
use Rattle.flow_journal.specs.Histories.{is_legal}
use Rattle.flow_journal.proofs.Changes.{put_laws as node_puts}
use Rattle.flow_journal.proofs.Leasts.{least_laws}
use Rattle.flow_journal.proofs.Looks.{gone-again, sorted_no_file}
use Rattle.flow_journal.specs.ResultNames.{result_name}
use Rattle.chain_plain.specs.OneThread.{listed as listed_one}
use Rattle.board_rules.specs.States.{plain}
use Rattle.pool_account.specs.Account.{IsAccount}
use Rattle.pool_account.proofs.Laws.{put_laws}
use Rattle.run_course.specs.Courses.{Parts, log_of, IsCourse}
use Rattle.flow_journal.specs.Having.{HasBlock}
use Rattle.course_parts.specs.NodeStates.{IsNode, IsRing, HasRoomToMeasure, list_of, listed}
use Rattle.run_course.specs.Puts.{put_of, inputs, job_arrays}
use Rattle.course_parts.specs.declared.hand.Hand.TheVariants.{Free}
use Rattle.course_parts.specs.declared.hand.RoleState.{RoleState}
use Rattle.course_parts.specs.declared.node.Kept.{Kept}
use Rattle.course_parts.specs.declared.node.NodeState.{NodeState}
use Rattle.run_course.proofs.Coursing.{Measuring, emitted_more, dropped_by_list}
use Rattle.run_course.proofs.Handed.{JobOn, taken-as, granted-as, has-arrays}
use Rattle.run_course.proofs.Putting.{Keeps, put_with, none-unsaved}
use Rattle.run_course.proofs.PutMoves.{whole-name}

-- THE LIST

-- a result that comes is placed by its id
pub list-comes : (measure : Measuring) (s : Setting) (r v m k : ℕ) (f : Bool) (P : Past) → is_sorted s v ≡ true
    → list_of measure s v (Put r v m k f ∷ P) ≡ sorting.placed (listed measure s v (record { array = frame m k; tick = now P })) (list_of measure s v P)
list-comes measure s r v m k f P sorted =
    let w : Waiting = record { array = frame m k; tick = now P } in
    ap (λ ws. map (listed measure s v) (least_first s ws)) (node_puts.waits s r v m k f P sorted)
    ∙ (ap (map (listed measure s v)) (least_laws.comes s (waiting s v P) w)
    ∙ map-placed (listed measure s v) (id_of s) sorting.id_of (λ v. refl) w (least_first s (waiting s v P)))

-- and what goes out or is dropped at once leaves the list as it was
pub list-again : (measure : Measuring) (s : Setting) (r v m k : ℕ) (f : Bool) (why : Why) (P : Past) → is_sorted s v ≡ true
    → is_legal s (Put r v m k f ∷ P) ≡ true → list_of measure s v (Emit v m k why ∷ Put r v m k f ∷ P) ≡ list_of measure s v P
list-again measure s r v m k f why P sorted legal =
    ap (λ ws. map (listed measure s v) (least_first s ws)) (node_puts.goes s v m k why (Put r v m k f ∷ P) ∙ gone-again s r v m k f P sorted legal)

pub list-dropped : (measure : Measuring) (s : Setting) (r v m k : ℕ) (f : Bool) (P : Past) → is_sorted s v ≡ true → is_legal s (Put r v m k f ∷ P) ≡ true
    → list_of measure s v (SortDrop v m k ∷ Put r v m k f ∷ P) ≡ list_of measure s v P
list-dropped measure s r v m k f P sorted legal =
    ap (λ ws. map (listed measure s v) (least_first s ws)) (node_puts.dropped s v m k (Put r v m k f ∷ P) ∙ gone-again s r v m k f P sorted legal)

-- A RESULT IN THE LIST
sorted-ring : (s : Setting) (v : ℕ) (P Q : Past) (w : Work) (n : NodeState) → may_sort w ≡ true → IsRing s v Q w n.window
sorted-ring s v P Q Makes n h = tt
sorted-ring s v P Q (Passes d) n h = tt
sorted-ring s v P Q (Saves g c) n h = tt
sorted-ring s v P Q (Watches pre post preset) n h = absurd (false≢true h)

list-keeps : (measure : Measuring) (s : Setting) (v : ℕ) (e : Entry) (P : Past) (n : NodeState) (l : SortState Kept) → is_sorted s v ≡ true
    → IsNode measure s v P n → l.size ≡ n.list.size → l.last ≡ n.list.last → l.waiting ≡ list_of measure s v (e ∷ P)
    → Keeps measure s v P (e ∷ P) (record n { list = l })
list-keeps measure s v e P n l sorted i size last waits =
    let none = sorted_no_file s v sorted in
    record {
      size = size ∙ i.list_size;
      last = λ h. last ∙ i.last h;
      waits = waits;
      ring = sorted-ring s v P (e ∷ P) (node s v).work n (and_parts _ _ sorted).0;
      kept = i.kept ∙ (none-unsaved s v P none ∙ sym (none-unsaved s v (e ∷ P) none));
      room = i.unsaved_room;
    }

put-account : (s : Setting) (v r : ℕ) (a : FrameName) (f : Bool) (k : Parts) → JobOn s v r a (log_of k) → is_sorted s v ≡ true
    → is_legal s (put_of s r v a f ∷ log_of k) ≡ true → IsAccount s (log_of k) [] k.pool
    → IsAccount s (put_of s r v a f ∷ log_of k) (flat_map (block_of (log_of k)) (inputs s v a)) k.pool
put-account s v r a f k job sorted legal account = by (is_maker s v) refl where
  by : (b : Bool) → is_maker s v ≡ b → IsAccount s (put_of s r v a f ∷ log_of k) (flat_map (block_of (log_of k)) (inputs s v a)) k.pool
  by false is =
      let P = log_of k in
      let name : result_name s v a ≡ a = rw is refl in
      let none : inputs s v a ≡ [] = rw is refl in
      let taken = taken-as s v r a P job is in
      let there : IsAccount s (Put r v a.maker a.index f ∷ P) [] k.pool =
      put_laws.sorted s P r taken.0 v a.maker a.index f k.pool [] taken.1 sorted
      (subst (λ (n : FrameName). is_legal s (Put r v n.maker a.index f ∷ P) ≡ true) name legal) account in
      subst (λ (xs : List FrameName). IsAccount s (put_of s r v a f ∷ P) (flat_map (block_of P) xs) k.pool) (sym none)
      (subst (λ (n : FrameName). IsAccount s (Put r v n.maker a.index f ∷ P) [] k.pool) (sym name) there)
  by true is =
      let P = log_of k in
      let name : result_name s v a ≡ frame v a.index = rw is refl in
      let one : inputs s v a ≡ a ∷ [] = rw is refl in
      let g = granted-as s v r a P job is in
      let there : IsAccount s (Put r v v a.index f ∷ P) (block_of P a ++ []) k.pool =
      put_laws.sorted_maker s P r g.role v g.maker a.index g.block g.size g.fresh g.given g.regrown f k.pool (block_of P a) [] g.held sorted
      (ap (block_of P) g.name) (subst (λ (n : FrameName). is_legal s (Put r v n.maker a.index f ∷ P) ≡ true) name legal) account in
      subst (λ (xs : List FrameName). IsAccount s (put_of s r v a f ∷ P) (flat_map (block_of P) xs) k.pool) (sym one)
      (subst (λ (n : FrameName). IsAccount s (Put r v n.maker a.index f ∷ P) (block_of P a ++ []) k.pool) (sym name) there)

pub few-inputs : (s : Setting) (v : ℕ) (a : FrameName) → length (inputs s v a) ≤ 1
few-inputs s v a = split (is_maker s v) where
  split : (b : Bool) → length (if b then a ∷ [] else []) ≤ 1
  split true = omega arith
  split false = omega arith

pub put_in_list : (measure : Measuring) (s : Setting) (k : Parts) (r c : ℕ) (a : FrameName) (f : Bool) (x : RoleState) (n : NodeState) (l : SortState Kept)
    → IsCourse measure s k → is_legal s (put_of s r (suc c) a f ∷ log_of k) ≡ true → slice_get k.roles r ≡ Some x → slice_get k.nodes c ≡ Some n
    → k.transit ≡ [] → JobOn s (suc c) r a (log_of k) → is_sorted s (suc c) ≡ true → l.size ≡ n.list.size → l.last ≡ n.list.last
    → l.waiting ≡ list_of measure s (suc c) (put_of s r (suc c) a f ∷ log_of k)
    → IsCourse measure s (record k {
      log = record k.log { told = plain (put_of s r (suc c) a f) ∷ k.log.told };
      nodes = set k.nodes c
          (record n { jobs = n.jobs - 1; puts = n.puts + 1; list = l });
      roles = set k.roles r (record x { hand = Free });
      transit = inputs s (suc c) a;
    })
put_in_list measure s k r c a f x n l i legal at here empty job sorted size last waits =
    let P = log_of k in
    let v = suc c in
    put_with measure s k r c (result_name s v a).maker a.index f job.entry x n (record n { list = l }) (inputs s v a) i legal at here job.has
    (list-keeps measure s v (put_of s r v a f) P n l sorted (i.nodes.each c n here) size last waits)
    (put-account s v r a f k job sorted legal (subst (λ (ts : List FrameName). IsAccount s P (flat_map (block_of P) ts) k.pool) empty i.account))
    (All-tail (HasBlock P) (result_name s v a) (inputs s v a) (has-arrays s v r a P job.entry i.legal job.has.held job.kind).standing)
    (omega (arith, few-inputs s v a))

-- OUT OF THE LIST AT ONCE
set-there : {X : Type 0} (xs : List X) (i : ℕ) (x y : X) → slice_get xs i ≡ Some x → slice_get (set xs i y) i ≡ Some y
set-there xs i x y at =
    let lt : i < length xs = slice_get_within xs i x at in
    slice_get_read (set xs i y) (length xs) i y (sym (length-set xs i y)) lt (sym (get_or-set_same xs i y y lt))

-- the arrays of the job are on their way: the result, which keeps step, and at a maker the input
pub put_out : (measure : Measuring) (s : Setting) (k : Parts) (r c : ℕ) (a : FrameName) (f : Bool) (x : RoleState) (n y : NodeState) → IsCourse measure s k
    → is_legal s (put_of s r (suc c) a f ∷ log_of k) ≡ true
    → is_legal s (Emit (suc c) (result_name s (suc c) a).maker a.index Step ∷ put_of s r (suc c) a f ∷ log_of k) ≡ true → slice_get k.roles r ≡ Some x
    → slice_get k.nodes c ≡ Some n → k.transit ≡ [] → JobOn s (suc c) r a (log_of k) → is_sorted s (suc c) ≡ true → y.list.size ≡ n.list.size
    → y.list.last ≡ id_at s a.index → y.list.waiting ≡ n.list.waiting
    → y.measures.items ≡ n.measures.items ++ listed_one (measure (suc c) (result_name s (suc c) a)) → HasRoomToMeasure measure s (suc c) y
    → IsCourse measure s
    (record k {
      log = record k.log { told = plain (Emit (suc c) (result_name s (suc c) a).maker a.index Step) ∷ plain (put_of s r (suc c) a f) ∷ k.log.told };
      nodes = set k.nodes c (record n { jobs = n.jobs - 1; puts = n.puts + 1; list = y.list; measures = y.measures });
      roles = set k.roles r (record x { hand = Free });
      transit = job_arrays s (suc c) a;
    })
put_out measure s k r c a f x n y i legal next here at empty job sorted size last waits items room =
    let P = log_of k in
    let v = suc c in
    let m = (result_name s v a).maker in
    let Q = put_of s r v a f ∷ P in
    let l : SortState Kept = record n.list { waiting = list_of measure s v Q } in
    let n1 : NodeState = record n { jobs = n.jobs - 1; puts = n.puts + 1; list = l } in
    let k1 : Parts =
    record k {
      log = record k.log { told = plain (put_of s r v a f) ∷ k.log.told };
      nodes = set k.nodes c n1;
      roles = set k.roles r (record x { hand = Free });
      transit = inputs s v a;
    } in
    let i1 : IsCourse measure s k1 = put_in_list measure s k r c a f x n l i legal here at empty job sorted refl refl refl in
    let has : HasBlock P (result_name s v a) =
    All-head (HasBlock P) (result_name s v a) (inputs s v a) (has-arrays s v r a P job.entry i.legal job.has.held job.kind).standing in
    let name = whole-name s v a in
    let n2 : NodeState = record n1 { list = y.list; measures = y.measures } in
    let i2 =
    emitted_more measure s k1 c m a.index Step n1 n2 i1 next (set-there k.nodes c n n1 at) sorted (omega (arith, few-inputs s v a))
    (subst (HasBlock P) (sym name) has) size last
    (waits ∙ ((i.nodes.each c n at).waits ∙ sym (list-again measure s r v m a.index f Step P sorted legal)))
    (items ∙ ap (λ (b : FrameName). n.measures.items ++ listed_one (measure v b)) (sym name)) room in
    let told = plain (Emit v m a.index Step) ∷ plain (put_of s r v a f) ∷ k.log.told in
    subst (λ (ns : List NodeState). IsCourse measure s (record k {
      log = record k.log { told = told };
      nodes = ns;
      roles = set k.roles r (record x { hand = Free });
      transit = job_arrays s v a;
    })) (set-set k.nodes c n1 n2)
    (subst (λ (b : FrameName). IsCourse measure s (record k {
      log = record k.log { told = told };
      nodes = set (set k.nodes c n1) c n2;
      roles = set k.roles r (record x { hand = Free });
      transit = b ∷ inputs s v a;
    })) name i2)

-- the same of a result that found no place
pub put_full : (measure : Measuring) (s : Setting) (k : Parts) (r c : ℕ) (a : FrameName) (f : Bool) (x : RoleState) (n : NodeState) → IsCourse measure s k
    → is_legal s (put_of s r (suc c) a f ∷ log_of k) ≡ true
    → is_legal s (SortDrop (suc c) (result_name s (suc c) a).maker a.index ∷ put_of s r (suc c) a f ∷ log_of k) ≡ true → slice_get k.roles r ≡ Some x
    → slice_get k.nodes c ≡ Some n → k.transit ≡ [] → JobOn s (suc c) r a (log_of k) → is_sorted s (suc c) ≡ true
    → IsCourse measure s
    (record k {
      log = record k.log { told = plain (SortDrop (suc c) (result_name s (suc c) a).maker a.index) ∷ plain (put_of s r (suc c) a f) ∷ k.log.told };
      nodes = set k.nodes c (record n { jobs = n.jobs - 1; puts = n.puts + 1 });
      roles = set k.roles r (record x { hand = Free });
      facts = record k.facts { dropped = k.facts.dropped + 1 };
      transit = job_arrays s (suc c) a;
    })
put_full measure s k r c a f x n i legal next here at empty job sorted =
    let P = log_of k in
    let v = suc c in
    let m = (result_name s v a).maker in
    let Q = put_of s r v a f ∷ P in
    let l : SortState Kept = record n.list { waiting = list_of measure s v Q } in
    let n1 : NodeState = record n { jobs = n.jobs - 1; puts = n.puts + 1; list = l } in
    let k1 : Parts =
    record k {
      log = record k.log { told = plain (put_of s r v a f) ∷ k.log.told };
      nodes = set k.nodes c n1;
      roles = set k.roles r (record x { hand = Free });
      transit = inputs s v a;
    } in
    let i1 : IsCourse measure s k1 = put_in_list measure s k r c a f x n l i legal here at empty job sorted refl refl refl in
    let has : HasBlock P (result_name s v a) =
    All-head (HasBlock P) (result_name s v a) (inputs s v a) (has-arrays s v r a P job.entry i.legal job.has.held job.kind).standing in
    let name = whole-name s v a in
    let n2 : NodeState = record n { jobs = n.jobs - 1; puts = n.puts + 1 } in
    let was = i.nodes.each c n at in
    let i2 =
    dropped_by_list measure s k1 c m a.index n1 n2 i1 next (set-there k.nodes c n n1 at) sorted (subst (HasBlock P) (sym name) has) refl (was.last sorted)
    (was.waits ∙ sym (list-dropped measure s r v m a.index f P sorted legal)) (omega (arith, few-inputs s v a)) in
    let told = plain (SortDrop v m a.index) ∷ plain (put_of s r v a f) ∷ k.log.told in
    let facts = record k.facts { dropped = k.facts.dropped + 1 } in
    subst (λ (ns : List NodeState). IsCourse measure s (record k {
      log = record k.log { told = told };
      nodes = ns;
      roles = set k.roles r (record x { hand = Free });
      facts = facts;
      transit = job_arrays s v a;
    })) (set-set k.nodes c n1 n2)
    (subst (λ (b : FrameName). IsCourse measure s (record k {
      log = record k.log { told = told };
      nodes = set (set k.nodes c n1) c n2;
      roles = set k.roles r (record x { hand = Free });
      facts = facts;
      transit = b ∷ inputs s v a;
    })) name i2)

-- AT A NODE
-- The same of a node by its number, where its state stands at the place before.
pub put_in_list_at : (measure : Measuring) (s : Setting) (k : Parts) (v : ℕ) (r c : ℕ) (a : FrameName) (f : Bool) (x : RoleState) (n : NodeState)
    (l : SortState Kept) → suc c ≡ v → IsCourse measure s k → is_legal s (put_of s r v a f ∷ log_of k) ≡ true → slice_get k.roles r ≡ Some x
    → slice_get k.nodes c ≡ Some n → k.transit ≡ [] → JobOn s v r a (log_of k) → is_sorted s v ≡ true → l.size ≡ n.list.size → l.last ≡ n.list.last
    → l.waiting ≡ list_of measure s v (put_of s r v a f ∷ log_of k)
    → IsCourse measure s (record k {
      log = record k.log { told = plain (put_of s r v a f) ∷ k.log.told };
      nodes = set k.nodes c
          (record n { jobs = n.jobs - 1; puts = n.puts + 1; list = l });
      roles = set k.roles r (record x { hand = Free });
      transit = inputs s v a;
    })
put_in_list_at measure s k v r c a f x n l is i =
    subst (λ u. is_legal s (put_of s r u a f ∷ log_of k) ≡ true → slice_get k.roles r ≡ Some x → slice_get k.nodes c ≡ Some n → k.transit ≡ [] → JobOn s u r a
    (log_of k) → is_sorted s u ≡ true → l.size ≡ n.list.size → l.last ≡ n.list.last → l.waiting ≡ list_of measure s u (put_of s r u a f ∷ log_of k)
    → IsCourse measure s (record k {
      log = record k.log { told = plain (put_of s r u a f) ∷ k.log.told };
      nodes = set k.nodes c (record n {
        jobs = n.jobs - 1;
        puts = n.puts + 1;
        list = l;
      });
      roles = set k.roles r (record x { hand = Free });
      transit = inputs s u a;
    })) is (put_in_list measure s k r c a f x n l i)

pub put_out_at : (measure : Measuring) (s : Setting) (k : Parts) (v : ℕ) (r c : ℕ) (a : FrameName) (f : Bool) (x : RoleState) (n y : NodeState) → suc c ≡ v
    → IsCourse measure s k → is_legal s (put_of s r v a f ∷ log_of k) ≡ true
    → is_legal s (Emit v (result_name s v a).maker a.index Step ∷ put_of s r v a f ∷ log_of k) ≡ true → slice_get k.roles r ≡ Some x
    → slice_get k.nodes c ≡ Some n → k.transit ≡ [] → JobOn s v r a (log_of k) → is_sorted s v ≡ true → y.list.size ≡ n.list.size
    → y.list.last ≡ id_at s a.index → y.list.waiting ≡ n.list.waiting
    → y.measures.items ≡ n.measures.items ++ listed_one (measure v (result_name s v a)) → HasRoomToMeasure measure s v y
    → IsCourse measure s
    (record k {
      log = record k.log { told = plain (Emit v (result_name s v a).maker a.index Step) ∷ plain (put_of s r v a f) ∷ k.log.told };
      nodes = set k.nodes c (record n { jobs = n.jobs - 1; puts = n.puts + 1; list = y.list; measures = y.measures });
      roles = set k.roles r (record x { hand = Free });
      transit = job_arrays s v a;
    })
put_out_at measure s k v r c a f x n y is i =
    subst (λ u. is_legal s (put_of s r u a f ∷ log_of k) ≡ true → is_legal s (Emit u (result_name s u a).maker a.index Step ∷ put_of s r u a f ∷ log_of k)
    ≡ true → slice_get k.roles r ≡ Some x → slice_get k.nodes c ≡ Some n → k.transit ≡ [] → JobOn s u r a (log_of k) → is_sorted s u ≡ true
    → y.list.size ≡ n.list.size → y.list.last ≡ id_at s a.index → y.list.waiting ≡ n.list.waiting
    → y.measures.items ≡ n.measures.items ++ listed_one (measure u (result_name s u a)) → HasRoomToMeasure measure s u y → IsCourse measure s
    (record k {
      log = record k.log { told = plain (Emit u (result_name s u a).maker a.index Step) ∷ plain (put_of s r u a f) ∷ k.log.told };
      nodes = set k.nodes c (record n { jobs = n.jobs - 1; puts = n.puts + 1; list = y.list; measures = y.measures });
      roles = set k.roles r (record x { hand = Free });
      transit = job_arrays s u a;
    })) is (put_out measure s k r c a f x n y i)

pub put_full_at : (measure : Measuring) (s : Setting) (k : Parts) (v : ℕ) (r c : ℕ) (a : FrameName) (f : Bool) (x : RoleState) (n : NodeState) → suc c ≡ v
    → IsCourse measure s k → is_legal s (put_of s r v a f ∷ log_of k) ≡ true
    → is_legal s (SortDrop v (result_name s v a).maker a.index ∷ put_of s r v a f ∷ log_of k) ≡ true → slice_get k.roles r ≡ Some x
    → slice_get k.nodes c ≡ Some n → k.transit ≡ [] → JobOn s v r a (log_of k) → is_sorted s v ≡ true
    → IsCourse measure s (record k {
      log = record k.log { told = plain (SortDrop v (result_name s v a).maker a.index) ∷ plain (put_of s r v a f) ∷ k.log.told };
      nodes = set k.nodes c (record n { jobs = n.jobs - 1; puts = n.puts + 1 });
      roles = set k.roles r (record x { hand = Free });
      facts = record k.facts { dropped = k.facts.dropped + 1 };
      transit = job_arrays s v a;
    })
put_full_at measure s k v r c a f x n is i =
    subst (λ u. is_legal s (put_of s r u a f ∷ log_of k) ≡ true → is_legal s (SortDrop u (result_name s u a).maker a.index ∷ put_of s r u a f ∷ log_of k) ≡ true
    → slice_get k.roles r ≡ Some x → slice_get k.nodes c ≡ Some n → k.transit ≡ [] → JobOn s u r a (log_of k) → is_sorted s u ≡ true
    → IsCourse measure s (record k {
      log = record k.log { told = plain (SortDrop u (result_name s u a).maker a.index) ∷ plain (put_of s r u a f) ∷ k.log.told };
      nodes = set k.nodes c (record n { jobs = n.jobs - 1; puts = n.puts + 1 });
      roles = set k.roles r (record x { hand = Free });
      facts = record k.facts { dropped = k.facts.dropped + 1 };
      transit = job_arrays s u a;
    })) is (put_full measure s k r c a f x n i)
