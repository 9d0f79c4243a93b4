-- The least waiting one of a node of a course goes out of its sort list.
use Rattle.std.proofs.Common.{◌≡◌, ◌<◌, ◌∙◌, ◌-◌, ℕ, true, List, [], ◌∷◌, ◌++◌, Some, length, set, sym, ap, subst, refl, arith, get_or}
use Rattle.std.specs.Prelude.{slice_get, vec_len, vec_capacity}
use Rattle.nd_base.specs.declared.frame.FrameName.{FrameName}
use Rattle.nd_base.specs.declared.measure.Measure.{Measure}
use Rattle.queue_sort.specs.declared.sort_lists.Waiting.{Waiting as Listed}
use Rattle.chain_plain.specs.OneThread.{listed}
use Rattle.flow_journal.specs.declared.entry.Entry.{Entry}
use Rattle.flow_journal.specs.declared.entry.Entry.TheVariants.{Emit}
use Rattle.flow_journal.specs.declared.entry.Why.{Why}
use Rattle.flow_journal.specs.declared.entry.Why.TheVariants.{Flush}
use Rattle.flow_journal.specs.Setting.{Setting, Node, node, is_node, is_sorted, id_at}
use Rattle.flow_journal.specs.Pasts.{Past}
use Rattle.flow_journal.specs.Ended.{now}
use Rattle.flow_journal.specs.Following.{emit, look}
use Rattle.flow_journal.specs.Waiting.{waiting}
use Rattle.flow_journal.specs.Histories.{is_legal}
use Rattle.flow_journal.specs.Having.{HasBlock}
use Rattle.board_rules.specs.States.{past, plain}
use Rattle.board_rules.specs.Moving.{with_all}
use Rattle.course_parts.specs.declared.facts.Facts.{Facts}
use Rattle.course_parts.specs.declared.node.Kept.{Kept}
use Rattle.course_parts.specs.declared.node.NodeState.{NodeState}
use Rattle.course_parts.specs.declared.rules.NodeRules.{NodeRules}
use Rattle.course_parts.specs.NodeStates.{IsNode, list_of}
use Rattle.course_parts.specs.SortLists.{IsLetOut, IsFlushed}
use Rattle.run_course.specs.Courses.{Parts, IsCourse, log_of}
use Rattle.run_course.specs.Leaving.{LeavesList, flush}
use Rattle.run_course.proofs.Begins.{seen}
use Rattle.run_course.proofs.Coursing.{Measuring, node-is, room-to-measure, emitted_from_list_at}
use Rattle.run_course.proofs.Having.{waiting-block}
use Rattle.run_course.proofs.Looking.{first-waits, first-legal, list-left, fewer-wait, due-looks, flush-least}
use Rattle.run_course.proofs.Reading.{place-of, read-at}
use Rattle.run_course.proofs.RuleFound.{rule-found}

-- what code reads of a node and of its rules
pub record IsRead (measure : Measuring) (s : Setting) (k : Parts) (v : ℕ) (n : NodeState) : Type 0 where
  pub at : slice_get k.nodes (v - 1) ≡ Some n
  pub here : IsNode measure s v (log_of k) n

pub node-read : (measure : Measuring) (s : Setting) (k : Parts) (v : ℕ) (n : NodeState) → IsCourse measure s k → is_node s v ≡ true
    → n ≡ get_or k.nodes (v - 1) n → IsRead measure s k v n
node-read measure s k v n i here read =
    let q = place-of s v here in
    let at : slice_get k.nodes (v - 1) ≡ Some n = read-at k.nodes (v - 1) n (omega (arith, q.1, i.nodes.all)) read in
    record { at = at; here = node-is measure s k v (v - 1) n q.0 i at }

pub time-read : (measure : Measuring) (s : Setting) (k : Parts) → IsCourse measure s k → k.facts.tick ≡ now (log_of k)
time-read measure s k i = ap (λ (f : Facts). f.tick) i.facts

pub sort_time-read : (measure : Measuring) (s : Setting) (k : Parts) (v : ℕ) (r : NodeRules) → IsCourse measure s k → is_node s v ≡ true
    → r ≡ get_or k.rules.nodes (v - 1) r → r.sort_time ≡ (node s v).sort_time
sort_time-read measure s k v r i here read = ap (λ (o : Node). o.sort_time) (rule-found s k.rules v r i.ruled here read)

-- there is room for its measure
pub room-left : (measure : Measuring) (s : Setting) (k : Parts) (v : ℕ) (n : NodeState) (w : Listed Kept) (ws : List (Listed Kept)) (why : Why) (x : Measure)
    (outs : Past → List Entry) → IsCourse measure s k → is_node s v ≡ true → IsRead measure s k v n → n.list.waiting ≡ w ∷ ws
    → outs (log_of k) ≡ emit v why w.item.name ∷ outs (emit v why w.item.name ∷ log_of k)
    → is_legal s (past (with_all s 0 2 (outs (log_of k)) k.log.told)) ≡ true → w.item.measured ≡ Some x → vec_len n.measures < vec_capacity n.measures
room-left measure s k v n w ws why x outs i here read waits goes legal some =
    let f = first-waits measure s v (log_of k) n w ws read.here waits in
    let first = first-legal s v w.item.name why (outs (log_of k)) (outs (emit v why w.item.name ∷ log_of k)) k.log.told goes legal in
    room-to-measure measure s k v (v - 1) w.item.name.maker w.item.name.index why n x (place-of s v here).0 i read.at first.1
    (ap (λ (y : Listed Kept). measure v y.item.name) f.first ∙ (ap (λ (y : Listed Kept). y.item.measured) (sym f.first) ∙ some))

-- it goes out of the list, and is on its way
pub record GoesOut (measure : Measuring) (s : Setting) (k : Parts) (v : ℕ) (outs : Past → List Entry) (why : Why) (a : FrameName) (n y : NodeState)
    : Type 0 where
  pub legal : is_legal s (emit v why a ∷ log_of k) ≡ true
  pub course : IsCourse measure s (record k {
    log = record k.log { told = plain (emit v why a) ∷ k.log.told };
    nodes = set k.nodes (v - 1) (record n { list = y.list; measures = y.measures });
    transit = a ∷ [];
  })
  pub leaves : LeavesList s v outs a (seen k) (record { told = plain (emit v why a) ∷ k.log.told; transit = a ∷ [] })

pub goes-out : (measure : Measuring) (s : Setting) (k : Parts) (v : ℕ) (outs : Past → List Entry) (why : Why) (a : FrameName) (n y : NodeState)
    (least : Listed Kept) (rest : List (Listed Kept)) → IsCourse measure s k → is_node s v ≡ true → is_sorted s v ≡ true → IsRead measure s k v n
    → k.transit ≡ [] → n.list.waiting ≡ least ∷ rest → least.item.name ≡ a
    → outs (log_of k) ≡ emit v why least.item.name ∷ outs (emit v why least.item.name ∷ log_of k)
    → is_legal s (past (with_all s 0 2 (outs (log_of k)) k.log.told)) ≡ true → y.list.size ≡ n.list.size → y.list.last ≡ least.id → y.list.waiting ≡ rest
    → y.measures.items ≡ n.measures.items ++ listed least.item.measured → vec_capacity y.measures ≡ vec_capacity n.measures
    → GoesOut measure s k v outs why a n y
goes-out measure s k v outs why a n y least rest i here sorted read still waits named goes legal size last left items room =
    let P = log_of k in
    let f = first-waits measure s v P n least rest read.here waits in
    let name_is : f.least.array ≡ a = ap (λ (w : Listed Kept). w.item.name) (sym f.first) ∙ named in
    let going : outs P ≡ emit v why a ∷ outs (emit v why a ∷ P) =
    subst (λ (b : FrameName). outs P ≡ emit v why b ∷ outs (emit v why b ∷ P)) named goes in
    let first = first-legal s v a why (outs P) (outs (emit v why a ∷ P)) k.log.told going legal in
    let others : y.list.waiting ≡ list_of measure s v (Emit v a.maker a.index why ∷ P) =
    left
    ∙ subst (λ (b : FrameName). rest ≡ list_of measure s v (Emit v b.maker b.index why ∷ P)) name_is (list-left measure s v P least rest why f) in
    let before : y.list.last ≡ id_at s a.index = last ∙ (ap (λ (w : Listed Kept). w.id) f.first ∙ ap (λ (b : FrameName). id_at s b.index) name_is) in
    let kept = items ∙ ap (λ o. n.measures.items ++ listed o) (ap (λ (w : Listed Kept). w.item.measured) f.first ∙ ap (measure v) name_is) in
    let has : HasBlock P a = subst (HasBlock P) name_is (waiting-block s v P f.least f.others i.legal f.order) in
    record {
      legal = first.1;
      course = emitted_from_list_at measure s k v (v - 1) a.maker a.index why n y (place-of s v here).0 i first.1 read.at sorted still has size before others kept
          (λ b x some. rw room (read.here.measures_room b x some));
      leaves = record {
        why = why;
        first = going;
        fewer = subst (λ (b : FrameName). length (waiting s v (Emit v b.maker b.index why ∷ P)) < length (waiting s v P)) name_is
            (fewer-wait measure s v P least rest why f);
        moves = refl;
      };
    }

-- one that is due
pub due-out : (measure : Measuring) (s : Setting) (k : Parts) (v t st : ℕ) (n y : NodeState) (a : FrameName) (why : Why) → IsCourse measure s k
    → is_node s v ≡ true → is_sorted s v ≡ true → IsRead measure s k v n → t ≡ now (log_of k) → st ≡ (node s v).sort_time → k.transit ≡ []
    → is_legal s (past (with_all s 0 2 (look s v (log_of k)) k.log.told)) ≡ true → IsLetOut t st n y a why
    → GoesOut measure s k v (look s v) why a n y
due-out measure s k v t st n y a why i here sorted read time wait still legal out =
    goes-out measure s k v (look s v) why a n y out.least out.rest i here sorted read still out.waits out.named
    (due-looks measure s v (log_of k) n t st out.least out.rest why read.here sorted time wait out.waits out.due) legal out.size out.last out.waiting
    out.items out.room

-- one of a flush
pub least-out : (measure : Measuring) (s : Setting) (k : Parts) (v : ℕ) (n y : NodeState) (a : FrameName) → IsCourse measure s k → is_node s v ≡ true
    → is_sorted s v ≡ true → IsRead measure s k v n → k.transit ≡ [] → is_legal s (past (with_all s 0 2 (flush s v (log_of k)) k.log.told)) ≡ true
    → IsFlushed n y a → GoesOut measure s k v (flush s v) Flush a n y
least-out measure s k v n y a i here sorted read still legal out =
    goes-out measure s k v (flush s v) Flush a n y out.least out.rest i here sorted read still out.waits out.named
    (flush-least measure s v (log_of k) n out.least out.rest read.here out.waits) legal out.size out.last out.waiting out.items out.room
