-- What code finds of a node, a role and a rule, by their numbers.
use Rattle.std.proofs.Common.{◌≡◌, ◌≢◌, ◌≤◌, ◌<◌, ◌∙◌, ◌-◌, ℕ, zero, suc, true, false, Bool, List, [], ◌∷◌, Some, length, map, refl, sym, ap, subst, get_or, arith, inl, inr, leb, ◌⊎◌, ◌/◌, length-append}
use Rattle.std.specs.Prelude.{slice_get, slice_index_or}
use Rattle.std.proofs.lemmas.List.Sums.{get_or-le-sum_by}
use Rattle.nd_base.specs.declared.frame.FrameName.{FrameName}
use Rattle.flow_journal.specs.Setting.{Setting, Node, node, no_node, is_node, last_role, is_maker, makes, Work}
use Rattle.course_parts.specs.declared.node.NodeState.{NodeState}
use Rattle.course_parts.specs.declared.hand.RoleState.{RoleState}
use Rattle.course_parts.specs.declared.rules.NodeRules.{NodeRules}
use Rattle.course_parts.specs.RunRules.{as_node, need_of, as_work}
use Rattle.course_parts.specs.NodeStates.{IsNode}
use Rattle.run_course.specs.Courses.{Parts, IsCourse, log_of, Coursed}
use Rattle.std.proofs.lemmas.Bool.{cases_Bool, true≢false, leb-false, lt-ltb, and_from}
use Rattle.std.proofs.lemmas.List.{length-map}
use Rattle.pool_ledger.specs.Ledger.{Ledger, grant_for}
use Rattle.told_log.specs.ToldLogs.{ToldState}
use Rattle.flow_journal.specs.Unsaved.{is_file, group_of, standing_saves}
use Rattle.course_parts.specs.declared.facts.Facts.{Facts}
use Rattle.run_course.proofs.Coursing.{Measuring}
use Rattle.run_course.proofs.Reading.{read-at, place-of, first-of}
use Rattle.std.specs.List.{flat_map}
use Rattle.pool_ledger.specs.Ledger as ledger
use Rattle.pool_account.specs.Account.{IsAccount}
use Rattle.pool_account.proofs.Laws.{tell_laws}
use Rattle.queue_sort.specs.Inboxes.{InboxState}
use Rattle.flow_journal.specs.Accounts.{block_of, held, grant}
use Rattle.flow_journal.specs.Queued.{queued}
use Rattle.flow_journal.specs.FirstEntries.{is_next, is_load_of}
use Rattle.flow_journal.proofs.Steps.{same_refl}
use Rattle.board_rules.specs.States.{BoardState, past}
use Rattle.board_rules.specs.InHand.{hand_node, is_piece_on}
use Rattle.board_rules.proofs.Legal.{piece_in, names_role}
use Rattle.flow_journal.specs.declared.entry.Entry.TheVariants.{Save, Load}
use Rattle.flow_journal.specs.Hands.{hand}
use Rattle.flow_journal.proofs.Rows.{row_laws}
use Rattle.flow_journal.proofs.Pieces.{piece-file, saves-front}
use Rattle.run_course.proofs.Begins.{seen}
use Rattle.course_parts.specs.declared.rules.NodeWork.{NodeWork}
use Rattle.course_parts.specs.declared.rules.NodeWork.TheVariants as work
use Rattle.flow_journal.specs.Puts.{puts}
use Rattle.flow_journal.specs.Pasts.{minus}
use Rattle.run_course.proofs.Bounds.{puts-short}

pub node-found : (measure : Measuring) (s : Setting) (k : Parts) (v : ℕ) (n : NodeState) → IsCourse measure s k → is_node s v ≡ true
    → n ≡ get_or k.nodes (v - 1) n → slice_get k.nodes (v - 1) ≡ Some n
node-found measure s k v n i h is =
    let p = place-of s v h in
    read-at k.nodes (v - 1) n (omega (arith, p.1, i.nodes.all)) is

pub role-found : (measure : Measuring) (s : Setting) (k : Parts) (r : ℕ) (x : RoleState) → IsCourse measure s k → r ≤ last_role s
    → x ≡ get_or k.roles r x → slice_get k.roles r ≡ Some x
role-found measure s k r x i h is = read-at k.roles r x (omega (arith, i.roles.all, h)) is

pub node-is : (measure : Measuring) (s : Setting) (k : Parts) (v : ℕ) (n : NodeState) → IsCourse measure s k → is_node s v ≡ true
    → slice_get k.nodes (v - 1) ≡ Some n → IsNode measure s v (log_of k) n
node-is measure s k v n i h at = subst (λ u. IsNode measure s u (log_of k) n) (place-of s v h).0 (i.nodes.each (v - 1) n at)

pub few-jobs : (measure : Measuring) (s : Setting) (k : Parts) (v : ℕ) (n : NodeState) → IsCourse measure s k → is_node s v ≡ true
    → slice_get k.nodes (v - 1) ≡ Some n → n.jobs ≤ 64
few-jobs measure s k v n i h at =
    let p = place-of s v h in
    let few : n.jobs ≤ (node s (suc (v - 1))).threads = (i.nodes.each (v - 1) n at).few in
    omega (arith, few, get_or-le-sum_by (λ (m : Node). m.threads) s.nodes (v - 1) no_node p.1, i.ruled.few_threads)

-- what stands for a node that isn't there
past-end : (ns : List Node) (i : ℕ) → length ns ≤ i → slice_index_or ns i no_node ≡ no_node
past-end [] i h = refl
past-end (n ∷ ns) zero h = absurd (omega (arith, h))
past-end (n ∷ ns) (suc i) h = past-end ns i (omega (arith, h))

no-node : (s : Setting) (v : ℕ) → is_node s v ≡ false → node s v ≡ no_node
no-node s zero h = refl
no-node s (suc i) h = past-end s.nodes i (by (cases_Bool (leb (suc i) (length s.nodes)))) where
  by : (leb (suc i) (length s.nodes) ≡ true) ⊎ (leb (suc i) (length s.nodes) ≡ false) → length s.nodes ≤ i
  by (inl there) = absurd (true≢false (sym (and_from _ _ (lt-ltb 0 (suc i) (omega arith)) there) ∙ h))
  by (inr away) = omega (arith, leb-false (suc i) (length s.nodes) away)

-- a file node is there
pub file-node : (s : Setting) (v : ℕ) → is_file (node s v).work ≡ true → is_node s v ≡ true
file-node s v h = elim (cases_Bool (is_node s v)) [
  | inl here ↦ here
  | inr away ↦ absurd (true≢false (sym h ∙ ap (λ (n : Node). is_file n.work) (no-node s v away)))
]

-- a course whose parts are these
pub course-as : (measure : Measuring) (s : Setting) (k : Parts) (l : ToldState) (ns : List NodeState) (rs : List RoleState) (p : Ledger) (bs : List ℕ)
    (f : Facts) (ts : List FrameName) (room : ℕ)
    → k.log ≡ l → k.nodes ≡ ns → k.roles ≡ rs → k.pool ≡ p → k.blocks ≡ bs → k.facts ≡ f → k.transit ≡ ts → k.room ≡ room → IsCourse measure s k
    → IsCourse measure s (record { log = l; rules = k.rules; nodes = ns; roles = rs; pool = p; blocks = bs; facts = f; transit = ts; room = room })
course-as measure s k l ns rs p bs f ts room el en er ep eb ef et eo i =
    subst (λ l'. IsCourse measure s (record { log = l'; rules = k.rules; nodes = ns; roles = rs; pool = p; blocks = bs; facts = f; transit = ts; room = room }))
    el
    (subst (λ ns'. IsCourse measure s (record k { nodes = ns'; roles = rs; pool = p; blocks = bs; facts = f; transit = ts; room = room })) en
    (subst (λ rs'. IsCourse measure s (record k { roles = rs'; pool = p; blocks = bs; facts = f; transit = ts; room = room })) er
    (subst (λ p'. IsCourse measure s (record k { pool = p'; blocks = bs; facts = f; transit = ts; room = room })) ep
    (subst (λ bs'. IsCourse measure s (record k { blocks = bs'; facts = f; transit = ts; room = room })) eb
    (subst (λ f'. IsCourse measure s (record k { facts = f'; transit = ts; room = room })) ef
    (subst (λ ts'. IsCourse measure s (record k { transit = ts'; room = room })) et
    (subst (λ o. IsCourse measure s (record k { room = o })) eo i)))))))

need-read : (ns : List NodeRules) (i : ℕ) (n : NodeRules) → i < length ns → n ≡ get_or ns i n → slice_index_or (map (λ (m : NodeRules). m.need) ns) i 0 ≡ n.need
need-read [] i n lt is = absurd (omega (arith, lt))
need-read (x ∷ ns) zero n lt is = ap (λ (m : NodeRules). m.need) (sym is)
need-read (x ∷ ns) (suc i) n lt is = need-read ns i n (omega (arith, lt)) is

-- the bytes of an array that a maker makes
pub need-is : (measure : Measuring) (s : Setting) (k : Parts) (v : ℕ) (n : NodeRules) → IsCourse measure s k → is_node s v ≡ true → is_maker s v ≡ true
    → n ≡ get_or k.rules.nodes (v - 1) n → n.need ≡ s.need v
need-is measure s k v n i h makes is =
    let p = place-of s v h in
    let there : v - 1 < length k.rules.nodes = omega (arith, p.1, ap length i.ruled.nodes, length-map k.rules.nodes as_node) in
    sym (need-read k.rules.nodes (v - 1) n there is) ∙ (ap (need_of k.rules) p.0 ∙ i.ruled.needs v (inr makes))

-- where nothing is on its way, the pool accounts for the log
pub still-account : (measure : Measuring) (s : Setting) (k : Parts) → IsCourse measure s k → k.transit ≡ [] → IsAccount s (log_of k) [] k.pool
still-account measure s k i still =
    subst (λ (ts : List FrameName). IsAccount s (log_of k) (flat_map (block_of (log_of k)) ts) k.pool) still i.account

-- and tells how much is held
pub held-is : (measure : Measuring) (s : Setting) (k : Parts) → IsCourse measure s k → k.transit ≡ [] → ledger.held k.pool ≡ held s (log_of k)
held-is measure s k i still = tell_laws.held s (log_of k) k.pool i.legal (still-account measure s k i still)

-- the first of an inbox is the next of the queue
pub next-popped : (measure : Measuring) (s : Setting) (k : Parts) (v : ℕ) (n : NodeState) (a : FrameName) → IsCourse measure s k → is_node s v ≡ true
    → slice_get k.nodes (v - 1) ≡ Some n → slice_get n.inbox.items 0 ≡ Some a → is_next a (queued v (log_of k)) ≡ true
next-popped measure s k v n a i h at front =
    let items : n.inbox.items ≡ queued v (log_of k) = ap (λ (b : InboxState FrameName). b.items) (node-is measure s k v n i h at).inbox in
    rw (first-of (queued v (log_of k)) a (subst (λ (xs : List FrameName). slice_get xs 0 ≡ Some a) items front)) (same_refl a)

-- and an empty one is an empty queue
pub none-popped : (measure : Measuring) (s : Setting) (k : Parts) (v : ℕ) (n : NodeState) → IsCourse measure s k → is_node s v ≡ true
    → slice_get k.nodes (v - 1) ≡ Some n → n.inbox.items ≡ [] → queued v (log_of k) ≡ []
none-popped measure s k v n i h at empty =
    sym (ap (λ (b : InboxState FrameName). b.items) (node-is measure s k v n i h at).inbox) ∙ empty

abbrev the_coursed : BoardState → List FrameName → Coursed
the_coursed b ts = record { told = b; transit = ts }

pub coursed-as : {b c : BoardState} {ts us : List FrameName} → b ≡ c → ts ≡ us → the_coursed b ts ≡ the_coursed c us
coursed-as {b} {c} {ts} {us} e f = ap (λ (x : BoardState). the_coursed x ts) e ∙ ap (λ (y : List FrameName). the_coursed c y) f

-- the piece in a hand, and its node
pub piece-held : (s : Setting) (k : Parts) (w : Coursed) (r v : ℕ) (a : FrameName) → seen k ≡ w → is_piece_on a (hand r (past w.told)) ≡ true
    → v ≡ hand_node (hand r (past w.told)) → (g : ℕ) × (hand r (log_of k) ≡ Some (Save r v a.maker a.index g))
piece-held s k w r v a is holds node_is =
    let p = piece_in r a (hand r (past w.told)) (names_role r (past w.told)) holds in (
      p.0,
      subst (λ (x : Coursed). hand r (past x.told) ≡ Some (Save r v a.maker a.index p.0)) (sym is)
          (subst (λ u. hand r (past w.told) ≡ Some (Save r u a.maker a.index p.0)) (sym node_is) p.1),
    )

pub piece-node : (measure : Measuring) (s : Setting) (k : Parts) (r v j l g : ℕ) → IsCourse measure s k
    → hand r (log_of k) ≡ Some (Save r v j l g) → is_node s v ≡ true
piece-node measure s k r v j l g i holds = file-node s v (piece-file s r r v j l g (log_of k) i.legal holds)

-- the loaded frame in a hand
pub load-held : (s : Setting) (k : Parts) (w : Coursed) (r j : ℕ) → seen k ≡ w → is_load_of j (hand r (past w.told)) ≡ true
    → (b n : ℕ) × (f : Bool) × (g : ℕ) × (x : Bool) × (hand r (log_of k) ≡ Some (Load r j b n f g x))
load-held s k w r j is holds =
    let p = (row_laws.issue s (past w.told) r j).0 holds in
    (p.0, p.1, p.2, p.3, p.4, subst (λ (x : Coursed). hand r (past x.told) ≡ Some (Load r j p.0 p.1 p.2 p.3 p.4)) (sym is) p.5)

rule-get : (ns : List NodeRules) (i : ℕ) (d : NodeRules) → i < length ns → slice_index_or (map as_node ns) i no_node ≡ as_node (get_or ns i d)
rule-get [] i d lt = absurd (omega (arith, lt))
rule-get (x ∷ ns) zero d lt = refl
rule-get (x ∷ ns) (suc i) d lt = rule-get ns i d (omega (arith, lt))

-- what a node does, as code reads it
pub work-at : (measure : Measuring) (s : Setting) (k : Parts) (v : ℕ) (d : NodeRules) (x : NodeWork) (ns : List NodeRules) → IsCourse measure s k
    → is_node s v ≡ true → ns ≡ k.rules.nodes → (get_or ns (v - 1) d).work ≡ x → (node s v).work ≡ as_work x
work-at measure s k v d x ns i h same is =
    let p = place-of s v h in
    let there : v - 1 < length k.rules.nodes = omega (arith, p.1, ap length i.ruled.nodes, length-map k.rules.nodes as_node) in
    let found : node s (suc (v - 1)) ≡ as_node (get_or k.rules.nodes (v - 1) d) =
    sym (ap (λ ms. slice_index_or ms (v - 1) no_node) i.ruled.nodes) ∙ rule-get k.rules.nodes (v - 1) d there in
    ap (λ u. (node s u).work) (sym p.0)
    ∙ (ap (λ (n : Node). n.work) found ∙ ap as_work (subst (λ (ms : List NodeRules). (get_or ms (v - 1) d).work ≡ x) same is))

pub group-saves : (w : Work) (whole : Bool) (count n l : ℕ) → w ≡ as_work (work.Saves whole count) → n ≡ l → n / count ≡ group_of w l
group-saves w whole count n l is same = rw is (ap (λ j. j / count) same)

pub group-none : (w : Work) (x : NodeWork) (n : ℕ) → w ≡ as_work x
    → (x ≡ work.Makes) ⊎ ((x ≡ work.Passes) ⊎ ((x ≡ work.Deals) ⊎ ((pre : ℕ) × (post : ℕ) × (preset : ℕ) × (x ≡ work.Watches pre post preset))))
    → 0 ≡ group_of w n
group-none w x n is other = sym (ap (λ (y : Work). group_of y n) is ∙ elim other [
  | inl makes ↦ ap (λ y. group_of (as_work y) n) makes
  | inr more ↦ elim more [
    | inl passes ↦ ap (λ y. group_of (as_work y) n) passes
    | inr rest ↦ elim rest [ inl deals ↦ ap (λ y. group_of (as_work y) n) deals | inr watches ↦ ap (λ y. group_of (as_work y) n) watches.3 ]
  ]
])

-- no more pieces of a node than frames
pub few-saves : (measure : Measuring) (s : Setting) (k : Parts) (v : ℕ) (n : NodeState) → IsCourse measure s k → is_node s v ≡ true
    → slice_get k.nodes (v - 1) ≡ Some n → n.saves ≤ 65536
few-saves measure s k v n i h at =
    let frames : length s.ids ≤ 65536 = omega (arith, ap length i.ruled.ids, i.ruled.few_frames) in
    omega (
      arith,
      (node-is measure s k v n i h at).pieces,
      ap length (saves-front s (log_of k) v i.legal),
      length-append (standing_saves v (log_of k)) (minus (puts v (log_of k)) (standing_saves v (log_of k))),
      puts-short s (log_of k) v i.legal,
      frames,
    )

-- a node with a thread is there
pub threads-node : (s : Setting) (v j : ℕ) → j < (node s v).threads → is_node s v ≡ true
threads-node s v j h = elim (cases_Bool (is_node s v)) [
  | inl here ↦ here
  | inr away ↦ absurd (omega (arith, h, ap (λ (n : Node). n.threads) (no-node s v away)))
]

-- what a request is granted
pub grant-is : (measure : Measuring) (s : Setting) (k : Parts) (n : ℕ) → IsCourse measure s k → k.transit ≡ [] → grant_for n k.pool ≡ grant s (log_of k) n
grant-is measure s k n i still = tell_laws.grants s (log_of k) n k.pool i.ruled.pooled i.legal (still-account measure s k i still)

-- a maker is there
pub maker-node : (s : Setting) (v : ℕ) → is_maker s v ≡ true → is_node s v ≡ true
maker-node s v h = elim (cases_Bool (is_node s v)) [
  | inl here ↦ here
  | inr away ↦ absurd (true≢false (sym h ∙ ap (λ (n : Node). makes n.work) (no-node s v away)))
]

need-get : (ns : List NodeRules) (j : ℕ) (d : NodeRules) → j < length ns → (get_or ns j d).need ≡ slice_index_or (map (λ (m : NodeRules). m.need) ns) j 0
need-get [] j d lt = absurd (omega (arith, lt))
need-get (x ∷ ns) zero d lt = refl
need-get (x ∷ ns) (suc j) d lt = need-get ns j d (omega (arith, lt))

pub need-at : (measure : Measuring) (s : Setting) (k : Parts) (v : ℕ) (d : NodeRules) (ns : List NodeRules) → IsCourse measure s k → v ≢ 0
    → (v ≡ 0) ⊎ (is_maker s v ≡ true) → ns ≡ k.rules.nodes → (get_or ns (v - 1) d).need ≡ s.need v
need-at measure s k v d ns i some (inl none) same = absurd (some none)
need-at measure s k v d ns i some (inr makes_) same =
    let p = place-of s v (maker-node s v makes_) in
    let there : v - 1 < length k.rules.nodes = omega (arith, p.1, ap length i.ruled.nodes, length-map k.rules.nodes as_node) in
    ap (λ (ms : List NodeRules). (get_or ms (v - 1) d).need) same
    ∙ (need-get k.rules.nodes (v - 1) d there ∙ (ap (need_of k.rules) p.0 ∙ i.ruled.needs v (inr makes_)))
