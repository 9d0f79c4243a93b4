-- What is kept of a run, after a step of the course.
use Rattle.std.proofs.Common.{◌≡◌, ◌≢◌, ◌≤◌, ◌<◌, ◌∙◌, ◌-◌, ℤ, filter, mul-le-mul_right, ℕ, ◌+◌, ◌*◌, suc, true, false, Bool, List, [], ◌∷◌, ◌++◌, Option, Some, None, length, map, set, drop, refl, sym, ap, subst, eqb, arith, length-append}
use Rattle.std.specs.Prelude.{slice_get, slice_index_or, vec_capacity, vec_len}
use Rattle.std.specs.List.{All, flat_map}
use Rattle.std.proofs.lemmas.List.Elements.{All-head, All-tail, All-cons, All-nil}
use Rattle.nd_base.specs.declared.frame.FrameName.{FrameName}
use Rattle.nd_base.specs.declared.measure.Measure.{Measure}
use Rattle.pool_ledger.specs.Ledger.{with_refs}
use Rattle.pool_ledger.specs.Ledger as ledger
use Rattle.flow_journal.specs.Setting.{Setting, is_sorted, id_at}
use Rattle.flow_journal.specs.Accounts.{block_of}
use Rattle.board_rules.specs.States.{plain, lends}
use Rattle.pool_account.specs.Account.{IsAccount}
use Rattle.pool_account.proofs.Laws.{tell_laws, hold_laws, array_laws}
use Rattle.course_parts.specs.declared.rules.Rules.{Rules}
use Rattle.course_parts.specs.declared.node.NodeState.{NodeState}
use Rattle.course_parts.specs.declared.hand.RoleState.{RoleState}
use Rattle.course_parts.specs.declared.facts.Facts.{Facts}
use Rattle.run_course.specs.Courses.{Parts, log_of, IsCourse}
use Rattle.flow_journal.specs.declared.entry.Entry.{Entry}
use Rattle.flow_journal.specs.declared.entry.Entry.TheVariants.{Load, LoadRefused, Tick, Issue, Emit, Accept, Full, Take, PoolDrop, Put, SortDrop, Settle, Save, Saved, Close, Leave}
use Rattle.flow_journal.specs.declared.entry.Why.{Why}
use Rattle.flow_journal.specs.Pasts.{Past, frame}
use Rattle.flow_journal.specs.Hands.{hand}
use Rattle.flow_journal.specs.Ended.{now}
use Rattle.flow_journal.specs.Queued.{has_room}
use Rattle.flow_journal.specs.Turns.{deals, has_just_emitted}
use Rattle.flow_journal.specs.Histories.{is_legal}
use Rattle.flow_journal.specs.LengthLaws.{most_entries}
use Rattle.flow_journal.proofs.Lengths.{length_laws}
use Rattle.queue_sort.specs.Inboxes.{with_last, without_front}
use Rattle.course_parts.specs.RunRules.{AreRules, as_node}
use Rattle.course_parts.specs.declared.hand.Hand.TheVariants.{Free, Job, Piece}
use Rattle.course_parts.specs.NodeStates.{IsNode, HasRoomToMeasure, HasRoomToSave, list_of, listed}
use Rattle.flow_journal.specs.Having.{HasBlock}
use Rattle.std.proofs.lemmas.List.{append-nil, length-map}
use Rattle.std.proofs.lemmas.Bool.{ne_eqb, true≢false, eq-eqb}
use Rattle.nd_base.specs.Parts.{Parts as Parts_of}
use Rattle.queue_sort.specs.Sorting.{SortState}
use Rattle.flow_journal.specs.Breaks.{prev}
use Rattle.flow_journal.specs.Rings.{ring}
use Rattle.flow_journal.specs.Waiting.{least_first}
use Rattle.flow_journal.proofs.Hands.{row_of}
use Rattle.flow_journal.proofs.AccountChanges.{block_laws}
use Rattle.flow_journal.proofs.Changes.{queue_laws}
use Rattle.flow_journal.proofs.Changes as changes
use Rattle.board_rules.proofs.Pasts.{past-length}
use Rattle.chain_plain.specs.OneThread.{listed as listed_one}
use Rattle.course_parts.specs.declared.node.Kept.{Kept}
use Rattle.run_course.proofs.Having.{queued-block, ring-blocks, hand-block}
use Rattle.run_course.proofs.Here.{here-emit, here-sort_drop, here-settle, here-save, here-saved, here-accept, here-take, here-pool_drop}
use Rattle.run_course.proofs.Roles.{role-up, role-down, role-leaves, IsOf, roles-kept}
use Rattle.run_course.proofs.FactsAfter.{facts-issue, facts-emit, facts-take, facts-pool_drop, facts-sort_drop, facts-settle, facts-save, facts-saved, few-of, facts-accept, facts-full, facts-tick, facts-load_refused, facts-close, facts-leave}
use Rattle.flow_journal.specs.Accepted.{emitted}
use Rattle.flow_journal.proofs.Steps.{comes_here}
use Rattle.run_course.proofs.Bounds.{emits-short}
use Rattle.run_course.proofs.Nodes.{nodes-kept, nodes-set}
use Rattle.run_course.proofs.Elsewhere.{same-load_refused, same-tick, same-issue, same-emit, same-accept, same-full, same-take, same-pool_drop, same-sort_drop, same-settle, same-save, same-saved, same-close, same-leave}
use Rattle.run_course.proofs.FrameBlocks.{found-block, blocks-kept}

abbrev pub Measuring : Type 0
Measuring = ℕ → FrameName → Option Measure

-- the block that is found for a frame
pub found-is : (measure : Measuring) (s : Setting) (k : Parts) (a : FrameName) (b : ℕ) → IsCourse measure s k → block_of (log_of k) a ≡ b ∷ []
    → slice_index_or k.blocks (a.maker * length k.rules.ids + a.index) 0 ≡ b
found-is measure s k a b i has =
    ap (λ ids. slice_index_or k.blocks (a.maker * length ids + a.index) 0) i.ruled.ids ∙ found-block s (log_of k) k.blocks a b i.blocks has

-- the array on its way has a block, with a hold
pub next-block : (measure : Measuring) (s : Setting) (k : Parts) (a : FrameName) (xs : List FrameName) → IsCourse measure s k
    → k.transit ≡ a ∷ xs → HasBlock (log_of k) a
next-block measure s k a xs i is = All-head (HasBlock (log_of k)) a xs (subst (All (HasBlock (log_of k))) is i.standing)

carrying : (measure : Measuring) (s : Setting) (k : Parts) (a : FrameName) (xs : List FrameName) (b : ℕ) → IsCourse measure s k → k.transit ≡ a ∷ xs
    → block_of (log_of k) a ≡ b ∷ [] → IsAccount s (log_of k) (b ∷ flat_map (block_of (log_of k)) xs) k.pool
carrying measure s k a xs b i is has =
    subst (λ ys. IsAccount s (log_of k) (ys ++ flat_map (block_of (log_of k)) xs) k.pool) has
    (subst (λ (ts : List FrameName). IsAccount s (log_of k) (flat_map (block_of (log_of k)) ts) k.pool) is i.account)

pub next-held : (measure : Measuring) (s : Setting) (k : Parts) (a : FrameName) (xs : List FrameName) (b : ℕ) → IsCourse measure s k → k.transit ≡ a ∷ xs
    → block_of (log_of k) a ≡ b ∷ [] → 0 < ledger.refs k.pool b
next-held measure s k a xs b i is has =
    tell_laws.carried s (log_of k) b k.pool (b ∷ flat_map (block_of (log_of k)) xs) (rw (eq-eqb b b refl) (omega arith))
    (carrying measure s k a xs b i is has)

-- it lets its hold go
pub released : (measure : Measuring) (s : Setting) (k : Parts) (a : FrameName) (xs : List FrameName) (b : ℕ) → IsCourse measure s k
    → k.transit ≡ a ∷ xs → block_of (log_of k) a ≡ b ∷ []
    → IsCourse measure s (record k { pool = with_refs b (ledger.refs k.pool b - 1) k.pool; transit = xs })
released measure s k a xs b i is has =
    record {
      ruled = i.ruled;
      legal = i.legal;
      nodes = i.nodes;
      roles = i.roles;
      account = hold_laws.drop s (log_of k) b k.pool (flat_map (block_of (log_of k)) xs) (carrying measure s k a xs b i is has);
      standing = All-tail (HasBlock (log_of k)) a xs (subst (All (HasBlock (log_of k))) is i.standing);
      blocks = i.blocks;
      facts = i.facts;
      log_room = i.log_room;
      reclaims = i.reclaims;
      moving = omega (arith, i.moving, ap length is);
      transit_room = i.transit_room;
    }

pub apart-more : {a b : ℕ} → a ≢ b → suc a ≢ suc b
apart-more ne e = ne (omega (arith, e))

-- ROOM

pub room-for : (measure : Measuring) (s : Setting) (k : Parts) (e : Entry) → IsCourse measure s k
    → is_legal s (e ∷ log_of k) ≡ true → length k.log.told < k.log.room
room-for measure s k e i legal = omega (arith, length_laws.entries s (e ∷ log_of k) legal, i.log_room, past-length k.log.told)

pub most-small : (ru : Rules) (s : Setting) → AreRules ru s → most_entries s ≤ 10748224
most-small ru s are =
    let frames : length s.ids ≤ 65536 = subst (λ (ids : List ℤ). length ids ≤ 65536) are.ids are.few_frames in
    let nodes : length s.nodes ≤ 32 = omega (arith, are.few_nodes, ap length are.nodes, length-map ru.nodes as_node) in
    let product : length s.ids * length s.nodes ≤ 65536 * 32 = omega (arith, mul-le-mul_right {m = length s.ids} {n = 65536} (length s.nodes) frames, nodes) in
    omega (arith, product, frames, nodes, are.few_threads)

-- how many entries of a kind there are
pub few-there : (measure : Measuring) (s : Setting) (k : Parts) (p : Entry → Bool) → IsCourse measure s k → length (filter p (log_of k)) ≤ 10748224
few-there measure s k p i = omega (arith, few-of p (log_of k), length_laws.entries s (log_of k) i.legal, most-small k.rules s i.ruled)

few-blocks : (P : Past) (xs : List FrameName) → length (flat_map (block_of P) xs) ≤ length xs
few-blocks P [] = omega arith
few-blocks P (x ∷ xs) = omega (arith, length-append (block_of P x) (flat_map (block_of P) xs), block_laws.one P x, few-blocks P xs)

-- no block has so many holds that one more couldn't be counted
pub holds-below : (measure : Measuring) (s : Setting) (k : Parts) (b : ℕ) → IsCourse measure s k → ledger.refs k.pool b < 4294967295
holds-below measure s k b i =
    tell_laws.holds_fit s (log_of k) b k.pool (flat_map (block_of (log_of k)) k.transit) (subst (λ (ids : List ℤ). length ids ≤ 65536) i.ruled.ids
    i.ruled.few_frames) (omega (arith, i.ruled.few_nodes, ap length i.ruled.nodes, length-map k.rules.nodes as_node)) i.ruled.few_threads
    (omega (arith, i.moving, few-blocks (log_of k) k.transit)) i.legal i.account

-- what is kept of a node, by its number
pub node-is : (measure : Measuring) (s : Setting) (k : Parts) (v c : ℕ) (n : NodeState) → suc c ≡ v → IsCourse measure s k
    → slice_get k.nodes c ≡ Some n → IsNode measure s v (log_of k) n
node-is measure s k v c n is i at = subst (λ u. IsNode measure s u (log_of k) n) is (i.nodes.each c n at)

pub listed-some : (v : ℕ) (measure : Measuring) (x : Measure) (xs : List FrameName) → length (flat_map (λ a. listed_one (measure v a)) xs) ≤ length xs
listed-some v measure x [] = omega arith
listed-some v measure x (a ∷ xs) =
    omega (
      arith,
      length-append (listed_one (measure v a)) (flat_map (λ b. listed_one (measure v b)) xs),
      one-listed (measure v a),
      listed-some v measure x xs,
    ) where
      one-listed : (o : Option Measure) → length (listed_one o) ≤ 1
      one-listed None = omega arith
      one-listed (Some y) = omega arith

-- a node that measures has room for one more
pub room-to-measure : (measure : Measuring) (s : Setting) (k : Parts) (v c m j : ℕ) (why : Why) (n : NodeState) (x : Measure) → suc c ≡ v → IsCourse measure s k
    → slice_get k.nodes c ≡ Some n → is_legal s (Emit v m j why ∷ log_of k) ≡ true
    → measure v (frame m j) ≡ Some x → vec_len n.measures < vec_capacity n.measures
room-to-measure measure s k v c m j why n x is i at legal some =
    let node_is = node-is measure s k v c n is i at in
    let short = emits-short s (Emit v m j why ∷ log_of k) v legal in
    let longer : length (emitted v (Emit v m j why ∷ log_of k)) ≡ length (emitted v (log_of k)) + 1 =
    ap length (comes_here v (frame m j) (emitted v (log_of k))) ∙ length-append (emitted v (log_of k)) (frame m j ∷ []) in
    let few = listed-some v measure x (emitted v (log_of k)) in
    omega (arith, short, longer, few, ap length node_is.measures, node_is.measures_room (frame m j) x some)

-- whose entries these are
of-this : (r : ℕ) (q : ℕ) → q ≢ r → eqb r q ≡ false
of-this r q ne = ne_eqb r q (λ e. ne (sym e))

issue-of : (r j : ℕ) → IsOf r (Issue r j)
issue-of r j q ne = (refl, of-this r q ne, refl, refl)

take-of : (r v m j : ℕ) → IsOf r (Take r v m j)
take-of r v m j q ne = (of-this r q ne, refl, refl, refl)

save-of : (r v m j g : ℕ) → IsOf r (Save r v m j g)
save-of r v m j g q ne = (of-this r q ne, refl, refl, refl)

saved-of : (r v m j : ℕ) → IsOf r (Saved r v m j)
saved-of r v m j q ne = (refl, of-this r q ne, refl, refl)

pub put-of : (r v m j : ℕ) (f : Bool) → IsOf r (Put r v m j f)
put-of r v m j f q ne = (refl, of-this r q ne, refl, refl)

-- nothing waits at a node without a sort list
pub none-listed : (measure : Measuring) (s : Setting) (v : ℕ) (P : Past) → is_sorted s v ≡ false → list_of measure s v P ≡ []
none-listed measure s v P plain_one = ap (λ ws. map (listed measure s v) (least_first s ws)) (changes.put_laws.unsorted s v P plain_one)

-- ENTRIES
pub ticked : (measure : Measuring) (s : Setting) (k : Parts) (t : ℕ) → IsCourse measure s k → is_legal s (Tick t ∷ log_of k) ≡ true → now (log_of k) ≤ t
    → IsCourse measure s (record k { log = record k.log { told = plain (Tick t) ∷ k.log.told }; facts = record k.facts { tick = t } })
ticked measure s k t i legal le =
    let P = log_of k in
    record {
      ruled = i.ruled;
      legal = legal;
      nodes = nodes-kept measure s P _ k.nodes i.nodes (λ v. same-tick s (suc v) t P legal le);
      roles = roles-kept s P _ k.roles i.roles (λ r. refl);
      account = array_laws.others s P (Tick t) k.pool (flat_map (block_of P) k.transit) refl legal i.account;
      standing = i.standing;
      blocks = blocks-kept s P _ k.blocks i.blocks (λ a. refl);
      facts = ap (λ (f : Facts). record f { tick = t }) i.facts ∙ sym (facts-tick s t P legal);
      log_room = i.log_room;
      reclaims = i.reclaims;
      moving = i.moving;
      transit_room = i.transit_room;
    }

pub refused : (measure : Measuring) (s : Setting) (k : Parts) (r j n h : ℕ) → IsCourse measure s k → is_legal s (LoadRefused r j n h ∷ log_of k) ≡ true
    → IsCourse measure s
    (record k { log = record k.log { told = plain (LoadRefused r j n h) ∷ k.log.told }; facts = record k.facts { offered = k.facts.offered + 1 } })
refused measure s k r j n h i legal =
    let P = log_of k in
    record {
      ruled = i.ruled;
      legal = legal;
      nodes = nodes-kept measure s P _ k.nodes i.nodes (λ v. same-load_refused s (suc v) r j n h P legal);
      roles = roles-kept s P _ k.roles i.roles (λ r. refl);
      account = array_laws.others s P (LoadRefused r j n h) k.pool (flat_map (block_of P) k.transit) refl legal i.account;
      standing = i.standing;
      blocks = blocks-kept s P _ k.blocks i.blocks (λ a. refl);
      facts = ap (λ (f : Facts). record f { offered = f.offered + 1 }) i.facts ∙ sym (facts-load_refused s r j n h P legal);
      log_room = i.log_room;
      reclaims = i.reclaims;
      moving = i.moving;
      transit_room = i.transit_room;
    }

pub closed : (measure : Measuring) (s : Setting) (k : Parts) (r : ℕ) → IsCourse measure s k → is_legal s (Close r ∷ log_of k) ≡ true
    → IsCourse measure s (record k { log = record k.log { told = plain (Close r) ∷ k.log.told }; facts = record k.facts { closed = true } })
closed measure s k r i legal =
    let P = log_of k in
    record {
      ruled = i.ruled;
      legal = legal;
      nodes = nodes-kept measure s P _ k.nodes i.nodes (λ v. same-close s (suc v) r P legal);
      roles = roles-kept s P _ k.roles i.roles (λ r. refl);
      account = array_laws.others s P (Close r) k.pool (flat_map (block_of P) k.transit) refl legal i.account;
      standing = i.standing;
      blocks = blocks-kept s P _ k.blocks i.blocks (λ a. refl);
      facts = ap (λ (f : Facts). record f { closed = true }) i.facts ∙ sym (facts-close s r P legal);
      log_room = i.log_room;
      reclaims = i.reclaims;
      moving = i.moving;
      transit_room = i.transit_room;
    }

pub accepted : (measure : Measuring) (s : Setting) (k : Parts) (c m j b : ℕ) (n : NodeState) → IsCourse measure s k
    → is_legal s (Accept (suc c) m j ∷ log_of k) ≡ true → slice_get k.nodes c ≡ Some n → has_room s (log_of k) (suc c) ≡ true
    → ((v : ℕ) → deals s v ≡ true → has_just_emitted v (log_of k) ≡ false) → block_of (log_of k) (frame m j) ≡ b ∷ [] → 0 < ledger.refs k.pool b
    → IsCourse measure s (record k {
      log = record k.log { told = plain (Accept (suc c) m j) ∷ k.log.told };
      nodes = set k.nodes c (record n { inbox = with_last n.inbox (frame m j) });
      pool = with_refs b (ledger.refs k.pool b + 1) k.pool;
      facts = record k.facts { came = k.facts.came + 1 };
    })
accepted measure s k c m j b n i legal at room together has some =
    let P = log_of k in
    record {
      ruled = i.ruled;
      legal = legal;
      nodes =
          nodes-set measure s P (Accept (suc c) m j ∷ P) k.nodes c _ i.nodes (here-accept measure s (suc c) m j P n (i.nodes.each c n at) room
          (together (suc c))) (λ v ne. same-accept s (suc v) (suc c) m j P legal (apart-more ne) (together (suc v)));
      roles = roles-kept s P _ k.roles i.roles (λ r. refl);
      account =
          array_laws.accept s P (suc c) m j (with_refs b (ledger.refs k.pool b + 1) k.pool) (b ∷ []) (flat_map (block_of P) k.transit) has legal
          (hold_laws.hold s P b k.pool (flat_map (block_of P) k.transit) some i.account);
      standing = i.standing;
      blocks = blocks-kept s P _ k.blocks i.blocks (λ a. refl);
      facts = ap (λ (f : Facts). record f { came = f.came + 1 }) i.facts ∙ sym (facts-accept s (suc c) m j P legal);
      log_room = i.log_room;
      reclaims = i.reclaims;
      moving = i.moving;
      transit_room = i.transit_room;
    }

pub filled : (measure : Measuring) (s : Setting) (k : Parts) (v m j : ℕ) → IsCourse measure s k → is_legal s (Full v m j ∷ log_of k) ≡ true
    → ((u : ℕ) → deals s u ≡ true → has_just_emitted u (log_of k) ≡ false)
    → IsCourse measure s (record k {
      log = record k.log { told = plain (Full v m j) ∷ k.log.told };
      facts = record k.facts { came = k.facts.came + 1; dropped = k.facts.dropped + 1 };
    })
filled measure s k v m j i legal together =
    let P = log_of k in
    record {
      ruled = i.ruled;
      legal = legal;
      nodes = nodes-kept measure s P _ k.nodes i.nodes (λ u. same-full s (suc u) v m j P legal (together (suc u)));
      roles = roles-kept s P _ k.roles i.roles (λ r. refl);
      account = array_laws.others s P (Full v m j) k.pool (flat_map (block_of P) k.transit) refl legal i.account;
      standing = i.standing;
      blocks = blocks-kept s P _ k.blocks i.blocks (λ a. refl);
      facts = ap (λ (f : Facts). record f { came = f.came + 1; dropped = f.dropped + 1 }) i.facts ∙ sym (facts-full s v m j P legal);
      log_room = i.log_room;
      reclaims = i.reclaims;
      moving = i.moving;
      transit_room = i.transit_room;
    }

pub left_by : (measure : Measuring) (s : Setting) (k : Parts) (r : ℕ) (x : RoleState) → IsCourse measure s k
    → is_legal s (Leave r ∷ log_of k) ≡ true → slice_get k.roles r ≡ Some x
    → IsCourse measure s (record k {
      log = record k.log { told = plain (Leave r) ∷ k.log.told };
      roles = set k.roles r (record x { has_left = true });
      facts = record k.facts { left = true };
    })
left_by measure s k r x i legal at =
    let P = log_of k in
    record {
      ruled = i.ruled;
      legal = legal;
      nodes = nodes-kept measure s P _ k.nodes i.nodes (λ v. same-leave s (suc v) r P legal);
      roles = role-leaves s r P k.roles x i.roles at;
      account = array_laws.others s P (Leave r) k.pool (flat_map (block_of P) k.transit) refl legal i.account;
      standing = i.standing;
      blocks = blocks-kept s P _ k.blocks i.blocks (λ a. refl);
      facts = ap (λ (f : Facts). record f { left = true }) i.facts ∙ sym (facts-leave s r P legal);
      log_room = i.log_room;
      reclaims = i.reclaims;
      moving = i.moving;
      transit_room = i.transit_room;
    }

pub issued : (measure : Measuring) (s : Setting) (k : Parts) (r j : ℕ) (x : RoleState) (q b n : ℕ) (f : Bool) (g : ℕ) (w : Bool) → IsCourse measure s k
    → is_legal s (Issue r j ∷ log_of k) ≡ true → slice_get k.roles r ≡ Some x → k.transit ≡ [] → hand r (log_of k) ≡ Some (Load q j b n f g w)
    → IsCourse measure s (record k {
      log = record k.log { told = plain (Issue r j) ∷ k.log.told };
      roles = set k.roles r (record x { hand = Free });
      facts = record k.facts { loaded = false };
      transit = frame 0 j ∷ [];
    })
issued measure s k r j x q b n f g w i legal at empty held =
    let P = log_of k in
    record {
      ruled = i.ruled;
      legal = legal;
      nodes = nodes-kept measure s P _ k.nodes i.nodes (λ v. same-issue s (suc v) r j (Load q j b n f g w) P legal held refl refl);
      roles = role-down s r (Issue r j) P k.roles x i.roles at (issue-of r j) legal (eq-eqb r r refl) refl refl;
      account =
          array_laws.issue s P r j k.pool (block_of P (frame 0 j)) [] refl legal
          (subst (λ (ts : List FrameName). IsAccount s P (flat_map (block_of P) ts) k.pool) empty i.account);
      standing = All-cons (HasBlock P) (frame 0 j) [] (b, block_laws.in_hand_load s r q j b n f g w P i.legal held) (All-nil (HasBlock P));
      blocks = blocks-kept s P _ k.blocks i.blocks (λ a. refl);
      facts = ap (λ (f : Facts). record f { loaded = false }) i.facts ∙ sym (facts-issue s r j (Load q j b n f g w) P legal i.legal held refl);
      log_room = i.log_room;
      reclaims = i.reclaims;
      moving = omega arith;
      transit_room = i.transit_room;
    }

pub emitted_by_driver : (measure : Measuring) (s : Setting) (k : Parts) (m j : ℕ) (why : Why) → IsCourse measure s k
    → is_legal s (Emit 0 m j why ∷ log_of k) ≡ true
    → IsCourse measure s (record k { log = record k.log { told = plain (Emit 0 m j why) ∷ k.log.told } })
emitted_by_driver measure s k m j why i legal =
    let P = log_of k in
    record {
      ruled = i.ruled;
      legal = legal;
      nodes = nodes-kept measure s P _ k.nodes i.nodes (λ v. same-emit s (suc v) 0 m j why P legal (λ e. absurd (omega (arith, e))));
      roles = roles-kept s P _ k.roles i.roles (λ r. refl);
      account = array_laws.emit_unsorted s P 0 m j why k.pool (flat_map (block_of P) k.transit) refl legal i.account;
      standing = i.standing;
      blocks = blocks-kept s P _ k.blocks i.blocks (λ a. refl);
      facts = i.facts ∙ sym (facts-emit s 0 m j why P legal);
      log_room = i.log_room;
      reclaims = i.reclaims;
      moving = i.moving;
      transit_room = i.transit_room;
    }

pub emitted_at_once : (measure : Measuring) (s : Setting) (k : Parts) (c m j : ℕ) (why : Why) (n y : NodeState) → IsCourse measure s k
    → is_legal s (Emit (suc c) m j why ∷ log_of k) ≡ true → slice_get k.nodes c ≡ Some n → is_sorted s (suc c) ≡ false → y.list ≡ n.list
    → y.measures.items ≡ n.measures.items ++ listed_one (measure (suc c) (frame m j)) → HasRoomToMeasure measure s (suc c) y
    → IsCourse measure s (record k {
      log = record k.log { told = plain (Emit (suc c) m j why) ∷ k.log.told };
      nodes = set k.nodes c (record n { list = y.list; measures = y.measures });
    })
emitted_at_once measure s k c m j why n y i legal at plain_one same items room =
    let P = log_of k in
    record {
      ruled = i.ruled;
      legal = legal;
      nodes =
          nodes-set measure s P (Emit (suc c) m j why ∷ P) k.nodes c _ i.nodes
          (here-emit measure s (suc c) m j why P n y (i.nodes.each c n at) legal (ap (λ (l : SortState Kept). l.size) same ∙ (i.nodes.each c n at).list_size)
          (λ h. absurd (true≢false (sym h ∙ plain_one))) (ap (λ (l : SortState Kept). l.waiting) same ∙ ((i.nodes.each c n at).waits
          ∙ (none-listed measure s (suc c) P plain_one ∙ sym (none-listed measure s (suc c) (Emit (suc c) m j why ∷ P) plain_one)))) items room)
          (λ v ne. same-emit s (suc v) (suc c) m j why P legal (apart-more ne));
      roles = roles-kept s P _ k.roles i.roles (λ r. refl);
      account = array_laws.emit_unsorted s P (suc c) m j why k.pool (flat_map (block_of P) k.transit) plain_one legal i.account;
      standing = i.standing;
      blocks = blocks-kept s P _ k.blocks i.blocks (λ a. refl);
      facts = i.facts ∙ sym (facts-emit s (suc c) m j why P legal);
      log_room = i.log_room;
      reclaims = i.reclaims;
      moving = i.moving;
      transit_room = i.transit_room;
    }

-- an array goes out of the list while others are on their way
pub emitted_more : (measure : Measuring) (s : Setting) (k : Parts) (c m j : ℕ) (why : Why) (n y : NodeState) → IsCourse measure s k
    → is_legal s (Emit (suc c) m j why ∷ log_of k) ≡ true → slice_get k.nodes c ≡ Some n → is_sorted s (suc c) ≡ true → length k.transit ≤ 4096
    → HasBlock (log_of k) (frame m j) → y.list.size ≡ n.list.size → y.list.last ≡ id_at s j
    → y.list.waiting ≡ list_of measure s (suc c) (Emit (suc c) m j why ∷ log_of k)
    → y.measures.items ≡ n.measures.items ++ listed_one (measure (suc c) (frame m j)) → HasRoomToMeasure measure s (suc c) y
    → IsCourse measure s (record k {
      log = record k.log { told = plain (Emit (suc c) m j why) ∷ k.log.told };
      nodes = set k.nodes c (record n { list = y.list; measures = y.measures });
      transit = frame m j ∷ k.transit;
    })
emitted_more measure s k c m j why n y i legal at sorted few has size last waits items room =
    let P = log_of k in
    record {
      ruled = i.ruled;
      legal = legal;
      nodes =
          nodes-set measure s P (Emit (suc c) m j why ∷ P) k.nodes c _ i.nodes (here-emit measure s (suc c) m j why P n y (i.nodes.each c n at) legal
          (size ∙ (i.nodes.each c n at).list_size) (λ h. last) waits items room) (λ v ne. same-emit s (suc v) (suc c) m j why P legal (apart-more ne));
      roles = roles-kept s P _ k.roles i.roles (λ r. refl);
      account =
          array_laws.emit_sorted s P (suc c) m j why k.pool (block_of P (frame m j)) (flat_map (block_of P) k.transit) sorted refl legal i.account;
      standing = All-cons (HasBlock P) (frame m j) k.transit has i.standing;
      blocks = blocks-kept s P _ k.blocks i.blocks (λ a. refl);
      facts = i.facts ∙ sym (facts-emit s (suc c) m j why P legal);
      log_room = i.log_room;
      reclaims = i.reclaims;
      moving = omega (arith, few);
      transit_room = i.transit_room;
    }

-- and where none are
pub emitted_from_list : (measure : Measuring) (s : Setting) (k : Parts) (c m j : ℕ) (why : Why) (n y : NodeState) → IsCourse measure s k
    → is_legal s (Emit (suc c) m j why ∷ log_of k) ≡ true → slice_get k.nodes c ≡ Some n → is_sorted s (suc c) ≡ true → k.transit ≡ []
    → HasBlock (log_of k) (frame m j) → y.list.size ≡ n.list.size → y.list.last ≡ id_at s j
    → y.list.waiting ≡ list_of measure s (suc c) (Emit (suc c) m j why ∷ log_of k)
    → y.measures.items ≡ n.measures.items ++ listed_one (measure (suc c) (frame m j)) → HasRoomToMeasure measure s (suc c) y
    → IsCourse measure s (record k {
      log = record k.log { told = plain (Emit (suc c) m j why) ∷ k.log.told };
      nodes = set k.nodes c (record n { list = y.list; measures = y.measures });
      transit = frame m j ∷ [];
    })
emitted_from_list measure s k c m j why n y i legal at sorted empty has size last waits items room =
    subst (λ (ts : List FrameName). IsCourse measure s (record k {
      log = record k.log { told = plain (Emit (suc c) m j why) ∷ k.log.told };
      nodes = set k.nodes c (record n { list = y.list; measures = y.measures });
      transit = frame m j ∷ ts;
    })) empty
    (emitted_more measure s k c m j why n y i legal at sorted (omega (arith, ap length empty)) has size last waits items room)

pub took : (measure : Measuring) (s : Setting) (k : Parts) (r c m j : ℕ) (x : RoleState) (n : NodeState) (part : Option Parts_of) → IsCourse measure s k
    → is_legal s (Take r (suc c) m j ∷ log_of k) ≡ true → slice_get k.roles r ≡ Some x → slice_get k.nodes c ≡ Some n
    → IsCourse measure s (record k {
      log = record k.log { told = lends (Take r (suc c) m j) part ∷ k.log.told };
      nodes = set k.nodes c
          (record n { inbox = without_front n.inbox; jobs = n.jobs + 1 });
      roles = set k.roles r (record x { hand = Job (suc c) (frame m j) None });
    })
took measure s k r c m j x n part i legal at here =
    let P = log_of k in
    record {
      ruled = i.ruled;
      legal = legal;
      nodes =
          nodes-set measure s P (Take r (suc c) m j ∷ P) k.nodes c _ i.nodes (here-take measure s r (suc c) m j P n (i.nodes.each c n here) legal)
          (λ v ne. same-take s (suc v) r (suc c) m j P legal (apart-more ne));
      roles = role-up s r (Take r (suc c) m j) P k.roles x i.roles at (take-of r (suc c) m j) (eq-eqb r r refl) refl refl;
      account = array_laws.others s P (Take r (suc c) m j) k.pool (flat_map (block_of P) k.transit) refl legal i.account;
      standing = i.standing;
      blocks = blocks-kept s P _ k.blocks i.blocks (λ a. refl);
      facts = i.facts ∙ sym (facts-take s r (suc c) m j P legal);
      log_room = i.log_room;
      reclaims = i.reclaims;
      moving = i.moving;
      transit_room = i.transit_room;
    }

pub dropped_by_pool : (measure : Measuring) (s : Setting) (k : Parts) (r c m j need held : ℕ) (n : NodeState) → IsCourse measure s k
    → is_legal s (PoolDrop r (suc c) m j need held ∷ log_of k) ≡ true → slice_get k.nodes c ≡ Some n → k.transit ≡ []
    → IsCourse measure s (record k {
      log = record k.log { told = plain (PoolDrop r (suc c) m j need held) ∷ k.log.told };
      nodes = set k.nodes c (record n { inbox = without_front n.inbox });
      facts = record k.facts { dropped = k.facts.dropped + 1 };
      transit = frame m j ∷ [];
    })
dropped_by_pool measure s k r c m j need held n i legal here empty =
    let P = log_of k in
    record {
      ruled = i.ruled;
      legal = legal;
      nodes =
          nodes-set measure s P (PoolDrop r (suc c) m j need held ∷ P) k.nodes c _ i.nodes (here-pool_drop measure s r (suc c) m j need held P n
          (i.nodes.each c n here) legal) (λ v ne. same-pool_drop s (suc v) r (suc c) m j need held P legal (apart-more ne));
      roles = roles-kept s P _ k.roles i.roles (λ r. refl);
      account =
          array_laws.pool_drop s P r (suc c) m j need held k.pool (block_of P (frame m j)) [] refl legal
          (subst (λ (ts : List FrameName). IsAccount s P (flat_map (block_of P) ts) k.pool) empty i.account);
      standing =
          All-cons (HasBlock P) (frame m j) [] (queued-block s (suc c) P (frame m j) _ i.legal
          (queue_laws.pool_drop s r (suc c) m j need held P (row_of s (PoolDrop r (suc c) m j need held) P (λ d. refl) legal))) (All-nil (HasBlock P));
      blocks = blocks-kept s P _ k.blocks i.blocks (λ a. refl);
      facts = ap (λ (f : Facts). record f { dropped = f.dropped + 1 }) i.facts ∙ sym (facts-pool_drop s r (suc c) m j need held P legal);
      log_room = i.log_room;
      reclaims = i.reclaims;
      moving = omega arith;
      transit_room = i.transit_room;
    }

pub dropped_by_list : (measure : Measuring) (s : Setting) (k : Parts) (c m j : ℕ) (n y : NodeState) → IsCourse measure s k
    → is_legal s (SortDrop (suc c) m j ∷ log_of k) ≡ true → slice_get k.nodes c ≡ Some n → is_sorted s (suc c) ≡ true → HasBlock (log_of k) (frame m j)
    → y.list.size ≡ n.list.size → y.list.last ≡ prev s (suc c) (log_of k)
    → y.list.waiting ≡ list_of measure s (suc c) (SortDrop (suc c) m j ∷ log_of k) → length k.transit ≤ 4096
    → IsCourse measure s (record k {
      log = record k.log { told = plain (SortDrop (suc c) m j) ∷ k.log.told };
      nodes = set k.nodes c (record n { list = y.list });
      facts = record k.facts { dropped = k.facts.dropped + 1 };
      transit = frame m j ∷ k.transit;
    })
dropped_by_list measure s k c m j n y i legal here sorted has size last waits few =
    let P = log_of k in
    record {
      ruled = i.ruled;
      legal = legal;
      nodes =
          nodes-set measure s P (SortDrop (suc c) m j ∷ P) k.nodes c _ i.nodes (here-sort_drop measure s (suc c) m j P n y (i.nodes.each c n here) legal
          (size ∙ (i.nodes.each c n here).list_size) (λ h. last) waits) (λ v ne. same-sort_drop s (suc v) (suc c) m j P legal (apart-more ne));
      roles = roles-kept s P _ k.roles i.roles (λ r. refl);
      account = array_laws.sort_drop s P (suc c) m j k.pool (block_of P (frame m j)) (flat_map (block_of P) k.transit) sorted refl legal i.account;
      standing = All-cons (HasBlock P) (frame m j) k.transit has i.standing;
      blocks = blocks-kept s P _ k.blocks i.blocks (λ a. refl);
      facts = ap (λ (f : Facts). record f { dropped = f.dropped + 1 }) i.facts ∙ sym (facts-sort_drop s (suc c) m j P legal);
      log_room = i.log_room;
      reclaims = i.reclaims;
      moving = omega (arith, few);
      transit_room = i.transit_room;
    }

pub settled_with : (measure : Measuring) (s : Setting) (k : Parts) (r c : ℕ) (n y : NodeState) → IsCourse measure s k
    → is_legal s (Settle r (suc c) ∷ log_of k) ≡ true → slice_get k.nodes c ≡ Some n → k.transit ≡ [] → y.window.ring ≡ [] → y.window.pending ≡ []
    → length (ring s (suc c) (log_of k)) ≤ 4097
    → IsCourse measure s (record k {
      log = record k.log { told = plain (Settle r (suc c)) ∷ k.log.told };
      nodes = set k.nodes c (record n { settled = true; window = y.window });
      transit = ring s (suc c) (log_of k);
    })
settled_with measure s k r c n y i legal here empty none pending few =
    let P = log_of k in
    record {
      ruled = i.ruled;
      legal = legal;
      nodes =
          nodes-set measure s P (Settle r (suc c) ∷ P) k.nodes c _ i.nodes (here-settle measure s r (suc c) P n y (i.nodes.each c n here) legal none pending)
          (λ v ne. same-settle s (suc v) r (suc c) P legal (apart-more ne));
      roles = roles-kept s P _ k.roles i.roles (λ r. refl);
      account =
          subst (λ xs. IsAccount s (Settle r (suc c) ∷ P) xs k.pool) (append-nil (flat_map (block_of P) (ring s (suc c) P))) (array_laws.settle s P
          r (suc c) k.pool [] legal (subst (λ (ts : List FrameName). IsAccount s P (flat_map (block_of P) ts) k.pool) empty i.account));
      standing = ring-blocks s (suc c) P i.legal;
      blocks = blocks-kept s P _ k.blocks i.blocks (λ a. refl);
      facts = i.facts ∙ sym (facts-settle s r (suc c) P legal);
      log_room = i.log_room;
      reclaims = i.reclaims;
      moving = few;
      transit_room = i.transit_room;
    }

pub saving_one : (measure : Measuring) (s : Setting) (k : Parts) (r c m j g : ℕ) (x : RoleState) (n y : NodeState) (part : Option Parts_of)
    → IsCourse measure s k → is_legal s (Save r (suc c) m j g ∷ log_of k) ≡ true → slice_get k.roles r ≡ Some x → slice_get k.nodes c ≡ Some n
    → y.unsaved.items ≡ drop 1 n.unsaved.items → HasRoomToSave s (suc c) y
    → IsCourse measure s (record k {
      log = record k.log { told = lends (Save r (suc c) m j g) part ∷ k.log.told };
      nodes = set k.nodes c
          (record n { unsaved = y.unsaved; saves = n.saves + 1; saving = true });
      roles = set k.roles r (record x { hand = Piece (suc c) (frame m j) });
    })
saving_one measure s k r c m j g x n y part i legal at here items room =
    let P = log_of k in
    record {
      ruled = i.ruled;
      legal = legal;
      nodes =
          nodes-set measure s P (Save r (suc c) m j g ∷ P) k.nodes c _ i.nodes (here-save measure s r (suc c) m j g P n y
          (i.nodes.each c n here) i.legal legal items room) (λ v ne. same-save s (suc v) r (suc c) m j g P legal (apart-more ne));
      roles = role-up s r (Save r (suc c) m j g) P k.roles x i.roles at (save-of r (suc c) m j g) (eq-eqb r r refl) refl refl;
      account = array_laws.others s P (Save r (suc c) m j g) k.pool (flat_map (block_of P) k.transit) refl legal i.account;
      standing = i.standing;
      blocks = blocks-kept s P _ k.blocks i.blocks (λ a. refl);
      facts = i.facts ∙ sym (facts-save s r (suc c) m j g P legal);
      log_room = i.log_room;
      reclaims = i.reclaims;
      moving = i.moving;
      transit_room = i.transit_room;
    }

pub saved_one : (measure : Measuring) (s : Setting) (k : Parts) (r c m j q g : ℕ) (x : RoleState) (n : NodeState) → IsCourse measure s k
    → is_legal s (Saved r (suc c) m j ∷ log_of k) ≡ true → slice_get k.roles r ≡ Some x → slice_get k.nodes c ≡ Some n → k.transit ≡ []
    → hand r (log_of k) ≡ Some (Save q (suc c) m j g)
    → IsCourse measure s
    (record k {
      log = record k.log { told = plain (Saved r (suc c) m j) ∷ k.log.told };
      nodes = set k.nodes c (record n { saving = false });
      roles = set k.roles r (record x { hand = Free });
      facts = record k.facts { saved = k.facts.saved + 1 };
      transit = frame m j ∷ [];
    })
saved_one measure s k r c m j q g x n i legal at here empty held =
    let P = log_of k in
    record {
      ruled = i.ruled;
      legal = legal;
      nodes =
          nodes-set measure s P (Saved r (suc c) m j ∷ P) k.nodes c _ i.nodes (here-saved measure s r (suc c) m j q m j g P n (i.nodes.each c n here) i.legal
          legal held) (λ v ne. same-saved s (suc v) r (suc c) m j (Save q (suc c) m j g) P legal held refl (ne_eqb (suc c) (suc v) (apart-more ne)));
      roles = role-down s r (Saved r (suc c) m j) P k.roles x i.roles at (saved-of r (suc c) m j) legal (eq-eqb r r refl) refl refl;
      account =
          array_laws.saved s P r (suc c) m j k.pool (block_of P (frame m j)) [] refl legal
          (subst (λ (ts : List FrameName). IsAccount s P (flat_map (block_of P) ts) k.pool) empty i.account);
      standing = All-cons (HasBlock P) (frame m j) [] (hand-block s r (Save q (suc c) m j g) (frame m j) P i.legal held (λ h. h)) (All-nil (HasBlock P));
      blocks = blocks-kept s P _ k.blocks i.blocks (λ a. refl);
      facts = ap (λ (f : Facts). record f { saved = f.saved + 1 }) i.facts ∙ sym (facts-saved s r (suc c) m j (Save q (suc c) m j g) P legal held refl);
      log_room = i.log_room;
      reclaims = i.reclaims;
      moving = omega arith;
      transit_room = i.transit_room;
    }

-- AT A NODE
-- The same of a node by its number, where its state stands at the place before.
pub accepted_at : (measure : Measuring) (s : Setting) (k : Parts) (v : ℕ) (c m j b : ℕ) (n : NodeState) → suc c ≡ v → IsCourse measure s k
    → is_legal s (Accept v m j ∷ log_of k) ≡ true → slice_get k.nodes c ≡ Some n → has_room s (log_of k) v ≡ true
    → ((v : ℕ) → deals s v ≡ true → has_just_emitted v (log_of k) ≡ false) → block_of (log_of k) (frame m j) ≡ b ∷ [] → 0 < ledger.refs k.pool b
    → IsCourse measure s
    (record k {
      log = record k.log { told = plain (Accept v m j) ∷ k.log.told };
      nodes = set k.nodes c (record n { inbox = with_last n.inbox (frame m j) });
      pool = with_refs b (ledger.refs k.pool b + 1) k.pool;
      facts = record k.facts { came = k.facts.came + 1 };
    })
accepted_at measure s k v c m j b n is i =
    subst (λ u. is_legal s (Accept u m j ∷ log_of k) ≡ true → slice_get k.nodes c ≡ Some n → has_room s (log_of k) u ≡ true → ((v : ℕ) → deals s v ≡ true
    → has_just_emitted v (log_of k) ≡ false) → block_of (log_of k) (frame m j) ≡ b ∷ [] → 0 < ledger.refs k.pool b → IsCourse measure s
    (record k {
      log = record k.log { told = plain (Accept u m j) ∷ k.log.told };
      nodes = set k.nodes c (record n { inbox = with_last n.inbox (frame m j) });
      pool = with_refs b (ledger.refs k.pool b + 1) k.pool;
      facts = record k.facts { came = k.facts.came + 1 };
    })) is (accepted measure s k c m j b n i)

pub emitted_at_once_at : (measure : Measuring) (s : Setting) (k : Parts) (v : ℕ) (c m j : ℕ) (why : Why) (n y : NodeState) → suc c ≡ v → IsCourse measure s k
    → is_legal s (Emit v m j why ∷ log_of k) ≡ true → slice_get k.nodes c ≡ Some n → is_sorted s v ≡ false → y.list ≡ n.list
    → y.measures.items ≡ n.measures.items ++ listed_one (measure v (frame m j)) → HasRoomToMeasure measure s v y
    → IsCourse measure s
    (record k { log = record k.log { told = plain (Emit v m j why) ∷ k.log.told }; nodes = set k.nodes c (record n { list = y.list; measures = y.measures }) })
emitted_at_once_at measure s k v c m j why n y is i =
    subst (λ u. is_legal s (Emit u m j why ∷ log_of k) ≡ true → slice_get k.nodes c ≡ Some n → is_sorted s u ≡ false → y.list ≡ n.list
    → y.measures.items ≡ n.measures.items ++ listed_one (measure u (frame m j)) → HasRoomToMeasure measure s u y → IsCourse measure s
    (record k { log = record k.log { told = plain (Emit u m j why) ∷ k.log.told }; nodes = set k.nodes c (record n { list = y.list; measures = y.measures }) }))
    is (emitted_at_once measure s k c m j why n y i)

pub emitted_from_list_at : (measure : Measuring) (s : Setting) (k : Parts) (v : ℕ) (c m j : ℕ) (why : Why) (n y : NodeState) → suc c ≡ v → IsCourse measure s k
    → is_legal s (Emit v m j why ∷ log_of k) ≡ true → slice_get k.nodes c ≡ Some n → is_sorted s v ≡ true → k.transit ≡ [] → HasBlock (log_of k) (frame m j)
    → y.list.size ≡ n.list.size → y.list.last ≡ id_at s j → y.list.waiting ≡ list_of measure s v (Emit v m j why ∷ log_of k)
    → y.measures.items ≡ n.measures.items ++ listed_one (measure v (frame m j)) → HasRoomToMeasure measure s v y
    → IsCourse measure s (record k {
      log = record k.log { told = plain (Emit v m j why) ∷ k.log.told };
      nodes = set k.nodes c (record n { list = y.list; measures = y.measures });
      transit = frame m j ∷ [];
    })
emitted_from_list_at measure s k v c m j why n y is i =
    subst (λ u. is_legal s (Emit u m j why ∷ log_of k) ≡ true → slice_get k.nodes c ≡ Some n → is_sorted s u ≡ true → k.transit ≡ []
    → HasBlock (log_of k) (frame m j) → y.list.size ≡ n.list.size → y.list.last ≡ id_at s j → y.list.waiting ≡ list_of measure s u (Emit u m j why ∷ log_of k)
    → y.measures.items ≡ n.measures.items ++ listed_one (measure u (frame m j)) → HasRoomToMeasure measure s u y
    → IsCourse measure s (record k {
      log = record k.log { told = plain (Emit u m j why) ∷ k.log.told };
      nodes = set k.nodes c (record n { list = y.list; measures = y.measures });
      transit = frame m j ∷ [];
    })) is (emitted_from_list measure s k c m j why n y i)

pub took_at : (measure : Measuring) (s : Setting) (k : Parts) (v : ℕ) (r c m j : ℕ) (x : RoleState) (n : NodeState) (part : Option Parts_of) → suc c ≡ v
    → IsCourse measure s k → is_legal s (Take r v m j ∷ log_of k) ≡ true → slice_get k.roles r ≡ Some x → slice_get k.nodes c ≡ Some n
    → IsCourse measure s (record k {
      log = record k.log { told = lends (Take r v m j) part ∷ k.log.told };
      nodes = set k.nodes c (record n { inbox = without_front n.inbox; jobs = n.jobs + 1 });
      roles = set k.roles r (record x { hand = Job v (frame m j) None });
    })
took_at measure s k v r c m j x n part is i =
    subst (λ u. is_legal s (Take r u m j ∷ log_of k) ≡ true → slice_get k.roles r ≡ Some x → slice_get k.nodes c ≡ Some n
    → IsCourse measure s (record k {
      log = record k.log { told = lends (Take r u m j) part ∷ k.log.told };
      nodes = set k.nodes c
          (record n { inbox = without_front n.inbox; jobs = n.jobs + 1 });
      roles = set k.roles r (record x { hand = Job u (frame m j) None });
    })) is
    (took measure s k r c m j x n part i)

pub dropped_by_pool_at : (measure : Measuring) (s : Setting) (k : Parts) (v : ℕ) (r c m j need held : ℕ) (n : NodeState) → suc c ≡ v → IsCourse measure s k
    → is_legal s (PoolDrop r v m j need held ∷ log_of k) ≡ true → slice_get k.nodes c ≡ Some n → k.transit ≡ []
    → IsCourse measure s (record k {
      log = record k.log { told = plain (PoolDrop r v m j need held) ∷ k.log.told };
      nodes = set k.nodes c (record n { inbox = without_front n.inbox });
      facts = record k.facts { dropped = k.facts.dropped + 1 };
      transit = frame m j ∷ [];
    })
dropped_by_pool_at measure s k v r c m j need held n is i =
    subst (λ u. is_legal s (PoolDrop r u m j need held ∷ log_of k) ≡ true → slice_get k.nodes c ≡ Some n → k.transit ≡ []
    → IsCourse measure s (record k {
      log = record k.log { told = plain (PoolDrop r u m j need held) ∷ k.log.told };
      nodes = set k.nodes c (record n { inbox = without_front n.inbox });
      facts = record k.facts { dropped = k.facts.dropped + 1 };
      transit = frame m j ∷ [];
    }))
    is (dropped_by_pool measure s k r c m j need held n i)

pub settled_with_at : (measure : Measuring) (s : Setting) (k : Parts) (v : ℕ) (r c : ℕ) (n y : NodeState) → suc c ≡ v → IsCourse measure s k
    → is_legal s (Settle r v ∷ log_of k) ≡ true → slice_get k.nodes c ≡ Some n → k.transit ≡ [] → y.window.ring ≡ [] → y.window.pending ≡ []
    → length (ring s v (log_of k)) ≤ 4097
    → IsCourse measure s (record k {
      log = record k.log { told = plain (Settle r v) ∷ k.log.told };
      nodes = set k.nodes c (record n { settled = true; window = y.window });
      transit = ring s v (log_of k);
    })
settled_with_at measure s k v r c n y is i =
    subst (λ u. is_legal s (Settle r u ∷ log_of k) ≡ true → slice_get k.nodes c ≡ Some n → k.transit ≡ [] → y.window.ring ≡ [] → y.window.pending ≡ []
    → length (ring s u (log_of k)) ≤ 4097 → IsCourse measure s (record k {
      log = record k.log { told = plain (Settle r u) ∷ k.log.told };
      nodes = set k.nodes c (record n { settled = true; window = y.window });
      transit = ring s u (log_of k);
    })) is (settled_with measure s k r c n y i)

pub saving_one_at : (measure : Measuring) (s : Setting) (k : Parts) (v : ℕ) (r c m j g : ℕ) (x : RoleState) (n y : NodeState) (part : Option Parts_of)
    → suc c ≡ v → IsCourse measure s k → is_legal s (Save r v m j g ∷ log_of k) ≡ true → slice_get k.roles r ≡ Some x → slice_get k.nodes c ≡ Some n
    → y.unsaved.items ≡ drop 1 n.unsaved.items → HasRoomToSave s v y
    → IsCourse measure s (record k {
      log = record k.log { told = lends (Save r v m j g) part ∷ k.log.told };
      nodes = set k.nodes c
          (record n { unsaved = y.unsaved; saves = n.saves + 1; saving = true });
      roles = set k.roles r (record x { hand = Piece v (frame m j) });
    })
saving_one_at measure s k v r c m j g x n y part is i =
    subst (λ u. is_legal s (Save r u m j g ∷ log_of k) ≡ true → slice_get k.roles r ≡ Some x → slice_get k.nodes c ≡ Some n → y.unsaved.items
    ≡ drop 1 n.unsaved.items → HasRoomToSave s u y → IsCourse measure s (record k {
      log = record k.log { told = lends (Save r u m j g) part ∷ k.log.told };
      nodes = set k.nodes c (record n { unsaved = y.unsaved; saves = n.saves + 1; saving = true });
      roles = set k.roles r (record x { hand = Piece u (frame m j) });
    })) is (saving_one measure s k r c m j g x n y part i)

pub saved_one_at : (measure : Measuring) (s : Setting) (k : Parts) (v : ℕ) (r c m j q g : ℕ) (x : RoleState) (n : NodeState) → suc c ≡ v → IsCourse measure s k
    → is_legal s (Saved r v m j ∷ log_of k) ≡ true → slice_get k.roles r ≡ Some x → slice_get k.nodes c ≡ Some n → k.transit ≡ []
    → hand r (log_of k) ≡ Some (Save q v m j g)
    → IsCourse measure s (record k {
      log = record k.log { told = plain (Saved r v m j) ∷ k.log.told };
      nodes = set k.nodes c (record n { saving = false });
      roles = set k.roles r (record x { hand = Free });
      facts = record k.facts { saved = k.facts.saved + 1 };
      transit = frame m j ∷ [];
    })
saved_one_at measure s k v r c m j q g x n is i =
    subst (λ u. is_legal s (Saved r u m j ∷ log_of k) ≡ true → slice_get k.roles r ≡ Some x → slice_get k.nodes c ≡ Some n → k.transit ≡ []
    → hand r (log_of k) ≡ Some (Save q u m j g)
    → IsCourse measure s (record k {
      log = record k.log { told = plain (Saved r u m j) ∷ k.log.told };
      nodes = set k.nodes c (record n { saving = false });
      roles = set k.roles r (record x { hand = Free });
      facts = record k.facts { saved = k.facts.saved + 1 };
      transit = frame m j ∷ [];
    })) is
    (saved_one measure s k r c m j q g x n i)
