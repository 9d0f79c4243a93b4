-- A node that deals: whose turn it is, and the offer to that child.
use Rattle.std.proofs.Common.{◌≡◌, ◌≤◌, ◌<◌, ◌∙◌, ◌+◌, ℕ, suc, true, false, List, [], ◌∷◌, Some, refl, sym, ap, subst, length, set}
use Rattle.std.specs.Prelude.{slice_get, flat_map}
use Rattle.pool_ledger.specs.Ledger.{with_refs}
use Rattle.pool_ledger.specs.Ledger as ledger
use Rattle.flow_journal.specs.declared.entry.Entry.{Entry}
use Rattle.flow_journal.specs.declared.entry.Entry.TheVariants.{Accept, Full}
use Rattle.flow_journal.specs.Setting.{Setting, children}
use Rattle.flow_journal.specs.Pasts.{Past, frame}
use Rattle.flow_journal.specs.Queued.{has_room}
use Rattle.flow_journal.specs.Accounts.{block_of}
use Rattle.flow_journal.specs.Histories.{is_legal}
use Rattle.flow_journal.specs.Turns.{deals, turn}
use Rattle.board_rules.specs.States.{plain}
use Rattle.pool_account.proofs.Laws.{hold_laws, array_laws}
use Rattle.queue_sort.specs.Inboxes.{with_last}
use Rattle.std.proofs.lemmas.List.{length-set}
use Rattle.course_parts.specs.declared.node.NodeState.{NodeState}
use Rattle.course_parts.specs.declared.facts.Facts.{Facts}
use Rattle.course_parts.specs.NodeStates.{IsNode, AreNodes}
use Rattle.run_course.specs.Leaving.{OnlyDealt}
use Rattle.run_course.specs.Courses.{Parts, IsCourse, log_of}
use Rattle.run_course.proofs.Each.{set_each}
use Rattle.run_course.proofs.Nodes.{node-turned, nodes-set}
use Rattle.run_course.proofs.Elsewhere.{turn-kept, facts-of-accept, facts-of-full, same-full}
use Rattle.run_course.proofs.Here.{here-accept-turned}
use Rattle.run_course.proofs.Roles.{roles-kept}
use Rattle.run_course.proofs.FrameBlocks.{blocks-kept}
use Rattle.run_course.proofs.FactsAfter.{facts-accept, facts-full}
use Rattle.run_course.proofs.Reading.{full-of}
use Rattle.run_course.proofs.Coursing.{Measuring, apart-more}

-- what is kept of a node is as the log P says, but for its turn, which is already as the log Q says
record IsReady (measure : Measuring) (s : Setting) (P Q : Past) (v : ℕ) (n : NodeState) : Type 0 where
  before : ℕ
  rest : IsNode measure s v P (record n { turn = before })
  turned : deals s v ≡ true → 0 < length (children s v) → n.turn ≡ turn s v Q

are-ready : (measure : Measuring) (s : Setting) (P : Past) (e : Entry) (ns : List NodeState) (a t : ℕ) (x : NodeState) → AreNodes measure s P ns
    → slice_get ns a ≡ Some x → t ≡ turn s (suc a) (e ∷ P) → OnlyDealt s (suc a) P
    → (i : ℕ) (y : NodeState) → slice_get (set ns a (record x { turn = t })) i ≡ Some y → IsReady measure s P (e ∷ P) (suc i) y
are-ready measure s P e ns a t x are at turned quiet =
    set_each (λ j y. IsNode measure s (suc j) P y) (λ j y. IsReady measure s P (e ∷ P) (suc j) y) ns a (record x { turn = t }) are.each
    (λ j y ne h. record { before = y.turn; rest = h; turned = λ d some. h.next_child d some ∙ sym (turn-kept s (suc j) e P (quiet (suc j) (apart-more ne) d)) })
    (record { before = x.turn; rest = are.each a x at; turned = λ d some. turned })

nodes-dealt : (measure : Measuring) (s : Setting) (P : Past) (ns : List NodeState) (a b t m k : ℕ) (x n : NodeState) → AreNodes measure s P ns
    → slice_get ns a ≡ Some x → t ≡ turn s (suc a) (Accept (suc b) m k ∷ P) → OnlyDealt s (suc a) P
    → slice_get (set ns a (record x { turn = t })) b ≡ Some n → has_room s P (suc b) ≡ true
    → AreNodes measure s (Accept (suc b) m k ∷ P) (set (set ns a (record x { turn = t })) b (record n { inbox = with_last n.inbox (frame m k) }))
nodes-dealt measure s P ns a b t m k x n are at turned quiet child room =
    let Q : Past = Accept (suc b) m k ∷ P in
    let mid = set ns a (record x { turn = t }) in
    let ready = are-ready measure s P (Accept (suc b) m k) ns a t x are at turned quiet in
    record {
      all = length-set mid b _ ∙ (length-set ns a _ ∙ are.all);
      each = set_each (λ j y. IsReady measure s P Q (suc j) y) (λ j y. IsNode measure s (suc j) Q y) mid b _ ready
          (λ j y ne r. node-turned measure s (suc j) P Q (record y { turn = r.before }) y.turn
          (facts-of-accept s (suc j) (suc b) m k P (λ e. apart-more ne (sym e))) r.turned r.rest)
          (let r = ready b n child in here-accept-turned measure s (suc b) m k P (record n { turn = r.before }) n.turn r.rest room r.turned);
    }

-- the child whose turn it is takes the array
dealt-suc : (measure : Measuring) (s : Setting) (k : Parts) (a c t m j b : ℕ) (x n : NodeState) → IsCourse measure s k
    → is_legal s (Accept (suc c) m j ∷ log_of k) ≡ true → slice_get k.nodes a ≡ Some x
    → t ≡ turn s (suc a) (Accept (suc c) m j ∷ log_of k) → OnlyDealt s (suc a) (log_of k)
    → slice_get (set k.nodes a (record x { turn = t })) c ≡ Some n → has_room s (log_of k) (suc c) ≡ true
    → block_of (log_of k) (frame m j) ≡ b ∷ [] → 0 < ledger.refs k.pool b
    → IsCourse measure s (record k {
      log = record k.log { told = plain (Accept (suc c) m j) ∷ k.log.told };
      nodes = set (set k.nodes a (record x { turn = t })) c (record n { inbox = with_last n.inbox (frame m j) });
      pool = with_refs b (ledger.refs k.pool b + 1) k.pool;
      facts = record k.facts { came = k.facts.came + 1 };
    })
dealt-suc measure s k a c t m j b x n i legal at turned quiet child room has some =
    let P = log_of k in
    record {
      ruled = i.ruled;
      legal = legal;
      nodes = nodes-dealt measure s P k.nodes a c t m j x n i.nodes at turned quiet child room;
      roles = roles-kept s P _ k.roles i.roles (λ r. refl);
      account =
          array_laws.accept s P (suc c) m j (with_refs b (ledger.refs k.pool b + 1) k.pool) (b ∷ []) (flat_map (block_of P) k.transit) has legal
          (hold_laws.hold s P b k.pool (flat_map (block_of P) k.transit) some i.account);
      standing = i.standing;
      blocks = blocks-kept s P _ k.blocks i.blocks (λ a. refl);
      facts = ap (λ (f : Facts). record f { came = f.came + 1 }) i.facts ∙ sym (facts-accept s (suc c) m j P legal);
      log_room = i.log_room;
      reclaims = i.reclaims;
      moving = i.moving;
      transit_room = i.transit_room;
    }

-- none of the children has room: the one whose turn it is drops the array
dealt-full-suc : (measure : Measuring) (s : Setting) (k : Parts) (a v t m j : ℕ) (x : NodeState) → IsCourse measure s k
    → is_legal s (Full v m j ∷ log_of k) ≡ true → slice_get k.nodes a ≡ Some x → t ≡ turn s (suc a) (Full v m j ∷ log_of k) → OnlyDealt s (suc a) (log_of k)
    → IsCourse measure s (record k {
      log = record k.log { told = plain (Full v m j) ∷ k.log.told };
      nodes = set k.nodes a (record x { turn = t });
      facts = record k.facts { came = k.facts.came + 1; dropped = k.facts.dropped + 1 };
    })
dealt-full-suc measure s k a v t m j x i legal at turned quiet =
    let P = log_of k in
    record {
      ruled = i.ruled;
      legal = legal;
      nodes =
          nodes-set measure s P (Full v m j ∷ P) k.nodes a _ i.nodes (node-turned measure s (suc a) P (Full v m j ∷ P) x t (facts-of-full s (suc a) v m j P)
          (λ d some. turned) (i.nodes.each a x at)) (λ u ne. same-full s (suc u) v m j P legal (quiet (suc u) (λ e. apart-more ne (sym e))));
      roles = roles-kept s P _ k.roles i.roles (λ r. refl);
      account = array_laws.others s P (Full v m j) k.pool (flat_map (block_of P) k.transit) refl legal i.account;
      standing = i.standing;
      blocks = blocks-kept s P _ k.blocks i.blocks (λ a. refl);
      facts = ap (λ (f : Facts). record f { came = f.came + 1; dropped = f.dropped + 1 }) i.facts ∙ sym (facts-full s v m j P legal);
      log_room = i.log_room;
      reclaims = i.reclaims;
      moving = i.moving;
      transit_room = i.transit_room;
    }

-- THE OFFER, BY THE NUMBERS OF THE NODES
pub dealt : (measure : Measuring) (s : Setting) (k : Parts) (v u a c t m j b : ℕ) (x n : NodeState) → suc a ≡ v → suc c ≡ u → IsCourse measure s k
    → is_legal s (Accept u m j ∷ log_of k) ≡ true → slice_get k.nodes a ≡ Some x → t ≡ turn s v (Accept u m j ∷ log_of k) → OnlyDealt s v (log_of k)
    → slice_get (set k.nodes a (record x { turn = t })) c ≡ Some n → has_room s (log_of k) u ≡ true
    → block_of (log_of k) (frame m j) ≡ b ∷ [] → 0 < ledger.refs k.pool b
    → IsCourse measure s (record k {
      log = record k.log { told = plain (Accept u m j) ∷ k.log.told };
      nodes = set (set k.nodes a (record x { turn = t })) c (record n { inbox = with_last n.inbox (frame m j) });
      pool = with_refs b (ledger.refs k.pool b + 1) k.pool;
      facts = record k.facts { came = k.facts.came + 1 };
    })
dealt measure s k v u a c t m j b x n from child i =
    subst (λ (w : ℕ). is_legal s (Accept w m j ∷ log_of k) ≡ true → slice_get k.nodes a ≡ Some x → t ≡ turn s v (Accept w m j ∷ log_of k)
    → OnlyDealt s v (log_of k) → slice_get (set k.nodes a (record x { turn = t })) c ≡ Some n → has_room s (log_of k) w ≡ true → block_of (log_of k) (frame m j)
    ≡ b ∷ [] → 0 < ledger.refs k.pool b → IsCourse measure s (record k {
      log = record k.log { told = plain (Accept w m j) ∷ k.log.told };
      nodes = set (set k.nodes a (record x { turn = t })) c (record n { inbox = with_last n.inbox (frame m j) });
      pool = with_refs b (ledger.refs k.pool b + 1) k.pool;
      facts = record k.facts { came = k.facts.came + 1 };
    })) child
    (subst (λ (w : ℕ). is_legal s (Accept (suc c) m j ∷ log_of k) ≡ true → slice_get k.nodes a ≡ Some x → t ≡ turn s w (Accept (suc c) m j ∷ log_of k)
    → OnlyDealt s w (log_of k) → slice_get (set k.nodes a (record x { turn = t })) c ≡ Some n → has_room s (log_of k) (suc c) ≡ true → block_of (log_of k)
    (frame m j) ≡ b ∷ [] → 0 < ledger.refs k.pool b → IsCourse measure s (record k {
      log = record k.log { told = plain (Accept (suc c) m j) ∷ k.log.told };
      nodes = set (set k.nodes a (record x { turn = t })) c (record n { inbox = with_last n.inbox (frame m j) });
      pool = with_refs b (ledger.refs k.pool b + 1) k.pool;
      facts = record k.facts { came = k.facts.came + 1 };
    })) from (dealt-suc measure s k a c t m j b x n i))

pub dealt-full : (measure : Measuring) (s : Setting) (k : Parts) (v u a t m j : ℕ) (x : NodeState) → suc a ≡ v → IsCourse measure s k
    → is_legal s (Full u m j ∷ log_of k) ≡ true → slice_get k.nodes a ≡ Some x → t ≡ turn s v (Full u m j ∷ log_of k) → OnlyDealt s v (log_of k)
    → IsCourse measure s (record k {
      log = record k.log { told = plain (Full u m j) ∷ k.log.told };
      nodes = set k.nodes a (record x { turn = t });
      facts = record k.facts { came = k.facts.came + 1; dropped = k.facts.dropped + 1 };
    })
dealt-full measure s k v u a t m j x from i =
    subst (λ (w : ℕ). is_legal s (Full u m j ∷ log_of k) ≡ true → slice_get k.nodes a ≡ Some x → t ≡ turn s w (Full u m j ∷ log_of k) → OnlyDealt s w (log_of k)
    → IsCourse measure s (record k {
      log = record k.log { told = plain (Full u m j) ∷ k.log.told };
      nodes = set k.nodes a (record x { turn = t });
      facts = record k.facts { came = k.facts.came + 1; dropped = k.facts.dropped + 1 };
    })) from (dealt-full-suc measure s k a u t m j x i)

-- the queue of the child has room where its inbox takes one more
ready-full : (measure : Measuring) (s : Setting) (k : Parts) (a c t m j : ℕ) (x n : NodeState) → IsCourse measure s k → slice_get k.nodes a ≡ Some x
    → t ≡ turn s (suc a) (Accept (suc c) m j ∷ log_of k) → OnlyDealt s (suc a) (log_of k) → slice_get (set k.nodes a (record x { turn = t })) c ≡ Some n
    → n.inbox.size ≤ length n.inbox.items → has_room s (log_of k) (suc c) ≡ false
ready-full measure s k a c t m j x n i at turned quiet child le =
    let r = are-ready measure s (log_of k) (Accept (suc c) m j) k.nodes a t x i.nodes at turned quiet c n child in
    full-of measure s (suc c) (log_of k) (record n { turn = r.before }) r.rest le

pub dealt-room : (measure : Measuring) (s : Setting) (k : Parts) (v u a c t m j : ℕ) (x n : NodeState) → suc a ≡ v → suc c ≡ u → IsCourse measure s k
    → slice_get k.nodes a ≡ Some x → t ≡ turn s v (Accept u m j ∷ log_of k) → OnlyDealt s v (log_of k)
    → slice_get (set k.nodes a (record x { turn = t })) c ≡ Some n → n.inbox.size ≤ length n.inbox.items → has_room s (log_of k) u ≡ false
dealt-room measure s k v u a c t m j x n from child i =
    subst (λ (w : ℕ). slice_get k.nodes a ≡ Some x → t ≡ turn s v (Accept w m j ∷ log_of k) → OnlyDealt s v (log_of k)
    → slice_get (set k.nodes a (record x { turn = t })) c ≡ Some n → n.inbox.size ≤ length n.inbox.items → has_room s (log_of k) w ≡ false) child
    (subst (λ (w : ℕ). slice_get k.nodes a ≡ Some x → t ≡ turn s w (Accept (suc c) m j ∷ log_of k) → OnlyDealt s w (log_of k)
    → slice_get (set k.nodes a (record x { turn = t })) c ≡ Some n → n.inbox.size ≤ length n.inbox.items → has_room s (log_of k) (suc c) ≡ false) from
    (ready-full measure s k a c t m j x n i))
