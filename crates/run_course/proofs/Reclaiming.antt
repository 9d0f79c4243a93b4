-- What is kept of a run, after a hand is taken back.
use Rattle.std.proofs.Common.{◌≡◌, ◌≤◌, ◌<◌, ◌∙◌, ◌-◌, ℕ, ◌+◌, suc, true, false, Bool, not, List, [], ◌∷◌, Option, Some, None, length, set, refl, sym, ap, subst, arith, inl, inr, length-append}
use Rattle.std.specs.Prelude.{slice_get}
use Rattle.std.specs.VecDeque.{deque_capacity}
use Rattle.std.proofs.lemmas.Bool.{ne_eqb, eq-eqb, cases_Bool, and_parts, eqb-true}
use Rattle.std.proofs.lemmas.List.Elements.{All-nil}
use Rattle.nd_base.specs.declared.frame.FrameName.{FrameName}
use Rattle.pool_ledger.specs.Ledger.{with_refs}
use Rattle.pool_ledger.specs.Ledger as ledger
use Rattle.pool_account.specs.Account.{IsAccount}
use Rattle.pool_account.proofs.Laws.{tell_laws, hold_laws, array_laws}
use Rattle.queue_sort.specs.Inboxes.{with_front, InboxState}
use Rattle.flow_journal.specs.declared.entry.Entry.{Entry}
use Rattle.flow_journal.specs.declared.entry.Entry.TheVariants.{Load, Take, TakeBlock, Save, Reclaim, Issue, Put, Saved}
use Rattle.flow_journal.specs.Setting.{Setting, node, is_node}
use Rattle.flow_journal.specs.Pasts.{Past, frame}
use Rattle.flow_journal.specs.Hands.{hand, hands, let_go, is_job, standing}
use Rattle.flow_journal.specs.Histories.{is_legal}
use Rattle.flow_journal.proofs.EntryCounts.{count, bit, count-cons, count-let_go, count-let_go-le}
use Rattle.flow_journal.proofs.Hands.{row_of, jobs-let_go}
use Rattle.flow_journal.proofs.Rows.{row_laws}
use Rattle.flow_journal.proofs.Pieces.{piece-file, last_piece}
use Rattle.flow_journal.proofs.Changes.{hand_laws, role_laws, save_laws}
use Rattle.board_rules.specs.States.{past, loses}
use Rattle.course_parts.specs.declared.node.NodeState.{NodeState}
use Rattle.course_parts.specs.declared.hand.RoleState.{RoleState}
use Rattle.course_parts.specs.declared.hand.Hand.TheVariants.{Free, Loaded, Job, Piece}
use Rattle.course_parts.specs.declared.facts.Facts.{Facts}
use Rattle.flow_journal.specs.Having.{HasBlock}
use Rattle.course_parts.specs.RoleStates.{AreRoles, hand_of}
use Rattle.run_course.specs.Courses.{Parts, log_of, IsCourse, Coursed}
use Rattle.run_course.proofs.Roles.{role-changed}
use Rattle.run_course.proofs.Nodes.{nodes-kept, nodes-set}
use Rattle.run_course.proofs.Elsewhere.{same-reclaim}
use Rattle.run_course.proofs.Here.{here-reclaim_take, here-reclaim_block, here-reclaim_piece}
use Rattle.run_course.proofs.FactsAfter.{facts-reclaim_load, facts-reclaim_other}
use Rattle.run_course.proofs.FrameBlocks.{blocks-reclaimed}
use Rattle.run_course.proofs.Coursing.{Measuring, apart-more}
use Rattle.run_course.proofs.Finding.{still-account, threads-node, node-is}
use Rattle.board_rules.proofs.Legal.{names_role}
use Rattle.told_log.specs.ToldLogs.{count_reclaims}
use Rattle.told_log.proofs.Reclaims.{reclaims-counted}
use Rattle.flow_journal.specs.Queued.{queued}
use Rattle.flow_journal.specs.Unsaved.{saves, standing_saves, unsaved}
use Rattle.flow_journal.proofs.Lengths.{reclaims-few}
use Rattle.flow_journal.specs.EntryTests.{is_reclaim}
use Rattle.course_parts.specs.declared.hand.Hand.{Hand}
use Rattle.course_parts.specs.declared.hand.Block.{Block}
use Rattle.run_course.proofs.Begins.{seen}
use Rattle.run_course.proofs.Bounds.{puts-short}

-- THE NODE OF A JOB
-- a job of a node that isn't there
abbrev pub is_astray : Setting → Entry → Bool
is_astray s (Take r v m k) = not (is_node s v)
is_astray s (TakeBlock f x r v m k b n g) = not (is_node s v)
is_astray s _ = false

none_astray : (s : Setting) (P : Past) → is_legal s P ≡ true → count (is_astray s) (hands P) ≡ 0
none_astray s [] h = refl
none_astray s (Take r v m k ∷ P) h =
    let here = threads-node s v _ ((row_laws.take s P r v m k).0 (row_of s (Take r v m k) P (λ d. refl) h)).0.room in
    omega (
      arith,
      none_astray s P (and_parts _ _ h).0,
      count-cons (is_astray s) (Take r v m k) (let_go r (hands P)),
      count-let_go-le (is_astray s) r (hands P),
      ap (λ (b : Bool). bit (not b)) here,
    )
none_astray s (TakeBlock f x r v m k b n g ∷ P) h =
    let here = threads-node s v _ ((row_laws.take_block s P r v m k b n f g x).0 (row_of s (TakeBlock f x r v m k b n g) P (λ d. refl) h)).0.room in
    omega (
      arith,
      none_astray s P (and_parts _ _ h).0,
      count-cons (is_astray s) (TakeBlock f x r v m k b n g) (let_go r (hands P)),
      count-let_go-le (is_astray s) r (hands P),
      ap (λ (y : Bool). bit (not y)) here,
    )
none_astray s (Issue r k ∷ P) h = omega (arith, none_astray s P (and_parts _ _ h).0, count-let_go-le (is_astray s) r (hands P))
none_astray s (Put r v m k f ∷ P) h = omega (arith, none_astray s P (and_parts _ _ h).0, count-let_go-le (is_astray s) r (hands P))
none_astray s (Saved r v m k ∷ P) h = omega (arith, none_astray s P (and_parts _ _ h).0, count-let_go-le (is_astray s) r (hands P))
none_astray s (Reclaim r ∷ P) h = omega (arith, none_astray s P (and_parts _ _ h).0, count-let_go-le (is_astray s) r (hands P))
none_astray s (Load r k b n f g x ∷ P) h = omega (arith, none_astray s P (and_parts _ _ h).0, count-let_go-le (is_astray s) r (hands P))
none_astray s (Save r v m k g ∷ P) h = omega (arith, none_astray s P (and_parts _ _ h).0, count-let_go-le (is_astray s) r (hands P))
none_astray s (_ ∷ P) h = none_astray s P (and_parts _ _ h).0

pub job-node : (s : Setting) (r v : ℕ) (e : Entry) (P : Past) → is_legal s P ≡ true → hand r P ≡ Some e → is_astray s e ≡ not (is_node s v) → is_node s v ≡ true
job-node s r v e P h held is =
    elim (cases_Bool (is_node s v)) [
      | inl here ↦ here
      | inr other ↦ absurd (omega (arith, none_astray s P h, count-let_go (is_astray s) r e (hands P) held, ap bit is, ap (λ (b : Bool). bit (not b)) other))
    ]

-- THE ROLE
role-back : (s : Setting) (r : ℕ) (P : Past) (rs : List RoleState) (x : RoleState) → AreRoles s P rs → slice_get rs r ≡ Some x
    → is_legal s (Reclaim r ∷ P) ≡ true → AreRoles s (Reclaim r ∷ P) (set rs r (record x { hand = Free; was_reclaimed = true }))
role-back s r P rs x are at legal =
    let was = are.each r x at in
    let e = Reclaim r in
    role-changed s P (e ∷ P) rs r _ are (rw (was, hand_laws.down s r e P legal (eq-eqb r r refl), role_laws.left_others r e P refl, role_laws.reclaim r P) refl)
    (λ q ne. rw (
      hand_laws.others q e P refl (ne_eqb r q (λ d. ne (sym d))),
      role_laws.left_others q e P refl,
      role_laws.reclaimed_others q e P (ne_eqb r q (λ d. ne (sym d))),
    ) refl)

-- the pool, once it dropped the hold of a granted block
dropped : (s : Setting) (P : Past) (k : Parts) (c : ℕ) → IsAccount s P (c ∷ []) k.pool
    → IsAccount s P [] (with_refs c (ledger.refs k.pool c - 1) k.pool)
dropped s P k c a = hold_laws.drop s P c k.pool [] a

pub granted-held : (s : Setting) (P : Past) (k : Parts) (c : ℕ) → IsAccount s P (c ∷ []) k.pool → 0 < ledger.refs k.pool c
granted-held s P k c a = tell_laws.carried s P c k.pool (c ∷ []) (rw (eq-eqb c c refl) (omega arith)) a

-- WHAT IS TAKEN BACK
pub load-carried : (measure : Measuring) (s : Setting) (k : Parts) (r q j b n : ℕ) (f : Bool) (g : ℕ) (w : Bool) → IsCourse measure s k → k.transit ≡ []
    → is_legal s (Reclaim r ∷ log_of k) ≡ true → hand r (log_of k) ≡ Some (Load q j b n f g w) → IsAccount s (Reclaim r ∷ log_of k) (b ∷ []) k.pool
load-carried measure s k r q j b n f g w i still legal held =
    array_laws.reclaim_load s (log_of k) r q j b n f g w k.pool [] held legal (still-account measure s k i still)

pub block-carried : (measure : Measuring) (s : Setting) (k : Parts) (r q v m j b n : ℕ) (f : Bool) (g : ℕ) (w : Bool) → IsCourse measure s k → k.transit ≡ []
    → is_legal s (Reclaim r ∷ log_of k) ≡ true → hand r (log_of k) ≡ Some (TakeBlock f w q v m j b n g)
    → IsAccount s (Reclaim r ∷ log_of k) (b ∷ []) k.pool
block-carried measure s k r q v m j b n f g w i still legal held =
    array_laws.reclaim_block s (log_of k) r q v m j b n f g w k.pool [] held legal (still-account measure s k i still)

pub back_loaded : (measure : Measuring) (s : Setting) (k : Parts) (r q j b n : ℕ) (f : Bool) (g : ℕ) (w : Bool) (x : RoleState) (lost : List ℕ)
    → IsCourse measure s k → is_legal s (Reclaim r ∷ log_of k) ≡ true → slice_get k.roles r ≡ Some x → k.transit ≡ []
    → hand r (log_of k) ≡ Some (Load q j b n f g w)
    → IsCourse measure s
    (record k {
      log = record k.log { told = loses r lost ∷ k.log.told };
      roles = set k.roles r (record x { hand = Free; was_reclaimed = true });
      pool = with_refs b (ledger.refs k.pool b - 1) k.pool;
      facts = record k.facts { offered = k.facts.offered - 1; loaded = false };
      transit = [];
    })
back_loaded measure s k r q j b n f g w x lost i legal at still held =
    let P = log_of k in
    let e = Load q j b n f g w in
    record {
      ruled = i.ruled;
      legal = legal;
      nodes = nodes-kept measure s P _ k.nodes i.nodes (λ v. same-reclaim s (suc v) r e P legal i.legal held refl refl);
      roles = role-back s r P k.roles x i.roles at legal;
      account = dropped s (Reclaim r ∷ P) k b (load-carried measure s k r q j b n f g w i still legal held);
      standing = All-nil (HasBlock (Reclaim r ∷ P));
      blocks = blocks-reclaimed s P r e k.blocks i.blocks i.legal legal held;
      facts =
          ap (λ (y : Facts). record y { offered = y.offered - 1; loaded = false }) i.facts ∙ sym (facts-reclaim_load s r q j b n f g w P legal i.legal held);
      log_room = i.log_room;
      reclaims = i.reclaims;
      moving = omega arith;
      transit_room = i.transit_room;
    }

pub back_taken : (measure : Measuring) (s : Setting) (k : Parts) (r q c m j : ℕ) (x : RoleState) (n : NodeState) (lost : List ℕ) → IsCourse measure s k
    → is_legal s (Reclaim r ∷ log_of k) ≡ true → slice_get k.roles r ≡ Some x → slice_get k.nodes c ≡ Some n → k.transit ≡ []
    → hand r (log_of k) ≡ Some (Take q (suc c) m j)
    → IsCourse measure s (record k {
      log = record k.log { told = loses r lost ∷ k.log.told };
      nodes = set k.nodes c (record n { inbox = with_front n.inbox (frame m j); jobs = n.jobs - 1 });
      roles = set k.roles r (record x { hand = Free; was_reclaimed = true });
      transit = [];
    })
back_taken measure s k r q c m j x n lost i legal at here still held =
    let P = log_of k in
    let e = Take q (suc c) m j in
    record {
      ruled = i.ruled;
      legal = legal;
      nodes =
          nodes-set measure s P (Reclaim r ∷ P) k.nodes c _ i.nodes (here-reclaim_take measure s r q (suc c) m j P n (i.nodes.each c n here) i.legal legal held)
          (λ v ne. same-reclaim s (suc v) r e P legal i.legal held (ne_eqb (suc c) (suc v) (apart-more ne)) refl);
      roles = role-back s r P k.roles x i.roles at legal;
      account = array_laws.reclaim_other s P r e k.pool [] held refl legal (still-account measure s k i still);
      standing = All-nil (HasBlock (Reclaim r ∷ P));
      blocks = blocks-reclaimed s P r e k.blocks i.blocks i.legal legal held;
      facts = i.facts ∙ sym (facts-reclaim_other s r e P legal i.legal held refl);
      log_room = i.log_room;
      reclaims = i.reclaims;
      moving = omega arith;
      transit_room = i.transit_room;
    }

pub back_making : (measure : Measuring) (s : Setting) (k : Parts) (r q c m j b z : ℕ) (f : Bool) (g : ℕ) (w : Bool) (x : RoleState) (n : NodeState)
    (lost : List ℕ) → IsCourse measure s k → is_legal s (Reclaim r ∷ log_of k) ≡ true → slice_get k.roles r ≡ Some x → slice_get k.nodes c ≡ Some n
    → k.transit ≡ [] → hand r (log_of k) ≡ Some (TakeBlock f w q (suc c) m j b z g)
    → IsCourse measure s (record k {
      log = record k.log { told = loses r lost ∷ k.log.told };
      nodes = set k.nodes c (record n { inbox = with_front n.inbox (frame m j); jobs = n.jobs - 1 });
      roles = set k.roles r (record x { hand = Free; was_reclaimed = true });
      pool = with_refs b (ledger.refs k.pool b - 1) k.pool;
      transit = [];
    })
back_making measure s k r q c m j b z f g w x n lost i legal at here still held =
    let P = log_of k in
    let e = TakeBlock f w q (suc c) m j b z g in
    record {
      ruled = i.ruled;
      legal = legal;
      nodes =
          nodes-set measure s P (Reclaim r ∷ P) k.nodes c _ i.nodes (here-reclaim_block measure s r q (suc c) m j b z f g w P n
          (i.nodes.each c n here) i.legal legal held) (λ v ne. same-reclaim s (suc v) r e P legal i.legal held (ne_eqb (suc c) (suc v) (apart-more ne)) refl);
      roles = role-back s r P k.roles x i.roles at legal;
      account = dropped s (Reclaim r ∷ P) k b (block-carried measure s k r q (suc c) m j b z f g w i still legal held);
      standing = All-nil (HasBlock (Reclaim r ∷ P));
      blocks = blocks-reclaimed s P r e k.blocks i.blocks i.legal legal held;
      facts = i.facts ∙ sym (facts-reclaim_other s r e P legal i.legal held refl);
      log_room = i.log_room;
      reclaims = i.reclaims;
      moving = omega arith;
      transit_room = i.transit_room;
    }

pub back_piece : (measure : Measuring) (s : Setting) (k : Parts) (r q c m j g : ℕ) (x : RoleState) (n y : NodeState) (lost : List ℕ) → IsCourse measure s k
    → is_legal s (Reclaim r ∷ log_of k) ≡ true → slice_get k.roles r ≡ Some x → slice_get k.nodes c ≡ Some n → k.transit ≡ []
    → hand r (log_of k) ≡ Some (Save q (suc c) m j g) → y.unsaved.items ≡ frame m j ∷ n.unsaved.items → length s.ids ≤ deque_capacity y.unsaved
    → IsCourse measure s (record k {
      log = record k.log { told = loses r lost ∷ k.log.told };
      nodes = set k.nodes c (record n {
        unsaved = y.unsaved;
        saves = n.saves - 1;
        saving = false;
      });
      roles = set k.roles r (record x { hand = Free; was_reclaimed = true });
      transit = [];
    })
back_piece measure s k r q c m j g x n y lost i legal at here still held items room =
    let P = log_of k in
    let e = Save q (suc c) m j g in
    record {
      ruled = i.ruled;
      legal = legal;
      nodes =
          nodes-set measure s P (Reclaim r ∷ P) k.nodes c _ i.nodes
          (here-reclaim_piece measure s r q (suc c) m j g P n y (i.nodes.each c n here) i.legal legal held (piece-file s r q (suc c) m j g P i.legal held) items
          (λ file. room)) (λ v ne. same-reclaim s (suc v) r e P legal i.legal held refl (ne_eqb (suc c) (suc v) (apart-more ne)));
      roles = role-back s r P k.roles x i.roles at legal;
      account = array_laws.reclaim_other s P r e k.pool [] held refl legal (still-account measure s k i still);
      standing = All-nil (HasBlock (Reclaim r ∷ P));
      blocks = blocks-reclaimed s P r e k.blocks i.blocks i.legal legal held;
      facts = i.facts ∙ sym (facts-reclaim_other s r e P legal i.legal held refl);
      log_room = i.log_room;
      reclaims = i.reclaims;
      moving = omega arith;
      transit_room = i.transit_room;
    }

-- AT A NODE
-- The same of a node by its number, where its state stands at the place before.
pub back_taken_at : (measure : Measuring) (s : Setting) (k : Parts) (v : ℕ) (r q c m j : ℕ) (x : RoleState) (n : NodeState) (lost : List ℕ) → suc c ≡ v
    → IsCourse measure s k → is_legal s (Reclaim r ∷ log_of k) ≡ true → slice_get k.roles r ≡ Some x → slice_get k.nodes c ≡ Some n → k.transit ≡ []
    → hand r (log_of k) ≡ Some (Take q v m j)
    → IsCourse measure s (record k {
      log = record k.log { told = loses r lost ∷ k.log.told };
      nodes = set k.nodes c (record n { inbox = with_front n.inbox (frame m j); jobs = n.jobs - 1 });
      roles = set k.roles r (record x { hand = Free; was_reclaimed = true });
      transit = [];
    })
back_taken_at measure s k v r q c m j x n lost is i =
    subst (λ u. is_legal s (Reclaim r ∷ log_of k) ≡ true → slice_get k.roles r ≡ Some x → slice_get k.nodes c ≡ Some n → k.transit ≡ []
    → hand r (log_of k) ≡ Some (Take q u m j) → IsCourse measure s (record k {
      log = record k.log { told = loses r lost ∷ k.log.told };
      nodes = set k.nodes c (record n { inbox = with_front n.inbox (frame m j); jobs = n.jobs - 1 });
      roles = set k.roles r (record x { hand = Free; was_reclaimed = true });
      transit = [];
    })) is (back_taken measure s k r q c m j x n lost i)

pub back_making_at : (measure : Measuring) (s : Setting) (k : Parts) (v : ℕ) (r q c m j b z : ℕ) (f : Bool) (g : ℕ) (w : Bool) (x : RoleState) (n : NodeState)
    (lost : List ℕ) → suc c ≡ v → IsCourse measure s k → is_legal s (Reclaim r ∷ log_of k) ≡ true → slice_get k.roles r ≡ Some x → slice_get k.nodes c ≡ Some n
    → k.transit ≡ [] → hand r (log_of k) ≡ Some (TakeBlock f w q v m j b z g)
    → IsCourse measure s (record k {
      log = record k.log { told = loses r lost ∷ k.log.told };
      nodes = set k.nodes c (record n { inbox = with_front n.inbox (frame m j); jobs = n.jobs - 1 });
      roles = set k.roles r (record x { hand = Free; was_reclaimed = true });
      pool = with_refs b (ledger.refs k.pool b - 1) k.pool;
      transit = [];
    })
back_making_at measure s k v r q c m j b z f g w x n lost is i =
    subst (λ u. is_legal s (Reclaim r ∷ log_of k) ≡ true → slice_get k.roles r ≡ Some x → slice_get k.nodes c ≡ Some n → k.transit ≡ []
    → hand r (log_of k) ≡ Some (TakeBlock f w q u m j b z g) → IsCourse measure s (record k {
      log = record k.log { told = loses r lost ∷ k.log.told };
      nodes = set k.nodes c (record n { inbox = with_front n.inbox (frame m j); jobs = n.jobs - 1 });
      roles = set k.roles r (record x { hand = Free; was_reclaimed = true });
      pool = with_refs b (ledger.refs k.pool b - 1) k.pool;
      transit = [];
    })) is
    (back_making measure s k r q c m j b z f g w x n lost i)

pub back_piece_at : (measure : Measuring) (s : Setting) (k : Parts) (v : ℕ) (r q c m j g : ℕ) (x : RoleState) (n y : NodeState) (lost : List ℕ) → suc c ≡ v
    → IsCourse measure s k → is_legal s (Reclaim r ∷ log_of k) ≡ true → slice_get k.roles r ≡ Some x → slice_get k.nodes c ≡ Some n → k.transit ≡ []
    → hand r (log_of k) ≡ Some (Save q v m j g) → y.unsaved.items ≡ frame m j ∷ n.unsaved.items → length s.ids ≤ deque_capacity y.unsaved
    → IsCourse measure s (record k {
      log = record k.log { told = loses r lost ∷ k.log.told };
      nodes = set k.nodes c (record n {
        unsaved = y.unsaved;
        saves = n.saves - 1;
        saving = false;
      });
      roles = set k.roles r (record x { hand = Free; was_reclaimed = true });
      transit = [];
    })
back_piece_at measure s k v r q c m j g x n y lost is i =
    subst (λ u. is_legal s (Reclaim r ∷ log_of k) ≡ true → slice_get k.roles r ≡ Some x → slice_get k.nodes c ≡ Some n → k.transit ≡ []
    → hand r (log_of k) ≡ Some (Save q u m j g) → y.unsaved.items ≡ frame m j ∷ n.unsaved.items → length s.ids ≤ deque_capacity y.unsaved
    → IsCourse measure s (record k {
      log = record k.log { told = loses r lost ∷ k.log.told };
      nodes = set k.nodes c (record n {
        unsaved = y.unsaved;
        saves = n.saves - 1;
        saving = false;
      });
      roles = set k.roles r (record x { hand = Free; was_reclaimed = true });
      transit = [];
    })) is
    (back_piece measure s k r q c m j g x n y lost i)

-- WHAT A HAND IS
pub hand-loaded : (o : Option Entry) (j : ℕ) (z : Block) → hand_of o ≡ Loaded j z
    → (q n : ℕ) × (f : Bool) × (g : ℕ) × (x : Bool) × (o ≡ Some (Load q j z.number n f g x))
hand-loaded None j z h = cc
hand-loaded (Some (Load r k b n f g x)) j z h =
    let e : k ≡ j = cc in
    let d : record { number = b; size = n } ≡ z = cc in
    (r, n, f, g, x, ap (λ i. Some (Load r i b n f g x)) e ∙ ap (λ (y : Block). Some (Load r j y.number n f g x)) d)
hand-loaded (Some (Take r v m k)) j z h = cc
hand-loaded (Some (TakeBlock f x r v m k b n g)) j z h = cc
hand-loaded (Some (Save r v m k g)) j z h = cc
hand-loaded (Some _) j z h = cc

pub hand-taken : (o : Option Entry) (v : ℕ) (a : FrameName) → hand_of o ≡ Job v a None → (q : ℕ) × (o ≡ Some (Take q v a.maker a.index))
hand-taken None v a h = cc
hand-taken (Some (Load r k b n f g x)) v a h = cc
hand-taken (Some (Take r w m k)) v a h =
    let e : w ≡ v = cc in
    let d : frame m k ≡ a = cc in
    (r, ap (λ i. Some (Take r i m k)) e ∙ ap (λ (y : FrameName). Some (Take r v y.maker y.index)) d)
hand-taken (Some (TakeBlock f x r w m k b n g)) v a h = cc
hand-taken (Some (Save r w m k g)) v a h = cc
hand-taken (Some _) v a h = cc

pub hand-making : (o : Option Entry) (v : ℕ) (a : FrameName) (z : Block) → hand_of o ≡ Job v a (Some z)
    → (q n : ℕ) × (f : Bool) × (g : ℕ) × (x : Bool) × (o ≡ Some (TakeBlock f x q v a.maker a.index z.number n g))
hand-making None v a z h = cc
hand-making (Some (Load r k b n f g x)) v a z h = cc
hand-making (Some (Take r w m k)) v a z h = cc
hand-making (Some (TakeBlock f x r w m k b n g)) v a z h =
    let e : w ≡ v = cc in
    let d : frame m k ≡ a = cc in
    let c : record { number = b; size = n } ≡ z = cc in (
      r,
      n,
      f,
      g,
      x,
      ap (λ i. Some (TakeBlock f x r i m k b n g)) e
          ∙ (ap (λ (y : FrameName). Some (TakeBlock f x r v y.maker y.index b n g)) d
          ∙ ap (λ (y : Block). Some (TakeBlock f x r v a.maker a.index y.number n g)) c),
    )
hand-making (Some (Save r w m k g)) v a z h = cc
hand-making (Some _) v a z h = cc

pub hand-piece : (o : Option Entry) (v : ℕ) (a : FrameName) → hand_of o ≡ Piece v a → (q g : ℕ) × (o ≡ Some (Save q v a.maker a.index g))
hand-piece None v a h = cc
hand-piece (Some (Load r k b n f g x)) v a h = cc
hand-piece (Some (Take r w m k)) v a h = cc
hand-piece (Some (TakeBlock f x r w m k b n g)) v a h = cc
hand-piece (Some (Save r w m k g)) v a h =
    let e : w ≡ v = cc in
    let d : frame m k ≡ a = cc in
    (r, g, ap (λ i. Some (Save r i m k g)) e ∙ ap (λ (y : FrameName). Some (Save r v y.maker y.index g)) d)
hand-piece (Some _) v a h = cc

pub hand-there : (k : Parts) (w : Coursed) (r : ℕ) (x : Hand) → seen k ≡ w → hand_of (hand r (past w.told)) ≡ x → hand_of (hand r (log_of k)) ≡ x
hand-there k w r x is h = subst (λ (u : Coursed). hand_of (hand r (past u.told)) ≡ x) (sym is) h

-- ROOM
pub few-reclaims : (measure : Measuring) (s : Setting) (k : Parts) (r : ℕ) → IsCourse measure s k → is_legal s (Reclaim r ∷ log_of k) ≡ true
    → count_reclaims (log_of k) < k.log.reclaims
few-reclaims measure s k r i legal =
    omega (arith, reclaims-counted (log_of k), count-cons is_reclaim (Reclaim r) (log_of k), reclaims-few s (Reclaim r ∷ log_of k) legal, i.reclaims)

pub job-there : (measure : Measuring) (s : Setting) (k : Parts) (v r : ℕ) (e : Entry) (n : NodeState) → IsCourse measure s k → is_node s v ≡ true
    → slice_get k.nodes (v - 1) ≡ Some n → hand r (log_of k) ≡ Some e → is_job v e ≡ true → 0 < n.jobs
job-there measure s k v r e n i here at held job =
    omega (arith, (node-is measure s k v n i here at).working, jobs-let_go v r e (hands (log_of k)) held job)

pub back-room : (measure : Measuring) (s : Setting) (k : Parts) (v : ℕ) (n : NodeState) → IsCourse measure s k → is_node s v ≡ true
    → slice_get k.nodes (v - 1) ≡ Some n → 0 < n.jobs → length n.inbox.items < n.inbox.size + n.inbox.extra
back-room measure s k v n i here at some =
    let j = node-is measure s k v n i here at in
    let size : n.inbox.size ≡ (node s v).queue = ap (λ (b : InboxState FrameName). b.size) j.inbox in
    let extra : n.inbox.extra ≡ (node s v).threads = ap (λ (b : InboxState FrameName). b.extra) j.inbox in
    let items : n.inbox.items ≡ queued v (log_of k) = ap (λ (b : InboxState FrameName). b.items) j.inbox in
    omega (arith, j.fits, some, size, extra, ap length items)

pub piece-there : (measure : Measuring) (s : Setting) (k : Parts) (v r q m j g : ℕ) (n : NodeState) → IsCourse measure s k → is_node s v ≡ true
    → slice_get k.nodes (v - 1) ≡ Some n → hand r (log_of k) ≡ Some (Save q v m j g) → 0 < n.saves
piece-there measure s k v r q m j g n i here at held =
    omega (
      arith,
      (node-is measure s k v n i here at).pieces,
      ap length (last_piece s (log_of k) r q v m j g i.legal held),
      length-append (saves v (let_go r (standing (log_of k)))) (frame m j ∷ []),
    )

pub unsaved-room : (measure : Measuring) (s : Setting) (k : Parts) (v r q m j g : ℕ) (n : NodeState) → IsCourse measure s k → is_node s v ≡ true
    → slice_get k.nodes (v - 1) ≡ Some n → hand r (log_of k) ≡ Some (Save q v m j g) → length n.unsaved.items < deque_capacity n.unsaved
unsaved-room measure s k v r q m j g n i here at held =
    let P = log_of k in
    let o = node-is measure s k v n i here at in
    let front = save_laws.front s v P i.legal (piece-file s r q v m j g P i.legal held) in
    omega (
      arith,
      o.unsaved_room (piece-file s r q v m j g P i.legal held),
      ap length o.kept,
      ap length front,
      length-append (standing_saves v P) (unsaved s v P),
      puts-short s P v i.legal,
      piece-there measure s k v r q m j g n i here at held,
      o.pieces,
    )

pub role-named : (r q v m j g : ℕ) (P : Past) → hand r P ≡ Some (Save q v m j g) → q ≡ r
role-named r q v m j g P held = eqb-true q r (names_role r P (Save q v m j g) held)
