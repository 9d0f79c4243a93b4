-- What is kept of a run, after a block is granted.
use Rattle.std.proofs.Common.{◌≡◌, ◌≢◌, ◌≤◌, ◌<◌, ◌∙◌, ℕ, ◌+◌, suc, true, false, Bool, [], ◌∷◌, Option, Some, length, set, refl, sym, ap, subst, eqb, arith}
use Rattle.std.specs.Prelude.{slice_get}
use Rattle.std.proofs.lemmas.Bool.{ne_eqb, eq-eqb}
use Rattle.std.proofs.lemmas.List.Elements.{All-nil}
use Rattle.nd_base.specs.Parts.{Parts as Parts_of}
use Rattle.pool_ledger.specs.Ledger.{Ledger}
use Rattle.pool_account.specs.Account.{IsAccount, all_named, given_up_for}
use Rattle.queue_sort.specs.Inboxes.{without_front}
use Rattle.flow_journal.specs.declared.entry.Entry.TheVariants.{Load, TakeBlock}
use Rattle.flow_journal.specs.Setting.{Setting}
use Rattle.flow_journal.specs.Pasts.{Past, frame}
use Rattle.flow_journal.specs.Histories.{is_legal}
use Rattle.flow_journal.proofs.Hands.{row_of}
use Rattle.flow_journal.proofs.Rows.{row_laws}
use Rattle.flow_journal.proofs.AccountChanges.{block_laws}
use Rattle.board_rules.specs.States.{plain, lends}
use Rattle.course_parts.specs.declared.node.NodeState.{NodeState}
use Rattle.course_parts.specs.declared.hand.RoleState.{RoleState}
use Rattle.course_parts.specs.declared.hand.Hand.TheVariants.{Loaded, Job}
use Rattle.course_parts.specs.declared.facts.Facts.{Facts}
use Rattle.flow_journal.specs.Having.{HasBlock}
use Rattle.run_course.specs.FrameBlocks.{place_of}
use Rattle.run_course.specs.Courses.{Parts, log_of, IsCourse}
use Rattle.run_course.proofs.Roles.{IsOf, role-up}
use Rattle.run_course.proofs.Nodes.{nodes-kept, nodes-set}
use Rattle.run_course.proofs.Elsewhere.{same-load, same-take_block}
use Rattle.run_course.proofs.Here.{here-take_block}
use Rattle.run_course.proofs.FactsAfter.{facts-load, facts-take_block}
use Rattle.run_course.proofs.FrameBlocks.{blocks-granted}
use Rattle.run_course.proofs.Having.{queued-block}
use Rattle.run_course.proofs.Reading.{place-of}
use Rattle.run_course.proofs.Finding.{threads-node, still-account}
use Rattle.pool_account.proofs.Laws.{tell_laws, hold_laws, grant_laws}
use Rattle.pool_ledger.specs.Ledger.{after}
use Rattle.pool_ledger.specs.Grants.{Granted}
use Rattle.std.proofs.lemmas.List.{length-map}
use Rattle.course_parts.specs.RunRules.{as_node}
use Rattle.run_course.proofs.Coursing.{Measuring, apart-more}
use Rattle.std.proofs.Common.{◌*◌, mul-le-mul_right}

of-this : (r q : ℕ) → q ≢ r → eqb r q ≡ false
of-this r q ne = ne_eqb r q (λ e. ne (sym e))

load-of : (r j b z : ℕ) (f : Bool) (g : ℕ) (w : Bool) → IsOf r (Load r j b z f g w)
load-of r j b z f g w q ne = (of-this r q ne, refl, refl, refl)

block-of : (r v m j b z : ℕ) (f : Bool) (g : ℕ) (w : Bool) → IsOf r (TakeBlock f w r v m j b z g)
block-of r v m j b z f g w q ne = (of-this r q ne, refl, refl, refl)

-- the frame of a load is one of the stack
pub load-short : (s : Setting) (k : Parts) (r j b z : ℕ) (f : Bool) (g : ℕ) (w : Bool) → is_legal s (Load r j b z f g w ∷ log_of k) ≡ true → j < length s.ids
load-short s k r j b z f g w legal = ((row_laws.load s (log_of k) r j b z f g w).0 (row_of s (Load r j b z f g w) (log_of k) (λ d. refl) legal)).0.some

-- and so is that of a take
pub take-short : (measure : Measuring) (s : Setting) (k : Parts) (r v m j b z : ℕ) (f : Bool) (g : ℕ) (w : Bool) → IsCourse measure s k
    → is_legal s (TakeBlock f w r v m j b z g ∷ log_of k) ≡ true → (j < length s.ids) × (v ≤ length s.nodes)
take-short measure s k r v m j b z f g w i legal =
    let facts = ((row_laws.take_block s (log_of k) r v m j b z f g w).0 (row_of s (TakeBlock f w r v m j b z g) (log_of k) (λ d. refl) legal)).0 in
    let has = queued-block s v (log_of k) (frame m j) facts.front.0 i.legal facts.front.1 in
    let p = place-of s v (threads-node s v _ facts.room) in
    ((i.blocks.each (frame m j) has.0 has.1).0, omega (arith, p.0, p.1))

pub loaded : (measure : Measuring) (s : Setting) (k : Parts) (r j b z : ℕ) (f : Bool) (g : ℕ) (w : Bool) (x : RoleState) (p : Ledger) → IsCourse measure s k
    → is_legal s (Load r j b z f g w ∷ log_of k) ≡ true → slice_get k.roles r ≡ Some x → k.transit ≡ []
    → IsAccount s (Load r j b z f g w ∷ log_of k) [] p
    → IsCourse measure s (record k {
      log = record k.log { told = plain (Load r j b z f g w) ∷ k.log.told };
      roles = set k.roles r (record x { hand = Loaded j (record { number = b; size = z }) });
      pool = p;
      blocks = set k.blocks (place_of s (frame 0 j)) b;
      facts = record k.facts { offered = k.facts.offered + 1; loaded = true };
      transit = [];
    })
loaded measure s k r j b z f g w x p i legal at still account =
    let P = log_of k in
    let e = Load r j b z f g w in
    record {
      ruled = i.ruled;
      legal = legal;
      nodes = nodes-kept measure s P _ k.nodes i.nodes (λ v. same-load s (suc v) r j b z f g w P legal);
      roles = role-up s r e P k.roles x i.roles at (load-of r j b z f g w) (eq-eqb r r refl) refl refl;
      account = account;
      standing = All-nil (HasBlock (e ∷ P));
      blocks =
          blocks-granted s P (e ∷ P) k.blocks (frame 0 j) b i.blocks (load-short s k r j b z f g w legal) (omega arith)
          (block_laws.load s r j b z f g w P legal) (λ a. block_laws.load_other r j b z f g w P a);
      facts = ap (λ (y : Facts). record y { offered = y.offered + 1; loaded = true }) i.facts ∙ sym (facts-load s r j b z f g w P legal);
      log_room = i.log_room;
      reclaims = i.reclaims;
      moving = omega arith;
      transit_room = i.transit_room;
    }

pub took_block : (measure : Measuring) (s : Setting) (k : Parts) (r c m j b z : ℕ) (f : Bool) (g : ℕ) (w : Bool) (x : RoleState) (n : NodeState) (p : Ledger)
    (part : Option Parts_of) → IsCourse measure s k → is_legal s (TakeBlock f w r (suc c) m j b z g ∷ log_of k) ≡ true → slice_get k.roles r ≡ Some x
    → slice_get k.nodes c ≡ Some n → k.transit ≡ [] → IsAccount s (TakeBlock f w r (suc c) m j b z g ∷ log_of k) [] p
    → IsCourse measure s (record k {
      log = record k.log { told = lends (TakeBlock f w r (suc c) m j b z g) part ∷ k.log.told };
      nodes = set k.nodes c (record n { inbox = without_front n.inbox; jobs = n.jobs + 1 });
      roles = set k.roles r (record x { hand = Job (suc c) (frame m j) (Some (record { number = b; size = z })) });
      pool = p;
      blocks = set k.blocks (place_of s (frame (suc c) j)) b;
      transit = [];
    })
took_block measure s k r c m j b z f g w x n p part i legal at here still account =
    let P = log_of k in
    let e = TakeBlock f w r (suc c) m j b z g in
    let short = take-short measure s k r (suc c) m j b z f g w i legal in
    record {
      ruled = i.ruled;
      legal = legal;
      nodes =
          nodes-set measure s P (e ∷ P) k.nodes c _ i.nodes (here-take_block measure s r (suc c) m j b z f g w P n (i.nodes.each c n here) legal)
          (λ v ne. same-take_block s (suc v) r (suc c) m j b z f g w P legal (apart-more ne));
      roles = role-up s r e P k.roles x i.roles at (block-of r (suc c) m j b z f g w) (eq-eqb r r refl) refl refl;
      account = account;
      standing = All-nil (HasBlock (e ∷ P));
      blocks =
          blocks-granted s P (e ∷ P) k.blocks (frame (suc c) j) b i.blocks short.0 short.1 (block_laws.take_block s r (suc c) m j b z f g w P legal)
          (λ a. block_laws.take_block_other r (suc c) m j b z f g w P a);
      facts = i.facts ∙ sym (facts-take_block s r (suc c) m j b z f g w P legal);
      log_room = i.log_room;
      reclaims = i.reclaims;
      moving = omega arith;
      transit_room = i.transit_room;
    }

-- AT A NODE
-- The same of a node by its number, where its state stands at the place before.
pub took_block_at : (measure : Measuring) (s : Setting) (k : Parts) (v : ℕ) (r c m j b z : ℕ) (f : Bool) (g : ℕ) (w : Bool) (x : RoleState) (n : NodeState)
    (p : Ledger) (part : Option Parts_of) → suc c ≡ v → IsCourse measure s k → is_legal s (TakeBlock f w r v m j b z g ∷ log_of k) ≡ true
    → slice_get k.roles r ≡ Some x → slice_get k.nodes c ≡ Some n → k.transit ≡ [] → IsAccount s (TakeBlock f w r v m j b z g ∷ log_of k) [] p
    → IsCourse measure s (record k {
      log = record k.log { told = lends (TakeBlock f w r v m j b z g) part ∷ k.log.told };
      nodes = set k.nodes c (record n { inbox = without_front n.inbox; jobs = n.jobs + 1 });
      roles = set k.roles r (record x { hand = Job v (frame m j) (Some (record { number = b; size = z })) });
      pool = p;
      blocks = set k.blocks (place_of s (frame v j)) b;
      transit = [];
    })
took_block_at measure s k v r c m j b z f g w x n p part is i =
    subst (λ u. is_legal s (TakeBlock f w r u m j b z g ∷ log_of k) ≡ true → slice_get k.roles r ≡ Some x → slice_get k.nodes c ≡ Some n → k.transit ≡ []
    → IsAccount s (TakeBlock f w r u m j b z g ∷ log_of k) [] p
    → IsCourse measure s (record k {
      log = record k.log { told = lends (TakeBlock f w r u m j b z g) part ∷ k.log.told };
      nodes = set k.nodes c (record n { inbox = without_front n.inbox; jobs = n.jobs + 1 });
      roles = set k.roles r (record x { hand = Job u (frame m j) (Some (record { number = b; size = z })) });
      pool = p;
      blocks = set k.blocks (place_of s (frame u j)) b;
      transit = [];
    })) is (took_block measure s k r c m j b z f g w x n p part i)

-- THE POOL
pub few-known : (measure : Measuring) (s : Setting) (k : Parts) → IsCourse measure s k → k.transit ≡ [] → length k.pool.known < 4294967295
few-known measure s k i still =
    tell_laws.known_fit s (log_of k) k.pool [] (omega (arith, ap length i.ruled.ids, i.ruled.few_frames)) (omega (
      arith,
      i.ruled.few_nodes,
      ap length i.ruled.nodes,
      length-map k.rules.nodes as_node,
    )) i.ruled.few_threads i.legal (still-account measure s k i still)

-- room is no part of an answer
pub after-room : (p : Ledger) (x b n : ℕ) (f : Bool) (g : ℕ)
    → all_named (after (record p { room = x }) (Granted b n f g))
    ≡ record (all_named (after p (Granted b n f g))) { room = (after (record p { room = x }) (Granted b n f g)).room }
after-room p x b n true g = refl
after-room p x b n false g = refl

pub after-unnamed : (p : Ledger) (x b n : ℕ) (f : Bool) (g : ℕ)
    → (after (record p { room = x }) (Granted b n f g)).unnamed ≡ (after p (Granted b n f g)).unnamed
after-unnamed p x b n true g = refl
after-unnamed p x b n false g = refl

-- nothing waits to be named, and what an answer gives up is what the log says
pub still-named : (measure : Measuring) (s : Setting) (k : Parts) → IsCourse measure s k → k.pool.unnamed ≡ []
still-named measure s k i = i.account.named

pub given-is : (measure : Measuring) (s : Setting) (k : Parts) (P : Past) (b z : ℕ) (f : Bool) (g : ℕ) → IsCourse measure s k → k.transit ≡ []
    → log_of k ≡ P → (after k.pool (Granted b z f g)).unnamed ≡ given_up_for s P f g
given-is measure s k P b z true g i still same =
    tell_laws.given s (log_of k) b z g k.pool (still-account measure s k i still) ∙ ap (λ (Q : Past). given_up_for s Q true g) same
given-is measure s k P b z false g i still same = i.account.named

pub load-account : (measure : Measuring) (s : Setting) (k : Parts) (r j b z : ℕ) (f : Bool) (g : ℕ) (w : Bool) (p : Ledger) → IsCourse measure s k
    → k.transit ≡ [] → is_legal s (Load r j b z f g w ∷ log_of k) ≡ true
    → p ≡ record (all_named (after k.pool (Granted b z f g))) { room = p.room }
    → IsAccount s (Load r j b z f g w ∷ log_of k) [] p
load-account measure s k r j b z f g w p i still legal is =
    subst (IsAccount s (Load r j b z f g w ∷ log_of k) []) (sym is)
    (hold_laws.room s (Load r j b z f g w ∷ log_of k) p.room (all_named (after k.pool (Granted b z f g))) []
    (grant_laws.load s (log_of k) r j b z f g w k.pool i.ruled.pooled legal (still-account measure s k i still)))

pub block-account : (measure : Measuring) (s : Setting) (k : Parts) (r v m j b z : ℕ) (f : Bool) (g : ℕ) (w : Bool) (p : Ledger) → IsCourse measure s k
    → k.transit ≡ [] → is_legal s (TakeBlock f w r v m j b z g ∷ log_of k) ≡ true
    → p ≡ record (all_named (after k.pool (Granted b z f g))) { room = p.room }
    → IsAccount s (TakeBlock f w r v m j b z g ∷ log_of k) [] p
block-account measure s k r v m j b z f g w p i still legal is =
    subst (IsAccount s (TakeBlock f w r v m j b z g ∷ log_of k) []) (sym is)
    (hold_laws.room s (TakeBlock f w r v m j b z g ∷ log_of k) p.room (all_named (after k.pool (Granted b z f g))) []
    (grant_laws.take_block s (log_of k) r v m j b z f g w k.pool i.ruled.pooled legal (still-account measure s k i still)))

-- a place among rows
pub place-in : (v j n l : ℕ) → v ≤ n → j < l → v * l + j < (n + 1) * l
place-in v j n l le lt =
    let more : (v + 1) * l ≤ (n + 1) * l = mul-le-mul_right {m = v + 1} {n = n + 1} l (omega arith) in
    let row : (v + 1) * l ≡ v * l + l = grind arith in
    omega (arith, more, row)
