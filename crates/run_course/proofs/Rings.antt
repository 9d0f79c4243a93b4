-- What a node keeps for a window to come, when it is settled.
use Rattle.std.proofs.Common.{◌≡◌, ◌∙◌, ◌≤◌, ◌-◌, ℕ, suc, true, false, Bool, List, [], ◌∷◌, ◌++◌, Some, length, set, refl, sym, subst}
use Rattle.std.proofs.Common.{arith, if◌then◌else◌}
use Rattle.std.specs.Prelude.{slice_get}
use Rattle.std.specs.List.{flat_map}
use Rattle.std.proofs.lemmas.Bool.{true≢false}
use Rattle.std.proofs.lemmas.List.Elements.{All-nil}
use Rattle.nd_base.specs.declared.frame.FrameName.{FrameName}
use Rattle.trig_window.specs.Watch.{Watch}
use Rattle.flow_journal.specs.declared.entry.Entry.TheVariants.{Settle}
use Rattle.flow_journal.specs.Setting.{Setting, Work, Makes, Passes, Watches, Saves, node, is_node}
use Rattle.flow_journal.specs.Pasts.{Past}
use Rattle.flow_journal.specs.Accounts.{block_of}
use Rattle.flow_journal.specs.Ended.{is_settled}
use Rattle.flow_journal.specs.Puts.{puts, firings}
use Rattle.flow_journal.specs.Rings.{ring, ring_of}
use Rattle.flow_journal.specs.Histories.{is_legal}
use Rattle.flow_journal.proofs.Changes.{clock_laws}
use Rattle.board_rules.specs.States.{plain}
use Rattle.pool_account.specs.Account.{IsAccount}
use Rattle.pool_account.proofs.Laws.{array_laws}
use Rattle.course_parts.specs.declared.node.NodeState.{NodeState}
use Rattle.course_parts.specs.NodeStates.{IsNode, IsRing}
use Rattle.flow_journal.specs.Having.{HasBlock}
use Rattle.run_course.specs.Courses.{Parts, log_of, IsCourse}
use Rattle.run_course.specs.Puts.{is_watching, watches}
use Rattle.run_course.proofs.Coursing.{Measuring, apart-more}
use Rattle.run_course.proofs.RingWindows.{window-at}
use Rattle.run_course.proofs.Finding.{node-is, still-account}
use Rattle.run_course.proofs.Nodes.{nodes-set}
use Rattle.run_course.proofs.Elsewhere.{same-settle, turn-same}
use Rattle.run_course.proofs.Roles.{roles-kept}
use Rattle.run_course.proofs.FrameBlocks.{blocks-kept}
use Rattle.run_course.proofs.FactsAfter.{facts-settle}

-- THE RING OF A CIRCULAR NODE
-- its window has the ring, and nothing is pending
pub record HasRing (s : Setting) (v : ℕ) (P : Past) (w : Watch FrameName) : Type 0 where
  pub same : w.ring ≡ ring s v P
  pub pending : w.pending ≡ []
  pub few : length w.ring ≤ 4096

pub has-ring : (measure : Measuring) (s : Setting) (k : Parts) (v : ℕ) (n : NodeState) → IsCourse measure s k → is_node s v ≡ true
    → slice_get k.nodes (v - 1) ≡ Some n → watches s v ≡ true → is_settled v (log_of k) ≡ false → HasRing s v (log_of k) n.window
has-ring measure s k v n i here at kind unsettled =
    let w = window-at measure s k v n i (node-is measure s k v n i here at) kind unsettled in
    record { same = w.ring; pending = w.stands.pending; few = w.few }

-- NODES THAT KEEP NOTHING
plain-ring : (s : Setting) (v : ℕ) (Q : Past) (w : Work) (x : Watch FrameName) → is_watching w ≡ false → IsRing s v Q w x
plain-ring s v Q Makes x h = tt
plain-ring s v Q (Passes d) x h = tt
plain-ring s v Q (Watches pre post preset) x h = absurd (true≢false h)
plain-ring s v Q (Saves whole n) x h = tt

no-ring : (w : Work) (b : Bool) (flags : List Bool) (xs : List FrameName) → is_watching w ≡ false → (if b then [] else ring_of w flags xs) ≡ []
no-ring w true flags xs h = refl
no-ring Makes false flags xs h = refl
no-ring (Passes d) false flags xs h = refl
no-ring (Watches pre post preset) false flags xs h = absurd (true≢false h)
no-ring (Saves whole n) false flags xs h = refl

here-settle : (measure : Measuring) (s : Setting) (r v : ℕ) (P : Past) (n : NodeState) → IsNode measure s v P n
    → is_legal s (Settle r v ∷ P) ≡ true → watches s v ≡ false
    → IsNode measure s v (Settle r v ∷ P) (record n { settled = true })
here-settle measure s r v P n i legal kind =
    let e = Settle r v in
    record {
      inbox = i.inbox;
      working = i.working;
      few = i.few;
      fits = i.fits;
      ended = sym (clock_laws.settle r v P);
      list_size = i.list_size;
      last = i.last;
      waits = i.waits;
      ticks = i.ticks;
      ring = plain-ring s v (e ∷ P) (node s v).work n.window kind;
      kept = i.kept;
      results = i.results;
      pieces = i.pieces;
      saving = i.saving;
      next_child = λ d some. i.next_child d some ∙ sym (turn-same s v e P legal (λ c m k b. refl) d some);
      measures = i.measures;
      unsaved_room = i.unsaved_room;
      measures_room = i.measures_room;
    }

settled_here : (measure : Measuring) (s : Setting) (k : Parts) (r c : ℕ) (n : NodeState) → IsCourse measure s k
    → is_legal s (Settle r (suc c) ∷ log_of k) ≡ true → slice_get k.nodes c ≡ Some n → k.transit ≡ [] → watches s (suc c) ≡ false
    → IsCourse measure s
    (record k { log = record k.log { told = plain (Settle r (suc c)) ∷ k.log.told }; nodes = set k.nodes c (record n { settled = true }); transit = [] })
settled_here measure s k r c n i legal here empty kind =
    let P = log_of k in
    let e = Settle r (suc c) in
    let none : ring s (suc c) P ≡ [] = no-ring (node s (suc c)).work (is_settled (suc c) P) (firings (suc c) P) (puts (suc c) P) kind in
    record {
      ruled = i.ruled;
      legal = legal;
      nodes =
          nodes-set measure s P (e ∷ P) k.nodes c _ i.nodes (here-settle measure s r (suc c) P n (i.nodes.each c n here) legal kind)
          (λ v ne. same-settle s (suc v) r (suc c) P legal (apart-more ne));
      roles = roles-kept s P _ k.roles i.roles (λ r. refl);
      account =
          subst (λ (xs : List FrameName). IsAccount s (e ∷ P) (flat_map (block_of P) xs ++ []) k.pool) none
          (array_laws.settle s P r (suc c) k.pool [] legal (still-account measure s k i empty));
      standing = All-nil (HasBlock P);
      blocks = blocks-kept s P _ k.blocks i.blocks (λ a. refl);
      facts = i.facts ∙ sym (facts-settle s r (suc c) P legal);
      log_room = i.log_room;
      reclaims = i.reclaims;
      moving = omega arith;
      transit_room = i.transit_room;
    }

pub settled_plain : (measure : Measuring) (s : Setting) (k : Parts) (v r c : ℕ) (n : NodeState) → suc c ≡ v → IsCourse measure s k
    → is_legal s (Settle r v ∷ log_of k) ≡ true → slice_get k.nodes c ≡ Some n → k.transit ≡ [] → watches s v ≡ false
    → IsCourse measure s
    (record k { log = record k.log { told = plain (Settle r v) ∷ k.log.told }; nodes = set k.nodes c (record n { settled = true }); transit = [] })
settled_plain measure s k v r c n is i =
    subst (λ u. is_legal s (Settle r u ∷ log_of k) ≡ true → slice_get k.nodes c ≡ Some n → k.transit ≡ [] → watches s u ≡ false → IsCourse measure s
    (record k { log = record k.log { told = plain (Settle r u) ∷ k.log.told }; nodes = set k.nodes c (record n { settled = true }); transit = [] })) is
    (settled_here measure s k r c n i)
