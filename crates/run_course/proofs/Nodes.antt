-- What is kept of the nodes, after one more entry: a node that the entry isn't at stays as it is.
use Rattle.std.proofs.Common.{◌≡◌, ◌≢◌, ◌≤◌, ◌<◌, ◌∙◌, ℕ, suc, true, List, Option, length, map, filter, sym, ap, arith}
use Rattle.std.specs.List.{All}
use Rattle.nd_base.specs.declared.frame.FrameName.{FrameName}
use Rattle.nd_base.specs.declared.measure.Measure.{Measure}
use Rattle.trig_window.specs.Watch.{Watch}
use Rattle.flow_journal.specs.Setting.{Setting, Work, Makes, Passes, Watches, Saves, node, children}
use Rattle.flow_journal.specs.Pasts.{Past}
use Rattle.flow_journal.specs.Hands.{hands, jobs, is_piece}
use Rattle.flow_journal.specs.Queued.{queued}
use Rattle.flow_journal.specs.Waiting.{Waiting, waiting}
use Rattle.flow_journal.specs.Puts.{puts, firings}
use Rattle.flow_journal.specs.Unsaved.{unsaved, standing_saves}
use Rattle.flow_journal.specs.Breaks.{prev}
use Rattle.flow_journal.specs.Turns.{deals, turn}
use Rattle.flow_journal.specs.Ended.{now, is_settled}
use Rattle.flow_journal.specs.Accepted.{emitted}
use Rattle.course_parts.specs.declared.node.NodeState.{NodeState}
use Rattle.course_parts.specs.NodeStates.{IsNode, IsRing, AreNodes, listed}
use Rattle.flow_journal.specs.Waiting.{least_first}
use Rattle.std.specs.Prelude.{flat_map}
use Rattle.chain_plain.specs.OneThread.{listed as listed_one}
use Rattle.std.proofs.Common.{set}
use Rattle.std.proofs.lemmas.List.{length-set}
use Rattle.run_course.proofs.Each.{set_each}

-- how many jobs and pieces of the node are in hand
pub record SameHands (v : ℕ) (P Q : Past) : Type 0 where
  pub working : jobs v Q ≡ jobs v P
  pub saving : length (filter (is_piece v) (hands Q)) ≡ length (filter (is_piece v) (hands P))

-- nothing that is kept of the node has changed, but for its turn
pub record SameFacts (s : Setting) (v : ℕ) (P Q : Past) : Type 0 where
  pub inbox : queued v Q ≡ queued v P
  pub in_hand : SameHands v P Q
  pub ended : is_settled v Q ≡ is_settled v P
  pub last : prev s v Q ≡ prev s v P
  pub waits : waiting s v Q ≡ waiting s v P
  pub time : now P ≤ now Q
  pub results : puts v Q ≡ puts v P
  pub flags : firings v Q ≡ firings v P
  pub kept : unsaved s v Q ≡ unsaved s v P
  pub pieces : standing_saves v Q ≡ standing_saves v P
  pub gone : emitted v Q ≡ emitted v P

abbrev pub SameTurn : Setting → ℕ → Past → Past → Type 0
SameTurn s v P Q = deals s v ≡ true → 0 < length (children s v) → turn s v Q ≡ turn s v P

-- nor has its turn
pub record SameNode (s : Setting) (v : ℕ) (P Q : Past) : Type 0 where
  pub facts : SameFacts s v P Q
  pub next_child : SameTurn s v P Q

pub ring-same : (s : Setting) (v : ℕ) (P Q : Past) (w : Work) (x : Watch FrameName) → puts v Q ≡ puts v P → firings v Q ≡ firings v P
    → is_settled v Q ≡ is_settled v P → IsRing s v P w x → IsRing s v Q w x
ring-same s v P Q Makes x ps fs ss h = tt
ring-same s v P Q (Passes d) x ps fs ss h = tt
ring-same s v P Q (Saves g c) x ps fs ss h = tt
ring-same s v P Q (Watches pre post preset) x ps fs ss h = (
  (λ e. let i = h.0 (sym ss ∙ e) in record { rule = i.rule; names = rw ps i.names; after = rw fs i.after; ring = rw (fs, ps) i.ring }),
  (λ e. h.1 (sym ss ∙ e)),
  h.2,
)

later : (a b : ℕ) (ws : List Waiting) → a ≤ b → All (λ (w : Waiting). w.tick ≤ a) ws → All (λ (w : Waiting). w.tick ≤ b) ws
later a b ws le all = λ k d lt. omega (arith, all k d lt)

pub node-turned : (measure : ℕ → FrameName → Option Measure) (s : Setting) (v : ℕ) (P Q : Past) (n : NodeState) (t : ℕ) → SameFacts s v P Q
    → (deals s v ≡ true → 0 < length (children s v) → t ≡ turn s v Q) → IsNode measure s v P n → IsNode measure s v Q (record n { turn = t })
node-turned measure s v P Q n t same turned i =
    record {
      inbox = rw same.inbox i.inbox;
      working = rw same.in_hand.working i.working;
      few = i.few;
      fits = rw same.inbox i.fits;
      ended = rw same.ended i.ended;
      list_size = i.list_size;
      last = λ h. rw same.last (i.last h);
      waits = i.waits ∙ ap (λ ws. map (listed measure s v) (least_first s ws)) (sym same.waits);
      ticks = rw same.waits (later (now P) (now Q) (waiting s v P) same.time i.ticks);
      ring = ring-same s v P Q (node s v).work n.window same.results same.flags same.ended i.ring;
      kept = rw same.kept i.kept;
      results = rw same.results i.results;
      pieces = rw same.pieces i.pieces;
      saving = rw same.in_hand.saving i.saving;
      next_child = turned;
      measures = i.measures ∙ ap (flat_map (λ a. listed_one (measure v a))) (sym same.gone);
      unsaved_room = i.unsaved_room;
      measures_room = i.measures_room;
    }

pub node-same : (measure : ℕ → FrameName → Option Measure) (s : Setting) (v : ℕ) (P Q : Past) (n : NodeState) → SameNode s v P Q
    → IsNode measure s v P n → IsNode measure s v Q n
node-same measure s v P Q n same i =
    node-turned measure s v P Q n n.turn same.facts (λ d some. i.next_child d some ∙ sym (same.next_child d some)) i

-- every node stays as it is
pub nodes-kept : (measure : ℕ → FrameName → Option Measure) (s : Setting) (P Q : Past) (ns : List NodeState) → AreNodes measure s P ns
    → ((i : ℕ) → SameNode s (suc i) P Q) → AreNodes measure s Q ns
nodes-kept measure s P Q ns are same =
    record {
      all = are.all;
      each = λ i n at. node-same measure s (suc i) P Q n (same i) (are.each i n at);
    }

-- all but one
pub nodes-set : (measure : ℕ → FrameName → Option Measure) (s : Setting) (P Q : Past) (ns : List NodeState) (i : ℕ) (n : NodeState) → AreNodes measure s P ns
    → IsNode measure s (suc i) Q n → ((j : ℕ) → i ≢ j → SameNode s (suc j) P Q)
    → AreNodes measure s Q (set ns i n)
nodes-set measure s P Q ns i n are here others =
    record {
      all = length-set ns i n ∙ are.all;
      each =
          set_each (λ j x. IsNode measure s (suc j) P x) (λ j x. IsNode measure s (suc j) Q x) ns i n are.each
          (λ j x ne h. node-same measure s (suc j) P Q x (others j (λ e. ne (sym e))) h) here;
    }
