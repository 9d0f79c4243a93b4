-- A round without a move: nothing is left but pieces to save.
use Rattle.std.proofs.Common.{◌≡◌, ◌≢◌, ◌⊎◌, ℕ, zero, suc, ◌+◌, ◌<◌, ◌≤◌, Bool, true, false, ◌&&◌, eqb, ltb, leb, List, [], ◌∷◌, length, refl, sym, ap, ◌∙◌}
use Rattle.std.proofs.Common.{subst, arith, inl, inr}
use Rattle.std.specs.Prelude.{filter, slice_get, Option, Some, None}
use Rattle.std.specs.Option.{option_map_or}
use Rattle.std.specs.List.{list_all}
use Rattle.std.proofs.lemmas.Bool.{and_parts, and_from, cases_Bool, eq-eqb, eqb-true, lt-ltb, le-leb, true≢false, false≢true}
use Rattle.nd_base.specs.Array.{StackValue}
use Rattle.nd_base.specs.GraphRules.{IsGraph, may_feed, is_source, rule_at}
use Rattle.nd_base.specs.declared.graph.NodeRule.{NodeRule}
use Rattle.nd_base.specs.declared.frame.FrameName.{FrameName}
use Rattle.nd_base.specs.declared.graph.Graph.{Graph}
use Rattle.chain_plain.specs.Plans.{makers_of}
use Rattle.chain_plain.proofs.Rules.{stands}
use Rattle.chain_plain.proofs.Depths.{depth}
use Rattle.flow_journal.specs.Setting.{Setting, Node, node, is_node, numbers_from, node_numbers}
use Rattle.flow_journal.specs.Pasts.{Past}
use Rattle.flow_journal.specs.Hands.{hands}
use Rattle.flow_journal.specs.Ended.{is_closed, is_settled, has_ended}
use Rattle.flow_journal.specs.Offered.{next_index}
use Rattle.flow_journal.specs.Queued.{queued, has_room}
use Rattle.flow_journal.specs.Rings.{ring}
use Rattle.flow_journal.specs.Accounts.{arrays_at}
use Rattle.flow_journal.specs.Finished.{none_left, is_done, is_finished}
use Rattle.flow_journal.specs.Histories.{is_legal, is_history}
use Rattle.board_rules.specs.States.{BoardState, past}
use Rattle.board_rules.specs.RunMeasures.{run_setting}
use Rattle.run_laws.proofs.Runs.{node-is, number-is}
use Rattle.run_laws.proofs.Makers.{input-source}
use Rattle.flow_roles.proofs.Named.{node-rule}
use Rattle.board_rules.specs.declared.answers.Left.{Left}
use Rattle.flow_drain.specs.Drains.{DrainMoves, IsDrained, taken_back}
use Rattle.flow_drain.proofs.TakingBack.{taken-none}
use Rattle.flow_drain.specs.DrainSteps.{IsIdle, IsFed, Waits, IsQuiet}
use Rattle.flow_journal.proofs.Flushed.{list-empty}
use Rattle.flow_drain.proofs.Emptied.{queue-empty}
use Rattle.flow_drain.proofs.Growth.{squeezed, moves-on, moves-same, moves-longer, no-move}
use Rattle.flow_drain.proofs.Works.{node-sound}
use Rattle.flow_drain.proofs.Rounds.{node-above}

-- NUMBERS OF NODES

-- what holds of each of these numbers
all-numbers : (p : ℕ → Bool) (from : ℕ) (ns : List Node) → list_all p (numbers_from from ns) ≡ true → (v : ℕ) → from ≤ v → v < from + length ns → p v ≡ true
all-numbers p from [] h v low high = absurd (omega (arith, low, high))
all-numbers p from (n ∷ ns) h v low high =
    let a = and_parts (p from) (list_all p (numbers_from (from + 1) ns)) h in
    elim (cases_Bool (eqb from v)) [
      | inl here ↦ subst (λ (u : ℕ). p u ≡ true) (eqb-true from v here) a.0
      | inr away ↦
          let ne : from ≢ v = λ is. true≢false (sym (eq-eqb from v is) ∙ away) in
          all-numbers p (from + 1) ns a.1 v (omega (arith, low, ne)) (omega (arith, high))
    ]

pub numbers-all : (p : ℕ → Bool) (from : ℕ) (ns : List Node) → ((v : ℕ) → from ≤ v → v < from + length ns → p v ≡ true)
    → list_all p (numbers_from from ns) ≡ true
numbers-all p from [] h = refl
numbers-all p from (n ∷ ns) h =
    and_from _ _ (h from (omega arith) (omega arith)) (numbers-all p (from + 1) ns (λ v low high. h v (omega (arith, low)) (omega (arith, high))))

all-chosen : (p q : ℕ → Bool) (us : List ℕ) → list_all p us ≡ true → list_all p (filter q us) ≡ true
all-chosen p q [] h = refl
all-chosen p q (u ∷ us) h =
    let a = and_parts (p u) (list_all p us) h in
    elim (cases_Bool (q u)) [
      | inl in_ ↦ rw in_ (and_from _ _ a.0 (all-chosen p q us a.1))
      | inr out ↦ rw out (all-chosen p q us a.1)
    ]

numbered : (s : Setting) (v : ℕ) → 1 ≤ v → v < 1 + length s.nodes → is_node s v ≡ true
numbered s v low high = and_from (ltb 0 v) (leb v (length s.nodes)) (lt-ltb 0 v (omega (arith, low))) (le-leb v (length s.nodes) (omega (arith, high)))

some-of : (o : Option NodeRule) → option_map_or (λ (n : NodeRule). may_feed n.kind) o false ≡ true → (n : NodeRule) × (o ≡ Some n)
some-of None h = absurd (false≢true h)
some-of (Some n) h = (n, refl)

-- a source that isn't the driver is a node
source-rule : (nodes : List NodeRule) (v : ℕ) → eqb v 0 ≡ false → is_source nodes v ≡ true → (n : NodeRule) × (rule_at nodes v ≡ Some n)
source-rule nodes zero ne h = absurd (true≢false ne)
source-rule nodes (suc k) ne h = some-of (slice_get nodes k) h

input-node : (g : Graph) (stack : StackValue) (v : ℕ) (n : NodeRule) → IsGraph g → rule_at g.nodes v ≡ Some n → eqb n.input 0 ≡ false
    → is_node (run_setting g stack) n.input ≡ true
input-node g stack v n sound rule ne =
    let r = source-rule g.nodes n.input ne (input-source g sound v n rule) in
    number-is g (makers_of g.nodes stack.shape) stack.arrays n.input r.0 r.1

-- ALL NODES ARE SETTLED

-- on the way from the driver down, each node's input has ended, and so the node is settled
all-ended : (g : Graph) (stack : StackValue) (P : Past) → IsGraph g → is_closed P ≡ true
    → ((v : ℕ) → is_node (run_setting g stack) v ≡ true → IsQuiet (run_setting g stack) P v)
    → (steps v : ℕ) → depth g.nodes (length g.nodes) v < steps → is_node (run_setting g stack) v ≡ true → is_settled v P ≡ true
all-ended g stack P sound closed quiet zero v low here = absurd (omega (arith, low))
all-ended g stack P sound closed quiet (suc steps) v low here =
    let n = node-rule g stack v here in
    let st = stands g v n.0 sound (sym n.1) in
    let input_ : (node (run_setting g stack) v).input ≡ n.0.input =
    ap (λ (x : Node). x.input) (node-is g (makers_of g.nodes stack.shape) stack.arrays v n.0 n.1) in
    let ended : has_ended n.0.input P ≡ true = elim (cases_Bool (eqb n.0.input 0)) [
      | inl driver ↦ rw driver closed
      | inr other ↦ rw other (all-ended g stack P sound closed quiet steps n.0.input (omega (arith, low, st.nearer)) (input-node g stack v n.0 sound n.1 other))
    ] in
    (quiet v here).settled (subst (λ (u : ℕ). has_ended u P ≡ true) (sym input_) ended)

-- where nothing is queued at any node, all have room
none-waits : (g : Graph) (stack : StackValue) (P : Past) → IsGraph g → ((v : ℕ) → is_node (run_setting g stack) v ≡ true → IsQuiet (run_setting g stack) P v)
    → Waits (run_setting g stack) P → ⊥
none-waits g stack P sound quiet waits =
    let s = run_setting g stack in
    let room : (v : ℕ) → 1 ≤ v → v < 1 + length s.nodes → has_room s P v ≡ true = λ v low high.
    let here = numbered s v low high in
    let none : length (queued v P) ≡ 0 = ap (λ (xs : List FrameName). length xs) (quiet v here).empty in
    lt-ltb (length (queued v P)) (node s v).queue (omega (arith, none, (node-sound g stack v sound here).place)) in
    true≢false (sym (all-chosen (has_room s P) (λ (c : ℕ). eqb (node s c).input 0) (node_numbers s) (numbers-all (has_room s P) 1 s.nodes room)) ∙ waits)

-- NOTHING IS LEFT

ring-empty : (s : Setting) (v : ℕ) (P : Past) → is_settled v P ≡ true → ring s v P ≡ []
ring-empty s v P done = rw done refl

pub drained-by : (s : Setting) (P : Past) → is_history s P ≡ true → hands P ≡ [] → is_closed P ≡ true → next_index P ≡ length s.ids
    → ((v : ℕ) → is_node s v ≡ true → is_settled v P ≡ true) → IsDrained s P
drained-by s P legal free closed offered settled =
    let front = (and_parts (is_legal s P) _ legal).0 in
    record {
      closed = closed;
      offered = offered;
      free = free;
      settled = settled;
      queues = λ v here. queue-empty s P v front (settled v here);
      lists = λ v here. list-empty s P v legal (settled v here);
      rings = λ v here. ring-empty s v P (settled v here);
    }

-- a round in which the feed and no node made a move
pub quiet-drained : (g : Graph) (stack : StackValue) (b : BoardState) → IsGraph g → IsIdle (run_setting g stack) b
    → IsFed (run_setting g stack) (past b) ⊎ Waits (run_setting g stack) (past b)
    → ((v : ℕ) → is_node (run_setting g stack) v ≡ true → IsQuiet (run_setting g stack) (past b) v)
    → IsDrained (run_setting g stack) (past b)
quiet-drained g stack b sound idle (inl fed) quiet =
    drained-by (run_setting g stack) (past b) idle.legal idle.free fed.closed fed.offered
    (λ v here. all-ended g stack (past b) sound fed.closed quiet (suc (depth g.nodes (length g.nodes) v)) v (omega arith) here)
quiet-drained g stack b sound idle (inr waits) quiet = absurd (none-waits g stack (past b) sound quiet waits)

no-hand : (hs : Past) → none_left hs ≡ true → hs ≡ []
no-hand [] h = refl
no-hand (e ∷ hs) h = absurd (false≢true h)

-- a finished run
pub finished-drained : (s : Setting) (P : Past) → is_history s P ≡ true → is_finished s P ≡ true → IsDrained s P
finished-drained s P legal h =
    let a = and_parts (is_closed P && eqb (next_index P) (length s.ids) && none_left (hands P)) (list_all (is_done s P) (node_numbers s)) h in
    let b = and_parts (is_closed P && eqb (next_index P) (length s.ids)) (none_left (hands P)) a.0 in
    let c = and_parts (is_closed P) (eqb (next_index P) (length s.ids)) b.0 in
    drained-by s P legal (no-hand (hands P) b.1) c.0 (eqb-true (next_index P) (length s.ids) c.1)
    (λ v here. let n = node-above s v here in
    (and_parts (is_settled v P) (none_left (arrays_at s P v)) (all-numbers (is_done s P) 1 s.nodes a.1 v (omega (arith, n.0)) (omega (arith, n.1)))).0)

pub fed-of : (s : Setting) (P : Past) → IsDrained s P → IsFed s P
fed-of s P d = record { closed = d.closed; offered = d.offered }

-- THE ROUNDS

-- the drain has come so far
pub record Drains (s : Setting) (tick : ℕ) (start now : BoardState) : Type 0 where
  pub idle : IsIdle s now
  pub moves : DrainMoves s tick start now
  pub still : IsDrained s (past start) → now ≡ start

pub drains-first : (s : Setting) (tick : ℕ) (start now : BoardState) → now ≡ start → IsIdle s now → Drains s tick start now
drains-first s tick start now is idle = record { idle = idle; moves = no-move s tick start now is; still = λ d. is }

module _ (s : Setting) (tick : ℕ) (start now fed : BoardState) (d : Drains s tick start now) (m : DrainMoves s tick now fed)
    (still : IsFed s (past now) → fed ≡ now) where
  pub fed-moves : DrainMoves s tick start fed
  fed-moves = moves-on s tick start now fed d.moves m

  pub fed-still : IsDrained s (past start) → fed ≡ start
  fed-still drained =
      let same_ = d.still drained in
      still (subst (λ (b : BoardState). IsFed s (past b)) (sym same_) (fed-of s (past start) drained)) ∙ same_

  module _ (new : BoardState) (n : (tick : ℕ) → DrainMoves s tick fed new)
      (rest : ((v : ℕ) → is_node s v ≡ true → is_settled v (past fed) ≡ true) → new ≡ fed) where
    pub round-moves : DrainMoves s tick start new
    round-moves = moves-on s tick start fed new fed-moves (n tick)

    pub round-still : IsDrained s (past start) → new ≡ start
    round-still drained =
        let same_ = fed-still drained in
        rest (λ v here. ap (λ (b : BoardState). is_settled v (past b)) same_ ∙ drained.settled v here) ∙ same_

    pub round-on : IsIdle s new → Drains s tick start new
    round-on idle = record { idle = idle; moves = round-moves; still = round-still }

    whole : DrainMoves s tick now new
    whole = moves-on s tick now fed new m (n tick)

    pub round-longer : length (past new) ≢ length (past now) → length (past now) < length (past new)
    round-longer ne = omega (arith, moves-longer s tick now new whole, ne)

    -- nothing was done in the round
    pub round-same : length (past new) ≡ length (past now) → (new ≡ fed) × (fed ≡ now)
    round-same is =
        let back : new ≡ now = moves-same s tick now new whole (omega (arith, is)) in
        let mid = squeezed s tick now fed new m (n tick) back in
        (back ∙ sym mid, mid)

-- what a round without a move leaves
pub round-drained : (g : Graph) (stack : StackValue) (now fed new : BoardState) → IsGraph g → IsIdle (run_setting g stack) now → fed ≡ now → new ≡ fed
    → (fed ≡ now → IsFed (run_setting g stack) (past now) ⊎ Waits (run_setting g stack) (past now))
    → (new ≡ fed → (v : ℕ) → is_node (run_setting g stack) v ≡ true → IsQuiet (run_setting g stack) (past fed) v) → IsDrained (run_setting g stack) (past new)
round-drained g stack now fed new sound idle mid back feed quiet =
    subst (λ (b : BoardState). IsDrained (run_setting g stack) (past b)) (sym (back ∙ mid))
    (quiet-drained g stack now sound idle (feed mid)
    (λ v here. subst (λ (b : BoardState). IsQuiet (run_setting g stack) (past b) v) mid (quiet back v here)))

-- where nothing was left at the start, nothing was taken back either
pub still-from : {F B O : Type 0} (name_of : F → FrameName) (s : Setting) (ends : List (Left F B O)) (start : BoardState)
    → IsDrained s (past start) → (new : BoardState)
    → (IsDrained s (past (taken_back name_of s 0 ends start)) → new ≡ taken_back name_of s 0 ends start) → new ≡ start
still-from name_of s ends start drained new still =
    let same_ = taken-none name_of s 0 ends start drained.free in
    still (subst (λ (b : BoardState). IsDrained s (past b)) (sym same_) drained) ∙ same_
