-- What stays true while the drain works, and when nothing is left.
use Rattle.std.proofs.Common.{◌≡◌, ◌≢◌, ℕ, ◌+◌, ◌-◌, ◌<◌, ◌≤◌, true, eqb, ltb, leb, List, [], refl, sym, ap, ◌∙◌, subst, arith, length, inl, inr}
use Rattle.std.proofs.lemmas.Bool.{and_parts, cases_Bool, eq-eqb, eqb-true, ltb-true, leb-true, lt-ltb, le-leb, and_from, true≢false}
use Rattle.std.proofs.lemmas.List.{length-map}
use Rattle.nd_base.specs.Array.{StackValue}
use Rattle.nd_base.specs.declared.graph.Graph.{Graph}
use Rattle.nd_base.specs.declared.graph.NodeRule.{NodeRule}
use Rattle.nd_base.specs.declared.plan.Plan.{Plan}
use Rattle.chain_plain.specs.Plans.{plan_of}
use Rattle.flow_journal.specs.RunSetting.{node_of}
use Rattle.board_rules.specs.RunMeasures.{run_setting}
use Rattle.flow_journal.specs.Setting.{Setting, node, is_node, last_role}
use Rattle.flow_journal.specs.Ended.{is_settled, has_ended}
use Rattle.flow_journal.specs.Queued.{queued}
use Rattle.flow_journal.specs.Histories.{is_legal, is_history}
use Rattle.flow_journal.specs.LengthLaws.{most_entries}
use Rattle.flow_journal.proofs.Lengths.{log-short}
use Rattle.board_rules.specs.declared.answers.Settled.{Settled}
use Rattle.board_rules.specs.States.{BoardState, past}
use Rattle.board_rules.specs.Working.{SettleGives}
use Rattle.flow_drain.specs.Drains.{DrainMoves}
use Rattle.flow_drain.specs.DrainSteps.{IsIdle, IsQuiet}
use Rattle.flow_drain.proofs.Emptied.{queue-empty}
use Rattle.flow_drain.proofs.Growth.{squeezed, moves-on, no-move}
use Rattle.flow_drain.proofs.Works.{settle-moves, settle-still, settle-quiet}

-- the log can't grow for ever
pub more-entries : (s : Setting) (old new : BoardState) → is_history s (past new) ≡ true → length (past old) < length (past new)
    → most_entries s - length (past new) < most_entries s - length (past old)
more-entries s old new h more = omega (arith, more, log-short s (past new) (and_parts (is_legal s (past new)) _ h).0)

-- the drain works off the queue of a node
pub record WorksOff (s : Setting) (v : ℕ) (start now : BoardState) : Type 0 where
  pub idle : IsIdle s now
  pub moves : (tick : ℕ) → DrainMoves s tick start now
  pub still : queued v (past start) ≡ [] → now ≡ start

-- it has worked at the nodes below this one
pub record WorksBelow (s : Setting) (v : ℕ) (start now : BoardState) : Type 0 where
  pub idle : IsIdle s now
  pub moves : (tick : ℕ) → DrainMoves s tick start now
  pub quiet : now ≡ start → (w : ℕ) → 0 < w → w < v → IsQuiet s (past start) w
  pub still : ((w : ℕ) → is_node s w ≡ true → is_settled w (past start) ≡ true) → now ≡ start

module _ (s : Setting) (v : ℕ) (start now : BoardState) (w : WorksOff s v start now) where
  pub off-moves : (next : BoardState) → ((tick : ℕ) → DrainMoves s tick now next) → (tick : ℕ) → DrainMoves s tick start next
  off-moves next m tick = moves-on s tick start now next (w.moves tick) (m tick)

  pub off-still : (next : BoardState) → (queued v (past now) ≡ [] → next ≡ now) → queued v (past start) ≡ [] → next ≡ start
  off-still next still none = let same_ = w.still none in still (ap (λ (b : BoardState). queued v (past b)) same_ ∙ none) ∙ same_

  pub off-on : (next : BoardState) → IsIdle s next → ((tick : ℕ) → DrainMoves s tick now next)
      → (queued v (past now) ≡ [] → next ≡ now) → WorksOff s v start next
  off-on next idle m still = record { idle = idle; moves = off-moves next m; still = off-still next still }

pub off-first : (s : Setting) (v : ℕ) (start : BoardState) → IsIdle s start → WorksOff s v start start
off-first s v start idle = record { idle = idle; moves = λ tick. no-move s tick start start refl; still = λ none. refl }

-- the last of the queue was taken, and then the node was tried to be settled
module _ (s : Setting) (v r : ℕ) (start mid new : BoardState) (a : Settled) (first : IsIdle s start) (w : WorksOff s v start mid) (is : r ≡ last_role s)
    (none : queued v (past mid) ≡ []) (c : SettleGives s mid r v a new) where
  pub node-moves : (tick : ℕ) → DrainMoves s tick start new
  node-moves tick = moves-on s tick start mid new (w.moves tick) (settle-moves s r v tick mid new a is c)

  pub node-still : is_settled v (past start) ≡ true → new ≡ start
  node-still done =
      let same_ = w.still (queue-empty s (past start) v (and_parts (is_legal s (past start)) _ first.legal).0 done) in
      settle-still s r v mid new a (ap (λ (b : BoardState). is_settled v (past b)) same_ ∙ done) c ∙ same_

  pub node-quiet : new ≡ start → IsQuiet s (past start) v
  node-quiet back =
      let same_ : mid ≡ start = squeezed s 0 start mid new (w.moves 0) (settle-moves s r v 0 mid new a is c) back in
      record {
        empty = ap (λ (b : BoardState). queued v (past b)) (sym same_) ∙ none;
        settled = λ ended.
            ap (λ (b : BoardState). is_settled v (past b)) (sym same_)
            ∙ settle-quiet s r v mid new a w.idle none c (back ∙ sym same_) (ap (λ (b : BoardState). has_ended (node s v).input (past b)) same_ ∙ ended);
      }

-- A ROUND

pub below-first : (s : Setting) (start : BoardState) → IsIdle s start → WorksBelow s 1 start start
below-first s start idle =
    record { idle = idle; moves = λ tick. no-move s tick start start refl; quiet = λ same_ w low high. absurd (omega (arith, low, high)); still = λ all. refl }

module _ (s : Setting) (v : ℕ) (start now next : BoardState) (w : WorksBelow s v start now) (m : (tick : ℕ) → DrainMoves s tick now next) where
  pub below-moves : (tick : ℕ) → DrainMoves s tick start next
  below-moves tick = moves-on s tick start now next (w.moves tick) (m tick)

  pub below-still : is_node s v ≡ true → (is_settled v (past now) ≡ true → next ≡ now)
      → ((u : ℕ) → is_node s u ≡ true → is_settled u (past start) ≡ true) → next ≡ start
  below-still here still all = let same_ = w.still all in still (ap (λ (b : BoardState). is_settled v (past b)) same_ ∙ all v here) ∙ same_

  quiet-here : (next ≡ now → IsQuiet s (past now) v) → next ≡ start → (u : ℕ) → 0 < u → u < v + 1 → IsQuiet s (past start) u
  quiet-here quiet back u low high =
      let same_ : now ≡ start = squeezed s 0 start now next (w.moves 0) (m 0) back in
      elim (cases_Bool (eqb u v)) [
        | inl here ↦
            subst (λ (x : ℕ). IsQuiet s (past start) x) (sym (eqb-true u v here))
            (subst (λ (b : BoardState). IsQuiet s (past b) v) same_ (quiet (back ∙ sym same_)))
        | inr other ↦
            let ne : u ≢ v = λ e. true≢false (sym (eq-eqb u v e) ∙ other) in
            w.quiet same_ u low (omega (arith, high, ne))
      ]

  pub below-on : IsIdle s next → is_node s v ≡ true → (next ≡ now → IsQuiet s (past now) v)
      → (is_settled v (past now) ≡ true → next ≡ now) → WorksBelow s (v + 1) start next
  below-on idle here quiet still = record { idle = idle; moves = below-moves; quiet = quiet-here quiet; still = below-still here still }

pub node-above : (s : Setting) (v : ℕ) → is_node s v ≡ true → (0 < v) × (v ≤ length s.nodes)
node-above s v here = let p = and_parts (ltb 0 v) (leb v (length s.nodes)) here in (ltb-true 0 v p.0, leb-true v (length s.nodes) p.1)

pub off-empty : (s : Setting) (v : ℕ) (start : BoardState) → IsIdle s start → is_settled v (past start) ≡ true → queued v (past start) ≡ []
off-empty s v start idle done = queue-empty s (past start) v (and_parts (is_legal s (past start)) _ idle.legal).0 done

-- a number up to that of the nodes is a node
pub counted-node : (g : Graph) (stack : StackValue) (p : Plan) (nodes : List NodeRule) (v : ℕ) → p ≡ plan_of g stack
    → nodes ≡ p.graph.nodes → 1 ≤ v → v < length nodes + 1
    → is_node (run_setting g stack) v ≡ true
counted-node g stack p nodes v planned is low high =
    let all : length nodes ≡ length g.nodes = ap (λ (ns : List NodeRule). length ns) (is ∙ ap (λ (q : Plan). q.graph.nodes) planned) in
    let most : v ≤ length (run_setting g stack).nodes = omega (arith, high, all, length-map g.nodes node_of) in
    and_from (ltb 0 v) (leb v (length (run_setting g stack).nodes)) (lt-ltb 0 v (omega (arith, low))) (le-leb v (length (run_setting g stack).nodes) most)
