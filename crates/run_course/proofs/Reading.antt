-- What code reads of what is kept.
use Rattle.std.proofs.Common.{◌≡◌, ◌≤◌, ◌<◌, ◌∙◌, ◌-◌, ℕ, suc, true, false, List, [], ◌∷◌, Option, Some, length, drop, refl, sym, ap, ltb, leb, arith, get_or, zero, map}
use Rattle.std.specs.Prelude.{slice_get, slice_index_or}
use Rattle.std.proofs.lemmas.Bool.{le-ltb, ltb-true, leb-true, and_parts}
use Rattle.std.proofs.lemmas.Option.{slice_get_read}
use Rattle.nd_base.specs.declared.frame.FrameName.{FrameName}
use Rattle.nd_base.specs.declared.measure.Measure.{Measure}
use Rattle.queue_sort.specs.Inboxes.{InboxState}
use Rattle.flow_journal.specs.Setting.{Setting, node, is_node, no_node}
use Rattle.flow_journal.specs.Pasts.{Past}
use Rattle.flow_journal.specs.Queued.{queued, has_room}
use Rattle.course_parts.specs.declared.node.NodeState.{NodeState}
use Rattle.course_parts.specs.declared.rules.Rules.{Rules}
use Rattle.course_parts.specs.declared.rules.NodeRules.{NodeRules}
use Rattle.course_parts.specs.RunRules.{AreRules, as_node}
use Rattle.course_parts.specs.NodeStates.{IsNode}

-- the first of a list, and the rest
pub first-of : {X : Type 0} (xs : List X) (x : X) → slice_get xs 0 ≡ Some x → xs ≡ x ∷ drop 1 xs
first-of [] x h = cc
first-of (y ∷ ys) x h = let e : y ≡ x = cc in ap (λ z. z ∷ ys) e

-- an item that was read
pub read-at : {X : Type 0} (xs : List X) (i : ℕ) (x : X) → i < length xs → x ≡ get_or xs i x → slice_get xs i ≡ Some x
read-at xs i x lt is = slice_get_read xs (length xs) i x refl lt is

-- the place of a node
pub place-of : (s : Setting) (v : ℕ) → is_node s v ≡ true → (suc (v - 1) ≡ v) × (v - 1 < length s.nodes)
place-of s v h =
    let p = and_parts (ltb 0 v) (leb v (length s.nodes)) h in
    (omega (arith, ltb-true 0 v p.0), omega (arith, ltb-true 0 v p.0, leb-true v (length s.nodes) p.1))

pub full-of : (measure : ℕ → FrameName → Option Measure) (s : Setting) (v : ℕ) (P : Past) (n : NodeState) → IsNode measure s v P n
    → n.inbox.size ≤ length n.inbox.items → has_room s P v ≡ false
full-of measure s v P n i le =
    let size : n.inbox.size ≡ (node s v).queue = ap (λ (b : InboxState FrameName). b.size) i.inbox in
    let items : n.inbox.items ≡ queued v P = ap (λ (b : InboxState FrameName). b.items) i.inbox in
    le-ltb (length (queued v P)) (node s v).queue (omega (arith, le, size, ap length items))

-- the rule of a node
rule-found : (ns : List NodeRules) (i : ℕ) (r : NodeRules) → slice_get ns i ≡ Some r → slice_index_or (map as_node ns) i no_node ≡ as_node r
rule-found [] i r h = cc
rule-found (n ∷ ns) zero r h = let e : n ≡ r = cc in ap as_node e
rule-found (n ∷ ns) (suc i) r h = rule-found ns i r h

pub rule-of : (ru : Rules) (s : Setting) (v i : ℕ) (r : NodeRules) → suc i ≡ v → AreRules ru s → slice_get ru.nodes i ≡ Some r → node s v ≡ as_node r
rule-of ru s v i r is are at = ap (node s) (sym is) ∙ (ap (λ ns. slice_index_or ns i no_node) (sym are.nodes) ∙ rule-found ru.nodes i r at)
