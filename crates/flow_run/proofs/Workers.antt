-- Each node of a run has a worker.
use Rattle.std.proofs.Common.{◌≡◌, ℕ, zero, suc, ◌+◌, ◌≤◌, true, List, [], ◌∷◌, ◌++◌, replicate, refl, sym, ap, ◌∙◌, arith, Some}
use Rattle.std.specs.Prelude.{slice_get}
use Rattle.std.proofs.lemmas.Option.{slice_get-get_or}
use Rattle.nd_base.specs.Array.{StackValue}
use Rattle.nd_base.specs.GraphRules.{IsGraph}
use Rattle.nd_base.specs.declared.graph.Graph.{Graph}
use Rattle.flow_journal.specs.Setting.{Setting, Node, node, no_node, is_node}
use Rattle.board_rules.specs.RunMeasures.{run_setting}
use Rattle.flow_drain.proofs.Works.{node-sound}
use Rattle.flow_drain.proofs.Rounds.{node-above}
use Rattle.flow_roles.specs.Workers.{workers_from, workers, posts}

later-at : (n v : ℕ) (rest : List ℕ) (k w : ℕ) → slice_get rest k ≡ Some w → (j : ℕ) × (slice_get (replicate n v ++ rest) j ≡ Some w)
later-at zero v rest k w h = (k, h)
later-at (suc n) v rest k w h = let l = later-at n v rest k w h in (suc l.0, l.1)

-- each of these nodes has a worker, where each has a thread
has-worker : (v : ℕ) (ns : List Node) (j : ℕ) (n : Node) → slice_get ns j ≡ Some n → 1 ≤ n.threads → (k : ℕ) × (slice_get (workers_from v ns) k ≡ Some (v + j))
has-worker v [] j n h some = cc
has-worker v (m ∷ ns) zero n h some =
    let is : m ≡ n = cc in
    let more : 1 ≤ m.threads = omega (arith, some, ap (λ (x : Node). x.threads) is) in
    let here : v ≡ v + 0 = omega arith in
    (0, first_at m.threads more ∙ ap (λ (w : ℕ). Some w) here)
  where
    first_at : (t : ℕ) → 1 ≤ t → slice_get (replicate t v ++ workers_from (v + 1) ns) 0 ≡ Some v
    first_at zero none = absurd (omega (arith, none))
    first_at (suc t) more = refl
has-worker v (m ∷ ns) (suc j) n h some =
    let w = has-worker (v + 1) ns j n h some in
    let l = later-at m.threads v (workers_from (v + 1) ns) w.0 ((v + 1) + j) w.1 in
    let here : (v + 1) + j ≡ v + suc j = omega arith in
    (l.0, l.1 ∙ ap (λ (u : ℕ). Some u) here)

pub node-worker : (g : Graph) (stack : StackValue) (v : ℕ) → IsGraph g → is_node (run_setting g stack) v ≡ true
    → (k : ℕ) × (slice_get (workers (run_setting g stack)) k ≡ Some v)
node-worker g stack zero sound here = let a = node-above (run_setting g stack) 0 here in absurd (omega (arith, a.0))
node-worker g stack (suc k) sound here =
    let s = run_setting g stack in
    let a = node-above s (suc k) here in
    let w = has-worker 1 s.nodes k (node s (suc k)) (slice_get-get_or s.nodes k no_node (omega (arith, a.1))) (node-sound g stack (suc k) sound here).thread in
    let same_ : 1 + k ≡ suc k = omega arith in
    (w.0, w.1 ∙ ap (λ (u : ℕ). Some u) same_)

-- the nodes of the roles
pub post-node : (s : Setting) (k v : ℕ) → slice_get (posts s) (suc k) ≡ Some v → slice_get (workers s) k ≡ Some v
post-node s k v h = h

pub post-first : (s : Setting) (v : ℕ) → slice_get (posts s) 0 ≡ Some v → v ≡ 0
post-first s v h = let is : 0 ≡ v = cc in sym is
