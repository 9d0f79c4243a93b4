-- The workers of a run: their nodes, and their number.
use Rattle.std.proofs.Common.{◌≡◌, ◌⊎◌, ℕ, zero, suc, ◌+◌, ◌<◌, ◌≤◌, true, ltb, leb, List, [], ◌∷◌, ◌++◌, length, replicate, sym, ◌∙◌, arith, Some, inl, inr}
use Rattle.std.specs.Prelude.{slice_get, fold}
use Rattle.std.proofs.lemmas.Bool.{and_from, lt-ltb, le-leb}
use Rattle.std.proofs.lemmas.List.{length-append, length-replicate}
use Rattle.flow_journal.specs.Setting.{Setting, Node, is_node, last_role}
use Rattle.flow_roles.specs.Workers.{workers_from, workers, posts}

-- HOW MANY

workers-sum : (a v : ℕ) (ns : List Node) → a + length (workers_from v ns) ≡ fold (λ (m : ℕ) (n : Node). m + n.threads) a ns
workers-sum a v [] = omega arith
workers-sum a v (n ∷ ns) =
    let both = length-append (replicate n.threads v) (workers_from (v + 1) ns) in
    let here : length (replicate n.threads v) ≡ n.threads = length-replicate n.threads v in
    let moved_ : a + length (workers_from v (n ∷ ns)) ≡ (a + n.threads) + length (workers_from (v + 1) ns) = omega (arith, both, here) in
    moved_ ∙ workers-sum (a + n.threads) (v + 1) ns

pub posts-length : (s : Setting) → length (posts s) ≡ last_role s
posts-length s = omega (arith, workers-sum 0 1 s.nodes)

pub workers-many : (s : Setting) → length (workers s) + 1 ≡ last_role s
workers-many s = omega (arith, workers-sum 0 1 s.nodes)

-- WHERE

at-times : (n v : ℕ) (rest : List ℕ) (k w : ℕ) → slice_get (replicate n v ++ rest) k ≡ Some w → (w ≡ v) ⊎ ((j : ℕ) × (slice_get rest j ≡ Some w))
at-times zero v rest k w h = inr (k, h)
at-times (suc n) v rest zero w h = let is : v ≡ w = cc in inl (sym is)
at-times (suc n) v rest (suc k) w h = at-times n v rest k w h

-- a worker's node is one of these
node-within : (v : ℕ) (ns : List Node) (k w : ℕ) → slice_get (workers_from v ns) k ≡ Some w → (v ≤ w) × (w < v + length ns)
node-within v [] k w h = cc
node-within v (n ∷ ns) k w h =
    elim (at-times n.threads v (workers_from (v + 1) ns) k w h) [
      | inl here ↦
          let a : v ≤ w = omega (arith, here) in
          let b : w < v + suc (length ns) = omega (arith, here) in
          (a, b)
      | inr later ↦
          let i = node-within (v + 1) ns later.0 w later.1 in
          let a : v ≤ w = omega (arith, i.0) in
          let b : w < v + suc (length ns) = omega (arith, i.1) in
          (a, b)
    ]

pub worker-node : (s : Setting) (k v : ℕ) → slice_get (workers s) k ≡ Some v → is_node s v ≡ true
worker-node s k v h =
    let i = node-within 1 s.nodes k v h in
    and_from (ltb 0 v) (leb v (length s.nodes)) (lt-ltb 0 v (omega (arith, i.0))) (le-leb v (length s.nodes) (omega (arith, i.1)))
