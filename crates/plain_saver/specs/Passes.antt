-- Which arrays go out of each node in a plain run, and how many of them have gone.
use Rattle.std.specs.Prelude.{◌≡◌, ℕ, zero, suc, ◌+◌, ◌-◌, ◌≤◌, ◌==◌, Bool, true, false, All, List, [], drop, length, slice_get, slice_index_or, slice_set}
use Rattle.std.specs.Prelude.{if◌then◌else◌}
use Rattle.std.specs.Option.{option_map_or}
use Rattle.nd_base.specs.Array.{StackValue}
use Rattle.nd_base.specs.declared.graph.Graph.{Graph}
use Rattle.nd_base.specs.declared.graph.Kind.{Kind}
use Rattle.nd_base.specs.declared.graph.Kind.TheVariants.{Roi, Stats, Circular, File, Scatter}
use Rattle.nd_base.specs.declared.graph.NodeRule.{NodeRule}
use Rattle.chain_plain.specs.PlainRun.{passed}
use Rattle.plain_saver.specs.declared.passes.Pass.{Pass}

abbrev pub no_pass : Pass
no_pass = record { positions = []; gone = 0 }

-- what is known of node v, where the first of these is node 1
abbrev pub pass_at : List Pass → ℕ → Pass
pass_at ps zero = no_pass
pass_at ps (suc k) = slice_index_or ps k no_pass

-- the positions are those that go out of each node, of which some have gone
pub record ArePasses (g : Graph) (s : StackValue) (ps : List Pass) : Type 0 where
  pub count : length ps ≡ length g.nodes
  pub positions : (v : ℕ) → 1 ≤ v → v ≤ length g.nodes → (pass_at ps v).positions ≡ passed g s v
  pub gone : (v : ℕ) → 1 ≤ v → v ≤ length g.nodes → (pass_at ps v).gone ≤ length (passed g s v)

-- n more have gone out of node v
abbrev pub with_gone : List Pass → (v n : ℕ) → List Pass
with_gone ps v n = slice_set ps (v - 1) (record (pass_at ps v) { gone = (pass_at ps v).gone + n })

-- one more has gone out of node v
abbrev pub with_one_gone : List Pass → ℕ → List Pass
with_one_gone ps v = with_gone ps v 1

-- position k is the next one of node v
abbrev pub is_next : List Pass → (v k : ℕ) → Bool
is_next ps v k = option_map_or (λ p. p == k) (slice_get (pass_at ps v).positions (pass_at ps v).gone) false

-- position k has gone out of node v, where it is the next one
abbrev pub stepped : List Pass → (v k : ℕ) → List Pass
stepped ps v k = if is_next ps v k then with_one_gone ps v else ps

-- position k has gone out of node v with all that go at once, where it is the next one
pub record IsAsked (ps : List Pass) (v k : ℕ) (qs : List Pass) : Type 0 where
  pub not : is_next ps v k ≡ false → qs ≡ ps
  pub next : is_next ps v k ≡ true → (n : ℕ) × (1 ≤ n) × (qs ≡ with_gone ps v n)

-- as `stepped` at a statistics node, and nothing at any other
abbrev pub stepped_kind : Kind → List Pass → (v k : ℕ) → List Pass
stepped_kind (Stats r) ps v k = stepped ps v k
stepped_kind (Roi r) ps v k = ps
stepped_kind (Circular r) ps v k = ps
stepped_kind (File r) ps v k = ps
stepped_kind Scatter ps v k = ps

abbrev pub stepped_rows : NodeRule → List Pass → (v k : ℕ) → List Pass
stepped_rows n ps v k = stepped_kind n.kind ps v k

-- none of the positions that are left at node v is below k
abbrev pub AreFrom : List Pass → (v k : ℕ) → Type 0
AreFrom ps v k = All (λ p. k ≤ p) (drop (pass_at ps v).gone (pass_at ps v).positions)
