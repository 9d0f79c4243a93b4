-- The arrays that go out of a node next.
use Rattle.std.specs.Prelude.{ℕ, List, take, drop}
use Rattle.nd_base.specs.Array.{Array, StackValue}
use Rattle.nd_base.specs.declared.graph.Graph.{Graph}
use Rattle.chain_plain.specs.OneThread.{arrays_out}
use Rattle.chain_plain.specs.PlainRun.{passed}

-- n of the arrays that go out of node v, once c have gone
abbrev pub arrays_from : Graph → StackValue → (v c n : ℕ) → List Array
arrays_from g s v c n = arrays_out g.nodes s.arrays v (take n (drop c (passed g s v)))
