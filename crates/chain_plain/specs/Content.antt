-- The content of a frame.
use Rattle.std.specs.Prelude.{◌≡◌, ℕ, ◌*◌, List, length, Option, IsSomeAnd, slice_get}
use Rattle.std.specs.Option.{option_map}
use Rattle.nd_base.specs.Array.{Array, StackValue}
use Rattle.nd_base.specs.Samples.{width, samples_of}
use Rattle.nd_base.specs.declared.frame.FrameName.{FrameName}
use Rattle.nd_base.specs.declared.graph.Graph.{Graph}
use Rattle.nd_base.specs.declared.graph.NodeRule.{NodeRule}
use Rattle.nd_roi.specs.Region.{region}
use Rattle.chain_plain.specs.Passing.{out_of}

-- The stack's array of the frame's index, through each region on the way from the driver to the frame's maker. So at the
-- driver it is the stack's array, and at a region node it is the region of the content at the maker that the
-- node's input passes on.
abbrev pub content : List NodeRule → List Array → FrameName → Option Array
content nodes arrays name = option_map (out_of region nodes name.maker) (slice_get arrays name.index)

-- the bytes are an array's samples: as many as it has, the most significant byte of each first
pub record AreSamples (a : Array) (bytes : List ℕ) : Type 0 where
  pub size : length bytes ≡ length a.samples * width a.kind
  pub samples : samples_of a.kind bytes ≡ a.samples

-- the bytes are the samples of the frame of this name, in a run of this graph over this stack
abbrev pub IsContent : Graph → StackValue → FrameName → List ℕ → Type 0
IsContent graph stack name bytes = IsSomeAnd (content graph.nodes stack.arrays name) (λ a. AreSamples a bytes)
