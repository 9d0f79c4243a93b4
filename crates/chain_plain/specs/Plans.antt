-- The plan of a graph and a stack.
use Rattle.std.specs.Prelude.{ℕ, ◌*◌, List, ◌∷◌, map}
use Rattle.nd_base.specs.Array.{StackValue}
use Rattle.nd_base.specs.declared.attribute.FileShape.{FileShape}
use Rattle.nd_base.specs.declared.graph.Graph.{Graph}
use Rattle.nd_base.specs.declared.graph.NodeRule.{NodeRule}
use Rattle.nd_base.specs.declared.graph.RoiRule.{RoiRule}
use Rattle.nd_base.specs.declared.plan.Maker.{Maker}
use Rattle.nd_base.specs.declared.plan.Plan.{Plan}
use Rattle.nd_base.specs.Samples.{width}
use Rattle.nd_base.specs.Shapes.{sample_count}
use Rattle.nd_roi.specs.Cut.{region_dims}
use Rattle.nd_roi.specs.Region.{out_type}
use Rattle.chain_plain.specs.declared.shape.Shape.{Shape}
use Rattle.chain_plain.specs.Nodes.{regions}
use Rattle.chain_plain.specs.Passing.{out_of}

-- the shape of what a region rule cuts out of arrays of a shape
abbrev pub region_shape : RoiRule → Shape → Shape
region_shape r s = record { kind = out_type r s.kind; dims = region_dims r s.dims }

-- the shape of the stack's arrays
abbrev pub stack_shape : FileShape → Shape
stack_shape shape = record { kind = shape.kind; dims = shape.dims }

-- the shape of the arrays that go out of a node
abbrev pub shape_at : List NodeRule → FileShape → ℕ → Shape
shape_at nodes shape v = out_of region_shape nodes v (stack_shape shape)

-- the shape of the arrays that go out of a node, and the bytes of one
abbrev pub maker_of : ℕ → Shape → Maker
maker_of v s = record { node = v; kind = s.kind; dims = s.dims; need = sample_count s.dims * width s.kind }

-- the driver, and then the region nodes in the graph's order
abbrev pub makers_of : List NodeRule → FileShape → List Maker
makers_of nodes shape = map (λ v. maker_of v (shape_at nodes shape v)) (0 ∷ regions nodes)

abbrev pub plan_of : Graph → StackValue → Plan
plan_of g s = record { graph = g; ids = map (λ a. a.id) s.arrays; makers = makers_of g.nodes s.shape }
