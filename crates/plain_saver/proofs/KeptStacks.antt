-- A stack that was read meets the rules of stacks.
use Rattle.nd_base.specs.Array.{StackValue}
use Rattle.nd_base.specs.Stacks.{IsStack}
use Rattle.nd_stack.specs.KeptStacks.{IsKeptStack}

pub IsKeptStack-IsStack : (s : StackValue) → IsKeptStack s → IsStack s
IsKeptStack-IsStack s h =
    record {
      dimensions = h.writable.dimensions;
      few_samples = h.writable.samples;
      few_frames = h.few;
      frames = λ i d within. let e = h.each i d within in record { kind = e.kind; dims = e.dims; count = e.count };
    }
