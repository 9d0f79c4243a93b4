use Rattle.std.proofs.Common.{subst}
use Rattle.nd_base.specs.Stacks.{IsStack}
use Rattle.nd_base.specs.StackLaws.{stack_at-IsStack}
use Rattle.nd_base.proofs.stack.Stack.shape.Goals as goal

pub returns-clause-sound : goal.returns-clause-sound
returns-clause-sound c =
    let s = c.self.inside in
    subst IsStack c.self.view_is (stack_at-IsStack s.shape s.heads s.bytes s.first s.step c.self.invariant)
