use Rattle.nd_stack.specs.KeptStacks.{IsKeptStack-ReadsBack}
use Rattle.nd_stack.proofs.KeptStacks.{stack_of-IsKeptStack}
use Rattle.nd_stack.proofs.round_trip.stacks_read_back.Goals as goal

pub returns-clause-kept : goal.returns-clause-kept
returns-clause-kept c = stack_of-IsKeptStack

pub returns-clause-back : goal.returns-clause-back
returns-clause-back c = λ bytes s small is some within. IsKeptStack-ReadsBack s (stack_of-IsKeptStack bytes s small is) some within
