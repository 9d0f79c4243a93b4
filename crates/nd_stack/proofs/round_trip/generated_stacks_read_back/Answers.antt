use Rattle.nd_stack.specs.GeneratedLaws.{generated-IsKeptStack, generated-within, generated_reads_back}
use Rattle.nd_stack.proofs.round_trip.generated_stacks_read_back.Goals as goal

pub returns-clause-kept : goal.returns-clause-kept
returns-clause-kept c = generated-IsKeptStack

pub returns-clause-within : goal.returns-clause-within
returns-clause-within c = generated-within

pub returns-clause-back : goal.returns-clause-back
returns-clause-back c = generated_reads_back
