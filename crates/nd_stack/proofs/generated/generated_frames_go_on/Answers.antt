use Rattle.nd_stack.specs.GeneratedLaws.{generated_samples}
use Rattle.nd_stack.proofs.generated.generated_frames_go_on.Goals as goal

pub returns : goal.returns
returns c = generated_samples
