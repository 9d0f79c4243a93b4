use Rattle.std.proofs.Common.{sym}
use Rattle.std.specs.Prelude.{◌==◌}
use Rattle.nd_stack.proofs.Texts.{before_first-none, before_first-some}
use Rattle.nd_stack.proofs.attributes.text_of.Goals as goal

pub returns-in-None : goal.returns-in-None
returns-in-None c = sym (before_first-none (λ b. b == 0) c.args.bytes.now (sym c.in-None.ensures))

pub returns-in-Some : goal.returns-in-Some
returns-in-Some c = sym (before_first-some (λ b. b == 0) c.args.bytes.now c.in-Some.end (sym c.in-Some.ensures))
