use Rattle.std.proofs.Common.{◌<◌, length, sym, subst}
use Rattle.nd_base.specs.declared.frame.FrameName.{FrameName}
use Rattle.chain_plain.specs.ContentBytes.{index-within}
use Rattle.flow_roles.proofs.job.index_of.Goals as goal

pub returns-clause-there : goal.returns-clause-there
returns-clause-there g c =
    subst (λ (a : FrameName). a.index < length g.R.Run.stack.arrays) (sym c.name.ensures)
    (index-within g.R.Run.graph g.R.Run.stack c.args.input.now.name c.samples-content.result.now c.samples-content.ensures.content)
