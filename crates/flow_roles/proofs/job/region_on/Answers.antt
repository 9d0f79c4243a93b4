use Rattle.std.proofs.Common.{sym, ap, ◌∙◌, subst, length}
use Rattle.nd_base.specs.declared.frame.FrameName.{FrameName}
use Rattle.chain_plain.specs.Content.{IsContent}
use Rattle.flow_journal.specs.Pasts.{frame}
use Rattle.chain_plain.specs.ContentBytes.{region-need, region-content}
use Rattle.chain_plain.proofs.Rules.{roi-rule}
use Rattle.flow_roles.proofs.Results.{input-is, region-room}
use Rattle.flow_roles.proofs.job.region_on.Goals as goal

pub cut_on-requires-clause-rule : goal.cut_on-requires-clause-rule
cut_on-requires-clause-rule g c = roi-rule g.R.Run.graph c.args.node c.args.rule.now c.args.roi.now c.requires.graph c.requires.rule c.requires.kind

pub cut_on-requires-clause-dims : goal.cut_on-requires-clause-dims
cut_on-requires-clause-dims g c = c.made_by-from.ensures.dims

pub cut_on-requires-clause-samples : goal.cut_on-requires-clause-samples
cut_on-requires-clause-samples g c =
    let i =
    input-is g.R.Run.graph g.R.Run.stack c.args.node c.args.rule.now c.made_by-from.result.now c.args.input.now c.samples.result.now
    c.requires.graph c.made_by-from.ensures.stack
    c.requires.rule c.made_by-from.ensures.shape c.requires.comes c.samples.ensures.content in
    i.size

pub cut_on-requires-clause-size : goal.cut_on-requires-clause-size
cut_on-requires-clause-size g c =
    region-need g.R.Run.graph g.R.Run.stack c.args.node c.args.rule.now c.args.roi.now c.made_by-from.result.now c.made_by-to.result.now
    c.requires.graph c.requires.rule c.requires.kind
    c.made_by-from.ensures.shape c.made_by-to.ensures.shape

pub cut_on-requires-clause-room : goal.cut_on-requires-clause-room
cut_on-requires-clause-room g c =
    region-room g.R.Run.graph g.R.Run.stack c.args.node
    (length c.args.blank) c.args.rule.now c.args.roi.now c.made_by-to.result.now c.requires.graph c.requires.rule c.requires.kind
    c.made_by-to.ensures.shape c.requires.room

pub cut_on-requires-clause-content : goal.cut_on-requires-clause-content
cut_on-requires-clause-content g c =
    let i =
    input-is g.R.Run.graph g.R.Run.stack c.args.node c.args.rule.now c.made_by-from.result.now c.args.input.now c.samples.result.now
    c.requires.graph c.made_by-from.ensures.stack
    c.requires.rule c.made_by-from.ensures.shape c.requires.comes c.samples.ensures.content in
    let need_ =
    region-need g.R.Run.graph g.R.Run.stack c.args.node c.args.rule.now c.args.roi.now c.made_by-from.result.now c.made_by-to.result.now
    c.requires.graph c.requires.rule c.requires.kind
    c.made_by-from.ensures.shape c.made_by-to.ensures.shape in
    λ out size samples.
    subst (λ (a : FrameName). IsContent g.R.Run.graph g.R.Run.stack (frame c.args.node a.index) out) (sym c.name.ensures)
    (region-content g.R.Run.graph g.R.Run.stack c.args.node c.args.rule.now c.args.roi.now c.made_by-from.result.now c.args.input.now.name
    c.samples.result.now out c.requires.graph
    c.requires.rule c.requires.kind i (size ∙ need_) samples)

pub returns-clause-name : goal.returns-clause-name
returns-clause-name g c = c.cut_on.ensures.name ∙ ap (λ (a : FrameName). frame c.args.node a.index) c.name.ensures
