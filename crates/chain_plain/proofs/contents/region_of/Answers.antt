use Rattle.std.proofs.Common.{◌≡◌, ◌*◌, length, ap, ◌∙◌}
use Rattle.nd_base.specs.Samples.{width}
use Rattle.nd_base.specs.Shapes.{sample_count}
use Rattle.nd_roi.specs.Cut.{region_dims}
use Rattle.chain_plain.proofs.Rules.{region_dimensions, region_few}
use Rattle.chain_plain.proofs.Regions.{no_fault}
use Rattle.chain_plain.proofs.contents.region_of.Goals as goal

pub unreachable-requires : goal.unreachable-requires
unreachable-requires c =
    let rule = c.args.rule.now in
    let whole = c.args.array.now.dims in
    let kind = c.unwrap_or-kind.result in
    let dims : c.in_ok-dims.dims.items ≡ region_dims rule whole = c.in_ok-dims.ensures ∙ ap (region_dims rule) c.dims.ensures.value in
    let size = c.in_ok-bytes.ensures.size ∙ ap (λ d. sample_count d * width kind) c.deref.ensures.value in
    no_fault kind c.in_ok-dims.dims.items (length c.in_ok-bytes.bytes.items) c.in_default.field-0
    (rw dims (region_dimensions rule whole c.dims.ensures.dimensions))
    (rw dims (region_few rule whole c.dims.ensures.dimensions c.dims.ensures.few)) size c.in_default.ensures.refused
