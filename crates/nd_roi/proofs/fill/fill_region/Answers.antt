use Rattle.std.proofs.Common.{◌≡◌, ◌+◌, ◌*◌, ◌/◌, ◌≤◌, ◌∷◌, true, length, reverse, sum_by, arith, ap, sym, ◌∙◌, not, ◌&&◌, ◌==◌, nat_le}
use Rattle.std.specs.Prelude.{nat_lt}
use Rattle.std.specs.List.{list_all}
use Rattle.std.proofs.Math.Nat.{mul-div_cancel}
use Rattle.std.proofs.lemmas.Bool.{and_parts}
use Rattle.std.proofs.lemmas.List.{take_all}
use Rattle.nd_base.specs.declared.array.Dim.{Dim}
use Rattle.nd_base.specs.Samples.{width, samples_of}
use Rattle.nd_base.specs.SampleLaws.{width-positive}
use Rattle.nd_base.specs.Shapes.{sample_count}
use Rattle.nd_roi.specs.Cut.{cut, region_dims}
use Rattle.nd_roi.specs.Region.{out_type, region_samples}
use Rattle.nd_roi.specs.Walk.{held, axes_from, first_reach, bin_reach, bins_of, for_lines}
use Rattle.nd_roi.proofs.Regions.{walked, region_is}
use Rattle.nd_roi.proofs.Cuts.{walk_within, walk_few, walk_room}
use Rattle.nd_roi.proofs.fill.fill_region.Goals as goal
use Rattle.nd_roi.proofs.fill.fill_region.Goals.{After-unwrap_or}

none_empty : (c : After-unwrap_or) → list_all (λ (d : Dim). nat_lt 0 d.size) (c.in-Some.first.now ∷ c.in-Some.others.now) ≡ true
none_empty c =
    let dims = c.args.dims.now in
    ap (list_all (λ (d : Dim). nat_lt 0 d.size)) (sym c.in-Some.ensures.cases.0)
    ∙ (and_parts (not (length dims == 0) && nat_le (length dims) 10) (list_all (λ (d : Dim). nat_lt 0 d.size) dims) c.requires.dimensions).1

room : (c : After-unwrap_or) → for_lines (reverse c.set_axes.new.axes) (c.cut_of.result.size * width c.unwrap_or.result) ≡ length c.args.out.now
room c =
    let first = c.in-Some.first.now in
    let others = c.in-Some.others.now in
    let w = width (out_type c.args.rule.now c.args.kind) in
    ap (λ axes. for_lines (reverse axes) (c.cut_of.result.size * width c.unwrap_or.result)) c.set_axes.ensures
    ∙ ap (λ kind. for_lines (reverse (axes_from c.args.rule.now 1 first.size others)) (c.cut_of.result.size * width kind)) c.unwrap_or.ensures
    ∙ ap (λ line. for_lines (reverse (axes_from c.args.rule.now 1 first.size others)) (line.size * w)) c.cut_of.ensures
    ∙ walk_room c.args.rule.now first others w
    ∙ ap (λ dims. sample_count (region_dims c.args.rule.now dims) * w) (sym c.in-Some.ensures.cases.0)
    ∙ sym c.requires.output

pub fill_lines-requires-clause-room : goal.fill_lines-requires-clause-room
fill_lines-requires-clause-room c = let h = room ((goal.at.fill_lines-requires-clause-room c).After-unwrap_or) in omega (arith, h)

pub fill_lines-requires-clause-within : goal.fill_lines-requires-clause-within
fill_lines-requires-clause-within c =
    let rule = c.args.rule.now in
    let count : length c.args.input.now / width c.args.kind ≡ sample_count c.args.dims.now =
    ap (λ m. m / width c.args.kind) c.requires.input ∙ mul-div_cancel (sample_count c.args.dims.now) (width-positive c.args.kind) in
    let same = ap sample_count c.in-Some.ensures.cases.0 in
    let h = walk_within rule c.in-Some.first.now c.in-Some.others.now (none_empty ((goal.at.fill_lines-requires-clause-within c).After-unwrap_or)) in
    let a = ap (sum_by first_reach) c.set_axes.ensures in
    let b = ap (sum_by bin_reach) c.set_axes.ensures in
    let d = ap (λ line. line.min + line.size * line.bin) c.cut_of.ensures in
    omega (arith, count, same, h, a, b, d)

pub fill_lines-requires-clause-few : goal.fill_lines-requires-clause-few
fill_lines-requires-clause-few c =
    let h = walk_few c.args.rule.now c.in-Some.first.now c.in-Some.others.now (none_empty ((goal.at.fill_lines-requires-clause-few c).After-unwrap_or)) in
    let same = ap sample_count c.in-Some.ensures.cases.0 in
    let a = ap (λ axes. bins_of (reverse axes) * c.cut_of.result.bin) c.set_axes.ensures in
    let b = ap (λ line. bins_of (reverse (axes_from c.args.rule.now 1 c.in-Some.first.now.size c.in-Some.others.now)) * line.bin) c.cut_of.ensures in
    omega (arith, h, same, a, b)

pub returns : goal.returns
returns c =
    let rule = c.args.rule.now in
    let kind = c.args.kind in
    let input = c.args.input.now in
    let first = c.in-Some.first.now in
    let others = c.in-Some.others.now in
    let out_kind = out_type rule kind in
    let axes = axes_from rule 1 first.size others in
    let end = room ((goal.at.returns c).After-unwrap_or) in
    let all : length c.fill_lines.new.out ≤ c.fill_lines.result = omega (arith, end, c.fill_lines.ensures.next) in
    let whole : length input ≡ sample_count (first ∷ others) * width kind = c.requires.input
    ∙ ap (λ dims. sample_count dims * width kind) c.in-Some.ensures.cases.0 in
    ap (samples_of out_kind) (
    sym (take_all c.fill_lines.result c.fill_lines.new.out all)
    ∙ c.fill_lines.ensures.written
    ∙ ap (λ axes. walked kind input c.cut_of.result axes rule.scale c.unwrap_or.result) c.set_axes.ensures
    ∙ ap (λ line. walked kind input line axes rule.scale c.unwrap_or.result) c.cut_of.ensures
    ∙ ap (λ out_kind. walked kind input (held (cut rule 0 first.size)) axes rule.scale out_kind) c.unwrap_or.ensures)
    ∙ region_is rule kind first others input whole
    ∙ ap (λ dims. region_samples rule kind dims (samples_of kind input)) (sym c.in-Some.ensures.cases.0)
