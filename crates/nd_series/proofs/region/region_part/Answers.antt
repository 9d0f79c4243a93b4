use Rattle.std.proofs.Common.{◌≡◌, ◌+◌, ◌∷◌, List, true, nat_lt, ap, sym, subst, ◌∙◌, arith}
use Rattle.std.specs.Prelude.{IsTrue}
use Rattle.std.specs.List.{list_all}
use Rattle.nd_base.specs.declared.array.Dim.{Dim}
use Rattle.nd_base.specs.Samples.{samples_of}
use Rattle.nd_base.specs.Shapes.{has_dimensions, sample_count}
use Rattle.nd_base.specs.ShapeLaws.{has_dimensions-none_empty}
use Rattle.nd_series.specs.InPlace.{part_in}
use Rattle.nd_series.specs.Joined.{joined, HasRooms}
use Rattle.nd_series.proofs.Measures.{measured_part-bytes}
use Rattle.nd_series.proofs.RegionParts.{lines_upto, first_line, one_more, lines_rooms, line_rooms, all_lines}
use Rattle.nd_series.proofs.SpanLaws.{none_empty, span_count-positive}
use Rattle.nd_series.proofs.region.region_part.Goals as goal

-- no dimension is empty
sizes : (dims others : List Dim) (first : Dim) → dims ≡ first ∷ others → IsTrue (has_dimensions dims) → list_all (λ d. nat_lt 0 d.size) (first ∷ others) ≡ true
sizes dims others first same shaped = ap (list_all (λ (d : Dim). nat_lt 0 d.size)) (sym same) ∙ has_dimensions-none_empty dims shaped

pub line_numbers-part-requires-clause-number : goal.line_numbers-part-requires-clause-number
line_numbers-part-requires-clause-number c =
    span_count-positive c.args.region.now 1 c.in-Some.others.now
    (none_empty c.in-Some.first.now c.in-Some.others.now
    (sizes c.args.dims.now c.in-Some.others.now c.in-Some.first.now c.in-Some.ensures.cases.0 c.requires.dimensions)).others

pub loop-number-init : goal.loop-number-init
loop-number-init c =
    c.line_numbers-part.ensures
    ∙ first_line c.args.region.now c.in-Some.first.now c.in-Some.others.now c.args.kind c.args.samples.now
    ∙ ap (λ ds. lines_upto c.args.region.now ds c.args.kind c.args.samples.now 1) (sym c.in-Some.ensures.cases.0)

pub joined-part-requires-clause-one : goal.joined-part-requires-clause-one
joined-part-requires-clause-one c =
    let b = c.args.region.now in
    let dims = c.args.dims.now in
    let first = c.in-Some.first.now in
    let others = c.in-Some.others.now in
    let kind = c.args.kind in
    let bytes = c.args.samples.now in
    let k = c.loop-number.number in
    let same = c.in-Some.ensures.cases.0 in
    let count = ap sample_count same in
    let lines = c.line_count-number-end.ensures.value in
    subst HasRooms (sym (c.loop-number.invariant ∙ ap (λ ds. lines_upto b ds kind bytes k) same))
    (lines_rooms b first others kind bytes (sizes dims others first same c.requires.dimensions) c.type_inv.samples k (omega (arith, count, c.requires.few))
    (omega (arith, lines, c.loop-number-test.true)))

pub joined-part-requires-clause-two : goal.joined-part-requires-clause-two
joined-part-requires-clause-two c =
    let dims = c.args.dims.now in
    let first = c.in-Some.first.now in
    let others = c.in-Some.others.now in
    let same = c.in-Some.ensures.cases.0 in
    let count = ap sample_count same in
    let lines = c.line_count-number-end.ensures.value in
    subst HasRooms (sym c.line_numbers.ensures)
    (line_rooms c.args.region.now first others c.args.kind c.args.samples.now (sizes dims others first same c.requires.dimensions) c.type_inv.samples
    c.loop-number.number (omega (arith, count, c.requires.few)) (omega (arith, lines, c.loop-number-test.true)))

pub loop-number-preserved : goal.loop-number-preserved
loop-number-preserved c =
    let b = c.args.region.now in
    let first = c.in-Some.first.now in
    let others = c.in-Some.others.now in
    let kind = c.args.kind in
    let bytes = c.args.samples.now in
    let k = c.loop-number.number in
    let same = c.in-Some.ensures.cases.0 in
    c.joined-part.ensures
    ∙ ap (λ p. joined p c.line_numbers.result) (c.loop-number.invariant ∙ ap (λ ds. lines_upto b ds kind bytes k) same)
    ∙ ap (joined (lines_upto b (first ∷ others) kind bytes k)) c.line_numbers.ensures
    ∙ one_more b first others kind bytes (sizes c.args.dims.now others first same c.requires.dimensions) k (omega arith)
    ∙ ap (λ ds. lines_upto b ds kind bytes (k + 1)) (sym same)

pub returns-clause-in_place : goal.returns-clause-in_place
returns-clause-in_place c =
    let b = c.args.region.now in
    let first = c.in-Some.first.now in
    let others = c.in-Some.others.now in
    let kind = c.args.kind in
    let bytes = c.args.samples.now in
    let k = c.loop-number.number in
    let same = c.in-Some.ensures.cases.0 in
    let lines = c.line_count-number-end.ensures.value in
    let some = span_count-positive b 1 others (none_empty first others (sizes c.args.dims.now others first same c.requires.dimensions)).others in
    c.loop-number.invariant ∙ ap (λ ds. lines_upto b ds kind bytes k) same
    ∙ all_lines b first others kind bytes k (omega (arith, lines, some, c.loop-number-test.false))
    ∙ ap (λ ds. part_in b ds (samples_of kind bytes)) (sym same)

pub returns-clause-measured : goal.returns-clause-measured
returns-clause-measured c = λ a same_kind same_dims same.
    returns-clause-in_place c ∙ measured_part-bytes c.args.region.now a c.args.kind c.args.dims.now c.args.samples.now c.requires.dimensions
    c.type_inv.samples same_kind same_dims same
