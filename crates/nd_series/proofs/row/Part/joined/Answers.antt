use Rattle.std.proofs.Common.{rules, w64, FitsSigned, ◌∙◌, refl}
use Rattle.std.proofs.lemmas.Int.{to_z-of_z}
use Rattle.nd_stats.proofs.Joins.{room_sum}
use Rattle.nd_series.specs.Joined.{joined}
use Rattle.nd_series.proofs.Joins.{part_same}
use Rattle.nd_series.proofs.row.Part.joined.Goals as goal

pub returns : goal.returns
returns c =
    let a = c.args.self.now in
    let b = c.args.later.now in
    let least : FitsSigned w64 c.min.result = search rules in
    let greatest : FitsSigned w64 c.max.result = search rules in
    let a_min : FitsSigned w64 a.min = search rules in
    let a_max : FitsSigned w64 a.max = search rules in
    let b_min : FitsSigned w64 b.min = search rules in
    let b_max : FitsSigned w64 b.max = search rules in
    part_same _ (joined a b)
    (to_z-of_z w64 c.min.result least ∙ c.min.ensures.value ∙ simp to_z-of_z)
    (to_z-of_z w64 c.max.result greatest ∙ c.max.ensures.value ∙ simp to_z-of_z)
    (room_sum a.total b.total c.requires.one.total c.requires.two.total)
    (room_sum a.border b.border c.requires.one.border c.requires.two.border)
    refl
