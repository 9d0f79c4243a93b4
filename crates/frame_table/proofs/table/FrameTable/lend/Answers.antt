use Rattle.std.proofs.Common.{refl}
use Rattle.std.proofs.lemmas.Result.{IfOk-weaker}
use Rattle.frame_table.specs.declared.place.Place.TheVariants.{Frame}
use Rattle.frame_table.specs.Kept.{less_one}
use Rattle.frame_table.proofs.Views.{kept_changed, one_stays}
use Rattle.frame_table.proofs.table.FrameTable.lend.Goals as goal

pub returns-clause-rest : goal.returns-clause-rest
returns-clause-rest g c =
    let parts = g.F.Held.parts in
    let f = c.part.new.self in
    IfOk-weaker c.part.result _ _
    (λ one split. kept_changed g.F.Named.name_of parts g.F.Held.bytes_of g.F.Held.is_used c.self.inside.places.items c.args.self.now less_one c.args.block
    c.index_mut.result.now (Frame f)
    c.self.view_is c.requires.place c.index_mut.ensures.value
    (rw (c.in-Frame.is, c.part.ensures.name, one_stays (parts c.in-Frame.frame) (parts f) (parts one) split) refl))
    c.part.ensures.parts
