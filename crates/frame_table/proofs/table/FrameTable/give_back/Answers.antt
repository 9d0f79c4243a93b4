use Rattle.std.proofs.Common.{refl}
use Rattle.frame_table.specs.declared.place.Place.TheVariants.{Frame}
use Rattle.frame_table.specs.Kept.{Kept, united}
use Rattle.frame_table.proofs.Views.{kept_changed, all_stay}
use Rattle.frame_table.proofs.table.FrameTable.give_back.Goals as goal

pub returns : goal.returns
returns g c =
    let parts = g.F.Held.parts in
    let f = c.unite.new.self in
    let one = parts c.args.part in
    kept_changed g.F.Named.name_of parts g.F.Held.bytes_of g.F.Held.is_used c.self.inside.places.items c.args.self.now
    (λ (k : Kept). united k one) c.args.block c.index_mut.result.now (Frame f)
    c.self.view_is c.requires.place c.index_mut.ensures.value
    (rw (c.in-Frame.is, c.unite.ensures.name, all_stay (parts c.in-Frame.frame) one (parts f) c.unite.ensures.parts) refl)
