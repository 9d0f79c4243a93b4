use Rattle.frame_table.specs.declared.place.Place.TheVariants.{Empty as no_place}
use Rattle.frame_table.proofs.Views.{kept_put, kept_left, refused_is_same}
use Rattle.frame_table.proofs.table.FrameTable.take_storage.Goals as goal

pub returns-in-Ok-clause-place : goal.returns-in-Ok-clause-place
returns-in-Ok-clause-place g c =
    rw c.replace.ensures.after
    (kept_put g.F.Named.name_of g.F.Held.parts g.F.Held.bytes_of g.F.Held.is_used c.self.inside.places.items c.args.self.now c.args.block no_place
    c.self.view_is)

pub returns-clause-place : goal.returns-clause-place
returns-clause-place g c =
    rw c.replace.ensures.after
    (kept_put g.F.Named.name_of g.F.Held.parts g.F.Held.bytes_of g.F.Held.is_used c.self.inside.places.items c.args.self.now c.args.block no_place
    c.self.view_is)

pub returns-in_default-clause-left : goal.returns-in_default-clause-left
returns-in_default-clause-left g c =
    kept_left g.F.Named.name_of g.F.Held.parts g.F.Held.bytes_of g.F.Held.is_used c.self.inside.places.items c.args.self.now c.args.size c.args.block
    c.index_mut-place.result.now c.in-Err.left
    c.self.view_is c.requires c.index_mut-place.ensures.value (rw (← c.replace.ensures.value) c.in-Err.ensures.left)

pub returns-in_default-clause-same : goal.returns-in_default-clause-same
returns-in_default-clause-same g c = λ sized.
    refused_is_same c.args.size c.args.block c.args.self.now _ sized (returns-in_default-clause-left g c)
