use Rattle.std.proofs.Common.{slice_set, ap, subst, ◌∙◌}
use Rattle.edge_traits.specs.RealFiles.{closed, MayClose}
use Rattle.edge_traits.proofs.BegunFiles.{MayClose-same, MayClose-one}
use Rattle.edge_traits.proofs.disk.file_table.FileTable.make_room.Goals as goal

pub returns-in_default : goal.returns-in_default
returns-in_default g c = MayClose-same c.args.self.now

pub returns : goal.returns
returns g c =
    subst (λ bs. MayClose bs (slice_set c.self.inside.files.items c.in-Some.index c.close.new.self)) c.self.view_is
    (MayClose-one c.self.inside.files.items c.in-Some.index c.index_mut.result.now c.close.new.self (c.close.ensures.closed
    ∙ ap closed c.index_mut.ensures.value))
