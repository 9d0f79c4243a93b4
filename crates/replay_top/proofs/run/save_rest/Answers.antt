use Rattle.std.proofs.Common.{◌∙◌}
use Rattle.replay_top.proofs.RunStops.{LaterStops-last}
use Rattle.replay_top.proofs.run.save_rest.Goals as goal

pub returns-clause-err : goal.returns-clause-err
returns-clause-err g c =
    LaterStops-last c.finish_all.result (g.K.Shelf.held c.args.shelf.now) (g.K.Shelf.held c.finish_all.new.shelf) _ _ _
    (c.finish_all.ensures.files ∙ c.in_ok-save_later.ensures.ok) (rw c.in_ok-save_later.ensures.cause at c.finish_all.ensures.err)
