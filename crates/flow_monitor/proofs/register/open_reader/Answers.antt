use Rattle.std.proofs.Common.{refl, sym, ◌∙◌, inl}
use Rattle.std.proofs.lemmas.List.Elements.{All-set, All-push}
use Rattle.atomic_table.proofs.Lists.{set_else}
use Rattle.flow_monitor.specs.Registers.{name_of, KnowsAtMost}
use Rattle.flow_monitor.proofs.Seats.{seat_of_all}
use Rattle.flow_monitor.proofs.register.open_reader.Goals as goal

pub tell-requires : goal.tell-requires
tell-requires c shown views all at =
    let P = KnowsAtMost (name_of shown.seen.book) in
    let knows = seat_of_all P views _ _ at all in
    All-push P _ _ (All-set P views _ _ knows all) knows

pub learn-requires-clause-rule : goal.learn-requires-clause-rule
learn-requires-clause-rule c shown views all at apart there =
    let P = KnowsAtMost (name_of shown.seen.book) in
    let theirs = seat_of_all P views _ _ (sym (set_else views _ _ _ apart) ∙ there) all in
    All-set P _ _ _ (inl refl) (All-set P views _ _ theirs all)
