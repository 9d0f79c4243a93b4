use Rattle.std.proofs.Common.{refl}
use Rattle.std.proofs.lemmas.List.Elements.{All-set}
use Rattle.flow_monitor.specs.Registers.{name_of, KnowsAtMost}
use Rattle.flow_monitor.proofs.Seats.{seat_of_all}
use Rattle.flow_monitor.proofs.register.load.Goals as goal

pub enter_as-requires : goal.enter_as-requires
enter_as-requires c shown views all at =
    let knows = seat_of_all (KnowsAtMost (name_of shown.seen.book)) views _ _ at all in
    (_, All-set (KnowsAtMost (name_of shown.seen.book)) views _ _ knows all, (refl, knows))
