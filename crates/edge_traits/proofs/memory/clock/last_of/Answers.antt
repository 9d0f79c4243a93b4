use Rattle.std.proofs.Common.{sym, ap, ◌∙◌}
use Rattle.std.specs.Option.{option_copied}
use Rattle.edge_traits.proofs.Ticking.{last_tick-is}
use Rattle.edge_traits.proofs.memory.clock.last_of.Goals as goal

pub returns-in-Some : goal.returns-in-Some
returns-in-Some c = sym (last_tick-is c.args.ticks.now c.in-Some.tick.now (sym c.last.ensures.value ∙ ap option_copied c.in-Some.is))
