use Rattle.flow_run.proofs.Parting.{not-back}
use Rattle.flow_run.proofs.seats.part_one.Goals as goal

pub unreachable-requires : goal.unreachable-requires
unreachable-requires g c = not-back c.args.seat c.requires.back c.in_default.not-Back
