-- A run reads what the plain run of the same words reads.
use Rattle.tool_commands.specs.Works.{plain_work, sources}
use Rattle.tool_commands.proofs.Outcomes.{map-refused, of-refused, map-asked, of-asked}
use Rattle.replay_top.specs.RunLaws.{RunsAreRefusedAsPlain, RunsAskAsPlain}

pub run_refused : RunsAreRefusedAsPlain
run_refused told logs watched graph stack prefix status =
    (map-refused (plain_work prefix) told (sources graph stack) status, of-refused (plain_work prefix) told (sources graph stack) status)

pub run_asked : RunsAskAsPlain
run_asked told logs watched graph stack prefix status =
    (map-asked (plain_work prefix) told (sources graph stack) status, of-asked (plain_work prefix) told (sources graph stack) status)
