use Rattle.tool_commands.proofs.PlainRuns.{driver, passed_on, results, arrays}
use Rattle.tool_commands.proofs.laws.plain_runs_go_by_inputs.Goals as goal

pub returns-clause-driver : goal.returns-clause-driver
returns-clause-driver c = driver

pub returns-clause-passed : goal.returns-clause-passed
returns-clause-passed c = passed_on

pub returns-clause-results : goal.returns-clause-results
returns-clause-results c = results

pub returns-clause-arrays : goal.returns-clause-arrays
returns-clause-arrays c = arrays
