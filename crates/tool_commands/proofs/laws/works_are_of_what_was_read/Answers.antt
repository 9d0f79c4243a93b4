use Rattle.tool_commands.proofs.Loads.{of_load}
use Rattle.tool_commands.proofs.Leads.{of_sources, of_plain, of_copy, of_info}
use Rattle.tool_commands.proofs.laws.works_are_of_what_was_read.Goals as goal

pub returns-clause-sources : goal.returns-clause-sources
returns-clause-sources c = of_sources

pub returns-clause-plain : goal.returns-clause-plain
returns-clause-plain c = of_plain

pub returns-clause-copy : goal.returns-clause-copy
returns-clause-copy c = of_copy

pub returns-clause-info : goal.returns-clause-info
returns-clause-info c = of_info

pub returns-clause-limits : goal.returns-clause-limits
returns-clause-limits c = of_load
