-- A whole run, in one record.
use Rattle.std.specs.Prelude.{◌≡◌, ℕ, true, List, Option}
use Rattle.nd_base.specs.Array.{StackValue}
use Rattle.nd_base.specs.declared.graph.Graph.{Graph}
use Rattle.edge_traits.specs.Files.{Files}
use Rattle.edge_traits.specs.Ticks.{Coming}
use Rattle.flow_journal.specs.Notes.{Watched}
use Rattle.board_rules.specs.Ends.{measured}
use Rattle.board_rules.specs.RunMeasures.{run_measure, run_setting}
use Rattle.board_rules.specs.Storage.{is_never_regrown}
use Rattle.run_laws.specs.Results.{IsFinishedRun}
use Rattle.graph_files.specs.NodeFiles.{NodeFile}
use Rattle.graph_files.specs.OpenFiles.{file_nodes}
use Rattle.flow_saver.specs.Saver.{CountsSo}
use Rattle.flow_run.specs.declared.run.RunEnd.{RunEnd}
use Rattle.flow_run.specs.RunFiles.{HasSavedRun}
use Rattle.flow_run.specs.RunNotes.{HasNotesOf}
use Rattle.flow_run.specs.Strangers.{AreOwnMoves}
use Rattle.flow_run.specs.Ticks.{IsFedByTheClock}

-- what the shelf and the clock tell
pub record Outside : Type 0 where
  pub held : Option Files
  pub faults : ℕ
  pub coming : Option Coming

abbrev pub outside : Option Files → ℕ → Option Coming → Outside
outside held faults coming = record { held = held; faults = faults; coming = coming }

-- a run that has finished, whose files began as these; what was outside before it, and after it; and what its watch was told
pub record HasRun (g : Graph) (stack : StackValue) (began : List NodeFile) (before after : Outside) (old new : Watched) (end : RunEnd) : Type 0 where
  pub finished : IsFinishedRun (run_setting g stack) end.log.past
  pub measures : end.measures ≡ measured (run_measure g stack) (run_setting g stack) end.log.past
  pub files : (prefix : List ℕ) → began ≡ file_nodes g stack prefix → HasSavedRun g stack prefix end.log.past before.held end.fault after.held
  pub fault : CountsSo end.fault before.faults after.faults
  pub roles : AreOwnMoves (run_setting g stack) end.log.past
  pub ticks : IsFedByTheClock (run_setting g stack) end.log.past before.coming after.coming
  pub storage : is_never_regrown end.log.past ≡ true
  pub notes : HasNotesOf (run_setting g stack) end.log.past old new
