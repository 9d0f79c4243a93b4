-- The notes of a run.
use Rattle.std.specs.Prelude.{◌≡◌, Bool, ◌++◌}
use Rattle.flow_journal.specs.Setting.{Setting}
use Rattle.flow_journal.specs.Pasts.{Past}
use Rattle.flow_journal.specs.Notes.{Watched}
use Rattle.flow_saver.specs.Turns.{AreNotesOf}

-- The notes are those of the role that saves, of fronts of this log: what it had seen when it ended, the log begins with.
pub record HasNotesOf (s : Setting) (log : Past) (old new : Watched) : Type 0 where
  pub seen : Past
  pub newer : Past
  pub begins : log ≡ newer ++ seen
  pub want : Bool
  pub notes : AreNotesOf s seen want old new
