use Rattle.std.proofs.Common.{◌≡◌, ℕ, ◌+◌, ◌*◌, ◌<◌, ◌≤◌, length, drop}
use Rattle.std.specs.Prelude.{All}
use Rattle.data_check.specs.ComparedFiles.{group_files, IsSame, NoneFailed}
use Rattle.data_check.proofs.files.first_group.Given as goal

-- the files of the groups so far are as they are to be
abbrev pub invariant-loop-rest : goal.invariant-loop-rest
invariant-loop-rest g l =
    let holds = g.L.Library.holds in
    record {
      same : holds l.library ≡ holds l.fn.library;
      none : g.L.Library.faults l.library ≡ g.L.Library.faults l.fn.library;
      at : NoneFailed (g.L.Library.faults_at l.fn.library) (g.L.Library.faults_at l.library);
      rest : l.rest ≡ drop (l.group * l.file.count) l.initial.rest;
      few : l.group + length l.rest ≤ length l.initial.rest;
      all : (k : ℕ) → k < l.group
          → All (IsSame (holds l.fn.library)) (group_files l.history.graph l.history.stack l.history.prefix l.history.past l.node l.rule k);
    }

abbrev pub decreases-loop-rest : goal.decreases-loop-rest
decreases-loop-rest g l = length l.rest
