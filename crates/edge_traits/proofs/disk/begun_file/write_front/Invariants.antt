use Rattle.std.proofs.Common.{◌≡◌, ℕ, List, ◌++◌, ◌+◌, length}
use Rattle.std.specs.Io.KnownBytes.{Appends}
use Rattle.edge_traits.proofs.disk.begun_file.write_front.Given as goal

abbrev pub invariant-loop-rest : goal.invariant-loop-rest
invariant-loop-rest g l =
    (done : List ℕ) × (l.bytes ≡ done ++ l.rest) × (l.place ≡ l.initial.place + length done)
    × Appends (g.F.Write.contents l.initial.file) (g.F.Write.contents l.file) done

abbrev pub decreases-loop-rest : goal.decreases-loop-rest
decreases-loop-rest g l = length l.rest
