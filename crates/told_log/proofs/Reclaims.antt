-- How many Reclaims a legal log has.
use Rattle.std.proofs.Common.{◌≡◌, ℕ, suc, [], ◌∷◌, refl, ap, arith}
use Rattle.flow_journal.specs.declared.entry.Entry.TheVariants.{Reclaim}
use Rattle.flow_journal.specs.Pasts.{Past}
use Rattle.flow_journal.proofs.EntryCounts.{count}
use Rattle.flow_journal.proofs.Lengths.{reclaims-few}
use Rattle.flow_journal.specs.EntryTests.{is_reclaim}
use Rattle.told_log.specs.ToldLogs.{count_reclaims}
use Rattle.told_log.specs.ReclaimLaws.{ReclaimsHaveRoom}

pub reclaims-counted : (P : Past) → count_reclaims P ≡ count is_reclaim P
reclaims-counted [] = refl
reclaims-counted (Reclaim r ∷ P) = ap (λ (n : ℕ). suc n) (reclaims-counted P)
reclaims-counted (_ ∷ P) = reclaims-counted P

-- with room for as many as there are roles before the last there is room for the next one
pub reclaims-have-room : ReclaimsHaveRoom
reclaims-have-room s r P h = omega (arith, reclaims-counted (Reclaim r ∷ P), reclaims-few s (Reclaim r ∷ P) h)
