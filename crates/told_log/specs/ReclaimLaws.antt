-- LAW of how many Reclaims there are: room for one of each role before the last is room for all.
use Rattle.std.specs.Prelude.{◌≡◌, ℕ, ◌<◌, ◌∷◌, true}
use Rattle.flow_journal.specs.declared.entry.Entry.TheVariants.{Reclaim}
use Rattle.flow_journal.specs.Setting.{Setting, last_role}
use Rattle.flow_journal.specs.Pasts.{Past}
use Rattle.flow_journal.specs.Histories.{is_legal}
use Rattle.told_log.specs.ToldLogs.{count_reclaims}

-- where a Reclaim may come, there were fewer than there are roles before the last
abbrev pub ReclaimsHaveRoom : Type 0
ReclaimsHaveRoom = (s : Setting) (r : ℕ) (P : Past) → is_legal s (Reclaim r ∷ P) ≡ true → count_reclaims P < last_role s
