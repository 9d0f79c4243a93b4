-- What stands just before a drop.
use Rattle.std.proofs.Common.{◌≡◌, ℕ, true, false, ◌∷◌, ◌++◌, refl, sym, ap, ◌∙◌}
use Rattle.flow_journal.specs.declared.entry.Entry.TheVariants.{LoadRefused, Full, PoolDrop}
use Rattle.flow_journal.specs.Setting.{Setting}
use Rattle.flow_journal.specs.Pasts.{Past}
use Rattle.flow_journal.specs.Queued.{has_room}
use Rattle.flow_journal.specs.Histories.{is_legal}
use Rattle.flow_journal.proofs.Histories.{legal-front}
use Rattle.flow_journal.proofs.Rows.{row_laws}
use Rattle.flow_journal.proofs.Hands.{row_of}
use Rattle.flow_journal.proofs.EntryCounts.{count, owed-answered}
use Rattle.flow_journal.specs.RowFacts.{RefusalFacts}
use Rattle.run_laws.proofs.Fulls.{is_any_full, no_full_owed, head-no_full, full-answers}

pub full-cause : (s : Setting) (newer P : Past) (v m k : ℕ) → is_legal s (newer ++ Full v m k ∷ P) ≡ true → has_room s P v ≡ false
full-cause s newer P v m k all =
    let h : is_legal s (Full v m k ∷ P) ≡ true = legal-front s newer (Full v m k ∷ P) all in
    let a = owed-answered s (Full v m k) P refl h in
    let none : count is_any_full (a.head ∷ a.rest) ≡ 0 = sym (ap (count is_any_full) a.is) ∙ no_full_owed s P in
    (full-answers s P v m k a.head a.answer (head-no_full a.head a.rest none)).1

pub pool-cause : (s : Setting) (newer P : Past) (r v m k n z : ℕ) → is_legal s (newer ++ PoolDrop r v m k n z ∷ P) ≡ true → RefusalFacts s v n z P
pool-cause s newer P r v m k n z h =
    ((row_laws.pool_drop s P r v m k n z).0 (row_of s (PoolDrop r v m k n z) P (λ d. refl) (legal-front s newer (PoolDrop r v m k n z ∷ P) h))).2

pub load-cause : (s : Setting) (newer P : Past) (r k n z : ℕ) → is_legal s (newer ++ LoadRefused r k n z ∷ P) ≡ true → RefusalFacts s 0 n z P
load-cause s newer P r k n z h =
    ((row_laws.load_refused s P r k n z).0 (row_of s (LoadRefused r k n z) P (λ d. refl) (legal-front s newer (LoadRefused r k n z ∷ P) h))).1
