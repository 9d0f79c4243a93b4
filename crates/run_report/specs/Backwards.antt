-- A log that is read from its end: which of the older entries stand, where it is known who has a hand taken back later on.
use Rattle.std.specs.Prelude.{ℕ, ◌==◌, Bool, false, ◌&&◌, ◌||◌, not, [], ◌∷◌, if◌then◌else◌}
use Rattle.std.specs.BTreeSet.{contains}
use Rattle.std.specs.Ordering.{nat_cmp}
use Rattle.flow_journal.specs.declared.entry.Entry.{Entry}
use Rattle.flow_journal.specs.declared.entry.Entry.TheVariants.{Load, Issue, Take, TakeBlock, Put, Save, Saved, Reclaim}
use Rattle.flow_journal.specs.Pasts.{Past}
use Rattle.run_report.specs.declared.reclaims.Reclaims.{Reclaims}

-- some roles, as a test
abbrev pub Roles : Type 0
Roles = ℕ → Bool

abbrev pub has_role : Reclaims → Roles
has_role t q = contains nat_cmp t.roles q

-- these roles and r
abbrev pub and_role : ℕ → Roles → Roles
and_role r T q = (r == q) || T q

-- these roles without r
abbrev pub but_role : ℕ → Roles → Roles
but_role r T q = not (r == q) && T q

-- who has a hand taken back from this entry on, where these have after it
abbrev pub before : Entry → Roles → Roles
before (Load r k b n f g x) T = but_role r T
before (Take r v m k) T = but_role r T
before (TakeBlock f x r v m k b n g) T = but_role r T
before (Save r v m k g) T = but_role r T
before (Issue r k) T = but_role r T
before (Put r v m k f) T = but_role r T
before (Saved r v m k) T = but_role r T
before (Reclaim r) T = and_role r T
before _ T = T

-- the entry gives a hand to one of these
abbrev pub is_taken_back : Roles → Entry → Bool
is_taken_back T (Load r k b n f g x) = T r
is_taken_back T (Take r v m k) = T r
is_taken_back T (TakeBlock f x r v m k b n g) = T r
is_taken_back T (Save r v m k g) = T r
is_taken_back T _ = false

-- what stands of these entries, where these roles have a hand taken back after them
abbrev pub rest : Roles → Past → Past
rest T [] = []
rest T (e ∷ P) = if is_taken_back T e then rest (before e T) P else e ∷ rest (before e T) P
