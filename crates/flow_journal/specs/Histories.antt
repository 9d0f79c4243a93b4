-- The legal histories.
use Rattle.std.specs.Prelude.{◌≡◌, ℕ, ◌==◌, Bool, true, false, ◌&&◌, nat_le, List, [], ◌∷◌, if◌then◌else◌}
use Rattle.flow_journal.specs.declared.entry.Entry.{Entry}
use Rattle.flow_journal.specs.declared.entry.Entry.TheVariants.{Tick, Emit, Accept, Full, SortDrop}
use Rattle.flow_journal.specs.declared.entry.Why.{Why}
use Rattle.flow_journal.specs.declared.entry.Why.TheVariants.{Plain, Step, Late, Flush, Ring, Now}
use Rattle.flow_journal.specs.Setting.{Setting}
use Rattle.flow_journal.specs.Pasts.{Past}
use Rattle.flow_journal.specs.Queued.{has_room}
use Rattle.flow_journal.specs.FirstEntries.{first}
use Rattle.flow_journal.specs.Following.{owed}

abbrev pub why_number : Why → ℕ
why_number Plain = 0
why_number Step = 1
why_number Late = 2
why_number Flush = 3
why_number Ring = 4
why_number Now = 5

-- the first is the second, of the entries that follow; a Tick may be later
abbrev pub is_such : Entry → Entry → Bool
is_such (Tick u) (Tick t) = nat_le t u
is_such (Emit w n j how) (Emit v m k why) = (v == w) && (m == n) && (k == j) && (why_number why == why_number how)
is_such (Accept w n j) (Accept v m k) = (v == w) && (m == n) && (k == j)
is_such (Full w n j) (Full v m k) = (v == w) && (m == n) && (k == j)
is_such (SortDrop w n j) (SortDrop v m k) = (v == w) && (m == n) && (k == j)
is_such _ _ = false

-- what was called for, as it comes after P: an offer finds room or doesn't
abbrev pub wanted : Setting → Past → Entry → Entry
wanted s P (Accept c m k) = if has_room s P c then Accept c m k else Full c m k
wanted s P d = d

-- e is what was called for by d
abbrev pub answers : Setting → Past → Entry → Entry → Bool
answers s P e d = is_such e (wanted s P d)

-- e may come next, where these are still owed
abbrev pub next : Setting → Past → Entry → List Entry → Bool
next s P e [] = first s P e
next s P e (d ∷ ds) = answers s P e d

-- each entry was in its place; the last move may lack entries at its end
abbrev pub is_legal : Setting → Past → Bool
is_legal s [] = true
is_legal s (e ∷ P) = is_legal s P && next s P e (owed s P)

abbrev pub is_nothing : List Entry → Bool
is_nothing [] = true
is_nothing (e ∷ es) = false

-- a legal history: each entry was in its place, and nothing is owed
abbrev pub is_history : Setting → Past → Bool
is_history s P = is_legal s P && is_nothing (owed s P)

-- each entry was in its place, and just these are still owed
pub record Owes (s : Setting) (P : Past) (ds : List Entry) : Type 0 where
  pub legal : is_legal s P ≡ true
  pub rest : owed s P ≡ ds
