-- The tick that is kept, and what has ended.
use Rattle.std.specs.Prelude.{ℕ, ◌==◌, Bool, true, false, [], ◌∷◌, if◌then◌else◌}
use Rattle.std.specs.List.{list_any}
use Rattle.flow_journal.specs.declared.entry.Entry.{Entry}
use Rattle.flow_journal.specs.declared.entry.Entry.TheVariants.{Tick, Settle, Close, Leave, Reclaim}
use Rattle.flow_journal.specs.Pasts.{Past}

-- the last Tick, or 0
abbrev pub now : Past → ℕ
now [] = 0
now (Tick t ∷ P) = t
now (e ∷ P) = now P

abbrev pub closes : Entry → Bool
closes (Close r) = true
closes _ = false

-- the driver has ended
abbrev pub is_closed : Past → Bool
is_closed P = list_any closes P

abbrev pub settles : ℕ → Entry → Bool
settles v (Settle r w) = w == v
settles v _ = false

-- the node has ended
abbrev pub is_settled : ℕ → Past → Bool
is_settled v P = list_any (settles v) P

-- the driver, which is 0, or the node has ended
abbrev pub has_ended : ℕ → Past → Bool
has_ended v P = if v == 0 then is_closed P else is_settled v P

abbrev pub leaves : Entry → Bool
leaves (Leave r) = true
leaves _ = false

abbrev pub leaves_as : ℕ → Entry → Bool
leaves_as r (Leave q) = q == r
leaves_as r _ = false

-- some role has left
abbrev pub has_left_any : Past → Bool
has_left_any P = list_any leaves P

-- this role has left
abbrev pub has_left : ℕ → Past → Bool
has_left r P = list_any (leaves_as r) P

abbrev pub reclaims : ℕ → Entry → Bool
reclaims r (Reclaim q) = q == r
reclaims r _ = false

-- a hand of this role was taken back
abbrev pub was_reclaimed : ℕ → Past → Bool
was_reclaimed r P = list_any (reclaims r) P
