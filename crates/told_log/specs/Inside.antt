-- The lists in memory, as what was told.
use Rattle.std.specs.Prelude.{ℕ, List, [], ◌∷◌, drop, slice_index_or, Option, None, if◌then◌else◌}
use Rattle.nd_base.specs.Parts.{Parts}
use Rattle.flow_journal.specs.Pasts.{Past}
use Rattle.board_rules.specs.States.{BoardState, plain, lends}
use Rattle.told_log.specs.ToldLogs.{gives_part}
use Rattle.flow_journal.specs.EntryTests.{is_reclaim}

-- Each entry that gives a part has the next of these parts beside it, and each Reclaim the next of these lists of blocks. All have the newest
-- first.
abbrev pub told_with : Past → List (Option Parts) → List (List ℕ) → BoardState
told_with [] parts lost = []
told_with (e ∷ P) parts lost =
    if gives_part e then lends e (slice_index_or parts 0 None) ∷ told_with P (drop 1 parts) lost
    else if is_reclaim e then record { entry = e; lent = None; lost = slice_index_or lost 0 [] } ∷ told_with P parts (drop 1 lost)
    else plain e ∷ told_with P parts lost
