-- No block that is held is handed out: the laws of loads and takes in one.
use Rattle.std.proofs.Common.{◌≡◌, ℕ, true, List, ◌∷◌, ◌++◌}
use Rattle.nd_base.specs.Array.{Array}
use Rattle.nd_base.specs.declared.graph.Graph.{Graph}
use Rattle.nd_base.specs.declared.plan.Maker.{Maker}
use Rattle.flow_journal.specs.declared.entry.Entry.{Entry}
use Rattle.flow_journal.specs.Pasts.{Past}
use Rattle.flow_journal.specs.Accounts.{refs}
use Rattle.flow_journal.specs.Histories.{is_legal}
use Rattle.flow_journal.specs.RunSetting.{setting_of}
use Rattle.flow_journal.proofs.Places.{runs-load, runs-take}
use Rattle.run_laws.specs.BufferLaws.{Grants, by_load, by_take}

pub grants-unplaced : (g : Graph) (makers : List Maker) (arrays : List Array) (newer P : Past) (e : Entry) (b : ℕ)
    → is_legal (setting_of g makers arrays) (newer ++ e ∷ P) ≡ true → Grants e b → refs (setting_of g makers arrays) P b ≡ 0
grants-unplaced g makers arrays newer P e b h by_load = runs-load g makers arrays newer P _ _ _ _ _ _ _ h
grants-unplaced g makers arrays newer P e b h by_take = runs-take g makers arrays newer P _ _ _ _ _ _ _ _ _ h
