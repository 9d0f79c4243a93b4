-- LAWS of reports.
use Rattle.std.specs.Prelude.{◌≡◌, ℕ, ◌+◌, List, length, map}
use Rattle.std.specs.List.{count_by}
use Rattle.nd_base.specs.Array.{Array}
use Rattle.nd_base.specs.declared.plan.Plan.{Plan}
use Rattle.flow_journal.specs.RunSetting.{setting_of}
use Rattle.flow_journal.specs.Pasts.{Past}
use Rattle.flow_journal.specs.Offered.{offered, offered_frames}
use Rattle.run_report.specs.Report.{is_offer, loaded, node_count, plan_setting}
use Rattle.flow_journal.specs.EntryTests.{is_refused_load}

-- where the plan has the ids of a stack's arrays, a report counts what a run of that graph over that stack counts
abbrev pub CountsAreOfRuns : Type 0
CountsAreOfRuns =
    (p : Plan) (arrays : List Array) (P : Past) (v : ℕ) → p.ids ≡ map (λ (a : Array). a.id) arrays
    → node_count (plan_setting p) P v ≡ node_count (setting_of p.graph p.makers arrays) P v

-- what a report counts as offered to a node is what came to it
abbrev pub OffersAreCounted : Type 0
OffersAreCounted = (P : Past) (v : ℕ) → count_by (is_offer v) P ≡ length (offered v P)

-- and at the driver the frames that were offered and not taken back
abbrev pub FramesAreCounted : Type 0
FramesAreCounted = (P : Past) → loaded P + count_by is_refused_load P ≡ length (offered_frames P)
