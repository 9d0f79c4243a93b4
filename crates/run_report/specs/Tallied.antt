-- The tallies of a log that is read whole.
use Rattle.std.specs.Prelude.{◌≡◌, ◌∷◌, map}
use Rattle.std.specs.List.{All, count_by}
use Rattle.nd_base.specs.declared.plan.Plan.{Plan}
use Rattle.flow_journal.specs.Setting.{first_prev, node_numbers}
use Rattle.flow_journal.specs.Pasts.{Past}
use Rattle.run_report.specs.declared.counting.Tally.{Tally}
use Rattle.run_report.specs.Report.{loaded, node_count, plan_setting}
use Rattle.flow_journal.specs.EntryTests.{is_refused_load, says_regrown}
use Rattle.run_report.specs.Tallies.{HasRoomForCounts, HasRoomForLoads, finished}

-- they are the counts of the report, the driver's first
pub record IsTallied (p : Plan) (P : Past) (t : Tally) : Type 0 where
  pub loaded : t.feed.loaded ≡ loaded P
  pub refused : t.feed.refused ≡ count_by is_refused_load P
  pub regrown : t.feed.regrown ≡ count_by says_regrown P
  pub nodes : map (finished (first_prev p.ids)) t.nodes.items ≡ map (node_count (plan_setting p) P) (0 ∷ node_numbers (plan_setting p))
  pub loads : HasRoomForLoads t.feed
  pub room : All HasRoomForCounts t.nodes.items
