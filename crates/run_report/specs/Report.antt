-- The report: what it counts in a log, as counts of the log's entries.
use Rattle.std.specs.Prelude.{ℕ, ◌+◌, ◌-◌, ◌==◌, Bool, false, [], length, map}
use Rattle.std.specs.List.{count_by}
use Rattle.nd_base.specs.declared.plan.Plan.{Plan}
use Rattle.flow_journal.specs.declared.entry.Entry.{Entry}
use Rattle.flow_journal.specs.declared.entry.Entry.TheVariants.{Accept, Full}
use Rattle.flow_journal.specs.Setting.{Setting, node_numbers}
use Rattle.flow_journal.specs.RunSetting.{setting_of}
use Rattle.flow_journal.specs.Pasts.{Past}
use Rattle.flow_journal.specs.EntryTests.{is_full, is_pool_drop, is_sort_drop, is_refused_load, says_regrown}
use Rattle.flow_journal.specs.Hands.{standing, is_loaded}
use Rattle.flow_journal.specs.Breaks.{outs, breaks}
use Rattle.run_report.specs.declared.counts.NodeCount.{NodeCount}
use Rattle.run_report.specs.declared.counts.Counters.{Counters}

-- an array came to the node
abbrev pub is_offer : ℕ → Entry → Bool
is_offer v (Accept w m k) = w == v
is_offer v (Full w m k) = w == v
is_offer v _ = false

-- the loads that were not taken back
abbrev pub loaded : Past → ℕ
loaded P = count_by is_loaded (standing P)

-- all drops of the node
abbrev pub drops : ℕ → Past → ℕ
drops v P = count_by (is_full v) P + count_by (is_pool_drop v) P + count_by (is_sort_drop v) P

-- the counts of a node; what was dropped isn't accepted
abbrev pub node_count : Setting → Past → ℕ → NodeCount
node_count s P v =
    record {
      offered = count_by (is_offer v) P;
      accepted = count_by (is_offer v) P - drops v P;
      full = count_by (is_full v) P;
      pool = count_by (is_pool_drop v) P;
      sort = count_by (is_sort_drop v) P;
      out = length (outs s v P);
      breaks = breaks s v P;
    }

-- the graph and the ids of a plan
abbrev pub plan_setting : Plan → Setting
plan_setting p = record (setting_of p.graph p.makers []) { ids = p.ids }

-- the counters of a log, whose entries are these, the newest first
abbrev pub report : Plan → Past → Counters
report p P =
    record {
      frames = length p.ids;
      offered = loaded P + count_by is_refused_load P;
      loaded = loaded P;
      refused = count_by is_refused_load P;
      breaks = breaks (plan_setting p) 0 P;
      regrown = count_by says_regrown P;
      nodes = map (node_count (plan_setting p) P) (node_numbers (plan_setting p));
    }
