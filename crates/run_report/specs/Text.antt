-- The text of a report: a line each, with one space between words and decimal numbers.
use Rattle.std.specs.Prelude.{ℕ, List, ◌++◌, codes}
use Rattle.std.specs.Fmt.{decimal}
use Rattle.std.specs.List.{flat_map, zip}
use Rattle.nd_base.specs.declared.graph.Graph.{Graph}
use Rattle.nd_base.specs.declared.graph.NodeRule.{NodeRule}
use Rattle.run_report.specs.declared.counts.NodeCount.{NodeCount}
use Rattle.run_report.specs.declared.counts.Counters.{Counters}

abbrev pub frames_line : Counters → List ℕ
frames_line c = codes "frames " ++ decimal c.frames ++ codes "\n"

abbrev pub driver_text : Counters → List ℕ
driver_text c =
    codes "driver offered " ++ decimal c.offered ++ codes " loaded " ++ decimal c.loaded ++ codes " refused " ++ decimal c.refused
    ++ codes " breaks " ++ decimal c.breaks

abbrev pub driver_line : Counters → List ℕ
driver_line c = driver_text c ++ codes "\n"

-- what came to a node of this name
abbrev pub offers_text : List ℕ → NodeCount → List ℕ
offers_text name n = codes "node " ++ name ++ codes " offered " ++ decimal n.offered ++ codes " accepted " ++ decimal n.accepted

abbrev pub drops_text : NodeCount → List ℕ
drops_text n = codes " full " ++ decimal n.full ++ codes " pool " ++ decimal n.pool ++ codes " sort " ++ decimal n.sort

abbrev pub outs_text : NodeCount → List ℕ
outs_text n = codes " out " ++ decimal n.out ++ codes " breaks " ++ decimal n.breaks

abbrev pub node_line : List ℕ → NodeCount → List ℕ
node_line name n = offers_text name n ++ drops_text n ++ outs_text n ++ codes "\n"

-- of each node with its counts
abbrev pub node_lines : List NodeRule → List NodeCount → List ℕ
node_lines ns cs = flat_map (λ n. node_line n.0.name n.1) (zip ns cs)

abbrev pub regrown_line : Counters → List ℕ
regrown_line c = codes "regrown " ++ decimal c.regrown ++ codes "\n"

-- the frames, the driver, each node in the graph's order, and the grants whose storage was made again
abbrev pub report_text : Graph → Counters → List ℕ
report_text g c =
    frames_line c ++ driver_line c ++ node_lines g.nodes c.nodes ++ regrown_line c
