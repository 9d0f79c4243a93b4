-- The setting of a board, and what is measured in its run.
use Rattle.std.specs.Prelude.{ℕ, Option, Some, None}
use Rattle.nd_base.specs.Array.{Array, StackValue}
use Rattle.nd_base.specs.GraphRules.{rule_at}
use Rattle.nd_base.specs.declared.frame.FrameName.{FrameName}
use Rattle.nd_base.specs.declared.graph.Graph.{Graph}
use Rattle.nd_base.specs.declared.graph.Kind.{Kind}
use Rattle.nd_base.specs.declared.graph.Kind.TheVariants.{Roi, Stats, Circular, File, Scatter}
use Rattle.nd_base.specs.declared.graph.NodeRule.{NodeRule}
use Rattle.nd_base.specs.declared.measure.Measure.{Measure}
use Rattle.chain_plain.specs.Content.{content}
use Rattle.chain_plain.specs.OneThread.{measure_of_array}
use Rattle.chain_plain.specs.Plans.{makers_of}
use Rattle.flow_journal.specs.Setting.{Setting}
use Rattle.flow_journal.specs.RunSetting.{setting_of}

-- what the run of this graph over this stack is given, with its blocks accounted
abbrev pub run_setting : Graph → StackValue → Setting
run_setting g stack = setting_of g (makers_of g.nodes stack.shape) stack.arrays

-- a statistics node measures the array; no other kind measures
abbrev pub kind_measure : Kind → Option Array → Option Measure
kind_measure (Stats r) (Some a) = Some (measure_of_array r a)
kind_measure (Stats r) None = None
kind_measure (Roi r) a = None
kind_measure (Circular r) a = None
kind_measure (File r) a = None
kind_measure Scatter a = None

abbrev pub rule_measure : Option NodeRule → Option Array → Option Measure
rule_measure (Some n) a = kind_measure n.kind a
rule_measure None a = None

-- what the node measures of the content of the frame of this name
abbrev pub run_measure : Graph → StackValue → ℕ → FrameName → Option Measure
run_measure g stack v a = rule_measure (rule_at g.nodes v) (content g.nodes stack.arrays a)
