-- LAWS: the text of a log of a run is within the limit of a log's file.
use Rattle.std.specs.Prelude.{◌≡◌, ◌≤◌, true, List, length, reverse, All, None}
use Rattle.nd_base.specs.Array.{StackValue}
use Rattle.nd_base.specs.GraphRules.{IsGraph}
use Rattle.nd_base.specs.Stacks.{IsStack}
use Rattle.nd_base.specs.declared.graph.Graph.{Graph}
use Rattle.nd_base.specs.declared.plan.Maker.{Maker}
use Rattle.graph_conf.specs.Loads.{limit_fault}
use Rattle.flow_journal.specs.Pasts.{Past}
use Rattle.flow_journal.specs.Histories.{is_legal}
use Rattle.flow_journal.specs.RunSetting.{setting_of}
use Rattle.flow_journal.specs.Spelling.{text_of}
use Rattle.flow_journal.specs.TextFaults.{Fits}

-- where the graph and the stack pass no limit, no legal log of their run has more bytes
abbrev pub LogTextsAreShort : Type 0
LogTextsAreShort =
    (g : Graph) (makers : List Maker) (stack : StackValue) (P : Past) → IsGraph g → IsStack stack → limit_fault g stack ≡ None
    → is_legal (setting_of g makers stack.arrays) P ≡ true → All Fits (reverse P) → length (text_of (reverse P)) ≤ 536870912
