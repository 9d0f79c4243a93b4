-- What the plain run says of each node.
use Rattle.std.proofs.Common.{◌≡◌, List, None, length, ap, sym, refl}
use Rattle.std.specs.Prelude.{All}
use Rattle.std.proofs.lemmas.List.Elements.{All-map}
use Rattle.nd_base.specs.Array.{Array, StackValue}
use Rattle.nd_base.specs.declared.graph.Graph.{Graph}
use Rattle.nd_base.specs.GraphRules.{IsGraph}
use Rattle.nd_stack.specs.KeptStacks.{IsKeptStack}
use Rattle.chain_plain.specs.OneThread.{arrays_out, one_thread}
use Rattle.chain_plain.specs.PassedLaws.{passed-none, passed-rule, passed_to-rule, passed-step}
use Rattle.chain_plain.specs.PassingLaws.{rule_within}
use Rattle.chain_plain.specs.PlainRun.{result_of}
use Rattle.graph_conf.specs.Loads.{limit_fault}
use Rattle.graph_files.specs.OutFiles.{file_shape}
use Rattle.tool_commands.specs.PlainRuns.{DriverPassesOnAll, NodesPassOnTheirInputs, ResultsAreOfTheInputs, ResultsAreOfThePassed}
use Rattle.tool_commands.specs.ReadBack.{files_read_back}
use Rattle.tool_commands.specs.Works.{Group, IsBack, node_groups, plain_groups}
use Rattle.tool_commands.proofs.EachNode.{All-each}

pub driver : DriverPassesOnAll
driver g s = passed-none g s 0 refl

pub passed_on : NodesPassOnTheirInputs
passed_on g s v n sound at = passed-rule g s v n sound (sym at)

pub results : ResultsAreOfTheInputs
results g s v n sound at = ap (one_thread g.nodes s.arrays v) (passed_to-rule g s v n (sym at))

pub arrays : ResultsAreOfThePassed
arrays g s v n sound at = ap (arrays_out g.nodes s.arrays v) (sym (passed-step g s v sound (rule_within g.nodes v n (sym at))))

pub plain_back : (g : Graph) (s : StackValue) → IsGraph g → IsKeptStack s → limit_fault g s ≡ None → All IsBack (plain_groups g s)
plain_back g s sound kept within =
    All-each (node_groups g s) IsBack 1 (length g.nodes)
    (λ v low.
    let group : List Array → Group = λ arrays. record { shape = file_shape g s v; arrays = arrays } in
    All-map IsBack group (result_of g s v).files (files_read_back g s sound kept within v))
