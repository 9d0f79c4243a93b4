-- A graph as plain data.
use Rattle.std.specs.Prelude.{◌≡◌, pos, true, false, [], ◌∷◌, codes, Option, Some, None, refl, length}
use Rattle.nd_base.specs.declared.graph.Graph.{Graph}
use Rattle.nd_base.specs.declared.graph.NodeRule.{NodeRule}
use Rattle.nd_base.specs.declared.graph.CircularRule.{CircularRule}
use Rattle.nd_base.specs.declared.graph.Kind.TheVariants.{Circular, File}
use Rattle.nd_base.specs.declared.graph.Mode.TheVariants.{Stream}
use Rattle.nd_base.specs.declared.form.Form.TheVariants.{Classic}
use Rattle.nd_base.specs.declared.graph.Sign.TheVariants.{And, Above, Equal}
use Rattle.nd_base.specs.Trees.{Tree, number, letter_a, letter_b, not_of, two}
use Rattle.nd_base.specs.GraphRules.{rule_at, is_source, source_of, input_of}

-- A>3&&!(B==0)
abbrev above_three_and_set : Tree
above_three_and_set = two And (two Above letter_a (number (pos 3))) (not_of (two Equal letter_b (number (pos 0))))

abbrev gate_rule : CircularRule
gate_rule = record { pre = 2; post = 3; preset = 0; trigger = above_three_and_set; a = codes "Gate"; b = codes "Beam" }

abbrev gate : NodeRule
gate = record { name = codes "gate"; kind = Circular gate_rule; input = 0; queue = 8; threads = 1; sort = 0; sort_time = 0 }

abbrev saved : NodeRule
saved = record {
  name = codes "out";
  kind = File (record { mode = Stream; count = 4; form = Classic });
  input = 1;
  queue = 8;
  threads = 1;
  sort = 0;
  sort_time = 0;
}

-- the driver, a circular node and a file node behind it
abbrev two_nodes : Graph
two_nodes = record { wait = false; limit = 0; nodes = gate ∷ saved ∷ [] }

the_gate_is_first : rule_at two_nodes.nodes 1 ≡ Some gate
the_gate_is_first = refl

a_file_node_feeds_none : is_source two_nodes.nodes 2 ≡ false
a_file_node_feeds_none = refl

two_steps_lead_to_the_driver : source_of two_nodes.nodes 2 2 ≡ 0
two_steps_lead_to_the_driver = refl

its_trigger_is_seen : (record gate { kind = Circular (record gate_rule { trigger = letter_a }) }) ≡ record {
  name = codes "gate";
  kind = Circular (record { pre = 2; post = 3; preset = 0; trigger = letter_a; a = codes "Gate"; b = codes "Beam" });
  input = 0;
  queue = 8;
  threads = 1;
  sort = 0;
  sort_time = 0;
}
its_trigger_is_seen = refl
