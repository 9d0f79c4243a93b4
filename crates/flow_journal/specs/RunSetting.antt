-- What a graph, its makers and the stack's arrays give a run.
use Rattle.std.specs.Prelude.{ℕ, ◌==◌, Bool, true, false, List, [], ◌∷◌, map, Option, Some, None, slice_get, if◌then◌else◌}
use Rattle.nd_base.specs.Array.{Array}
use Rattle.nd_base.specs.declared.attribute.Attr.{Attr}
use Rattle.nd_base.specs.declared.graph.Graph.{Graph}
use Rattle.nd_base.specs.declared.graph.NodeRule.{NodeRule}
use Rattle.nd_base.specs.declared.graph.Kind.{Kind}
use Rattle.nd_base.specs.declared.graph.Kind.TheVariants.{Roi, Stats, Circular, File, Scatter}
use Rattle.nd_base.specs.declared.graph.Mode.{Mode}
use Rattle.nd_base.specs.declared.graph.Mode.TheVariants.{Single, Capture, Stream}
use Rattle.nd_base.specs.declared.plan.Maker.{Maker}
use Rattle.nd_base.specs.GraphRules.{rule_at}
use Rattle.trig_window.specs.Triggers.{trigger_fires}
use Rattle.flow_journal.specs.Setting.{Setting, Node, Work, Makes, Passes, Watches, Saves}

-- in mode capture a group is written once it is whole
abbrev pub is_capture : Mode → Bool
is_capture Single = false
is_capture Capture = true
is_capture Stream = false

abbrev pub work_of : Kind → Work
work_of (Roi r) = Makes
work_of (Stats r) = Passes false
work_of Scatter = Passes true
work_of (Circular r) = Watches r.pre r.post r.preset
work_of (File r) = Saves (is_capture r.mode) r.count

abbrev pub node_of : NodeRule → Node
node_of n = record { work = work_of n.kind; input = n.input; queue = n.queue; threads = n.threads; sort = n.sort; sort_time = n.sort_time }

-- the bytes of an array of the first of these makers that is node m, or 0
abbrev pub need_of : List Maker → ℕ → ℕ
need_of [] m = 0
need_of (k ∷ ks) m = if k.node == m then k.need else need_of ks m

-- a circular node fires at an array with these attributes
abbrev pub kind_fires : Kind → List Attr → Bool
kind_fires (Circular r) attrs = trigger_fires r attrs
kind_fires (Roi r) attrs = false
kind_fires (Stats r) attrs = false
kind_fires (File r) attrs = false
kind_fires Scatter attrs = false

-- the node fires at this array, whose attributes are those of its frame in the stack, whatever made it
abbrev pub node_fires : Option NodeRule → Option Array → Bool
node_fires None a = false
node_fires (Some n) None = false
node_fires (Some n) (Some a) = kind_fires n.kind a.attrs

abbrev pub setting_of : Graph → List Maker → List Array → Setting
setting_of g makers arrays =
    record {
      wait = g.wait;
      pooled = true;
      limit = g.limit;
      nodes = map node_of g.nodes;
      ids = map (λ (a : Array). a.id) arrays;
      need = need_of makers;
      fires = λ v k. node_fires (rule_at g.nodes v) (slice_get arrays k);
    }

-- the same without an account of blocks, for a board that has no pool: the grants in its log are all zeros
abbrev pub without_pool : Setting → Setting
without_pool s = record s { pooled = false }
