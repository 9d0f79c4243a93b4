-- Worked graphs: contents, plans and one-thread results that compute.
use Rattle.std.specs.Prelude.{◌≡◌, ℕ, ℤ, pos, Bool, true, false, List, [], ◌∷◌, Some, None, codes, map, refl}
use Rattle.nd_base.specs.Array.{Array, StackValue}
use Rattle.nd_base.specs.declared.form.Form.TheVariants.{Classic}
use Rattle.nd_base.specs.declared.array.Dim.{Dim}
use Rattle.nd_base.specs.declared.array.SampleType.TheVariants.{UInt8, UInt16}
use Rattle.nd_base.specs.declared.attribute.AttrValue.TheVariants.{Whole}
use Rattle.nd_base.specs.declared.attribute.FileShape.{FileShape}
use Rattle.nd_base.specs.declared.frame.FrameName.{FrameName}
use Rattle.nd_base.specs.Trees.{letter_a}
use Rattle.nd_base.specs.declared.graph.Graph.{Graph}
use Rattle.nd_base.specs.declared.graph.Kind.{Kind}
use Rattle.nd_base.specs.declared.graph.Kind.TheVariants.{Roi, Stats, Circular, File, Scatter}
use Rattle.nd_base.specs.declared.graph.Mode.TheVariants.{Capture}
use Rattle.nd_base.specs.declared.graph.NodeRule.{NodeRule}
use Rattle.nd_base.specs.declared.graph.RoiRule.{RoiRule}
use Rattle.chain_plain.specs.Content.{content}
use Rattle.chain_plain.specs.OneThread.{outputs, groups, one_thread}
use Rattle.chain_plain.specs.Plans.{makers_of}
use Rattle.chain_plain.specs.PlainRun.{passed, passed_to}

abbrev side : ℕ → Dim
side n = record { size = n; offset = pos 0; binning = pos 1; reverse = false }

abbrev shape_of : List Dim → FileShape
shape_of dims = record { form = Classic; kind = UInt8; dims = dims; attrs = []; width = 0; extras = [] }

abbrev pub node : List ℕ → Kind → ℕ → NodeRule
node name kind input = record { name = name; kind = kind; input = input; queue = 20; threads = 1; sort = 0; sort_time = 100 }

-- a graph with a free feed and no limit of its pool
abbrev pub graph_of : List NodeRule → Graph
graph_of nodes = record { wait = false; limit = 0; nodes = nodes }

-- 200 by 100 out of 640 by 480, binned two by two into 16 bits
abbrev pub half : RoiRule
half = record { min = pos 100 ∷ pos 50 ∷ []; size = pos 200 ∷ pos 100 ∷ []; bin = pos 2 ∷ pos 2 ∷ []; reverse = []; auto = []; scale = 1; out = Some UInt16 }

abbrev detector : StackValue
detector = record { shape = shape_of (side 640 ∷ side 480 ∷ []); arrays = [] }

abbrev pub halved : List NodeRule
halved =
    node (codes "roi") (Roi half) 0
    ∷ node (codes "st") (Stats (record { threshold = pos 0; border = 0; hist_size = 0; hist_lo = pos 0; hist_hi = pos 0; profiles = false })) 1
    ∷ node (codes "cap") (File (record { mode = Capture; count = 5; form = Classic })) 2
    ∷ []

the_makers_of_the_worked_graph : makers_of halved detector.shape ≡
    record { node = 0; kind = UInt8; dims = side 640 ∷ side 480 ∷ []; need = 307200 }
    ∷ record {
      node = 1;
      kind = UInt16;
      dims =
          record { size = 100; offset = pos 100; binning = pos 2; reverse = false }
          ∷ record { size = 50; offset = pos 50; binning = pos 2; reverse = false } ∷ [];
      need = 10000;
    }
    ∷ []
the_makers_of_the_worked_graph = refl

abbrev pub cut_out : (min size bin : ℤ) → Bool → RoiRule
cut_out min size bin reverse = record { min = min ∷ []; size = size ∷ []; bin = bin ∷ []; reverse = reverse ∷ []; auto = []; scale = 1; out = None }

-- three regions, the last of which comes first in the graph
abbrev pub three : List NodeRule
three =
    node (codes "last") (Roi (cut_out (pos 1) (pos 2) (pos 1) true)) 2
    ∷ node (codes "second") (Roi (cut_out (pos 0) (pos 6) (pos 2) false)) 3
    ∷ node (codes "first") (Roi (cut_out (pos 1) (pos 6) (pos 1) false)) 0
    ∷ []

abbrev line : List ℤ → Array
line samples = record { id = pos 7; stamp = 0; sec = pos 0; nsec = pos 0; kind = UInt8; dims = side 8 ∷ []; samples = samples; attrs = [] }

abbrev two_lines : List Array
two_lines =
    line (pos 1 ∷ pos 2 ∷ pos 3 ∷ pos 4 ∷ pos 5 ∷ pos 6 ∷ pos 7 ∷ pos 8 ∷ [])
    ∷ line (pos 10 ∷ pos 20 ∷ pos 30 ∷ pos 40 ∷ pos 50 ∷ pos 60 ∷ pos 70 ∷ pos 80 ∷ [])
    ∷ []

abbrev frame : ℕ → ℕ → FrameName
frame m k = record { maker = m; index = k }

the_driver_has_the_stacks_array : content three two_lines (frame 0 1) ≡ Some (line (pos 10 ∷ pos 20 ∷ pos 30 ∷ pos 40 ∷ pos 50 ∷ pos 60 ∷ pos 70 ∷ pos 80 ∷ []))
the_driver_has_the_stacks_array = refl

the_first_region : content three two_lines (frame 3 0) ≡ Some
    (record (line (pos 2 ∷ pos 3 ∷ pos 4 ∷ pos 5 ∷ pos 6 ∷ pos 7 ∷ [])) { dims = record { size = 6; offset = pos 1; binning = pos 1; reverse = false } ∷ [] })
the_first_region = refl

the_second_cuts_the_first : content three two_lines (frame 2 0)
    ≡ Some (record (line (pos 5 ∷ pos 9 ∷ pos 13 ∷ [])) { dims = record { size = 3; offset = pos 1; binning = pos 2; reverse = false } ∷ [] })
the_second_cuts_the_first = refl

the_last_reverses_what_is_left : content three two_lines (frame 1 0)
    ≡ Some (record (line (pos 13 ∷ pos 9 ∷ [])) { dims = record { size = 2; offset = pos 2; binning = pos 2; reverse = true } ∷ [] })
the_last_reverses_what_is_left = refl

no_frame_of_a_greater_index : content three two_lines (frame 1 2) ≡ None
no_frame_of_a_greater_index = refl

makers_stand_in_the_graphs_order : map (λ m. m.node) (makers_of three (shape_of (side 8 ∷ []))) ≡ 0 ∷ 1 ∷ 2 ∷ 3 ∷ []
makers_stand_in_the_graphs_order = refl

abbrev shot : ℤ → Array
shot gate = record (line []) { attrs = record { name = codes "Gate"; value = Whole gate } ∷ [] }

-- frames 0, 5 and 6 fire
abbrev shots : List Array
shots = map shot (pos 1 ∷ pos 0 ∷ pos 0 ∷ pos 0 ∷ pos 0 ∷ pos 1 ∷ pos 1 ∷ pos 0 ∷ pos 0 ∷ pos 0 ∷ pos 0 ∷ pos 0 ∷ [])

-- two before each trigger and three from it on
abbrev pub watched : ℕ → List NodeRule
watched preset = node (codes "watch") (Circular (record { pre = 2; post = 3; preset = preset; trigger = letter_a; a = codes "Gate"; b = [] })) 0 ∷ []

abbrev with_gaps : List ℕ
with_gaps = 0 ∷ 1 ∷ 3 ∷ 4 ∷ 5 ∷ 6 ∷ 8 ∷ 9 ∷ 10 ∷ 11 ∷ []

-- windows count what was accepted: 0 1 3, and then 4 before the trigger at 5 with 6 and 8 behind it
windows_are_over_what_was_accepted : outputs (watched 0) shots 1 with_gaps ≡ 0 ∷ 1 ∷ 3 ∷ 4 ∷ 5 ∷ 6 ∷ 8 ∷ []
windows_are_over_what_was_accepted = refl

one_window_alone : outputs (watched 1) shots 1 with_gaps ≡ 0 ∷ 1 ∷ 3 ∷ []
one_window_alone = refl

statistics_pass_all_on_as_they_came : outputs halved shots 2 (3 ∷ 1 ∷ 2 ∷ []) ≡ 3 ∷ 1 ∷ 2 ∷ []
statistics_pass_all_on_as_they_came = refl

the_last_group_may_be_short : groups {X = ℕ} 2 (1 ∷ 2 ∷ 3 ∷ []) ≡ (1 ∷ 2 ∷ []) ∷ (3 ∷ []) ∷ []
the_last_group_may_be_short = refl

no_group_is_empty : groups {X = ℕ} 2 (1 ∷ 2 ∷ []) ≡ (1 ∷ 2 ∷ []) ∷ []
no_group_is_empty = refl

no_arrays_no_groups : groups {X = ℕ} 2 [] ≡ []
no_arrays_no_groups = refl

a_file_of_two_arrays : (one_thread (node (codes "f") (File (record { mode = Capture; count = 5; form = Classic })) 0 ∷ []) two_lines 1 (1 ∷ 0 ∷ [])).files
    ≡ (line (pos 10 ∷ pos 20 ∷ pos 30 ∷ pos 40 ∷ pos 50 ∷ pos 60 ∷ pos 70 ∷ pos 80 ∷ [])
    ∷ line (pos 1 ∷ pos 2 ∷ pos 3 ∷ pos 4 ∷ pos 5 ∷ pos 6 ∷ pos 7 ∷ pos 8 ∷ []) ∷ []) ∷ []
a_file_of_two_arrays = refl

-- WHAT A SCATTER NODE DEALS OUT

abbrev five : StackValue
five = record { shape = shape_of (side 8 ∷ []); arrays = map shot (pos 0 ∷ pos 0 ∷ pos 0 ∷ pos 0 ∷ pos 0 ∷ []) }

abbrev stats : ℕ → NodeRule
stats input = node (codes "st") (Stats (record { threshold = pos 0; border = 0; hist_size = 0; hist_lo = pos 0; hist_hi = pos 0; profiles = false })) input

-- node 1 deals out to nodes 2 and 4, and node 3 is a child of the driver
abbrev dealt : Graph
dealt = graph_of (node (codes "s") Scatter 0 ∷ stats 1 ∷ stats 0 ∷ stats 1 ∷ [])

-- it passes all on, one in turn to each child
the_children_get_them_in_turn : map (passed_to dealt five) (1 ∷ 2 ∷ 3 ∷ 4 ∷ [])
    ≡ (0 ∷ 1 ∷ 2 ∷ 3 ∷ 4 ∷ []) ∷ (0 ∷ 2 ∷ 4 ∷ []) ∷ (0 ∷ 1 ∷ 2 ∷ 3 ∷ 4 ∷ []) ∷ (1 ∷ 3 ∷ []) ∷ []
the_children_get_them_in_turn = refl

and_all_go_out_of_the_node : map (passed dealt five) (1 ∷ 2 ∷ 4 ∷ []) ≡ (0 ∷ 1 ∷ 2 ∷ 3 ∷ 4 ∷ []) ∷ (0 ∷ 2 ∷ 4 ∷ []) ∷ (1 ∷ 3 ∷ []) ∷ []
and_all_go_out_of_the_node = refl

-- a scatter node behind another deals out what it gets of it
two_in_a_row : map (passed_to (graph_of (node (codes "s") Scatter 0 ∷ node (codes "t") Scatter 1 ∷ stats 1 ∷ stats 2 ∷ stats 2 ∷ [])) five) (3 ∷ 4 ∷ 5 ∷ [])
    ≡ (1 ∷ 3 ∷ []) ∷ (0 ∷ 4 ∷ []) ∷ (2 ∷ []) ∷ []
two_in_a_row = refl

one_without_children : passed (graph_of (node (codes "s") Scatter 0 ∷ [])) five 1 ≡ 0 ∷ 1 ∷ 2 ∷ 3 ∷ 4 ∷ []
one_without_children = refl
