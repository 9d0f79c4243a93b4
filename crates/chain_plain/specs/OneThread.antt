-- The one-thread result of a node: what it puts out, alone and in one thread, of a list of arrays that it accepted.
use Rattle.std.specs.Prelude.{ℕ, ◌+◌, ◌-◌, ◌*◌, ◌/◌, Bool, false, List, [], ◌∷◌, length, map, take, drop, Option, Some, None, slice_get}
use Rattle.std.specs.List.{range_with_len, flat_map}
use Rattle.std.specs.Option.{option_map_or}
use Rattle.nd_base.specs.Array.{Array}
use Rattle.nd_base.specs.declared.graph.NodeRule.{NodeRule}
use Rattle.nd_base.specs.declared.graph.Kind.{Kind}
use Rattle.nd_base.specs.declared.graph.Kind.TheVariants.{Roi, Stats, Circular, File, Scatter}
use Rattle.nd_base.specs.declared.graph.CircularRule.{CircularRule}
use Rattle.nd_base.specs.declared.graph.StatsRule.{StatsRule}
use Rattle.nd_base.specs.declared.measure.Measure.{Measure}
use Rattle.nd_stats.specs.Samples.{placed}
use Rattle.nd_stats.specs.Measured.{measured}
use Rattle.trig_window.specs.Triggers.{trigger_fires}
use Rattle.trig_window.specs.Windows.{passed_items}
use Rattle.chain_plain.specs.Content.{content}
use Rattle.nd_base.specs.GraphRules.{rule_at}

-- the trigger fires at the frame of this index: a region leaves the attributes as they are, so they are the stack's
abbrev pub fires_at : CircularRule → List Array → ℕ → Bool
fires_at r arrays k = option_map_or (λ a. trigger_fires r a.attrs) (slice_get arrays k) false

-- what a node of this kind passes on of these positions: a circular node those in its trigger windows, and every
-- other all
abbrev pub kind_outputs : Kind → List Array → List ℕ → List ℕ
kind_outputs (Circular r) arrays accepted = passed_items r.pre r.post r.preset (map (fires_at r arrays) accepted) accepted
kind_outputs (Roi r) arrays accepted = accepted
kind_outputs (Stats r) arrays accepted = accepted
kind_outputs (File r) arrays accepted = accepted
kind_outputs Scatter arrays accepted = accepted

abbrev pub rule_outputs : Option NodeRule → List Array → List ℕ → List ℕ
rule_outputs None arrays accepted = accepted
rule_outputs (Some n) arrays accepted = kind_outputs n.kind arrays accepted

-- the positions that go out of node v where it accepted these, in this order
abbrev pub outputs : List NodeRule → List Array → ℕ → List ℕ → List ℕ
outputs nodes arrays v accepted = rule_outputs (rule_at nodes v) arrays accepted

abbrev pub listed : {X : Type 0} → Option X → List X
listed None = []
listed (Some x) = x ∷ []

-- the arrays that go out of node v at these positions
abbrev pub arrays_out : List NodeRule → List Array → ℕ → List ℕ → List Array
arrays_out nodes arrays v ks = flat_map (λ k. listed (content nodes arrays (record { maker = v; index = k }))) ks

-- the measure of a whole array
abbrev pub measure_of_array : StatsRule → Array → Measure
measure_of_array r a = measured r a.id a.dims (placed 0 a.samples)

-- these in groups of so many, the last of which may be short
abbrev pub groups : {X : Type 0} → ℕ → List X → List (List X)
groups count xs = map (λ g. take count (drop (g * count) xs)) (range_with_len 0 ((length xs + (count - 1)) / count))

pub record OneThread : Type 0 where
  -- the arrays that go out, in order
  pub arrays : List Array
  -- of a statistics node, the measure of each
  pub measures : List Measure
  -- of a file node, what each file holds
  pub files : List (List Array)

abbrev pub kind_measures : Kind → List Array → List Measure
kind_measures (Stats r) xs = map (measure_of_array r) xs
kind_measures (Roi r) xs = []
kind_measures (Circular r) xs = []
kind_measures (File r) xs = []
kind_measures Scatter xs = []

abbrev pub kind_files : Kind → List Array → List (List Array)
kind_files (File r) xs = groups r.count xs
kind_files (Roi r) xs = []
kind_files (Stats r) xs = []
kind_files (Circular r) xs = []
kind_files Scatter xs = []

abbrev pub measures_of : Option NodeRule → List Array → List Measure
measures_of None xs = []
measures_of (Some n) xs = kind_measures n.kind xs

abbrev pub files_of : Option NodeRule → List Array → List (List Array)
files_of None xs = []
files_of (Some n) xs = kind_files n.kind xs

abbrev pub one_thread : List NodeRule → List Array → ℕ → List ℕ → OneThread
one_thread nodes arrays v accepted =
    let xs = arrays_out nodes arrays v (outputs nodes arrays v accepted) in
    record { arrays = xs; measures = measures_of (rule_at nodes v) xs; files = files_of (rule_at nodes v) xs }
