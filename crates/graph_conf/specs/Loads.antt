-- What a run of a graph over a stack is refused for.
use Rattle.std.specs.Prelude.{ℕ, zero, suc, ◌+◌, ◌*◌, nat_lt, min, List, [], ◌∷◌, length, Option, Some, None, Result, Ok, Err, if◌then◌else◌}
use Rattle.std.specs.Option.{option_map_or}
use Rattle.nd_base.specs.Array.{StackValue}
use Rattle.nd_base.specs.Forms.{longest_of}
use Rattle.nd_base.specs.GraphRules.{rule_at}
use Rattle.nd_base.specs.declared.array.Dim.{Dim}
use Rattle.nd_base.specs.declared.attribute.FileShape.{FileShape}
use Rattle.nd_base.specs.declared.graph.Graph.{Graph}
use Rattle.nd_base.specs.declared.graph.Kind.{Kind}
use Rattle.nd_base.specs.declared.graph.Kind.TheVariants.{Roi, Stats, Circular, File, Scatter}
use Rattle.cdf_write.specs.Lengths.{length_of}
use Rattle.chain_plain.specs.Plans.{shape_at}
use Rattle.graph_conf.specs.declared.load.LimitFault.{LimitFault}
use Rattle.graph_conf.specs.declared.load.LimitFault.TheVariants.{Load, Kept, FileTooLarge}

-- each frame may come to each node
abbrev pub arrivals : Graph → StackValue → ℕ
arrivals g s = length s.arrays * length g.nodes

-- a sum for each place of dimension 0 and for each of dimension 1
abbrev pub profile_lengths : List Dim → ℕ
profile_lengths [] = 0
profile_lengths (x ∷ []) = x.size + 1
profile_lengths (x ∷ y ∷ dims) = x.size + y.size

-- the numbers that a node keeps of an array of these dimensions
abbrev pub kept_by : Kind → List Dim → ℕ
kept_by (Stats r) dims = r.hist_size + (if r.profiles then profile_lengths dims else 0)
kept_by (Roi r) dims = 0
kept_by (Circular r) dims = 0
kept_by (File r) dims = 0
kept_by Scatter dims = 0

abbrev pub kept_at : Graph → StackValue → ℕ → ℕ
kept_at g s v = option_map_or (λ n. kept_by n.kind (shape_at g.nodes s.shape v).dims) (rule_at g.nodes v) 0

-- the numbers that so many nodes from node v on keep of all frames
abbrev pub kept_from : Graph → StackValue → (v n : ℕ) → ℕ
kept_from g s v zero = 0
kept_from g s v (suc n) = length s.arrays * kept_at g s v + kept_from g s (v + 1) n

abbrev pub kept : Graph → StackValue → ℕ
kept g s = kept_from g s 1 (length g.nodes)

-- the bytes of the longest file that a node writes of arrays of this shape; 0 at other kinds
abbrev pub file_bytes : Kind → FileShape → (frames : ℕ) → ℕ
file_bytes (File r) shape frames = length_of (record shape { form = r.form }) (min r.count frames)
file_bytes (Roi r) shape frames = 0
file_bytes (Stats r) shape frames = 0
file_bytes (Circular r) shape frames = 0
file_bytes Scatter shape frames = 0

abbrev pub file_bytes_at : Graph → StackValue → ℕ → ℕ
file_bytes_at g s v =
    option_map_or (λ n. file_bytes n.kind (record s.shape { kind = (shape_at g.nodes s.shape v).kind; dims = (shape_at g.nodes s.shape v).dims })
    (length s.arrays)) (rule_at g.nodes v) 0

-- the most bytes that a file of a node may have; 0 at other kinds, which write none
abbrev pub most_bytes : Kind → ℕ
most_bytes (File r) = longest_of r.form
most_bytes (Roi r) = 0
most_bytes (Stats r) = 0
most_bytes (Circular r) = 0
most_bytes Scatter = 0

abbrev pub most_bytes_at : Graph → ℕ → ℕ
most_bytes_at g v = option_map_or (λ n. most_bytes n.kind) (rule_at g.nodes v) 0

-- of so many nodes from v on, the fault of the first that writes too long a file
abbrev pub first_too_long : Graph → StackValue → (v n : ℕ) → Option LimitFault
first_too_long g s v zero = None
first_too_long g s v (suc n) =
    if nat_lt (most_bytes_at g v) (file_bytes_at g s v) then Some (FileTooLarge v (file_bytes_at g s v)) else first_too_long g s (v + 1) n

-- the first limit that is passed
abbrev pub limit_fault : Graph → StackValue → Option LimitFault
limit_fault g s =
    if nat_lt 1048576 (arrivals g s) then Some (Load (arrivals g s))
    else if nat_lt 67108864 (kept g s) then Some (Kept (kept g s))
    else first_too_long g s 1 (length g.nodes)

abbrev pub answer : Option LimitFault → Result (Unit {0}) LimitFault
answer None = Ok tt
answer (Some fault) = Err fault
