-- `copy`, which is the plain run of one file node: what it writes, which limit it can pass, and that its file reads back.
use Rattle.std.specs.Prelude.{◌≡◌, ℕ, zero, suc, ◌+◌, ◌-◌, ◌*◌, ◌/◌, ◌<◌, ◌≤◌, ◌==◌, Bool, true, false, nat_lt, min, List, [], ◌∷◌, ◌++◌, length}
use Rattle.std.specs.Prelude.{take, drop, map, Option, Some, None, All, IsTrue, slice_get, codes, if◌then◌else◌, refl}
use Rattle.std.specs.Fmt.{digits}
use Rattle.std.specs.List.{flat_map, range_with_len}
use Rattle.std.specs.Option.{option_map}
use Rattle.std.proofs.Common.{ap, subst, ◌∙◌, arith, zero-add, append_assoc}
use Rattle.std.proofs.Math.Nat.{zero-mul, le-min, min-le_right}
use Rattle.std.proofs.lemmas.Bool.{le-ltb}
use Rattle.std.proofs.lemmas.Bool.Decides.{nat_tests}
use Rattle.std.proofs.lemmas.List.{take_all, append-nil}
use Rattle.std.proofs.lemmas.List.Elements.{All-nil, All-cons, All-head}
use Rattle.nd_base.specs.Array.{Array, StackValue}
use Rattle.nd_base.specs.declared.attribute.FileShape.{FileShape}
use Rattle.nd_base.specs.declared.graph.Mode.TheVariants.{Capture}
use Rattle.nd_base.specs.declared.graph.NodeRule.{NodeRule}
use Rattle.nd_base.specs.GraphRules.{IsGraph, IsNode, is_source, source_of}
use Rattle.nd_stack.specs.KeptStacks.{IsKeptStack}
use Rattle.nd_stack.specs.RoundTrip.{ReadsBack}
use Rattle.cdf_write.specs.Lengths.{length_of}
use Rattle.nd_roi.specs.Region.{region}
use Rattle.chain_plain.specs.OneThread.{listed, arrays_out, groups}
use Rattle.chain_plain.specs.Passing.{out_of}
use Rattle.chain_plain.specs.PlainRun.{result_of}
use Rattle.graph_conf.specs.Loads.{arrivals, kept, file_bytes_at, limit_fault}
use Rattle.graph_files.specs.OutFiles.{group_name, group_number, group_files}
use Rattle.tool_commands.specs.Copy.{copy_graph, copy_node, copy_name, copy_shape, copy_file, copy_length, CopiesAreOneFile, CopiesHaveOneLimit}
use Rattle.tool_commands.specs.ReadBack.{files_read_back}
use Rattle.tool_commands.specs.Works.{IsBack, copy_groups}

-- THE GRAPH

leads_up : (v : ℕ) → v ≤ 1 → source_of copy_graph.nodes 1 v ≡ 0
leads_up zero within = refl
leads_up (suc zero) within = refl
leads_up (suc (suc k)) within = absurd (omega (arith, within))

pub copy_graph-IsGraph : IsGraph copy_graph
copy_graph-IsGraph =
    record {
      limit = omega arith;
      few = omega arith;
      nodes =
          All-cons IsNode copy_node []
          (record {
            name = refl;
            kind = record { count = (omega arith, omega arith); single = λ e. absurd (cc) };
            queue = (omega arith, omega arith);
            threads = (omega arith, omega arith);
            one_thread = λ e. refl;
            sort = omega arith;
            unsorted = λ e. refl;
            sort_time = omega arith;
          })
          (All-nil IsNode);
      names = λ i j d lt within. absurd (omega (arith, lt, within));
      inputs =
          All-cons (λ (n : NodeRule). IsTrue (is_source copy_graph.nodes n.input)) copy_node [] refl
          (All-nil (λ (n : NodeRule). IsTrue (is_source copy_graph.nodes n.input)));
      acyclic = leads_up;
      threads = omega arith;
    }

-- THE FILES

-- all arrays go out of the node
listed_from : (f : ℕ → Option Array) (k : ℕ) (arrays : List Array) → ((i : ℕ) → i < length arrays → f (k + i) ≡ slice_get arrays i)
    → flat_map (λ i. listed (f i)) (range_with_len k (length arrays)) ≡ arrays
listed_from f k [] same = refl
listed_from f k (a ∷ arrays) same =
    let here : f k ≡ Some a = ap f (omega arith) ∙ same 0 (omega arith) in
    let later : flat_map (λ i. listed (f i)) (range_with_len (k + 1) (length arrays)) ≡ arrays =
    listed_from f (k + 1) arrays (λ i within. ap f (omega arith) ∙ same (suc i) (omega (arith, within))) in
    rw (here, later) refl

untouched : (o : Option Array) → option_map (out_of region copy_graph.nodes 1) o ≡ o
untouched None = refl
untouched (Some a) = refl

all_out : (arrays : List Array) → arrays_out copy_graph.nodes arrays 1 (range_with_len 0 (length arrays)) ≡ arrays
all_out arrays =
    listed_from (λ k. option_map (out_of region copy_graph.nodes 1) (slice_get arrays k)) 0 arrays
    (λ i within. ap (λ k. option_map (out_of region copy_graph.nodes 1) (slice_get arrays k)) (zero-add i) ∙ untouched (slice_get arrays i))

-- and they are one group, where there are any
no_group : (count : ℕ) (arrays : List Array) → (length arrays + (count - 1)) / count ≡ 0 → groups count arrays ≡ []
no_group count arrays none = ap (λ n. map (λ g. take count (drop (g * count) arrays)) (range_with_len 0 n)) none

one_group : (count : ℕ) (arrays : List Array) → (length arrays + (count - 1)) / count ≡ 1 → length arrays ≤ count → groups count arrays ≡ arrays ∷ []
one_group count arrays one few =
    ap (λ n. map (λ g. take count (drop (g * count) arrays)) (range_with_len 0 n)) one
    ∙ ap (λ k. take count (drop k arrays) ∷ []) (zero-mul count)
    ∙ ap (λ list. list ∷ []) (take_all count arrays few)

group_by : (arrays : List Array) → length arrays ≤ 65536 → groups 65536 arrays ≡ (if length arrays == 0 then [] else arrays ∷ [])
group_by [] few = no_group 65536 [] (omega arith)
group_by (a ∷ arrays) few =
    let some : (length (a ∷ arrays) == 0) ≡ false = grind (arith, nat_tests) in
    rw some (one_group 65536 (a ∷ arrays) (omega (arith, few)) few)

one_result : (s : StackValue) → length s.arrays ≤ 65536 → (result_of copy_graph s 1).files ≡ (if length s.arrays == 0 then [] else s.arrays ∷ [])
one_result s few = ap (groups 65536) (all_out s.arrays) ∙ group_by s.arrays few

-- under the copy's name
number : group_number 0 ≡ codes "000"
unfolding digits
number = refl

name_of : (prefix : List ℕ) → group_name prefix (codes "copy") 0 ≡ copy_name prefix
name_of prefix =
    append_assoc ((prefix ++ codes "copy") ++ codes "_") (group_number 0) (codes ".nc")
    ∙ append_assoc (prefix ++ codes "copy") (codes "_") (group_number 0 ++ codes ".nc")
    ∙ append_assoc prefix (codes "copy") (codes "_" ++ (group_number 0 ++ codes ".nc"))
    ∙ ap (λ digits. prefix ++ (codes "copy" ++ (codes "_" ++ (digits ++ codes ".nc")))) number

named : (s : StackValue) (prefix : List ℕ) (none : Bool)
    → group_files Capture (copy_shape s) prefix (codes "copy") 0 (if none then [] else s.arrays ∷ [])
    ≡ (if none then [] else record { name = copy_name prefix; bytes = copy_file s; late = false } ∷ [])
named s prefix true = refl
named s prefix false = ap (λ name. record { name = name; bytes = copy_file s; late = false } ∷ []) (name_of prefix)

pub one_file : CopiesAreOneFile
one_file s prefix few =
    append-nil _ ∙ ap (group_files Capture (copy_shape s) prefix (codes "copy") 0) (one_result s few) ∙ named s prefix (length s.arrays == 0)

-- which reads back as the arrays
copy_reads_back : (s : StackValue) → IsKeptStack s → length s.arrays ≤ 65536 → limit_fault copy_graph s ≡ None → 1 ≤ length s.arrays
    → ReadsBack (copy_shape s) s.arrays
copy_reads_back s kept few within some =
    let filled : (length s.arrays == 0) ≡ false = grind (arith, nat_tests) in
    let one : (result_of copy_graph s 1).files ≡ s.arrays ∷ [] = one_result s few ∙ ap (λ none. if none then [] else s.arrays ∷ []) filled in
    All-head (ReadsBack (copy_shape s)) s.arrays []
    (subst (All (ReadsBack (copy_shape s))) one (files_read_back copy_graph s copy_graph-IsGraph kept within 1))

-- so that of its one group does, where there is one
copy_group : (shape : FileShape) (arrays : List Array) → (1 ≤ length arrays → ReadsBack shape arrays)
    → All IsBack (if length arrays == 0 then [] else record { shape = shape; arrays = arrays } ∷ [])
copy_group shape [] back = All-nil IsBack
copy_group shape (a ∷ arrays) back =
    let some : (length (a ∷ arrays) == 0) ≡ false = grind (arith, nat_tests) in
    rw some (All-cons IsBack (record { shape = shape; arrays = a ∷ arrays }) [] (back (omega arith)) (All-nil IsBack))

pub copy_back : (s : StackValue) → IsKeptStack s → length s.arrays ≤ 65536 → limit_fault copy_graph s ≡ None → All IsBack (copy_groups s)
copy_back s kept few within = copy_group (copy_shape s) s.arrays (copy_reads_back s kept few within)

-- THE LIMIT

pub one_limit : CopiesHaveOneLimit
one_limit s few =
    let few_arrivals : nat_lt 1048576 (arrivals copy_graph s) ≡ false = le-ltb 1048576 (length s.arrays * 1) (omega (arith, few)) in
    let nothing_kept : nat_lt 67108864 (kept copy_graph s) ≡ false = le-ltb 67108864 (length s.arrays * 0 + 0) (omega arith) in
    let all : min 65536 (length s.arrays) ≡ length s.arrays =
    omega (arith, min-le_right 65536 (length s.arrays), le-min {k = length s.arrays} {a = 65536} {b = length s.arrays} few (omega arith)) in
    let bytes : file_bytes_at copy_graph s 1 ≡ copy_length s = ap (length_of (copy_shape s)) all in
    rw (few_arrivals, nothing_kept, bytes) refl
