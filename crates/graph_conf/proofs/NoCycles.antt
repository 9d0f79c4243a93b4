-- Up to the inputs no fault of a graph is a cycle.
use Rattle.std.proofs.Common.{◌≡◌, ℕ, ℤ, zero, suc, pos, negsuc, ◌+◌, ◌&&◌, ◌||◌, ◌==◌, not, nat_lt, List, [], ◌∷◌, Bool, true, false, Option, Some, None, Result, Ok, Err}
use Rattle.std.proofs.Common.{codes, length, refl, ap, subst, if◌then◌else◌}
use Rattle.std.specs.Prelude.{find, int_lt}
use Rattle.std.specs.Option.{option_map_or, option_and_then}
use Rattle.nd_base.specs.GraphRules.{is_node_name}
use Rattle.nd_base.specs.declared.graph.NodeRule.{NodeRule}
use Rattle.nd_base.specs.declared.graph.Mode.{Mode}
use Rattle.nd_base.specs.declared.graph.Mode.TheVariants.{Single, Capture, Stream}
use Rattle.trig_window.specs.declared.expression.CalcFault.{CalcFault}
use Rattle.trig_window.specs.declared.expression.CalcFault.TheVariants as calc
use Rattle.trig_window.specs.Expressions.{expression_of}
use Rattle.toml.specs.Data.{Data, Members, as_integer, as_bool, as_str, as_array, as_table, get_member}
use Rattle.graph_conf.specs.declared.fault.GraphFault.{GraphFault}
use Rattle.graph_conf.specs.declared.fault.GraphFault.TheVariants.{KeyType, Range, Missing, UnknownKey, UnknownKind, Threads, DoubleName, UnknownInput, Cycle}
use Rattle.graph_conf.specs.Answers.{◌>>=◌, need, or_calc}
use Rattle.graph_conf.specs.Keys.{given_or, optional, present, required, formed, is_within, whole, number, count, truth, text_in, meaning_in, word_in, all_of}
use Rattle.graph_conf.specs.Keys.{list_in, at_most, each_within, dimension_numbers, numbers, dimension_truths, truths, first_unknown, refused_key, only_keys}
use Rattle.graph_conf.specs.Named.{Named, KindWord, roi, stats, circular, file, scatter}
use Rattle.graph_conf.specs.Nodes.{kinds, sample_types, modes, keys_of, is_parallel, node_name, known_kind, name_key, kind_key, input_key, queue_key, threads_key}
use Rattle.graph_conf.specs.Nodes.{sort_key, sort_time_key, sample_type, type_key, roi_rule, sample_bound, stats_rule, attribute_key, circular_rule, group_size}
use Rattle.graph_conf.specs.Nodes.{mode_key, form_key, file_rule, kind_rule, node_of}
use Rattle.graph_conf.specs.Graphs.{feeds, run_keys, feed_key, run_table, run_key, nodes_from, node_tables, node_key, refused_node, input_number, known_input}
use Rattle.graph_conf.specs.Graphs.{input_numbers, thread_count, few_threads}

abbrev pub IsOther : GraphFault → Type 0
IsOther (Cycle node) = ⊥
IsOther fault = Unit {0}

-- what is read, or a fault that is no cycle
pub record NoCycle {A : Type 0} (read : Result A GraphFault) : Type 0 where
  pub other : (fault : GraphFault) → read ≡ Err fault → IsOther fault

binds : {A B : Type 0} (read : Result A GraphFault) (next : A → Result B GraphFault) → NoCycle read → ((x : A) → NoCycle (next x)) → NoCycle (read >>= next)
binds (Ok x) next h k = k x
binds (Err fault) next h k = record { other = λ f e. let same : ◌≡◌ {A = GraphFault} fault f = cc in subst IsOther same (h.other fault refl) }

ends : {A : Type 0} (x : A) → NoCycle {A = A} (Ok x)
ends x = record { other = λ fault e. absurd (cc) }

fails : {A : Type 0} (fault : GraphFault) → IsOther fault → NoCycle {A = A} (Err fault)
fails fault h = record { other = λ f e. let same : ◌≡◌ {A = GraphFault} fault f = cc in subst IsOther same h }

chooses : {A : Type 0} (b : Bool) (x y : Result A GraphFault) → NoCycle x → NoCycle y → NoCycle (if b then x else y)
chooses true x y h k = h
chooses false x y h k = k

gives : {A : Type 0} (absent : Result A GraphFault) (read : Data → Result A GraphFault) (o : Option Data) → NoCycle absent → ((d : Data) → NoCycle (read d))
    → NoCycle (given_or absent read o)
gives absent read None h k = h
gives absent read (Some d) h k = k d

-- KEYS

optionally : {A : Type 0} (key : List ℕ) (read : Data → Result A GraphFault) (default : A) (table : Members) → ((d : Data) → NoCycle (read d))
    → NoCycle (optional key read default table)
optionally key read default table h = gives (Ok default) read (get_member key table) (ends default) h

presents : (key : List ℕ) (table : Members) → NoCycle (present key table)
presents key table = gives (Err (Missing key)) Ok (get_member key table) (fails (Missing key) tt) (λ d. ends d)

requires_key : {A : Type 0} (key : List ℕ) (read : Data → Result A GraphFault) (table : Members) → ((d : Data) → NoCycle (read d))
    → NoCycle (required key read table)
requires_key key read table h = binds (present key table) _ (presents key table) h

forms : {A : Type 0} (key : List ℕ) (o : Option A) → NoCycle (formed key o)
forms key (Some x) = ends x
forms key None = fails (KeyType key) tt

wholes : (key : List ℕ) (low high : ℤ) (d : Data) → NoCycle (whole key low high d)
wholes key low high d = binds (formed key (as_integer d)) _ (forms key (as_integer d)) (λ v. chooses (is_within low high v) _ _ (ends v) (fails (Range key v) tt))

counts : (key : List ℕ) (low high default : ℕ) (table : Members) → NoCycle (count key low high default table)
counts key low high default table =
    binds (number key (pos low) (pos high) (pos default) table) _ (optionally key (whole key (pos low) (pos high)) (pos default) table (wholes key (pos low) (pos high)))
    (λ v. ends _)

tells : (key : List ℕ) (default : Bool) (table : Members) → NoCycle (truth key default table)
tells key default table = optionally key _ default table (λ d. forms key (as_bool d))

words : {A : Type 0} (key : List ℕ) (lines : List (List ℕ × A)) (d : Data) → NoCycle (word_in key lines d)
words key lines d = binds (text_in key d) _ (forms key (as_str d)) (λ word. forms key (meaning_in lines word))

few : {A : Type 0} (key : List ℕ) (most : ℕ) (xs : List A) → NoCycle (at_most key most xs)
few key most xs = chooses (nat_lt most (length xs)) _ _ (fails (Range key (pos (length xs))) tt) (ends xs)

lists : {A : Type 0} (key : List ℕ) (form : Data → Option A) (d : Data) → NoCycle (list_in key form d)
lists key form d = forms key (option_and_then (all_of form) (as_array d))

ranged : (key : List ℕ) (o : Option ℤ) (vs : List ℤ) → NoCycle (option_map_or (λ v. Err (Range key v)) o (Ok vs))
ranged key None vs = ends vs
ranged key (Some v) vs = fails (Range key v) tt

reads_numbers : (key : List ℕ) (table : Members) → NoCycle (numbers key table)
reads_numbers key table =
    optionally key (dimension_numbers key) [] table
    (λ d. binds (list_in key as_integer d) _ (lists key as_integer d)
    (λ vs. binds (at_most key 10 vs) _ (few key 10 vs)
    (λ some. ranged key (find (λ v. not (is_within (negsuc 2147483647) (pos 2147483647) v)) some) some)))

reads_truths : (key : List ℕ) (table : Members) → NoCycle (truths key table)
reads_truths key table =
    optionally key (dimension_truths key) [] table
    (λ d. binds (list_in key as_bool d) _ (lists key as_bool d) (λ vs. few key 10 vs))

knows : (o : Option (List ℕ)) → NoCycle (refused_key o)
knows None = ends tt
knows (Some key) = fails (UnknownKey key) tt

pub keys : (known : List (List ℕ)) (table : Members) → NoCycle (only_keys known table)
keys known table = knows (first_unknown known table)

-- RULES

roi_reads : (table : Members) → NoCycle (roi_rule table)
unfolding roi_rule
roi_reads table =
    binds (numbers (codes "min") table) _ (reads_numbers (codes "min") table)
    (λ min. binds (numbers (codes "size") table) _ (reads_numbers (codes "size") table)
    (λ size. binds (numbers (codes "bin") table) _ (reads_numbers (codes "bin") table)
    (λ bin. binds (truths (codes "reverse") table) _ (reads_truths (codes "reverse") table)
    (λ reverse. binds (truths (codes "auto") table) _ (reads_truths (codes "auto") table)
    (λ auto. binds (count (codes "scale") 1 2147483647 1 table) _ (counts (codes "scale") 1 2147483647 1 table)
    (λ scale. binds (type_key table) _ (optionally (codes "type") sample_type None table (λ d. binds (word_in (codes "type") sample_types d) _ (words (codes "type") sample_types d) (λ t. ends _)))
    (λ out. ends _)))))))

bounds : (key : List ℕ) (default : ℤ) (table : Members) → NoCycle (sample_bound key default table)
bounds key default table =
    optionally key (whole key (negsuc 2147483647) (pos 4294967295)) default table (wholes key (negsuc 2147483647) (pos 4294967295))

needs : (b : Bool) (fault : GraphFault) → IsOther fault → NoCycle (need b fault)
needs b fault h = chooses b _ _ (ends tt) (fails fault h)

stats_reads : (table : Members) → NoCycle (stats_rule table)
unfolding stats_rule
stats_reads table =
    binds (sample_bound (codes "threshold") (pos 0) table) _ (bounds (codes "threshold") (pos 0) table)
    (λ threshold. binds (count (codes "border") 0 67108864 0 table) _ (counts (codes "border") 0 67108864 0 table)
    (λ border. binds (count (codes "hist_size") 0 1024 0 table) _ (counts (codes "hist_size") 0 1024 0 table)
    (λ hist_size. binds (sample_bound (codes "hist_lo") (pos 0) table) _ (bounds (codes "hist_lo") (pos 0) table)
    (λ hist_lo. binds (sample_bound (codes "hist_hi") (pos 255) table) _ (bounds (codes "hist_hi") (pos 255) table)
    (λ hist_hi. binds (truth (codes "profiles") false table) _ (tells (codes "profiles") false table)
    (λ profiles. binds (need (hist_size == 0 || int_lt hist_lo hist_hi) (Range (codes "hist_hi") hist_hi)) _
    (needs (hist_size == 0 || int_lt hist_lo hist_hi) (Range (codes "hist_hi") hist_hi) tt)
    (λ ordered. ends _)))))))

triggers : {A : Type 0} (r : Result A CalcFault) → NoCycle (or_calc r)
triggers (Ok x) = ends x
triggers (Err calc.OutOfMemory) = fails _ tt
triggers (Err calc.TooLong) = fails _ tt
triggers (Err (calc.Unexpected at)) = fails _ tt
triggers (Err calc.TooDeep) = fails _ tt

texts : (key : List ℕ) (d : Data) → NoCycle (text_in key d)
texts key d = forms key (as_str d)

circular_reads : (table : Members) → NoCycle (circular_rule table)
unfolding circular_rule
circular_reads table =
    binds (count (codes "pre") 0 4096 0 table) _ (counts (codes "pre") 0 4096 0 table)
    (λ pre. binds (count (codes "post") 1 4096 1 table) _ (counts (codes "post") 1 4096 1 table)
    (λ post. binds (count (codes "preset") 0 2147483647 0 table) _ (counts (codes "preset") 0 2147483647 0 table)
    (λ preset. binds (required (codes "trigger") (text_in (codes "trigger")) table) _
    (requires_key (codes "trigger") (text_in (codes "trigger")) table (texts (codes "trigger")))
    (λ words. binds (or_calc (expression_of words)) _ (triggers (expression_of words))
    (λ trigger. binds (attribute_key (codes "a") table) _ (optionally (codes "a") (text_in (codes "a")) [] table (texts (codes "a")))
    (λ a. binds (attribute_key (codes "b") table) _ (optionally (codes "b") (text_in (codes "b")) [] table (texts (codes "b")))
    (λ b. ends _)))))))

sizes : (mode : Mode) (n : ℕ) → NoCycle (group_size mode n)
sizes Single n = chooses (n == 1) _ _ (ends n) (fails (Range (codes "count") (pos n)) tt)
sizes Capture n = ends n
sizes Stream n = ends n

form_reads : (table : Members) → NoCycle (form_key table)
form_reads table = binds (count (codes "cdf") 1 2 1 table) _ (counts (codes "cdf") 1 2 1 table) (λ n. ends _)

file_reads : (table : Members) → NoCycle (file_rule table)
unfolding file_rule
file_reads table =
    binds (mode_key table) _ (requires_key (codes "mode") (word_in (codes "mode") modes) table (words (codes "mode") modes))
    (λ mode. binds (count (codes "count") 1 65536 1 table) _ (counts (codes "count") 1 65536 1 table)
    (λ n. binds (group_size mode n) _ (sizes mode n)
    (λ count. binds (form_key table) _ (form_reads table)
    (λ form. ends _))))

kind_reads : (k : KindWord) (table : Members) → NoCycle (kind_rule k table)
kind_reads roi table = binds (roi_rule table) _ (roi_reads table) (λ r. ends _)
kind_reads stats table = binds (stats_rule table) _ (stats_reads table) (λ r. ends _)
kind_reads circular table = binds (circular_rule table) _ (circular_reads table) (λ r. ends _)
kind_reads file table = binds (file_rule table) _ (file_reads table) (λ r. ends _)
kind_reads scatter table = ends _

-- NODES

names : (d : Data) → NoCycle (node_name d)
names d = binds (text_in (codes "name") d) _ (texts (codes "name") d) (λ t. chooses (is_node_name t) _ _ (ends t) (fails (KeyType (codes "name")) tt))

known_kinds : (v : ℕ) (o : Option KindWord) → NoCycle (known_kind v o)
known_kinds v None = fails (UnknownKind v) tt
known_kinds v (Some k) = ends k

node_reads : (v : ℕ) (table : Members) → NoCycle (node_of v table)
unfolding node_of
node_reads v table =
    binds (name_key table) _ (requires_key (codes "name") node_name table names)
    (λ name. binds (kind_key v table) _
    (binds (required (codes "kind") (text_in (codes "kind")) table) _ (requires_key (codes "kind") (text_in (codes "kind")) table (texts (codes "kind")))
    (λ word. known_kinds v (meaning_in kinds word)))
    (λ k. binds (only_keys (keys_of k) table) _ (keys (keys_of k) table)
    (λ known. binds (input_key table) _ (requires_key (codes "input") (text_in (codes "input")) table (texts (codes "input")))
    (λ input. binds (queue_key table) _ (counts (codes "queue") 1 65535 20 table)
    (λ queue. binds (threads_key v k table) _
    (binds (count (codes "threads") 1 16 1 table) _ (counts (codes "threads") 1 16 1 table)
    (λ n. chooses (not (is_parallel k) && nat_lt 1 n) _ _ (fails (Threads v) tt) (ends n)))
    (λ threads. binds (sort_key k table) _ (chooses (is_parallel k) _ _ (counts (codes "sort") 0 65535 0 table) (ends 0))
    (λ sort. binds (sort_time_key k table) _ (chooses (is_parallel k) _ _ (counts (codes "sort_time") 0 2147483647 100 table) (ends 100))
    (λ sort_time. binds (kind_rule k table) _ (kind_reads k table) (λ rule. ends _)))))))))

all_nodes : (v : ℕ) (tables : List Members) → NoCycle (nodes_from v tables)
all_nodes v [] = ends []
all_nodes v (table ∷ tables) =
    binds (node_of v table) _ (node_reads v table) (λ n. binds (nodes_from (v + 1) tables) _ (all_nodes (v + 1) tables) (λ more. ends _))

pub node_list : (table : Members) → NoCycle (node_key table)
unfolding node_key
node_list table =
    binds (optional (codes "node") node_tables [] table) _
    (optionally (codes "node") node_tables [] table (λ d. binds (list_in (codes "node") as_table d) _ (lists (codes "node") as_table d) (λ ts. few (codes "node") 32 ts)))
    (λ tables. all_nodes 1 tables)

run_reads : (d : Data) → NoCycle (run_table d)
unfolding run_table
run_reads d =
    binds (formed (codes "run") (as_table d)) _ (forms (codes "run") (as_table d))
    (λ table. binds (only_keys run_keys table) _ (keys run_keys table)
    (λ known. binds (feed_key table) _ (optionally (codes "feed") (word_in (codes "feed") feeds) false table (words (codes "feed") feeds))
    (λ wait. binds (count (codes "pool") 0 1099511627776 0 table) _ (counts (codes "pool") 0 1099511627776 0 table) (λ limit. ends _))))

pub run_of : (table : Members) → NoCycle (run_key table)
run_of table = optionally (codes "run") run_table (false, 0) table run_reads

-- ALL NODES TOGETHER

pub double : (o : Option ℕ) → NoCycle (refused_node DoubleName o)
double None = ends tt
double (Some k) = fails (DoubleName (k + 1)) tt

known_inputs : (v : ℕ) (o : Option ℕ) → NoCycle (known_input v o)
known_inputs v None = fails (UnknownInput v) tt
known_inputs v (Some k) = ends k

pub all_inputs : (all : List Named) (v : ℕ) (ns : List Named) → NoCycle (input_numbers all v ns)
all_inputs all v [] = ends []
all_inputs all v (n ∷ ns) =
    binds (known_input v (input_number all n.input)) _ (known_inputs v (input_number all n.input))
    (λ k. binds (input_numbers all (v + 1) ns) _ (all_inputs all (v + 1) ns) (λ ks. ends _))

pub thread_limit : (rules : List NodeRule) → NoCycle (few_threads rules)
thread_limit rules = chooses (nat_lt 64 (thread_count rules)) _ _ (fails (Range (codes "threads") (pos (thread_count rules))) tt) (ends rules)
