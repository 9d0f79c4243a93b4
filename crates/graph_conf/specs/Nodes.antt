-- The keys of a node's table: names, ranges and defaults.
use Rattle.std.specs.Prelude.{ℕ, ℤ, pos, negsuc, int_lt, Bool, true, false, not, ◌&&◌, ◌||◌, ◌==◌, nat_lt, List, [], ◌∷◌, ◌++◌, codes, Option, Some, None}
use Rattle.std.specs.Prelude.{Result, Ok, Err, if◌then◌else◌}
use Rattle.nd_base.specs.declared.form.Form.{Form}
use Rattle.nd_base.specs.declared.form.Form.TheVariants.{Classic, Wide}
use Rattle.nd_base.specs.declared.array.SampleType.{SampleType}
use Rattle.nd_base.specs.declared.array.SampleType.TheVariants.{Int8, UInt8, Int16, UInt16, Int32, UInt32}
use Rattle.nd_base.specs.declared.graph.RoiRule.{RoiRule}
use Rattle.nd_base.specs.declared.graph.StatsRule.{StatsRule}
use Rattle.nd_base.specs.declared.graph.FileRule.{FileRule}
use Rattle.nd_base.specs.declared.graph.Mode.{Mode}
use Rattle.nd_base.specs.declared.graph.Mode.TheVariants.{Single, Capture, Stream}
use Rattle.nd_base.specs.GraphRules.{is_node_name}
use Rattle.trig_window.specs.Expressions.{expression_of}
use Rattle.toml.specs.Data.{Data, Members}
use Rattle.graph_conf.specs.declared.fault.GraphFault.{GraphFault}
use Rattle.graph_conf.specs.declared.fault.GraphFault.TheVariants.{KeyType, Range, UnknownKind, Threads}
use Rattle.graph_conf.specs.Answers.{◌>>=◌, need, or_calc}
use Rattle.graph_conf.specs.Keys.{optional, required, number, count, truth, text_in, word_in, numbers, truths, meaning_in, only_keys}
use Rattle.nd_base.specs.declared.graph.Kind.{Kind}
use Rattle.nd_base.specs.declared.graph.CircularRule.{CircularRule}
use Rattle.graph_conf.specs.Named.{Named, KindWord, roi, stats, circular, file, scatter}
use Rattle.nd_base.specs.declared.graph.Kind.TheVariants.{Roi, Stats, Circular, File, Scatter}

-- WORDS

abbrev pub kinds : List (List ℕ × KindWord)
kinds = (codes "roi", roi) ∷ (codes "stats", stats) ∷ (codes "circular", circular) ∷ (codes "file", file)
    ∷ (codes "scatter", scatter) ∷ []

abbrev pub sample_types : List (List ℕ × SampleType)
sample_types =
    (codes "Int8", Int8) ∷ (codes "UInt8", UInt8) ∷ (codes "Int16", Int16)
    ∷ (codes "UInt16", UInt16) ∷ (codes "Int32", Int32) ∷ (codes "UInt32", UInt32) ∷ []

abbrev pub modes : List (List ℕ × Mode)
modes = (codes "single", Single) ∷ (codes "capture", Capture) ∷ (codes "stream", Stream) ∷ []

-- WHICH KEYS EACH KIND HAS

abbrev pub shared_keys : List (List ℕ)
shared_keys = codes "name" ∷ codes "kind" ∷ codes "input" ∷ codes "queue" ∷ codes "threads" ∷ []

abbrev pub keys_of : KindWord → List (List ℕ)
keys_of roi =
    shared_keys ++ codes "sort" ∷ codes "sort_time" ∷ codes "min" ∷ codes "size" ∷ codes "bin" ∷ codes "reverse" ∷ codes "auto"
    ∷ codes "scale" ∷ codes "type" ∷ []
keys_of stats =
    shared_keys ++ codes "sort" ∷ codes "sort_time" ∷ codes "threshold" ∷ codes "border" ∷ codes "hist_size" ∷ codes "hist_lo"
    ∷ codes "hist_hi" ∷ codes "profiles" ∷ []
keys_of circular = shared_keys ++ codes "pre" ∷ codes "post" ∷ codes "preset" ∷ codes "trigger" ∷ codes "a" ∷ codes "b" ∷ []
keys_of file = shared_keys ++ codes "mode" ∷ codes "count" ∷ codes "cdf" ∷ []
keys_of scatter = shared_keys

-- several threads, and sorting, are for region and statistics nodes, as the rules of graphs say of their kinds
abbrev pub is_parallel : KindWord → Bool
is_parallel roi = true
is_parallel stats = true
is_parallel circular = false
is_parallel file = false
is_parallel scatter = false

-- THE KEYS OF EVERY NODE

-- letters, digits and underscores, a letter first, and not the driver's name
abbrev pub node_name : Data → Result (List ℕ) GraphFault
node_name d = do
  t ← text_in (codes "name") d
  if is_node_name t then Ok t else Err (KeyType (codes "name"))

abbrev pub known_kind : ℕ → Option KindWord → Result KindWord GraphFault
known_kind v None = Err (UnknownKind v)
known_kind v (Some k) = Ok k

abbrev pub name_key : Members → Result (List ℕ) GraphFault
name_key table = required (codes "name") node_name table

abbrev pub kind_key : ℕ → Members → Result KindWord GraphFault
kind_key v table = do
  word ← required (codes "kind") (text_in (codes "kind")) table
  known_kind v (meaning_in kinds word)

abbrev pub input_key : Members → Result (List ℕ) GraphFault
input_key table = required (codes "input") (text_in (codes "input")) table

abbrev pub queue_key : Members → Result ℕ GraphFault
queue_key table = count (codes "queue") 1 65535 20 table

abbrev pub threads_key : ℕ → KindWord → Members → Result ℕ GraphFault
threads_key v k table = do
  n ← count (codes "threads") 1 16 1 table
  if not (is_parallel k) && nat_lt 1 n then Err (Threads v) else Ok n

abbrev pub sort_key : KindWord → Members → Result ℕ GraphFault
sort_key k table = if is_parallel k then count (codes "sort") 0 65535 0 table else Ok 0

abbrev pub sort_time_key : KindWord → Members → Result ℕ GraphFault
sort_time_key k table = if is_parallel k then count (codes "sort_time") 0 2147483647 100 table else Ok 100

-- THE KEYS OF EACH KIND

abbrev pub sample_type : Data → Result (Option SampleType) GraphFault
sample_type d = do
  t ← word_in (codes "type") sample_types d
  Ok (Some t)

-- None stands for the input's type
abbrev pub type_key : Members → Result (Option SampleType) GraphFault
type_key table = optional (codes "type") sample_type None table

unfoldable pub roi_rule : Members → Result RoiRule GraphFault
roi_rule table = do
  min ← numbers (codes "min") table
  size ← numbers (codes "size") table
  bin ← numbers (codes "bin") table
  reverse ← truths (codes "reverse") table
  auto ← truths (codes "auto") table
  scale ← count (codes "scale") 1 2147483647 1 table
  out ← type_key table
  Ok (record { min = min; size = size; bin = bin; reverse = reverse; auto = auto; scale = scale; out = out })

-- a bound of a sample
abbrev pub sample_bound : List ℕ → ℤ → Members → Result ℤ GraphFault
sample_bound key default table = number key (negsuc 2147483647) (pos 4294967295) default table

-- where there is a histogram, its low end is below its high one
unfoldable pub stats_rule : Members → Result StatsRule GraphFault
stats_rule table = do
  threshold ← sample_bound (codes "threshold") (pos 0) table
  border ← count (codes "border") 0 67108864 0 table
  hist_size ← count (codes "hist_size") 0 1024 0 table
  hist_lo ← sample_bound (codes "hist_lo") (pos 0) table
  hist_hi ← sample_bound (codes "hist_hi") (pos 255) table
  profiles ← truth (codes "profiles") false table
  ordered ← need (hist_size == 0 || int_lt hist_lo hist_hi) (Range (codes "hist_hi") hist_hi)
  Ok (record { threshold = threshold; border = border; hist_size = hist_size; hist_lo = hist_lo; hist_hi = hist_hi; profiles = profiles })

-- the text of an attribute's name; the empty one names none
abbrev pub attribute_key : List ℕ → Members → Result (List ℕ) GraphFault
attribute_key key table = optional key (text_in key) [] table

unfoldable pub circular_rule : Members → Result CircularRule GraphFault
circular_rule table = do
  pre ← count (codes "pre") 0 4096 0 table
  post ← count (codes "post") 1 4096 1 table
  preset ← count (codes "preset") 0 2147483647 0 table
  words ← required (codes "trigger") (text_in (codes "trigger")) table
  trigger ← or_calc (expression_of words)
  a ← attribute_key (codes "a") table
  b ← attribute_key (codes "b") table
  Ok (record { pre = pre; post = post; preset = preset; trigger = trigger; a = a; b = b })

-- in mode single each file has one array
abbrev pub group_size : Mode → ℕ → Result ℕ GraphFault
group_size Single n = if n == 1 then Ok n else Err (Range (codes "count") (pos n))
group_size Capture n = Ok n
group_size Stream n = Ok n

abbrev pub mode_key : Members → Result Mode GraphFault
mode_key table = required (codes "mode") (word_in (codes "mode") modes) table

-- CDF-1 or CDF-2
abbrev pub form_key : Members → Result Form GraphFault
form_key table = do
  n ← count (codes "cdf") 1 2 1 table
  Ok (if n == 2 then Wide else Classic)

unfoldable pub file_rule : Members → Result FileRule GraphFault
file_rule table = do
  mode ← mode_key table
  n ← count (codes "count") 1 65536 1 table
  count ← group_size mode n
  form ← form_key table
  Ok (record { mode = mode; count = count; form = form })

abbrev pub kind_rule : KindWord → Members → Result Kind GraphFault
kind_rule roi table = roi_rule table >>= λ r. Ok (Roi r)
kind_rule stats table = stats_rule table >>= λ r. Ok (Stats r)
kind_rule circular table = circular_rule table >>= λ r. Ok (Circular r)
kind_rule file table = file_rule table >>= λ r. Ok (File r)
kind_rule scatter table = Ok Scatter

-- THE NODE

-- node v, with its input as it is written
unfoldable pub node_of : ℕ → Members → Result Named GraphFault
node_of v table = do
  name ← name_key table
  k ← kind_key v table
  known ← only_keys (keys_of k) table
  input ← input_key table
  queue ← queue_key table
  threads ← threads_key v k table
  sort ← sort_key k table
  sort_time ← sort_time_key k table
  rule ← kind_rule k table
  Ok (record { input = input; rule = record { name = name; kind = rule; input = 0; queue = queue; threads = threads; sort = sort; sort_time = sort_time } })
