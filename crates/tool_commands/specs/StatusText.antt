-- The number and the text of each status.
use Rattle.std.specs.Prelude.{◌≡◌, ℕ, ◌==◌, false, List, ◌∷◌, ◌++◌, [], codes, flat_map, if◌then◌else◌, refl}
use Rattle.std.specs.Char.{encode_utf8, is_ascii_control}
use Rattle.std.specs.Fmt.{digits, decimal, signed_decimal}
use Rattle.std.specs.Str.{chars}
use Rattle.cdf_read.specs.declared.fault.CdfFault.{CdfFault}
use Rattle.cdf_read.specs.declared.fault.CdfFault.TheVariants as cdf
use Rattle.nd_stack.specs.declared.fault.StackFault.{StackFault}
use Rattle.nd_stack.specs.declared.fault.StackFault.TheVariants as refusal
use Rattle.trig_window.specs.declared.expression.CalcFault.{CalcFault}
use Rattle.trig_window.specs.declared.expression.CalcFault.TheVariants as calc
use Rattle.graph_conf.specs.declared.fault.GraphFault.{GraphFault}
use Rattle.graph_conf.specs.declared.fault.GraphFault.TheVariants as graph
use Rattle.graph_conf.specs.declared.load.LimitFault.{LimitFault}
use Rattle.graph_conf.specs.declared.load.LimitFault.TheVariants.{GraphBytes, StackFile, GenBytes, Load, Kept, FileTooLarge}
use Rattle.tool_commands.specs.declared.status.Status.{Status}
use Rattle.tool_commands.specs.declared.status.Status.TheVariants.{Done, Usage, GraphText, GraphRule, StackBytes, Limit, Sizes, ReadFault, ShelfFault, OutFault}
use Rattle.tool_commands.specs.declared.status.Status.TheVariants.{OutOfMemory}

-- what the process ends with
abbrev pub status_number : Status → ℕ
status_number Done = 0
status_number Usage = 1
status_number GraphText = 2
status_number (GraphRule f) = 3
status_number (StackBytes f) = 4
status_number (Limit f) = 5
status_number ReadFault = 6
status_number ShelfFault = 7
status_number OutFault = 8
status_number OutOfMemory = 9
status_number Sizes = 10

-- the name and the fields of a fault, with one space between
abbrev pub cdf_fault_words : CdfFault → List ℕ
cdf_fault_words cdf.Magic = codes "Magic"
cdf_fault_words (cdf.Short at) = codes "Short " ++ decimal at
cdf_fault_words (cdf.Tag at) = codes "Tag " ++ decimal at
cdf_fault_words (cdf.Negative at) = codes "Negative " ++ decimal at
cdf_fault_words (cdf.NameText at) = codes "NameText " ++ decimal at
cdf_fault_words (cdf.NameLength at) = codes "NameLength " ++ decimal at
cdf_fault_words (cdf.DimNumber at) = codes "DimNumber " ++ decimal at
cdf_fault_words cdf.TwoRecordDims = codes "TwoRecordDims"
cdf_fault_words (cdf.ValueType at) = codes "ValueType " ++ decimal at
cdf_fault_words (cdf.RecordDimNotFirst var) = codes "RecordDimNotFirst " ++ decimal var
cdf_fault_words (cdf.Overflow var) = codes "Overflow " ++ decimal var
cdf_fault_words (cdf.DataShort var) = codes "DataShort " ++ decimal var
cdf_fault_words cdf.OutOfMemory = codes "OutOfMemory"

abbrev pub stack_fault_words : StackFault → List ℕ
stack_fault_words (refusal.Cdf f) = codes "Cdf " ++ cdf_fault_words f
stack_fault_words refusal.NoArrayData = codes "NoArrayData"
stack_fault_words (refusal.SampleType n) = codes "SampleType " ++ signed_decimal n
stack_fault_words (refusal.Rank n) = codes "Rank " ++ decimal n
stack_fault_words (refusal.TooManyFrames n) = codes "TooManyFrames " ++ decimal n
stack_fault_words (refusal.TooManySamples n) = codes "TooManySamples " ++ decimal n
stack_fault_words (refusal.FrameCount var) = codes "FrameCount " ++ decimal var
stack_fault_words (refusal.AttrShape var) = codes "AttrShape " ++ decimal var
stack_fault_words refusal.OutOfMemory = codes "OutOfMemory"

abbrev pub calc_fault_words : CalcFault → List ℕ
calc_fault_words calc.OutOfMemory = codes "OutOfMemory"
calc_fault_words calc.TooLong = codes "TooLong"
calc_fault_words (calc.Unexpected at) = codes "Unexpected " ++ decimal at
calc_fault_words calc.TooDeep = codes "TooDeep"

abbrev pub graph_fault_words : GraphFault → List ℕ
graph_fault_words graph.Text = codes "Text"
graph_fault_words (graph.UnknownKey key) = codes "UnknownKey " ++ key
graph_fault_words (graph.KeyType key) = codes "KeyType " ++ key
graph_fault_words (graph.Range key value) = codes "Range " ++ key ++ 32 ∷ [] ++ signed_decimal value
graph_fault_words (graph.Missing key) = codes "Missing " ++ key
graph_fault_words (graph.UnknownKind node) = codes "UnknownKind " ++ decimal node
graph_fault_words (graph.Threads node) = codes "Threads " ++ decimal node
graph_fault_words (graph.Calc f) = codes "Calc " ++ calc_fault_words f
graph_fault_words (graph.DoubleName node) = codes "DoubleName " ++ decimal node
graph_fault_words (graph.UnknownInput node) = codes "UnknownInput " ++ decimal node
graph_fault_words (graph.Cycle node) = codes "Cycle " ++ decimal node
graph_fault_words graph.OutOfMemory = codes "OutOfMemory"

abbrev pub limit_fault_words : LimitFault → List ℕ
limit_fault_words (GraphBytes bytes) = codes "GraphBytes " ++ decimal bytes
limit_fault_words (StackFile bytes) = codes "StackFile " ++ decimal bytes
limit_fault_words (GenBytes bytes) = codes "GenBytes " ++ decimal bytes
limit_fault_words (Load arrivals) = codes "Load " ++ decimal arrivals
limit_fault_words (Kept numbers) = codes "Kept " ++ decimal numbers
limit_fault_words (FileTooLarge node bytes) = codes "FileTooLarge " ++ decimal node ++ 32 ∷ [] ++ decimal bytes

-- `status`, its number, its name, and what it carries, with one space between
abbrev pub status_words : Status → List ℕ
status_words Done = codes "status 0 Done"
status_words Usage = codes "status 1 Usage"
status_words GraphText = codes "status 2 GraphText"
status_words (GraphRule f) = codes "status 3 GraphRule " ++ graph_fault_words f
status_words (StackBytes f) = codes "status 4 StackBytes " ++ stack_fault_words f
status_words (Limit f) = codes "status 5 Limit " ++ limit_fault_words f
status_words ReadFault = codes "status 6 ReadFault"
status_words ShelfFault = codes "status 7 ShelfFault"
status_words OutFault = codes "status 8 OutFault"
status_words OutOfMemory = codes "status 9 OutOfMemory"
status_words Sizes = codes "status 10 Sizes"

-- LINES

-- a backslash is doubled, and a control character stands as its number in hexadecimal
abbrev pub shown_char : ℕ → List ℕ
shown_char c =
    if c == 92 then 92 ∷ 92 ∷ []
    else if is_ascii_control c then codes "\\u{" ++ digits 16 false c ++ codes "}"
    else encode_utf8 c

-- a text in one line
abbrev pub one_line : List ℕ → List ℕ
one_line text = flat_map shown_char (chars text)

-- The text of a status. Of what it carries only a key of a graph can have backslashes and control characters.
abbrev pub status_line : Status → List ℕ
status_line s = one_line (status_words s)

a_name_stands_as_it_is : one_line (codes "status 3 GraphRule UnknownKey colour") ≡ codes "status 3 GraphRule UnknownKey colour"
unfolding chars digits encode_utf8
a_name_stands_as_it_is = refl

a_line_feed_is_escaped : one_line (codes "UnknownKey a\nb\\") ≡ codes "UnknownKey a\\u{a}b\\\\"
unfolding chars digits encode_utf8
a_line_feed_is_escaped = refl
