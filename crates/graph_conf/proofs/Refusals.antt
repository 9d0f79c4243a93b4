-- Faults that are handed on.
use Rattle.std.proofs.Common.{◌≡◌, Result, Err}
use Rattle.graph_conf.specs.declared.fault.GraphFault.{GraphFault}
use Rattle.graph_conf.specs.declared.fault.GraphFault.TheVariants.{Text, UnknownKey, KeyType, Range, Missing, UnknownKind, Threads, Calc, DoubleName}
use Rattle.graph_conf.specs.declared.fault.GraphFault.TheVariants.{UnknownInput, Cycle, OutOfMemory}
use Rattle.graph_conf.specs.Answers.{Refuses}

-- a fault of a part is one of the whole, where the whole has each fault of the part
pub handed_on : {X Y : Type 0} (e : GraphFault) (part : Result X GraphFault) (whole : Result Y GraphFault)
    → ((f : GraphFault) → part ≡ Err f → whole ≡ Err f) → Refuses e part → Refuses e whole
handed_on Text part whole on refused = on Text refused
handed_on (UnknownKey key) part whole on refused = on (UnknownKey key) refused
handed_on (KeyType key) part whole on refused = on (KeyType key) refused
handed_on (Range key value) part whole on refused = on (Range key value) refused
handed_on (Missing key) part whole on refused = on (Missing key) refused
handed_on (UnknownKind node) part whole on refused = on (UnknownKind node) refused
handed_on (Threads node) part whole on refused = on (Threads node) refused
handed_on (Calc fault) part whole on refused = on (Calc fault) refused
handed_on (DoubleName node) part whole on refused = on (DoubleName node) refused
handed_on (UnknownInput node) part whole on refused = on (UnknownInput node) refused
handed_on (Cycle node) part whole on refused = on (Cycle node) refused
handed_on OutOfMemory part whole on refused = tt
