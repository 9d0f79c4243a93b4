-- The limits that a graph passes over a stack are none of the sizes of their files.
use Rattle.std.proofs.Common.{◌≡◌, ℕ, zero, suc, ◌+◌, Option, Some, Bool, true, false, if◌then◌else◌, length, subst}
use Rattle.std.specs.Prelude.{nat_lt}
use Rattle.nd_base.specs.Array.{StackValue}
use Rattle.nd_base.specs.declared.graph.Graph.{Graph}
use Rattle.graph_conf.specs.declared.load.LimitFault.{LimitFault}
use Rattle.graph_conf.specs.declared.load.LimitFault.TheVariants.{Load, Kept, FileTooLarge}
use Rattle.graph_conf.specs.Loads.{arrivals, kept, file_bytes_at, most_bytes_at, first_too_long}
use Rattle.tool_commands.specs.WorkLaws.{IsOfLoad, LoadsAreNoSizes}

-- the fault that is named here, or one of those that are tested later
named : (b : Bool) (here fault : LimitFault) (rest : Option LimitFault) → IsOfLoad here → (rest ≡ Some fault → IsOfLoad fault)
    → (if b then Some here else rest) ≡ Some fault → IsOfLoad fault
named true here fault rest is later e = let same : here ≡ fault = cc in subst IsOfLoad same is
named false here fault rest is later e = later e

first_long : (g : Graph) (s : StackValue) (v n : ℕ) (fault : LimitFault) → first_too_long g s v n ≡ Some fault → IsOfLoad fault
first_long g s v zero fault e = absurd (cc)
first_long g s v (suc n) fault e =
    named (nat_lt (most_bytes_at g v) (file_bytes_at g s v)) (FileTooLarge v (file_bytes_at g s v)) fault (first_too_long g s (v + 1) n) tt
    (first_long g s (v + 1) n fault) e

pub of_load : LoadsAreNoSizes
of_load g s fault e =
    named (nat_lt 1048576 (arrivals g s)) (Load (arrivals g s)) fault _ tt
    (named (nat_lt 67108864 (kept g s)) (Kept (kept g s)) fault _ tt (first_long g s 1 (length g.nodes) fault)) e
