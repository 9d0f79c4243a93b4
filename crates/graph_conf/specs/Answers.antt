-- Answers that are a value or the first fault.
use Rattle.std.specs.Prelude.{◌≡◌, Bool, Result, Ok, Err, if◌then◌else◌}
use Rattle.trig_window.specs.declared.expression.CalcFault.{CalcFault}
use Rattle.trig_window.specs.declared.expression.CalcFault.TheVariants as calc
use Rattle.graph_conf.specs.declared.fault.GraphFault.{GraphFault}
use Rattle.graph_conf.specs.declared.fault.GraphFault.TheVariants.{Calc, OutOfMemory}

infixl 10 ◌>>=◌
abbrev pub ◌>>=◌ : {A B : Type 0} → Result A GraphFault → (A → Result B GraphFault) → Result B GraphFault
(Ok x) >>= next = next x
(Err fault) >>= next = Err fault

-- a call ended with this fault, which is the first one, unless memory ran out
abbrev pub Refuses : {Y : Type 0} → GraphFault → Result Y GraphFault → Type 0
Refuses OutOfMemory found = Unit {0}
Refuses fault found = found ≡ Err fault

-- what a function returned, seen by view, is what the rules give, unless memory ran out
abbrev pub Gives : {X Y : Type 0} → (X → Y) → Result X GraphFault → Result Y GraphFault → Type 0
Gives view (Ok x) found = found ≡ Ok (view x)
Gives view (Err fault) found = Refuses fault found

-- nothing where the test holds, and else the fault
abbrev pub need : Bool → GraphFault → Result (Unit {0}) GraphFault
need holds fault = if holds then Ok tt else Err fault

-- a fault of an expression as one of its graph
abbrev pub calc_fault : CalcFault → GraphFault
calc_fault calc.OutOfMemory = OutOfMemory
calc_fault fault = Calc fault

abbrev pub or_calc : {A : Type 0} → Result A CalcFault → Result A GraphFault
or_calc (Ok x) = Ok x
or_calc (Err fault) = Err (calc_fault fault)
