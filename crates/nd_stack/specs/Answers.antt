-- Answers that are a value or the first refusal.
use Rattle.std.specs.Prelude.{◌≡◌, Bool, Result, Ok, Err, if◌then◌else◌}
use Rattle.cdf_read.specs.declared.fault.CdfFault.{CdfFault}
use Rattle.cdf_read.specs.declared.fault.CdfFault.TheVariants as cdf
use Rattle.nd_stack.specs.declared.fault.StackFault.{StackFault}
use Rattle.nd_stack.specs.declared.fault.StackFault.TheVariants.{Cdf, OutOfMemory}

infixl 10 ◌>>=◌
abbrev pub ◌>>=◌ : {A B : Type 0} → Result A StackFault → (A → Result B StackFault) → Result B StackFault
(Ok x) >>= next = next x
(Err fault) >>= next = Err fault

-- a call ended with this refusal, which is the first one that holds, unless memory ran out
abbrev pub Refuses : {Y : Type 0} → StackFault → Result Y StackFault → Type 0
Refuses OutOfMemory found = Unit {0}
Refuses fault found = found ≡ Err fault

-- what a function returned, seen by view, is what the rules give, unless memory ran out
abbrev pub Gives : {X Y : Type 0} → (X → Y) → Result X StackFault → Result Y StackFault → Type 0
Gives view (Ok x) found = found ≡ Ok (view x)
Gives view (Err fault) found = Refuses fault found

-- nothing where the test holds, and else the refusal
abbrev pub need : Bool → StackFault → Result (Unit {0}) StackFault
need holds fault = if holds then Ok tt else Err fault

-- a fault of the header as a refusal
abbrev pub cdf_refusal : CdfFault → StackFault
cdf_refusal cdf.OutOfMemory = OutOfMemory
cdf_refusal fault = Cdf fault

abbrev pub or_cdf : {A : Type 0} → Result A CdfFault → Result A StackFault
or_cdf (Ok x) = Ok x
or_cdf (Err fault) = Err (cdf_refusal fault)
