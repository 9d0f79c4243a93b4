-- What always holds, of each answer: the clauses of a trait on content, where none is told.
use Rattle.std.proofs.Common.{Result, Ok, Err}
use Rattle.std.specs.Prelude.{IfOk, IfErr}

pub always-IfOk : {T E : Type 0} (r : Result T E) {P : T → Type 0} → ((x : T) → P x) → IfOk r P
always-IfOk (Ok x) holds = holds x
always-IfOk (Err e) holds = tt

pub always-IfErr : {T E : Type 0} (r : Result T E) {P : E → Type 0} → ((e : E) → P e) → IfErr r P
always-IfErr (Ok x) holds = tt
always-IfErr (Err e) holds = holds e
