-- Each other name has what it had.
use Rattle.std.specs.Prelude.{◌≡◌, ◌≢◌, ℕ, List, Option, Some, None, refl}
use Rattle.std.proofs.Common.{ap, ◌∙◌}
use Rattle.edge_traits.specs.Files.{Files, file_at}
use Rattle.edge_traits.specs.FileLaws.{file_at-with_file, file_at-with_patch, file_at-MayAppend, file_at-MayPatch}
use Rattle.cdf_write.specs.Spelling.{word}
use Rattle.file_out.specs.declared.fault.SaveFault.{SaveFault}
use Rattle.file_out.specs.declared.fault.SaveFault.TheVariants.{Failed, OutOfMemory}
use Rattle.file_out.specs.Streams.{count_place, with_count, MayCount}
use Rattle.file_out.specs.Saving.{IsBegun, Untouched, Front, BeginStops, AddStops}

pub file_at-IsBegun : (t u : Option Files) (name final q : List ℕ) → IsBegun t name final u → q ≢ name → file_at u q ≡ file_at t q
file_at-IsBegun t u name final q (Untouched same) h = ap (λ w. file_at w q) same
file_at-IsBegun t u name final q (Front front rest is made) h = ap (λ w. file_at w q) made ∙ file_at-with_file t name front q h

pub file_at-with_count : (t : Option Files) (name : List ℕ) (numrecs : Option ℕ) (count : ℕ) (q : List ℕ) → q ≢ name
    → file_at (with_count t name numrecs count) q ≡ file_at t q
file_at-with_count t name None count q h = file_at-with_patch t name count_place (word count) q h
file_at-with_count t name (Some n) count q h = refl

pub file_at-MayCount : (t u : Option Files) (name : List ℕ) (numrecs : Option ℕ) (count : ℕ) (q : List ℕ) → MayCount t name numrecs count u → q ≢ name
    → file_at u q ≡ file_at t q
file_at-MayCount t u name None count q may h = file_at-MayPatch t u name count_place (word count) q may h
file_at-MayCount t u name (Some n) count q may h = ap (λ w. file_at w q) may

pub file_at-BeginStops : (fault : SaveFault) (t u : Option Files) (name header q : List ℕ) → BeginStops fault t name header u → q ≢ name
    → file_at u q ≡ file_at t q
file_at-BeginStops Failed t u name header q stops h = file_at-IsBegun t u name header q stops h
file_at-BeginStops OutOfMemory t u name header q stops h = ap (λ w. file_at w q) stops

pub file_at-AddStops : (fault : SaveFault) (t u : Option Files) (name row q : List ℕ) → AddStops fault t name row u → q ≢ name → file_at u q ≡ file_at t q
file_at-AddStops Failed t u name row q stops h = file_at-MayAppend t u name row q stops h
file_at-AddStops OutOfMemory t u name row q stops h = ap (λ w. file_at w q) stops
