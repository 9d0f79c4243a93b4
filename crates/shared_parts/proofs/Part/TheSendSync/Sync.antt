-- A part may be shared between threads where its value may be.
use mathlib.Core.List.{[], ◌∷◌}
use denote.Builtin.{RawPtr}
use denote.Param.Send.{IsSync, struct_sync, sendable}
use denote.RattleType.{RattleType}
use denote.Struct.Owning.{shape, to}
use Rattle.core.specs.contracts.marker.PhantomData as Phantom
use Rattle.core.specs.declared.alloc.Allocator.{Ghosts}
use Rattle.std_alloc.proofs.SendSync.{seen}
use Rattle.shared_parts.specs.contracts.Part.{the_row, the_type}

pub sync : (T A : RattleType) (g : Ghosts A.Denot) → IsSync T → IsSync (the_row T A g)
sync T A g y =
    let O = the_type T A g in let pointer : IsSync RawPtr = search sendable in let marker : IsSync (Phantom.the_field RawPtr).row = search sendable in
    record { shared = λ d b o κ. ((struct_sync (shape O) (pointer, (marker, tt))).shared (to O d) b o κ, ((λ e. tt), seen T y d.at d.value (d.life ∷ []))) }
