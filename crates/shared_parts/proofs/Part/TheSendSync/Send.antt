-- A part may go to another thread where its value may go and may be shared, and the allocator's blocks may be given back anywhere.
use mathlib.Core.List.{[], ◌∷◌}
use mir.Raw.{raw}
use base.Fraction.{full_share}
use base.Shift.{Keyless}
use denote.Builtin.{RawPtr}
use denote.Memory.{lone}
use denote.Param.Send.{IsSend, IsSync, Frees, owning_send, struct_send, sendable}
use denote.RattleType.{RattleType}
use denote.RawPtr.{lies_at}
use denote.Struct.Owning.{shape, fields, to}
use denote.Struct.Struct.{exits_of}
use Rattle.core.specs.contracts.marker.PhantomData as Phantom
use Rattle.core.specs.declared.alloc.Allocator.{Ghosts}
use Rattle.std_alloc.proofs.SendSync.{quiet, lies, seen}
use Rattle.shared_parts.specs.Ownership.{State, lent, given_back, home}
use Rattle.shared_parts.specs.contracts.Part.{the_row, the_type}

pub send : (T A : RattleType) (g : Ghosts A.Denot) → IsSend T → IsSend A → IsSync T → Frees g g.dealloc_token → IsSend (the_row T A g)
send T A g s sa y f =
    let O = the_type T A g in let pointer : IsSend RawPtr = search sendable in let marker : IsSend (Phantom.the_field RawPtr).row = search sendable in
    owning_send O (pointer, (marker, tt))
    (λ d. ((λ e is. (tt, tt)), (seen T y d.at d.value (d.life ∷ []), at_home d)))
    (λ k. quiet (to O) (exits_of k (fields O)) ((struct_send (shape O) (pointer, (marker, tt))).leaving k))
  where
    at_home : (d : (the_row T A g).Denot) (k : State)
        → Keyless (home (lies_at T full_share d.at d.value) (g.dealloc_token d.heap (raw (lone T.mir)) d.at) d.block d.life k)
    at_home d lent = (lies T s d.at d.value, f.frees d.heap (raw (lone T.mir)) d.at)
    at_home d given_back = tt
