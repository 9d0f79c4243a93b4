-- A `&` to a part holds some of its share of the token. Assumes `Logic`.
use denote.Builtin.{RawPtr}
use denote.Param.Laws.{Laws}
use denote.Param.Shared.{copy_shared}
use denote.RattleType.{RattleType}
use denote.Struct.Field.{RawPtr-field}
use denote.Struct.Laws.{RawPtr-copy, field_copy}
use denote.Struct.Lending.{of_Lends, lent_at, lent_at_shr_laws}
use Rattle.core.specs.contracts.marker.PhantomData as Phantom
use Rattle.core.specs.declared.alloc.Allocator.{Ghosts}
use Rattle.shared_parts.specs.Ownership.{block}
use Rattle.shared_parts.specs.contracts.Part as Part
use Rattle.shared_parts.proofs.Part.TheLaw.Statement.{statement}
use Rattle.shared_parts.proofs.Steps.{lends_part, shown_laws}

pub shares : (T A : RattleType) (g : Ghosts A.Denot) (L : Laws T) (K : Laws A) → statement T A g L K
shares T A g L K =
    let shown = λ (d : (Part.struct T A g).D). lent_at T d.at d.value in
    let laws = λ (d : (Part.struct T A g).D). lent_at_shr_laws T L.shr_laws d.at d.value in
    let home = λ (d : (Part.struct T A g).D). block T d.at d.value (g.dealloc_token d.heap) d.block d.life in
    of_Lends (Part.struct T A g) (Part.the_codes T.Denot A.Denot T.coded A.coded (Phantom.the_row RawPtr).coded) (Part.the_heap T A g) (Part.the_lent T A g)
    (λ d p. shown_laws d.life (shown d) (laws d))
    (copy_shared RawPtr-field RawPtr-copy, (copy_shared (Phantom.the_field RawPtr) (field_copy (Phantom.the_type RawPtr) tt), tt))
    (λ M 𝓤 𝓛 d p. lends_part 𝓛 d.block d.life d.count (home d) (shown d) (laws d) (Part.the_row T A g).lives)
