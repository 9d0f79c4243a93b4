-- The data fields of a part: its pointer, and a marker of no bytes. Assumes `Logic`.
use Rattle.std.proofs.Common.{◌≡◌, T, List, [], ◌∷◌, ◌++◌, refl, ap, ◌∙◌}
use seplogic.Ra.Ura.{Ura}
use mir.Syntax.{Ty, ty_ptr, ty_struct, tcons, tnil}
use mir.Val.{Val, vstruct, vcons, vnil, of_list, has_ty, WT}
use base.Logic.{ent, emp}
use denote.Builtin.{RawPtr}
use denote.Copied.{Struct-Copied}
use denote.Laws.{Is}
use denote.Opens.{Opens}
use denote.RattleType.{RattleType}
use denote.RawPtr.{Ptr, InBlock, block_ptr, null_ptr, ptr_val}
use denote.Shadow.{makes_shadow}
use denote.Struct.Laws.{RawPtr-copy, field_copy}
use denote.Struct.Owning.{shape}
use denote.Struct.Struct.{Struct}
use types.Logic.{Logic, sem}
use Rattle.core.specs.contracts.marker.PhantomData as Phantom
use Rattle.core.specs.declared.alloc.Allocator.{Ghosts}
use Rattle.shared_parts.specs.contracts.Part as Part

abbrev pub part_val : Ptr → Val
part_val p = vstruct (vcons (ptr_val p) (vcons (vstruct vnil) vnil))

abbrev part_ty : Ty
part_ty = ty_struct [] (tcons ty_ptr (tcons (ty_struct [] tnil) tnil))

pub pointer_typed : (p : Ptr) → InBlock p → T (has_ty ty_ptr (ptr_val p)) × WT (ptr_val p)
pointer_typed (block_ptr b o) inside = (tt, tt)
pointer_typed null_ptr inside = absurd inside

pub part_typed : (p : Ptr) → InBlock p → T (has_ty part_ty (part_val p)) × WT (part_val p)
part_typed (block_ptr b o) inside = (tt, (tt, (tt, tt)))
part_typed null_ptr inside = absurd inside

module _ (R A : RattleType) (g : Ghosts A.Denot) where
  abbrev pub Data : RattleType
  Data = Struct (shape (Part.the_type R A g))

  pub told : (p : Ptr) (vs : List Val) → Is Data (p, (tt, tt)) vs → vs ≡ part_val p ∷ []
  told p vs is = is.1.0 ∙ ap (λ (ws : List Val). vstruct (of_list (ws ++ (is.0.1.0 ++ []))) ∷ []) is.1.1.0
      ∙ ap (λ (ws : List Val). vstruct (of_list (ptr_val p ∷ (ws ++ []))) ∷ []) is.1.1.1.0.1.0

  pub made : {M : Type 1} {𝓤 : Ura M} (𝓛 : Logic 𝓤) (p : Ptr) → ent 𝓤 (emp 𝓤) (sem 𝓛 (Data.own_val (p, (tt, tt)) (part_val p ∷ [])))
  made 𝓛 p = makes_shadow 𝓛 (Data.own_val (p, (tt, tt)) (part_val p ∷ [])) (λ vss. (tt, (tt, ((λ uss. (tt, tt)), tt))))
      ((ptr_val p ∷ [], (vstruct vnil ∷ [], tt)), (refl, (refl, ((tt, (refl, tt)), tt))))

  pub opened : {M : Type 1} {𝓤 : Ura M} (𝓛 : Logic 𝓤) → Opens 𝓛 Data
  opened {M} {𝓤 = 𝓤} 𝓛 = (Struct-Copied 𝓛 (shape (Part.the_type R A g)) (refl, (refl, tt))
      (RawPtr-copy.copied M 𝓤 𝓛, ((field_copy (Phantom.the_type RawPtr) tt).copied M 𝓤 𝓛, tt))).opens
