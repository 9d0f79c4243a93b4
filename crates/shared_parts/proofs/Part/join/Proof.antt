-- `join` glues the parts of both.
use Rattle.shared_parts.proofs.Names.{◌≡◌, ℕ, ◌+◌, ◌^◌, ◌≤◌, List, [], ◌∷◌, refl, inst_fn, Fn, a_type, dcons, dnil, named, Val, vunit, vptr, Lft, Fml}
use Rattle.shared_parts.proofs.Names.{ftrue, fsep, flft, SProp, emp, fact, fact_i, tables, ‵, raw, ◌⊛◌, given, ◌$◌, ◌∵◌, !, qed, by, move, keep, drop}
use Rattle.shared_parts.proofs.Names.{split, join, fsplit, fsplit3, fjoin, fjoin3, learn, use0, use1, use2, rewrite, feq_i, unit_lit, of_opd, returns}
use Rattle.shared_parts.proofs.Names.{enter, alloc_all, pass_all, free_all, look_at, sets, no, param, bounded, RattleType, owns, InBlock, mut_vals}
use Rattle.shared_parts.proofs.Names.{mut_Tells, types_at, plain, nothing, heard, opens, closes, Stays, stay_dropped, stay_ref, walk_of, Goes-dropped}
use Rattle.shared_parts.proofs.Names.{Goes-ref, proved, leaves}
use Rattle.shared_parts.specs.Ownership.{parts, part_owns}
use Rattle.shared_parts.specs.contracts.Part as Part
use Rattle.shared_parts.specs.contracts.Part.join.{ended, clauses}
use Rattle.shared_parts.specs.contracts.Part.join.Key.{name as key}
use Rattle.shared_parts.proofs.Fields.{part_val, part_typed, told}
use Rattle.shared_parts.proofs.Shares.{parts_join}
use Rattle.shared_parts.proofs.Steps.{lies}
use Rattle.shared_parts.proofs.Part.join.Statement.{statement}
use Rattle.shared_parts.proofs.Part.join.Code as code

pub join_spec : {M : Type 1} → statement M
join_spec 𝓤 𝓛 𝓜 𝓡 wired X Z L K g d dd met md =
    let 𝓣 = tables 𝓤 𝓛.H 𝓜 𝓡 𝓡.env in let inst = bounded (a_type ∷ a_type ∷ []) (X, (Z, tt)) (dcons d (dcons dd dnil)) in
    let fn : Fn = inst_fn inst code.function in let R : RattleType = param 0 X in let P : RattleType = param 1 Z in let Row : RattleType = Part.the_row R P g in
    let En = ended X Z g d dd in let c = clauses X Z g d dd 𝓛 𝓜.mem 𝓡.returns in let part = plain (λ _. Row) in
    let hs : Stays En.signature.params En.kept = (stay_ref (0 ∷ []) tt part, (stay_dropped part no, tt)) in
    proved 𝓛 En hs c 𝓜 𝓡 (Goes-ref 𝓛 3 0 tt part, (Goes-dropped 𝓛 3 part no (λ κs x f. refl), tt)) (key inst) fn
    (code.unfolded 𝓤 𝓛.H 𝓜 𝓡 wired (X, (Z, tt)) d dd)
    (λ κs. (mut_vals, ((λ e. part_val e.at ∷ []), tt)))
    (λ κs. (mut_Tells (named 0) κs.0 Row, ((λ e vs so. told R P g e.at vs so.0), tt))) (λ κs qs bounds a gh are.
    let b : ℕ = a.0.ref_ptr.0 in let o : ℕ = a.0.ref_ptr.1 in let s : Row.Denot = a.0.now in let e : Row.Denot = a.1.0 in
    let κ : Lft = κs.0 in let others : Fml = fsep (flft κs.1.0 qs.1.0) (fsep (flft κs.1.1.0 qs.1.1.0) ftrue) in
    let n : ℕ = s.count + e.count in let sum : Row.Denot = record s { count = n } in let few : Type 0 = n ≤ 2 ^ 32 in
    let vs : List Val = vptr b o ∷ part_val e.at ∷ [] in
    let y : (walk_of 𝓛 En hs c).Ghost = ((κs, qs, bounds, a, (vptr b o ∷ [], (part_val e.at ∷ [], tt))), gh) in
    let Post : Val → SProp 𝓤 = (walk_of 𝓛 En hs c).post y in
    let owned = part_owns (g.dealloc_token e.heap) R e.at e.value e.block e.life e.count in
    qed 𝓛 (((‵ (flft κ qs.0) ⊛ ‵ others) ⊛ ‵ (owns (types_at En.signature.params κs) a y.0.4)) ∷ raw (fact 𝓤 _) ∷ raw (fact 𝓤 _)
    ∷ raw (fact 𝓤 (e.block ≡ s.block)) ∷ []) ∵
    keep ! (3 ∷ 0 ∷ []) $ heard ! (e.block ≡ s.block) (λ same. split ! $ split ! $ move ! (2 ∷ []) $ fsplit3 ! $
    -- [self; other; nothing; the token; the other tokens]
    move ! (1 ∷ []) $ fsplit ! $ drop ! $
    use1 𝓛 (given (InBlock e.at) (‵ owned)) (lies 𝓛 (g.dealloc_token e.heap) R e.at e.value e.block e.life e.count) $ learn ! (λ inside.
    fsplit ! $ rewrite ! 0 (λ (γ : ℕ). ‵ (parts γ e.life e.count)) same refl $
    move ! (2 ∷ []) $ fsplit3 ! $ keep ! (1 ∷ 2 ∷ 6 ∷ 7 ∷ 3 ∷ []) $
    enter ! 𝓣.C 𝓣.Λ fn vs Post $ alloc_all ! (λ l. pass_all ! refl ((tt, tt), (part_typed e.at inside, tt)) $
    opens ! tt Row b o (λ us. move ! (1 ∷ []) $ fsplit ! $ move ! (1 ∷ []) $ fsplit ! $
    -- [self's parts; what else they own; self's fields; its cell; the open borrow, in three; the other tokens; other's parts]
    move ! (0 ∷ 8 ∷ []) $ use2 𝓛 (given few (‵ (parts s.block s.life n))) (parts_join 𝓛 s.block s.life e.life s.count e.count) $ learn ! (λ fits.
    fjoin ! $ move ! (1 ∷ 0 ∷ []) $ fjoin ! $ move ! (1 ∷ 0 ∷ []) $ closes ! tt Row sum us b o $
    feq_i ! (List Val) (vptr b o ∷ []) (vptr b o ∷ []) refl $ fjoin3 ! $
    nothing ! $ nothing ! $ fjoin ! $ move ! (1 ∷ 0 ∷ []) $ fjoin ! $ move ! (1 ∷ 2 ∷ []) $ join ! $
    sets ! (of_opd ! (unit_lit !)) refl (tt, tt) $
    use0 𝓛 (raw (fact 𝓤 few)) (fact_i 𝓤 few (emp 𝓤) fits) $ use0 𝓛 (raw (fact 𝓤 (sum ≡ sum))) (fact_i 𝓤 (sum ≡ sum) (emp 𝓤) refl) $ join ! $
    feq_i ! (List Val) (vunit ∷ []) (vunit ∷ []) refl $
    -- [the result; the `ensures`; the tokens; the parameters]
    returns ! (look_at ! 0 refl) $ free_all ! refl $ keep ! (2 ∷ 3 ∷ 0 ∷ 1 ∷ []) $
    by ! (leaves 𝓛 En hs c y vunit tt (sum, (tt, tt)) (tt, (tt, tt)))))))))
