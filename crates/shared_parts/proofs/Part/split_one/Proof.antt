-- `split_one` cuts one part off, and makes a second owner of the same pointer.
use Rattle.shared_parts.proofs.Names.{◌≡◌, ℕ, ◌-◌, ◌<◌, List, [], ◌∷◌, sym, refl, arith, inst_fn, Fn, a_type, dcons, dnil, named, Val, vptr, Lft, Fml}
use Rattle.shared_parts.proofs.Names.{ftrue, fsep, flft, full_share, SProp, emp, fact, fact_i, tables, ‵, raw, ◌⊛◌, given, ◌$◌, ◌∵◌, !, qed, by, move, keep}
use Rattle.shared_parts.proofs.Names.{split, join, fsplit, fsplit3, fjoin, fjoin3, learn, use0, use1, rewrite, feq_i, sub, whole, look_in, agg, stop, fld}
use Rattle.shared_parts.proofs.Names.{load, of_opd, no_more, and_then, returns, enter, alloc_all, pass_all, free_all, look_at, get, through, sets, Is}
use Rattle.shared_parts.proofs.Names.{shows, cell_at, param, bounded, param_laws, RattleType, owns, Ptr, InBlock, lent_at, lent_at_shr_laws, mut_vals}
use Rattle.shared_parts.proofs.Names.{mut_Tells, contraction, types_at, plain, nothing, peeks, heard, opens, closes, Stays, stay_ref, walk_of, Goes-ref}
use Rattle.shared_parts.proofs.Names.{proved, leaves}
use base.Fml.{finv}
use Rattle.shared_parts.specs.Ownership.{parts, block, part_owns}
use Rattle.shared_parts.specs.contracts.Part as Part
use Rattle.shared_parts.specs.contracts.Part.split_one.{ended, clauses}
use Rattle.shared_parts.specs.contracts.Part.split_one.Key.{name as key}
use Rattle.shared_parts.proofs.Fields.{Data, part_val, part_typed, pointer_typed, told, made}
use Rattle.shared_parts.proofs.Shares.{parts_cut}
use Rattle.shared_parts.proofs.Steps.{lies}
use Rattle.shared_parts.proofs.Part.split_one.Statement.{statement}
use Rattle.shared_parts.proofs.Part.split_one.Code as code

pub split_one_spec : {M : Type 1} → statement M
split_one_spec 𝓤 𝓛 𝓜 𝓡 wired X Z L K g d dd met md =
    let 𝓣 = tables 𝓤 𝓛.H 𝓜 𝓡 𝓡.env in let inst = bounded (a_type ∷ a_type ∷ []) (X, (Z, tt)) (dcons d (dcons dd dnil)) in
    let fn : Fn = inst_fn inst code.function in let R : RattleType = param 0 X in let P : RattleType = param 1 Z in let Row : RattleType = Part.the_row R P g in
    let D : RattleType = Data R P g in let En = ended X Z g d dd in let c = clauses X Z g d dd 𝓛 𝓜.mem 𝓡.returns in let part = plain (λ _. Row) in
    let hs : Stays En.signature.params En.kept = (stay_ref (0 ∷ []) tt part, tt) in
    proved 𝓛 En hs c 𝓜 𝓡 (Goes-ref 𝓛 3 0 tt part, tt) (key inst) fn (code.unfolded 𝓤 𝓛.H 𝓜 𝓡 wired (X, (Z, tt)) d dd)
    (λ κs. (mut_vals, tt)) (λ κs. (mut_Tells (named 0) κs.0 Row, tt)) (λ κs qs bounds a gh are.
    let b : ℕ = a.0.ref_ptr.0 in let o : ℕ = a.0.ref_ptr.1 in let s : Row.Denot = a.0.now in let p : Ptr = s.at in let k : ℕ = s.count in
    let κ : Lft = κs.0 in let others : Fml = fsep (flft κs.1.0 qs.1.0) (fsep (flft κs.1.1.0 qs.1.1.0) ftrue) in
    let shown : Lft → Fml = lent_at R p s.value in let α : Lft = s.life ∷ [] in
    let home : Fml = block R p s.value (g.dealloc_token s.heap) s.block s.life in
    let owned : Fml = part_owns (g.dealloc_token s.heap) R p s.value s.block s.life k in
    let rest : Row.Denot = record s { count = k - 1 } in let one : Row.Denot = record s { count = 1 } in
    let y : (walk_of 𝓛 En hs c).Ghost = ((κs, qs, bounds, a, (vptr b o ∷ [], tt)), gh) in let Post : Val → SProp 𝓤 = (walk_of 𝓛 En hs c).post y in
    let Cell = λ (ws : List Val). ‵ (cell_at full_share Row.mir ws b o) in
    qed 𝓛 (((‵ (flft κ qs.0) ⊛ ‵ others) ⊛ ‵ (owns (types_at En.signature.params κs) a y.0.4)) ∷ raw (fact 𝓤 _) ∷ raw (fact 𝓤 _) ∷ raw (fact 𝓤 (1 < k)) ∷ []) ∵
    keep ! (3 ∷ 0 ∷ []) $ heard ! (1 < k) (λ many. split ! $ split ! $ move ! (2 ∷ []) $ fsplit ! $ fsplit3 ! $ keep ! (1 ∷ 2 ∷ 4 ∷ 5 ∷ []) $
    enter ! 𝓣.C 𝓣.Λ fn (vptr b o ∷ []) Post $ alloc_all ! (λ l. pass_all ! refl ((tt, tt), tt) $
    opens ! tt Row b o (λ us. move ! (1 ∷ []) $ fsplit ! $ peeks ! D (Is D) (shows 𝓛 D) (p, (tt, tt)) us (λ is.
    let word : us ≡ part_val p ∷ [] = told R P g p us is in move ! (1 ∷ []) $
    use1 𝓛 (given (InBlock p) (‵ owned)) (lies 𝓛 (g.dealloc_token s.heap) R p s.value s.block s.life k) $ learn ! (λ inside. fsplit3 ! $
    -- [the parts; the value, shown; what all parts know; the fields; their cell; the open borrow, in three; the other tokens]
    use1 𝓛 (‵ (parts s.block s.life 1) ⊛ ‵ (parts s.block s.life (k - 1)))
    (parts_cut 𝓛 s.block s.life k 1 (k - 1) (omega arith) (omega arith) (omega arith)) $ split ! $ move ! (2 ∷ []) $
    use1 𝓛 (‵ (shown α) ⊛ ‵ (shown α)) (contraction 𝓛 shown (lent_at_shr_laws R (param_laws 0 X L).shr_laws p s.value) α) $ split ! $ move ! (4 ∷ []) $
    use1 𝓛 (‵ (finv home) ⊛ ‵ (finv home)) (𝓛.invs.inv_dup home) $ split ! $
    move ! (2 ∷ 0 ∷ []) $ fjoin ! $ move ! (3 ∷ 0 ∷ []) $ fjoin ! $ move ! (2 ∷ 1 ∷ []) $ fjoin ! $ move ! (2 ∷ 0 ∷ []) $ fjoin ! $
    -- [what stays; what goes; the fields; their cell; the open borrow; the other tokens]
    rewrite ! 3 Cell word refl $
    sets ! (of_opd ! (load ! (through ! refl (fld ! refl (stop !))) (look_in ! 3 (sub ! 0 refl (whole !))))) refl (pointer_typed p inside) $
    sets ! (agg ! (no_more !)) refl (tt, tt) $
    sets ! (agg ! (and_then ! (get ! refl) (and_then ! (get ! refl) (no_more !)))) refl (part_typed p inside) $
    rewrite ! 3 Cell (sym word) refl $ move ! (2 ∷ 0 ∷ []) $ fjoin ! $ move ! (2 ∷ 0 ∷ 3 ∷ 4 ∷ 5 ∷ []) $ closes ! tt Row rest us b o $
    feq_i ! (List Val) (vptr b o ∷ []) (vptr b o ∷ []) refl $ fjoin3 ! $ nothing ! $ move ! (1 ∷ 0 ∷ []) $ fjoin ! $ move ! (1 ∷ 3 ∷ []) $ join ! $
    move ! (2 ∷ []) $ use0 𝓛 (‵ (D.own_val (p, (tt, tt)) (part_val p ∷ []))) (made R P g 𝓛 p) $ fjoin ! $
    use0 𝓛 (raw (fact 𝓤 (one ≡ one))) (fact_i 𝓤 (one ≡ one) (emp 𝓤) refl) $
    use0 𝓛 (raw (fact 𝓤 (rest ≡ rest))) (fact_i 𝓤 (rest ≡ rest) (emp 𝓤) refl) $ join ! $
    -- [the `ensures`; the result; the tokens; self]
    returns ! (look_at ! 0 refl) $ free_all ! refl $ keep ! (2 ∷ 3 ∷ 1 ∷ 0 ∷ []) $
    by ! (leaves 𝓛 En hs c y (part_val p) one (rest, tt) (tt, tt))))))))
