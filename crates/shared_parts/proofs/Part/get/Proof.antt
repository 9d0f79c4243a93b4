-- `get` shows the value for as long as the part is borrowed.
use Rattle.shared_parts.proofs.Names.{◌≡◌, ℕ, List, [], ◌∷◌, sym, refl, ap, ◌∙◌, inst_fn, Fn, a_type, dcons, dnil, named, Val, vptr, Lft, Fml, ftrue, fsep}
use Rattle.shared_parts.proofs.Names.{flft, fhide, SProp, emp, fact, fact_i, tables, ‵, raw, ◌⊛◌, at_ret, ◌$◌, ◌∵◌, !, qed, by, move, keep, split, join}
use Rattle.shared_parts.proofs.Names.{fsplit, fjoin, use0, use1, rewrite, feq_i, sub, whole, look_in, stop, fld, hop, addr, of_opd, first, blocks, exec}
use Rattle.shared_parts.proofs.Names.{returns, enter, alloc_all, pass_all, free_all, look_at, get, through, sets, sets_last, env, RefOf, RawPtr, yes, Is}
use Rattle.shared_parts.proofs.Names.{shows, cell_at, hidden_shr, unhide, hide, param, bounded, param_laws, RattleType, owns, Ptr, InBlock, block_ptr}
use Rattle.shared_parts.proofs.Names.{block_of, count_of, at_block, shr_vals, shr_Tells, types_at, plain, nothing, peeks, heard, looks, shuts, lent_at}
use Rattle.shared_parts.proofs.Names.{lent_at_shr_laws, lent_out, in_block_says, Stays, stay_dropped, walk_of, Goes-dropped, tail, proved, leaves}
use Rattle.core.specs.contracts.marker.PhantomData as Phantom
use Rattle.shared_parts.specs.Ownership.{part_shares}
use Rattle.shared_parts.specs.contracts.Part as Part
use Rattle.shared_parts.specs.contracts.Part.get.{ended, clauses}
use Rattle.shared_parts.specs.contracts.Part.get.Key.{name as key}
use Rattle.shared_parts.proofs.Fields.{Data, part_val, told, opened}
use Rattle.shared_parts.proofs.Steps.{sees}
use Rattle.shared_parts.proofs.Part.get.Statement.{statement}
use Rattle.shared_parts.proofs.Part.get.Code as code

pub get_spec : {M : Type 1} → statement M
get_spec 𝓤 𝓛 𝓜 𝓡 wired X Z L K g d dd met md =
    let 𝓣 = tables 𝓤 𝓛.H 𝓜 𝓡 𝓡.env in let inst = bounded (a_type ∷ a_type ∷ []) (X, (Z, tt)) (dcons d (dcons dd dnil)) in
    let fn : Fn = inst_fn inst code.function in let R : RattleType = param 0 X in let P : RattleType = param 1 Z in let Row : RattleType = Part.the_row R P g in
    let D : RattleType = Data R P g in let En = ended X Z g d dd in let c = clauses X Z g d dd 𝓛 𝓜.mem 𝓡.returns in
    let self = RefOf (0 ∷ []) tt (plain (λ _. Row)) (λ _. tt) in let hs : Stays En.signature.params En.kept = (stay_dropped self yes, tt) in
    proved 𝓛 En hs c 𝓜 𝓡 (Goes-dropped 𝓛 3 self yes (λ κs x f. refl), tt) (key inst) fn (code.unfolded 𝓤 𝓛.H 𝓜 𝓡 wired (X, (Z, tt)) d dd)
    (λ κs. (shr_vals, tt)) (λ κs. (shr_Tells (named 0) κs.0 Row, tt)) (λ κs qs bounds a gh are.
    let b : ℕ = a.0.ref_ptr.0 in let o : ℕ = a.0.ref_ptr.1 in let s : Row.Denot = a.0.now in let p : Ptr = s.at in
    let κ : Lft = κs.0 in let others : Fml = fsep (flft κs.1.0 qs.1.0) (fsep (flft κs.1.1.0 qs.1.1.0) ftrue) in
    let shown : Lft → Fml = lent_at R p s.value in let there : Val = vptr (block_of p) (count_of p) in
    let y : (walk_of 𝓛 En hs c).Ghost = ((κs, qs, bounds, a, (vptr b o ∷ [], tt)), gh) in let Post : Val → SProp 𝓤 = (walk_of 𝓛 En hs c).post y in
    qed 𝓛 (((‵ (flft κ qs.0) ⊛ ‵ others) ⊛ ‵ (owns (types_at En.signature.params κs) a y.0.4)) ∷ raw ((c κs a).requires gh) ∷ []) ∵
    split ! $ split ! $ move ! (2 ∷ []) $ fsplit ! $ fsplit ! $ keep ! (1 ∷ 3 ∷ 4 ∷ []) $
    enter ! 𝓣.C 𝓣.Λ fn (vptr b o ∷ []) Post $ alloc_all ! (λ l. pass_all ! refl ((tt, tt), tt) $ let E = env fn.locals l in
    use1 𝓛 (‵ (hidden_shr D κ (p, (tt, tt)) b o) ⊛ ‵ (fhide (part_shares R p s.value s.life κ)))
    (lent_out 𝓛 (Part.struct R P g) (Part.the_codes X.Denot Z.Denot R.coded P.coded (Phantom.the_row RawPtr).coded)
    (Part.the_heap R P g) (Part.the_lent R P g) κ s b o) $
    split ! $ move ! (1 ∷ []) $ unhide ! $
    use1 𝓛 (‵ (shown κ)) (sees 𝓛 s.life shown (lent_at_shr_laws R (param_laws 0 X L).shr_laws p s.value) κ) $ fsplit ! $
    use1 𝓛 (raw (fact 𝓤 (InBlock p))) (in_block_says 𝓛 p) $ heard ! (InBlock p) (λ inside. hide ! $ move ! (1 ∷ 2 ∷ []) $
    looks ! tt D (opened R P g 𝓛) (p, (tt, tt)) b o (λ q us. move ! (1 ∷ []) $ peeks ! D (Is D) (shows 𝓛 D) (p, (tt, tt)) us (λ is.
    let Cell = λ (ws : List Val). ‵ (cell_at q D.mir ws b o) in
    let word : us ≡ part_val (block_ptr (block_of p) (count_of p)) ∷ [] = told R P g p us is ∙ ap (λ (r : Ptr). part_val r ∷ []) (at_block p inside) in
    -- [the fields; their cell; the way back; the value, shown; the other tokens]
    rewrite ! 1 Cell word refl $ first ! $ blocks ! $
    sets_last ! (addr ! (through ! refl (fld ! refl (hop ! (look_in ! 1 (sub ! 0 refl (whole !))) (stop !))))) refl (tt, tt) $
    exec ! 𝓣.C 𝓣.Λ E (tail fn.body) (at_ret E Post) $ sets ! (of_opd ! (get ! refl)) refl (tt, tt) $
    rewrite ! 1 Cell (sym word) refl $ move ! (1 ∷ 0 ∷ 2 ∷ []) $ shuts ! tt D q (p, (tt, tt)) us b o $ move ! (0 ∷ 3 ∷ []) $ join ! $
    move ! (2 ∷ []) $ feq_i ! (List Val) (there ∷ []) (there ∷ []) refl $ fjoin ! $
    use0 𝓛 (raw (fact 𝓤 (s.value ≡ s.value))) (fact_i 𝓤 (s.value ≡ s.value) (emp 𝓤) refl) $ nothing ! $ nothing ! $ fjoin ! $
    -- [self; the `ensures`; the result; the tokens]
    returns ! (look_at ! 0 refl) $ free_all ! refl $ keep ! (3 ∷ 0 ∷ 2 ∷ 1 ∷ []) $
    by ! (leaves 𝓛 En hs c y there (record { ref_ptr = (block_of p, count_of p); now = s.value }) (tt, tt) (tt, tt)))))))
