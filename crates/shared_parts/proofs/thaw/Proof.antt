-- `thaw` ends the block's lifetime by all its parts, takes back what was kept, and makes the box again.
use Rattle.shared_parts.proofs.Names.{◌≡◌, ℕ, ◌^◌, List, [], ◌∷◌, ◌++◌, T, sym, refl, ap, ◌∙◌, subst, inst_fn, bare, Fn, a_type, dcons, dnil, Val, vptr}
use Rattle.shared_parts.proofs.Names.{has_ty, WT, Fml, ftrue, fsep, flft, full_share, SProp, ent, emp, id⊢, ◌⊑◌, fact, fact_i, tables, WpFn, Item, ‵, raw}
use Rattle.shared_parts.proofs.Names.{◌⊛◌, some, given, later, at_ret, ◌$◌, ◌∵◌, !, qed, by, move, keep, drop, split, split3, join, fsplit, fsplit3, fjoin}
use Rattle.shared_parts.proofs.Names.{fjoin3, pick, learn, use0, use1, use2, await, rewrite, feq_i, suffices, stop, fld, of_opd, no_more, and_then, first}
use Rattle.shared_parts.proofs.Names.{blocks, exec, returns, enter, alloc_all, pass_all, free_all, look_at, get, get_in, sets, lands_last, is, env, sub}
use Rattle.shared_parts.proofs.Names.{whole, no, bounded, RattleType, Ptr, InBlock, block_ptr, ptr_val, block_of, count_of, at_block, lies_at, plain}
use Rattle.shared_parts.proofs.Names.{nothing, only, heard, calls_at_last, Lasts, lasts, triple_of, Stays, stay_dropped, walk_of, Goes-dropped, tail, fm}
use Rattle.shared_parts.proofs.Names.{proved_at, leaves}
use denote.Memory.{lone}
use Rattle.core.proofs.alloc.Calls.{handle_tells}
use Rattle.std_alloc.proofs.BoxSteps.Form as box
use Rattle.std_alloc.proofs.BoxSteps.Steps.{box_out, box_in}
use Rattle.std_alloc.specs.contracts.boxed.Box.from_raw as from_raw
use Rattle.std_alloc.proofs.boxed.Box.from_raw.Met as from_raw-thm
use Rattle.shared_parts.specs.Ownership.{parts, part_owns}
use Rattle.shared_parts.specs.contracts.Part as Part
use Rattle.shared_parts.specs.contracts.thaw.{ended, clauses}
use Rattle.shared_parts.specs.contracts.thaw.Key.{name as key}
use Rattle.shared_parts.proofs.Fields.{part_val, part_typed, told}
use Rattle.shared_parts.proofs.Steps.{thaws, lies}
use Rattle.shared_parts.proofs.thaw.Statement.{statement}
use Rattle.shared_parts.proofs.thaw.Code as code

pub thaw_spec : {M : Type 1} → statement M
thaw_spec 𝓤 𝓛 𝓜 𝓡 wired X Z L K g d dd met md =
    let 𝓣 = tables 𝓤 𝓛.H 𝓜 𝓡 𝓡.env in let inst = bounded (a_type ∷ a_type ∷ []) (X, (Z, tt)) (dcons d (dcons dd dnil)) in
    let fn : Fn = inst_fn inst code.function in let E : box.Bx = record { row = X; laws = L; al = record { row = Z; laws = K; g = g; d = d; drops = dd } } in
    let R : RattleType = box.R E in let P : RattleType = box.P E in let B : RattleType = box.B E in let Row : RattleType = Part.the_row R P g in
    let En = ended X Z g d dd in let c = clauses X Z g d dd 𝓛 𝓜.mem 𝓡.returns in
    let Raw = triple_of 𝓛 (from_raw.signature X Z g d dd) (from_raw.spec X Z g d dd 𝓛 𝓜.mem 𝓡.returns) in let Rn = from_raw.ended X Z g d dd in
    let known = from_raw-thm.met 𝓤 𝓛 𝓜 𝓡 (code.calls-std_alloc::boxed::Box::from_raw 𝓡.env wired) X Z L K g d dd met md in
    let hs : Stays En.signature.params En.kept = (stay_dropped (plain (λ _. P)) no, (stay_dropped (plain (λ _. Row)) no, tt)) in
    proved_at 𝓛 En hs c 𝓜 𝓡 (Goes-dropped 𝓛 2 (plain (λ _. P)) no (λ κs x f. refl), (Goes-dropped 𝓛 2 (plain (λ _. Row)) no (λ κs x f. refl), tt)) (key inst) fn
    (code.unfolded 𝓤 𝓛.H 𝓜 𝓡 wired (X, (Z, tt)) d dd) (λ z are.
    let κs = z.0.0 in let qs = z.0.1 in let tokens : Item 𝓤 = ‵ (flft κs.0 qs.0) ⊛ ‵ (flft κs.1.0 qs.1.0) ⊛ ‵ ftrue in
    let inX = κs.0 ⊑ X.lives in let inZ = κs.1.0 ⊑ Z.lives in
    let a : Z.Denot = z.0.3.0 in let s : Row.Denot = z.0.3.1.0 in let p : Ptr = s.at in let x : X.Denot = s.value in
    let b : ℕ = block_of p in let o : ℕ = count_of p in
    let frees = λ (h : Z.Denot). g.dealloc_token h (bare (lone R.mir)) p in let value : Fml = lies_at R full_share p x in
    let owned : Fml = part_owns (g.dealloc_token s.heap) R p x s.block s.life s.count in
    let Post : Val → SProp 𝓤 = (walk_of 𝓛 En hs c).post z in let Run : List Val → SProp 𝓤 = λ ws. WpFn 𝓤 𝓛.H 𝓣.C 𝓣.Λ fn ws Post in
    qed 𝓛 ((tokens ⊛ ‵ (fsep (P.own_val a z.0.4.0) (fsep (Row.own_val s z.0.4.1.0) ftrue))) ∷ raw (fact 𝓤 inX) ∷ raw (fact 𝓤 inZ)
    ∷ raw (fact 𝓤 (a ≡ s.heap)) ∷ raw (fact 𝓤 (s.count ≡ 2 ^ 32)) ∷ []) ∵
    move ! (1 ∷ 2 ∷ 3 ∷ 4 ∷ []) $ heard ! inX (λ leX. heard ! inZ (λ leZ. heard ! (a ≡ s.heap) (λ heap. heard ! (s.count ≡ 2 ^ 32) (λ all.
    split ! $ move ! (1 ∷ []) $ fsplit3 ! $ handle_tells E.al ! a z.0.4.0 (λ hv eh fa. move ! (1 ∷ []) $ fsplit ! $ drop ! $
    use1 𝓛 (given (InBlock p) (‵ owned)) (lies 𝓛 (g.dealloc_token s.heap) R p x s.block s.life s.count) $ learn ! (λ inside. fsplit3 ! $
    -- [the parts; the value, shown; what all parts know; the handle; nothing; the tokens]
    rewrite ! 0 (λ (k : ℕ). ‵ (parts s.block s.life k)) all refl $ move ! (0 ∷ 2 ∷ []) $
    use2 𝓛 (later (‵ value ⊛ ‵ (frees s.heap))) (thaws 𝓛 value (frees s.heap) s.block s.life) $ keep ! (0 ∷ 2 ∷ 4 ∷ []) $
    let at : p ≡ block_ptr b o = at_block p inside in let us : List Val = hv ∷ part_val (block_ptr b o) ∷ [] in
    let word : z.0.4.1.0 ≡ part_val (block_ptr b o) ∷ [] = told R P g p z.0.4.1.0 are.1.0.0 ∙ ap (λ (r : Ptr). part_val r ∷ []) at in
    suffices ! (Run us) (subst (λ (ws : List Val). ent 𝓤 (Run us) (Run ws)) (sym (λ i. eh i ++ (word i ++ []))) (id⊢ 𝓤 (Run us))) $
    enter ! 𝓣.C 𝓣.Λ fn us Post $ alloc_all ! (λ l. pass_all ! refl (fa, (part_typed (block_ptr b o) tt, tt)) $ let Ev = env fn.locals l in
    await ! tt $ split ! $ rewrite ! 1 (λ (h : Z.Denot). ‵ (frees h)) (sym heap) refl $ fjoin ! $
    sets ! (of_opd ! (get_in ! (fld ! refl (stop !)) (sub ! 0 refl (whole !)))) refl (tt, tt) $
    first ! $ blocks ! $ sets ! (of_opd ! (get ! refl)) refl fa $
    -- [what the box owns; the handle; the tokens]
    use0 𝓛 (raw (fact 𝓤 inZ)) (fact_i 𝓤 inZ (emp 𝓤) leZ) $ join ! $ use0 𝓛 (raw (fact 𝓤 inX)) (fact_i 𝓤 inX (emp 𝓤) leX) $ join ! $
    nothing ! $ feq_i ! (List Val) (vptr b o ∷ []) (ptr_val p ∷ []) (ap (λ (r : Ptr). ptr_val r ∷ []) (sym at)) $
    move ! (3 ∷ 0 ∷ 1 ∷ []) $ fjoin3 ! $ move ! (2 ∷ 0 ∷ []) $ join ! $ join ! $
    let y : Raw.Ghost = ((κs, qs, tt, (a, (p, tt)), (hv ∷ [], (vptr b o ∷ [], tt))), x) in use1 𝓛 (raw (Raw.pre y)) (id⊢ 𝓤 _) $
    calls_at_last ! (fm 𝓛 𝓜 𝓡) Raw known y (and_then ! (get ! refl) (and_then ! (get ! refl) (no_more !))) (λ u.
    use1 𝓛 (later (some (λ (r : B.Denot). (tokens ⊛ ‵ (B.own_val r (u ∷ []))) ⊛ some (λ (ws : Lasts Rn κs (a, (p, tt))).
    ‵ (lasts Rn κs (a, (p, tt)) ws) ⊛ (raw (fact 𝓤 (r.value ≡ x)) ⊛ raw (fact 𝓤 (r.alloc ≡ a))))))) (id⊢ 𝓤 _) $
    await ! tt $ pick ! (λ r. split ! $ move ! (1 ∷ []) $ pick ! (λ _. split3 ! $ drop ! $
    heard ! (r.value ≡ x) (λ same. heard ! (r.alloc ≡ a) (λ handle. split ! $ move ! (1 ∷ []) $
    box_out E ! r (u ∷ []) (λ b' o' hw e' eu fw. box_in E ! r b' o' r.value e' refl $
    let w : Val = box.word E hw b' o' in let typed = box.box_typed E hw b' o' fw in let is_word : u ≡ w = ap only eu in
    lands_last ! refl (subst (λ (v : Val). T (has_ty (box.box_ty E) v) × WT v) (sym is_word) typed) $
    exec ! 𝓣.C 𝓣.Λ Ev (tail (tail fn.body)) (at_ret Ev Post) $ sets ! (is ! (of_opd ! (get ! refl)) is_word) refl typed $
    let Told : Type 0 = (r.value ≡ x) × (r.alloc ≡ s.heap) in use0 𝓛 (raw (fact 𝓤 Told)) (fact_i 𝓤 Told (emp 𝓤) (same, handle ∙ heap)) $
    nothing ! $ nothing ! $ fjoin ! $ nothing ! $ fjoin ! $
    -- [the parameters; the `ensures`; the box; the tokens]
    returns ! (look_at ! 0 refl) $ free_all ! refl $ keep ! (3 ∷ 0 ∷ 2 ∷ 1 ∷ []) $
    by ! (leaves 𝓛 En hs c z w r (tt, (tt, tt)) (tt, (tt, tt)))))))))))))))))
