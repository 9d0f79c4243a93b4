-- `freeze` takes the box apart, and lends its value for a new lifetime.
use Rattle.shared_parts.proofs.Names.{◌≡◌, ℕ, ◌^◌, List, [], ◌∷◌, ◌++◌, sym, refl, ap, ◌∙◌, subst, inst_fn, bare, Fn, a_type, dcons, dnil, Val, vstruct}
use Rattle.shared_parts.proofs.Names.{vcons, vnil, of_list, has_ty, Lft, Fml, ftrue, fsep, feq, flft, full_share, SProp, ent, emp, id⊢, fst∗, never, ◌⊑◌}
use Rattle.shared_parts.proofs.Names.{fact, fact_i, tables, WpFn, Item, ‵, raw, ◌⊛◌, some, later, ◌$◌, ◌∵◌, !, qed, by, move, keep, drop, split, split3}
use Rattle.shared_parts.proofs.Names.{join, fsplit, fjoin, fpick, fpack, pick, sem, use0, use1, use3, await, rewrite, feq_i, feq_l, suffices, stop, fld}
use Rattle.shared_parts.proofs.Names.{of_opd, no_more, and_then, returns, enter, alloc_all, pass_all, free_all, look_at, get, get_in, sets, lands_as, sub}
use Rattle.shared_parts.proofs.Names.{whole, agg, RawPtr, no, bounded, layout, param_laws, RattleType, Valss, owns, Ptr, block_ptr, null_ptr, ptr_val}
use Rattle.shared_parts.proofs.Names.{lies_at, in_a_block, lent_at, Lends-lies, Tuple, plain, nothing, only, heard, calls_at, Lasts, lasts, triple_of}
use Rattle.shared_parts.proofs.Names.{Stays, stay_dropped, walk_of, fm, proved_at, leaves}
use base.Fml.{GName, fex}
use denote.Memory.{lone}
use Rattle.core.proofs.alloc.Calls.{α, token, handle_tells, Goes-blank}
use Rattle.std_alloc.proofs.BoxSteps.Form as box
use Rattle.std_alloc.proofs.BoxSteps.Steps.{box_out, box_in}
use Rattle.std_alloc.proofs.ResultValues.{and_tt}
use Rattle.std_alloc.specs.Box.Ownership.{box_owns}
use Rattle.std_alloc.specs.contracts.boxed.Box.into_raw_with_allocator as into_raw
use Rattle.std_alloc.proofs.boxed.Box.into_raw_with_allocator.Met as into_raw-thm
use Rattle.shared_parts.specs.contracts.Part as Part
use Rattle.shared_parts.specs.contracts.freeze.{ended, clauses}
use Rattle.shared_parts.specs.contracts.freeze.Key.{name as key}
use Rattle.shared_parts.proofs.Fields.{Data, part_val, part_typed, made}
use Rattle.shared_parts.proofs.Steps.{all_of, freezes}
use Rattle.shared_parts.proofs.freeze.Statement.{statement}
use Rattle.shared_parts.proofs.freeze.Code as code

pub freeze_spec : {M : Type 1} → statement M
freeze_spec 𝓤 𝓛 𝓜 𝓡 wired X Z L K g d dx dd met glue md =
    let 𝓣 = tables 𝓤 𝓛.H 𝓜 𝓡 𝓡.env in let inst = bounded (a_type ∷ a_type ∷ []) (X, (Z, tt)) (dcons d (dcons dx (dcons dd dnil))) in
    let fn : Fn = inst_fn inst code.function in let E : box.Bx = record { row = X; laws = L; al = record { row = Z; laws = K; g = g; d = d; drops = dd } } in
    let R : RattleType = box.R E in let P : RattleType = box.P E in let B : RattleType = box.B E in let Row : RattleType = Part.the_row R P g in
    let En = ended X Z g d dx dd in let c = clauses X Z g d dx dd 𝓛 𝓜.mem 𝓡.returns in let In = into_raw.ended X Z g d dd dx in
    let Raw = triple_of 𝓛 (into_raw.signature X Z g d dd dx) (into_raw.spec X Z g d dd dx 𝓛 𝓜.mem 𝓡.returns) in
    let known = into_raw-thm.met 𝓤 𝓛 𝓜 𝓡 (code.calls-std_alloc::boxed::Box::into_raw_with_allocator 𝓡.env wired) X Z L K g d dd dx met md glue in
    let hs : Stays En.signature.params En.kept = (stay_dropped (plain (λ _. B)) no, tt) in
    proved_at 𝓛 En hs c 𝓜 𝓡 (Goes-blank 𝓛 2 (plain (λ _. B)) no (λ κs x f. tt), tt) (key inst) fn (code.unfolded 𝓤 𝓛.H 𝓜 𝓡 wired (X, (Z, tt)) d dx dd) (λ z are.
    let κs = z.0.0 in let qs = z.0.1 in let t₁ : Item 𝓤 = ‵ (flft κs.0 qs.0) in let tokens : Item 𝓤 = t₁ ⊛ ‵ (flft κs.1.0 qs.1.0) ⊛ ‵ ftrue in
    let inX = κs.0 ⊑ X.lives in let inZ = κs.1.0 ⊑ Z.lives in let v : B.Denot = z.0.3.0 in let a : Z.Denot = v.alloc in let x : X.Denot = v.value in
    let Post : Val → SProp 𝓤 = (walk_of 𝓛 En hs c).post z in let Run : List Val → SProp 𝓤 = λ ws. WpFn 𝓤 𝓛.H 𝓣.C 𝓣.Λ fn ws Post in
    qed 𝓛 ((tokens ⊛ ‵ (fsep (B.own_val v z.0.4.0) ftrue)) ∷ raw (fact 𝓤 inX) ∷ raw (fact 𝓤 inZ) ∷ ‵ ftrue ∷ []) ∵
    move ! (1 ∷ 2 ∷ []) $ heard ! inX (λ leX. heard ! inZ (λ leZ. split ! $ move ! (1 ∷ []) $ fsplit ! $
    box_out E ! v z.0.4.0 (λ b o hv e ws fa. box_in E ! v b o x e refl $ keep ! (0 ∷ 2 ∷ []) $
    let w : Val = box.word E hv b o in let typed = box.box_typed E hv b o fa in
    suffices ! (Run (w ∷ [])) (subst (λ (us : List Val). ent 𝓤 (Run (w ∷ [])) (Run us)) (sym (λ i. ws i ++ [])) (id⊢ 𝓤 (Run (w ∷ [])))) $
    enter ! 𝓣.C 𝓣.Λ fn (w ∷ []) Post $ alloc_all ! (λ l. pass_all ! refl (typed, tt) $ sets ! (of_opd ! (get ! refl)) refl typed $
    -- [the box; the tokens]
    nothing ! $ move ! (1 ∷ 0 ∷ []) $ fjoin ! $ move ! (1 ∷ 0 ∷ []) $ join ! $
    nothing ! $ use0 𝓛 (raw (fact 𝓤 inZ)) (fact_i 𝓤 inZ (emp 𝓤) leZ) $ join ! $ use0 𝓛 (raw (fact 𝓤 inX)) (fact_i 𝓤 inX (emp 𝓤) leX) $ join ! $
    move ! (1 ∷ 0 ∷ []) $ join ! $ let y : Raw.Ghost = ((κs, qs, tt, (v, tt), (w ∷ [], tt)), tt) in use1 𝓛 (raw (Raw.pre y)) (id⊢ 𝓤 _) $
    calls_at ! (fm 𝓛 𝓜 𝓡) Raw known y (and_then ! (get ! refl) (no_more !)) (λ u.
    use1 𝓛 (later (some (λ (r : Ptr × Z.Denot). (tokens ⊛ ‵ ((Tuple (RawPtr ∷ P ∷ [])).own_val r (u ∷ []))) ⊛ some (λ (us : Lasts In κs (v, tt)).
    ‵ (lasts In κs (v, tt) us) ⊛ (raw (fact 𝓤 (r.1 ≡ a)) ⊛ ‵ (box_owns (token E.al a) R r.0 x)))))) (id⊢ 𝓤 _) $
    await ! tt $ pick ! (λ r. split ! $ move ! (1 ∷ []) $ pick ! (λ _. split3 ! $ drop ! $ heard ! (r.1 ≡ a) (λ ea.
    in_a_block ! r.0 (λ q. box_owns (token E.al a) R q x) (fst∗ 𝓤 (never 𝓤) (sem 𝓛 (token E.al a (bare (layout X)) null_ptr))) (λ b' o' e'.
    let p : Ptr = block_ptr b' o' in let value : Fml = lies_at R full_share p x in
    let frees : Fml = g.dealloc_token a (bare (lone R.mir)) p in let shown : Lft → Fml = lent_at R p x in
    fsplit ! $ move ! (2 ∷ []) $ split ! $ split ! $ move ! (3 ∷ 4 ∷ 0 ∷ []) $
    use3 𝓛 (later (‵ (fex (GName × ℕ) (all_of 𝓛 value frees shown)) ⊛ t₁))
    (freezes 𝓛 value frees shown R.lives κs.0 qs.0 (Lends-lies 𝓛 R R.lives p x ((param_laws 0 X L).shares 𝓛 x)) leX) $
    await ! tt $ split ! $ fpick ! (λ n. move ! (1 ∷ 2 ∷ []) $ join ! $ move ! (2 ∷ []) $
    fpick ! (λ vss. fsplit ! $ feq_l ! (λ eu. fsplit ! $ feq_l ! (λ ep. fsplit ! $
    rewrite ! 0 (λ (h : Z.Denot). ‵ (Z.own_val h vss.1.0)) ea refl $ handle_tells E.al ! a vss.1.0 (λ hw eh fw.
    -- [the handle; nothing; the tokens; what all the parts own]
    let pair : u ≡ box.word E hw b' o' = ap only (eu ∙ (λ j. vstruct (of_list ((ep ∙ ap (λ (q : Ptr). ptr_val q ∷ []) e') j ++ (eh j ++ []))) ∷ [])) in
    lands_as ! pair refl (box.box_typed E hw b' o' fw) $
    sets ! (of_opd ! (get_in ! (fld ! refl (stop !)) (sub ! 0 refl (whole !)))) refl (tt, tt) $
    sets ! (of_opd ! (get_in ! (fld ! refl (stop !)) (sub ! 1 refl (whole !)))) refl fw $
    sets ! (agg ! (no_more !)) refl (tt, tt) $
    sets ! (agg ! (and_then ! (get ! refl) (and_then ! (get ! refl) (no_more !)))) refl (part_typed p tt) $ sets ! (of_opd ! (get ! refl)) refl fw $
    sets ! (agg ! (and_then ! (get ! refl) (and_then ! (get ! refl) (no_more !)))) refl (and_tt (has_ty (α E.al) hw) fw.0, (fw.1, ((part_typed p tt).1, tt))) $
    let all : Row.Denot = record { at = p; freed_by = record {}; heap = a; value = x; block = n.0; life = n.1; count = 2 ^ 32 } in
    let out : Val = vstruct (vcons hw (vcons (part_val p) vnil)) in
    move ! (3 ∷ []) $ use0 𝓛 (‵ ((Data R P g).own_val (p, (tt, tt)) (part_val p ∷ []))) (made R P g 𝓛 p) $ fjoin ! $
    nothing ! $ move ! (1 ∷ 0 ∷ []) $ fjoin ! $ move ! (1 ∷ 0 ∷ []) $ fjoin ! $ feq_i ! (List Val) (out ∷ []) (out ∷ []) refl $ fjoin ! $
    fpack ! (Valss (P ∷ Row ∷ []))
    (λ uss. fsep (feq (List Val) (out ∷ []) (vstruct (of_list (uss.0 ++ (uss.1.0 ++ []))) ∷ [])) (owns (P ∷ Row ∷ []) (a, (all, tt)) uss))
    (hw ∷ [], (part_val p ∷ [], tt)) $
    let Heap : Type 0 = (a ≡ a) × (a ≡ a) in
    use0 𝓛 (raw (fact 𝓤 (2 ^ 32 ≡ 2 ^ 32))) (fact_i 𝓤 (2 ^ 32 ≡ 2 ^ 32) (emp 𝓤) refl) $ use0 𝓛 (raw (fact 𝓤 (x ≡ x))) (fact_i 𝓤 (x ≡ x) (emp 𝓤) refl) $ join ! $
    use0 𝓛 (raw (fact 𝓤 Heap)) (fact_i 𝓤 Heap (emp 𝓤) (refl, refl)) $ join ! $ nothing ! $ nothing ! $ fjoin ! $
    -- [the parameter; the `ensures`; the result; nothing; the tokens]
    returns ! (look_at ! 0 refl) $ free_all ! refl $ keep ! (4 ∷ 0 ∷ 2 ∷ 1 ∷ []) $
    by ! (leaves 𝓛 En hs c z out (a, all) ((tt, (tt, tt)), tt) (tt, tt)))))))))))))))))
