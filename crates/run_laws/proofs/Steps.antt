-- What a sorted node is to emit goes on from its previous id: each one keeps step or is marked late or flush.
use Rattle.std.proofs.Common.{◌≡◌, ◌≢◌, ℕ, ◌+◌, ◌≤◌, Bool, true, false, not, ◌&&◌, cond, eqb, ltb, List, [], ◌∷◌, ◌++◌, map, drop, length, refl, sym, ap}
use Rattle.std.proofs.Common.{◌∙◌, subst, arith, inl, inr, ℤ}
use Rattle.std.specs.Prelude.{flat_map, ◌==◌, if◌then◌else◌}
use Rattle.std.specs.List.{list_all}
use Rattle.std.proofs.lemmas.Bool.{and_parts, and_from, false≢true, eq-eqb, eqb-true, eqb-false, ne_eqb, cases_Bool}
use Rattle.std.proofs.lemmas.List.{append-nil}
use Rattle.nd_base.specs.declared.frame.FrameName.{FrameName}
use Rattle.flow_journal.proofs.Looks.{sorted_no_file}
use Rattle.flow_journal.specs.declared.entry.Entry.{Entry}
use Rattle.flow_journal.specs.declared.entry.Entry.TheVariants.{Load, LoadRefused, Tick, Issue, Emit, Accept, Full, Take, TakeBlock, PoolDrop, Put}
use Rattle.flow_journal.specs.declared.entry.Entry.TheVariants.{SortDrop, Settle, Save, Saved, Close, Leave, Reclaim}
use Rattle.flow_journal.specs.declared.entry.Why.{Why}
use Rattle.flow_journal.specs.declared.entry.Why.TheVariants.{Plain, Step, Late, Flush, Ring, Now}
use Rattle.flow_journal.specs.Queued.{has_room}
use Rattle.flow_journal.specs.Setting.{Setting, node, id_at, is_sorted, node_numbers}
use Rattle.flow_journal.specs.Turns.{offered_to}
use Rattle.flow_journal.specs.Pasts.{Past, frame}
use Rattle.flow_journal.specs.Ended.{now}
use Rattle.flow_journal.specs.Waiting.{Waiting, waiting, least_first}
use Rattle.queue_sort.specs.Sorting.{keeps_step}
use Rattle.flow_journal.specs.Breaks.{prev}
use Rattle.flow_journal.specs.Following.{offer, emit, goes_out, look, sorted_result, calls_for, owed}
use Rattle.flow_journal.specs.Histories.{answers, is_legal, why_number}
use Rattle.flow_journal.proofs.Changes.{clock_laws}
use Rattle.flow_journal.proofs.EntryCounts.{count, bit, count-cons, owed-first, owed-answered, answers-by_Accept, answers-by_SortDrop}
use Rattle.flow_journal.proofs.Outs.{is_out_at, AllOutAt, all-append, result-at, flush-at, goes_out-at}
use Rattle.flow_journal.proofs.Offers.{is_number, once_numbered}
use Rattle.flow_journal.proofs.Emissions.{result-sorted}
use Rattle.run_laws.proofs.Ticks.{tick-alone}

-- a mark fits an emission that keeps step, or doesn't
abbrev pub fits : Why → Bool → Bool
fits Step steps = steps
fits Late steps = true
fits Flush steps = true
fits _ steps = false

-- the emissions of v go on from this id
abbrev pub chain : Setting → ℕ → ℤ → List Entry → Bool
chain s v before [] = true
chain s v before (Emit w m k why ∷ ds) = if w == v then fits why (keeps_step before (id_at s k)) && chain s v (id_at s k) ds else chain s v before ds
chain s v before (d ∷ ds) = chain s v before ds

-- no emission of v
abbrev quiet : ℕ → Entry → Bool
quiet v (Emit w m k why) = not (eqb w v)
quiet v _ = true

chain-quiet : (s : Setting) (v : ℕ) (before : ℤ) (xs ys : List Entry) → list_all (quiet v) xs ≡ true → chain s v before ys ≡ true
    → chain s v before (xs ++ ys) ≡ true
chain-quiet s v before [] ys h c = c
chain-quiet s v before (Emit w m k why ∷ xs) ys h c =
    let p = and_parts (not (eqb w v)) (list_all (quiet v) xs) h in
    elim (cases_Bool (eqb w v)) [
      | inl here ↦ absurd (false≢true (sym (ap not here) ∙ p.0))
      | inr away ↦ rw away (chain-quiet s v before xs ys p.1 c)
    ]
chain-quiet s v before (_ ∷ xs) ys h c = chain-quiet s v before xs ys h c

chain-end : (s : Setting) (v : ℕ) (before : ℤ) (xs ys : List Entry) → chain s v before xs ≡ true → list_all (quiet v) ys ≡ true
    → chain s v before (xs ++ ys) ≡ true
chain-end s v before [] ys c h = subst (λ (zs : List Entry). chain s v before zs ≡ true) (append-nil ys) (chain-quiet s v before ys [] h refl)
chain-end s v before (Emit w m k why ∷ xs) ys c h =
    elim (cases_Bool (eqb w v)) [
      | inl here ↦
          let both : (fits why (keeps_step before (id_at s k)) && chain s v (id_at s k) xs) ≡ true = rw here at c in
          let p = and_parts (fits why (keeps_step before (id_at s k))) (chain s v (id_at s k) xs) both in
          rw here (and_from _ _ p.0 (chain-end s v (id_at s k) xs ys p.1 h))
      | inr away ↦ rw away (chain-end s v before xs ys (rw away at c) h)
    ]
chain-end s v before (_ ∷ xs) ys c h = chain-end s v before xs ys c h

quiet-elsewhere : (v w : ℕ) (ds : List Entry) → w ≢ v → AllOutAt w ds → list_all (quiet v) ds ≡ true
quiet-elsewhere v w [] ne h = refl
quiet-elsewhere v w (d ∷ ds) ne h =
    let p = and_parts (is_out_at w d) (list_all (is_out_at w) ds) h in
    and_from _ _ (one d p.0) (quiet-elsewhere v w ds ne p.1)
  where
    one : (d : Entry) → is_out_at w d ≡ true → quiet v d ≡ true
    one (Emit u m k why) q = ap not (ne_eqb u v (λ e. ne (sym (eqb-true u w q) ∙ e)))
    one _ q = refl

quiet-offers : (v : ℕ) (a : FrameName) (cs : List ℕ) → list_all (quiet v) (map (offer a) cs) ≡ true
quiet-offers v a [] = refl
quiet-offers v a (c ∷ cs) = quiet-offers v a cs

chain-goes_out : (s : Setting) (v : ℕ) (before : ℤ) (now : ℕ) (ws : List Waiting) → chain s v before (goes_out s v before now ws) ≡ true
chain-goes_out s v before now [] = refl
chain-goes_out s v before now (w ∷ ws) =
    let more = chain-goes_out s v (id_at s w.array.index) now ws in
    elim (cases_Bool (keeps_step before (id_at s w.array.index))) [
      | inl step ↦ rw step (rw (eq-eqb v v refl, step) more)
      | inr out ↦ elim (cases_Bool (ltb (w.tick + (node s v).sort_time) now)) [
        | inl late ↦ rw (out, late) (rw (eq-eqb v v refl) more)
        | inr early ↦ rw (out, early) refl
      ]
    ]

chain-flush : (s : Setting) (v : ℕ) (before : ℤ) (ws : List Waiting) → chain s v before (map (λ (u : Waiting). emit v Flush u.array) ws) ≡ true
chain-flush s v before [] = refl
chain-flush s v before (w ∷ ws) = rw (eq-eqb v v refl) (chain-flush s v (id_at s w.array.index) ws)

chain-sorted_result : (s : Setting) (v : ℕ) (a : FrameName) (before : List Waiting) (P : Past) → chain s v (prev s v P) (sorted_result s v a before P) ≡ true
chain-sorted_result s v a before P =
    elim (cases_Bool (keeps_step (prev s v P) (id_at s a.index))) [
      | inl step ↦ rw step (rw (eq-eqb v v refl, step) (chain-goes_out s v (id_at s a.index) (now P) (least_first s before)))
      | inr out ↦ elim (cases_Bool (eqb (length before) (node s v).sort)) [
        | inl full ↦ rw (out, full) (chain-goes_out s v (prev s v P) (now P) (least_first s before))
        | inr room ↦ rw (out, room) (chain-goes_out s v (prev s v P) (now P) (least_first s (waiting s v P)))
      ]
    ]

quiet-looks : (s : Setting) (v : ℕ) (P : Past) (us : List ℕ) → count (is_number v) us ≡ 0
    → list_all (quiet v) (flat_map (λ u. cond (is_sorted s u) (look s u P) []) us) ≡ true
quiet-looks s v P [] none = refl
quiet-looks s v P (u ∷ us) none =
    all-append (quiet v) (cond (is_sorted s u) (look s u P) []) (flat_map (λ w. cond (is_sorted s w) (look s w P) []) us) (one (is_sorted s u))
    (quiet-looks s v P us (omega (arith, none, count-cons (is_number v) u us)))
  where
    other : u ≢ v
    other e = omega (arith, none, count-cons (is_number v) u us, ap bit (eq-eqb u v e))

    one : (b : Bool) → list_all (quiet v) (cond b (look s u P) []) ≡ true
    one true = quiet-elsewhere v u (look s u P) other (goes_out-at s u _ _ _)
    one false = refl

chain-looks : (s : Setting) (v : ℕ) (P : Past) (us : List ℕ) → count (is_number v) us ≤ 1
    → chain s v (prev s v P) (flat_map (λ u. cond (is_sorted s u) (look s u P) []) us) ≡ true
chain-looks s v P [] once = refl
chain-looks s v P (u ∷ us) once =
    elim (cases_Bool (eqb u v)) [
      | inl here ↦
          chain-end s v (prev s v P) (cond (is_sorted s u) (look s u P) []) (flat_map (λ w. cond (is_sorted s w) (look s w P) []) us)
          (subst (λ (x : ℕ). chain s v (prev s v P) (cond (is_sorted s x) (look s x P) []) ≡ true) (sym (eqb-true u v here)) (own (is_sorted s v)))
          (quiet-looks s v P us (omega (arith, once, count-cons (is_number v) u us, ap bit here)))
      | inr away ↦
          chain-quiet s v (prev s v P) (cond (is_sorted s u) (look s u P) []) (flat_map (λ w. cond (is_sorted s w) (look s w P) []) us)
          (other (is_sorted s u) (eqb-false u v away)) (chain-looks s v P us (omega (arith, once, count-cons (is_number v) u us)))
    ]
  where
    own : (b : Bool) → chain s v (prev s v P) (cond b (look s v P) []) ≡ true
    own true = chain-goes_out s v (prev s v P) (now P) (least_first s (waiting s v P))
    own false = refl

    other : (b : Bool) → u ≢ v → list_all (quiet v) (cond b (look s u P) []) ≡ true
    other true ne = quiet-elsewhere v u (look s u P) ne (goes_out-at s u _ _ _)
    other false ne = refl

-- the first of what is owed, where it is no emission
chain-drop : (s : Setting) (v : ℕ) (before : ℤ) (ds : List Entry) (head : Entry) (rest : List Entry) → ds ≡ head ∷ rest → quiet v head ≡ true
    → chain s v before ds ≡ true → chain s v before (drop 1 ds) ≡ true
chain-drop s v before ds head rest is still c =
    let whole : chain s v before (head ∷ rest) ≡ true = subst (λ (es : List Entry). chain s v before es ≡ true) is c in
    subst (λ (es : List Entry). chain s v before (drop 1 es) ≡ true) (sym is) (skip head whole still)
  where
    skip : (d : Entry) → chain s v before (d ∷ rest) ≡ true → quiet v d ≡ true → chain s v before rest ≡ true
    skip (Emit w m k why) c q =
        elim (cases_Bool (eqb w v)) [
          | inl here ↦ absurd (false≢true (sym (ap not here) ∙ q))
          | inr away ↦ rw away at c
        ]
    skip _ c q = c

pub fits-same : (a b : Why) (steps : Bool) → eqb (why_number a) (why_number b) ≡ true → fits a steps ≡ true → fits b steps ≡ true
fits-same Plain b steps h f = absurd (false≢true f)
fits-same Ring b steps h f = absurd (false≢true f)
fits-same Now b steps h f = absurd (false≢true f)
fits-same Step Step steps h f = f
fits-same Late Late steps h f = refl
fits-same Flush Flush steps h f = refl
fits-same Step _ steps h f = absurd (false≢true h)
fits-same Late _ steps h f = absurd (false≢true h)
fits-same Flush _ steps h f = absurd (false≢true h)

pub emit-answers : (s : Setting) (P : Past) (v m k : ℕ) (why : Why) (d : Entry) → answers s P (Emit v m k why) d ≡ true
    → (how : Why) × (d ≡ Emit v m k how) × (eqb (why_number how) (why_number why) ≡ true)
emit-answers s P v m k why (Emit w n j how) h =
    let p = and_parts (eqb w v && eqb n m && eqb j k) (eqb (why_number how) (why_number why)) h in
    let q = and_parts (eqb w v && eqb n m) (eqb j k) p.0 in
    let r = and_parts (eqb w v) (eqb n m) q.0 in
    let a : w ≡ v = eqb-true w v r.0 in
    let b : n ≡ m = eqb-true n m r.1 in
    let c : j ≡ k = eqb-true j k q.1 in
    let same : Emit w n j how ≡ Emit v m k how = cc in
    (how, same, p.1)
emit-answers s P v m k why (Accept c n j) h =
    elim (cases_Bool (has_room s P c)) [ inl room ↦ absurd (false≢true (rw room at h)) | inr full ↦ absurd (false≢true (rw full at h)) ]
emit-answers s P v m k why _ h = absurd (false≢true h)

begun : (s : Setting) (v : ℕ) (before : ℤ) (e : Entry) (P : Past) → owed s P ≡ [] → chain s v before (calls_for s P e) ≡ true
    → chain s v before (owed s (e ∷ P)) ≡ true
begun s v before e P none c =
    let now_owed : owed s (e ∷ P) ≡ calls_for s P e = ap (λ (ds : List Entry). calls_for s P e ++ drop 1 ds) none ∙ append-nil (calls_for s P e) in
    subst (λ (ds : List Entry). chain s v before ds ≡ true) (sym now_owed) c

chain-only : (s : Setting) (v : ℕ) (before : ℤ) (xs : List Entry) → list_all (quiet v) xs ≡ true → chain s v before xs ≡ true
chain-only s v before xs h = subst (λ (ds : List Entry). chain s v before ds ≡ true) (append-nil xs) (chain-quiet s v before xs [] h refl)

no_emission : (s : Setting) (P : Past) (v w m k : ℕ) (d : Entry) → answers s P (Full w m k) d ≡ true → quiet v d ≡ true
no_emission s P v w m k (Emit u n j how) h = absurd (false≢true h)
no_emission s P v w m k _ h = refl

-- what is owed goes on from the previous id
pub steps : (s : Setting) (P : Past) (v : ℕ) → v ≢ 0 → is_sorted s v ≡ true → is_legal s P ≡ true → chain s v (prev s v P) (owed s P) ≡ true
steps s [] v nz sorted h = refl
steps s (Issue r k ∷ P) v nz sorted h =
    begun s v (prev s v (Issue r k ∷ P)) (Issue r k) P (owed-first s (Issue r k) P (λ d. refl) h)
    (let away : eqb 0 v ≡ false = ne_eqb 0 v (λ e. nz (sym e)) in rw away refl)
steps s (Put r w m i f ∷ P) v nz sorted h =
    let none : owed s P ≡ [] = owed-first s (Put r w m i f) P (λ d. refl) h in
    let same : prev s v (Put r w m i f ∷ P) ≡ prev s v P = clock_laws.prev_others s v (Put r w m i f) P refl in
    subst (λ (b : ℤ). chain s v b (owed s (Put r w m i f ∷ P)) ≡ true) (sym same)
    (begun s v (prev s v P) (Put r w m i f) P none (elim (cases_Bool (eqb w v)) [
      | inl here ↦ subst (λ (u : ℕ). chain s v (prev s v P) (calls_for s P (Put r u m i f)) ≡ true) (sym (eqb-true w v here))
          (subst (λ (ds : List Entry). chain s v (prev s v P) ds ≡ true)
          (sym (result-sorted s v (frame m i) f P (node s v).work (and_parts _ _ sorted).0 sorted))
          (subst (λ (b : ℤ). chain s v b (sorted_result s v (frame m i) (waiting s v P) (Put 0 v m i f ∷ P)) ≡ true)
          (clock_laws.prev_others s v (Put 0 v m i f) P refl)
          (chain-sorted_result s v (frame m i) (waiting s v P) (Put 0 v m i f ∷ P))))
      | inr away ↦
          chain-only s v (prev s v P) (calls_for s P (Put r w m i f))
          (quiet-elsewhere v w (calls_for s P (Put r w m i f)) (eqb-false w v away) (result-at s w (frame m i) f P (node s w).work))
    ]))
steps s (Settle r w ∷ P) v nz sorted h =
    let none : owed s P ≡ [] = owed-first s (Settle r w) P (λ d. refl) h in
    begun s v (prev s v (Settle r w ∷ P)) (Settle r w) P none (elim (cases_Bool (eqb w v)) [
      | inl here ↦
          subst (λ (u : ℕ). chain s v (prev s v (Settle r w ∷ P)) (calls_for s P (Settle r u)) ≡ true) (sym (eqb-true w v here))
          (chain-flush s v (prev s v (Settle r w ∷ P)) (least_first s (waiting s v P)))
      | inr away ↦
          chain-only s v (prev s v (Settle r w ∷ P)) (calls_for s P (Settle r w))
          (quiet-elsewhere v w (calls_for s P (Settle r w)) (eqb-false w v away) (flush-at w (least_first s (waiting s w P))))
    ])
steps s (Tick t ∷ P) v nz sorted h =
    let now_owed : owed s (Tick t ∷ P) ≡ calls_for s P (Tick t) =
    ap (λ (ds : List Entry). calls_for s P (Tick t) ++ ds) (tick-alone s t P h) ∙ append-nil (calls_for s P (Tick t)) in
    subst (λ (ds : List Entry). chain s v (prev s v (Tick t ∷ P)) ds ≡ true) (sym now_owed) (chain-looks s v (Tick t ∷ P) (node_numbers s) (once_numbered s v))
steps s (Emit w m i why ∷ P) v nz sorted h =
    let a = owed-answered s (Emit w m i why) P refl h in
    let x = emit-answers s P w m i why a.head a.answer in
    let c : chain s v (prev s v P) (Emit w m i x.0 ∷ a.rest) ≡ true =
    subst (λ (ds : List Entry). chain s v (prev s v P) ds ≡ true) (a.is ∙ ap (λ (d : Entry). d ∷ a.rest) x.1) (steps s P v nz sorted (and_parts _ _ h).0) in
    let left : drop 1 (owed s P) ≡ a.rest = ap (drop 1) a.is in
    elim (cases_Bool (eqb w v)) [
      | inl here ↦
          let both : (fits x.0 (keeps_step (prev s v P) (id_at s i)) && chain s v (id_at s i) a.rest) ≡ true = rw here at c in
          let same : prev s v (Emit w m i why ∷ P) ≡ id_at s i =
          subst (λ (u : ℕ). prev s v (Emit u m i why ∷ P) ≡ id_at s i) (sym (eqb-true w v here)) (clock_laws.emit s v m i why P (sorted_no_file s v sorted)) in
          subst (λ (b : ℤ). chain s v b (owed s (Emit w m i why ∷ P)) ≡ true) (sym same)
          (chain-quiet s v (id_at s i) (map (offer (frame m i)) (offered_to s P w)) (drop 1 (owed s P)) (quiet-offers v (frame m i) (offered_to s P w))
          (subst (λ (ds : List Entry). chain s v (id_at s i) ds ≡ true) (sym left)
          (and_parts (fits x.0 (keeps_step (prev s v P) (id_at s i))) (chain s v (id_at s i) a.rest) both).1))
      | inr away ↦
          let on : chain s v (prev s v P) a.rest ≡ true = rw away at c in
          subst (λ (b : ℤ). chain s v b (owed s (Emit w m i why ∷ P)) ≡ true) (sym (clock_laws.emit_elsewhere s v w m i why P (eqb-false w v away)))
          (chain-quiet s v (prev s v P) (map (offer (frame m i)) (offered_to s P w)) (drop 1 (owed s P)) (quiet-offers v (frame m i) (offered_to s P w))
          (subst (λ (ds : List Entry). chain s v (prev s v P) ds ≡ true) (sym left) on))
    ]
steps s (Accept w m i ∷ P) v nz sorted h =
    let a = owed-answered s (Accept w m i) P refl h in
    chain-drop s v (prev s v P) (owed s P) a.head a.rest a.is (ap (quiet v) (answers-by_Accept s P w m i a.head a.answer))
    (steps s P v nz sorted (and_parts _ _ h).0)
steps s (Full w m i ∷ P) v nz sorted h =
    let a = owed-answered s (Full w m i) P refl h in
    chain-drop s v (prev s v P) (owed s P) a.head a.rest a.is (no_emission s P v w m i a.head a.answer) (steps s P v nz sorted (and_parts _ _ h).0)
steps s (SortDrop w m i ∷ P) v nz sorted h =
    let a = owed-answered s (SortDrop w m i) P refl h in
    chain-drop s v (prev s v P) (owed s P) a.head a.rest a.is (ap (quiet v) (answers-by_SortDrop s P w m i a.head a.answer))
    (steps s P v nz sorted (and_parts _ _ h).0)
steps s (Load r k b n f g x ∷ P) v nz sorted h = begun s v _ (Load r k b n f g x) P (owed-first s (Load r k b n f g x) P (λ d. refl) h) refl
steps s (LoadRefused r k n z ∷ P) v nz sorted h = begun s v _ (LoadRefused r k n z) P (owed-first s (LoadRefused r k n z) P (λ d. refl) h) refl
steps s (Take r w m i ∷ P) v nz sorted h = begun s v _ (Take r w m i) P (owed-first s (Take r w m i) P (λ d. refl) h) refl
steps s (TakeBlock f x r w m i b n g ∷ P) v nz sorted h =
    begun s v _ (TakeBlock f x r w m i b n g) P (owed-first s (TakeBlock f x r w m i b n g) P (λ d. refl) h) refl
steps s (PoolDrop r w m i n z ∷ P) v nz sorted h = begun s v _ (PoolDrop r w m i n z) P (owed-first s (PoolDrop r w m i n z) P (λ d. refl) h) refl
steps s (Save r w m i g ∷ P) v nz sorted h = begun s v _ (Save r w m i g) P (owed-first s (Save r w m i g) P (λ d. refl) h) refl
steps s (Saved r w m i ∷ P) v nz sorted h = begun s v _ (Saved r w m i) P (owed-first s (Saved r w m i) P (λ d. refl) h) refl
steps s (Close r ∷ P) v nz sorted h = begun s v _ (Close r) P (owed-first s (Close r) P (λ d. refl) h) refl
steps s (Leave r ∷ P) v nz sorted h = begun s v _ (Leave r) P (owed-first s (Leave r) P (λ d. refl) h) refl
steps s (Reclaim r ∷ P) v nz sorted h = begun s v _ (Reclaim r) P (owed-first s (Reclaim r) P (λ d. refl) h) refl
