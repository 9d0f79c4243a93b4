-- The driver emits the frames that were loaded for good, in the order of their loads.
use Rattle.std.proofs.Common.{◌≡◌, ℕ, ◌≤◌, Bool, true, false, ◌&&◌, cond, eqb, List, [], ◌∷◌, ◌++◌, map, drop, refl, sym, ap, ◌∙◌, subst, arith, Some, inl, inr}
use Rattle.std.specs.Prelude.{◌==◌, if◌then◌else◌}
use Rattle.std.specs.List.{find, flat_map}
use Rattle.std.proofs.lemmas.Bool.{and_parts, false≢true, eq-eqb, ne_eqb, cases_Bool}
use Rattle.nd_base.specs.declared.frame.FrameName.{FrameName}
use Rattle.flow_journal.proofs.LastOuts.{outs_of, no_out}
use Rattle.flow_journal.specs.declared.entry.Entry.{Entry}
use Rattle.flow_journal.specs.declared.entry.Entry.TheVariants.{Load, Tick, Issue, Emit, Accept, Full, Take, TakeBlock, Put, SortDrop, Settle, Save, Saved}
use Rattle.flow_journal.specs.declared.entry.Entry.TheVariants.{Reclaim}
use Rattle.flow_journal.specs.declared.entry.Why.TheVariants.{Plain}
use Rattle.flow_journal.specs.Setting.{Setting, node, node_numbers}
use Rattle.flow_journal.specs.Turns.{offered_to}
use Rattle.flow_journal.specs.Pasts.{Past, frame}
use Rattle.flow_journal.specs.Hands.{takes_up, let_go, hands, hand, standing, is_loaded}
use Rattle.flow_journal.specs.Waiting.{waiting, least_first}
use Rattle.flow_journal.specs.Breaks.{outs, out_at}
use Rattle.flow_journal.specs.Unsaved.{is_file}
use Rattle.flow_journal.specs.Following.{offer, calls_for, owed}
use Rattle.flow_journal.specs.FirstEntries.{has_loaded}
use Rattle.flow_journal.specs.Histories.{answers, is_nothing, is_legal, is_history}
use Rattle.flow_journal.specs.Pushes.{is_nothing-true}
use Rattle.flow_journal.proofs.Rows.{row_laws}
use Rattle.flow_journal.proofs.Hands.{row_of, one-loaded, flat-let_go, takes-alone, hands-more, stood}
use Rattle.flow_journal.proofs.Counts.{hand-standing}
use Rattle.flow_journal.proofs.EntryCounts.{count, bit, count-cons, count-append, count-drop, count-let_go, loads_at, owed-first, owed-answered}
use Rattle.flow_journal.proofs.EntryCounts.{answers-by_Emit, answers-by_Accept, answers-by_SortDrop, answers-by_Tick}
use Rattle.flow_journal.proofs.Found.{none_counted, found_up}
use Rattle.flow_journal.proofs.Jobs.{reclaim_hand}
use Rattle.flow_journal.proofs.Once.{load-once}
use Rattle.flow_journal.proofs.Outs.{out_of, none_elsewhere, result-at, flush-at}
use Rattle.flow_journal.proofs.Offers.{none_numbered_0}
use Rattle.flow_journal.proofs.Issues.{looks-none, puts_at_node, settles_node}
use Rattle.flow_journal.proofs.Emissions.{no_outs_in_offers}
use Rattle.run_laws.specs.Drops.{load_index, loaded_frames}
use Rattle.run_laws.proofs.Feeds.{any}
use Rattle.run_laws.proofs.Fulls.{is_any_full, no_full_owed, head-no_full, full-answers}
use Rattle.run_laws.proofs.Ticks.{tick-alone}

-- ONE EMISSION

-- the driver owes one emission at most
one-owed : (s : Setting) (P : Past) → is_legal s P ≡ true → count (out_of 0 any) (owed s P) ≤ 1
one-owed s [] h = omega arith
one-owed s (Issue r k ∷ P) h =
    let none : owed s P ≡ [] = owed-first s (Issue r k) P (λ d. refl) h in
    omega (arith, count-cons (out_of 0 any) (Emit 0 0 k Plain) (drop 1 (owed s P)), ap (λ (ds : List Entry). count (out_of 0 any) (drop 1 ds)) none)
one-owed s (Emit w m i why ∷ P) h =
    omega (
      arith,
      one-owed s P (and_parts _ _ h).0,
      count-append (out_of 0 any) (map (offer (frame m i)) (offered_to s P w)) (drop 1 (owed s P)),
      no_outs_in_offers 0 any (frame m i) (offered_to s P w),
      count-drop (out_of 0 any) (owed s P),
    )
one-owed s (Tick u ∷ P) h =
    omega (
      arith,
      one-owed s P (and_parts _ _ h).0,
      count-append (out_of 0 any) (calls_for s P (Tick u)) (drop 1 (owed s P)),
      looks-none s (Tick u ∷ P) 0 any (node_numbers s) (none_numbered_0 s),
      count-drop (out_of 0 any) (owed s P),
    )
one-owed s (Put r w m i f ∷ P) h =
    omega (
      arith,
      one-owed s P (and_parts _ _ h).0,
      count-append (out_of 0 any) (calls_for s P (Put r w m i f)) (drop 1 (owed s P)),
      none_elsewhere w 0 any (calls_for s P (Put r w m i f)) (puts_at_node s r w m i f P h) (result-at s w (frame m i) f P (node s w).work),
      count-drop (out_of 0 any) (owed s P),
    )
one-owed s (Settle r w ∷ P) h =
    omega (
      arith,
      one-owed s P (and_parts _ _ h).0,
      count-append (out_of 0 any) (calls_for s P (Settle r w)) (drop 1 (owed s P)),
      none_elsewhere w 0 any (calls_for s P (Settle r w)) (settles_node s r w P h) (flush-at w (least_first s (waiting s w P))),
      count-drop (out_of 0 any) (owed s P),
    )
one-owed s (e ∷ P) h = omega (arith, one-owed s P (and_parts _ _ h).0, count-drop (out_of 0 any) (owed s P))

-- INDICES

abbrev loaded_of : List Entry → List ℕ
loaded_of es = flat_map load_index es

-- the index of an emission of the driver
abbrev emit_index : Entry → List ℕ
emit_index (Emit w m k why) = if w == 0 then k ∷ [] else []
emit_index _ = []

abbrev emits_of_driver : List Entry → List ℕ
emits_of_driver ds = flat_map emit_index ds

no_emits : (ds : List Entry) → count (out_of 0 any) ds ≡ 0 → emits_of_driver ds ≡ []
no_emits [] h = refl
no_emits (Emit w m k why ∷ ds) h =
    elim (cases_Bool (eqb w 0)) [
      | inl here ↦ absurd (omega (arith, h, count-cons (out_of 0 any) (Emit w m k why) ds, ap (λ (b : Bool). bit (b && true)) here))
      | inr away ↦ rw away (no_emits ds (omega (arith, h, count-cons (out_of 0 any) (Emit w m k why) ds)))
    ]
no_emits (d ∷ ds) h = no_emits ds (omega (arith, h, count-cons (out_of 0 any) d ds))

none-loaded : (es : List Entry) → count is_loaded es ≡ 0 → loaded_of es ≡ []
none-loaded [] h = refl
none-loaded (Load r k b n f g x ∷ es) h = absurd (omega (arith, h, count-cons is_loaded (Load r k b n f g x) es))
none-loaded (e ∷ es) h = none-loaded es (omega (arith, h, count-cons is_loaded e es))

-- a hand that is no loaded block
unloaded : (r : ℕ) (e : Entry) (es : List Entry) → find (takes_up r) es ≡ Some e → load_index e ≡ [] → loaded_of (let_go r es) ≡ loaded_of es
unloaded r e es found none = flat-let_go load_index r e es found none

-- the loaded block is the only one
one-block : (r : ℕ) (e : Entry) (k : ℕ) (es : List Entry) → find (takes_up r) es ≡ Some e → load_index e ≡ k ∷ [] → is_loaded e ≡ true → count is_loaded es ≤ 1
    → (loaded_of es ≡ k ∷ []) × (loaded_of (let_go r es) ≡ [])
one-block r e k [] found index loaded few = cc
one-block r e k (x ∷ es) found index loaded few =
    elim (cases_Bool (takes_up r x)) [
      | inl here ↦
          let same : Some x ≡ Some e = rw here at found in
          let is : x ≡ e = cc in
          let rest : loaded_of es ≡ [] =
          none-loaded es (omega (arith, few, count-cons is_loaded x es, ap (λ (d : Entry). bit (is_loaded d)) is, ap bit loaded)) in
          rw here (
            ap (λ (d : Entry). load_index d ++ loaded_of es) is
                ∙ (ap (λ (ks : List ℕ). ks ++ loaded_of es) index ∙ ap (λ (ks : List ℕ). k ∷ ks) rest),
            rest,
          )
      | inr away ↦
          let later : find (takes_up r) es ≡ Some e = rw away at found in
          let some : 1 ≤ count is_loaded es = omega (arith, count-let_go is_loaded r e es later, ap bit loaded) in
          let none : load_index x ≡ [] = not_loaded x (omega (arith, few, some, count-cons is_loaded x es)) in
          let more = one-block r e k es later index loaded (omega (arith, few, count-cons is_loaded x es)) in
          rw away (ap (λ (ks : List ℕ). ks ++ loaded_of es) none ∙ more.0, ap (λ (ks : List ℕ). ks ++ loaded_of (let_go r es)) none ∙ more.1)
    ]
  where
    not_loaded : (x : Entry) → bit (is_loaded x) ≡ 0 → load_index x ≡ []
    not_loaded (Load q j b n f g y) h = absurd (omega (arith, h))
    not_loaded _ h = refl

-- the frame that was loaded last, where it is loaded once
loaded-last : (r : ℕ) (e : Entry) (k : ℕ) (ks : List ℕ) (es : List Entry) → find (takes_up r) es ≡ Some e → load_index e ≡ k ∷ [] → loads_at k e ≡ true
    → count (loads_at k) es ≤ 1 → loaded_of es ≡ k ∷ ks → loaded_of (let_go r es) ≡ ks
loaded-last r e k ks [] found index loads once all = cc
loaded-last r e k ks (x ∷ es) found index loads once all =
    elim (cases_Bool (takes_up r x)) [
      | inl here ↦
          let same : Some x ≡ Some e = rw here at found in
          let is : x ≡ e = cc in
          let first : k ∷ loaded_of es ≡ k ∷ ks =
          ap (λ (js : List ℕ). js ++ loaded_of es) (sym index) ∙ (ap (λ (d : Entry). load_index d ++ loaded_of es) (sym is) ∙ all) in
          let rest : loaded_of es ≡ ks = cc in
          rw here rest
      | inr away ↦
          let later : find (takes_up r) es ≡ Some e = rw away at found in
          let some : 1 ≤ count (loads_at k) es = omega (arith, count-let_go (loads_at k) r e es later, ap bit loads) in
          let none : load_index x ≡ [] = other x (omega (arith, once, some, count-cons (loads_at k) x es)) all in
          rw away (ap (λ (js : List ℕ). js ++ loaded_of (let_go r es)) none ∙ loaded-last r e k ks es later index loads
          (omega (arith, once, count-cons (loads_at k) x es)) (ap (λ (js : List ℕ). js ++ loaded_of es) (sym none) ∙ all))
    ]
  where
    other : (x : Entry) → bit (loads_at k x) ≡ 0 → loaded_of (x ∷ es) ≡ k ∷ ks → load_index x ≡ []
    other (Load q j b n f g y) h whole =
        let first : j ≡ k = cc in
        absurd (omega (arith, h, ap bit (eq-eqb j k first)))
    other _ h whole = refl

-- IN TURN

-- the frame that is loaded, the one that the driver is to emit and those that it emitted are the frames that were loaded
abbrev InTurn : Setting → Past → Type 0
InTurn s P = loaded_of (hands P) ++ (emits_of_driver (owed s P) ++ outs s 0 P) ≡ loaded_of (standing P)

still : (s : Setting) (e : Entry) (P : Past) → loaded_of (hands (e ∷ P)) ≡ loaded_of (hands P) → emits_of_driver (owed s (e ∷ P)) ≡ emits_of_driver (owed s P)
    → outs s 0 (e ∷ P) ≡ outs s 0 P → loaded_of (standing (e ∷ P)) ≡ loaded_of (standing P) → InTurn s P → InTurn s (e ∷ P)
still s e P same_hands same_owed same_outs same_loads before =
    ap (λ (ks : List ℕ). ks ++ (emits_of_driver (owed s (e ∷ P)) ++ outs s 0 (e ∷ P))) same_hands
    ∙ (ap (λ (ks : List ℕ). loaded_of (hands P) ++ (ks ++ outs s 0 (e ∷ P))) same_owed
    ∙ (ap (λ (ks : List ℕ). loaded_of (hands P) ++ (emits_of_driver (owed s P) ++ ks)) same_outs ∙ (before ∙ sym same_loads)))

-- what begins a move, and calls for no emission of the driver
begun-still : (s : Setting) (e : Entry) (P : Past) → ((d : Entry) → answers s P e d ≡ false) → is_legal s (e ∷ P) ≡ true
    → count (out_of 0 any) (calls_for s P e) ≡ 0 → emits_of_driver (owed s (e ∷ P)) ≡ emits_of_driver (owed s P)
begun-still s e P never h calls =
    let none : owed s P ≡ [] = owed-first s e P never h in
    no_emits (owed s (e ∷ P)) (omega (
      arith,
      calls,
      count-append (out_of 0 any) (calls_for s P e) (drop 1 (owed s P)),
      ap (λ (ds : List Entry). count (out_of 0 any) (drop 1 ds)) none,
    )) ∙ sym (ap emits_of_driver none)

-- what follows, and is no emission
drop-still : (ds : List Entry) (head : Entry) (rest : List Entry) → ds ≡ head ∷ rest → emit_index head ≡ [] → emits_of_driver (drop 1 ds) ≡ emits_of_driver ds
drop-still ds head rest is none =
    ap (λ (es : List Entry). emits_of_driver (drop 1 es)) is ∙ sym (ap emits_of_driver is ∙ ap (λ (ks : List ℕ). ks ++ emits_of_driver rest) none)

emits-offers : (a : FrameName) (cs : List ℕ) (ds : List Entry) → emits_of_driver (map (offer a) cs ++ ds) ≡ emits_of_driver ds
emits-offers a [] ds = refl
emits-offers a (c ∷ cs) ds = emits-offers a cs ds

file-away : (s : Setting) (w : ℕ) → is_file (node s w).work ≡ true → eqb w 0 ≡ false
file-away s w file = ne_eqb w 0 (λ e. false≢true (subst (λ (u : ℕ). is_file (node s u).work ≡ true) e file))

-- who takes up anything else than a load
took : (s : Setting) (r : ℕ) (e : Entry) (P : Past) → takes_up r e ≡ true → ((d : Entry) → answers s P e d ≡ false) → is_legal s (e ∷ P) ≡ true
    → load_index e ≡ [] → count (out_of 0 any) (calls_for s P e) ≡ 0 → outs s 0 (e ∷ P) ≡ outs s 0 P
    → loaded_of (standing (e ∷ P)) ≡ loaded_of (standing P) → InTurn s P → InTurn s (e ∷ P)
took s r e P up never h none calls same_outs same_loads before =
    still s e P (ap loaded_of (hands-more s r e P up h) ∙ ap (λ (ks : List ℕ). ks ++ loaded_of (hands P)) none)
    (begun-still s e P never h calls) same_outs same_loads before

in_turn : (s : Setting) (P : Past) → is_legal s P ≡ true → InTurn s P
in_turn s [] h = refl
in_turn s (Load r k b n f g x ∷ P) h =
    let owes = begun-still s (Load r k b n f g x) P (λ d. refl) h refl in
    ap (λ (hs : List Entry). k ∷ (loaded_of hs ++ (emits_of_driver (owed s (Load r k b n f g x ∷ P)) ++ outs s 0 P)))
    (takes-alone s r (Load r k b n f g x) P (eq-eqb r r refl) h)
    ∙ ap (λ (ks : List ℕ). k ∷ ks) (ap (λ (ks : List ℕ). loaded_of (hands P) ++ (ks ++ outs s 0 P)) owes ∙ in_turn s P (and_parts _ _ h).0)
in_turn s (Issue r k ∷ P) h =
    let legal : is_legal s P ≡ true = (and_parts _ _ h).0 in
    let none : owed s P ≡ [] = owed-first s (Issue r k) P (λ d. refl) h in
    let l = (row_laws.issue s P r k).0 (row_of s (Issue r k) P (λ d. refl) h) in
    let block = one-block r (Load r k l.0 l.1 l.2 l.3 l.4) k (hands P) l.5 refl refl (one-loaded s P legal) in
    let before : k ∷ outs s 0 P ≡ loaded_of (standing P) =
    sym (ap (λ (ks : List ℕ). ks ++ (emits_of_driver (owed s P) ++ outs s 0 P)) block.0 ∙ ap (λ (ds : List Entry). k ∷ (emits_of_driver ds ++ outs s 0 P)) none)
    ∙ in_turn s P legal in
    ap (λ (ks : List ℕ). ks ++ (emits_of_driver (owed s (Issue r k ∷ P)) ++ outs s 0 P)) block.1
    ∙ (ap (λ (ds : List Entry). k ∷ (emits_of_driver (drop 1 ds) ++ outs s 0 P)) none ∙ before)
in_turn s (Emit w m i why ∷ P) h =
    let legal : is_legal s P ≡ true = (and_parts _ _ h).0 in
    let before = in_turn s P legal in
    let a = owed-answered s (Emit w m i why) P refl h in
    let x = answers-by_Emit s P w m i why a.head a.answer in
    let whole : owed s P ≡ Emit w m i x.0 ∷ a.rest = a.is ∙ ap (λ (d : Entry). d ∷ a.rest) x.1 in
    let left : emits_of_driver (owed s (Emit w m i why ∷ P)) ≡ emits_of_driver a.rest =
    emits-offers (frame m i) (offered_to s P w) (drop 1 (owed s P)) ∙ ap (λ (ds : List Entry). emits_of_driver (drop 1 ds)) whole in
    elim (cases_Bool (eqb w 0)) [
      | inr away ↦
          let was : emits_of_driver (owed s P) ≡ emits_of_driver a.rest =
          ap emits_of_driver whole ∙ ap (λ (b : Bool). cond b (i ∷ []) [] ++ emits_of_driver a.rest) away in
          still s (Emit w m i why) P refl (left ∙ sym was) (ap (λ (b : Bool). cond b (i ∷ []) [] ++ outs s 0 P) away) refl before
      | inl here ↦
          let none : emits_of_driver a.rest ≡ [] =
          no_emits a.rest (omega (
            arith,
            one-owed s P legal,
            ap (count (out_of 0 any)) whole,
            count-cons (out_of 0 any) (Emit w m i x.0) a.rest,
            ap (λ (b : Bool). bit (b && true)) here,
          )) in
          let was : emits_of_driver (owed s P) ≡ i ∷ [] =
          ap emits_of_driver whole ∙ (ap (λ (b : Bool). cond b (i ∷ []) [] ++ emits_of_driver a.rest) here ∙ ap (λ (ks : List ℕ). i ∷ ks) none) in
          let out : outs s 0 (Emit w m i why ∷ P) ≡ i ∷ outs s 0 P = ap (λ (b : Bool). cond b (i ∷ []) [] ++ outs s 0 P) here in
          ap (λ (ks : List ℕ). loaded_of (hands P) ++ (ks ++ outs s 0 (Emit w m i why ∷ P))) (left ∙ none)
          ∙ (ap (λ (ks : List ℕ). loaded_of (hands P) ++ ks) out ∙ (ap (λ (ks : List ℕ). loaded_of (hands P) ++ (ks ++ outs s 0 P)) (sym was) ∙ before))
    ]
in_turn s (Accept w m i ∷ P) h =
    let a = owed-answered s (Accept w m i) P refl h in
    still s (Accept w m i) P refl (drop-still (owed s P) a.head a.rest a.is (ap emit_index (answers-by_Accept s P w m i a.head a.answer))) refl refl
    (in_turn s P (and_parts _ _ h).0)
in_turn s (Full w m i ∷ P) h =
    let a = owed-answered s (Full w m i) P refl h in
    let none : count is_any_full (a.head ∷ a.rest) ≡ 0 = sym (ap (count is_any_full) a.is) ∙ no_full_owed s P in
    still s (Full w m i) P refl (drop-still (owed s P) a.head a.rest a.is
    (ap emit_index (full-answers s P w m i a.head a.answer (head-no_full a.head a.rest none)).0)) refl refl (in_turn s P (and_parts _ _ h).0)
in_turn s (SortDrop w m i ∷ P) h =
    let a = owed-answered s (SortDrop w m i) P refl h in
    still s (SortDrop w m i) P refl (drop-still (owed s P) a.head a.rest a.is (ap emit_index (answers-by_SortDrop s P w m i a.head a.answer))) refl refl
    (in_turn s P (and_parts _ _ h).0)
in_turn s (Tick t ∷ P) h =
    let a = owed-answered s (Tick t) P refl h in
    let alone : a.rest ≡ [] = sym (ap (drop 1) a.is) ∙ tick-alone s t P h in
    let was : emits_of_driver (owed s P) ≡ [] =
    ap emits_of_driver (a.is ∙ ap (λ (d : Entry). d ∷ a.rest) (answers-by_Tick s P t a.head a.answer).1) ∙ ap emits_of_driver alone in
    let now_none : emits_of_driver (owed s (Tick t ∷ P)) ≡ [] =
    no_emits (owed s (Tick t ∷ P)) (omega (
      arith,
      count-append (out_of 0 any) (calls_for s P (Tick t)) (drop 1 (owed s P)),
      looks-none s (Tick t ∷ P) 0 any (node_numbers s) (none_numbered_0 s),
      ap (count (out_of 0 any)) (tick-alone s t P h),
    )) in
    still s (Tick t) P refl (now_none ∙ sym was) refl refl (in_turn s P (and_parts _ _ h).0)
in_turn s (Put r w m i f ∷ P) h =
    let legal : is_legal s P ≡ true = (and_parts _ _ h).0 in
    let owes =
    begun-still s (Put r w m i f) P (λ d. refl) h
    (none_elsewhere w 0 any (calls_for s P (Put r w m i f)) (puts_at_node s r w m i f P h) (result-at s w (frame m i) f P (node s w).work)) in
    elim ((row_laws.put s P r w m i f).0 (row_of s (Put r w m i f) P (λ d. refl) h)).0 [
      | inl job ↦ still s (Put r w m i f) P (unloaded r (Take r w m i) (hands P) job refl) owes refl refl (in_turn s P legal)
      | inr making ↦
          still s (Put r w m i f) P (unloaded r (TakeBlock making.1.3 making.1.5 r w making.1.0 i making.1.1 making.1.2 making.1.4) (hands P) making.1.6 refl)
          owes refl refl (in_turn s P legal)
    ]
in_turn s (Settle r w ∷ P) h =
    still s (Settle r w) P refl (begun-still s (Settle r w) P (λ d. refl) h (none_elsewhere w 0 any (calls_for s P (Settle r w)) (settles_node s r w P h)
    (flush-at w (least_first s (waiting s w P))))) refl refl (in_turn s P (and_parts _ _ h).0)
in_turn s (Save r w m i g ∷ P) h = took s r (Save r w m i g) P (eq-eqb r r refl) (λ d. refl) h refl refl refl refl (in_turn s P (and_parts _ _ h).0)
in_turn s (Take r w m i ∷ P) h = took s r (Take r w m i) P (eq-eqb r r refl) (λ d. refl) h refl refl refl refl (in_turn s P (and_parts _ _ h).0)
in_turn s (TakeBlock f x r w m i b n g ∷ P) h =
    took s r (TakeBlock f x r w m i b n g) P (eq-eqb r r refl) (λ d. refl) h refl refl refl refl (in_turn s P (and_parts _ _ h).0)
in_turn s (Saved r w m i ∷ P) h =
    let l = (row_laws.saved s P r w m i).0 (row_of s (Saved r w m i) P (λ d. refl) h) in
    still s (Saved r w m i) P (unloaded r (Save r w m i l.0) (hands P) l.1 refl)
    (begun-still s (Saved r w m i) P (λ d. refl) h refl) refl refl (in_turn s P (and_parts _ _ h).0)
in_turn s (Reclaim r ∷ P) h =
    let legal : is_legal s P ≡ true = (and_parts _ _ h).0 in
    let e = reclaim_hand s r P h in
    by e.0 e.1 legal (in_turn s P legal)
  where
    none : owed s P ≡ []
    none = owed-first s (Reclaim r) P (λ d. refl) h

    owes : emits_of_driver (owed s (Reclaim r ∷ P)) ≡ emits_of_driver (owed s P)
    owes = begun-still s (Reclaim r) P (λ d. refl) h refl

    -- what stands changes so
    less : (e : Entry) → hand r P ≡ Some e → loaded_of (standing (Reclaim r ∷ P)) ≡ loaded_of (let_go r (standing P))
    less e held = ap loaded_of (stood r e P held)

    out_same : (e : Entry) → hand r P ≡ Some e → is_legal s P ≡ true → outs s 0 (Reclaim r ∷ P) ≡ outs s 0 P
    out_same e held legal =
        let stands = hand-standing s P r e legal held in
        ap (λ (es : List Entry). outs_of false 0 es) (stood r e P held)
        ∙ flat-let_go (out_at false 0) r e (standing P) stands (no_out 0 r e (found_up (takes_up r) e (standing P) stands))

    by : (e : Entry) → hand r P ≡ Some e → is_legal s P ≡ true → InTurn s P → InTurn s (Reclaim r ∷ P)
    by (Load q k b n f g x) held legal before =
        let stands = hand-standing s P r (Load q k b n f g x) legal held in
        let block = one-block r (Load q k b n f g x) k (hands P) held refl refl (one-loaded s P legal) in
        let was : loaded_of (standing P) ≡ k ∷ outs s 0 P =
        sym before
        ∙ (ap (λ (ks : List ℕ). ks ++ (emits_of_driver (owed s P) ++ outs s 0 P)) block.0
        ∙ ap (λ (ds : List Entry). k ∷ (emits_of_driver ds ++ outs s 0 P)) none) in
        let left : loaded_of (let_go r (standing P)) ≡ outs s 0 P =
        loaded-last r (Load q k b n f g x) k (outs s 0 P) (standing P) stands refl (eq-eqb k k refl) (load-once s P k legal) was in
        ap (λ (ks : List ℕ). ks ++ (emits_of_driver (owed s (Reclaim r ∷ P)) ++ outs s 0 (Reclaim r ∷ P))) block.1
        ∙ (ap (λ (ks : List ℕ). ks ++ outs s 0 (Reclaim r ∷ P)) (owes ∙ ap emits_of_driver none)
        ∙ (out_same (Load q k b n f g x) held legal ∙ (sym left ∙ sym (less (Load q k b n f g x) held))))
    by e held legal before =
        let stands = hand-standing s P r e legal held in
        still s (Reclaim r) P (unloaded r e (hands P) held refl) owes (out_same e held legal) (less e held ∙ unloaded r e (standing P) stands refl) before
in_turn s (e ∷ P) h = still s e P refl (begun-still s e P (λ d. refl) h refl) refl refl (in_turn s P (and_parts _ _ h).0)

-- where nothing is owed and no block is loaded
pub driver-outs : (s : Setting) (P : Past) → is_history s P ≡ true → has_loaded P ≡ false → outs s 0 P ≡ loaded_frames P
driver-outs s P h idle =
    let both = and_parts (is_legal s P) (is_nothing (owed s P)) h in
    let none : owed s P ≡ [] = is_nothing-true (owed s P) both.1 in
    sym (ap (λ (ks : List ℕ). ks ++ (emits_of_driver (owed s P) ++ outs s 0 P)) (none-loaded (hands P) (none_counted is_loaded (hands P) idle))
    ∙ ap (λ (ds : List Entry). emits_of_driver ds ++ outs s 0 P) none) ∙ in_turn s P both.0
