-- Where the feed waits and no hand is taken back, a child of the driver has room from a load to its offer.
use Rattle.std.proofs.Common.{◌≡◌, ◌≢◌, ℕ, zero, suc, ◌+◌, ◌≤◌, ◌<◌, Bool, true, false, ◌&&◌, cond, eqb, ltb, leb, List, [], ◌∷◌, map, drop, length, refl}
use Rattle.std.proofs.Common.{sym, ap, ◌∙◌, subst, arith, inl, inr}
use Rattle.std.specs.Prelude.{filter, flat_map}
use Rattle.std.specs.List.{list_all}
use Rattle.std.proofs.lemmas.Bool.{and_parts, false≢true, true≢false, eq-eqb, eqb-true, eqb-false, ne_eqb, cases_Bool, ltb-true, lt-ltb, leb-true}
use Rattle.nd_base.specs.declared.frame.FrameName.{FrameName}
use Rattle.flow_journal.specs.declared.entry.Entry.{Entry}
use Rattle.flow_journal.specs.declared.entry.Entry.TheVariants.{Load, LoadRefused, Tick, Issue, Emit, Accept, Full, Take, TakeBlock, PoolDrop, Put}
use Rattle.flow_journal.specs.declared.entry.Entry.TheVariants.{SortDrop, Settle, Save, Saved, Close, Leave, Reclaim}
use Rattle.flow_journal.specs.Setting.{Setting, Node, node, is_node, is_sorted, numbers_from, node_numbers, children}
use Rattle.flow_journal.specs.Turns.{offered_to}
use Rattle.flow_journal.specs.Pasts.{Past, frame}
use Rattle.flow_journal.specs.Hands.{hands, is_loaded, let_go}
use Rattle.flow_journal.specs.Queued.{queued, has_room}
use Rattle.flow_journal.specs.Waiting.{waiting, least_first}
use Rattle.flow_journal.specs.Following.{offer, look, calls_for, owed}
use Rattle.flow_journal.specs.Histories.{is_legal}
use Rattle.flow_journal.proofs.Rows.{row_laws, test_laws}
use Rattle.flow_journal.proofs.Hands.{row_of, takes-alone}
use Rattle.flow_journal.proofs.Changes.{queue_laws}
use Rattle.flow_journal.proofs.EntryCounts.{count, bit, count-cons, count-append, count-drop, count-let_go, count-let_go-le, owed-first, owed-answered}
use Rattle.flow_journal.proofs.EntryCounts.{answers-by_Accept}
use Rattle.flow_journal.proofs.Outs.{is_out_at, AllOutAt, out_of, none_elsewhere, result-at, flush-at, goes_out-at}
use Rattle.flow_journal.proofs.Dealing.{count-offered}
use Rattle.flow_journal.proofs.Offers.{is_number, none_numbered_0, child_once}
use Rattle.flow_journal.proofs.Issues.{looks-none, puts_at_node, settles_node}
use Rattle.flow_journal.proofs.Emissions.{owed-Emit_out, no_outs_in_offers}
use Rattle.run_laws.specs.Drops.{has_reclaim}
use Rattle.flow_journal.specs.EntryTests.{is_full}
use Rattle.run_laws.proofs.Fulls.{is_any_full, less-owed, no_full_owed, full-answers, head-no_full}

-- an offer to the node
abbrev pub offers_to : ℕ → Entry → Bool
offers_to v (Accept w m k) = eqb w v
offers_to v _ = false

abbrev pub any : FrameName → Bool
any a = true

no_offer : (v w : ℕ) (e : Entry) → is_out_at w e ≡ true → offers_to v e ≡ false
no_offer v w (Accept c m i) h = absurd (false≢true h)
no_offer v w _ h = refl

pub no_offers : (v w : ℕ) (ds : List Entry) → AllOutAt w ds → count (offers_to v) ds ≡ 0
no_offers v w [] h = refl
no_offers v w (d ∷ ds) h =
    let p = and_parts (is_out_at w d) (list_all (is_out_at w) ds) h in
    omega (arith, count-cons (offers_to v) d ds, ap bit (no_offer v w d p.0), no_offers v w ds p.1)

no_offers-if : (s : Setting) (P : Past) (v u : ℕ) (b : Bool) → count (offers_to v) (cond b (look s u P) []) ≡ 0
no_offers-if s P v u true = no_offers v u (look s u P) (goes_out-at s u _ _ _)
no_offers-if s P v u false = refl

pub no_offers-looks : (s : Setting) (P : Past) (v : ℕ) (us : List ℕ) → count (offers_to v) (flat_map (λ u. cond (is_sorted s u) (look s u P) []) us) ≡ 0
no_offers-looks s P v [] = refl
no_offers-looks s P v (u ∷ us) =
    omega (
      arith,
      count-append (offers_to v) (cond (is_sorted s u) (look s u P) []) (flat_map (λ w. cond (is_sorted s w) (look s w P) []) us),
      no_offers-if s P v u (is_sorted s u),
      no_offers-looks s P v us,
    )

offers-are : (v : ℕ) (a : FrameName) (cs : List ℕ) → count (offers_to v) (map (offer a) cs) ≡ count (is_number v) cs
offers-are v a [] = refl
offers-are v a (c ∷ cs) = omega (arith, offers-are v a cs, count-cons (offers_to v) (offer a c) (map (offer a) cs), count-cons (is_number v) c cs)

-- what is on its way to the node: a loaded block, a frame that the driver is to emit, an offer
abbrev pub on_its_way : Setting → ℕ → Past → ℕ
on_its_way s v P = count is_loaded (hands P) + count (out_of 0 any) (owed s P) + count (offers_to v) (owed s P)

pub record Fed (s : Setting) (v : ℕ) (P : Past) : Type 0 where
  pub few : on_its_way s v P ≤ 1
  pub room : 1 ≤ on_its_way s v P → has_room s P v ≡ true
  pub none : count (is_full v) P ≡ 0

-- an entry that brings nothing more on its way and takes no room
go_on : (s : Setting) (v : ℕ) (e : Entry) (P : Past) → on_its_way s v (e ∷ P) ≤ on_its_way s v P → (has_room s P v ≡ true → has_room s (e ∷ P) v ≡ true)
    → is_full v e ≡ false → Fed s v P → Fed s v (e ∷ P)
go_on s v e P less keeps found f =
    record {
      few = omega (arith, less, f.few);
      room = λ some. keeps (f.room (omega (arith, some, less)));
      none = omega (arith, f.none, count-cons (is_full v) e P, ap bit found);
    }

-- a queue that gets shorter
shorter : (s : Setting) (v : ℕ) (e : Entry) (a : FrameName) (P : Past) → queued v P ≡ a ∷ queued v (e ∷ P) → has_room s P v ≡ true → has_room s (e ∷ P) v ≡ true
shorter s v e a P front room =
    let few : length (queued v P) < (node s v).queue = ltb-true (length (queued v P)) (node s v).queue room in
    lt-ltb (length (queued v (e ∷ P))) (node s v).queue (omega (arith, few, ap length front))

stays : (s : Setting) (v : ℕ) (e : Entry) (P : Past) → queued v (e ∷ P) ≡ queued v P → has_room s P v ≡ true → has_room s (e ∷ P) v ≡ true
stays s v e P is room = ap (λ (xs : List FrameName). ltb (length xs) (node s v).queue) is ∙ room

listed : (p : ℕ → Bool) (v : ℕ) (us : List ℕ) → list_all p us ≡ true → 1 ≤ count (is_number v) us → p v ≡ true
listed p v [] all h = absurd (omega (arith, h))
listed p v (u ∷ us) all h =
    let q = and_parts (p u) (list_all p us) all in
    elim (cases_Bool (eqb u v)) [
      | inl here ↦ sym (ap p (eqb-true u v here)) ∙ q.0
      | inr away ↦ listed p v us q.1 (omega (arith, h, count-cons (is_number v) u us, ap bit away))
    ]

pub fed : (s : Setting) (P : Past) (v : ℕ) → 1 ≤ count (is_number v) (children s 0) → s.wait ≡ true → (node s v).input ≡ 0 → is_legal s P ≡ true
    → has_reclaim P ≡ false → Fed s v P
fed s [] v child wait input h quiet = record { few = omega arith; room = λ some. absurd (omega (arith, some)); none = refl }
fed s (Load r k b n f g x ∷ P) v child wait input h quiet =
    let before = fed s P v child wait input (and_parts _ _ h).0 quiet in
    let facts = ((row_laws.load s P r k b n f g x).0 (row_of s (Load r k b n f g x) P (λ d. refl) h)).0 in
    let none : owed s P ≡ [] = owed-first s (Load r k b n f g x) P (λ d. refl) h in
    let unloaded : count is_loaded (hands P) ≡ 0 = (test_laws.loaded P).0 facts.unloaded in
    let outs : count (out_of 0 any) (owed s P) ≡ 0 = ap (count (out_of 0 any)) none in
    let offers : count (offers_to v) (owed s P) ≡ 0 = ap (count (offers_to v)) none in
    record {
      few =
          omega (
            arith,
            unloaded,
            outs,
            offers,
            less-owed s (out_of 0 any) (Load r k b n f g x) P,
            less-owed s (offers_to v) (Load r k b n f g x) P,
            ap (count is_loaded) (takes-alone s r (Load r k b n f g x) P (eq-eqb r r refl) h),
            count-cons is_loaded (Load r k b n f g x) (let_go r (hands P)),
          );
      room = λ some. listed (has_room s P) v (children s 0) (facts.room wait) child;
      none = before.none;
    }
fed s (LoadRefused r k n z ∷ P) v child wait input h quiet =
    go_on s v (LoadRefused r k n z) P (omega (arith, less-owed s (out_of 0 any) (LoadRefused r k n z) P, less-owed s (offers_to v) (LoadRefused r k n z) P))
    (λ room. room) refl (fed s P v child wait input (and_parts _ _ h).0 quiet)
fed s (Tick t ∷ P) v child wait input h quiet =
    go_on s v (Tick t) P (omega (
      arith,
      less-owed s (out_of 0 any) (Tick t) P,
      less-owed s (offers_to v) (Tick t) P,
      looks-none s (Tick t ∷ P) 0 any (node_numbers s) (none_numbered_0 s),
      no_offers-looks s (Tick t ∷ P) v (node_numbers s),
    )) (λ room. room) refl
    (fed s P v child wait input (and_parts _ _ h).0 quiet)
fed s (Issue r k ∷ P) v child wait input h quiet =
    let l = (row_laws.issue s P r k).0 (row_of s (Issue r k) P (λ d. refl) h) in
    go_on s v (Issue r k) P (omega (
      arith,
      less-owed s (out_of 0 any) (Issue r k) P,
      less-owed s (offers_to v) (Issue r k) P,
      count-let_go is_loaded r _ (hands P) l.5,
    )) (λ room. room) refl (fed s P v child wait input (and_parts _ _ h).0 quiet)
fed s (Emit w m i why ∷ P) v child wait input h quiet =
    let whole_outs = count-append (out_of 0 any) (map (offer (frame m i)) (offered_to s P w)) (drop 1 (owed s P)) in
    let whole_offers = count-append (offers_to v) (map (offer (frame m i)) (offered_to s P w)) (drop 1 (owed s P)) in
    let was = owed-Emit_out s w m i why P 0 any h in
    let at_input : bit (eqb (node s v).input w) ≡ bit (eqb w 0 && true) = ap (λ (u : ℕ). bit (eqb u w)) input ∙ turned w in
    go_on s v (Emit w m i why) P (omega (
      arith,
      whole_outs,
      whole_offers,
      was,
      no_outs_in_offers 0 any (frame m i) (offered_to s P w),
      offers-are v (frame m i) (offered_to s P w),
      count-offered (is_number v) s P w,
      child_once s w v,
      at_input,
      count-drop (offers_to v) (owed s P),
    ))
    (λ room. room) refl (fed s P v child wait input (and_parts _ _ h).0 quiet)
  where
    turned : (w : ℕ) → bit (eqb 0 w) ≡ bit (eqb w 0 && true)
    turned zero = refl
    turned (suc w) =
        let a : 0 ≢ suc w = omega arith in
        let b : suc w ≢ 0 = omega arith in
        ap bit (ne_eqb 0 (suc w) a) ∙ sym (ap (λ (c : Bool). bit (c && true)) (ne_eqb (suc w) 0 b))
fed s (Accept w m i ∷ P) v child wait input h quiet =
    let before = fed s P v child wait input (and_parts _ _ h).0 quiet in
    let a = owed-answered s (Accept w m i) P refl h in
    let same = answers-by_Accept s P w m i a.head a.answer in
    let was : count (offers_to v) (owed s P) ≡ bit (eqb w v) + count (offers_to v) a.rest =
    ap (count (offers_to v)) a.is ∙ (count-cons (offers_to v) a.head a.rest ∙ ap (λ (d : Entry). bit (offers_to v d) + count (offers_to v) a.rest) same) in
    let left : count (offers_to v) (drop 1 (owed s P)) ≡ count (offers_to v) a.rest = ap (λ (ds : List Entry). count (offers_to v) (drop 1 ds)) a.is in
    elim (cases_Bool (eqb w v)) [
      | inl here ↦ record {
        few = omega (arith, before.few, was, left, count-drop (out_of 0 any) (owed s P));
        room = λ some. absurd (omega (arith, some, before.few, was, left, ap bit here, count-drop (out_of 0 any) (owed s P)));
        none = before.none;
      }
      | inr away ↦
          go_on s v (Accept w m i) P (omega (arith, was, left, count-drop (out_of 0 any) (owed s P)))
          (stays s v (Accept w m i) P (queue_laws.accept_elsewhere v w m i P (eqb-false w v away))) refl before
    ]
fed s (Full w m i ∷ P) v child wait input h quiet =
    let before = fed s P v child wait input (and_parts _ _ h).0 quiet in
    let a = owed-answered s (Full w m i) P refl h in
    let none_owed : count is_any_full (a.head ∷ a.rest) ≡ 0 = sym (ap (count is_any_full) a.is) ∙ no_full_owed s P in
    let f = full-answers s P w m i a.head a.answer (head-no_full a.head a.rest none_owed) in
    elim (cases_Bool (eqb w v)) [
      | inl here ↦
          let is : w ≡ v = eqb-true w v here in
          let offered_v : offers_to v a.head ≡ true = ap (offers_to v) f.0 ∙ here in
          let was : count (offers_to v) (owed s P) ≡ bit (offers_to v a.head) + count (offers_to v) a.rest =
          ap (count (offers_to v)) a.is ∙ count-cons (offers_to v) a.head a.rest in
          let full : has_room s P v ≡ false = sym (ap (has_room s P) is) ∙ f.1 in
          absurd (true≢false (sym (before.room (omega (arith, was, ap bit offered_v))) ∙ full))
      | inr away ↦
          go_on s v (Full w m i) P (omega (arith, less-owed s (out_of 0 any) (Full w m i) P, less-owed s (offers_to v) (Full w m i) P))
          (λ room. room) away before
    ]
fed s (Take r w m i ∷ P) v child wait input h quiet =
    let before = fed s P v child wait input (and_parts _ _ h).0 quiet in
    elim (cases_Bool (eqb w v)) [
      | inl here ↦
          subst (λ (u : ℕ). is_legal s (Take r u m i ∷ P) ≡ true → Fed s v (Take r u m i ∷ P)) (sym (eqb-true w v here)) (λ g. go_on s v (Take r v m i) P
          (omega (arith, less-owed s (out_of 0 any) (Take r v m i) P, less-owed s (offers_to v) (Take r v m i) P, count-let_go-le is_loaded r (hands P)))
          (shorter s v (Take r v m i) (frame m i) P (queue_laws.take s r v m i P (row_of s (Take r v m i) P (λ d. refl) g))) refl before) h
      | inr away ↦
          go_on s v (Take r w m i) P (omega (
            arith,
            less-owed s (out_of 0 any) (Take r w m i) P,
            less-owed s (offers_to v) (Take r w m i) P,
            count-let_go-le is_loaded r (hands P),
          )) (stays s v (Take r w m i) P (queue_laws.take_elsewhere r v w m i P (eqb-false w v away))) refl before
    ]
fed s (TakeBlock f x r w m i b n g ∷ P) v child wait input h quiet =
    let before = fed s P v child wait input (and_parts _ _ h).0 quiet in
    let e : ℕ → Entry = λ u. TakeBlock f x r u m i b n g in
    elim (cases_Bool (eqb w v)) [
      | inl here ↦
          subst (λ (u : ℕ). is_legal s (e u ∷ P) ≡ true → Fed s v (e u ∷ P)) (sym (eqb-true w v here))
          (λ o. go_on s v (e v) P (omega (arith, less-owed s (out_of 0 any) (e v) P, less-owed s (offers_to v) (e v) P, count-let_go-le is_loaded r (hands P)))
          (shorter s v (e v) (frame m i) P (queue_laws.take_block s r v m i b n f g x P (row_of s (e v) P (λ d. refl) o))) refl before) h
      | inr away ↦
          go_on s v (e w) P (omega (arith, less-owed s (out_of 0 any) (e w) P, less-owed s (offers_to v) (e w) P, count-let_go-le is_loaded r (hands P)))
          (stays s v (e w) P (queue_laws.take_block_elsewhere r v w m i b n f g x P (eqb-false w v away))) refl before
    ]
fed s (PoolDrop r w m i n z ∷ P) v child wait input h quiet =
    let before = fed s P v child wait input (and_parts _ _ h).0 quiet in
    let e : ℕ → Entry = λ u. PoolDrop r u m i n z in
    elim (cases_Bool (eqb w v)) [
      | inl here ↦
          subst (λ (u : ℕ). is_legal s (e u ∷ P) ≡ true → Fed s v (e u ∷ P)) (sym (eqb-true w v here))
          (λ o. go_on s v (e v) P (omega (arith, less-owed s (out_of 0 any) (e v) P, less-owed s (offers_to v) (e v) P, count-let_go-le is_loaded r (hands P)))
          (shorter s v (e v) (frame m i) P (queue_laws.pool_drop s r v m i n z P (row_of s (e v) P (λ d. refl) o))) refl before) h
      | inr away ↦
          go_on s v (e w) P (omega (arith, less-owed s (out_of 0 any) (e w) P, less-owed s (offers_to v) (e w) P, count-let_go-le is_loaded r (hands P)))
          (stays s v (e w) P (queue_laws.pool_drop_elsewhere r v w m i n z P (eqb-false w v away))) refl before
    ]
fed s (Put r w m i f ∷ P) v child wait input h quiet =
    let at : AllOutAt w (calls_for s P (Put r w m i f)) = result-at s w (frame m i) f P (node s w).work in
    go_on s v (Put r w m i f) P (omega (
      arith,
      less-owed s (out_of 0 any) (Put r w m i f) P,
      less-owed s (offers_to v) (Put r w m i f) P,
      none_elsewhere w 0 any
          (calls_for s P (Put r w m i f)) (puts_at_node s r w m i f P h) at,
      no_offers v w (calls_for s P (Put r w m i f)) at,
      count-let_go-le is_loaded r (hands P),
    ))
    (λ room. room) refl (fed s P v child wait input (and_parts _ _ h).0 quiet)
fed s (Settle r w ∷ P) v child wait input h quiet =
    let at : AllOutAt w (calls_for s P (Settle r w)) = flush-at w (least_first s (waiting s w P)) in
    go_on s v (Settle r w) P (omega (
      arith,
      less-owed s (out_of 0 any) (Settle r w) P,
      less-owed s (offers_to v) (Settle r w) P,
      none_elsewhere w 0 any (calls_for s P (Settle r w)) (settles_node s r w P h) at,
      no_offers v w (calls_for s P (Settle r w)) at,
    )) (λ room. room) refl
    (fed s P v child wait input (and_parts _ _ h).0 quiet)
fed s (Saved r w m i ∷ P) v child wait input h quiet =
    go_on s v (Saved r w m i) P (omega (
      arith,
      less-owed s (out_of 0 any) (Saved r w m i) P,
      less-owed s (offers_to v) (Saved r w m i) P,
      count-let_go-le is_loaded r (hands P),
    )) (λ room. room) refl (fed s P v child wait input (and_parts _ _ h).0 quiet)
fed s (Reclaim r ∷ P) v child wait input h quiet = absurd (true≢false quiet)
fed s (SortDrop w m i ∷ P) v child wait input h quiet =
    go_on s v (SortDrop w m i) P (omega (arith, less-owed s (out_of 0 any) (SortDrop w m i) P, less-owed s (offers_to v) (SortDrop w m i) P))
    (λ room. room) refl (fed s P v child wait input (and_parts _ _ h).0 quiet)
fed s (Save r w m i g ∷ P) v child wait input h quiet =
    go_on s v (Save r w m i g) P (omega (
      arith,
      less-owed s (out_of 0 any) (Save r w m i g) P,
      less-owed s (offers_to v) (Save r w m i g) P,
      count-let_go-le is_loaded r (hands P),
    )) (λ room. room) refl (fed s P v child wait input (and_parts _ _ h).0 quiet)
fed s (Close r ∷ P) v child wait input h quiet =
    go_on s v (Close r) P (omega (arith, less-owed s (out_of 0 any) (Close r) P, less-owed s (offers_to v) (Close r) P)) (λ room. room) refl
    (fed s P v child wait input (and_parts _ _ h).0 quiet)
fed s (Leave r ∷ P) v child wait input h quiet =
    go_on s v (Leave r) P (omega (arith, less-owed s (out_of 0 any) (Leave r) P, less-owed s (offers_to v) (Leave r) P)) (λ room. room) refl
    (fed s P v child wait input (and_parts _ _ h).0 quiet)

-- a node is among the children of its input
numbered : (v k : ℕ) (ns : List Node) → k < length ns → 1 ≤ count (is_number (v + k)) (numbers_from v ns)
numbered v k [] h = absurd (omega (arith, h))
numbered v zero (n ∷ ns) h =
    let e : v ≡ v + 0 = omega arith in omega (arith, count-cons (is_number (v + 0)) v (numbers_from (v + 1) ns), ap bit (eq-eqb v (v + 0) e))
numbered v (suc k) (n ∷ ns) h =
    let e : v + 1 + k ≡ v + suc k = omega arith in
    let rest : 1 ≤ count (is_number (v + suc k)) (numbers_from (v + 1) ns) =
    subst (λ (u : ℕ). 1 ≤ count (is_number u) (numbers_from (v + 1) ns)) e (numbered (v + 1) k ns (omega (arith, h))) in
    omega (arith, rest, count-cons (is_number (v + suc k)) v (numbers_from (v + 1) ns))

kept : (p : ℕ → Bool) (v : ℕ) (us : List ℕ) → p v ≡ true → 1 ≤ count (is_number v) us → 1 ≤ count (is_number v) (filter p us)
kept p v [] pass h = absurd (omega (arith, h))
kept p v (u ∷ us) pass h =
    elim (cases_Bool (eqb u v)) [
      | inl here ↦
          let pu : p u ≡ true = ap p (eqb-true u v here) ∙ pass in
          rw pu (omega (arith, count-cons (is_number v) u (filter p us), ap bit here))
      | inr away ↦
          let rest = kept p v us pass (omega (arith, h, count-cons (is_number v) u us, ap bit away)) in
          elim (cases_Bool (p u)) [
            | inl in_p ↦ rw in_p (omega (arith, rest, count-cons (is_number v) u (filter p us)))
            | inr out_p ↦ rw out_p rest
          ]
    ]

pub child_of : (s : Setting) (v w : ℕ) → is_node s v ≡ true → (node s v).input ≡ w → 1 ≤ count (is_number v) (children s w)
child_of s zero w number input = absurd (false≢true (and_parts (ltb 0 0) (leb 0 (length s.nodes)) number).0)
child_of s (suc k) w number input =
    let high : suc k ≤ length s.nodes = leb-true (suc k) (length s.nodes) (and_parts (ltb 0 (suc k)) (leb (suc k) (length s.nodes)) number).1 in
    let e : 1 + k ≡ suc k = omega arith in
    kept (λ c. eqb (node s c).input w) (suc k) (node_numbers s) (eq-eqb (node s (suc k)).input w input)
    (subst (λ (u : ℕ). 1 ≤ count (is_number u) (node_numbers s)) e (numbered 1 k s.nodes (omega (arith, high))))

-- no frame finds its queue full
pub finds_room : (s : Setting) (P : Past) (v : ℕ) → is_node s v ≡ true → s.wait ≡ true → (node s v).input ≡ 0 → is_legal s P ≡ true
    → has_reclaim P ≡ false → count (is_full v) P ≡ 0
finds_room s P v number wait input h quiet = (fed s P v (child_of s v 0 number input) wait input h quiet).none
