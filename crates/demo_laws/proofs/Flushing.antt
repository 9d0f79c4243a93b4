-- What is flushed is the least that waits, once the node is settled, and nothing is put there any more.
use Rattle.std.proofs.Common.{◌≡◌, ◌≢◌, ℕ, ◌≤◌, Bool, true, false, ◌&&◌, eqb, List, [], ◌∷◌, ◌++◌, map, drop, length, refl, sym, ap, ◌∙◌, subst, arith}
use Rattle.std.proofs.Common.{inl, inr}
use Rattle.std.specs.Prelude.{filter}
use Rattle.std.proofs.lemmas.Bool.{and_parts, and_from, or_parts, or_right, false≢true, true≢false, eq-eqb, eqb-true, eqb-false, cases_Bool}
use Rattle.std.proofs.lemmas.List.{append-nil}
use Rattle.std.proofs.lemmas.List.Elements.{filter-append}
use Rattle.nd_base.specs.declared.frame.FrameName.{FrameName}
use Rattle.flow_journal.specs.declared.entry.Entry.{Entry}
use Rattle.flow_journal.specs.declared.entry.Entry.TheVariants.{Load, LoadRefused, Tick, Issue, Emit, Accept, Full, Take, TakeBlock, PoolDrop, Put}
use Rattle.flow_journal.specs.declared.entry.Entry.TheVariants.{SortDrop, Settle, Save, Saved, Close, Leave, Reclaim}
use Rattle.flow_journal.specs.declared.entry.Why.{Why}
use Rattle.flow_journal.specs.declared.entry.Why.TheVariants.{Flush}
use Rattle.flow_journal.specs.Setting.{Setting, node, id_at, is_sorted, node_numbers}
use Rattle.flow_journal.specs.Turns.{offered_to}
use Rattle.flow_journal.specs.Pasts.{Past, frame}
use Rattle.flow_journal.specs.Ended.{now, settles, is_settled}
use Rattle.flow_journal.specs.Waiting.{Waiting, waiting, not_waiting, least_first}
use Rattle.queue_sort.specs.Sorting.{keeps_step}
use Rattle.flow_journal.specs.Breaks.{prev}
use Rattle.flow_journal.specs.Following.{offer, emit, sorted_result, calls_for, owed}
use Rattle.flow_journal.specs.Histories.{is_legal, is_history, is_nothing, answers, why_number}
use Rattle.flow_journal.proofs.Changes.{put_laws}
use Rattle.flow_journal.proofs.Hands.{row_of}
use Rattle.flow_journal.proofs.EntryCounts.{count, bit, count-cons, count-append, count-drop, puts_of, owed-first, owed-answered, Answered}
use Rattle.flow_journal.proofs.EntryCounts.{answers-by_Emit, answers-by_Accept, answers-by_Tick, answers-by_SortDrop}
use Rattle.flow_journal.proofs.Emissions.{result-sorted, owed-waits, no_outs_in_offers}
use Rattle.flow_journal.proofs.Flushed.{list-empty}
use Rattle.flow_journal.proofs.Leasts.{least_laws}
use Rattle.flow_journal.proofs.Outs.{out_of, is_out_at, AllOutAt, waits, none_elsewhere, result-at, flush-at}
use Rattle.flow_journal.proofs.Settled.{put-unsettled}
use Rattle.run_laws.proofs.Breaks.{sorted-node}
use Rattle.run_laws.proofs.Calls.{Misses, MissesLooks, none-goes_out, none-look, none-looks, none-offers}
use Rattle.run_laws.proofs.Lates.{and-true}
use Rattle.run_laws.proofs.Steps.{emit-answers}
use Rattle.run_laws.proofs.Ticks.{tick-alone}

-- ONLY A SETTLED NODE FLUSHES

-- the entry is an emission of v that is marked flush
abbrev flushes : ℕ → Entry → Bool
flushes v (Emit w m k Flush) = eqb w v
flushes v _ = false

misses : (v : ℕ) → Misses (flushes v)
misses v = record { offers = λ a c. refl; plain = λ u a. refl; rings = λ u a. refl; nows = λ u a. refl }

misses_looks : (v : ℕ) → MissesLooks (flushes v)
misses_looks v = record { step = λ u a. refl; late = λ u a. refl }

abbrev any : FrameName → Bool
any a = true

flushes-le : (v : ℕ) (ds : List Entry) → count (flushes v) ds ≤ count (out_of v any) ds
flushes-le v [] = omega arith
flushes-le v (Emit w m i Flush ∷ ds) =
    omega (
      arith,
      flushes-le v ds,
      count-cons (flushes v) (Emit w m i Flush) ds,
      count-cons (out_of v any) (Emit w m i Flush) ds,
      ap bit (and-true (eqb w v)),
    )
flushes-le v (Emit w m i why ∷ ds) = omega (arith, flushes-le v ds, count-cons (out_of v any) (Emit w m i why) ds)
flushes-le v (SortDrop w m i ∷ ds) = omega (arith, flushes-le v ds, count-cons (out_of v any) (SortDrop w m i) ds)
flushes-le v (_ ∷ ds) = flushes-le v ds

none-there : (v w : ℕ) (ds : List Entry) → eqb w v ≡ false → AllOutAt w ds → count (flushes v) ds ≡ 0
none-there v w ds away all = omega (arith, flushes-le v ds, none_elsewhere w v any ds (eqb-false w v away) all)

none-sorted : (s : Setting) (v : ℕ) (a : FrameName) (before : List Waiting) (P : Past) → count (flushes v) (sorted_result s v a before P) ≡ 0
none-sorted s v a before P =
    elim (cases_Bool (keeps_step (prev s v P) (id_at s a.index))) [
      | inl step ↦ rw step (none-goes_out (flushes v) (misses_looks v) s v (id_at s a.index) (now P) (least_first s before))
      | inr out ↦ elim (cases_Bool (eqb (length before) (node s v).sort)) [
        | inl full ↦ rw (out, full) (none-goes_out (flushes v) (misses_looks v) s v (prev s v P) (now P) (least_first s before))
        | inr room ↦ rw (out, room) (none-look (flushes v) (misses_looks v) s v P)
      ]
    ]

none-more : (v : ℕ) (xs ys : List Entry) → count (flushes v) xs ≡ 0 → count (flushes v) ys ≡ 0 → count (flushes v) (xs ++ drop 1 ys) ≡ 0
none-more v xs ys a b = omega (arith, count-append (flushes v) xs (drop 1 ys), a, b, count-drop (flushes v) ys)

none-flushed : (s : Setting) (P : Past) (v : ℕ) → is_sorted s v ≡ true → is_settled v P ≡ false → is_legal s P ≡ true → count (flushes v) (owed s P) ≡ 0
none-flushed s [] v sorted open_ h = refl
none-flushed s (Tick t ∷ P) v sorted open_ h =
    none-more v (calls_for s P (Tick t)) (owed s P) (none-looks (flushes v) (misses_looks v) s (Tick t ∷ P) (node_numbers s))
    (none-flushed s P v sorted open_ (and_parts _ _ h).0)
none-flushed s (Emit w i j why ∷ P) v sorted open_ h =
    none-more v (calls_for s P (Emit w i j why)) (owed s P) (none-offers (flushes v) (misses v) (frame i j) (offered_to s P w))
    (none-flushed s P v sorted open_ (and_parts _ _ h).0)
none-flushed s (Put r w i j f ∷ P) v sorted open_ h =
    none-more v (calls_for s P (Put r w i j f)) (owed s P)
    (elim (cases_Bool (eqb w v)) [
      | inl here ↦
          subst (λ (u : ℕ). count (flushes v) (calls_for s P (Put r u i j f)) ≡ 0) (sym (eqb-true w v here))
          (ap (count (flushes v)) (result-sorted s v (frame i j) f P (node s v).work (and_parts _ _ sorted).0 sorted)
          ∙ none-sorted s v (frame i j) (waiting s v P) (Put 0 v i j f ∷ P))
      | inr away ↦ none-there v w (calls_for s P (Put r w i j f)) away (result-at s w (frame i j) f P (node s w).work)
    ]) (none-flushed s P v sorted open_ (and_parts _ _ h).0)
none-flushed s (Settle r w ∷ P) v sorted open_ h =
    let both = or_parts (eqb w v) (is_settled v P) open_ in
    none-more v (calls_for s P (Settle r w)) (owed s P)
    (none-there v w (calls_for s P (Settle r w)) both.0 (flush-at w (least_first s (waiting s w P))))
    (none-flushed s P v sorted both.1 (and_parts _ _ h).0)
none-flushed s (e ∷ P) v sorted open_ h = none-more v (calls_for s P e) (owed s P) refl (none-flushed s P v sorted open_ (and_parts _ _ h).0)

flush_mark : (how : Why) → eqb (why_number how) (why_number Flush) ≡ true → how ≡ Flush
flush_mark Flush h = refl
flush_mark _ h = absurd (false≢true h)

-- what is owed first where a flush comes
first-flush : (s : Setting) (P : Past) (v m k : ℕ) → is_legal s (Emit v m k Flush ∷ P) ≡ true → (rest : List Entry) × (owed s P ≡ Emit v m k Flush ∷ rest)
first-flush s P v m k h =
    let a = owed-answered s (Emit v m k Flush) P refl h in
    let x = emit-answers s P v m k Flush a.head a.answer in
    (a.rest, a.is ∙ ap (λ (d : Entry). d ∷ a.rest) (x.1 ∙ ap (Emit v m k) (flush_mark x.0 x.2)))

pub flush-settled : (s : Setting) (P : Past) (v m k : ℕ) → is_sorted s v ≡ true → is_legal s (Emit v m k Flush ∷ P) ≡ true → is_settled v P ≡ true
flush-settled s P v m k sorted h =
    elim (cases_Bool (is_settled v P)) [
      | inl settled ↦ settled
      | inr open_ ↦
          let a = first-flush s P v m k h in
          absurd (omega (
            arith,
            none-flushed s P v sorted open_ (and_parts _ _ h).0,
            ap (count (flushes v)) a.1,
            count-cons (flushes v) (Emit v m k Flush) a.0,
            ap bit (eq-eqb v v refl),
          ))
    ]

-- A SETTLED NODE LETS OUT WHAT WAITS, THE LEAST FIRST

abbrev flushed : ℕ → List Waiting → List Entry
flushed v ws = map (λ (w : Waiting). emit v Flush w.array) ws

-- what of these goes out of the node
abbrev outs_at : ℕ → List Entry → List Entry
outs_at v ds = filter (is_out_at v) ds

abbrev AreFlushed : Setting → ℕ → Past → Type 0
AreFlushed s v P = outs_at v (owed s P) ≡ flushed v (least_first s (waiting s v P))

outs-count : (v : ℕ) (ds : List Entry) → length (outs_at v ds) ≡ count (out_of v any) ds
outs-count v [] = refl
outs-count v (Emit w m i why ∷ ds) =
    omega (
      arith,
      outs-count v ds,
      count-cons (is_out_at v) (Emit w m i why) ds,
      count-cons (out_of v any) (Emit w m i why) ds,
      ap bit (and-true (eqb w v)),
    )
outs-count v (SortDrop w m i ∷ ds) =
    omega (
      arith,
      outs-count v ds,
      count-cons (is_out_at v) (SortDrop w m i) ds,
      count-cons (out_of v any) (SortDrop w m i) ds,
      ap bit (and-true (eqb w v)),
    )
outs-count v (_ ∷ ds) = outs-count v ds

no_items : {X : Type 0} (xs : List X) → length xs ≡ 0 → xs ≡ []
no_items [] h = refl
no_items (x ∷ xs) h = absurd (omega (arith, h))

all-flushed : (v : ℕ) (ws : List Waiting) → outs_at v (flushed v ws) ≡ flushed v ws
all-flushed v [] = refl
all-flushed v (w ∷ ws) = rw (eq-eqb v v refl) (ap (λ (ds : List Entry). emit v Flush w.array ∷ ds) (all-flushed v ws))

outs-more : (v : ℕ) (xs ys : List Entry) → count (out_of v any) xs ≡ 0 → outs_at v (xs ++ ys) ≡ outs_at v ys
outs-more v xs ys none =
    filter-append (is_out_at v) xs ys ∙ ap (λ (ds : List Entry). ds ++ outs_at v ys) (no_items (outs_at v xs) (omega (arith, outs-count v xs, none)))

-- where nothing waits nothing is to go out
nothing-left : (s : Setting) (v : ℕ) (P : Past) → is_sorted s v ≡ true → is_legal s P ≡ true → waiting s v P ≡ [] → AreFlushed s v P
nothing-left s v P sorted h none =
    let few = owed-waits s P v any (sorted-node s v sorted) sorted h in
    no_items (outs_at v (owed s P)) (omega (arith, outs-count v (owed s P), few, ap (count (waits any)) none))
    ∙ ap (λ (ws : List Waiting). flushed v (least_first s ws)) (sym none)

-- a first entry comes where nothing waits
at-first : (s : Setting) (v : ℕ) (e : Entry) (P : Past) → is_sorted s v ≡ true → ((d : Entry) → answers s P e d ≡ false) → is_legal s (e ∷ P) ≡ true
    → is_settled v P ≡ true → waiting s v (e ∷ P) ≡ waiting s v P → AreFlushed s v (e ∷ P)
at-first s v e P sorted never h settled same =
    let legal : is_legal s P ≡ true = (and_parts _ _ h).0 in
    let history : is_history s P ≡ true = and_from (is_legal s P) _ legal (ap is_nothing (owed-first s e P never h)) in
    nothing-left s v (e ∷ P) sorted h (same ∙ list-empty s P v history settled)

-- the first of what is owed goes elsewhere
at-other : (s : Setting) (v : ℕ) (e : Entry) (P : Past) (a : Answered s P e (owed s P)) → is_out_at v a.head ≡ false
    → count (out_of v any) (calls_for s P e) ≡ 0 → waiting s v (e ∷ P) ≡ waiting s v P → AreFlushed s v P → AreFlushed s v (e ∷ P)
at-other s v e P a off none same before =
    let skip : outs_at v (owed s P) ≡ outs_at v a.rest = ap (outs_at v) a.is ∙ rw off refl in
    outs-more v (calls_for s P e) (drop 1 (owed s P)) none
    ∙ (ap (λ (ds : List Entry). outs_at v (drop 1 ds)) a.is
    ∙ (sym skip ∙ (before ∙ ap (λ (ws : List Waiting). flushed v (least_first s ws)) (sym same))))

-- the first of what is owed is the least one
record IsFlushedFirst (s : Setting) (v : ℕ) (P : Past) (head : Entry) (rest : List Entry) : Type 0 where
  least : Waiting
  others : List Waiting
  order : least_first s (waiting s v P) ≡ least ∷ others
  is : head ≡ emit v Flush least.array
  left : outs_at v rest ≡ flushed v others

split : (v : ℕ) (ws : List Waiting) (head : Entry) (rest : List Entry) → head ∷ rest ≡ flushed v ws
    → (w : Waiting) × (us : List Waiting) × (ws ≡ w ∷ us) × (head ≡ emit v Flush w.array) × (rest ≡ flushed v us)
split v [] head rest h = absurd (cc)
split v (w ∷ us) head rest h = (w, us, refl, cc, cc)

flushed-first : (s : Setting) (v : ℕ) (P : Past) (head : Entry) (rest : List Entry) → owed s P ≡ head ∷ rest → is_out_at v head ≡ true → AreFlushed s v P
    → IsFlushedFirst s v P head rest
flushed-first s v P head rest is out before =
    let hit : outs_at v (owed s P) ≡ head ∷ outs_at v rest = ap (outs_at v) is ∙ rw out refl in
    let x = split v (least_first s (waiting s v P)) head (outs_at v rest) (sym hit ∙ before) in
    record { least = x.0; others = x.1; order = x.2; is = x.3; left = x.4 }

same-frame : (v m k : ℕ) (why : Why) (a : FrameName) → Emit v m k why ≡ emit v Flush a → a ≡ frame m k
same-frame v m k why a h =
    let one : m ≡ a.maker = cc in
    let two : k ≡ a.index = cc in
    ap (λ (i : ℕ). frame i a.index) (sym one) ∙ ap (frame m) (sym two)

are-flushed : (s : Setting) (P : Past) (v : ℕ) → is_sorted s v ≡ true → is_legal s P ≡ true → is_settled v P ≡ true → AreFlushed s v P
are-flushed s [] v sorted h c = absurd (false≢true c)
are-flushed s (Settle r w ∷ P) v sorted h c =
    elim (cases_Bool (eqb w v)) [
      | inr away ↦ at-first s v (Settle r w) P sorted (λ d. refl) h (rw away at c) refl
      | inl here ↦
          let none : owed s P ≡ [] = owed-first s (Settle r w) P (λ d. refl) h in
          subst (λ (u : ℕ). outs_at v (flushed u (least_first s (waiting s u P)) ++ drop 1 (owed s P)) ≡ flushed v (least_first s (waiting s v P)))
          (sym (eqb-true w v here))
          (filter-append (is_out_at v) (flushed v (least_first s (waiting s v P))) (drop 1 (owed s P))
          ∙ (ap (λ (ds : List Entry). outs_at v (flushed v (least_first s (waiting s v P))) ++ outs_at v (drop 1 ds)) none
          ∙ (append-nil (outs_at v (flushed v (least_first s (waiting s v P)))) ∙ all-flushed v (least_first s (waiting s v P)))))
    ]
are-flushed s (Put r w m k f ∷ P) v sorted h c =
    let legal : is_legal s P ≡ true = (and_parts _ _ h).0 in
    elim (cases_Bool (eqb w v)) [
      | inl here ↦
          let open_ = put-unsettled s r w m k f P legal (row_of s (Put r w m k f) P (λ d. refl) h) in
          absurd (true≢false (sym c ∙ subst (λ (u : ℕ). is_settled u P ≡ false) (eqb-true w v here) open_))
      | inr away ↦
          at-first s v (Put r w m k f) P sorted (λ d. refl) h c (put_laws.waits_elsewhere s r v w m k f P sorted (eqb-false w v away))
    ]
are-flushed s (Emit w m k why ∷ P) v sorted h c =
    let legal : is_legal s P ≡ true = (and_parts _ _ h).0 in
    let a = owed-answered s (Emit w m k why) P refl h in
    let x = answers-by_Emit s P w m k why a.head a.answer in
    let before = are-flushed s P v sorted legal c in
    let none = no_outs_in_offers v any (frame m k) (offered_to s P w) in
    elim (cases_Bool (eqb w v)) [
      | inr away ↦ at-other s v (Emit w m k why) P a (ap (is_out_at v) x.1 ∙ away) none (rw away refl) before
      | inl here ↦
          let b = flushed-first s v P a.head a.rest a.is (ap (is_out_at v) x.1 ∙ here) before in
          let is : w ≡ v = eqb-true w v here in
          let head : Emit v m k x.0 ≡ emit v Flush b.least.array = ap (λ (u : ℕ). Emit u m k x.0) (sym is) ∙ (sym x.1 ∙ b.is) in
          let name : b.least.array ≡ frame m k = same-frame v m k x.0 b.least.array head in
          let gone : waiting s v (Emit w m k why ∷ P) ≡ not_waiting (frame m k) (waiting s v P) =
          subst (λ (u : ℕ). waiting s v (Emit u m k why ∷ P) ≡ not_waiting (frame m k) (waiting s v P)) (sym is) (put_laws.goes s v m k why P) in
          let goes : waiting s v (Emit w m k why ∷ P) ≡ not_waiting b.least.array (waiting s v P) =
          gone ∙ ap (λ (n : FrameName). not_waiting n (waiting s v P)) (sym name) in
          let left : least_first s (waiting s v (Emit w m k why ∷ P)) ≡ b.others =
          ap (least_first s) goes ∙ least_laws.left s (waiting s v P) b.least b.others b.order in
          outs-more v (map (offer (frame m k)) (offered_to s P w)) (drop 1 (owed s P)) none
          ∙ (ap (λ (ds : List Entry). outs_at v (drop 1 ds)) a.is ∙ (b.left ∙ ap (flushed v) (sym left)))
    ]
are-flushed s (SortDrop w m k ∷ P) v sorted h c =
    let legal : is_legal s P ≡ true = (and_parts _ _ h).0 in
    let a = owed-answered s (SortDrop w m k) P refl h in
    let x = answers-by_SortDrop s P w m k a.head a.answer in
    let before = are-flushed s P v sorted legal c in
    elim (cases_Bool (eqb w v)) [
      | inr away ↦ at-other s v (SortDrop w m k) P a (ap (is_out_at v) x ∙ away) refl (rw away refl) before
      | inl here ↦
          let b = flushed-first s v P a.head a.rest a.is (ap (is_out_at v) x ∙ here) before in
          let never : SortDrop w m k ≡ emit v Flush b.least.array = sym x ∙ b.is in
          absurd (cc)
    ]
are-flushed s (Tick u ∷ P) v sorted h c =
    let legal : is_legal s P ≡ true = (and_parts _ _ h).0 in
    let a = owed-answered s (Tick u) P refl h in
    let other : is_out_at v a.head ≡ false = ap (is_out_at v) (answers-by_Tick s P u a.head a.answer).1 in
    let alone : a.rest ≡ [] = sym (ap (drop 1) a.is) ∙ tick-alone s u P h in
    let none : outs_at v (owed s P) ≡ [] = ap (outs_at v) (a.is ∙ ap (λ (ds : List Entry). a.head ∷ ds) alone) ∙ rw other refl in
    nothing-left s v (Tick u ∷ P) sorted h (nothing-waits s (waiting s v P) v (sym (are-flushed s P v sorted legal c) ∙ none))
  where
    unflushed : (v : ℕ) (ws : List Waiting) → flushed v ws ≡ [] → ws ≡ []
    unflushed v [] h = refl
    unflushed v (w ∷ ws) h = absurd (cc)

    nothing-waits : (s : Setting) (ws : List Waiting) (v : ℕ) → flushed v (least_first s ws) ≡ [] → ws ≡ []
    nothing-waits s ws v h = least_laws.none s ws (unflushed v (least_first s ws) h)
are-flushed s (Accept w m k ∷ P) v sorted h c =
    let a = owed-answered s (Accept w m k) P refl h in
    at-other s v (Accept w m k) P a (ap (is_out_at v) (answers-by_Accept s P w m k a.head a.answer)) refl refl
    (are-flushed s P v sorted (and_parts _ _ h).0 c)
are-flushed s (Full w m k ∷ P) v sorted h c =
    let a = owed-answered s (Full w m k) P refl h in
    at-other s v (Full w m k) P a (full-head s P w m k v a.head a.answer) refl refl (are-flushed s P v sorted (and_parts _ _ h).0 c)
  where
    full-head : (s : Setting) (P : Past) (w m k v : ℕ) (d : Entry) → answers s P (Full w m k) d ≡ true → is_out_at v d ≡ false
    full-head s P w m k v (Accept c n j) h = refl
    full-head s P w m k v (Full c n j) h = refl
    full-head s P w m k v _ h = absurd (false≢true h)
are-flushed s (Load r k b n f g x ∷ P) v sorted h c = at-first s v (Load r k b n f g x) P sorted (λ d. refl) h c refl
are-flushed s (LoadRefused r k n z ∷ P) v sorted h c = at-first s v (LoadRefused r k n z) P sorted (λ d. refl) h c refl
are-flushed s (Issue r k ∷ P) v sorted h c = at-first s v (Issue r k) P sorted (λ d. refl) h c refl
are-flushed s (Take r w m k ∷ P) v sorted h c = at-first s v (Take r w m k) P sorted (λ d. refl) h c refl
are-flushed s (TakeBlock f x r w m k b n g ∷ P) v sorted h c = at-first s v (TakeBlock f x r w m k b n g) P sorted (λ d. refl) h c refl
are-flushed s (PoolDrop r w m k n z ∷ P) v sorted h c = at-first s v (PoolDrop r w m k n z) P sorted (λ d. refl) h c refl
are-flushed s (Save r w m k g ∷ P) v sorted h c = at-first s v (Save r w m k g) P sorted (λ d. refl) h c refl
are-flushed s (Saved r w m k ∷ P) v sorted h c = at-first s v (Saved r w m k) P sorted (λ d. refl) h c refl
are-flushed s (Close r ∷ P) v sorted h c = at-first s v (Close r) P sorted (λ d. refl) h c refl
are-flushed s (Leave r ∷ P) v sorted h c = at-first s v (Leave r) P sorted (λ d. refl) h c refl
are-flushed s (Reclaim r ∷ P) v sorted h c = at-first s v (Reclaim r) P sorted (λ d. refl) h c refl

-- the least one is flushed
pub flush-least : (s : Setting) (P : Past) (v m k : ℕ) → is_sorted s v ≡ true → is_legal s (Emit v m k Flush ∷ P) ≡ true
    → (w : Waiting) × (rest : List Waiting) × (least_first s (waiting s v P) ≡ w ∷ rest) × (w.array ≡ frame m k)
flush-least s P v m k sorted h =
    let a = first-flush s P v m k h in
    let settled = flush-settled s P v m k sorted h in
    let b = flushed-first s v P (Emit v m k Flush) a.0 a.1 (eq-eqb v v refl) (are-flushed s P v sorted (and_parts _ _ h).0 settled) in
    (b.least, b.others, b.order, same-frame v m k Flush b.least.array b.is)

-- NOTHING IS PUT AT A SETTLED NODE

still-settled : (v : ℕ) (newer P : Past) → is_settled v P ≡ true → is_settled v (newer ++ P) ≡ true
still-settled v [] P h = h
still-settled v (e ∷ newer) P h = or_right (settles v e) (is_settled v (newer ++ P)) (still-settled v newer P h)

pub puts-over : (s : Setting) (v : ℕ) (t : FrameName → Bool) (newer P : Past) → is_legal s (newer ++ P) ≡ true → is_settled v P ≡ true
    → count (puts_of v t) (newer ++ P) ≡ count (puts_of v t) P
puts-over s v t [] P h c = refl
puts-over s v t (Put r w m k f ∷ newer) P h c =
    let legal : is_legal s (newer ++ P) ≡ true = (and_parts _ _ h).0 in
    let open_ = put-unsettled s r w m k f (newer ++ P) legal (row_of s (Put r w m k f) (newer ++ P) (λ d. refl) h) in
    let away : eqb w v ≡ false = elim (cases_Bool (eqb w v)) [
      | inr off ↦ off
      | inl here ↦
          absurd (true≢false (sym (still-settled v newer P c) ∙ subst (λ (u : ℕ). is_settled u (newer ++ P) ≡ false) (eqb-true w v here) open_))
    ] in
    let miss : puts_of v t (Put r w m k f) ≡ false = ap (λ (x : Bool). x && t (frame m k)) away in
    omega (arith, puts-over s v t newer P legal c, count-cons (puts_of v t) (Put r w m k f) (newer ++ P), ap bit miss)
puts-over s v t (e ∷ newer) P h c = puts-over s v t newer P (and_parts _ _ h).0 c
