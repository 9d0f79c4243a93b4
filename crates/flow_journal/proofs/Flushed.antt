-- In a history nothing waits at a settled node: what waits there is owed.
use Rattle.std.proofs.Common.{◌≡◌, ◌≢◌, ℕ, ◌≤◌, Bool, true, false, ◌&&◌, eqb, List, [], ◌∷◌, map, drop, refl, sym, ap, ◌∙◌, subst, arith, inl, inr}
use Rattle.std.proofs.lemmas.Bool.{and_parts, and_from, false≢true, true≢false, eqb-true, eq-eqb, cases_Bool}
use Rattle.nd_base.specs.declared.frame.FrameName.{FrameName}
use Rattle.flow_journal.specs.declared.entry.Entry.{Entry}
use Rattle.flow_journal.specs.declared.entry.Entry.TheVariants.{Load, LoadRefused, Tick, Issue, Emit, Accept, Full, Take, TakeBlock, PoolDrop, Put}
use Rattle.flow_journal.specs.declared.entry.Entry.TheVariants.{SortDrop, Settle, Save, Saved, Close, Leave, Reclaim}
use Rattle.flow_journal.specs.Setting.{Setting, is_sorted}
use Rattle.flow_journal.specs.Turns.{offered_to}
use Rattle.flow_journal.specs.Pasts.{Past, frame, same}
use Rattle.flow_journal.specs.Ended.{is_settled}
use Rattle.flow_journal.specs.Waiting.{Waiting, waiting, not_waiting, least_first}
use Rattle.flow_journal.specs.Following.{offer, calls_for, owed}
use Rattle.flow_journal.specs.Histories.{is_legal, is_history, is_nothing, answers}
use Rattle.flow_journal.proofs.Changes.{put_laws}
use Rattle.flow_journal.proofs.Steps.{same_refl}
use Rattle.flow_journal.proofs.Hands.{row_of}
use Rattle.flow_journal.proofs.EntryCounts.{count, bit, count-cons, count-append, owed-first, owed-answered, answers-by_Accept, answers-by_Tick}
use Rattle.flow_journal.proofs.Settled.{put-unsettled}
use Rattle.flow_journal.proofs.Outs.{out_of, waits, count-flush, count-least_first}
use Rattle.flow_journal.proofs.Issues.{settles_node}
use Rattle.flow_journal.proofs.Emissions.{removed, owed-waits, owed-Emit_out, owed-SortDrop_out}
use Rattle.flow_journal.specs.Pushes.{is_nothing-true}

-- WHAT WAITS AT A SETTLED NODE IS OWED

-- the head of what was owed isn't such an entry, so it isn't missed
head-other : (p : Entry → Bool) (ds : List Entry) (head : Entry) (rest : List Entry) → ds ≡ head ∷ rest → p head ≡ false → count p ds ≡ count p (drop 1 ds)
head-other p ds head rest is other =
    let whole = ap (count p) is ∙ count-cons p head rest in
    let left = ap (λ (xs : List Entry). count p (drop 1 xs)) is in
    omega (arith, whole, left, ap bit other)

-- what comes after a first entry
after-first : (s : Setting) (e : Entry) (P : Past) (v : ℕ) (t : FrameName → Bool) (n : ℕ) → ((d : Entry) → answers s P e d ≡ false) → is_legal s (e ∷ P) ≡ true
    → n ≤ count (out_of v t) (owed s P) → n ≡ 0
after-first s e P v t n never h most = omega (arith, most, ap (count (out_of v t)) (owed-first s e P never h))

full-head : (s : Setting) (P : Past) (w m k v : ℕ) (t : FrameName → Bool) (d : Entry) → answers s P (Full w m k) d ≡ true → out_of v t d ≡ false
full-head s P w m k v t (Accept c n j) h = refl
full-head s P w m k v t (Full c n j) h = refl
full-head s P w m k v t _ h = absurd (false≢true h)

pub waits-owed : (s : Setting) (P : Past) (v : ℕ) (t : FrameName → Bool) → v ≢ 0 → is_sorted s v ≡ true → is_legal s P ≡ true → is_settled v P ≡ true
    → count (waits t) (waiting s v P) ≤ count (out_of v t) (owed s P)
waits-owed s [] v t nz sorted h c = absurd (false≢true c)
waits-owed s (Settle r w ∷ P) v t nz sorted h c =
    elim (cases_Bool (eqb w v)) [
      | inl here ↦
          let is : w ≡ v = eqb-true w v here in
          let calls : count (out_of v t) (calls_for s P (Settle r w)) ≡ count (waits t) (waiting s v P) =
          subst (λ (u : ℕ). count (out_of v t) (calls_for s P (Settle r u)) ≡ count (waits t) (waiting s v P)) (sym is)
          (count-flush v t (least_first s (waiting s v P)) ∙ count-least_first s (waits t) (waiting s v P)) in
          omega (arith, calls, count-append (out_of v t) (calls_for s P (Settle r w)) (drop 1 (owed s P)))
      | inr away ↦
          let none = after-first s (Settle r w) P v t _ (λ d. refl) h (waits-owed s P v t nz sorted (and_parts (is_legal s P) _ h).0 (rw away at c)) in
          omega (arith, none)
    ]
waits-owed s (Put r w m k f ∷ P) v t nz sorted h c =
    let legal : is_legal s P ≡ true = (and_parts _ _ h).0 in
    elim (cases_Bool (eqb w v)) [
      | inl here ↦
          let open_ = put-unsettled s r w m k f P legal (row_of s (Put r w m k f) P (λ d. refl) h) in
          absurd (true≢false (sym c ∙ subst (λ (u : ℕ). is_settled u P ≡ false) (eqb-true w v here) open_))
      | inr away ↦
          let ne : w ≢ v = λ e. true≢false (sym (eq-eqb w v e) ∙ away) in
          let none = after-first s (Put r w m k f) P v t _ (λ d. refl) h (waits-owed s P v t nz sorted legal c) in
          omega (arith, none, ap (count (waits t)) (put_laws.waits_elsewhere s r v w m k f P sorted ne))
    ]
waits-owed s (Emit w m k why ∷ P) v t nz sorted h c =
    let legal : is_legal s P ≡ true = (and_parts _ _ h).0 in
    let before = waits-owed s P v t nz sorted legal c in
    let was = owed-Emit_out s w m k why P v t h in
    let whole = count-append (out_of v t) (map (offer (frame m k)) (offered_to s P w)) (drop 1 (owed s P)) in
    elim (cases_Bool (eqb w v)) [
      | inl here ↦
          let there = owed-Emit_out s w m k why P v (λ x. same x (frame m k)) h in
          let some : 1 ≤ count (waits (λ x. same x (frame m k))) (waiting s v P) =
          omega (arith, owed-waits s P v (λ x. same x (frame m k)) nz sorted legal, there, ap bit (and_from _ _ here (same_refl (frame m k)))) in
          let hit : (eqb w v && t (frame m k)) ≡ t (frame m k) = ap (λ (x : Bool). x && t (frame m k)) here in
          let goes : waiting s v (Emit w m k why ∷ P) ≡ not_waiting (frame m k) (waiting s v P) = rw here refl in
          omega (arith, before, was, whole, ap bit hit, removed (frame m k) t (waiting s v P) some, ap (count (waits t)) goes)
      | inr away ↦
          let stays : waiting s v (Emit w m k why ∷ P) ≡ waiting s v P = rw away refl in
          let miss : (eqb w v && t (frame m k)) ≡ false = ap (λ (x : Bool). x && t (frame m k)) away in
          omega (arith, before, was, whole, ap bit miss, ap (count (waits t)) stays)
    ]
waits-owed s (SortDrop w m k ∷ P) v t nz sorted h c =
    let legal : is_legal s P ≡ true = (and_parts _ _ h).0 in
    let before = waits-owed s P v t nz sorted legal c in
    let was = owed-SortDrop_out s w m k P v t h in
    elim (cases_Bool (eqb w v)) [
      | inl here ↦
          let there = owed-SortDrop_out s w m k P v (λ x. same x (frame m k)) h in
          let some : 1 ≤ count (waits (λ x. same x (frame m k))) (waiting s v P) =
          omega (arith, owed-waits s P v (λ x. same x (frame m k)) nz sorted legal, there, ap bit (and_from _ _ here (same_refl (frame m k)))) in
          let hit : (eqb w v && t (frame m k)) ≡ t (frame m k) = ap (λ (x : Bool). x && t (frame m k)) here in
          let goes : waiting s v (SortDrop w m k ∷ P) ≡ not_waiting (frame m k) (waiting s v P) = rw here refl in
          omega (arith, before, was, ap bit hit, removed (frame m k) t (waiting s v P) some, ap (count (waits t)) goes)
      | inr away ↦
          let stays : waiting s v (SortDrop w m k ∷ P) ≡ waiting s v P = rw away refl in
          let miss : (eqb w v && t (frame m k)) ≡ false = ap (λ (x : Bool). x && t (frame m k)) away in
          omega (arith, before, was, ap bit miss, ap (count (waits t)) stays)
    ]
waits-owed s (Tick u ∷ P) v t nz sorted h c =
    let a = owed-answered s (Tick u) P refl h in
    let other : out_of v t a.head ≡ false = ap (out_of v t) (answers-by_Tick s P u a.head a.answer).1 in
    omega (
      arith,
      waits-owed s P v t nz sorted (and_parts _ _ h).0 c,
      head-other (out_of v t) (owed s P) a.head a.rest a.is other,
      count-append (out_of v t) (calls_for s P (Tick u)) (drop 1 (owed s P)),
    )
waits-owed s (Accept w m k ∷ P) v t nz sorted h c =
    let a = owed-answered s (Accept w m k) P refl h in
    let other : out_of v t a.head ≡ false = ap (out_of v t) (answers-by_Accept s P w m k a.head a.answer) in
    omega (arith, waits-owed s P v t nz sorted (and_parts _ _ h).0 c, head-other (out_of v t) (owed s P) a.head a.rest a.is other)
waits-owed s (Full w m k ∷ P) v t nz sorted h c =
    let a = owed-answered s (Full w m k) P refl h in
    omega (
      arith,
      waits-owed s P v t nz sorted (and_parts _ _ h).0 c,
      head-other (out_of v t) (owed s P) a.head a.rest a.is (full-head s P w m k v t a.head a.answer),
    )
waits-owed s (Load r k b n f g x ∷ P) v t nz sorted h c =
    omega (arith, after-first s (Load r k b n f g x) P v t _ (λ d. refl) h (waits-owed s P v t nz sorted (and_parts _ _ h).0 c))
waits-owed s (LoadRefused r k n z ∷ P) v t nz sorted h c =
    omega (arith, after-first s (LoadRefused r k n z) P v t _ (λ d. refl) h (waits-owed s P v t nz sorted (and_parts _ _ h).0 c))
waits-owed s (Issue r k ∷ P) v t nz sorted h c =
    omega (arith, after-first s (Issue r k) P v t _ (λ d. refl) h (waits-owed s P v t nz sorted (and_parts _ _ h).0 c))
waits-owed s (Take r w m k ∷ P) v t nz sorted h c =
    omega (arith, after-first s (Take r w m k) P v t _ (λ d. refl) h (waits-owed s P v t nz sorted (and_parts _ _ h).0 c))
waits-owed s (TakeBlock f x r w m k b n g ∷ P) v t nz sorted h c =
    omega (arith, after-first s (TakeBlock f x r w m k b n g) P v t _ (λ d. refl) h (waits-owed s P v t nz sorted (and_parts _ _ h).0 c))
waits-owed s (PoolDrop r w m k n z ∷ P) v t nz sorted h c =
    omega (arith, after-first s (PoolDrop r w m k n z) P v t _ (λ d. refl) h (waits-owed s P v t nz sorted (and_parts _ _ h).0 c))
waits-owed s (Save r w m k g ∷ P) v t nz sorted h c =
    omega (arith, after-first s (Save r w m k g) P v t _ (λ d. refl) h (waits-owed s P v t nz sorted (and_parts _ _ h).0 c))
waits-owed s (Saved r w m k ∷ P) v t nz sorted h c =
    omega (arith, after-first s (Saved r w m k) P v t _ (λ d. refl) h (waits-owed s P v t nz sorted (and_parts _ _ h).0 c))
waits-owed s (Close r ∷ P) v t nz sorted h c =
    omega (arith, after-first s (Close r) P v t _ (λ d. refl) h (waits-owed s P v t nz sorted (and_parts _ _ h).0 c))
waits-owed s (Leave r ∷ P) v t nz sorted h c =
    omega (arith, after-first s (Leave r) P v t _ (λ d. refl) h (waits-owed s P v t nz sorted (and_parts _ _ h).0 c))
waits-owed s (Reclaim r ∷ P) v t nz sorted h c =
    omega (arith, after-first s (Reclaim r) P v t _ (λ d. refl) h (waits-owed s P v t nz sorted (and_parts _ _ h).0 c))

none-waiting : (ws : List Waiting) → count (waits (λ a. true)) ws ≡ 0 → ws ≡ []
none-waiting [] h = refl
none-waiting (w ∷ ws) h = absurd (omega (arith, h, count-cons (waits (λ a. true)) w ws))

-- a settled node isn't the driver
settled-node : (s : Setting) (P : Past) (v : ℕ) → is_legal s P ≡ true → is_settled v P ≡ true → v ≢ 0
settled-node s [] v h c e = false≢true c
settled-node s (Settle r w ∷ P) v h c e =
    elim (cases_Bool (eqb w v)) [
      | inl here ↦ settles_node s r w P h (eqb-true w v here ∙ e)
      | inr away ↦ settled-node s P v (and_parts _ _ h).0 (rw away at c) e
    ]
settled-node s (_ ∷ P) v h c e = settled-node s P v (and_parts _ _ h).0 c e

pub list-empty : (s : Setting) (P : Past) (v : ℕ) → is_history s P ≡ true → is_settled v P ≡ true → waiting s v P ≡ []
list-empty s P v h c =
    let p = and_parts (is_legal s P) (is_nothing (owed s P)) h in
    elim (cases_Bool (is_sorted s v)) [
      | inl sorted ↦
          let most = waits-owed s P v (λ a. true) (settled-node s P v p.0 c) sorted p.0 c in
          none-waiting (waiting s v P) (omega (arith, most, ap (count (out_of v (λ a. true))) (is_nothing-true (owed s P) p.1)))
      | inr plain ↦ put_laws.unsorted s v P plain
    ]
