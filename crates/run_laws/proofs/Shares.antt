-- Each drop after an Accept takes one array out of the accepted list.
use Rattle.std.proofs.Common.{◌≡◌, ◌≢◌, ℕ, ◌+◌, ◌≤◌, Bool, true, false, not, ◌&&◌, cond, eqb, List, [], ◌∷◌, ◌++◌, refl, sym, ap, ◌∙◌, subst, arith, inl}
use Rattle.std.proofs.Common.{inr, ◌⊎◌}
use Rattle.std.specs.Prelude.{filter}
use Rattle.std.specs.List.{list_any}
use Rattle.std.proofs.lemmas.Bool.{and_parts, and_from, or_from, true≢false, eq-eqb, eqb-true, eqb-false, cases_Bool}
use Rattle.std.proofs.lemmas.List.Elements.{filter-append}
use Rattle.nd_base.specs.declared.frame.FrameName.{FrameName}
use Rattle.flow_journal.specs.declared.entry.Entry.{Entry}
use Rattle.flow_journal.specs.declared.entry.Entry.TheVariants.{Accept, PoolDrop, SortDrop}
use Rattle.flow_journal.specs.Setting.{Setting, is_maker, is_sorted}
use Rattle.flow_journal.specs.Pasts.{Past, frame, same}
use Rattle.flow_journal.specs.Queued.{queued}
use Rattle.flow_journal.specs.Waiting.{waiting}
use Rattle.flow_journal.specs.Accepted.{accepts, is_dropped_by, accepted}
use Rattle.flow_journal.specs.Histories.{is_legal}
use Rattle.flow_journal.proofs.Steps.{comes_here, comes_elsewhere, same_refl}
use Rattle.flow_journal.proofs.Hands.{row_of}
use Rattle.flow_journal.proofs.Changes.{queue_laws}
use Rattle.flow_journal.proofs.Counts.{queued-by}
use Rattle.flow_journal.proofs.EntryCounts.{count, bit, count-cons, count-append, accepts_at}
use Rattle.flow_journal.proofs.Outs.{of_index, waits}
use Rattle.flow_journal.proofs.Issues.{accepts-count}
use Rattle.flow_journal.proofs.Once.{accepts-once, accepts_once-law}
use Rattle.flow_journal.proofs.Emissions.{sorted-outs, puts-of_index, drop-waits}
use Rattle.flow_journal.specs.EntryTests.{is_sort_drop}
use Rattle.run_laws.proofs.Tallies.{pool_drops_at, accepts-all, no_sort_drops}
use Rattle.run_laws.proofs.Dropping.{drop-away, drop-here, none-goes, count-filter-le, same-le}
use Rattle.run_laws.proofs.Sorted.{sort_drops_at, sort-le, outs-split, puts-accepted, waits-le}

-- the entry drops at v an array whose index passes the test
abbrev pub drops_by : ℕ → (ℕ → Bool) → Entry → Bool
drops_by v u (PoolDrop r w m j n h) = eqb w v && u j
drops_by v u (SortDrop w m j) = eqb w v && u j
drops_by v u _ = false

abbrev pub by_index : (ℕ → Bool) → FrameName → Bool
by_index u a = u a.index

-- LISTS

-- the one of an index is taken out
take-out : (u : ℕ → Bool) (i : ℕ) (xs : List FrameName) → count (of_index i) xs ≡ 1
    → count (by_index u) xs ≡ bit (u i) + count (by_index u) (filter (λ a. not (eqb a.index i)) xs)
take-out u i [] h = absurd (omega (arith, h))
take-out u i (x ∷ xs) h =
    elim (cases_Bool (eqb x.index i)) [
      | inl here ↦
          let none : count (of_index i) xs ≡ 0 = omega (arith, h, count-cons (of_index i) x xs, ap bit here) in
          let rest : filter (λ a. not (eqb a.index i)) xs ≡ xs = none-goes (of_index i) xs none in
          rw here (count-cons (by_index u) x xs ∙ (ap (λ (j : ℕ). bit (u j) + count (by_index u) xs) (eqb-true x.index i here)
          ∙ ap (λ (ys : List FrameName). bit (u i) + count (by_index u) ys) (sym rest)))
      | inr away ↦
          let left : count (of_index i) xs ≡ 1 = omega (arith, h, count-cons (of_index i) x xs, ap bit away) in
          rw away (omega (arith, count-cons (by_index u) x xs, take-out u i xs left, count-cons (by_index u) x (filter (λ a. not (eqb a.index i)) xs)))
    ]

-- where it stands once, the array is told by its index
told : (m i : ℕ) (q : FrameName → Bool) (xs : List FrameName) → 1 ≤ count (λ a. same a (frame m i)) xs → count (of_index i) xs ≤ 1
    → filter (λ a. not (same a (frame m i))) (filter q xs) ≡ filter (λ a. not (eqb a.index i)) (filter q xs)
told m i q [] some once = absurd (omega (arith, some))
told m i q (x ∷ xs) some once =
    elim (cases_Bool (same x (frame m i))) [
      | inl is ↦
          let index : eqb x.index i ≡ true = (and_parts (eqb x.maker m) (eqb x.index i) is).1 in
          let none : count (of_index i) xs ≡ 0 = omega (arith, once, count-cons (of_index i) x xs, ap bit index) in
          let left : count (of_index i) (filter q xs) ≡ 0 = omega (arith, none, count-filter-le (of_index i) q xs) in
          let other : count (λ a. same a (frame m i)) (filter q xs) ≡ 0 = omega (arith, left, same-le m i (filter q xs)) in
          let rest : filter (λ a. not (same a (frame m i))) (filter q xs) ≡ filter (λ a. not (eqb a.index i)) (filter q xs) =
          none-goes (λ a. same a (frame m i)) (filter q xs) other ∙ sym (none-goes (of_index i) (filter q xs) left) in
          elim (cases_Bool (q x)) [
            | inl kept ↦ rw kept (rw (is, index) rest)
            | inr off ↦ rw off rest
          ]
      | inr miss ↦
          let more : 1 ≤ count (λ a. same a (frame m i)) xs = omega (arith, some, count-cons (λ a. same a (frame m i)) x xs, ap bit miss) in
          elim (cases_Bool (eqb x.index i)) [
            | inl two ↦ absurd (omega (arith, once, more, same-le m i xs, count-cons (of_index i) x xs, ap bit two))
            | inr away ↦
                let rest = told m i q xs more (omega (arith, once, count-cons (of_index i) x xs, ap bit away)) in
                elim (cases_Bool (q x)) [
                  | inl kept ↦ rw kept (rw (miss, away) (ap (λ (ys : List FrameName). x ∷ ys) rest))
                  | inr off ↦ rw off rest
                ]
          ]
    ]

-- an array of an index at which nothing is dropped
undropped : (s : Setting) (v : ℕ) (a : FrameName) (P : Past) → count (pool_drops_at v a.index) P ≡ 0 → count (sort_drops_at v a.index) P ≡ 0
    → list_any (is_dropped_by s v a) P ≡ false
undropped s v a [] pool sort = refl
undropped s v a (PoolDrop r w m i n z ∷ P) pool sort =
    let rest = undropped s v a P (omega (arith, pool, count-cons (pool_drops_at v a.index) (PoolDrop r w m i n z) P)) sort in
    or_from _ _ (miss (cases_Bool (eqb w v)) (cases_Bool (same a (frame m i)))) rest
  where
    miss : (eqb w v ≡ true) ⊎ (eqb w v ≡ false) → (same a (frame m i) ≡ true) ⊎ (same a (frame m i) ≡ false) → (eqb w v && same a (frame m i)) ≡ false
    miss (inr away) q = rw away refl
    miss (inl here) (inr other) = rw (here, other) refl
    miss (inl here) (inl is) =
        let index : eqb i a.index ≡ true = eq-eqb i a.index (sym (eqb-true a.index i (and_parts (eqb a.maker m) (eqb a.index i) is).1)) in
        absurd (omega (arith, pool, count-cons (pool_drops_at v a.index) (PoolDrop r w m i n z) P, ap bit (and_from (eqb w v) (eqb i a.index) here index)))
undropped s v a (SortDrop w m i ∷ P) pool sort =
    let rest = undropped s v a P pool (omega (arith, sort, count-cons (sort_drops_at v a.index) (SortDrop w m i) P)) in
    or_from _ _ (miss (cases_Bool (eqb w v)) (cases_Bool (eqb i a.index))) rest
  where
    off : eqb i a.index ≡ false → eqb a.index i ≡ false
    off h = elim (cases_Bool (eqb a.index i)) [ inl is ↦ absurd (true≢false (sym (eq-eqb i a.index (sym (eqb-true a.index i is))) ∙ h)) | inr other ↦ other ]

    by_name : (b : Bool) → eqb a.index i ≡ false → cond b (eqb a.index i) (same a (frame m i)) ≡ false
    by_name true h = h
    by_name false h = elim (eqb a.maker m) as (λ b. (b && eqb a.index i) ≡ false) [ true ↦ h | false ↦ refl ]

    miss : (eqb w v ≡ true) ⊎ (eqb w v ≡ false) → (eqb i a.index ≡ true) ⊎ (eqb i a.index ≡ false)
        → (eqb w v && cond (is_maker s v) (eqb a.index i) (same a (frame m i))) ≡ false
    miss (inr away) q = rw away refl
    miss (inl here) (inl is) =
        absurd (omega (arith, sort, count-cons (sort_drops_at v a.index) (SortDrop w m i) P, ap bit (and_from (eqb w v) (eqb i a.index) here is)))
    miss (inl here) (inr other) = rw here (by_name (is_maker s v) (off other))
undropped s v a (_ ∷ P) pool sort = undropped s v a P pool sort

drops-of_index : (v k : ℕ) (P : Past) → count (drops_by v (λ j. eqb j k)) P ≡ count (pool_drops_at v k) P + count (sort_drops_at v k) P
drops-of_index v k [] = refl
drops-of_index v k (PoolDrop r w m i n z ∷ P) =
    omega (
      arith,
      drops-of_index v k P,
      count-cons (drops_by v (λ j. eqb j k)) (PoolDrop r w m i n z) P,
      count-cons (pool_drops_at v k) (PoolDrop r w m i n z) P,
    )
drops-of_index v k (SortDrop w m i ∷ P) =
    omega (arith, drops-of_index v k P, count-cons (drops_by v (λ j. eqb j k)) (SortDrop w m i) P, count-cons (sort_drops_at v k) (SortDrop w m i) P)
drops-of_index v k (_ ∷ P) = drops-of_index v k P

-- SHARES

-- what was accepted for good, and what was dropped later, is what was accepted
abbrev Shares : Setting → ℕ → (ℕ → Bool) → Past → Type 0
Shares s v u P = count (by_index u) (accepted s v P) + count (drops_by v u) P ≡ count (by_index u) (accepts v P)

share-accept : (s : Setting) (v m i : ℕ) (u : ℕ → Bool) (P : Past) → v ≢ 0 → is_legal s (Accept v m i ∷ P) ≡ true
    → Shares s v u P → Shares s v u (Accept v m i ∷ P)
share-accept s v m i u P nz h before =
    let legal : is_legal s P ≡ true = (and_parts _ _ h).0 in
    let one : accepts_at v i (Accept v m i) ≡ true = and_from _ _ (eq-eqb v v refl) (eq-eqb i i refl) in
    let none : count (accepts_at v i) P ≡ 0 =
    omega (arith, accepts-once s (Accept v m i ∷ P) v i h, count-cons (accepts_at v i) (Accept v m i) P, ap bit one) in
    let all = accepts-all s P v i legal in
    let pool : count (pool_drops_at v i) P ≡ 0 = omega (arith, none, all, accepts-count v i P) in
    let sort : count (sort_drops_at v i) P ≡ 0 = omega (arith, none, all, accepts-count v i P, sort-le s P v i nz legal) in
    let D : FrameName → Bool = λ a. list_any (is_dropped_by s v a) P in
    let kept : D (frame m i) ≡ false = undropped s v (frame m i) P pool sort in
    let last : filter (λ a. not (D a)) (frame m i ∷ []) ≡ frame m i ∷ [] = rw kept refl in
    let more : accepted s v (Accept v m i ∷ P) ≡ accepted s v P ++ frame m i ∷ [] =
    ap (filter (λ a. not (D a))) (comes_here v (frame m i) (accepts v P))
    ∙ (filter-append (λ a. not (D a)) (accepts v P) (frame m i ∷ []) ∙ ap (λ (xs : List FrameName). accepted s v P ++ xs) last) in
    let now_accepted : count (by_index u) (accepted s v (Accept v m i ∷ P)) ≡ count (by_index u) (accepted s v P) + bit (u i) =
    ap (count (by_index u)) more ∙ (count-append (by_index u) (accepted s v P) (frame m i ∷ []) ∙ omega (arith, count-cons (by_index u) (frame m i) [])) in
    let now_all : count (by_index u) (accepts v (Accept v m i ∷ P)) ≡ count (by_index u) (accepts v P) + bit (u i) =
    ap (count (by_index u)) (comes_here v (frame m i) (accepts v P))
    ∙ (count-append (by_index u) (accepts v P) (frame m i ∷ []) ∙ omega (arith, count-cons (by_index u) (frame m i) [])) in
    omega (arith, before, now_accepted, now_all)

-- a drop of the one that is accepted with an index
share-drop : (s : Setting) (v i : ℕ) (u : ℕ → Bool) (e : Entry) (P : Past) → accepts v (e ∷ P) ≡ accepts v P → bit (drops_by v u e) ≡ bit (u i)
    → accepted s v (e ∷ P) ≡ filter (λ a. not (eqb a.index i)) (accepted s v P) → count (of_index i) (accepted s v P) ≡ 1
    → Shares s v u P → Shares s v u (e ∷ P)
share-drop s v i u e P acc is goes one before =
    omega (arith, before, take-out u i (accepted s v P) one, ap (count (by_index u)) goes, ap (count (by_index u)) acc, count-cons (drops_by v u) e P, is)

pub shares : (s : Setting) (P : Past) (v : ℕ) (u : ℕ → Bool) → v ≢ 0 → is_legal s P ≡ true → Shares s v u P
shares s [] v u nz h = refl
shares s (Accept w m i ∷ P) v u nz h =
    let before = shares s P v u nz (and_parts _ _ h).0 in
    elim (cases_Bool (eqb w v)) [
      | inl here ↦
          subst (λ (x : ℕ). is_legal s (Accept x m i ∷ P) ≡ true → Shares s v u (Accept x m i ∷ P)) (sym (eqb-true w v here))
          (λ g. share-accept s v m i u P nz g before) h
      | inr away ↦
          let D : FrameName → Bool = λ a. list_any (is_dropped_by s v a) P in
          let stays : accepts v (Accept w m i ∷ P) ≡ accepts v P = comes_elsewhere v w (frame m i) (accepts v P) (eqb-false w v away) in
          omega (arith, before, ap (count (by_index u)) stays, ap (λ (xs : List FrameName). count (by_index u) (filter (λ a. not (D a)) xs)) stays)
    ]
shares s (PoolDrop r w m i n z ∷ P) v u nz h =
    let legal : is_legal s P ≡ true = (and_parts _ _ h).0 in
    let before = shares s P v u nz legal in
    let D : FrameName → Bool = λ a. list_any (is_dropped_by s v a) P in
    elim (cases_Bool (eqb w v)) [
      | inl here ↦
          let at_v : is_legal s (PoolDrop r v m i n z ∷ P) ≡ true = subst (λ (x : ℕ). is_legal s (PoolDrop r x m i n z ∷ P) ≡ true) (eqb-true w v here) h in
          let front : queued v P ≡ frame m i ∷ queued v (PoolDrop r v m i n z ∷ P) =
          queue_laws.pool_drop s r v m i n z P (row_of s (PoolDrop r v m i n z) P (λ d. refl) at_v) in
          let T : FrameName → Bool = λ a. same a (frame m i) in
          let rest : List FrameName = queued v (PoolDrop r v m i n z ∷ P) in
          let some_T : 1 ≤ count T (queued v P) = omega (arith, ap (count T) front, count-cons T (frame m i) rest, ap bit (same_refl (frame m i))) in
          let some_i : 1 ≤ count (of_index i) (queued v P) = omega (arith, some_T, same-le m i (queued v P)) in
          let some : 1 ≤ count T (accepts v P) = omega (arith, some_T, queued-by s P v T legal) in
          let once = accepts_once-law s P v i legal in
          let all = accepts-all s P v i legal in
          let ours : count (of_index i) (accepted s v P) ≡ 1 =
          omega (arith, shares s P v (λ j. eqb j i) nz legal, drops-of_index v i P, once, all, some_i, sort-le s P v i nz legal) in
          let goes : accepted s v (PoolDrop r w m i n z ∷ P) ≡ filter (λ a. not (eqb a.index i)) (accepted s v P) =
          drop-here (eqb w v) T D (accepts v P) here ∙ told m i (λ a. not (D a)) (accepts v P) some once in
          share-drop s v i u (PoolDrop r w m i n z) P refl (ap (λ (b : Bool). bit (b && u i)) here) goes ours before
      | inr away ↦
          omega (
            arith,
            before,
            ap (count (by_index u)) (drop-away (eqb w v) (λ a. same a (frame m i)) D (accepts v P) away),
            count-cons (drops_by v u) (PoolDrop r w m i n z) P,
            ap (λ (b : Bool). bit (b && u i)) away,
          )
    ]
shares s (SortDrop w m i ∷ P) v u nz h =
    let legal : is_legal s P ≡ true = (and_parts _ _ h).0 in
    let before = shares s P v u nz legal in
    let D : FrameName → Bool = λ a. list_any (is_dropped_by s v a) P in
    let C : FrameName → Bool = λ a. cond (is_maker s v) (eqb a.index i) (same a (frame m i)) in
    elim (cases_Bool (eqb w v)) [
      | inl here ↦
          elim (cases_Bool (is_sorted s v)) [
            | inr plain ↦ absurd (omega (arith, no_sort_drops s (SortDrop w m i ∷ P) v plain h, count-cons (is_sort_drop v) (SortDrop w m i) P, ap bit here))
            | inl sorted ↦
                let T : FrameName → Bool = λ a. same a (frame m i) in
                let waits_T : 1 ≤ count (waits T) (waiting s v P) =
                drop-waits s v m i P nz sorted (subst (λ (x : ℕ). is_legal s (SortDrop x m i ∷ P) ≡ true) (eqb-true w v here) h) in
                let waits_i : 1 ≤ count (waits (of_index i)) (waiting s v P) = omega (arith, waits_T, waits-le m i (waiting s v P)) in
                let outs = sorted-outs s P v (of_index i) nz sorted legal in
                let once = accepts_once-law s P v i legal in
                let all = accepts-all s P v i legal in
                let ours : count (of_index i) (accepted s v P) ≡ 1 =
                omega (arith, shares s P v (λ j. eqb j i) nz legal, drops-of_index v i P, once, all, waits_i, outs, outs-split v i P, puts-of_index v i P) in
                let named : filter (λ a. not (C a)) (accepted s v P) ≡ filter (λ a. not (eqb a.index i)) (accepted s v P) =
                elim (cases_Bool (is_maker s v)) [
                  | inl makes ↦ rw makes refl
                  | inr passes ↦
                      let some : 1 ≤ count T (accepts v P) = omega (arith, waits_T, sorted-outs s P v T nz sorted legal, puts-accepted s P v T passes legal) in
                      rw passes (told m i (λ a. not (D a)) (accepts v P) some once)
                ] in
                share-drop s v i u (SortDrop w m i) P refl (ap (λ (b : Bool). bit (b && u i)) here)
                (drop-here (eqb w v) C D (accepts v P) here ∙ named) ours before
          ]
      | inr away ↦
          omega (
            arith,
            before,
            ap (count (by_index u)) (drop-away (eqb w v) C D (accepts v P) away),
            count-cons (drops_by v u) (SortDrop w m i) P,
            ap (λ (b : Bool). bit (b && u i)) away,
          )
    ]
shares s (_ ∷ P) v u nz h = shares s P v u nz (and_parts _ _ h).0

-- the same of one index
pub shares-of_index : (s : Setting) (P : Past) (v k : ℕ) → v ≢ 0 → is_legal s P ≡ true
    → count (of_index k) (accepted s v P) + count (pool_drops_at v k) P + count (sort_drops_at v k) P ≡ count (of_index k) (accepts v P)
shares-of_index s P v k nz h = omega (arith, shares s P v (λ j. eqb j k) nz h, drops-of_index v k P)
