-- The order of a queue: what was given back, and then what came and never left.
use Rattle.std.proofs.Common.{◌≡◌, ◌≢◌, ℕ, ◌≤◌, Bool, true, false, not, ◌&&◌, ◌||◌, cond, eqb, List, [], ◌∷◌, ◌++◌, refl, sym, ap, ◌∙◌, subst, arith, inl}
use Rattle.std.proofs.Common.{inr, append_assoc}
use Rattle.std.specs.Prelude.{filter}
use Rattle.std.specs.List.{list_any}
use Rattle.std.proofs.lemmas.Bool.{and_parts, false≢true, eq-eqb, eqb-true, eqb-false, or_cases, cases_Bool}
use Rattle.std.proofs.lemmas.List.Elements.{filter-append}
use Rattle.nd_base.specs.declared.frame.FrameName.{FrameName}
use Rattle.flow_journal.specs.declared.entry.Entry.{Entry}
use Rattle.flow_journal.specs.declared.entry.Entry.TheVariants.{Accept, Take, TakeBlock, PoolDrop, Reclaim}
use Rattle.flow_journal.specs.Setting.{Setting}
use Rattle.flow_journal.specs.Pasts.{Past, frame, same, without, goes_at}
use Rattle.flow_journal.specs.Hands.{hand, job_array, standing}
use Rattle.flow_journal.specs.Queued.{queued}
use Rattle.flow_journal.specs.QueueCounts.{times}
use Rattle.flow_journal.specs.Accepted.{accepts}
use Rattle.flow_journal.specs.Histories.{is_legal}
use Rattle.flow_journal.specs.QueueOrder.{takes_out, stays_in, never_left, gives_back, back_since, given_back, QueuesInOrder}
use Rattle.flow_journal.proofs.Steps.{comes_elsewhere, comes_here}
use Rattle.flow_journal.proofs.Counts.{queued-counts}
use Rattle.flow_journal.proofs.EntryCounts.{count, bit, count-cons, accepts_at, leaves_at}
use Rattle.flow_journal.proofs.Outs.{of_index}
use Rattle.flow_journal.proofs.Issues.{leaves-accepted, accepts-count}
use Rattle.flow_journal.proofs.Once.{accepts-once}

-- FILTERS

keeps_all : (q : FrameName → Bool) → ((a : FrameName) → q a ≡ true) → (xs : List FrameName) → filter q xs ≡ xs
keeps_all q all [] = refl
keeps_all q all (x ∷ xs) = rw (all x) (ap (λ (ys : List FrameName). x ∷ ys) (keeps_all q all xs))

same_tests : (p q : FrameName → Bool) → ((a : FrameName) → p a ≡ q a) → (xs : List FrameName) → filter p xs ≡ filter q xs
same_tests p q same_test [] = refl
same_tests p q same_test (x ∷ xs) =
    ap (λ (b : Bool). cond b (x ∷ filter p xs) (filter p xs)) (same_test x) ∙ ap (λ (ys : List FrameName). cond (q x) (x ∷ ys) ys) (same_tests p q same_test xs)

-- one test and another
filtered_by : (p q r : FrameName → Bool) → ((a : FrameName) → r a ≡ (p a && q a)) → (xs : List FrameName) → filter r xs ≡ filter q (filter p xs)
filtered_by p q r both [] = refl
filtered_by p q r both (x ∷ xs) =
    let rest = filtered_by p q r both xs in
    elim (cases_Bool (p x)) [
      | inr out ↦
          let none : r x ≡ false = both x ∙ ap (λ (b : Bool). b && q x) out in
          rw (none, out) rest
      | inl in_p ↦
          let is : r x ≡ q x = both x ∙ ap (λ (b : Bool). b && q x) in_p in
          elim (cases_Bool (q x)) [
            | inl in_q ↦ let yes : r x ≡ true = is ∙ in_q in rw (yes, in_p, in_q) (ap (λ (ys : List FrameName). x ∷ ys) rest)
            | inr off_q ↦ let no_ : r x ≡ false = is ∙ off_q in rw (no_, in_p, off_q) rest
          ]
    ]

abbrev not_taken : ℕ → Entry → FrameName → Bool
not_taken v e a = not (takes_out v a e)

not-or : (a b : Bool) → not (a || b) ≡ (not b && not a)
not-or true true = refl
not-or true false = refl
not-or false true = refl
not-or false false = refl

-- one entry more in front
stays-front : (v : ℕ) (e : Entry) (es : List Entry) (xs : List FrameName) → stays_in v (e ∷ es) xs ≡ filter (not_taken v e) (stays_in v es xs)
stays-front v e es xs =
    filtered_by (λ a. not (list_any (takes_out v a) es)) (not_taken v e)
    (λ a. not (list_any (takes_out v a) (e ∷ es))) (λ a. not-or (takes_out v a e) (list_any (takes_out v a) es)) xs

any-last : (p : Entry → Bool) (es : List Entry) (e : Entry) → list_any p (es ++ e ∷ []) ≡ (p e || list_any p es)
any-last p [] e = refl
any-last p (d ∷ es) e = ap (λ (b : Bool). p d || b) (any-last p es e) ∙ turned (p d) (p e) (list_any p es)
  where
    turned : (a b c : Bool) → (a || (b || c)) ≡ (b || (a || c))
    turned true true c = refl
    turned true false c = refl
    turned false true c = refl
    turned false false c = refl

-- or at the end
stays-last : (v : ℕ) (e : Entry) (es : List Entry) (xs : List FrameName) → stays_in v (es ++ e ∷ []) xs ≡ filter (not_taken v e) (stays_in v es xs)
stays-last v e es xs =
    filtered_by (λ a. not (list_any (takes_out v a) es)) (not_taken v e) (λ a. not (list_any (takes_out v a) (es ++ e ∷ [])))
    (λ a. ap not (any-last (takes_out v a) es e) ∙ not-or (takes_out v a e) (list_any (takes_out v a) es)) xs

back-last : (v : ℕ) (e : Entry) (newer : List Entry) (P : Past) → back_since v (newer ++ e ∷ []) P ≡ filter (not_taken v e) (back_since v newer P)
back-last v e newer [] = refl
back-last v e newer (d ∷ P) =
    ap (λ (xs : List FrameName). xs ++ back_since v (d ∷ newer ++ e ∷ []) P) (stays-last v e newer (gives_back v d P))
    ∙ (ap (λ (xs : List FrameName). filter (not_taken v e) (stays_in v newer (gives_back v d P)) ++ xs) (back-last v e (d ∷ newer) P)
    ∙ sym (filter-append (not_taken v e) (stays_in v newer (gives_back v d P)) (back_since v (d ∷ newer) P)))

-- ONE ENTRY MORE

abbrev in_order : ℕ → Past → List FrameName
in_order v P = given_back v P ++ never_left v P

-- an entry that neither comes nor gives back
one_more : (v : ℕ) (e : Entry) (P : Past) → gives_back v e P ≡ [] → accepts v (e ∷ P) ≡ accepts v P → in_order v (e ∷ P) ≡ filter (not_taken v e) (in_order v P)
one_more v e P none came =
    let back : given_back v (e ∷ P) ≡ filter (not_taken v e) (given_back v P) =
    ap (λ (xs : List FrameName). stays_in v [] xs ++ back_since v (e ∷ []) P) none ∙ back-last v e [] P in
    let left : never_left v (e ∷ P) ≡ filter (not_taken v e) (never_left v P) = ap (stays_in v (e ∷ P)) came ∙ stays-front v e P (accepts v P) in
    ap (λ (xs : List FrameName). xs ++ never_left v (e ∷ P)) back
    ∙ (ap (λ (xs : List FrameName). filter (not_taken v e) (given_back v P) ++ xs) left
    ∙ sym (filter-append (not_taken v e) (given_back v P) (never_left v P)))

quiet : (v : ℕ) (e : Entry) (P : Past) → gives_back v e P ≡ [] → accepts v (e ∷ P) ≡ accepts v P → ((a : FrameName) → not_taken v e a ≡ true)
    → queued v (e ∷ P) ≡ queued v P → queued v P ≡ in_order v P → queued v (e ∷ P) ≡ in_order v (e ∷ P)
quiet v e P none came all still h = still ∙ (h ∙ sym (one_more v e P none came ∙ keeps_all (not_taken v e) all (in_order v P)))

none_same : (x : FrameName) (xs : List FrameName) → times x xs ≡ 0 → filter (λ a. not (same a x)) xs ≡ xs
none_same x [] h = refl
none_same x (y ∷ ys) h =
    elim (cases_Bool (same y x)) [
      | inl here ↦ absurd (omega (arith, count-cons (λ a. same a x) y ys, ap bit here, h))
      | inr away ↦ rw away (ap (λ (zs : List FrameName). y ∷ zs) (none_same x ys (omega (arith, count-cons (λ a. same a x) y ys, h))))
    ]

-- one that is there once is taken away
without-one : (x : FrameName) (xs : List FrameName) → times x xs ≤ 1 → filter (λ a. not (same a x)) xs ≡ without x xs
without-one x [] h = refl
without-one x (y ∷ ys) h =
    elim (cases_Bool (same y x)) [
      | inl here ↦
          let none : times x ys ≡ 0 = omega (arith, count-cons (λ a. same a x) y ys, ap bit here, h) in
          rw here (none_same x ys none)
      | inr away ↦ rw away (ap (λ (zs : List FrameName). y ∷ zs) (without-one x ys (omega (arith, count-cons (λ a. same a x) y ys, h))))
    ]

times-le : (x : FrameName) (xs : List FrameName) → times x xs ≤ count (of_index x.index) xs
times-le x [] = omega arith
times-le x (y ∷ ys) =
    omega (arith, times-le x ys, count-cons (λ a. same a x) y ys, count-cons (of_index x.index) y ys, one-le (eqb y.maker x.maker) (eqb y.index x.index))
  where
    one-le : (b c : Bool) → bit (b && c) ≤ bit c
    one-le true c = omega arith
    one-le false true = omega arith
    one-le false false = omega arith

-- a queue has an array once at most
queued-once : (s : Setting) (P : Past) (v : ℕ) (x : FrameName) → is_legal s P ≡ true → times x (queued v P) ≤ 1
queued-once s P v x h = omega (arith, queued-counts s P v x h, times-le x (accepts v P), accepts-count v x.index P, accepts-once s P v x.index h)

taken : (s : Setting) (v w : ℕ) (x : FrameName) (e : Entry) (P : Past) → is_legal s P ≡ true → gives_back v e P ≡ [] → accepts v (e ∷ P) ≡ accepts v P
    → ((a : FrameName) → takes_out v a e ≡ (eqb w v && same a x)) → queued v (e ∷ P) ≡ goes_at v w x (queued v P) → queued v P ≡ in_order v P
    → queued v (e ∷ P) ≡ in_order v (e ∷ P)
taken s v w x e P legal none came test goes h =
    elim (cases_Bool (eqb w v)) [
      | inl here ↦
          let tests : (a : FrameName) → not_taken v e a ≡ not (same a x) = λ a. ap not (test a ∙ ap (λ (b : Bool). b && same a x) here) in
          let less : filter (not_taken v e) (queued v P) ≡ without x (queued v P) =
          same_tests (not_taken v e) (λ a. not (same a x)) tests (queued v P) ∙ without-one x (queued v P) (queued-once s P v x legal) in
          let left : queued v (e ∷ P) ≡ without x (queued v P) = goes ∙ ap (λ (b : Bool). cond b (without x (queued v P)) (queued v P)) here in
          left ∙ (sym less ∙ (ap (filter (not_taken v e)) h ∙ sym (one_more v e P none came)))
      | inr away ↦
          let all : (a : FrameName) → not_taken v e a ≡ true = λ a. ap not (test a ∙ ap (λ (b : Bool). b && same a x) away) in
          quiet v e P none came all (goes ∙ ap (λ (b : Bool). cond b (without x (queued v P)) (queued v P)) away) h
    ]

-- what was taken out had come
came_before : (s : Setting) (P : Past) (v m k : ℕ) → is_legal s P ≡ true → list_any (takes_out v (frame m k)) P ≡ true → 1 ≤ count (accepts_at v k) P
came_before s [] v m k h any = absurd (false≢true any)
came_before s (Take r w i j ∷ P) v m k h any =
    elim (or_cases (eqb w v && same (frame m k) (frame i j)) (list_any (takes_out v (frame m k)) P) any) [
      | inr before ↦ came_before s P v m k (and_parts _ _ h).0 before
      | inl now_ ↦
          let p = and_parts (eqb w v) (same (frame m k) (frame i j)) now_ in
          let index : j ≡ k = sym (eqb-true k j (and_parts (eqb m i) (eqb k j) p.1).1) in
          let out : (eqb w v && eqb j k) ≡ true = ap (λ (b : Bool). b && eqb j k) p.0 ∙ eq-eqb j k index in
          omega (arith, leaves-accepted s (Take r w i j ∷ P) v k h, count-cons (leaves_at v k) (Take r w i j) (standing P), ap bit out)
    ]
came_before s (TakeBlock f x r w i j b n g ∷ P) v m k h any =
    elim (or_cases (eqb w v && same (frame m k) (frame i j)) (list_any (takes_out v (frame m k)) P) any) [
      | inr before ↦ came_before s P v m k (and_parts _ _ h).0 before
      | inl now_ ↦
          let p = and_parts (eqb w v) (same (frame m k) (frame i j)) now_ in
          let index : j ≡ k = sym (eqb-true k j (and_parts (eqb m i) (eqb k j) p.1).1) in
          let out : (eqb w v && eqb j k) ≡ true = ap (λ (c : Bool). c && eqb j k) p.0 ∙ eq-eqb j k index in
          omega (
            arith,
            leaves-accepted s (TakeBlock f x r w i j b n g ∷ P) v k h,
            count-cons (leaves_at v k) (TakeBlock f x r w i j b n g) (standing P),
            ap bit out,
          )
    ]
came_before s (PoolDrop r w i j n z ∷ P) v m k h any =
    elim (or_cases (eqb w v && same (frame m k) (frame i j)) (list_any (takes_out v (frame m k)) P) any) [
      | inr before ↦ came_before s P v m k (and_parts _ _ h).0 before
      | inl now_ ↦
          let p = and_parts (eqb w v) (same (frame m k) (frame i j)) now_ in
          let index : j ≡ k = sym (eqb-true k j (and_parts (eqb m i) (eqb k j) p.1).1) in
          let out : (eqb w v && eqb j k) ≡ true = ap (λ (c : Bool). c && eqb j k) p.0 ∙ eq-eqb j k index in
          omega (arith, leaves-accepted s (PoolDrop r w i j n z ∷ P) v k h, count-cons (leaves_at v k) (PoolDrop r w i j n z) (standing P), ap bit out)
    ]
came_before s (Accept w i j ∷ P) v m k h any = omega (arith, came_before s P v m k (and_parts _ _ h).0 any, count-cons (accepts_at v k) (Accept w i j) P)
came_before s (_ ∷ P) v m k h any = came_before s P v m k (and_parts _ _ h).0 any

-- what comes was never taken out
never_taken : (s : Setting) (P : Past) (v m k : ℕ) → is_legal s (Accept v m k ∷ P) ≡ true → list_any (takes_out v (frame m k)) P ≡ false
never_taken s P v m k h =
    elim (cases_Bool (list_any (takes_out v (frame m k)) P)) [
      | inr none ↦ none
      | inl some ↦
          let own : (eqb v v && eqb k k) ≡ true = ap (λ (b : Bool). b && eqb k k) (eq-eqb v v refl) ∙ eq-eqb k k refl in
          absurd (omega (
            arith,
            accepts-once s (Accept v m k ∷ P) v k h,
            count-cons (accepts_at v k) (Accept v m k) P,
            ap bit own,
            came_before s P v m k (and_parts _ _ h).0 some,
          ))
    ]

stays_all : (v : ℕ) (xs : List FrameName) → stays_in v [] xs ≡ xs
stays_all v xs = keeps_all (λ a. not (list_any (takes_out v a) [])) (λ a. refl) xs

accepted-here : (s : Setting) (v m k : ℕ) (P : Past) → is_legal s (Accept v m k ∷ P) ≡ true → queued v P ≡ in_order v P
    → queued v (Accept v m k ∷ P) ≡ in_order v (Accept v m k ∷ P)
accepted-here s v m k P h before =
    let e : Entry = Accept v m k in
    let x : FrameName = frame m k in
    let back : given_back v (e ∷ P) ≡ given_back v P = back-last v e [] P ∙ keeps_all (not_taken v e) (λ a. refl) (given_back v P) in
    let old : stays_in v (e ∷ P) (accepts v P) ≡ never_left v P = stays-front v e P (accepts v P) ∙ keeps_all (not_taken v e) (λ a. refl) (never_left v P) in
    let new : stays_in v (e ∷ P) (x ∷ []) ≡ x ∷ [] = ap (λ (b : Bool). cond (not b) (x ∷ []) []) (never_taken s P v m k h) in
    let left : never_left v (e ∷ P) ≡ never_left v P ++ x ∷ [] =
    ap (stays_in v (e ∷ P)) (comes_here v x (accepts v P))
    ∙ (filter-append (λ a. not (list_any (takes_out v a) (e ∷ P))) (accepts v P) (x ∷ [])
    ∙ (ap (λ (xs : List FrameName). xs ++ stays_in v (e ∷ P) (x ∷ [])) old ∙ ap (λ (xs : List FrameName). never_left v P ++ xs) new)) in
    comes_here v x (queued v P)
    ∙ (ap (λ (xs : List FrameName). xs ++ x ∷ []) before
    ∙ (append_assoc (given_back v P) (never_left v P) (x ∷ [])
    ∙ sym (ap (λ (xs : List FrameName). xs ++ never_left v (e ∷ P)) back ∙ ap (λ (xs : List FrameName). given_back v P ++ xs) left)))

pub queues_in_order : QueuesInOrder
queues_in_order s [] v h = refl
queues_in_order s (Accept w m k ∷ P) v h =
    let before = queues_in_order s P v (and_parts _ _ h).0 in
    elim (cases_Bool (eqb w v)) [
      | inl here ↦
          subst (λ (u : ℕ). is_legal s (Accept u m k ∷ P) ≡ true → queued v (Accept u m k ∷ P) ≡ in_order v (Accept u m k ∷ P)) (sym (eqb-true w v here))
          (λ g. accepted-here s v m k P g before) h
      | inr away ↦
          let ne : w ≢ v = eqb-false w v away in
          quiet v (Accept w m k) P refl (comes_elsewhere v w (frame m k) (accepts v P) ne) (λ a. refl) (comes_elsewhere v w (frame m k) (queued v P) ne) before
    ]
queues_in_order s (Take r w m k ∷ P) v h =
    let legal : is_legal s P ≡ true = (and_parts _ _ h).0 in
    taken s v w (frame m k) (Take r w m k) P legal refl refl (λ a. refl) refl (queues_in_order s P v legal)
queues_in_order s (TakeBlock f x r w m k b n g ∷ P) v h =
    let legal : is_legal s P ≡ true = (and_parts _ _ h).0 in
    taken s v w (frame m k) (TakeBlock f x r w m k b n g) P legal refl refl (λ a. refl) refl (queues_in_order s P v legal)
queues_in_order s (PoolDrop r w m k n z ∷ P) v h =
    let legal : is_legal s P ≡ true = (and_parts _ _ h).0 in
    taken s v w (frame m k) (PoolDrop r w m k n z) P legal refl refl (λ a. refl) refl (queues_in_order s P v legal)
queues_in_order s (Reclaim r ∷ P) v h =
    let before = queues_in_order s P v (and_parts _ _ h).0 in
    let e : Entry = Reclaim r in
    let job : List FrameName = job_array v (hand r P) in
    let back : given_back v (e ∷ P) ≡ job ++ given_back v P =
    ap (λ (xs : List FrameName). xs ++ back_since v (e ∷ []) P) (stays_all v job)
    ∙ ap (λ (xs : List FrameName). job ++ xs) (back-last v e [] P ∙ keeps_all (not_taken v e) (λ a. refl) (given_back v P)) in
    let left : never_left v (e ∷ P) ≡ never_left v P = stays-front v e P (accepts v P) ∙ keeps_all (not_taken v e) (λ a. refl) (never_left v P) in
    ap (λ (xs : List FrameName). job ++ xs) before
    ∙ (sym (append_assoc job (given_back v P) (never_left v P))
    ∙ sym (ap (λ (xs : List FrameName). xs ++ never_left v (e ∷ P)) back ∙ ap (λ (xs : List FrameName). (job ++ given_back v P) ++ xs) left))
queues_in_order s (e ∷ P) v h = quiet v e P refl refl (λ a. refl) refl (queues_in_order s P v (and_parts _ _ h).0)
