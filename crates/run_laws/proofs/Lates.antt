-- What goes out late has waited for longer than the sort time.
use Rattle.std.proofs.Common.{◌≡◌, ◌≢◌, ℕ, ◌+◌, ◌≤◌, Bool, true, false, ◌&&◌, cond, eqb, ltb, List, [], ◌∷◌, ◌++◌, map, drop, length, refl, sym, ap, ◌∙◌}
use Rattle.std.proofs.Common.{subst, arith, inl, inr, ◌⊎◌, ℤ}
use Rattle.std.specs.List.{Contains}
use Rattle.std.proofs.lemmas.Bool.{and_parts, and_from, false≢true, eq-eqb, eqb-true, eqb-false, ltb-true, cases_Bool}
use Rattle.std.proofs.lemmas.List.Elements.{Contains-append_right, Contains-append_left}
use Rattle.nd_base.specs.declared.frame.FrameName.{FrameName}
use Rattle.flow_journal.specs.declared.entry.Entry.{Entry}
use Rattle.flow_journal.specs.declared.entry.Entry.TheVariants.{Tick, Emit, Put, SortDrop, Settle}
use Rattle.flow_journal.specs.declared.entry.Why.{Why}
use Rattle.flow_journal.specs.declared.entry.Why.TheVariants.{Step, Late, Flush}
use Rattle.flow_journal.specs.Setting.{Setting, node, id_at, is_sorted, node_numbers}
use Rattle.flow_journal.specs.Turns.{offered_to}
use Rattle.flow_journal.specs.Pasts.{Past, frame, same}
use Rattle.flow_journal.specs.Ended.{now}
use Rattle.flow_journal.specs.Waiting.{Waiting, not_waiting, waiting, least_first}
use Rattle.queue_sort.specs.Sorting.{keeps_step}
use Rattle.flow_journal.specs.Breaks.{prev}
use Rattle.flow_journal.specs.Following.{offer, emit, goes_out, look, sorted_result, calls_for, owed}
use Rattle.flow_journal.specs.Histories.{is_legal, why_number}
use Rattle.flow_journal.proofs.Steps.{same_refl, same-true}
use Rattle.flow_journal.proofs.Histories.{legal-front}
use Rattle.flow_journal.proofs.Changes.{put_laws}
use Rattle.flow_journal.proofs.EntryCounts.{count, bit, count-cons, count-append, count-drop, owed-first, owed-answered}
use Rattle.flow_journal.proofs.Outs.{AllOutAt, out_of, waits, none_elsewhere, result-at, goes_out-at, count-least_first}
use Rattle.flow_journal.proofs.Offers.{is_number, once_numbered}
use Rattle.flow_journal.proofs.Issues.{looks, takes-accepted}
use Rattle.flow_journal.proofs.Emissions.{owed-Emit_out, owed-SortDrop_out, owed-waits, result-sorted, sorted-emits}
use Rattle.flow_journal.proofs.Jobs.{puts-taken}
use Rattle.flow_journal.proofs.Once.{accepts-once}
use Rattle.run_laws.specs.OrderLaws.{HasWaitedLong}
use Rattle.run_laws.proofs.Calls.{Misses, none-offers, none-unsorted}
use Rattle.run_laws.proofs.Sorted.{waits-le}
use Rattle.run_laws.proofs.Steps.{emit-answers}
use Rattle.run_laws.proofs.Ticks.{tick-alone}
use Rattle.run_laws.proofs.Breaks.{sorted-node}

-- the entry is an emission of v that is marked late, of an array that passes the test
abbrev lates : ℕ → (FrameName → Bool) → Entry → Bool
lates v t (Emit w m k Late) = eqb w v && t (frame m k)
lates v t _ = false

-- at this tick it has waited for longer than the sort time
abbrev overdue : Setting → ℕ → (now : ℕ) → (FrameName → Bool) → Waiting → Bool
overdue s v now t w = t w.array && ltb (w.tick + (node s v).sort_time) now

lates-le : (v : ℕ) (t : FrameName → Bool) (ds : List Entry) → count (lates v t) ds ≤ count (out_of v t) ds
lates-le v t [] = omega arith
lates-le v t (Emit w m i Late ∷ ds) = omega (arith, lates-le v t ds, count-cons (lates v t) (Emit w m i Late) ds, count-cons (out_of v t) (Emit w m i Late) ds)
lates-le v t (Emit w m i why ∷ ds) = omega (arith, lates-le v t ds, count-cons (out_of v t) (Emit w m i why) ds)
lates-le v t (SortDrop w m i ∷ ds) = omega (arith, lates-le v t ds, count-cons (out_of v t) (SortDrop w m i) ds)
lates-le v t (_ ∷ ds) = lates-le v t ds

pub and-true : (b : Bool) → (b && true) ≡ b
and-true true = refl
and-true false = refl

lates-goes_out : (s : Setting) (v : ℕ) (t : FrameName → Bool) (before : ℤ) (now : ℕ) (ws : List Waiting)
    → count (lates v t) (goes_out s v before now ws) ≤ count (overdue s v now t) ws
lates-goes_out s v t before now [] = omega arith
lates-goes_out s v t before now (w ∷ ws) =
    let more = lates-goes_out s v t (id_at s w.array.index) now ws in
    let rest : List Entry = goes_out s v (id_at s w.array.index) now ws in
    let one = count-cons (overdue s v now t) w ws in
    elim (cases_Bool (keeps_step before (id_at s w.array.index))) [
      | inl step ↦
          let is : goes_out s v before now (w ∷ ws) ≡ emit v Step w.array ∷ rest = rw step refl in
          omega (arith, more, one, ap (count (lates v t)) is)
      | inr out ↦ elim (cases_Bool (ltb (w.tick + (node s v).sort_time) now)) [
        | inl late ↦
            let is : goes_out s v before now (w ∷ ws) ≡ emit v Late w.array ∷ rest = rw (out, late) refl in
            let here : (eqb v v && t w.array) ≡ t w.array = ap (λ (b : Bool). b && t w.array) (eq-eqb v v refl) in
            let due : overdue s v now t w ≡ t w.array = ap (λ (b : Bool). t w.array && b) late ∙ and-true (t w.array) in
            omega (arith, more, one, ap (count (lates v t)) is, count-cons (lates v t) (emit v Late w.array) rest, ap bit here, ap bit due)
        | inr early ↦
            let is : goes_out s v before now (w ∷ ws) ≡ [] = rw (out, early) refl in
            omega (arith, ap (count (lates v t)) is)
      ]
    ]

lates-look : (s : Setting) (v : ℕ) (t : FrameName → Bool) (P : Past) → count (lates v t) (look s v P) ≤ count (overdue s v (now P) t) (waiting s v P)
lates-look s v t P =
    omega (arith, lates-goes_out s v t (prev s v P) (now P) (least_first s (waiting s v P)), count-least_first s (overdue s v (now P) t) (waiting s v P))

-- of what the put of a calls for, where before waited
lates-result : (s : Setting) (v : ℕ) (t : FrameName → Bool) (a : FrameName) (before : List Waiting) (w : Waiting) (P : Past) → waiting s v P ≡ before ++ w ∷ []
    → count (lates v t) (sorted_result s v a before P) ≤ count (overdue s v (now P) t) (waiting s v P)
lates-result s v t a before w P is =
    let due : Waiting → Bool = overdue s v (now P) t in
    let all : count due (waiting s v P) ≡ count due before + count due (w ∷ []) = ap (count due) is ∙ count-append due before (w ∷ []) in
    let least = count-least_first s due before in
    elim (cases_Bool (keeps_step (prev s v P) (id_at s a.index))) [
      | inl step ↦ rw step (omega (arith, all, least, lates-goes_out s v t (id_at s a.index) (now P) (least_first s before)))
      | inr out ↦ elim (cases_Bool (eqb (length before) (node s v).sort)) [
        | inl full ↦ rw (out, full) (omega (arith, all, least, lates-goes_out s v t (prev s v P) (now P) (least_first s before)))
        | inr room ↦ rw (out, room) (lates-look s v t P)
      ]
    ]

lates-elsewhere : (v w : ℕ) (t : FrameName → Bool) (ds : List Entry) → w ≢ v → AllOutAt w ds → count (lates v t) ds ≡ 0
lates-elsewhere v w t ds ne h = omega (arith, lates-le v t ds, none_elsewhere w v t ds ne h)

lates-if : (s : Setting) (P : Past) (v u : ℕ) (t : FrameName → Bool) (b : Bool) → u ≢ v → count (lates v t) (cond b (look s u P) []) ≡ 0
lates-if s P v u t true ne = lates-elsewhere v u t (look s u P) ne (goes_out-at s u _ _ _)
lates-if s P v u t false ne = refl

lates-looks : (s : Setting) (P : Past) (v : ℕ) (t : FrameName → Bool) (us : List ℕ) → count (is_number v) us ≤ 1
    → count (lates v t) (looks s P us) ≤ count (overdue s v (now P) t) (waiting s v P)
lates-looks s P v t [] once = omega arith
lates-looks s P v t (u ∷ us) once =
    let both = count-append (lates v t) (cond (is_sorted s u) (look s u P) []) (looks s P us) in
    elim (cases_Bool (eqb u v)) [
      | inl here ↦
          let none : count (is_number v) us ≡ 0 = omega (arith, once, count-cons (is_number v) u us, ap bit here) in
          omega (
            arith,
            both,
            subst (λ (x : ℕ). count (lates v t) (cond (is_sorted s x) (look s x P) []) ≤ count (overdue s v (now P) t) (waiting s v P))
                (sym (eqb-true u v here))
                (own (is_sorted s v)),
            others us none,
          )
      | inr away ↦
          omega (
            arith,
            both,
            lates-if s P v u t (is_sorted s u) (eqb-false u v away),
            lates-looks s P v t us (omega (arith, once, count-cons (is_number v) u us, ap bit away)),
          )
    ]
  where
    own : (b : Bool) → count (lates v t) (cond b (look s v P) []) ≤ count (overdue s v (now P) t) (waiting s v P)
    own true = lates-look s v t P
    own false = omega arith

    others : (us : List ℕ) → count (is_number v) us ≡ 0 → count (lates v t) (looks s P us) ≡ 0
    others [] none = refl
    others (x ∷ xs) none =
        let ne : x ≢ v = λ e. omega (arith, none, count-cons (is_number v) x xs, ap bit (eq-eqb x v e)) in
        omega (
          arith,
          count-append (lates v t) (cond (is_sorted s x) (look s x P) []) (looks s P xs),
          lates-if s P v x t (is_sorted s x) ne,
          others xs (omega (arith, none, count-cons (is_number v) x xs)),
        )

lates-flush : (v w : ℕ) (t : FrameName → Bool) (ws : List Waiting) → count (lates v t) (map (λ (u : Waiting). emit w Flush u.array) ws) ≡ 0
lates-flush v w t [] = refl
lates-flush v w t (u ∷ us) = lates-flush v w t us

misses : (v : ℕ) (t : FrameName → Bool) → Misses (lates v t)
misses v t = record { offers = λ a c. refl; plain = λ u a. refl; rings = λ u a. refl; nows = λ u a. refl }

-- a result that goes leaves the others
kept-overdue : (s : Setting) (v now m i : ℕ) (t : FrameName → Bool) (ws : List Waiting) → t (frame m i) ≡ false
    → count (overdue s v now t) (not_waiting (frame m i) ws) ≡ count (overdue s v now t) ws
kept-overdue s v now m i t [] off = refl
kept-overdue s v now m i t (w ∷ ws) off =
    elim (cases_Bool (same w.array (frame m i))) [
      | inl here ↦
          let no : overdue s v now t w ≡ false =
          ap (λ (b : Bool). b && ltb (w.tick + (node s v).sort_time) now) (ap t (same-true w.array (frame m i) here) ∙ off) in
          rw here (omega (arith, count-cons (overdue s v now t) w ws, ap bit no))
      | inr away ↦
          rw away
          (omega (arith, kept-overdue s v now m i t ws off, count-cons (overdue s v now t) w (not_waiting (frame m i) ws), count-cons (overdue s v now t) w ws))
    ]

-- a result waits once at most
waits-once : (s : Setting) (P : Past) (v m i : ℕ) → v ≢ 0 → is_sorted s v ≡ true → is_legal s P ≡ true
    → count (waits (λ x. same x (frame m i))) (waiting s v P) ≤ 1
waits-once s P v m i nz sorted h =
    omega (arith, waits-le m i (waiting s v P), sorted-emits s P v i nz sorted h, puts-taken s P v i h, takes-accepted s P v i h, accepts-once s P v i h)

-- of each array no more late emissions are owed than results of it are overdue
late-owed : (s : Setting) (P : Past) (v m k : ℕ) → v ≢ 0 → is_sorted s v ≡ true → is_legal s P ≡ true
    → count (lates v (λ x. same x (frame m k))) (owed s P) ≤ count (overdue s v (now P) (λ x. same x (frame m k))) (waiting s v P)
late-owed s [] v m k nz sorted h = omega arith
late-owed s (Put r w i j f ∷ P) v m k nz sorted h =
    let t : FrameName → Bool = λ x. same x (frame m k) in
    let none : owed s P ≡ [] = owed-first s (Put r w i j f) P (λ d. refl) h in
    let whole : count (lates v t) (owed s (Put r w i j f ∷ P)) ≡ count (lates v t) (calls_for s P (Put r w i j f)) + 0 =
    count-append (lates v t) (calls_for s P (Put r w i j f)) (drop 1 (owed s P))
    ∙ ap (λ (ds : List Entry). count (lates v t) (calls_for s P (Put r w i j f)) + count (lates v t) (drop 1 ds)) none in
    elim (cases_Bool (eqb w v)) [
      | inr away ↦
          omega (arith, whole, lates-elsewhere v w t (calls_for s P (Put r w i j f)) (eqb-false w v away) (result-at s w (frame i j) f P (node s w).work))
      | inl here ↦
          let is : w ≡ v = eqb-true w v here in
          let new : Waiting = record { array = frame i j; tick = now P } in
          let calls : calls_for s P (Put r w i j f) ≡ sorted_result s v (frame i j) (waiting s v P) (Put 0 v i j f ∷ P) =
          ap (λ (u : ℕ). calls_for s P (Put r u i j f)) is ∙ result-sorted s v (frame i j) f P (node s v).work (and_parts _ _ sorted).0 sorted in
          let more : waiting s v (Put r w i j f ∷ P) ≡ waiting s v (Put 0 v i j f ∷ P) = ap (λ (u : ℕ). waiting s v (Put r u i j f ∷ P)) is in
          let most = lates-result s v t (frame i j) (waiting s v P) new (Put 0 v i j f ∷ P) (put_laws.waits s 0 v i j f P sorted) in
          omega (arith, whole, most, ap (count (lates v t)) calls, ap (count (overdue s v (now P) t)) more)
    ]
late-owed s (Tick u ∷ P) v m k nz sorted h =
    let t : FrameName → Bool = λ x. same x (frame m k) in
    let whole : count (lates v t) (owed s (Tick u ∷ P)) ≡ count (lates v t) (looks s (Tick u ∷ P) (node_numbers s)) + 0 =
    count-append (lates v t) (looks s (Tick u ∷ P) (node_numbers s)) (drop 1 (owed s P))
    ∙ ap (λ (ds : List Entry). count (lates v t) (looks s (Tick u ∷ P) (node_numbers s)) + count (lates v t) ds) (tick-alone s u P h) in
    omega (arith, whole, lates-looks s (Tick u ∷ P) v t (node_numbers s) (once_numbered s v))
late-owed s (Settle r w ∷ P) v m k nz sorted h =
    let t : FrameName → Bool = λ x. same x (frame m k) in
    omega (
      arith,
      late-owed s P v m k nz sorted (and_parts _ _ h).0,
      count-append (lates v t) (calls_for s P (Settle r w)) (drop 1 (owed s P)),
      lates-flush v w t (least_first s (waiting s w P)),
      count-drop (lates v t) (owed s P),
    )
late-owed s (Emit w i j why ∷ P) v m k nz sorted h =
    let t : FrameName → Bool = λ x. same x (frame m k) in
    let legal : is_legal s P ≡ true = (and_parts _ _ h).0 in
    let before = late-owed s P v m k nz sorted legal in
    let less : count (lates v t) (owed s (Emit w i j why ∷ P)) ≤ count (lates v t) (drop 1 (owed s P)) =
    omega (
      arith,
      count-append (lates v t) (map (offer (frame i j)) (offered_to s P w)) (drop 1 (owed s P)),
      none-offers (lates v t) (misses v t) (frame i j) (offered_to s P w),
    ) in
    elim (cases_Bool (eqb w v)) [
      | inr away ↦
          let stays : waiting s v (Emit w i j why ∷ P) ≡ waiting s v P = rw away refl in
          omega (arith, before, less, count-drop (lates v t) (owed s P), ap (count (overdue s v (now P) t)) stays)
      | inl here ↦
          let goes : waiting s v (Emit w i j why ∷ P) ≡ not_waiting (frame i j) (waiting s v P) = rw here refl in
          elim (cases_Bool (t (frame i j))) [
            | inr other ↦
                omega (
                  arith,
                  before,
                  less,
                  count-drop (lates v t) (owed s P),
                  ap (count (overdue s v (now P) t)) goes,
                  kept-overdue s v (now P) i j t (waiting s v P) other,
                )
            | inl ours ↦
                omega (
                  arith,
                  less,
                  lates-le v t (drop 1 (owed s P)),
                  owed-Emit_out s w i j why P v t h,
                  ap bit (and_from _ _ here ours),
                  owed-waits s P v t nz sorted legal,
                  waits-once s P v m k nz sorted legal,
                )
          ]
    ]
late-owed s (SortDrop w i j ∷ P) v m k nz sorted h =
    let t : FrameName → Bool = λ x. same x (frame m k) in
    let legal : is_legal s P ≡ true = (and_parts _ _ h).0 in
    let before = late-owed s P v m k nz sorted legal in
    elim (cases_Bool (eqb w v)) [
      | inr away ↦
          let stays : waiting s v (SortDrop w i j ∷ P) ≡ waiting s v P = rw away refl in
          omega (arith, before, count-drop (lates v t) (owed s P), ap (count (overdue s v (now P) t)) stays)
      | inl here ↦
          let goes : waiting s v (SortDrop w i j ∷ P) ≡ not_waiting (frame i j) (waiting s v P) = rw here refl in
          elim (cases_Bool (t (frame i j))) [
            | inr other ↦
                omega (
                  arith,
                  before,
                  count-drop (lates v t) (owed s P),
                  ap (count (overdue s v (now P) t)) goes,
                  kept-overdue s v (now P) i j t (waiting s v P) other,
                )
            | inl ours ↦
                omega (
                  arith,
                  lates-le v t (drop 1 (owed s P)),
                  owed-SortDrop_out s w i j P v t h,
                  ap bit (and_from _ _ here ours),
                  owed-waits s P v t nz sorted legal,
                  waits-once s P v m k nz sorted legal,
                )
          ]
    ]
late-owed s (e ∷ P) v m k nz sorted h =
    omega (arith, late-owed s P v m k nz sorted (and_parts _ _ h).0, count-drop (lates v (λ x. same x (frame m k))) (owed s P))

-- one that passes a test
found : {X : Type 0} (p : X → Bool) (xs : List X) → 1 ≤ count p xs → (x : X) × (Contains xs x) × (p x ≡ true)
found p [] some = absurd (omega (arith, some))
found p (x ∷ xs) some =
    elim (cases_Bool (p x)) [
      | inl here ↦ (x, Contains-append_left (x ∷ []) xs x (0, omega arith, refl), here)
      | inr away ↦
          let more = found p xs (omega (arith, some, count-cons p x xs, ap bit away)) in
          (more.0, Contains-append_right (x ∷ []) xs more.0 more.1, more.2)
    ]

late_mark : (how : Why) → eqb (why_number how) (why_number Late) ≡ true → how ≡ Late
late_mark Late h = refl
late_mark _ h = absurd (false≢true h)

-- nothing goes out late of a node without a sort list
plain-looks : (s : Setting) (P : Past) (v : ℕ) (t : FrameName → Bool) (us : List ℕ) → is_sorted s v ≡ false → count (lates v t) (looks s P us) ≡ 0
plain-looks s P v t [] plain = refl
plain-looks s P v t (u ∷ us) plain =
    omega (arith, count-append (lates v t) (cond (is_sorted s u) (look s u P) []) (looks s P us), one (cases_Bool (eqb u v)), plain-looks s P v t us plain)
  where
    one : (eqb u v ≡ true) ⊎ (eqb u v ≡ false) → count (lates v t) (cond (is_sorted s u) (look s u P) []) ≡ 0
    one (inl here) = let off : is_sorted s u ≡ false = ap (is_sorted s) (eqb-true u v here) ∙ plain in rw off refl
    one (inr away) = lates-if s P v u t (is_sorted s u) (eqb-false u v away)

more-owed : (v : ℕ) (t : FrameName → Bool) (xs ys : List Entry) → count (lates v t) xs ≡ 0 → count (lates v t) ys ≡ 0 → count (lates v t) (xs ++ drop 1 ys) ≡ 0
more-owed v t xs ys a b = omega (arith, count-append (lates v t) xs (drop 1 ys), a, b, count-drop (lates v t) ys)

none-late : (s : Setting) (P : Past) (v : ℕ) (t : FrameName → Bool) → is_sorted s v ≡ false → count (lates v t) (owed s P) ≡ 0
none-late s [] v t plain = refl
none-late s (Tick u ∷ P) v t plain =
    more-owed v t (calls_for s P (Tick u)) (owed s P) (plain-looks s (Tick u ∷ P) v t (node_numbers s) plain) (none-late s P v t plain)
none-late s (Emit w i j why ∷ P) v t plain =
    more-owed v t (calls_for s P (Emit w i j why)) (owed s P) (none-offers (lates v t) (misses v t) (frame i j) (offered_to s P w)) (none-late s P v t plain)
none-late s (Settle r w ∷ P) v t plain =
    more-owed v t (calls_for s P (Settle r w)) (owed s P) (lates-flush v w t (least_first s (waiting s w P))) (none-late s P v t plain)
none-late s (Put r w i j f ∷ P) v t plain = more-owed v t (calls_for s P (Put r w i j f)) (owed s P) (called (cases_Bool (eqb w v))) (none-late s P v t plain)
  where
    called : (eqb w v ≡ true) ⊎ (eqb w v ≡ false) → count (lates v t) (calls_for s P (Put r w i j f)) ≡ 0
    called (inl here) = none-unsorted (lates v t) (misses v t) s w (frame i j) f P (node s w).work (ap (is_sorted s) (eqb-true w v here) ∙ plain)
    called (inr away) = lates-elsewhere v w t (calls_for s P (Put r w i j f)) (eqb-false w v away) (result-at s w (frame i j) f P (node s w).work)
none-late s (e ∷ P) v t plain = more-owed v t (calls_for s P e) (owed s P) refl (none-late s P v t plain)

late-due : (s : Setting) (P : Past) (v m k : ℕ) → is_legal s P ≡ true → 1 ≤ count (lates v (λ x. same x (frame m k))) (owed s P)
    → 1 ≤ count (overdue s v (now P) (λ x. same x (frame m k))) (waiting s v P)
late-due s P v m k legal some =
    elim (cases_Bool (is_sorted s v)) [
      | inl sorted ↦ omega (arith, some, late-owed s P v m k (sorted-node s v sorted) sorted legal)
      | inr plain ↦ absurd (omega (arith, some, none-late s P v (λ x. same x (frame m k)) plain))
    ]

pub late-waited : (s : Setting) (newer P : Past) (v m k : ℕ) → is_legal s (newer ++ Emit v m k Late ∷ P) ≡ true → HasWaitedLong s v m k P
late-waited s newer P v m k all =
    let h : is_legal s (Emit v m k Late ∷ P) ≡ true = legal-front s newer (Emit v m k Late ∷ P) all in
    let t : FrameName → Bool = λ x. same x (frame m k) in
    let a = owed-answered s (Emit v m k Late) P refl h in
    let x = emit-answers s P v m k Late a.head a.answer in
    let is : a.head ≡ Emit v m k Late = x.1 ∙ ap (Emit v m k) (late_mark x.0 x.2) in
    let hit : bit (lates v t a.head) ≡ 1 = ap (λ (d : Entry). bit (lates v t d)) is ∙ ap bit (and_from _ _ (eq-eqb v v refl) (same_refl (frame m k))) in
    let some : 1 ≤ count (lates v t) (owed s P) = omega (arith, hit, ap (count (lates v t)) a.is, count-cons (lates v t) a.head a.rest) in
    let w = found (overdue s v (now P) t) (waiting s v P) (late-due s P v m k (and_parts _ _ h).0 some) in
    let both = and_parts (t w.0.array) (ltb (w.0.tick + (node s v).sort_time) (now P)) w.2 in
    let name : w.0.array ≡ frame m k = same-true w.0.array (frame m k) both.0 in
    record {
      tick = w.0.tick;
      waits = subst (λ (b : FrameName). Contains (waiting s v P) (record { array = b; tick = w.0.tick })) name w.1;
      past = ltb-true (w.0.tick + (node s v).sort_time) (now P) both.1;
    }
