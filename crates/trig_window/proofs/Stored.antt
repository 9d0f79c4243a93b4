-- A push by the fields of a `Window`.
use Rattle.std.proofs.Common.{◌≡◌, ◌≢◌, ℕ, ◌-◌, ◌<◌, ◌≤◌, Bool, true, false, nat_lt, List, [], ◌∷◌, ◌++◌, length, take, drop, Some, None, slice_get, ap}
use Rattle.std.proofs.Common.{sym, subst, ◌∙◌, arith, length-take, min, ⊎_elim, if◌then◌else◌}
use Rattle.std.proofs.lemmas.Bool.{lt-ltb, le-ltb, cases_lt, cond-true, cond-false}
use Rattle.std.proofs.lemmas.List.{drop_all, take_all, nil_from_length}
use Rattle.circular_buffer.specs.Buffer.{Buffer, buffer, keep_last}
use Rattle.trig_window.specs.declared.window.Passed.{Passed}
use Rattle.trig_window.specs.declared.window.Passed.TheVariants.{Kept, KeptFor, Now, LetGo}
use Rattle.trig_window.specs.Watch.{Watch}
use Rattle.trig_window.specs.WatchFields.{watch_of, IsWatch}
use Rattle.trig_window.specs.Watching.{IsAfter, Pushes}
use Rattle.trig_window.proofs.Pushes.{push-inside, push-complete, push-fired, push-kept, push-let_go, push-kept_for}

-- at an equal window
pub at_window : {X : Type 0} (w old : Watch X) (flags : List Bool) (fired : Bool) (item : X) (new : Watch X) (r : Passed X) → w ≡ old → old.pending ≡ []
    → (IsAfter w flags → w.pending ≡ [] → Pushes flags fired item w new r) → IsAfter old flags → Pushes flags fired item old new r
at_window w old flags fired item new r e none h after =
    subst (λ o. Pushes flags fired item o new r) e (h (subst (λ o. IsAfter o flags) (sym e) after) (ap (λ o. o.pending) e ∙ none))

pub unchanged : {X : Type 0} (w old : Watch X) (flags : List Bool) (fired : Bool) (item : X) (r : Passed X) → w ≡ old → old.pending ≡ []
    → (IsAfter w flags → w.pending ≡ [] → Pushes flags fired item w w r) → IsAfter old flags → Pushes flags fired item old old r
unchanged w old flags fired item r e none h after =
    subst (λ o. Pushes flags fired item o o r) e (h (subst (λ o. IsAfter o flags) (sym e) after) (ap (λ o. o.pending) e ∙ none))

pub as_fired : {X : Type 0} (flags : List Bool) (fired b : Bool) (item : X) (old new : Watch X) (r s : Passed X) → fired ≡ b → r ≡ s
    → Pushes flags b item old new s → Pushes flags fired item old new r
as_fired flags fired b item old new r s e f h = subst (λ p. Pushes flags p item old new r) (sym e) (subst (λ q. Pushes flags b item old new q) (sym f) h)

no_first : {X : Type 0} (xs : List X) (x : X) → None ≡ slice_get (xs ++ x ∷ []) 0 → ⊥
no_first [] x e = cc
no_first (y ∷ ys) x e = cc

some_none : {X : Type 0} (x : X) → Some x ≡ None → ⊥
some_none x e = cc

none_pending : {X : Type 0} (pending : ℕ) (xs : List X) → pending ≤ length xs → take pending xs ≡ [] → pending ≡ 0
none_pending pending xs h e =
    let l : min pending (length xs) ≡ 0 = sym (length-take pending xs) ∙ ap length e in omega arith

module _ {X : Type 0} (pre post preset left wanted pending : ℕ) (stored : Buffer X) (inv : IsWatch pre post preset left wanted pending stored)
    (flags : List Bool) (item : X) where
  module _ (after : IsAfter (watch_of pre post preset left wanted pending stored) flags) (none : take pending stored.items ≡ []) where
    pub stored-inside : (fired : Bool) → 0 < left
        → Pushes flags fired item (watch_of pre post preset left wanted pending stored) (watch_of pre post preset (left - 1) wanted pending stored) (Now item)
    stored-inside fired h =
        push-inside (watch_of pre post preset left wanted pending stored) flags item after fired h (drop_all pending stored.items (inv.inside h)) none

    pub stored-complete : (fired : Bool) → left ≡ 0 → 0 < preset → wanted ≡ 0
        → Pushes flags fired item (watch_of pre post preset left wanted pending stored) (watch_of pre post preset left wanted pending stored) (LetGo item)
    stored-complete fired ended above full =
        push-complete (watch_of pre post preset left wanted pending stored) flags item after fired ended above full
        (drop_all pending stored.items (inv.complete above full)) none

    zero_pending : pending ≡ 0
    zero_pending = none_pending pending stored.items inv.within none

    all_ring : drop pending stored.items ≡ stored.items
    all_ring = ap (λ n. drop n stored.items) zero_pending

    pub stored-fired : left ≡ 0 → (0 < preset → wanted ≢ 0) → (still len : ℕ) → still ≡ wanted - 1 → len ≡ length stored.items
        → Pushes flags true item (watch_of pre post preset left wanted pending stored) (watch_of pre post preset (post - 1) still len stored) (Now item)
    stored-fired ended some still len e f =
        let empty : [] ≡ drop len stored.items = sym (drop_all len stored.items (omega arith)) in
        let whole : drop pending stored.items ≡ take len stored.items = all_ring ∙ sym (take_all len stored.items (omega arith)) in
        subst (λ n. Pushes flags true item (watch_of pre post preset left wanted pending stored) (record {
          pre = pre;
          post = post;
          preset = preset;
          left = post - 1;
          wanted = n;
          ring = drop len stored.items;
          pending = take len stored.items;
        }) (Now item)) (sym e)
        (subst (λ xs. Pushes flags true item (watch_of pre post preset left wanted pending stored)
        (record { pre = pre; post = post; preset = preset; left = post - 1; wanted = wanted - 1; ring = xs; pending = take len stored.items }) (Now item)) empty
        (subst (λ xs. Pushes flags true item (watch_of pre post preset left wanted pending stored)
        (record { pre = pre; post = post; preset = preset; left = post - 1; wanted = wanted - 1; ring = []; pending = xs }) (Now item)) whole
        (push-fired (watch_of pre post preset left wanted pending stored) flags item after inv.positive ended some)))

    module _ (ended : left ≡ 0) (some : 0 < preset → wanted ≢ 0) (new : Buffer X)
        (now : new ≡ buffer (keep_last stored.capacity (stored.items ++ item ∷ [])) stored.capacity) where
      moved : (r : Passed X)
          → Pushes flags false item (watch_of pre post preset left wanted pending stored) (record {
            pre = pre;
            post = post;
            preset = preset;
            left = left;
            wanted = wanted;
            ring = keep_last pre (drop pending stored.items ++ item ∷ []);
            pending = take pending stored.items;
          }) r
          → Pushes flags false item (watch_of pre post preset left wanted pending stored) (watch_of pre post preset left wanted pending new) r
      moved r h =
          let ring : keep_last pre (drop pending stored.items ++ item ∷ []) ≡ drop pending new.items =
          ap (λ xs. keep_last pre (xs ++ item ∷ [])) all_ring ∙ ap (λ n. keep_last n (stored.items ++ item ∷ [])) (sym inv.room) ∙ sym (ap (λ b. b.items) now)
          ∙ sym (ap (λ n. drop n new.items) zero_pending) in
          let out : take pending stored.items ≡ take pending new.items = none ∙ sym (ap (λ n. take n new.items) zero_pending) in
          subst (λ xs. Pushes flags false item (watch_of pre post preset left wanted pending stored)
          (record { pre = pre; post = post; preset = preset; left = left; wanted = wanted; ring = xs; pending = take pending new.items }) r) ring
          (subst (λ xs. Pushes flags false item (watch_of pre post preset left wanted pending stored) (record {
            pre = pre;
            post = post;
            preset = preset;
            left = left;
            wanted = wanted;
            ring = keep_last pre (drop pending stored.items ++ item ∷ []);
            pending = xs;
          }) r) out h)

      room-len : length (drop pending stored.items) ≡ length stored.items
      room-len = ap length all_ring

      pub stored-kept : None ≡ (if nat_lt (length stored.items) stored.capacity then None else slice_get (stored.items ++ item ∷ []) 0)
          → Pushes flags false item (watch_of pre post preset left wanted pending stored) (watch_of pre post preset left wanted pending new) Kept
      stored-kept value =
          let room : length stored.items < stored.capacity =
          ⊎_elim (λ lt. lt) (λ ge. absurd (no_first stored.items item (value ∙ cond-false _ None (slice_get (stored.items ++ item ∷ []) 0) (le-ltb _ _ ge))))
          (cases_lt (length stored.items) stored.capacity) in
          moved Kept (push-kept (watch_of pre post preset left wanted pending stored) flags item after ended some none (omega (arith, room-len, inv.room)))

      full : (x : X) → Some x ≡ (if nat_lt (length stored.items) stored.capacity then None else slice_get (stored.items ++ item ∷ []) 0)
          → (stored.capacity ≤ length stored.items) × (Some x ≡ slice_get (stored.items ++ item ∷ []) 0)
      full x value =
          ⊎_elim
          (λ lt. absurd (some_none x (value ∙ cond-true _ None (slice_get (stored.items ++ item ∷ []) 0) (lt-ltb _ _ lt))))
          (λ ge. (ge, value ∙ cond-false _ None (slice_get (stored.items ++ item ∷ []) 0) (le-ltb _ _ ge)))
          (cases_lt (length stored.items) stored.capacity)

      pub stored-let_go : (x : X) → pre ≡ 0 → Some x ≡ (if nat_lt (length stored.items) stored.capacity then None else slice_get (stored.items ++ item ∷ []) 0)
          → Pushes flags false item (watch_of pre post preset left wanted pending stored) (watch_of pre post preset left wanted pending new) (LetGo x)
      stored-let_go x zero_pre value =
          let few : length stored.items ≤ pre = inv.few in
          let empty : stored.items ≡ [] = nil_from_length stored.items (omega arith) in
          let same : Some x ≡ Some item = (full x value).1 ∙ ap (λ xs. slice_get (xs ++ item ∷ []) 0) empty in
          moved (LetGo x) (push-let_go (watch_of pre post preset left wanted pending stored) flags item after ended some none zero_pre (all_ring ∙ empty) x cc)

      pub stored-kept_for : (x : X) → pre ≢ 0
          → Some x ≡ (if nat_lt (length stored.items) stored.capacity then None else slice_get (stored.items ++ item ∷ []) 0)
          → Pushes flags false item (watch_of pre post preset left wanted pending stored) (watch_of pre post preset left wanted pending new) (KeptFor x)
      stored-kept_for x above value =
          let parts = full x value in
          let few : length stored.items ≤ pre = inv.few in
          let most : stored.capacity ≤ length stored.items = parts.0 in
          moved (KeptFor x) (push-kept_for (watch_of pre post preset left wanted pending stored) flags item after ended some none (omega arith)
          (omega (arith, room-len, inv.room)) x (parts.1 ∙ ap (λ xs. slice_get (xs ++ item ∷ []) 0) (sym all_ring)))
