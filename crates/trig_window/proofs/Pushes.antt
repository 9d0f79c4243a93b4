-- What one push does, in each of its cases.
use Rattle.std.proofs.Common.{◌≡◌, ◌≢◌, ℕ, ◌+◌, ◌-◌, ◌<◌, ◌≤◌, Bool, true, false, List, [], ◌∷◌, ◌++◌, length, drop, Some, slice_get, ap, sym, ◌∙◌, refl}
use Rattle.std.proofs.Common.{arith, inl, inr, if◌then◌else◌}
use Rattle.std.proofs.lemmas.Bool.{lt-ltb, le-ltb, cond-true, cond-false}
use Rattle.std.proofs.lemmas.List.{length_push}
use Rattle.circular_buffer.specs.Buffer.{keep_last}
use Rattle.trig_window.specs.declared.window.Passed.TheVariants.{Kept, KeptFor, Now, LetGo}
use Rattle.trig_window.specs.Watch.{Watch}
use Rattle.trig_window.specs.Watching.{IsAfter, Pushes}
use Rattle.trig_window.specs.Windows.{triggers, end_of_last, is_complete, is_trigger, is_passed, kept}
use Rattle.trig_window.specs.WindowLaws.{triggers-inside, triggers-complete, triggers-fired, triggers-quiet, same-is_trigger, same-is_passed}
use Rattle.trig_window.specs.WindowLaws.{same-is_complete, grown-is_trigger, grown-end, grown-is_passed, kept-inside, kept-complete, kept-push}
use Rattle.trig_window.specs.WindowLaws.{is_complete-true, is_complete-false}

module _ {X : Type 0} (old : Watch X) (flags : List Bool) (item : X) (after : IsAfter old flags) where
  -- nothing has come that counts
  same-after : (fired : Bool) (left : ℕ) (ring pending : List X) → triggers old.post old.preset (flags ++ fired ∷ []) ≡ triggers old.post old.preset flags
      → left ≡ old.left - 1 → IsAfter (record old { left = left; ring = ring; pending = pending }) (flags ++ fired ∷ [])
  same-after fired left ring pending same down = record {
    left = let n = length_push flags fired in let l = after.left in rw (same, n) (omega arith);
    wanted = rw same (after.wanted);
  }

  pub push-inside : (fired : Bool) → 0 < old.left → old.ring ≡ [] → old.pending ≡ []
      → Pushes flags fired item old (record old { left = old.left - 1 }) (Now item)
  push-inside fired inside empty none =
      let within : length flags < end_of_last old.post (triggers old.post old.preset flags) = omega (arith, after.left) in
      let same : triggers old.post old.preset (flags ++ fired ∷ []) ≡ triggers old.post old.preset flags =
      triggers-inside old.post old.preset flags fired within in
      record {
        after = same-after fired (old.left - 1) old.ring old.pending same refl;
        answer = (same-is_passed old.pre old.post old.preset flags fired same ∙ lt-ltb _ _ within, refl, empty);
        pending = none ∙ sym (cond-false _ old.ring [] (same-is_trigger old.pre old.post old.preset flags fired same));
        ring =
            λ xs len was. empty ∙ sym (kept-inside old.pre old.post old.preset (flags ++ fired ∷ []) (xs ++ item ∷ []) (rw (same, length_push) (omega arith)));
      }

  pub push-complete : (fired : Bool) → old.left ≡ 0 → 0 < old.preset → old.wanted ≡ 0 → old.ring ≡ [] → old.pending ≡ []
      → Pushes flags fired item old old (LetGo item)
  push-complete fired ended above full empty none =
      let complete : is_complete old.post old.preset flags ≡ true = is_complete-true old.post old.preset flags above (sym after.wanted ∙ full) in
      let same : triggers old.post old.preset (flags ++ fired ∷ []) ≡ triggers old.post old.preset flags =
      triggers-complete old.post old.preset flags fired complete in
      let still : is_complete old.post old.preset (flags ++ fired ∷ []) ≡ true = same-is_complete old.pre old.post old.preset flags fired same ∙ complete in
      record {
        after = same-after fired old.left old.ring old.pending same (omega arith);
        answer = (same-is_passed old.pre old.post old.preset flags fired same ∙ le-ltb _ _ (omega (arith, after.left)), inl still, refl, empty, none);
        pending = none ∙ sym (cond-false _ old.ring [] (same-is_trigger old.pre old.post old.preset flags fired same));
        ring = λ xs len was. empty ∙ sym (kept-complete old.pre old.post old.preset (flags ++ fired ∷ []) (xs ++ item ∷ []) still);
      }

  pub push-fired : 1 ≤ old.post → old.left ≡ 0 → (0 < old.preset → old.wanted ≢ 0)
      → Pushes flags true item old (record old { left = old.post - 1; wanted = old.wanted - 1; ring = []; pending = old.ring }) (Now item)
  push-fired positive ended some =
      let past : end_of_last old.post (triggers old.post old.preset flags) ≤ length flags = omega (arith, after.left) in
      let grown : triggers old.post old.preset (flags ++ true ∷ []) ≡ triggers old.post old.preset flags ++ length flags ∷ [] =
      triggers-fired old.post old.preset flags past (is_complete-false old.post old.preset flags (λ above e. some above (after.wanted ∙ e))) in
      let end : end_of_last old.post (triggers old.post old.preset (flags ++ true ∷ [])) ≡ length flags + old.post =
      grown-end old.pre old.post old.preset flags true grown in
      record {
        after = record {
          left = rw (end, length_push) (omega arith);
          wanted = let w = after.wanted in rw (grown, length_push) (omega arith);
        };
        answer = (grown-is_passed old.pre old.post old.preset flags true grown positive, refl, refl);
        pending = sym (cond-true _ old.ring [] (grown-is_trigger old.pre old.post old.preset flags true grown));
        ring = λ xs len was. sym (kept-inside old.pre old.post old.preset (flags ++ true ∷ []) (xs ++ item ∷ []) (rw (end, length_push) (omega arith)));
      }

  module _ (ended : old.left ≡ 0) (some : 0 < old.preset → old.wanted ≢ 0) (none : old.pending ≡ []) where
    same_as_before : triggers old.post old.preset (flags ++ false ∷ []) ≡ triggers old.post old.preset flags
    same_as_before = triggers-quiet old.post old.preset flags

    open_before : is_complete old.post old.preset flags ≡ false
    open_before = is_complete-false old.post old.preset flags (λ above e. some above (after.wanted ∙ e))

    past : end_of_last old.post (triggers old.post old.preset flags) ≤ length flags
    past = omega (arith, after.left)

    not_passed : is_passed old.pre old.post old.preset (flags ++ false ∷ []) (length flags) ≡ false
    not_passed = same-is_passed old.pre old.post old.preset flags false same_as_before ∙ le-ltb _ _ past

    open_still : is_complete old.post old.preset (flags ++ false ∷ []) ≡ false
    open_still = same-is_complete old.pre old.post old.preset flags false same_as_before ∙ open_before

    ring_kept : (ring : List X) → ring ≡ keep_last old.pre (old.ring ++ item ∷ []) → (xs : List X) → length xs ≡ length flags
        → old.ring ≡ kept old.pre old.post old.preset flags xs → ring ≡ kept old.pre old.post old.preset (flags ++ false ∷ []) (xs ++ item ∷ [])
    ring_kept ring now xs len was =
        now ∙ ap (λ ks. keep_last old.pre (ks ++ item ∷ [])) was
        ∙ sym (kept-push old.pre old.post old.preset flags false xs item len same_as_before past open_before)

    no_pending : old.pending ≡ (if is_trigger old.post old.preset (flags ++ false ∷ []) (length flags) then old.ring else [])
    no_pending = none ∙ sym (cond-false _ old.ring [] (same-is_trigger old.pre old.post old.preset flags false same_as_before))

    -- the ring has room
    pub push-kept : length old.ring < old.pre → Pushes flags false item old (record old { ring = keep_last old.pre (old.ring ++ item ∷ []) }) Kept
    push-kept room =
        let all : keep_last old.pre (old.ring ++ item ∷ []) ≡ old.ring ++ item ∷ [] =
        ap (λ n. drop n (old.ring ++ item ∷ [])) (let e : length (old.ring ++ item ∷ []) - old.pre ≡ 0 = rw length_push (omega arith) in e) in
        record {
          after = same-after false old.left (keep_last old.pre (old.ring ++ item ∷ [])) old.pending same_as_before (omega arith);
          answer = (not_passed, open_still, room, all, none);
          pending = no_pending;
          ring = ring_kept (keep_last old.pre (old.ring ++ item ∷ [])) refl;
        }

    -- nothing is kept
    pub push-let_go : old.pre ≡ 0 → old.ring ≡ [] → (x : X) → x ≡ item
        → Pushes flags false item old (record old { ring = keep_last old.pre (old.ring ++ item ∷ []) }) (LetGo x)
    push-let_go zero_pre empty x e =
        record {
          after = same-after false old.left (keep_last old.pre (old.ring ++ item ∷ [])) old.pending same_as_before (omega arith);
          answer = (not_passed, inr zero_pre, e, rw (empty, zero_pre) refl, none);
          pending = no_pending;
          ring = ring_kept (keep_last old.pre (old.ring ++ item ∷ [])) refl;
        }

    keep_last-full : (n : ℕ) (xs : List X) (x oldest : X) → 0 < n → length xs ≡ n → Some oldest ≡ slice_get (xs ++ x ∷ []) 0
        → xs ++ x ∷ [] ≡ oldest ∷ keep_last n (xs ++ x ∷ [])
    keep_last-full n [] x oldest above e first = absurd (omega (arith, e))
    keep_last-full n (y ∷ ys) x oldest above e first =
        let one : length (y ∷ ys ++ x ∷ []) - n ≡ 1 = rw length_push (omega (arith, e)) in
        let same : oldest ≡ y = cc in
        ap (λ z. z ∷ (ys ++ x ∷ [])) (sym same) ∙ ap (λ m. oldest ∷ drop m (y ∷ ys ++ x ∷ [])) (sym one)

    -- the ring is full
    pub push-kept_for : 0 < old.pre → length old.ring ≡ old.pre → (oldest : X) → Some oldest ≡ slice_get (old.ring ++ item ∷ []) 0
        → Pushes flags false item old (record old { ring = keep_last old.pre (old.ring ++ item ∷ []) }) (KeptFor oldest)
    push-kept_for above full oldest first =
        record {
          after = same-after false old.left (keep_last old.pre (old.ring ++ item ∷ [])) old.pending same_as_before (omega arith);
          answer = (not_passed, open_still, above, full, keep_last-full old.pre old.ring item oldest above full first, none);
          pending = no_pending;
          ring = ring_kept (keep_last old.pre (old.ring ++ item ∷ [])) refl;
        }
