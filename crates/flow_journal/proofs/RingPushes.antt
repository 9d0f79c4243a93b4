-- The ring of a circular node after a put.
use Rattle.std.proofs.Common.{◌≡◌, ℕ, ◌-◌, ◌<◌, ◌≤◌, Bool, true, false, cond, ltb, List, [], ◌∷◌, ◌++◌, ◌||◌, map, length, drop, max, refl, sym, ap, ◌∙◌}
use Rattle.std.proofs.Common.{subst, inl, inr, arith}
use Rattle.std.proofs.lemmas.Bool.{cases_Bool, cases_lt, true≢false, ltb-true, ltb-false}
use Rattle.std.proofs.lemmas.List.{length-map, map-append, drop-map, length_push}
use Rattle.nd_base.specs.declared.frame.FrameName.{FrameName}
use Rattle.trig_window.specs.Windows.{triggers, is_trigger, end_of_last, is_passed, is_complete, kept}
use Rattle.trig_window.specs.WindowLaws.{triggers-inside, triggers-complete, triggers-fired, triggers-quiet, passed_now, grown-is_trigger, same-is_passed}
use Rattle.trig_window.specs.WindowLaws.{kept-inside, kept-complete, kept-push}
use Rattle.trig_window.specs.Watch.{Watch}
use Rattle.trig_window.specs.Watching.{IsAfter}
use Rattle.trig_window.specs.declared.window.Passed.{Passed}
use Rattle.flow_journal.specs.declared.entry.Entry.TheVariants.{Put}
use Rattle.flow_journal.specs.declared.entry.Why.TheVariants.{Ring, Now}
use Rattle.flow_journal.specs.Setting.{Setting}
use Rattle.flow_journal.specs.Pasts.{Past, frame}
use Rattle.flow_journal.specs.Ended.{is_settled}
use Rattle.flow_journal.specs.Puts.{puts, firings}
use Rattle.flow_journal.specs.Rings.{ring}
use Rattle.flow_journal.specs.FirstEntries.{first}
use Rattle.flow_journal.specs.Following.{emit, result, calls_for}
use Rattle.flow_journal.specs.Histories.{is_legal}
use Rattle.flow_journal.specs.RingPushes.{last_of, IsWatchedPut, RingPushLaws, IsWindowOf, IsPushed, RingWindowLaws}
use Rattle.flow_journal.proofs.Steps.{comes_here}
use Rattle.flow_journal.proofs.Emissions.{flags-puts}
use Rattle.flow_journal.proofs.RingCounts.{kept-nothing}
use Rattle.flow_journal.proofs.Settled.{put-unsettled}
use Rattle.flow_journal.proofs.Changes.{ring_laws}

-- a position that is no trigger leaves the triggers as they were
no_new_trigger : (post preset : ℕ) (flags : List Bool) (f : Bool) → is_trigger post preset (flags ++ f ∷ []) (length flags) ≡ false
    → triggers post preset (flags ++ f ∷ []) ≡ triggers post preset flags
no_new_trigger post preset flags false h = triggers-quiet post preset flags
no_new_trigger post preset flags true h =
    elim (cases_lt (length flags) (end_of_last post (triggers post preset flags))) [
      | inl inside ↦ triggers-inside post preset flags true inside
      | inr past ↦ elim (cases_Bool (is_complete post preset flags)) [
        | inl complete ↦ triggers-complete post preset flags true complete
        | inr open_still ↦ absurd (true≢false (sym (grown-is_trigger 0 post preset flags true (triggers-fired post preset flags past open_still)) ∙ h))
      ]
    ]

passed_ring : (s : Setting) (r v m k : ℕ) (f : Bool) (pre post preset : ℕ) (P : Past) → IsWatchedPut s r v m k f pre post preset P
    → is_passed pre post preset (firings v P ++ f ∷ []) (length (firings v P)) ≡ true → ring s v (Put r v m k f ∷ P) ≡ []
passed_ring s r v m k f pre post preset P h passed =
    let flags : List Bool = firings v P ++ f ∷ [] in
    let before : length (firings v P) < end_of_last post (triggers post preset flags) =
    ltb-true _ _ (sym (passed_now pre post preset (firings v P) f) ∙ passed) in
    let long : length (puts v P ++ frame m k ∷ []) ≤ end_of_last post (triggers post preset flags) =
    omega (arith, before, flags-puts v P, length_push (puts v P) (frame m k)) in
    ring_laws.put s r v m k f P pre post preset h.rule h.legal h.row ∙ kept-inside pre post preset flags (puts v P ++ frame m k ∷ []) long

joined_ring : (s : Setting) (r v m k : ℕ) (f : Bool) (pre post preset : ℕ) (P : Past) → IsWatchedPut s r v m k f pre post preset P
    → is_trigger post preset (firings v P ++ f ∷ []) (length (firings v P)) ≡ false
    → is_passed pre post preset (firings v P ++ f ∷ []) (length (firings v P)) ≡ false → is_complete post preset (firings v P) ≡ false
    → ring s v (Put r v m k f ∷ P) ≡ last_of pre (ring s v P ++ frame m k ∷ [])
joined_ring s r v m k f pre post preset P h quiet outside open_still =
    let flags : List Bool = firings v P in
    let same : triggers post preset (flags ++ f ∷ []) ≡ triggers post preset flags = no_new_trigger post preset flags f quiet in
    let past : end_of_last post (triggers post preset flags) ≤ length flags = ltb-false _ _ (sym (same-is_passed pre post preset flags f same) ∙ outside) in
    let was : ring s v P ≡ kept pre post preset flags (puts v P) = ring_laws.kept_is s v P pre post preset h.rule (put-unsettled s r v m k f P h.legal h.row) in
    ring_laws.put s r v m k f P pre post preset h.rule h.legal h.row
    ∙ (kept-push pre post preset flags f (puts v P) (frame m k) (sym (flags-puts v P)) same past open_still
    ∙ ap (λ (xs : List FrameName). last_of pre (xs ++ frame m k ∷ [])) (sym was))

pub ring_push_laws : RingPushLaws
ring_push_laws = record {
  passed = passed_ring;
  complete =
      λ s r v m k f pre post preset P h complete. ring_laws.put s r v m k f P pre post preset h.rule h.legal h.row
      ∙ kept-complete pre post preset (firings v P ++ f ∷ []) (puts v P ++ frame m k ∷ []) complete;
  joins = joined_ring;
}

-- WINDOWS

module _ {X : Type 0} (name : X → FrameName) where
  cond-map : (b : Bool) (xs : List X) (ys : List FrameName) → map name xs ≡ ys → map name (cond b [] xs) ≡ cond b [] ys
  cond-map true xs ys h = refl
  cond-map false xs ys h = h

  -- what is kept goes by places, whatever stands there
  kept-map : (pre post preset : ℕ) (flags : List Bool) (xs : List X) → map name (kept pre post preset flags xs) ≡ kept pre post preset flags (map name xs)
  kept-map pre post preset flags xs =
      let end : ℕ = end_of_last post (triggers post preset flags) in
      let by_length : ℕ → List FrameName = λ n. cond (ltb n end || is_complete post preset flags) [] (drop (max end (n - pre)) (map name xs)) in
      cond-map (ltb (length xs) end || is_complete post preset flags) (drop (max end (length xs - pre)) xs) (drop (max end (length xs - pre)) (map name xs))
      (sym (drop-map name (max end (length xs - pre)) xs))
      ∙ ap by_length (sym (length-map xs name))

  has_ring : (s : Setting) (v : ℕ) (P : Past) (w : Watch X) (xs : List X) → IsWindowOf name s v P w xs → is_settled v P ≡ false → map name w.ring ≡ ring s v P
  has_ring s v P w xs h running =
      ap (map name) h.ring
      ∙ (kept-map w.pre w.post w.preset (firings v P) xs
      ∙ (ap (kept w.pre w.post w.preset (firings v P)) h.names ∙ sym (ring_laws.kept_is s v P w.pre w.post w.preset h.rule running)))

  names-length : (v : ℕ) (P : Past) (xs : List X) → map name xs ≡ puts v P → length xs ≡ length (firings v P)
  names-length v P xs h = sym (length-map xs name) ∙ (ap length h ∙ sym (flags-puts v P))

  push : (s : Setting) (r v m k : ℕ) (f : Bool) (P : Past) (x : X) (xs : List X) (old new : Watch X) (answer : Passed X) → IsWindowOf name s v P old xs
      → IsPushed name s r v m k f P x old new answer → IsWindowOf name s v (Put r v m k f ∷ P) new (xs ++ x ∷ [])
  push s r v m k f P x xs old new answer h p =
      let flags_more : firings v (Put r v m k f ∷ P) ≡ firings v P ++ f ∷ [] = comes_here v f (firings v P) in
      let ring_after : new.ring ≡ kept old.pre old.post old.preset (firings v P ++ f ∷ []) (xs ++ x ∷ []) =
      p.pushes.ring xs (names-length v P xs h.names) h.ring in
      record {
        rule = h.rule ∙ rw (p.same.0, p.same.1, p.same.2) refl;
        names =
            map-append name xs (x ∷ [])
            ∙ (ap (λ (vs : List FrameName). vs ++ name x ∷ []) h.names
            ∙ (ap (λ (a : FrameName). puts v P ++ a ∷ []) p.names ∙ sym (comes_here v (frame m k) (puts v P))));
        after = subst (IsAfter new) (sym flags_more) p.pushes.after;
        ring = rw (p.same.0, p.same.1, p.same.2, flags_more) ring_after;
      }

  calls : (s : Setting) (r v m k : ℕ) (f : Bool) (P : Past) (x : X) (xs : List X) (old new : Watch X) (answer : Passed X) → is_legal s P ≡ true
      → first s P (Put r v m k f) ≡ true → IsWindowOf name s v P old xs → IsPushed name s r v m k f P x old new answer
      → calls_for s P (Put r v m k f) ≡ map (emit v Ring) (map name new.pending)
      ++ cond (is_passed old.pre old.post old.preset (firings v P ++ f ∷ []) (length (firings v P))) (emit v Now (frame m k) ∷ []) []
  calls s r v m k f P x xs old new answer legal row h p =
      let last = cond (is_passed old.pre old.post old.preset (firings v P ++ f ∷ []) (length (firings v P))) (emit v Now (frame m k) ∷ []) [] in
      let fires : Bool = is_trigger old.post old.preset (firings v P ++ f ∷ []) (length (firings v P)) in
      let out : map name new.pending ≡ cond fires (ring s v P) [] =
      ap (map name) p.pushes.pending ∙ pending_is fires old.ring (ring s v P) (has_ring s v P old xs h (put-unsettled s r v m k f P legal row)) in
      ap (result s v (frame m k) f P) h.rule
      ∙ ap (λ zs. zs ++ last) (sym (ap (map (emit v Ring)) out ∙ emits_if fires (ring s v P)))
    where
      pending_is : (b : Bool) (us : List X) (vs : List FrameName) → map name us ≡ vs → map name (cond b us []) ≡ cond b vs []
      pending_is true us vs e = e
      pending_is false us vs e = refl

      emits_if : (b : Bool) (vs : List FrameName) → map (emit v Ring) (cond b vs []) ≡ cond b (map (emit v Ring) vs) []
      emits_if true vs = refl
      emits_if false vs = refl

pub ring_window_laws : (X : Type 0) → RingWindowLaws X
ring_window_laws X = record {
  start = λ name s v pre post preset work after. record { rule = work; names = refl; after = after; ring = sym (kept-nothing pre post preset) };
  has_ring = has_ring;
  push = push;
  calls = calls;
}
