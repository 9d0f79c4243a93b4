-- What entries call for, under a test that no emission of a kind passes.
use Rattle.std.proofs.Common.{◌≡◌, ℕ, ◌+◌, Bool, true, false, cond, ltb, List, [], ◌∷◌, ◌++◌, map, length, refl, arith, inl, inr, ℤ}
use Rattle.std.proofs.lemmas.Bool.{cases_Bool}
use Rattle.nd_base.specs.declared.frame.FrameName.{FrameName}
use Rattle.trig_window.specs.Windows.{is_trigger, is_passed}
use Rattle.flow_journal.specs.declared.entry.Entry.{Entry}
use Rattle.flow_journal.specs.declared.entry.Why.TheVariants.{Plain, Step, Late, Ring, Now}
use Rattle.flow_journal.specs.Setting.{Setting, Work, Makes, Passes, Watches, Saves, node, id_at, is_sorted}
use Rattle.flow_journal.specs.Pasts.{Past}
use Rattle.flow_journal.specs.Ended.{now}
use Rattle.flow_journal.specs.Puts.{firings}
use Rattle.flow_journal.specs.Rings.{ring}
use Rattle.flow_journal.specs.Waiting.{Waiting, waiting, least_first}
use Rattle.queue_sort.specs.Sorting.{keeps_step}
use Rattle.flow_journal.specs.Breaks.{prev}
use Rattle.flow_journal.specs.Following.{offer, emit, goes_out, look, result}
use Rattle.flow_journal.proofs.EntryCounts.{count, bit, count-cons, count-append}
use Rattle.flow_journal.proofs.Issues.{looks}

-- no offer, and no emission of a node without a sort list, passes the test
pub record Misses (p : Entry → Bool) : Type 0 where
  pub offers : (a : FrameName) (c : ℕ) → p (offer a c) ≡ false
  pub plain : (v : ℕ) (a : FrameName) → p (emit v Plain a) ≡ false
  pub rings : (v : ℕ) (a : FrameName) → p (emit v Ring a) ≡ false
  pub nows : (v : ℕ) (a : FrameName) → p (emit v Now a) ≡ false

-- nor one by a look at a sort list
pub record MissesLooks (p : Entry → Bool) : Type 0 where
  pub step : (v : ℕ) (a : FrameName) → p (emit v Step a) ≡ false
  pub late : (v : ℕ) (a : FrameName) → p (emit v Late a) ≡ false

missed : (p : Entry → Bool) (d : Entry) (ds : List Entry) → p d ≡ false → count p ds ≡ 0 → count p (d ∷ ds) ≡ 0
missed p d ds off none = omega (arith, none, count-cons p d ds, ap_bit off)
  where
    ap_bit : p d ≡ false → bit (p d) ≡ 0
    ap_bit h = rw h refl

module _ (p : Entry → Bool) (m : MissesLooks p) where
  pub none-goes_out : (s : Setting) (v : ℕ) (before : ℤ) (now : ℕ) (ws : List Waiting) → count p (goes_out s v before now ws) ≡ 0
  none-goes_out s v before now [] = refl
  none-goes_out s v before now (w ∷ ws) =
      let more = none-goes_out s v (id_at s w.array.index) now ws in
      elim (cases_Bool (keeps_step before (id_at s w.array.index))) [
        | inl step ↦ rw step (missed p (emit v Step w.array) (goes_out s v (id_at s w.array.index) now ws) (m.step v w.array) more)
        | inr out ↦ elim (cases_Bool (ltb (w.tick + (node s v).sort_time) now)) [
          | inl late ↦ rw (out, late) (missed p (emit v Late w.array) (goes_out s v (id_at s w.array.index) now ws) (m.late v w.array) more)
          | inr early ↦ rw (out, early) refl
        ]
      ]

  pub none-look : (s : Setting) (v : ℕ) (P : Past) → count p (look s v P) ≡ 0
  none-look s v P = none-goes_out s v (prev s v P) (now P) (least_first s (waiting s v P))

  pub none-looks : (s : Setting) (P : Past) (us : List ℕ) → count p (looks s P us) ≡ 0
  none-looks s P [] = refl
  none-looks s P (u ∷ us) = omega (arith, count-append p (cond (is_sorted s u) (look s u P) []) (looks s P us), one (is_sorted s u), none-looks s P us)
    where
      one : (b : Bool) → count p (cond b (look s u P) []) ≡ 0
      one true = none-look s u P
      one false = refl

module _ (p : Entry → Bool) (m : Misses p) where
  pub none-offers : (a : FrameName) (cs : List ℕ) → count p (map (offer a) cs) ≡ 0
  none-offers a [] = refl
  none-offers a (c ∷ cs) = missed p (offer a c) (map (offer a) cs) (m.offers a c) (none-offers a cs)

  pub none-watched : (v : ℕ) (a : FrameName) (xs : List FrameName) (b c : Bool)
      → count p (cond b (map (emit v Ring) xs) [] ++ cond c (emit v Now a ∷ []) []) ≡ 0
  none-watched v a xs b c = omega (arith, count-append p (cond b (map (emit v Ring) xs) []) (cond c (emit v Now a ∷ []) []), ring_part b, now_part c)
    where
      all : (xs : List FrameName) → count p (map (emit v Ring) xs) ≡ 0
      all [] = refl
      all (x ∷ xs) = missed p (emit v Ring x) (map (emit v Ring) xs) (m.rings v x) (all xs)

      ring_part : (b : Bool) → count p (cond b (map (emit v Ring) xs) []) ≡ 0
      ring_part true = all xs
      ring_part false = refl

      now_part : (c : Bool) → count p (cond c (emit v Now a ∷ []) []) ≡ 0
      now_part true = missed p (emit v Now a) [] (m.nows v a) refl
      now_part false = refl

  -- a put at a node without a sort list calls for nothing else
  pub none-unsorted : (s : Setting) (v : ℕ) (a : FrameName) (f : Bool) (P : Past) (w : Work) → is_sorted s v ≡ false → count p (result s v a f P w) ≡ 0
  none-unsorted s v a f P (Watches pre post preset) plain =
      none-watched v a (ring s v P) (is_trigger post preset (firings v P ++ f ∷ []) (length (firings v P)))
      (is_passed pre post preset (firings v P ++ f ∷ []) (length (firings v P)))
  none-unsorted s v a f P (Saves whole n) plain = refl
  none-unsorted s v a f P Makes plain = rw plain (missed p (emit v Plain a) [] (m.plain v a) refl)
  none-unsorted s v a f P (Passes d) plain = rw plain (missed p (emit v Plain a) [] (m.plain v a) refl)
