-- The other facts that are kept, after one more entry.
use Rattle.std.proofs.Common.{◌≡◌, ◌≤◌, ◌∙◌, ◌-◌, ℕ, ◌+◌, suc, true, false, Bool, [], ◌∷◌, Some, length, refl, ap, arith}
use Rattle.std.specs.List.{list_any}
use Rattle.std.proofs.lemmas.Bool.{eq-eqb}
use Rattle.flow_journal.specs.declared.entry.Entry.{Entry}
use Rattle.flow_journal.specs.declared.entry.Entry.TheVariants.{Load, LoadRefused, Tick, Issue, Emit, Accept, Full, Take, TakeBlock, PoolDrop, Put}
use Rattle.flow_journal.specs.declared.entry.Entry.TheVariants.{SortDrop, Settle, Save, Saved, Close, Leave, Reclaim}
use Rattle.flow_journal.specs.declared.entry.Why.{Why}
use Rattle.flow_journal.specs.Setting.{Setting}
use Rattle.flow_journal.specs.Pasts.{Past}
use Rattle.flow_journal.specs.Hands.{hands, hand, let_go, is_loaded, takes_up}
use Rattle.flow_journal.specs.Offered.{next_index}
use Rattle.flow_journal.specs.FirstEntries.{has_loaded}
use Rattle.flow_journal.specs.Notes.{how_many, offers, drops, saves}
use Rattle.flow_journal.specs.Histories.{is_legal}
use Rattle.flow_journal.proofs.Indices.{index_laws}
use Rattle.flow_journal.proofs.Hands.{unloaded-let_go, same_loaded-let_go, hands-OneLoaded, takes-alone}
use Rattle.flow_journal.proofs.EntryCounts.{count-cons}
use Rattle.flow_journal.proofs.Once.{bit-le}
use Rattle.course_parts.specs.Facts.{facts_of}

-- how many entries pass a test: no more than there are
pub few-of : (p : Entry → Bool) (P : Past) → how_many p P ≤ length P
few-of p [] = omega arith
few-of p (e ∷ P) = omega (arith, count-cons p e P, few-of p P, bit-le (p e))

one-more : (n : ℕ) → suc n ≡ n + 1
one-more n = omega arith

one-less : {a b : ℕ} → a ≡ b + 1 → b ≡ a - 1
one-less {a} {b} e = omega (arith, e)

loaded-up : (s : Setting) (r : ℕ) (e : Entry) (P : Past) → is_legal s (e ∷ P) ≡ true → takes_up r e ≡ true
    → list_any is_loaded (let_go r (hands P)) ≡ has_loaded P
loaded-up s r e P legal up = ap (list_any is_loaded) (takes-alone s r e P up legal)

pub facts-load : (s : Setting) (r k b n : ℕ) (f : Bool) (g : ℕ) (x : Bool) (P : Past) → is_legal s (Load r k b n f g x ∷ P) ≡ true
    → facts_of (Load r k b n f g x ∷ P) ≡ record (facts_of P) { offered = next_index P + 1; loaded = true }
facts-load s r k b n f g x P legal = ap (λ j. record (facts_of P) { offered = j; loaded = true }) (index_laws.load s r k b n f g x P legal)

pub facts-load_refused : (s : Setting) (r k n h : ℕ) (P : Past) → is_legal s (LoadRefused r k n h ∷ P) ≡ true
    → facts_of (LoadRefused r k n h ∷ P) ≡ record (facts_of P) { offered = next_index P + 1 }
facts-load_refused s r k n h P legal = ap (λ j. record (facts_of P) { offered = j }) (index_laws.load_refused s r k n h P legal)

pub facts-tick : (s : Setting) (t : ℕ) (P : Past) → is_legal s (Tick t ∷ P) ≡ true → facts_of (Tick t ∷ P) ≡ record (facts_of P) { tick = t }
facts-tick s t P legal = ap (λ j. record (facts_of P) { tick = t; offered = j }) (index_laws.others (Tick t) P refl)

pub facts-issue : (s : Setting) (r k : ℕ) (h : Entry) (P : Past) → is_legal s (Issue r k ∷ P) ≡ true → is_legal s P ≡ true → hand r P ≡ Some h
    → is_loaded h ≡ true → facts_of (Issue r k ∷ P) ≡ record (facts_of P) { loaded = false }
facts-issue s r k h P legal was held loaded = ap (λ j. record (facts_of P) { loaded = j }) (unloaded-let_go r h (hands P) (hands-OneLoaded s P was) held loaded)

pub facts-emit : (s : Setting) (v m k : ℕ) (why : Why) (P : Past) → is_legal s (Emit v m k why ∷ P) ≡ true
    → facts_of (Emit v m k why ∷ P) ≡ record (facts_of P) { offered = next_index P }
facts-emit s v m k why P legal = refl

pub facts-accept : (s : Setting) (v m k : ℕ) (P : Past) → is_legal s (Accept v m k ∷ P) ≡ true
    → facts_of (Accept v m k ∷ P) ≡ record (facts_of P) { came = how_many offers P + 1 }
facts-accept s v m k P legal = ap (λ j. record (facts_of P) { came = j }) (one-more (how_many offers P))

pub facts-full : (s : Setting) (v m k : ℕ) (P : Past) → is_legal s (Full v m k ∷ P) ≡ true
    → facts_of (Full v m k ∷ P) ≡ record (facts_of P) { came = how_many offers P + 1; dropped = how_many drops P + 1 }
facts-full s v m k P legal =
    ap (λ j. record (facts_of P) { came = j; dropped = suc (how_many drops P) }) (one-more (how_many offers P))
    ∙ ap (λ j. record (facts_of P) { came = how_many offers P + 1; dropped = j }) (one-more (how_many drops P))

pub facts-take : (s : Setting) (r v m k : ℕ) (P : Past) → is_legal s (Take r v m k ∷ P) ≡ true
    → facts_of (Take r v m k ∷ P) ≡ record (facts_of P) { loaded = has_loaded P }
facts-take s r v m k P legal = ap (λ j. record (facts_of P) { loaded = j }) (loaded-up s r (Take r v m k) P legal (eq-eqb r r refl))

pub facts-take_block : (s : Setting) (r v m k b n : ℕ) (f : Bool) (g : ℕ) (x : Bool) (P : Past) → is_legal s (TakeBlock f x r v m k b n g ∷ P) ≡ true
    → facts_of (TakeBlock f x r v m k b n g ∷ P) ≡ record (facts_of P) { loaded = has_loaded P }
facts-take_block s r v m k b n f g x P legal =
    ap (λ j. record (facts_of P) { loaded = j }) (loaded-up s r (TakeBlock f x r v m k b n g) P legal (eq-eqb r r refl))

pub facts-save : (s : Setting) (r v m k g : ℕ) (P : Past) → is_legal s (Save r v m k g ∷ P) ≡ true
    → facts_of (Save r v m k g ∷ P) ≡ record (facts_of P) { loaded = has_loaded P }
facts-save s r v m k g P legal = ap (λ j. record (facts_of P) { loaded = j }) (loaded-up s r (Save r v m k g) P legal (eq-eqb r r refl))

pub facts-pool_drop : (s : Setting) (r v m k n h : ℕ) (P : Past) → is_legal s (PoolDrop r v m k n h ∷ P) ≡ true
    → facts_of (PoolDrop r v m k n h ∷ P) ≡ record (facts_of P) { dropped = how_many drops P + 1 }
facts-pool_drop s r v m k n h P legal = ap (λ j. record (facts_of P) { dropped = j }) (one-more (how_many drops P))

pub facts-put : (s : Setting) (r v m k : ℕ) (f : Bool) (h : Entry) (P : Past) → is_legal s (Put r v m k f ∷ P) ≡ true → hand r P ≡ Some h → is_loaded h ≡ false
    → facts_of (Put r v m k f ∷ P) ≡ record (facts_of P) { loaded = has_loaded P }
facts-put s r v m k f h P legal held other = ap (λ j. record (facts_of P) { loaded = j }) (same_loaded-let_go r h (hands P) held other)

pub facts-sort_drop : (s : Setting) (v m k : ℕ) (P : Past) → is_legal s (SortDrop v m k ∷ P) ≡ true
    → facts_of (SortDrop v m k ∷ P) ≡ record (facts_of P) { dropped = how_many drops P + 1 }
facts-sort_drop s v m k P legal = ap (λ j. record (facts_of P) { dropped = j }) (one-more (how_many drops P))

pub facts-settle : (s : Setting) (r v : ℕ) (P : Past) → is_legal s (Settle r v ∷ P) ≡ true
    → facts_of (Settle r v ∷ P) ≡ record (facts_of P) { offered = next_index P }
facts-settle s r v P legal = refl

pub facts-saved : (s : Setting) (r v m k : ℕ) (h : Entry) (P : Past) → is_legal s (Saved r v m k ∷ P) ≡ true → hand r P ≡ Some h → is_loaded h ≡ false
    → facts_of (Saved r v m k ∷ P) ≡ record (facts_of P) { loaded = has_loaded P; saved = how_many saves P + 1 }
facts-saved s r v m k h P legal held other =
    ap (λ j. record (facts_of P) { loaded = list_any is_loaded (let_go r (hands P)); saved = j }) (one-more (how_many saves P))
    ∙ ap (λ j. record (facts_of P) { loaded = j; saved = how_many saves P + 1 }) (same_loaded-let_go r h (hands P) held other)

pub facts-close : (s : Setting) (r : ℕ) (P : Past) → is_legal s (Close r ∷ P) ≡ true → facts_of (Close r ∷ P) ≡ record (facts_of P) { closed = true }
facts-close s r P legal = refl

pub facts-leave : (s : Setting) (r : ℕ) (P : Past) → is_legal s (Leave r ∷ P) ≡ true → facts_of (Leave r ∷ P) ≡ record (facts_of P) { left = true }
facts-leave s r P legal = refl

pub facts-reclaim_load : (s : Setting) (r q k b n : ℕ) (f : Bool) (g : ℕ) (x : Bool) (P : Past) → is_legal s (Reclaim r ∷ P) ≡ true → is_legal s P ≡ true
    → hand r P ≡ Some (Load q k b n f g x) → facts_of (Reclaim r ∷ P) ≡ record (facts_of P) { offered = next_index P - 1; loaded = false }
facts-reclaim_load s r q k b n f g x P legal was held =
    ap (λ j. record (facts_of P) { offered = j; loaded = list_any is_loaded (let_go r (hands P)) })
    (one-less (index_laws.reclaim s r q k b n f g x P legal held))
    ∙ ap (λ j. record (facts_of P) { offered = next_index P - 1; loaded = j })
    (unloaded-let_go r (Load q k b n f g x) (hands P) (hands-OneLoaded s P was) held refl)

pub facts-reclaim_other : (s : Setting) (r : ℕ) (h : Entry) (P : Past) → is_legal s (Reclaim r ∷ P) ≡ true → is_legal s P ≡ true → hand r P ≡ Some h
    → is_loaded h ≡ false → facts_of (Reclaim r ∷ P) ≡ record (facts_of P) { loaded = has_loaded P }
facts-reclaim_other s r h P legal was held other =
    ap (λ j. record (facts_of P) { offered = j; loaded = list_any is_loaded (let_go r (hands P)) }) (index_laws.reclaim_other s r h P was held other)
    ∙ ap (λ j. record (facts_of P) { loaded = j }) (same_loaded-let_go r h (hands P) held other)
