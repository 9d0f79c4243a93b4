-- Names: what a node accepted its input emitted, what it emitted was put there, and the driver emits its own.
use Rattle.std.proofs.Common.{◌≡◌, ◌≢◌, ℕ, ◌+◌, ◌≤◌, Bool, true, false, not, ◌&&◌, eqb, List, [], ◌∷◌, map, drop, refl, sym, ap, ◌∙◌, arith, inl, inr}
use Rattle.std.proofs.lemmas.Bool.{and_parts, false≢true, eq-eqb, eqb-true, cases_Bool}
use Rattle.nd_base.specs.declared.frame.FrameName.{FrameName}
use Rattle.trig_window.specs.Windows.{at_positions, is_passed}
use Rattle.flow_journal.specs.declared.entry.Entry.{Entry}
use Rattle.flow_journal.specs.declared.entry.Entry.TheVariants.{Tick, Issue, Emit, Accept, Take, Put, SortDrop, Settle}
use Rattle.flow_journal.specs.declared.entry.Why.TheVariants.{Plain}
use Rattle.flow_journal.specs.Setting.{Setting, Watches, node, is_maker, may_sort, is_sorted, node_numbers}
use Rattle.flow_journal.specs.Turns.{offered_to}
use Rattle.flow_journal.specs.Pasts.{Past, frame}
use Rattle.flow_journal.specs.Hands.{hands}
use Rattle.flow_journal.specs.Puts.{puts, firings}
use Rattle.flow_journal.specs.Waiting.{waiting, least_first}
use Rattle.flow_journal.specs.Accepted.{accepts, emitted}
use Rattle.flow_journal.specs.Following.{offer, calls_for, owed}
use Rattle.flow_journal.specs.Histories.{is_legal, is_history}
use Rattle.flow_journal.proofs.Rows.{row_laws}
use Rattle.flow_journal.proofs.Hands.{row_of}
use Rattle.flow_journal.proofs.Outputs.{output_laws, times-comes}
use Rattle.flow_journal.proofs.Counts.{times_by}
use Rattle.flow_journal.proofs.EntryCounts.{count, bit, count-cons, count-append, count-drop, owed-answered, answers-by_Accept, puts_of}
use Rattle.flow_journal.proofs.Outs.{out_of, none_elsewhere, result-at, flush-at}
use Rattle.flow_journal.proofs.Dealing.{count-offered}
use Rattle.flow_journal.proofs.Offers.{is_number, none_numbered_0, child_once}
use Rattle.flow_journal.proofs.Issues.{looks-none, puts_at_node, settles_node}
use Rattle.flow_journal.proofs.Emissions.{owed-Emit_out, owed-SortDrop_out, no_outs_in_offers, sorted-outs}
use Rattle.run_laws.proofs.Jobs.{hands-fit, found-fits}
use Rattle.run_laws.proofs.Feeds.{offers_to, no_offers, no_offers-looks}

-- the entry is an emission of v of an array that passes the test
abbrev pub emits_of : ℕ → (FrameName → Bool) → Entry → Bool
emits_of v t (Emit w m j why) = eqb w v && t (frame m j)
emits_of v t _ = false

-- the entry is an Accept at c of one, or an offer to it
abbrev pub accepts_of : ℕ → (FrameName → Bool) → Entry → Bool
accepts_of c t (Accept w m j) = eqb w c && t (frame m j)
accepts_of c t _ = false

-- LISTS AND ENTRIES

pub emitted-of : (v : ℕ) (t : FrameName → Bool) (P : Past) → times_by t (emitted v P) ≡ count (emits_of v t) P
emitted-of v t [] = refl
emitted-of v t (Emit w m i why ∷ P) =
    times-comes v w t (frame m i) (emitted v P) ∙ omega (arith, emitted-of v t P, count-cons (emits_of v t) (Emit w m i why) P)
emitted-of v t (_ ∷ P) = emitted-of v t P

pub accepts-list : (v : ℕ) (t : FrameName → Bool) (P : Past) → times_by t (accepts v P) ≡ count (accepts_of v t) P
accepts-list v t [] = refl
accepts-list v t (Accept w m i ∷ P) =
    times-comes v w t (frame m i) (accepts v P) ∙ omega (arith, accepts-list v t P, count-cons (accepts_of v t) (Accept w m i) P)
accepts-list v t (_ ∷ P) = accepts-list v t P

puts-list : (v : ℕ) (t : FrameName → Bool) (P : Past) → times_by t (puts v P) ≡ count (puts_of v t) P
puts-list v t [] = refl
puts-list v t (Put r w m i f ∷ P) = times-comes v w t (frame m i) (puts v P) ∙ omega (arith, puts-list v t P, count-cons (puts_of v t) (Put r w m i f) P)
puts-list v t (_ ∷ P) = puts-list v t P

-- ACCEPTS

offers-le : (c : ℕ) (t : FrameName → Bool) (ds : List Entry) → count (accepts_of c t) ds ≤ count (offers_to c) ds
offers-le c t [] = omega arith
offers-le c t (Accept w m i ∷ ds) =
    let one : bit (eqb w c && t (frame m i)) ≤ bit (eqb w c) =
    elim (eqb w c) as (λ b. bit (b && t (frame m i)) ≤ bit b) [ true ↦ most (t (frame m i)) | false ↦ omega arith ] in
    omega (arith, one, offers-le c t ds, count-cons (accepts_of c t) (Accept w m i) ds, count-cons (offers_to c) (Accept w m i) ds)
  where
    most : (b : Bool) → bit b ≤ 1
    most true = omega arith
    most false = omega arith
offers-le c t (_ ∷ ds) = offers-le c t ds

offers-none : (c m i : ℕ) (t : FrameName → Bool) (cs : List ℕ) → t (frame m i) ≡ false → count (accepts_of c t) (map (offer (frame m i)) cs) ≡ 0
offers-none c m i t [] h = refl
offers-none c m i t (u ∷ us) h =
    let one : (eqb u c && t (frame m i)) ≡ false = elim (eqb u c) as (λ b. (b && t (frame m i)) ≡ false) [ true ↦ h | false ↦ refl ] in
    omega (arith, offers-none c m i t us h, count-cons (accepts_of c t) (offer (frame m i) u) (map (offer (frame m i)) us), ap bit one)

offers-some : (c m i : ℕ) (t : FrameName → Bool) (cs : List ℕ) → t (frame m i) ≡ true
    → count (accepts_of c t) (map (offer (frame m i)) cs) ≡ count (is_number c) cs
offers-some c m i t [] h = refl
offers-some c m i t (u ∷ us) h =
    let one : (eqb u c && t (frame m i)) ≡ eqb u c = elim (eqb u c) as (λ b. (b && t (frame m i)) ≡ b) [ true ↦ h | false ↦ refl ] in
    omega (
      arith,
      offers-some c m i t us h,
      count-cons (accepts_of c t) (offer (frame m i) u) (map (offer (frame m i)) us),
      count-cons (is_number c) u us,
      ap bit one,
    )

turn : (a b : ℕ) → bit (eqb a b) ≤ bit (eqb b a)
turn a b = elim (cases_Bool (eqb a b)) [ inl is ↦ omega (arith, ap bit is, ap bit (eq-eqb b a (sym (eqb-true a b is)))) | inr off ↦ omega (arith, ap bit off) ]

offers-of_emit : (s : Setting) (P : Past) (v m i c : ℕ) (t : FrameName → Bool)
    → count (accepts_of c t) (map (offer (frame m i)) (offered_to s P v)) ≤ bit (eqb v (node s c).input && t (frame m i))
offers-of_emit s P v m i c t =
    elim (cases_Bool (t (frame m i))) [
      | inr off ↦ omega (arith, offers-none c m i t (offered_to s P v) off)
      | inl is ↦
          let same : (eqb v (node s c).input && t (frame m i)) ≡ eqb v (node s c).input =
          elim (eqb v (node s c).input) as (λ b. (b && t (frame m i)) ≡ b) [ true ↦ is | false ↦ refl ] in
          omega (arith, offers-some c m i t (offered_to s P v) is, count-offered (is_number c) s P v, child_once s v c, turn (node s c).input v, ap bit same)
    ]

-- what is accepted and what is still offered was emitted by the input, by the same name
pub accepts-emitted-of : (s : Setting) (P : Past) (c : ℕ) (t : FrameName → Bool) → is_legal s P ≡ true
    → count (accepts_of c t) P + count (accepts_of c t) (owed s P) ≤ count (emits_of (node s c).input t) P
accepts-emitted-of s [] c t h = omega arith
accepts-emitted-of s (Accept w m i ∷ P) c t h =
    let a = owed-answered s (Accept w m i) P refl h in
    let same = answers-by_Accept s P w m i a.head a.answer in
    let was : count (accepts_of c t) (owed s P) ≡ bit (accepts_of c t (Accept w m i)) + count (accepts_of c t) a.rest =
    ap (count (accepts_of c t)) a.is
    ∙ (count-cons (accepts_of c t) a.head a.rest ∙ ap (λ (d : Entry). bit (accepts_of c t d) + count (accepts_of c t) a.rest) same) in
    let left : count (accepts_of c t) (drop 1 (owed s P)) ≡ count (accepts_of c t) a.rest = ap (λ (ds : List Entry). count (accepts_of c t) (drop 1 ds)) a.is in
    omega (arith, accepts-emitted-of s P c t (and_parts _ _ h).0, was, left, count-cons (accepts_of c t) (Accept w m i) P)
accepts-emitted-of s (Emit w m i why ∷ P) c t h =
    omega (
      arith,
      accepts-emitted-of s P c t (and_parts _ _ h).0,
      offers-of_emit s P w m i c t,
      count-append (accepts_of c t) (map (offer (frame m i)) (offered_to s P w)) (drop 1 (owed s P)),
      count-drop (accepts_of c t) (owed s P),
      count-cons (emits_of (node s c).input t) (Emit w m i why) P,
    )
accepts-emitted-of s (Tick u ∷ P) c t h =
    omega (
      arith,
      accepts-emitted-of s P c t (and_parts _ _ h).0,
      count-append (accepts_of c t) (calls_for s P (Tick u)) (drop 1 (owed s P)),
      offers-le c t (calls_for s P (Tick u)),
      no_offers-looks s (Tick u ∷ P) c (node_numbers s),
      count-drop (accepts_of c t) (owed s P),
    )
accepts-emitted-of s (Put r w m i f ∷ P) c t h =
    omega (
      arith,
      accepts-emitted-of s P c t (and_parts _ _ h).0,
      count-append (accepts_of c t) (calls_for s P (Put r w m i f)) (drop 1 (owed s P)),
      offers-le c t (calls_for s P (Put r w m i f)),
      no_offers c w (calls_for s P (Put r w m i f)) (result-at s w (frame m i) f P (node s w).work),
      count-drop (accepts_of c t) (owed s P),
    )
accepts-emitted-of s (Settle r w ∷ P) c t h =
    omega (
      arith,
      accepts-emitted-of s P c t (and_parts _ _ h).0,
      count-append (accepts_of c t) (calls_for s P (Settle r w)) (drop 1 (owed s P)),
      offers-le c t (calls_for s P (Settle r w)),
      no_offers c w (calls_for s P (Settle r w)) (flush-at w (least_first s (waiting s w P))),
      count-drop (accepts_of c t) (owed s P),
    )
accepts-emitted-of s (_ ∷ P) c t h = omega (arith, accepts-emitted-of s P c t (and_parts _ _ h).0, count-drop (accepts_of c t) (owed s P))

-- EMISSIONS

outs-emits : (v : ℕ) (t : FrameName → Bool) (P : Past) → count (emits_of v t) P ≤ count (out_of v t) P
outs-emits v t [] = omega arith
outs-emits v t (Emit w m i why ∷ P) = omega (arith, outs-emits v t P, count-cons (emits_of v t) (Emit w m i why) P, count-cons (out_of v t) (Emit w m i why) P)
outs-emits v t (SortDrop w m i ∷ P) = omega (arith, outs-emits v t P, count-cons (out_of v t) (SortDrop w m i) P)
outs-emits v t (_ ∷ P) = outs-emits v t P

passed-le : (t : FrameName → Bool) (p : ℕ → Bool) (j : ℕ) (xs : List FrameName) → times_by t (at_positions p j xs) ≤ times_by t xs
passed-le t p j [] = omega arith
passed-le t p j (x ∷ xs) =
    elim (cases_Bool (p j)) [
      | inl here ↦ rw here (omega (arith, passed-le t p (j + 1) xs, count-cons t x (at_positions p (j + 1) xs), count-cons t x xs))
      | inr away ↦ rw away (omega (arith, passed-le t p (j + 1) xs, count-cons t x xs))
    ]

-- what a region or statistics node emitted was put there, by the same name
pub emits-put : (s : Setting) (P : Past) (v : ℕ) (t : FrameName → Bool) → v ≢ 0 → may_sort (node s v).work ≡ true → is_history s P ≡ true
    → count (emits_of v t) P ≤ count (puts_of v t) P
emits-put s P v t nz sorts h =
    elim (cases_Bool (is_sorted s v)) [
      | inl sorted ↦ omega (arith, outs-emits v t P, sorted-outs s P v t nz sorted (and_parts _ _ h).0)
      | inr plain ↦ omega (arith, ap (times_by t) (output_laws.unsorted s v P nz sorts plain h), emitted-of v t P, puts-list v t P)
    ]

-- and so at a circular node
pub watched-put : (s : Setting) (P : Past) (v pre post preset : ℕ) (t : FrameName → Bool) → (node s v).work ≡ Watches pre post preset → 1 ≤ post
    → is_history s P ≡ true → count (emits_of v t) P ≤ count (puts_of v t) P
watched-put s P v pre post preset t work positive h =
    omega (
      arith,
      ap (times_by t) (output_laws.circular s v pre post preset P work positive h),
      passed-le t (is_passed pre post preset (firings v P)) 0 (puts v P),
      emitted-of v t P,
      puts-list v t P,
    )

-- a maker gives its results its own name
pub makers-name : (s : Setting) (P : Past) (v : ℕ) (t : FrameName → Bool) → is_maker s v ≡ true → ((k : ℕ) → t (frame v k) ≡ false)
    → is_legal s P ≡ true → count (puts_of v t) P ≡ 0
makers-name s [] v t maker own h = refl
makers-name s (Put r w m i f ∷ P) v t maker own h =
    let legal : is_legal s P ≡ true = (and_parts _ _ h).0 in
    let before = makers-name s P v t maker own legal in
    elim (cases_Bool (eqb w v)) [
      | inr away ↦ omega (arith, before, count-cons (puts_of v t) (Put r w m i f) P, ap (λ (b : Bool). bit (b && t (frame m i))) away)
      | inl here ↦ elim ((row_laws.put s P r w m i f).0 (row_of s (Put r w m i f) P (λ d. refl) h)).0 [
        | inl job ↦
            let fit : not (is_maker s w) ≡ true = found-fits s r (Take r w m i) (hands P) (hands-fit s P legal) job in
            absurd (false≢true (sym (ap not (ap (is_maker s) (eqb-true w v here) ∙ maker)) ∙ fit))
        | inr making ↦
            let name : m ≡ v = making.0 ∙ eqb-true w v here in
            let none : t (frame m i) ≡ false = ap (λ (u : ℕ). t (frame u i)) name ∙ own i in
            let miss : (eqb w v && t (frame m i)) ≡ false = ap (λ (b : Bool). b && t (frame m i)) here ∙ none in
            omega (arith, before, count-cons (puts_of v t) (Put r w m i f) P, ap bit miss)
      ]
    ]
makers-name s (_ ∷ P) v t maker own h = makers-name s P v t maker own (and_parts _ _ h).0

-- and so does the driver
pub driver-names : (s : Setting) (P : Past) (t : FrameName → Bool) → ((k : ℕ) → t (frame 0 k) ≡ false) → is_legal s P ≡ true
    → count (out_of 0 t) P + count (out_of 0 t) (owed s P) ≡ 0
driver-names s [] t own h = refl
driver-names s (Issue r k ∷ P) t own h =
    omega (
      arith,
      driver-names s P t own (and_parts _ _ h).0,
      count-cons (out_of 0 t) (Emit 0 0 k Plain) (drop 1 (owed s P)),
      ap bit (own k),
      count-drop (out_of 0 t) (owed s P),
    )
driver-names s (Emit w m i why ∷ P) t own h =
    omega (
      arith,
      driver-names s P t own (and_parts _ _ h).0,
      owed-Emit_out s w m i why P 0 t h,
      count-append (out_of 0 t) (map (offer (frame m i)) (offered_to s P w)) (drop 1 (owed s P)),
      no_outs_in_offers 0 t (frame m i) (offered_to s P w),
      count-cons (out_of 0 t) (Emit w m i why) P,
    )
driver-names s (SortDrop w m i ∷ P) t own h =
    omega (arith, driver-names s P t own (and_parts _ _ h).0, owed-SortDrop_out s w m i P 0 t h, count-cons (out_of 0 t) (SortDrop w m i) P)
driver-names s (Tick u ∷ P) t own h =
    omega (
      arith,
      driver-names s P t own (and_parts _ _ h).0,
      count-append (out_of 0 t) (calls_for s P (Tick u)) (drop 1 (owed s P)),
      looks-none s (Tick u ∷ P) 0 t (node_numbers s) (none_numbered_0 s),
      count-drop (out_of 0 t) (owed s P),
    )
driver-names s (Put r w m i f ∷ P) t own h =
    omega (
      arith,
      driver-names s P t own (and_parts _ _ h).0,
      count-append (out_of 0 t) (calls_for s P (Put r w m i f)) (drop 1 (owed s P)),
      none_elsewhere w 0 t (calls_for s P (Put r w m i f)) (puts_at_node s r w m i f P h) (result-at s w (frame m i) f P (node s w).work),
      count-drop (out_of 0 t) (owed s P),
    )
driver-names s (Settle r w ∷ P) t own h =
    omega (
      arith,
      driver-names s P t own (and_parts _ _ h).0,
      count-append (out_of 0 t) (calls_for s P (Settle r w)) (drop 1 (owed s P)),
      none_elsewhere w 0 t (calls_for s P (Settle r w)) (settles_node s r w P h) (flush-at w (least_first s (waiting s w P))),
      count-drop (out_of 0 t) (owed s P),
    )
driver-names s (_ ∷ P) t own h = omega (arith, driver-names s P t own (and_parts _ _ h).0, count-drop (out_of 0 t) (owed s P))

pub driver-emits : (s : Setting) (P : Past) (t : FrameName → Bool) → ((k : ℕ) → t (frame 0 k) ≡ false) → is_legal s P ≡ true → count (emits_of 0 t) P ≡ 0
driver-emits s P t own h = omega (arith, outs-emits 0 t P, driver-names s P t own h)
