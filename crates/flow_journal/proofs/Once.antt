-- A node accepts an array of each index once at most.
use Rattle.std.proofs.Common.{◌≡◌, ◌≢◌, ℕ, zero, suc, ◌+◌, ◌≤◌, Bool, true, false, eqb, ltb, List, [], ◌∷◌, ◌++◌, length, refl, sym, ap, ◌∙◌, subst, arith}
use Rattle.std.proofs.Common.{inl, inr}
use Rattle.std.specs.Prelude.{flat_map}
use Rattle.std.specs.List.{list_any}
use Rattle.std.proofs.lemmas.Bool.{and_parts, or_from, ne_eqb, eqb-true, eq-eqb, true≢false, or_parts, lt-ltb, cases_Bool}
use Rattle.pool_ledger.specs.Grants.{above, missing_from, least_missing}
use Rattle.flow_journal.specs.declared.entry.Entry.{Entry}
use Rattle.flow_journal.specs.declared.entry.Entry.TheVariants.{Load, LoadRefused, Emit, Accept, Full, Reclaim}
use Rattle.flow_journal.specs.Setting.{Setting, node}
use Rattle.flow_journal.specs.Pasts.{Past}
use Rattle.flow_journal.specs.Hands.{standing}
use Rattle.flow_journal.specs.Offered.{loads, offered_frames}
use Rattle.flow_journal.specs.FirstEntries.{may_load, pool_grants}
use Rattle.flow_journal.specs.Following.{owed}
use Rattle.flow_journal.specs.Histories.{is_legal}
use Rattle.flow_journal.proofs.Hands.{row_of, stands-less}
use Rattle.flow_journal.proofs.EntryCounts.{count, bit, count-cons, count-let_go-le, emits_at, accepts_at, arrives_at, arrives-le, loads_at, owed-answered}
use Rattle.flow_journal.proofs.EntryCounts.{answers-by_Accept, answers-by_Full}
use Rattle.flow_journal.proofs.Jobs.{puts-taken}
use Rattle.flow_journal.proofs.Offers.{arrives-emitted}
use Rattle.flow_journal.proofs.Issues.{takes-accepted, comes-count, accepts-count}
use Rattle.flow_journal.proofs.Counts.{times_by}
use Rattle.flow_journal.proofs.Outs.{of_index}
use Rattle.flow_journal.specs.Accepted.{accepts, emitted}
use Rattle.flow_journal.proofs.Emissions.{emits-puts}
use Rattle.flow_journal.proofs.Driver.{emits-loaded}
use Rattle.flow_journal.proofs.Rows.{load-facts}

-- THE LEAST MISSING NUMBER

abbrev pub is_among : ℕ → List ℕ → Bool
is_among k ks = list_any (λ j. eqb j k) ks

not_above : (ks : List ℕ) (k : ℕ) → above ks ≤ k → is_among k ks ≡ false
not_above [] k h = refl
not_above (j ∷ ks) k h =
    let ne : j ≢ k = omega arith in
    or_from (eqb j k) (is_among k ks) (ne_eqb j k ne) (not_above ks k (omega arith))

missing-not_among : (steps k : ℕ) (ks : List ℕ) → above ks ≤ k + steps → is_among (missing_from steps k ks) ks ≡ false
missing-not_among zero k ks h = not_above ks k (omega arith)
missing-not_among (suc n) k ks h =
    elim (cases_Bool (is_among k ks)) [
      | inl here ↦ rw here (missing-not_among n (k + 1) ks (omega arith))
      | inr none ↦ rw (none, none) refl
    ]

-- the least missing number is missing
pub least_missing-not_among : (ks : List ℕ) → is_among (least_missing ks) ks ≡ false
least_missing-not_among ks = missing-not_among (above ks) 0 ks (omega arith)

-- LOADS

among-append : (k : ℕ) (xs ys : List ℕ) → is_among k (xs ++ ys) ≡ false → (is_among k xs ≡ false) × (is_among k ys ≡ false)
among-append k [] ys h = (refl, h)
among-append k (x ∷ xs) ys h =
    let p = or_parts (eqb x k) (is_among k (xs ++ ys)) h in
    let q = among-append k xs ys p.1 in
    (or_from (eqb x k) (is_among k xs) p.0 q.0, q.1)

not_loaded : (k : ℕ) (P : Past) → is_among k (flat_map loads P) ≡ false → count (loads_at k) P ≡ 0
not_loaded k [] h = refl
not_loaded k (Load r i b n f g x ∷ P) h =
    let p = among-append k (i ∷ []) (flat_map loads P) h in
    let q = or_parts (eqb i k) false p.0 in
    omega (arith, count-cons (loads_at k) (Load r i b n f g x) P, ap bit q.0, not_loaded k P p.1)
not_loaded k (LoadRefused r i n z ∷ P) h = not_loaded k P (among-append k (i ∷ []) (flat_map loads P) h).1
not_loaded k (_ ∷ P) h = not_loaded k P h

pub bit-le : (b : Bool) → bit b ≤ 1
bit-le true = omega arith
bit-le false = omega arith

-- of each frame of the stack one load stands at most, and of no other any
pub load-few : (s : Setting) (P : Past) (k : ℕ) → is_legal s P ≡ true → count (loads_at k) (standing P) ≤ bit (ltb k (length s.ids))
load-few s [] k h = omega arith
load-few s (Load r i b n f g x ∷ P) k h =
    let before = load-few s P k (and_parts _ _ h).0 in
    let may : may_load s r i P ≡ true = (and_parts (may_load s r i P) (pool_grants s 0 b n f g x P) (row_of s (Load r i b n f g x) P (λ d. refl) h)).0 in
    let facts = load-facts s r i P may in
    let none : count (loads_at i) (standing P) ≡ 0 =
    not_loaded i (standing P) (subst (λ (j : ℕ). is_among j (offered_frames P) ≡ false) (sym facts.in_turn) (least_missing-not_among (offered_frames P))) in
    elim (cases_Bool (eqb i k)) [
      | inl same ↦
          let is : i ≡ k = eqb-true i k same in
          let none_k : count (loads_at k) (standing P) ≡ 0 = subst (λ (j : ℕ). count (loads_at j) (standing P) ≡ 0) is none in
          let low : ltb k (length s.ids) ≡ true = subst (λ (j : ℕ). ltb j (length s.ids) ≡ true) is (lt-ltb i (length s.ids) facts.some) in
          omega (arith, none_k, count-cons (loads_at k) (Load r i b n f g x) (standing P), ap bit same, ap bit low)
      | inr other ↦ omega (arith, before, count-cons (loads_at k) (Load r i b n f g x) (standing P), ap bit other)
    ]
load-few s (Reclaim r ∷ P) k h =
    omega (arith, load-few s P k (and_parts _ _ h).0, count-let_go-le (loads_at k) r (standing P), ap (count (loads_at k)) (stands-less s r P h))
load-few s (_ ∷ P) k h = load-few s P k (and_parts _ _ h).0

pub load-once : (s : Setting) (P : Past) (k : ℕ) → is_legal s P ≡ true → count (loads_at k) (standing P) ≤ 1
load-once s P k h = omega (arith, load-few s P k h, bit-le (ltb k (length s.ids)))

-- ARRIVALS

-- a node emits no more of an index than came to it, and the driver no more than was loaded
emits-bounded : (s : Setting) (P : Past) (v k : ℕ) → is_legal s P ≡ true → ((c : ℕ) → count (arrives_at c k) P ≤ bit (ltb k (length s.ids)))
    → count (emits_at v k) P ≤ bit (ltb k (length s.ids))
emits-bounded s P v k h few =
    elim (cases_Bool (eqb v 0)) [
      | inl driver ↦
          subst (λ (u : ℕ). count (emits_at u k) P ≤ bit (ltb k (length s.ids))) (sym (eqb-true v 0 driver))
          (omega (arith, emits-loaded s P k h, load-few s P k h))
      | inr at_node ↦
          let nz : v ≢ 0 = λ e. true≢false (sym (eq-eqb v 0 e) ∙ at_node) in
          omega (arith, emits-puts s P v k nz h, puts-taken s P v k h, takes-accepted s P v k h, arrives-le v k P, few v)
    ]

-- of each frame of the stack one array comes to a node at most, and of no other any
pub arrives-few : (s : Setting) (P : Past) (c k : ℕ) → is_legal s P ≡ true → count (arrives_at c k) P ≤ bit (ltb k (length s.ids))
arrives-few s [] c k h = omega arith
arrives-few s (Accept w m i ∷ P) c k h =
    let legal : is_legal s P ≡ true = (and_parts _ _ h).0 in
    let a = owed-answered s (Accept w m i) P refl h in
    let same = answers-by_Accept s P w m i a.head a.answer in
    let was : count (arrives_at c k) (owed s P) ≡ bit (arrives_at c k (Accept w m i)) + count (arrives_at c k) a.rest =
    ap (count (arrives_at c k)) a.is
    ∙ (count-cons (arrives_at c k) a.head a.rest ∙ ap (λ (d : Entry). bit (arrives_at c k d) + count (arrives_at c k) a.rest) same) in
    let few = emits-bounded s P (node s c).input k legal (λ (u : ℕ). arrives-few s P u k legal) in
    omega (arith, arrives-emitted s P c k legal, was, few, count-cons (arrives_at c k) (Accept w m i) P)
arrives-few s (Full w m i ∷ P) c k h =
    let legal : is_legal s P ≡ true = (and_parts _ _ h).0 in
    let a = owed-answered s (Full w m i) P refl h in
    let same = answers-by_Full s P w m i c k a.head a.answer in
    let was : count (arrives_at c k) (owed s P) ≡ bit (arrives_at c k (Full w m i)) + count (arrives_at c k) a.rest =
    ap (count (arrives_at c k)) a.is ∙ (count-cons (arrives_at c k) a.head a.rest ∙ ap (λ (b : Bool). bit b + count (arrives_at c k) a.rest) same) in
    let few = emits-bounded s P (node s c).input k legal (λ (u : ℕ). arrives-few s P u k legal) in
    omega (arith, arrives-emitted s P c k legal, was, few, count-cons (arrives_at c k) (Full w m i) P)
arrives-few s (_ ∷ P) c k h = arrives-few s P c k (and_parts _ _ h).0

pub accepts-once : (s : Setting) (P : Past) (c k : ℕ) → is_legal s P ≡ true → count (accepts_at c k) P ≤ 1
accepts-once s P c k h = omega (arith, arrives-le c k P, arrives-few s P c k h, bit-le (ltb k (length s.ids)))

pub emits-few : (s : Setting) (P : Past) (v k : ℕ) → is_legal s P ≡ true → count (emits_at v k) P ≤ bit (ltb k (length s.ids))
emits-few s P v k h = emits-bounded s P v k h (λ (u : ℕ). arrives-few s P u k h)

pub emitted-count : (v k : ℕ) (P : Past) → times_by (of_index k) (emitted v P) ≡ count (emits_at v k) P
emitted-count v k [] = refl
emitted-count v k (Emit w m i why ∷ P) = comes-count v w m i k (emitted v P) ∙ omega (arith, emitted-count v k P, count-cons (emits_at v k) (Emit w m i why) P)
emitted-count v k (_ ∷ P) = emitted-count v k P

pub accepts_once-law : (s : Setting) (P : Past) (v k : ℕ) → is_legal s P ≡ true → times_by (of_index k) (accepts v P) ≤ 1
accepts_once-law s P v k h = omega (arith, accepts-once s P v k h, accepts-count v k P)

pub emits_once-law : (s : Setting) (P : Past) (v k : ℕ) → is_legal s P ≡ true → times_by (of_index k) (emitted v P) ≤ 1
emits_once-law s P v k h = omega (arith, emits-few s P v k h, bit-le (ltb k (length s.ids)), emitted-count v k P)
