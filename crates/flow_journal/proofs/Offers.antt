-- Each emission is offered to each child once.
use Rattle.std.proofs.Common.{◌≡◌, ◌≢◌, ℕ, ◌+◌, ◌≤◌, ◌<◌, Bool, true, false, ◌&&◌, cond, eqb, List, [], ◌∷◌, map, drop, refl, sym, ap, ◌∙◌, arith, inl, inr}
use Rattle.std.specs.Prelude.{filter, flat_map}
use Rattle.std.proofs.lemmas.Bool.{and_parts, and_from, eq-eqb, ne_eqb, eqb-true, cases_Bool}
use Rattle.nd_base.specs.declared.frame.FrameName.{FrameName}
use Rattle.flow_journal.specs.declared.entry.Entry.{Entry}
use Rattle.flow_journal.specs.declared.entry.Entry.TheVariants.{Tick, Emit, Accept, Full, Put, Settle}
use Rattle.flow_journal.specs.Setting.{Setting, Node, node, is_sorted, numbers_from, node_numbers, children}
use Rattle.flow_journal.specs.Pasts.{Past, frame}
use Rattle.flow_journal.specs.Turns.{offered_to}
use Rattle.flow_journal.specs.Waiting.{waiting, least_first}
use Rattle.flow_journal.specs.Following.{offer, look, calls_for, owed}
use Rattle.flow_journal.specs.Histories.{is_legal}
use Rattle.flow_journal.proofs.EntryCounts.{count, bit, count-cons, count-append, count-drop, emits_at, accepts_at, arrives_at, arrives-le, owed-answered}
use Rattle.flow_journal.proofs.EntryCounts.{answers-by_Accept, answers-by_Full}
use Rattle.flow_journal.proofs.Dealing.{count-offered}
use Rattle.flow_journal.proofs.Outs.{no_offers, result-at, flush-at, goes_out-at}

abbrev pub is_number : ℕ → ℕ → Bool
is_number c u = eqb u c

none_before : (c v : ℕ) (ns : List Node) → c < v → count (is_number c) (numbers_from v ns) ≡ 0
none_before c v [] h = refl
none_before c v (n ∷ ns) h =
    let ne : v ≢ c = omega arith in
    omega (arith, count-cons (is_number c) v (numbers_from (v + 1) ns), ap bit (ne_eqb v c ne), none_before c (v + 1) ns (omega arith))

once_from : (c v : ℕ) (ns : List Node) → count (is_number c) (numbers_from v ns) ≤ 1
once_from c v [] = omega arith
once_from c v (n ∷ ns) =
    elim (cases_Bool (eqb v c)) [
      | inl here ↦
          let is : v ≡ c = eqb-true v c here in
          omega (arith, count-cons (is_number c) v (numbers_from (v + 1) ns), ap bit here, none_before c (v + 1) ns (omega arith))
      | inr away ↦ omega (arith, count-cons (is_number c) v (numbers_from (v + 1) ns), ap bit away, once_from c (v + 1) ns)
    ]

pub once_numbered : (s : Setting) (c : ℕ) → count (is_number c) (node_numbers s) ≤ 1
once_numbered s c = once_from c 1 s.nodes

pub none_numbered_0 : (s : Setting) → count (is_number 0) (node_numbers s) ≡ 0
none_numbered_0 s = none_before 0 1 s.nodes (omega arith)

cond_same : (b : Bool) (n : ℕ) → n ≡ cond b n n
cond_same true n = refl
cond_same false n = refl

-- a filtered list has c as often, or not at all
filtered : (p : ℕ → Bool) (c : ℕ) (us : List ℕ) → count (is_number c) (filter p us) ≡ cond (p c) (count (is_number c) us) 0
filtered p c [] = cond_same (p c) 0
filtered p c (u ∷ us) =
    elim (cases_Bool (eqb u c)) [
      | inl here ↦
          let is : u ≡ c = eqb-true u c here in
          elim (cases_Bool (p c)) [
            | inl in_p ↦
                let pu : p u ≡ true = ap p is ∙ in_p in
                let rest : count (is_number c) (filter p us) ≡ count (is_number c) us = rw in_p at (filtered p c us) in
                rw (pu, in_p) (omega (arith, rest, count-cons (is_number c) u (filter p us), count-cons (is_number c) u us))
            | inr out_p ↦
                let pu : p u ≡ false = ap p is ∙ out_p in
                let rest : count (is_number c) (filter p us) ≡ 0 = rw out_p at (filtered p c us) in
                rw (pu, out_p) rest
          ]
      | inr away ↦
          let skip : count (is_number c) (u ∷ us) ≡ count (is_number c) us = omega (arith, count-cons (is_number c) u us, ap bit away) in
          let left : count (is_number c) (filter p (u ∷ us)) ≡ count (is_number c) (filter p us) =
          elim (cases_Bool (p u)) [
            | inl in_p ↦ rw in_p (omega (arith, count-cons (is_number c) u (filter p us), ap bit away))
            | inr out_p ↦ rw out_p refl
          ] in
          left ∙ (filtered p c us ∙ ap (λ (n : ℕ). cond (p c) n 0) (sym skip))
    ]

-- a node is at most once among the children of its input, and not at all among those of another
pub child_once : (s : Setting) (v c : ℕ) → count (is_number c) (children s v) ≤ bit (eqb (node s c).input v)
child_once s v c =
    elim (cases_Bool (eqb (node s c).input v)) [
      | inl child ↦
          let n : count (is_number c) (children s v) ≡ count (is_number c) (node_numbers s) =
          rw child at (filtered (λ u. eqb (node s u).input v) c (node_numbers s)) in
          rw child (omega (arith, n, once_numbered s c))
      | inr other ↦
          let n : count (is_number c) (children s v) ≡ 0 = rw other at (filtered (λ u. eqb (node s u).input v) c (node_numbers s)) in
          rw other (omega (arith, n))
    ]

-- what isn't numbered is nobody's child
no_child : (s : Setting) (c v : ℕ) → count (is_number c) (node_numbers s) ≡ 0 → count (is_number c) (children s v) ≡ 0
no_child s c v none =
    elim (cases_Bool (eqb (node s c).input v)) [
      | inl child ↦
          let n : count (is_number c) (children s v) ≡ count (is_number c) (node_numbers s) =
          rw child at (filtered (λ u. eqb (node s u).input v) c (node_numbers s)) in n ∙ none
      | inr other ↦ let n : count (is_number c) (children s v) ≡ 0 = rw other at (filtered (λ u. eqb (node s u).input v) c (node_numbers s)) in n
    ]

-- the offers of an array
offers_are : (a : FrameName) (c k : ℕ) (cs : List ℕ) → count (arrives_at c k) (map (offer a) cs) ≡ cond (eqb a.index k) (count (is_number c) cs) 0
offers_are a c k [] = cond_same (eqb a.index k) 0
offers_are a c k (u ∷ us) =
    let rest = offers_are a c k us in
    let one = count-cons (arrives_at c k) (offer a u) (map (offer a) us) in
    elim (cases_Bool (eqb a.index k)) [
      | inl same ↦
          let more : count (arrives_at c k) (map (offer a) us) ≡ count (is_number c) us = rw same at rest in
          let b : (eqb u c && eqb a.index k) ≡ eqb u c = rw same (elim (eqb u c) as (λ (x : Bool). (x && true) ≡ x) [ true ↦ refl | false ↦ refl ]) in
          let whole : count (arrives_at c k) (map (offer a) (u ∷ us)) ≡ count (is_number c) (u ∷ us) =
          omega (arith, one, more, ap bit b, count-cons (is_number c) u us) in
          whole ∙ sym (ap (λ (x : Bool). cond x (count (is_number c) (u ∷ us)) 0) same)
      | inr other ↦
          let more : count (arrives_at c k) (map (offer a) us) ≡ 0 = rw other at rest in
          let b : (eqb u c && eqb a.index k) ≡ false = rw other (elim (eqb u c) as (λ (x : Bool). (x && false) ≡ false) [ true ↦ refl | false ↦ refl ]) in
          let whole : count (arrives_at c k) (map (offer a) (u ∷ us)) ≡ 0 = omega (arith, one, more, ap bit b) in
          whole ∙ sym (ap (λ (x : Bool). cond x (count (is_number c) (u ∷ us)) 0) other)
    ]

pub offers_of_emit : (s : Setting) (P : Past) (v m i c k : ℕ)
    → count (arrives_at c k) (map (offer (frame m i)) (offered_to s P v)) ≤ bit (eqb v (node s c).input && eqb i k)
offers_of_emit s P v m i c k =
    let are = offers_are (frame m i) c k (offered_to s P v) in
    let once = child_once s v c in
    let few = count-offered (is_number c) s P v in
    elim (cases_Bool (eqb i k)) [
      | inl same ↦
          let n : count (arrives_at c k) (map (offer (frame m i)) (offered_to s P v)) ≡ count (is_number c) (offered_to s P v) = rw same at are in
          elim (cases_Bool (eqb (node s c).input v)) [
            | inl child ↦
                let both : (eqb v (node s c).input && eqb i k) ≡ true =
                and_from _ _ (eq-eqb v (node s c).input (sym (eqb-true (node s c).input v child))) same in
                omega (arith, n, few, once, ap bit child, ap bit both)
            | inr other ↦ omega (arith, n, few, once, ap bit other)
          ]
      | inr other ↦
          let n : count (arrives_at c k) (map (offer (frame m i)) (offered_to s P v)) ≡ 0 = rw other at are in
          omega (arith, n)
    ]

none_to : (s : Setting) (P : Past) (c v m i k : ℕ) → count (is_number c) (node_numbers s) ≡ 0
    → count (arrives_at c k) (map (offer (frame m i)) (offered_to s P v)) ≡ 0
none_to s P c v m i k none =
    let are = offers_are (frame m i) c k (offered_to s P v) in
    elim (cases_Bool (eqb i k)) [
      | inl same ↦
          let n : count (arrives_at c k) (map (offer (frame m i)) (offered_to s P v)) ≡ count (is_number c) (offered_to s P v) = rw same at are in
          omega (arith, n, count-offered (is_number c) s P v, no_child s c v none)
      | inr other ↦ let n : count (arrives_at c k) (map (offer (frame m i)) (offered_to s P v)) ≡ 0 = rw other at are in n
    ]

-- a tick offers nothing
look_if : (s : Setting) (P : Past) (c k u : ℕ) (b : Bool) → count (arrives_at c k) (cond b (look s u P) []) ≡ 0
look_if s P c k u true = no_offers u c k (look s u P) (goes_out-at s u _ _ _)
look_if s P c k u false = refl

no_offers-tick : (s : Setting) (P : Past) (c k : ℕ) (us : List ℕ) → count (arrives_at c k) (flat_map (λ u. cond (is_sorted s u) (look s u P) []) us) ≡ 0
no_offers-tick s P c k [] = refl
no_offers-tick s P c k (u ∷ us) =
    omega (
      arith,
      count-append (arrives_at c k) (cond (is_sorted s u) (look s u P) []) (flat_map (λ x. cond (is_sorted s x) (look s x P) []) us),
      look_if s P c k u (is_sorted s u),
      no_offers-tick s P c k us,
    )

-- what came and what is still offered was emitted by the input
pub arrives-emitted : (s : Setting) (P : Past) (c k : ℕ) → is_legal s P ≡ true
    → count (arrives_at c k) P + count (arrives_at c k) (owed s P) ≤ count (emits_at (node s c).input k) P
arrives-emitted s [] c k h = omega arith
arrives-emitted s (Accept w m i ∷ P) c k h =
    let a = owed-answered s (Accept w m i) P refl h in
    let same = answers-by_Accept s P w m i a.head a.answer in
    let was : count (arrives_at c k) (owed s P) ≡ bit (arrives_at c k (Accept w m i)) + count (arrives_at c k) a.rest =
    ap (count (arrives_at c k)) a.is
    ∙ (count-cons (arrives_at c k) a.head a.rest ∙ ap (λ (d : Entry). bit (arrives_at c k d) + count (arrives_at c k) a.rest) same) in
    let left : count (arrives_at c k) (drop 1 (owed s P)) ≡ count (arrives_at c k) a.rest = ap (λ (ds : List Entry). count (arrives_at c k) (drop 1 ds)) a.is in
    omega (arith, arrives-emitted s P c k (and_parts _ _ h).0, was, left, count-cons (arrives_at c k) (Accept w m i) P)
arrives-emitted s (Full w m i ∷ P) c k h =
    let a = owed-answered s (Full w m i) P refl h in
    let same = answers-by_Full s P w m i c k a.head a.answer in
    let was : count (arrives_at c k) (owed s P) ≡ bit (arrives_at c k (Full w m i)) + count (arrives_at c k) a.rest =
    ap (count (arrives_at c k)) a.is ∙ (count-cons (arrives_at c k) a.head a.rest ∙ ap (λ (b : Bool). bit b + count (arrives_at c k) a.rest) same) in
    let left : count (arrives_at c k) (drop 1 (owed s P)) ≡ count (arrives_at c k) a.rest = ap (λ (ds : List Entry). count (arrives_at c k) (drop 1 ds)) a.is in
    omega (arith, arrives-emitted s P c k (and_parts _ _ h).0, was, left, count-cons (arrives_at c k) (Full w m i) P)
arrives-emitted s (Emit w m i why ∷ P) c k h =
    let calls = offers_of_emit s P w m i c k in
    let all = count-append (arrives_at c k) (map (offer (frame m i)) (offered_to s P w)) (drop 1 (owed s P)) in
    omega (
      arith,
      arrives-emitted s P c k (and_parts _ _ h).0,
      calls,
      all,
      count-drop (arrives_at c k) (owed s P),
      count-cons (emits_at (node s c).input k) (Emit w m i why) P,
    )
arrives-emitted s (Tick t ∷ P) c k h =
    omega (
      arith,
      arrives-emitted s P c k (and_parts _ _ h).0,
      count-append (arrives_at c k) (calls_for s P (Tick t)) (drop 1 (owed s P)),
      no_offers-tick s (Tick t ∷ P) c k (node_numbers s),
      count-drop (arrives_at c k) (owed s P),
    )
arrives-emitted s (Put r w m i f ∷ P) c k h =
    omega (
      arith,
      arrives-emitted s P c k (and_parts _ _ h).0,
      count-append (arrives_at c k) (calls_for s P (Put r w m i f)) (drop 1 (owed s P)),
      no_offers w c k (calls_for s P (Put r w m i f)) (result-at s w (frame m i) f P (node s w).work),
      count-drop (arrives_at c k) (owed s P),
    )
arrives-emitted s (Settle r w ∷ P) c k h =
    omega (
      arith,
      arrives-emitted s P c k (and_parts _ _ h).0,
      count-append (arrives_at c k) (calls_for s P (Settle r w)) (drop 1 (owed s P)),
      no_offers w c k (calls_for s P (Settle r w)) (flush-at w (least_first s (waiting s w P))),
      count-drop (arrives_at c k) (owed s P),
    )
arrives-emitted s (_ ∷ P) c k h = omega (arith, arrives-emitted s P c k (and_parts _ _ h).0, count-drop (arrives_at c k) (owed s P))

-- nothing is offered to what isn't numbered
pub none_arrives : (s : Setting) (P : Past) (c k : ℕ) → count (is_number c) (node_numbers s) ≡ 0 → is_legal s P ≡ true
    → count (arrives_at c k) P + count (arrives_at c k) (owed s P) ≡ 0
none_arrives s [] c k none h = refl
none_arrives s (Accept w m i ∷ P) c k none h =
    let a = owed-answered s (Accept w m i) P refl h in
    let same = answers-by_Accept s P w m i a.head a.answer in
    let was : count (arrives_at c k) (owed s P) ≡ bit (arrives_at c k (Accept w m i)) + count (arrives_at c k) a.rest =
    ap (count (arrives_at c k)) a.is
    ∙ (count-cons (arrives_at c k) a.head a.rest ∙ ap (λ (d : Entry). bit (arrives_at c k d) + count (arrives_at c k) a.rest) same) in
    let left : count (arrives_at c k) (drop 1 (owed s P)) ≡ count (arrives_at c k) a.rest = ap (λ (ds : List Entry). count (arrives_at c k) (drop 1 ds)) a.is in
    omega (arith, none_arrives s P c k none (and_parts _ _ h).0, was, left, count-cons (arrives_at c k) (Accept w m i) P)
none_arrives s (Full w m i ∷ P) c k none h =
    let a = owed-answered s (Full w m i) P refl h in
    let same = answers-by_Full s P w m i c k a.head a.answer in
    let was : count (arrives_at c k) (owed s P) ≡ bit (arrives_at c k (Full w m i)) + count (arrives_at c k) a.rest =
    ap (count (arrives_at c k)) a.is ∙ (count-cons (arrives_at c k) a.head a.rest ∙ ap (λ (b : Bool). bit b + count (arrives_at c k) a.rest) same) in
    let left : count (arrives_at c k) (drop 1 (owed s P)) ≡ count (arrives_at c k) a.rest = ap (λ (ds : List Entry). count (arrives_at c k) (drop 1 ds)) a.is in
    omega (arith, none_arrives s P c k none (and_parts _ _ h).0, was, left, count-cons (arrives_at c k) (Full w m i) P)
none_arrives s (Emit w m i why ∷ P) c k none h =
    omega (
      arith,
      none_arrives s P c k none (and_parts _ _ h).0,
      none_to s P c w m i k none,
      count-append (arrives_at c k) (map (offer (frame m i)) (offered_to s P w)) (drop 1 (owed s P)),
      count-drop (arrives_at c k) (owed s P),
    )
none_arrives s (Tick t ∷ P) c k none h =
    omega (
      arith,
      none_arrives s P c k none (and_parts _ _ h).0,
      count-append (arrives_at c k) (calls_for s P (Tick t)) (drop 1 (owed s P)),
      no_offers-tick s (Tick t ∷ P) c k (node_numbers s),
      count-drop (arrives_at c k) (owed s P),
    )
none_arrives s (Put r w m i f ∷ P) c k none h =
    omega (
      arith,
      none_arrives s P c k none (and_parts _ _ h).0,
      count-append (arrives_at c k) (calls_for s P (Put r w m i f)) (drop 1 (owed s P)),
      no_offers w c k (calls_for s P (Put r w m i f)) (result-at s w (frame m i) f P (node s w).work),
      count-drop (arrives_at c k) (owed s P),
    )
none_arrives s (Settle r w ∷ P) c k none h =
    omega (
      arith,
      none_arrives s P c k none (and_parts _ _ h).0,
      count-append (arrives_at c k) (calls_for s P (Settle r w)) (drop 1 (owed s P)),
      no_offers w c k (calls_for s P (Settle r w)) (flush-at w (least_first s (waiting s w P))),
      count-drop (arrives_at c k) (owed s P),
    )
none_arrives s (_ ∷ P) c k none h = omega (arith, none_arrives s P c k none (and_parts _ _ h).0, count-drop (arrives_at c k) (owed s P))

pub none_at : (s : Setting) (P : Past) (c k : ℕ) → count (is_number c) (node_numbers s) ≡ 0 → is_legal s P ≡ true
    → count (accepts_at c k) P + count (accepts_at c k) (owed s P) ≡ 0
none_at s P c k none h = omega (arith, none_arrives s P c k none h, arrives-le c k P, arrives-le c k (owed s P))

-- nor to the driver
pub none_at_driver : (s : Setting) (P : Past) (k : ℕ) → is_legal s P ≡ true → count (accepts_at 0 k) P + count (accepts_at 0 k) (owed s P) ≡ 0
none_at_driver s P k h = none_at s P 0 k (none_numbered_0 s) h
