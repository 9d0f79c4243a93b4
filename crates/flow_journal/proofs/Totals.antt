-- A block's count as a sum over hands and nodes, and how one more entry changes the sums.
use Rattle.std.proofs.Common.{◌≡◌, ◌≢◌, ℕ, ◌+◌, ◌≤◌, Bool, true, false, ◌||◌, cond, eqb, List, [], ◌∷◌, length, refl, sym, ap, ◌∙◌, arith, Some, inl, inr}
use Rattle.std.specs.Prelude.{flat_map}
use Rattle.std.specs.List.{list_any, find}
use Rattle.std.proofs.lemmas.Bool.{and_parts, eq-eqb, eqb-true, cases_Bool, or_cases, or_parts, true≢false, false≢true}
use Rattle.nd_base.specs.declared.frame.FrameName.{FrameName}
use Rattle.flow_journal.specs.declared.entry.Entry.{Entry}
use Rattle.flow_journal.specs.declared.entry.Entry.TheVariants.{Load, Take, TakeBlock, Save}
use Rattle.flow_journal.specs.Setting.{Setting, node_numbers}
use Rattle.flow_journal.specs.Pasts.{Past, frame}
use Rattle.flow_journal.specs.Hands.{takes_up, let_go, hands, standing}
use Rattle.flow_journal.specs.Accounts.{first_of, granted_for, block_of, blocks_in_hand, arrays_at, refs}
use Rattle.flow_journal.specs.Histories.{is_legal}
use Rattle.flow_journal.proofs.EntryCounts.{count, bit, count-cons, count-append}
use Rattle.flow_journal.proofs.Found.{none_counted}
use Rattle.flow_journal.proofs.Counts.{hand-standing}
use Rattle.flow_journal.proofs.Hands.{hands-Apart}
use Rattle.flow_journal.proofs.Offers.{is_number, once_numbered}
use Rattle.flow_journal.proofs.FrameBlocks.{Stands, AllStand, all_stand, any-one, load-block, take-block, has}
use Rattle.flow_journal.proofs.Travels.{bit-none, holds, Clear}
use Rattle.flow_journal.proofs.Making.{is_frame}
use Rattle.flow_journal.proofs.Places.{is_numbered, at_none, arrays-count}

-- SUMS

abbrev pub sum_of : {X : Type 0} → (X → ℕ) → List X → ℕ
sum_of f [] = 0
sum_of f (x ∷ xs) = f x + sum_of f xs

count-flat : {X Y : Type 0} (p : Y → Bool) (f : X → List Y) (xs : List X) → count p (flat_map f xs) ≡ sum_of (λ x. count p (f x)) xs
count-flat p f [] = refl
count-flat p f (x ∷ xs) = omega (arith, count-append p (f x) (flat_map f xs), count-flat p f xs)

pub sum-let_go : (f : Entry → ℕ) (r : ℕ) (e : Entry) (hs : List Entry) → find (takes_up r) hs ≡ Some e → sum_of f hs ≡ f e + sum_of f (let_go r hs)
sum-let_go f r e [] h = cc
sum-let_go f r e (x ∷ hs) h =
    elim (cases_Bool (takes_up r x)) [
      | inl here ↦ let same : Some x ≡ Some e = rw here at h in let is : x ≡ e = cc in rw here (ap (λ (y : Entry). f y + sum_of f hs) is)
      | inr away ↦ let rest : sum_of f hs ≡ f e + sum_of f (let_go r hs) = sum-let_go f r e hs (rw away at h) in rw away (omega (arith, rest))
    ]

-- two sums that differ at one number, which is among these once, and at one that isn't
sum-but : (f g : ℕ → ℕ) (w : ℕ) (us : List ℕ) → ((v : ℕ) → v ≢ w → f v ≡ g v) → count (is_number w) us ≡ 0 → sum_of f us ≡ sum_of g us
sum-but f g w [] same none = refl
sum-but f g w (u ∷ us) same none =
    elim (cases_Bool (eqb u w)) [
      | inl here ↦ absurd (omega (arith, none, count-cons (is_number w) u us, ap bit here))
      | inr away ↦
          omega (arith, same u (λ e. true≢false (sym (eq-eqb u w e) ∙ away)), sum-but f g w us same (omega (arith, none, count-cons (is_number w) u us)))
    ]

sum-one : (f g : ℕ → ℕ) (w : ℕ) (us : List ℕ) → ((v : ℕ) → v ≢ w → f v ≡ g v) → count (is_number w) us ≡ 1 → sum_of f us + g w ≡ sum_of g us + f w
sum-one f g w [] same one = absurd (omega (arith, one))
sum-one f g w (u ∷ us) same one =
    elim (cases_Bool (eqb u w)) [
      | inl here ↦
          let is : u ≡ w = eqb-true u w here in
          let rest : sum_of f us ≡ sum_of g us = sum-but f g w us same (omega (arith, one, count-cons (is_number w) u us, ap bit here)) in
          omega (arith, rest, ap f is, ap g is)
      | inr away ↦
          omega (
            arith,
            same u (λ e. true≢false (sym (eq-eqb u w e) ∙ away)),
            sum-one f g w us same (omega (arith, one, count-cons (is_number w) u us, ap bit away)),
          )
    ]

-- THE TOTAL

-- how many arrays of this hand pass
abbrev pub held_by : (FrameName → Bool) → Entry → ℕ
held_by t (Load r k b n f g x) = bit (t (frame 0 k))
held_by t (Take r v m k) = bit (t (frame m k))
held_by t (TakeBlock f x r v m k b n g) = bit (t (frame v k)) + bit (t (frame m k))
held_by t (Save r v m k g) = bit (t (frame m k))
held_by t _ = 0

-- how many at this node pass
abbrev pub at_node : (FrameName → Bool) → Setting → Past → ℕ → ℕ
at_node t s P v = count t (arrays_at s P v)

-- how many places have an array that passes
abbrev pub total : (FrameName → Bool) → Setting → Past → ℕ
total t s P = sum_of (held_by t) (hands P) + sum_of (at_node t s P) (node_numbers s)

one_block : (q : ℕ → Bool) (bs : List ℕ) → count q (first_of bs) ≡ bit (list_any q (first_of bs))
one_block q [] = refl
one_block q (b ∷ bs) = elim (q b) as (λ c. length (cond c (b ∷ []) []) ≡ bit (c || false)) [ true ↦ refl | false ↦ refl ]

-- a frame has one block at most
pub frame-count : (q : ℕ → Bool) (P : Past) (a : FrameName) → count q (block_of P a) ≡ bit (has q P a)
frame-count q P a = one_block q (flat_map (granted_for a) (standing P))

pub blocks-count : (q : ℕ → Bool) (P : Past) (xs : List FrameName) → count q (flat_map (block_of P) xs) ≡ count (has q P) xs
blocks-count q P [] = refl
blocks-count q P (x ∷ xs) =
    omega (arith, count-append q (block_of P x) (flat_map (block_of P) xs), count-cons (has q P) x xs, frame-count q P x, blocks-count q P xs)

pub hand-count : (s : Setting) (q : ℕ → Bool) (P : Past) (e : Entry) → is_legal s P ≡ true → Stands P e → count q (blocks_in_hand P e) ≡ held_by (has q P) e
hand-count s q P (Load r k b n f g x) h stands =
    omega (arith, count-cons q b [], ap bit (any-one q b (block_of P (frame 0 k)) (load-block s P r k b n f g x h (stands r (eq-eqb r r refl)))))
hand-count s q P (Take r v m k) h stands = frame-count q P (frame m k)
hand-count s q P (TakeBlock f x r v m k b n g) h stands =
    omega (
      arith,
      count-cons q b (block_of P (frame m k)),
      frame-count q P (frame m k),
      ap bit (any-one q b (block_of P (frame v k)) (take-block s P r v m k b n f g x h (stands r (eq-eqb r r refl)))),
    )
hand-count s q P (Save r v m k g) h stands = frame-count q P (frame m k)
hand-count s q P _ h stands = refl

hands-count : (s : Setting) (q : ℕ → Bool) (P : Past) (hs : List Entry) → is_legal s P ≡ true → AllStand P hs
    → count q (flat_map (blocks_in_hand P) hs) ≡ sum_of (held_by (has q P)) hs
hands-count s q P [] h stand = refl
hands-count s q P (e ∷ hs) h stand =
    omega (arith, count-append q (blocks_in_hand P e) (flat_map (blocks_in_hand P) hs), hand-count s q P e h stand.0, hands-count s q P hs h stand.1)

-- the count of a block is the total of the arrays that have it
pub refs-total : (s : Setting) (b : ℕ) (P : Past) → is_legal s P ≡ true → refs s P b ≡ total (has (is_number b) P) s P
refs-total s b P h =
    let q : ℕ → Bool = is_number b in
    let arrays : List FrameName = flat_map (arrays_at s P) (node_numbers s) in
    let whole = count-append q (flat_map (blocks_in_hand P) (hands P)) (flat_map (block_of P) arrays) in
    let roles = hands-count s q P (hands P) h (all_stand P (hands P) (hands-Apart P) (λ r e held. hand-standing s P r e h held)) in
    omega (arith, whole, roles, blocks-count q P arrays, count-flat (has q P) (arrays_at s P) (node_numbers s))

-- ONE MORE ENTRY

-- where only one node's arrays differ
pub nodes-but : (t : FrameName → Bool) (s : Setting) (e : Entry) (P : Past) (w : ℕ) → is_legal s (e ∷ P) ≡ true
    → ((v : ℕ) → v ≢ w → at_node t s (e ∷ P) v ≡ at_node t s P v)
    → sum_of (at_node t s (e ∷ P)) (node_numbers s) + at_node t s P w ≡ sum_of (at_node t s P) (node_numbers s) + at_node t s (e ∷ P) w
nodes-but t s e P w h same =
    let now_at : ℕ → ℕ = at_node t s (e ∷ P) in
    let was_at : ℕ → ℕ = at_node t s P in
    elim (cases_Bool (is_numbered s w)) [
      | inl numbered ↦ sum-one now_at was_at w (node_numbers s) same (omega (arith, once_numbered s w, some_counted (is_number w) (node_numbers s) numbered))
      | inr away ↦
          let none : count (is_number w) (node_numbers s) ≡ 0 = none_counted (is_number w) (node_numbers s) away in
          let legal : is_legal s P ≡ true = (and_parts _ _ h).0 in
          let n = at_none t s P w legal away in
          let m = at_none t s (e ∷ P) w h away in
          omega (
            arith,
            sum-but now_at was_at w (node_numbers s) same none,
            arrays-count t s P w,
            arrays-count t s (e ∷ P) w,
            n.queue,
            n.list,
            n.kept,
            n.file,
            m.queue,
            m.list,
            m.kept,
            m.file,
          )
    ]
  where
    some_counted : (p : ℕ → Bool) (us : List ℕ) → list_any p us ≡ true → 1 ≤ count p us
    some_counted p [] h = absurd (false≢true h)
    some_counted p (u ∷ us) h =
        elim (or_cases (p u) (list_any p us) h) [
          | inl here ↦ omega (arith, count-cons p u us, ap bit here)
          | inr there ↦ omega (arith, count-cons p u us, some_counted p us there)
        ]

-- where no node's arrays differ
pub nodes-same : (t : FrameName → Bool) (s : Setting) (P Q : Past) → ((v : ℕ) → at_node t s Q v ≡ at_node t s P v)
    → sum_of (at_node t s Q) (node_numbers s) ≡ sum_of (at_node t s P) (node_numbers s)
nodes-same t s P Q same = sums_same (node_numbers s)
  where
    sums_same : (us : List ℕ) → sum_of (at_node t s Q) us ≡ sum_of (at_node t s P) us
    sums_same [] = refl
    sums_same (u ∷ us) = omega (arith, same u, sums_same us)

-- where two tests differ at one frame alone, and no place has it
pub tests-same : (t u : FrameName → Bool) (a : FrameName) (s : Setting) (P : Past) → ((x : FrameName) → is_frame a x ≡ false → t x ≡ u x)
    → Clear (is_frame a) s P → total t s P ≡ total u s P
tests-same t u a s P agree c =
    let nodes : sum_of (at_node t s P) (node_numbers s) ≡ sum_of (at_node u s P) (node_numbers s) = sums_agree (node_numbers s) in
    omega (arith, roles_agree (hands P) c.roles, nodes)
  where
    count_agree : (xs : List FrameName) → count (is_frame a) xs ≡ 0 → count t xs ≡ count u xs
    count_agree [] h = refl
    count_agree (x ∷ xs) h =
        let off : is_frame a x ≡ false = bit-none (is_frame a x) (omega (arith, h, count-cons (is_frame a) x xs)) in
        omega (arith, count-cons t x xs, count-cons u x xs, ap bit (agree x off), count_agree xs (omega (arith, h, count-cons (is_frame a) x xs)))

    sums_agree : (us : List ℕ) → sum_of (at_node t s P) us ≡ sum_of (at_node u s P) us
    sums_agree [] = refl
    sums_agree (v ∷ us) =
        let none : count (is_frame a) (arrays_at s P v) ≡ 0 = omega (arith, arrays-count (is_frame a) s P v, c.queues v, c.lists v, c.rings v, c.files v) in
        omega (arith, count_agree (arrays_at s P v) none, sums_agree us)

    hand_agree : (e : Entry) → holds (is_frame a) e ≡ false → held_by t e ≡ held_by u e
    hand_agree (Load r k b n f g x) h = ap bit (agree (frame 0 k) h)
    hand_agree (Take r v m k) h = ap bit (agree (frame m k) h)
    hand_agree (TakeBlock f x r v m k b n g) h =
        let p = or_parts (is_frame a (frame v k)) (is_frame a (frame m k)) h in
        omega (arith, ap bit (agree (frame v k) p.0), ap bit (agree (frame m k) p.1))
    hand_agree (Save r v m k g) h = ap bit (agree (frame m k) h)
    hand_agree _ h = refl

    roles_agree : (hs : List Entry) → count (holds (is_frame a)) hs ≡ 0 → sum_of (held_by t) hs ≡ sum_of (held_by u) hs
    roles_agree [] h = refl
    roles_agree (e ∷ hs) h =
        let off : holds (is_frame a) e ≡ false = bit-none (holds (is_frame a) e) (omega (arith, h, count-cons (holds (is_frame a)) e hs)) in
        omega (arith, hand_agree e off, roles_agree hs (omega (arith, h, count-cons (holds (is_frame a)) e hs)))
