-- What a drop takes off the accepted list.
use Rattle.std.proofs.Common.{◌≡◌, ℕ, ◌+◌, ◌≤◌, Bool, true, false, not, ◌&&◌, ◌||◌, eqb, List, [], ◌∷◌, ◌++◌, ◌⊎◌, refl, sym, ap, ◌∙◌, arith, inl, inr}
use Rattle.std.specs.Prelude.{filter}
use Rattle.std.specs.List.{list_any}
use Rattle.std.proofs.lemmas.Bool.{and_parts, and_from, or_from, false≢true, true≢false, eq-eqb, eqb-true, cases_Bool}
use Rattle.nd_base.specs.declared.frame.FrameName.{FrameName}
use Rattle.flow_journal.specs.declared.entry.Entry.TheVariants.{PoolDrop, SortDrop}
use Rattle.flow_journal.specs.Setting.{Setting}
use Rattle.flow_journal.specs.Pasts.{Past, frame, same}
use Rattle.flow_journal.specs.Accepted.{is_dropped_by}
use Rattle.flow_journal.proofs.EntryCounts.{count, bit, count-cons, count-append}
use Rattle.flow_journal.proofs.Outs.{of_index}
use Rattle.flow_journal.specs.EntryTests.{is_sort_drop}
use Rattle.run_laws.proofs.Tallies.{pool_drops_at}

pub drop-away : (b : Bool) (T D : FrameName → Bool) (xs : List FrameName) → b ≡ false → filter (λ a. not ((b && T a) || D a)) xs ≡ filter (λ a. not (D a)) xs
drop-away true T D xs h = absurd (true≢false h)
drop-away false T D xs h = refl

pub drop-here : (b : Bool) (T D : FrameName → Bool) (xs : List FrameName) → b ≡ true
    → filter (λ a. not ((b && T a) || D a)) xs ≡ filter (λ a. not (T a)) (filter (λ a. not (D a)) xs)
drop-here false T D xs h = absurd (false≢true h)
drop-here true T D [] h = refl
drop-here true T D (x ∷ xs) h =
    let rest = drop-here true T D xs refl in
    elim (cases_Bool (D x)) [
      | inl dropped ↦ elim (cases_Bool (T x)) [
        | inl hit ↦ rw (hit, dropped) rest
        | inr miss ↦ rw (miss, dropped) rest
      ]
      | inr kept ↦ elim (cases_Bool (T x)) [
        | inl hit ↦ rw (hit, kept) (rw hit rest)
        | inr miss ↦ rw (miss, kept) (rw miss (ap (λ (ys : List FrameName). x ∷ ys) rest))
      ]
    ]

pub none-goes : (T : FrameName → Bool) (xs : List FrameName) → count T xs ≡ 0 → filter (λ a. not (T a)) xs ≡ xs
none-goes T [] h = refl
none-goes T (x ∷ xs) h =
    elim (cases_Bool (T x)) [
      | inl hit ↦ absurd (omega (arith, count-cons T x xs, ap bit hit, h))
      | inr miss ↦ rw miss (ap (λ (ys : List FrameName). x ∷ ys) (none-goes T xs (omega (arith, count-cons T x xs, h))))
    ]

-- one that stands once is taken out
pub one-out : (T : FrameName → Bool) (x : FrameName) (xs ys : List FrameName) → T x ≡ true → count T (xs ++ x ∷ ys) ≤ 1
    → filter (λ a. not (T a)) (xs ++ x ∷ ys) ≡ xs ++ ys
one-out T x [] ys hit few = rw hit (none-goes T ys (omega (arith, few, count-cons T x ys, ap bit hit)))
one-out T x (y ∷ xs) ys hit few =
    let more = count-cons T y (xs ++ x ∷ ys) in
    let part : count T (xs ++ x ∷ ys) ≡ count T xs + count T (x ∷ ys) = count-append T xs (x ∷ ys) in
    let here : count T (x ∷ ys) ≡ 1 + count T ys = count-cons T x ys ∙ ap (λ (b : Bool). bit b + count T ys) hit in
    elim (cases_Bool (T y)) [
      | inl two ↦ absurd (omega (arith, few, more, ap bit two, part, here))
      | inr miss ↦ rw miss (ap (λ (zs : List FrameName). y ∷ zs) (one-out T x xs ys hit (omega (arith, few, more))))
    ]

pub count-filter-le : (T D : FrameName → Bool) (xs : List FrameName) → count T (filter D xs) ≤ count T xs
count-filter-le T D [] = omega arith
count-filter-le T D (x ∷ xs) =
    elim (cases_Bool (D x)) [
      | inl kept ↦ rw kept (omega (arith, count-cons T x (filter D xs), count-cons T x xs, count-filter-le T D xs))
      | inr off ↦ rw off (omega (arith, count-cons T x xs, count-filter-le T D xs))
    ]

pub same-le : (m i : ℕ) (xs : List FrameName) → count (λ a. same a (frame m i)) xs ≤ count (of_index i) xs
same-le m i [] = omega arith
same-le m i (x ∷ xs) =
    let one : bit (same x (frame m i)) ≤ bit (eqb x.index i) =
    elim (eqb x.maker m) as (λ b. bit (b && eqb x.index i) ≤ bit (eqb x.index i)) [ true ↦ omega arith | false ↦ omega arith ] in
    omega (arith, one, same-le m i xs, count-cons (λ a. same a (frame m i)) x xs, count-cons (of_index i) x xs)

-- what no entry drops
pub undropped : (s : Setting) (v : ℕ) (a : FrameName) (P : Past) → count (pool_drops_at v a.index) P ≡ 0 → count (is_sort_drop v) P ≡ 0
    → list_any (is_dropped_by s v a) P ≡ false
undropped s v a [] pool sort = refl
undropped s v a (PoolDrop r w m i n z ∷ P) pool sort =
    let rest = undropped s v a P (omega (arith, pool, count-cons (pool_drops_at v a.index) (PoolDrop r w m i n z) P)) sort in
    or_from _ _ (miss (cases_Bool (eqb w v)) (cases_Bool (same a (frame m i)))) rest
  where
    miss : (eqb w v ≡ true) ⊎ (eqb w v ≡ false) → (same a (frame m i) ≡ true) ⊎ (same a (frame m i) ≡ false) → (eqb w v && same a (frame m i)) ≡ false
    miss (inr away) q = rw away refl
    miss (inl here) (inr other) = rw (here, other) refl
    miss (inl here) (inl is) =
        let index : eqb i a.index ≡ true = eq-eqb i a.index (sym (eqb-true a.index i (and_parts (eqb a.maker m) (eqb a.index i) is).1)) in
        absurd (omega (arith, pool, count-cons (pool_drops_at v a.index) (PoolDrop r w m i n z) P, ap bit (and_from (eqb w v) (eqb i a.index) here index)))
undropped s v a (SortDrop w m i ∷ P) pool sort =
    elim (cases_Bool (eqb w v)) [
      | inl here ↦ absurd (omega (arith, sort, count-cons (is_sort_drop v) (SortDrop w m i) P, ap bit here))
      | inr away ↦ rw away (undropped s v a P pool (omega (arith, sort, count-cons (is_sort_drop v) (SortDrop w m i) P)))
    ]
undropped s v a (_ ∷ P) pool sort = undropped s v a P pool sort
