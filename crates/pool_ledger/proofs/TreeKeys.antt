-- The keys of a fork, and what a change of one side makes of them.
use Rattle.std.proofs.Common.{◌≡◌, ◌≢◌, ℕ, ◌<◌, ◌≤◌, Bool, true, false, ◌||◌, eqb, ltb, leb, List, [], ◌∷◌, ◌++◌, length, min, max, reverse, Some, None}
use Rattle.std.proofs.Common.{is_some, Box, refl, ap, sym, ◌∙◌, subst, ◌⊎◌, inl, inr, arith, length-append, append_assoc}
use Rattle.std.specs.List.{AllByRecursion, find, list_any}
use Rattle.std.specs.declared.alloc.Global.{Global}
use Rattle.std.proofs.lemmas.Bool.{lt-ltb, le-leb, lt-leb, eq-eqb, ne_eqb, cases_lt, cases_order, cases_Bool}
use Rattle.std.proofs.lemmas.List.{reverse-append}
use Rattle.pool_ledger.specs.Keys.{IsRising, with_key, without_key, least_from, greatest_below}
use Rattle.pool_ledger.specs.KeyTrees.{keys, IsSplit, Splits}
use Rattle.pool_ledger.specs.declared.key_tree.KeyTree.{KeyTree}
use Rattle.pool_ledger.specs.declared.key_tree.Node.{Node}
use Rattle.pool_ledger.specs.declared.key_tree.Node.TheVariants.{Fork}
use Rattle.pool_ledger.proofs.KeyLists.{with_key-past, with_key-here, without_key-absent}
use Rattle.pool_ledger.proofs.KeyPlaces.{find-append, find-append_none, reverse-cons, greatest_below-none, IsRising-with_key, IsRising-without_key}
use Rattle.pool_ledger.proofs.KeyPlaces.{count_below-here}

-- what is known of a tree's keys once its node is a fork
pub record AtFork (d low : List ℕ) (least split : ℕ) (high : List ℕ) : Type 0 where
  pub is : d ≡ least ∷ (low ++ high)
  pub splits : Splits low least split high

pub at_Fork : {n : Node} {d : List ℕ} {low high : Box KeyTree Global} {least split : ℕ} → keys n ≡ d → IsSplit n → n ≡ Fork low least split high
    → AtFork d low.value least split high.value
at_Fork {n} {d} {low} {high} {least} {split} view_is ok is =
    record { is = sym view_is ∙ ap keys is; splits = subst IsSplit is ok }

pub shorter : (d low : List ℕ) (least split : ℕ) (high : List ℕ) → AtFork d low least split high → (length low < length d) × (length high < length d)
shorter d low least split high f = rw f.is (omega (arith, length-append low high))

-- EACH KEY

front : (P : ℕ → Type 0) (xs ys : List ℕ) → AllByRecursion P (xs ++ ys) → AllByRecursion P xs
front P [] ys a = tt
front P (x ∷ xs) ys a = (a.0, front P xs ys a.1)

back : (P : ℕ → Type 0) (xs ys : List ℕ) → AllByRecursion P (xs ++ ys) → AllByRecursion P ys
back P [] ys a = a
back P (x ∷ xs) ys a = back P xs ys a.1

change : (P Q : ℕ → Type 0) → ((k : ℕ) → P k → Q k) → (xs : List ℕ) → AllByRecursion P xs → AllByRecursion Q xs
change P Q f [] a = tt
change P Q f (x ∷ xs) a = (f x a.0, change P Q f xs a.1)

put_all : (P : ℕ → Type 0) (key : ℕ) (ks : List ℕ) → P key → AllByRecursion P ks → AllByRecursion P (with_key key ks)
put_all P key [] p a = (p, tt)
put_all P key (k ∷ ks) p a = elim (cases_Bool (ltb k key)) [ inl t ↦ rw t (a.0, put_all P key ks p a.1) | inr f ↦ rw f (p, a) ]

take_all : (P : ℕ → Type 0) (key : ℕ) (ks : List ℕ) → AllByRecursion P ks → AllByRecursion P (without_key key ks)
take_all P key [] a = tt
take_all P key (k ∷ ks) a = elim (cases_Bool (eqb k key)) [ inl t ↦ rw t (take_all P key ks a.1) | inr f ↦ rw f (a.0, take_all P key ks a.1) ]

-- LOOKS

none_from : (bound split : ℕ) (ks : List ℕ) → split ≤ bound → AllByRecursion (λ k. k < split) ks → least_from bound ks ≡ None
none_from bound split [] h a = refl
none_from bound split (k ∷ ks) h a = let less : k < split = a.0 in rw (lt-leb bound k (omega arith)) (none_from bound split ks h a.1)

first_from : (bound split : ℕ) (ks : List ℕ) → bound < split → AllByRecursion (λ k. split ≤ k) ks → least_from 0 ks ≡ least_from bound ks
first_from bound split [] h a = refl
first_from bound split (k ∷ ks) h a = let more : split ≤ k = a.0 in rw (le-leb 0 k (omega arith), le-leb bound k (omega arith))

pub from_low : (d low : List ℕ) (least split : ℕ) (high : List ℕ) (bound key : ℕ) → AtFork d low least split high → least < bound
    → least_from bound low ≡ Some key → Some key ≡ least_from bound d
from_low d low least split high bound key f h e = rw (f.is, lt-leb bound least h) (sym (find-append (λ k. leb bound k) low high key e))

pub from_first : (d low : List ℕ) (least split : ℕ) (high : List ℕ) (bound : ℕ) → AtFork d low least split high → least < bound → bound < split
    → least_from bound low ≡ None → least_from 0 high ≡ least_from bound d
from_first d low least split high bound f h b e =
    rw (f.is, lt-leb bound least h) (first_from bound split high b f.splits.above ∙ sym (find-append_none (λ k. leb bound k) low high e))

pub from_high : (d low : List ℕ) (least split : ℕ) (high : List ℕ) (bound : ℕ) → AtFork d low least split high → least < bound → split ≤ bound
    → least_from bound high ≡ least_from bound d
from_high d low least split high bound f h b =
    rw (f.is, lt-leb bound least h) (sym (find-append_none (λ k. leb bound k) low high (none_from bound split low b f.splits.below)))

from_above : (d low : List ℕ) (least split : ℕ) (high : List ℕ) → AtFork d low least split high → reverse d ≡ reverse high ++ (reverse low ++ least ∷ [])
from_above d low least split high f =
    ap reverse f.is ∙ reverse-cons least (low ++ high) ∙ ap (λ xs. xs ++ least ∷ []) (reverse-append low high)
    ∙ append_assoc (reverse high) (reverse low) (least ∷ [])

pub below_least : (d low : List ℕ) (least split : ℕ) (high : List ℕ) (bound : ℕ) → AtFork d low least split high → bound ≤ least → None ≡ greatest_below bound d
below_least d low least split high bound f h =
    rw f.is (sym (greatest_below-none bound (least ∷ (low ++ high)) f.splits.rising (count_below-here bound least (low ++ high) h)))

pub below_high : (d low : List ℕ) (least split : ℕ) (high : List ℕ) (bound key : ℕ) → AtFork d low least split high → greatest_below bound high ≡ Some key
    → Some key ≡ greatest_below bound d
below_high d low least split high bound key f e =
    sym (ap (find (λ k. ltb k bound)) (from_above d low least split high f) ∙ find-append (λ k. ltb k bound) (reverse high) (reverse low ++ least ∷ []) key e)

pub below_low : (d low : List ℕ) (least split : ℕ) (high : List ℕ) (bound key : ℕ) → AtFork d low least split high → greatest_below bound high ≡ None
    → greatest_below bound low ≡ Some key → Some key ≡ greatest_below bound d
below_low d low least split high bound key f n e =
    sym (ap (find (λ k. ltb k bound)) (from_above d low least split high f) ∙ find-append_none (λ k. ltb k bound) (reverse high) (reverse low ++ least ∷ []) n
    ∙ find-append (λ k. ltb k bound) (reverse low) (least ∷ []) key e)

pub below_all : (d low : List ℕ) (least split : ℕ) (high : List ℕ) (bound : ℕ) → AtFork d low least split high → least < bound
    → greatest_below bound high ≡ None → greatest_below bound low ≡ None → Some least ≡ greatest_below bound d
below_all d low least split high bound f h n e =
    sym (ap (find (λ k. ltb k bound)) (from_above d low least split high f) ∙ find-append_none (λ k. ltb k bound) (reverse high) (reverse low ++ least ∷ []) n
    ∙ find-append_none (λ k. ltb k bound) (reverse low) (least ∷ []) e ∙ rw (lt-ltb least bound h))

-- PUTTING IN

with_key-least : (m : ℕ) (ks : List ℕ) → AllByRecursion (λ k. m < k) ks → with_key m ks ≡ m ∷ ks
with_key-least m [] a = refl
with_key-least m (k ∷ ks) a = let less : m < k = a.0 in with_key-here m k ks (omega arith)

with_key-low : (key split : ℕ) (low high : List ℕ) → key < split → AllByRecursion (λ k. split ≤ k) high → with_key key (low ++ high) ≡ with_key key low ++ high
with_key-low key split [] [] h a = refl
with_key-low key split [] (k ∷ ks) h a = let more : split ≤ k = a.0 in with_key-here key k ks (omega arith)
with_key-low key split (k ∷ ks) high h a =
    elim (cases_Bool (ltb k key)) [ inl t ↦ rw t (ap (λ xs. k ∷ xs) (with_key-low key split ks high h a)) | inr f ↦ rw f ]

with_key-high : (key split : ℕ) (low high : List ℕ) → split ≤ key → AllByRecursion (λ k. k < split) low → with_key key (low ++ high) ≡ low ++ with_key key high
with_key-high key split [] high h a = refl
with_key-high key split (k ∷ ks) high h a =
    let less : k < split = a.0 in rw (lt-ltb k key (omega arith)) (ap (λ xs. k ∷ xs) (with_key-high key split ks high h a.1))

-- the least of the two stays, the greater goes on
pub record Passes (key least m g : ℕ) : Type 0 where
  pub is : ((m ≡ key) × (g ≡ least) × (key < least)) ⊎ ((m ≡ least) × (g ≡ key) × (least ≤ key))

pub passes-min : (key least : ℕ) → Passes key least (min key least) (max key least)
passes-min key least =
    elim (cases_lt key least) [
      | inl less ↦ record { is = inl (omega arith, omega arith, less) }
      | inr more ↦ record { is = inr (omega arith, omega arith, more) }
    ]

passed_on : (key least m g : ℕ) (xs : List ℕ) → Passes key least m g → key ≢ least → AllByRecursion (λ k. least < k) xs
    → with_key key (least ∷ xs) ≡ m ∷ with_key g xs
passed_on key least m g xs p ne a =
    elim p.is [
      | inl w ↦ with_key-here key least xs (omega (arith, w.2)) ∙ ap (λ ks. key ∷ ks) (sym (with_key-least least xs a))
          ∙ ap (λ k. k ∷ with_key least xs) (sym w.0) ∙ ap (λ k. m ∷ with_key k xs) (sym w.1)
      | inr w ↦
          let past : least < key = elim (cases_order least key) [ inl e ↦ absurd (ne (sym e)) | inr (inl q) ↦ q | inr (inr q) ↦ absurd (omega (arith, w.2)) ] in
          with_key-past key least xs past ∙ ap (λ k. k ∷ with_key key xs) (sym w.0) ∙ ap (λ k. m ∷ with_key k xs) (sym w.1)
    ]

pub greater_absent : (d low : List ℕ) (least split : ℕ) (high : List ℕ) (key m g : ℕ) → AtFork d low least split high → AllByRecursion (λ k. k ≢ key) d
    → Passes key least m g → AllByRecursion (λ k. k ≢ g) (low ++ high)
greater_absent d low least split high key m g f a p =
    elim p.is [
      | inl w ↦ change (λ k. least < k) (λ k. k ≢ g) (λ k less e. absurd (omega (arith, w.1))) (low ++ high) f.splits.rising.0
      | inr w ↦ let there = subst (AllByRecursion (λ k. k ≢ key)) f.is a in change (λ k. k ≢ key) (λ k. k ≢ g) (λ k ne e. ne (e ∙ w.1)) (low ++ high) there.1
    ]

pub absent_low : (low high : List ℕ) (g : ℕ) → AllByRecursion (λ k. k ≢ g) (low ++ high) → AllByRecursion (λ k. k ≢ g) low
absent_low low high g a = front (λ k. k ≢ g) low high a

pub absent_high : (low high : List ℕ) (g : ℕ) → AllByRecursion (λ k. k ≢ g) (low ++ high) → AllByRecursion (λ k. k ≢ g) high
absent_high low high g a = back (λ k. k ≢ g) low high a

-- what a change of one side leaves
pub record Leaves (d low : List ℕ) (least split : ℕ) (high : List ℕ) : Type 0 where
  pub is : least ∷ (low ++ high) ≡ d
  pub splits : Splits low least split high

put_is : (d low : List ℕ) (least split : ℕ) (high : List ℕ) (key m g : ℕ) → AtFork d low least split high → AllByRecursion (λ k. k ≢ key) d
    → Passes key least m g → with_key key d ≡ m ∷ with_key g (low ++ high)
put_is d low least split high key m g f a p =
    let there = subst (AllByRecursion (λ k. k ≢ key)) f.is a in
    ap (with_key key) f.is ∙ passed_on key least m g (low ++ high) p (λ e. there.0 (sym e)) f.splits.rising.0

put_rising : (d low : List ℕ) (least split : ℕ) (high : List ℕ) (key : ℕ) → AtFork d low least split high → AllByRecursion (λ k. k ≢ key) d
    → IsRising (with_key key d)
put_rising d low least split high key f a = IsRising-with_key key d (subst IsRising (sym f.is) f.splits.rising) a

pub put_low : (d low : List ℕ) (least split : ℕ) (high : List ℕ) (key m g : ℕ) (new : List ℕ) → AtFork d low least split high
    → AllByRecursion (λ k. k ≢ key) d → Passes key least m g → g < split → new ≡ with_key g low → Leaves (with_key key d) new m split high
put_low d low least split high key m g new f a p h e =
    let whole : with_key key d ≡ m ∷ (with_key g low ++ high) = put_is d low least split high key m g f a p
    ∙ ap (λ xs. m ∷ xs) (with_key-low g split low high h f.splits.above) in
    rw e (record {
      is = sym whole;
      splits = record {
        rising = subst IsRising whole (put_rising d low least split high key f a);
        below = put_all (λ k. k < split) g low h f.splits.below;
        above = f.splits.above;
      };
    })

pub put_high : (d low : List ℕ) (least split : ℕ) (high : List ℕ) (key m g : ℕ) (new : List ℕ) → AtFork d low least split high
    → AllByRecursion (λ k. k ≢ key) d → Passes key least m g → split ≤ g → new ≡ with_key g high → Leaves (with_key key d) low m split new
put_high d low least split high key m g new f a p h e =
    let whole : with_key key d ≡ m ∷ (low ++ with_key g high) = put_is d low least split high key m g f a p
    ∙ ap (λ xs. m ∷ xs) (with_key-high g split low high h f.splits.below) in
    rw e (record {
      is = sym whole;
      splits = record {
        rising = subst IsRising whole (put_rising d low least split high key f a);
        below = f.splits.below;
        above = put_all (λ k. split ≤ k) g high h f.splits.above;
      };
    })

-- TAKING OUT

pub none_there : (ks : List ℕ) → is_some (least_from 0 ks) ≡ false → ks ≡ []
none_there [] e = refl
none_there (k ∷ ks) e = absurd (let found = rw (le-leb 0 k (omega arith)) at e in cc)

-- the least key of the high side goes to the fork
pub pulled_high : (d low : List ℕ) (least split : ℕ) (high : List ℕ) (next : ℕ) (rest : List ℕ) → AtFork d low least split high → low ≡ []
    → high ≡ next ∷ rest → (d ≡ least ∷ (next ∷ (low ++ rest))) × Splits low next split rest
pulled_high d low least split high next rest f none e =
    let whole : low ++ high ≡ next ∷ (low ++ rest) = ap (λ xs. xs ++ high) none ∙ e ∙ ap (λ xs. next ∷ (xs ++ rest)) (sym none) in (
      f.is ∙ ap (λ xs. least ∷ xs) whole,
      record {
        rising = (subst IsRising (ap (λ xs. least ∷ xs) whole) f.splits.rising).1;
        below = f.splits.below;
        above = (subst (AllByRecursion (λ k. split ≤ k)) e f.splits.above).1;
      },
    )

pub pulled_low : (d low : List ℕ) (least split : ℕ) (high : List ℕ) (next : ℕ) (rest : List ℕ) → AtFork d low least split high → low ≡ next ∷ rest
    → (d ≡ least ∷ (next ∷ (rest ++ high))) × Splits rest next split high
pulled_low d low least split high next rest f e =
    let whole : low ++ high ≡ next ∷ (rest ++ high) = ap (λ xs. xs ++ high) e in (
      f.is ∙ ap (λ xs. least ∷ xs) whole,
      record {
        rising = (subst IsRising (ap (λ xs. least ∷ xs) whole) f.splits.rising).1;
        below = (subst (AllByRecursion (λ k. k < split)) e f.splits.below).1;
        above = f.splits.above;
      },
    )

pub last_one : (d low : List ℕ) (least split : ℕ) (high : List ℕ) → AtFork d low least split high → low ≡ [] → high ≡ [] → d ≡ least ∷ []
last_one d low least split high f n e = f.is ∙ ap (λ xs. least ∷ (xs ++ high)) n ∙ ap (λ xs. least ∷ xs) e

abbrev pub has_key : ℕ → List ℕ → Bool
has_key x ks = list_any (λ k. eqb k x) ks

without-append : (key : ℕ) (xs ys : List ℕ) → without_key key (xs ++ ys) ≡ without_key key xs ++ without_key key ys
without-append key [] ys = refl
without-append key (x ∷ xs) ys =
    elim (cases_Bool (eqb x key)) [ inl t ↦ rw t (without-append key xs ys) | inr f ↦ rw f (ap (λ ks. x ∷ ks) (without-append key xs ys)) ]

not_above : (key split : ℕ) (ks : List ℕ) → key < split → AllByRecursion (λ k. split ≤ k) ks → (without_key key ks ≡ ks) × (has_key key ks ≡ false)
not_above key split [] h a = (refl, refl)
not_above key split (k ∷ ks) h a =
    let more : split ≤ k = a.0 in
    let rest = not_above key split ks h a.1 in
    (rw (ne_eqb k key (λ e. omega arith)) (ap (λ xs. k ∷ xs) rest.0), rw (ne_eqb k key (λ e. omega arith)) rest.1)

not_below : (key split : ℕ) (ks : List ℕ) → split ≤ key → AllByRecursion (λ k. k < split) ks → (without_key key ks ≡ ks) × (has_key key ks ≡ false)
not_below key split [] h a = (refl, refl)
not_below key split (k ∷ ks) h a =
    let less : k < split = a.0 in
    let rest = not_below key split ks h a.1 in
    (rw (ne_eqb k key (λ e. omega arith)) (ap (λ xs. k ∷ xs) rest.0), rw (ne_eqb k key (λ e. omega arith)) rest.1)

has_key-append : (key : ℕ) (xs ys : List ℕ) → has_key key (xs ++ ys) ≡ (has_key key xs || has_key key ys)
has_key-append key [] ys = refl
has_key-append key (x ∷ xs) ys = elim (cases_Bool (eqb x key)) [ inl t ↦ rw t | inr f ↦ rw f (has_key-append key xs ys) ]

or_false : (x y : Bool) → (x || y) ≡ true → y ≡ false → x ≡ true
or_false true y e n = refl
or_false false y e n = cc

pub in_low : (d low : List ℕ) (least split : ℕ) (high : List ℕ) (key : ℕ) → AtFork d low least split high → has_key key d ≡ true → key ≢ least
    → key < split → has_key key low ≡ true
in_low d low least split high key f e ne h =
    let there : has_key key (least ∷ (low ++ high)) ≡ true = sym (ap (has_key key) f.is) ∙ e in
    let inner : has_key key (low ++ high) ≡ true = rw (ne_eqb least key (λ q. ne (sym q))) at there in
    or_false (has_key key low) (has_key key high) (sym (has_key-append key low high) ∙ inner) (not_above key split high h f.splits.above).1

pub in_high : (d low : List ℕ) (least split : ℕ) (high : List ℕ) (key : ℕ) → AtFork d low least split high → has_key key d ≡ true → key ≢ least
    → split ≤ key → has_key key high ≡ true
in_high d low least split high key f e ne h =
    let there : has_key key (least ∷ (low ++ high)) ≡ true = sym (ap (has_key key) f.is) ∙ e in
    let inner : has_key key (low ++ high) ≡ true = rw (ne_eqb least key (λ q. ne (sym q))) at there in
    let both : (has_key key low || has_key key high) ≡ true = sym (has_key-append key low high) ∙ inner in
    rw (not_below key split low h f.splits.below).1 at both

pub out_low : (d low : List ℕ) (least split : ℕ) (high : List ℕ) (key : ℕ) (new : List ℕ) → AtFork d low least split high → key ≢ least → key < split
    → new ≡ without_key key low → Leaves (without_key key d) new least split high
out_low d low least split high key new f ne h e =
    let whole : without_key key d ≡ least ∷ (without_key key low ++ high) =
    ap (without_key key) f.is
    ∙ rw (ne_eqb least key (λ q. ne (sym q)))
    (ap (λ xs. least ∷ xs) (without-append key low high ∙ ap (λ xs. without_key key low ++ xs) (not_above key split high h f.splits.above).0)) in
    rw e (record {
      is = sym whole;
      splits = record {
        rising = subst IsRising whole (IsRising-without_key key d (subst IsRising (sym f.is) f.splits.rising));
        below = take_all (λ k. k < split) key low f.splits.below;
        above = f.splits.above;
      };
    })

pub out_high : (d low : List ℕ) (least split : ℕ) (high : List ℕ) (key : ℕ) (new : List ℕ) → AtFork d low least split high → key ≢ least → split ≤ key
    → new ≡ without_key key high → Leaves (without_key key d) low least split new
out_high d low least split high key new f ne h e =
    let whole : without_key key d ≡ least ∷ (low ++ without_key key high) =
    ap (without_key key) f.is
    ∙ rw (ne_eqb least key (λ q. ne (sym q)))
    (ap (λ xs. least ∷ xs) (without-append key low high ∙ ap (λ xs. xs ++ without_key key high) (not_below key split low h f.splits.below).0)) in
    rw e (record {
      is = sym whole;
      splits = record {
        rising = subst IsRising whole (IsRising-without_key key d (subst IsRising (sym f.is) f.splits.rising));
        below = f.splits.below;
        above = take_all (λ k. split ≤ k) key high f.splits.above;
      };
    })

-- the first key is the one that goes
pub out_first : (d : List ℕ) (key k : ℕ) (new : List ℕ) → IsRising d → d ≡ k ∷ new → key ≡ k → new ≡ without_key key d
out_first d key k new r e same =
    let rising : IsRising (k ∷ new) = subst IsRising e r in
    sym (ap (without_key key) e ∙ rw (eq-eqb k key (sym same)) (ap (λ x. without_key x new) same ∙ without_key-absent k new rising.0))
