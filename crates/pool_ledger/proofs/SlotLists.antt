-- What a change of one slot makes of the lists that are read from the slots.
use Rattle.std.proofs.Common.{◌≡◌, ◌≢◌, ℕ, zero, suc, ◌+◌, ◌^◌, ◌<◌, ◌≤◌, true, false, cond, eqb, ltb, List, [], ◌∷◌, ◌++◌, length, get_or, set, refl, ap}
use Rattle.std.proofs.Common.{sym, ◌∙◌, subst, length-set, inl, inr, arith}
use Rattle.std.specs.List.{AllByRecursion}
use Rattle.std.proofs.lemmas.Bool.{lt-ltb, le-ltb, eq-eqb, ne_eqb, cases_Bool, cond_both}
use Rattle.std.proofs.lemmas.List.{set-set, set-get_or, get_or-set_same}
use Rattle.pool_ledger.specs.Keys.{IsRising, with_key, without_key}
use Rattle.pool_ledger.specs.Ledger.{Known, with_count, with_known, without}
use Rattle.pool_ledger.specs.Inside.{known_from, unused_from, free_from, is_open, key_of}
use Rattle.pool_ledger.specs.declared.pools.Slot.{Slot}
use Rattle.pool_ledger.proofs.KeyLists.{length-with_key, with_key-swap, without-with_key}

-- one slot of the known blocks
abbrev known_one : ℕ → Slot → List Known → List Known
known_one i s ks = cond (eqb s.size 0) ks (record { number = i; size = s.size; count = s.count } ∷ ks)

-- THE KNOWN BLOCKS

with_count-above : (i b c : ℕ) (ss : List Slot) → b < i → with_count b c (known_from i ss) ≡ known_from i ss
with_count-above i b c [] h = refl
with_count-above i b c (s ∷ ss) h =
    cond_both (eqb s.size 0) _ _ (λ ks. with_count b c ks ≡ ks)
    (λ _. with_count-above (i + 1) b c ss (omega arith))
    (λ _. rw (ne_eqb i b (λ e. omega arith))
    (ap (λ ks. record { number = i; size = s.size; count = s.count } ∷ ks) (with_count-above (i + 1) b c ss (omega arith))))

pub known_from-recount : (i j b : ℕ) (ss : List Slot) (d s : Slot) → b ≡ i + j → j < length ss → s.size ≡ (get_or ss j d).size → s.size ≢ 0
    → known_from i (set ss j s) ≡ with_count b s.count (known_from i ss)
known_from-recount i j b [] d s e h same some = absurd (omega arith)
known_from-recount i zero b (x ∷ ss) d s e h same some =
    rw (ne_eqb s.size 0 some, ← same, ne_eqb s.size 0 some, eq-eqb i b (omega arith))
    (ap (λ ks. record { number = i; size = s.size; count = s.count } ∷ ks) (sym (with_count-above (i + 1) b s.count ss (omega arith))))
known_from-recount i (suc j) b (x ∷ ss) d s e h same some =
    let rest = known_from-recount (i + 1) j b ss d s (omega arith) (omega arith) same some in
    elim (cases_Bool (eqb x.size 0)) [
      | inl t ↦ rw t rest
      | inr f ↦ rw (f, ne_eqb i b (λ q. omega arith)) (ap (λ ks. record { number = i; size = x.size; count = x.count } ∷ ks) rest)
    ]

without_above : (i b n : ℕ) (ss : List Slot) → b < i → without (record { number = b; size = n } ∷ []) (known_from i ss) ≡ known_from i ss
without_above i b n [] h = refl
without_above i b n (s ∷ ss) h =
    elim (cases_Bool (eqb s.size 0)) [
      | inl t ↦ rw t (without_above (i + 1) b n ss (omega arith))
      | inr f ↦ rw (f, ne_eqb b i (λ q. omega arith))
          (ap (λ ks. record { number = i; size = s.size; count = s.count } ∷ ks) (without_above (i + 1) b n ss (omega arith)))
    ]

-- the block's slot is emptied
pub known_from-clear : (i j b n : ℕ) (ss : List Slot) (s : Slot) → b ≡ i + j → j < length ss → s.size ≡ 0
    → known_from i (set ss j s) ≡ without (record { number = b; size = n } ∷ []) (known_from i ss)
known_from-clear i j b n [] s e h none = absurd (omega arith)
known_from-clear i zero b n (x ∷ ss) s e h none =
    elim (cases_Bool (eqb x.size 0)) [
      | inl t ↦ rw (eq-eqb s.size 0 none, t) (sym (without_above (i + 1) b n ss (omega arith)))
      | inr f ↦ rw (eq-eqb s.size 0 none, f, eq-eqb b i (omega arith)) (sym (without_above (i + 1) b n ss (omega arith)))
    ]
known_from-clear i (suc j) b n (x ∷ ss) s e h none =
    let rest = known_from-clear (i + 1) j b n ss s (omega arith) (omega arith) none in
    elim (cases_Bool (eqb x.size 0)) [
      | inl t ↦ rw t rest
      | inr f ↦ rw (f, ne_eqb b i (λ q. omega arith)) (ap (λ ks. record { number = i; size = x.size; count = x.count } ∷ ks) rest)
    ]

with_known-before : (i : ℕ) (k : Known) (ss : List Slot) → k.number < i → with_known k (known_from i ss) ≡ k ∷ known_from i ss
with_known-before i k [] h = refl
with_known-before i k (s ∷ ss) h =
    elim (cases_Bool (eqb s.size 0)) [
      | inl t ↦ rw t (with_known-before (i + 1) k ss (omega arith))
      | inr f ↦ rw (f, le-ltb i k.number (omega arith))
    ]

-- an empty slot gets a block
pub known_from-fill : (i j : ℕ) (k : Known) (ss : List Slot) (d s : Slot) → k.number ≡ i + j → j < length ss → (get_or ss j d).size ≡ 0 → s.size ≢ 0
    → k.size ≡ s.size → k.count ≡ s.count → known_from i (set ss j s) ≡ with_known k (known_from i ss)
known_from-fill i j k [] d s e h none some sz ct = absurd (omega arith)
known_from-fill i zero k (x ∷ ss) d s e h none some sz ct =
    let here : i ≡ k.number = omega arith in
    rw (ne_eqb s.size 0 some, eq-eqb x.size 0 none, with_known-before (i + 1) k ss (omega arith), here, sym sz, sym ct)
known_from-fill i (suc j) k (x ∷ ss) d s e h none some sz ct =
    let rest = known_from-fill (i + 1) j k ss d s (omega arith) (omega arith) none some sz ct in
    elim (cases_Bool (eqb x.size 0)) [
      | inl t ↦ rw t rest
      | inr f ↦ rw (f, lt-ltb i k.number (omega arith)) (ap (λ ks. record { number = i; size = x.size; count = x.count } ∷ ks) rest)
    ]

-- one more slot, with a block
pub known_from-push : (i : ℕ) (k : Known) (ss : List Slot) (s : Slot) → k.number ≡ i + length ss → s.size ≢ 0 → k.size ≡ s.size → k.count ≡ s.count
    → known_from i (ss ++ s ∷ []) ≡ with_known k (known_from i ss)
known_from-push i k [] s e some sz ct =
    let here : i ≡ k.number = omega arith in
    rw (ne_eqb s.size 0 some, here, sym sz, sym ct)
known_from-push i k (x ∷ ss) s e some sz ct =
    let rest = known_from-push (i + 1) k ss s (omega arith) some sz ct in
    elim (cases_Bool (eqb x.size 0)) [
      | inl t ↦ rw t rest
      | inr f ↦ rw (f, lt-ltb i k.number (omega arith)) (ap (λ ks. record { number = i; size = x.size; count = x.count } ∷ ks) rest)
    ]

-- THE UNUSED NUMBERS

-- a slot keeps a block
pub unused_from-recount : (i j : ℕ) (ss : List Slot) (d s : Slot) → s.size ≡ (get_or ss j d).size → unused_from i (set ss j s) ≡ unused_from i ss
unused_from-recount i j [] d s same = refl
unused_from-recount i zero (x ∷ ss) d s same = rw same
unused_from-recount i (suc j) (x ∷ ss) d s same = rw (unused_from-recount (i + 1) j ss d s same)

with_key-first : (i b : ℕ) (ss : List Slot) → b < i → with_key b (unused_from i ss) ≡ b ∷ unused_from i ss
with_key-first i b [] h = refl
with_key-first i b (s ∷ ss) h =
    elim (cases_Bool (eqb s.size 0)) [
      | inl t ↦ rw (t, le-ltb i b (omega arith))
      | inr f ↦ rw f (with_key-first (i + 1) b ss (omega arith))
    ]

-- the block's slot is emptied
pub unused_from-clear : (i j b : ℕ) (ss : List Slot) (d s : Slot) → b ≡ i + j → j < length ss → (get_or ss j d).size ≢ 0 → s.size ≡ 0
    → unused_from i (set ss j s) ≡ with_key b (unused_from i ss)
unused_from-clear i j b [] d s e h some none = absurd (omega arith)
unused_from-clear i zero b (x ∷ ss) d s e h some none =
    let here : b ≡ i = omega arith in
    rw (eq-eqb s.size 0 none, ne_eqb x.size 0 some, with_key-first (i + 1) b ss (omega arith), here)
unused_from-clear i (suc j) b (x ∷ ss) d s e h some none =
    let rest = unused_from-clear (i + 1) j b ss d s (omega arith) (omega arith) some none in
    elim (cases_Bool (eqb x.size 0)) [
      | inl t ↦ rw (t, lt-ltb i b (omega arith)) (ap (λ ks. i ∷ ks) rest)
      | inr f ↦ rw f rest
    ]

-- one more slot, with a block
pub unused_from-push : (i : ℕ) (ss : List Slot) (s : Slot) → s.size ≢ 0 → unused_from i (ss ++ s ∷ []) ≡ unused_from i ss
unused_from-push i [] s some = rw (ne_eqb s.size 0 some)
unused_from-push i (x ∷ ss) s some = rw (unused_from-push (i + 1) ss s some)

-- THE KEYS OF FREE BLOCKS

-- a change between two slots of which neither is free
pub free_from-same : (i j : ℕ) (ss : List Slot) (d s : Slot) → is_open (get_or ss j d) ≡ false → is_open s ≡ false → free_from i (set ss j s) ≡ free_from i ss
free_from-same i j [] d s was now = refl
free_from-same i zero (x ∷ ss) d s was now = rw (was, now)
free_from-same i (suc j) (x ∷ ss) d s was now = rw (free_from-same (i + 1) j ss d s was now)

-- a block becomes free
pub free_from-open : (i j b : ℕ) (ss : List Slot) (d s : Slot) → b ≡ i + j → j < length ss → is_open (get_or ss j d) ≡ false → is_open s ≡ true
    → free_from i (set ss j s) ≡ with_key (key_of s.size b) (free_from i ss)
free_from-open i j b [] d s e h was now = absurd (omega arith)
free_from-open i zero b (x ∷ ss) d s e h was now =
    let here : i ≡ b = omega arith in rw (was, now, here)
free_from-open i (suc j) b (x ∷ ss) d s e h was now =
    let rest = free_from-open (i + 1) j b ss d s (omega arith) (omega arith) was now in
    elim (cases_Bool (is_open x)) [
      | inl t ↦ rw (t, rest) (with_key-swap (key_of x.size i) (key_of s.size b) (free_from (i + 1) ss))
      | inr f ↦ rw f rest
    ]

pub free_from-push : (i : ℕ) (ss : List Slot) (s : Slot) → is_open s ≡ false → free_from i (ss ++ s ∷ []) ≡ free_from i ss
free_from-push i [] s now = rw now
free_from-push i (x ∷ ss) s now = rw (free_from-push (i + 1) ss s now)

-- a block stops being free
pub free_from-close : (i j b : ℕ) (ss : List Slot) (d s : Slot) → b ≡ i + j → j < length ss → is_open (get_or ss j d) ≡ true → is_open s ≡ false
    → IsRising (free_from i ss) → free_from i (set ss j s) ≡ without_key (key_of (get_or ss j d).size b) (free_from i ss)
free_from-close i j b ss d s e h was now rising =
    let x = get_or ss j d in
    let back : set (set ss j s) j x ≡ ss = set-set ss j s x ∙ set-get_or ss j d in
    let here : get_or (set ss j s) j d ≡ s = get_or-set_same ss j s d h in
    let short : j < length (set ss j s) = rw length-set h in
    let put : free_from i ss ≡ with_key (key_of x.size b) (free_from i (set ss j s)) =
    ap (free_from i) (sym back) ∙ free_from-open i j b (set ss j s) d x e short (ap is_open here ∙ now) was in
    sym (ap (without_key (key_of x.size b)) put ∙ without-with_key (key_of x.size b) (free_from i (set ss j s)) (subst IsRising put rising))

-- an empty slot gets a block
pub unused_from-fill : (i j b : ℕ) (ss : List Slot) (d s : Slot) → b ≡ i + j → j < length ss → (get_or ss j d).size ≡ 0 → s.size ≢ 0
    → IsRising (unused_from i ss) → unused_from i (set ss j s) ≡ without_key b (unused_from i ss)
unused_from-fill i j b ss d s e h was now rising =
    let x = get_or ss j d in
    let back : set (set ss j s) j x ≡ ss = set-set ss j s x ∙ set-get_or ss j d in
    let here : get_or (set ss j s) j d ≡ s = get_or-set_same ss j s d h in
    let short : j < length (set ss j s) = rw length-set h in
    let put : unused_from i ss ≡ with_key b (unused_from i (set ss j s)) =
    ap (unused_from i) (sym back) ∙ unused_from-clear i j b (set ss j s) d x e short (λ q. now (sym (ap (λ (t : Slot). t.size) here) ∙ q)) was in
    sym (ap (without_key b) put ∙ without-with_key b (unused_from i (set ss j s)) (subst IsRising put rising))

-- LENGTHS

pub length-known_from : (i : ℕ) (ss : List Slot) → length (known_from i ss) + length (unused_from i ss) ≡ length ss
length-known_from i [] = refl
length-known_from i (s ∷ ss) =
    let rest = length-known_from (i + 1) ss in
    elim (cases_Bool (eqb s.size 0)) [ inl t ↦ rw t (omega arith) | inr f ↦ rw f (omega arith) ]

not_empty : (s : Slot) → eqb s.size 0 ≡ true → is_open s ≡ false
not_empty s t = rw t

pub length-free_from : (i : ℕ) (ss : List Slot) → length (free_from i ss) ≤ length (known_from i ss)
length-free_from i [] = omega arith
length-free_from i (s ∷ ss) =
    let rest = length-free_from (i + 1) ss in
    elim (cases_Bool (eqb s.size 0)) [
      | inl t ↦ rw (not_empty s t, t) rest
      | inr f ↦
          elim (cases_Bool (is_open s)) [
            | inl o ↦ rw (o, f, length-with_key) (omega arith)
            | inr c ↦ rw (c, f) (omega arith)
          ]
    ]

-- where some block is not free
pub length-free_from_held : (i j : ℕ) (ss : List Slot) (d : Slot) → j < length ss → (get_or ss j d).size ≢ 0 → is_open (get_or ss j d) ≡ false
    → length (free_from i ss) < length (known_from i ss)
length-free_from_held i j [] d h some shut = absurd (omega arith)
length-free_from_held i zero (s ∷ ss) d h some shut =
    let rest = length-free_from (i + 1) ss in rw (shut, ne_eqb s.size 0 some) (omega arith)
length-free_from_held i (suc j) (s ∷ ss) d h some shut =
    let rest = length-free_from_held (i + 1) j ss d (omega arith) some shut in
    elim (cases_Bool (eqb s.size 0)) [
      | inl t ↦ rw (not_empty s t, t) rest
      | inr f ↦
          elim (cases_Bool (is_open s)) [
            | inl o ↦ rw (o, f, length-with_key) (omega arith)
            | inr c ↦ rw (c, f) (omega arith)
          ]
    ]

-- KEYS THAT AREN'T THERE

absent-with_key : (x key : ℕ) (ks : List ℕ) → key ≢ x → AllByRecursion (λ k. k ≢ x) ks → AllByRecursion (λ k. k ≢ x) (with_key key ks)
absent-with_key x key [] ne h = (ne, tt)
absent-with_key x key (k ∷ ks) ne h =
    elim (cases_Bool (ltb k key)) [ inl t ↦ rw t (h.0, absent-with_key x key ks ne h.1) | inr f ↦ rw f (ne, h) ]

-- keys of different numbers differ
key_of-ne : (m i n b : ℕ) → i < 2 ^ 32 → b < 2 ^ 32 → i ≢ b → key_of m i ≢ key_of n b
key_of-ne m i n b hi hb ne e = ne (omega arith)

absent-free_from_later : (i b n : ℕ) (ss : List Slot) → b < i → i + length ss ≤ 2 ^ 32 → AllByRecursion (λ k. k ≢ key_of n b) (free_from i ss)
absent-free_from_later i b n [] h fits = tt
absent-free_from_later i b n (s ∷ ss) h fits =
    let rest = absent-free_from_later (i + 1) b n ss (omega arith) (omega arith) in
    elim (cases_Bool (is_open s)) [
      | inl o ↦ rw o (absent-with_key (key_of n b) (key_of s.size i) _ (key_of-ne s.size i n b (omega arith) (omega arith) (λ q. omega arith)) rest)
      | inr c ↦ rw c rest
    ]

pub absent-free_from : (i j b n : ℕ) (ss : List Slot) (d : Slot) → b ≡ i + j → i + length ss ≤ 2 ^ 32 → b < 2 ^ 32 → is_open (get_or ss j d) ≡ false
    → AllByRecursion (λ k. k ≢ key_of n b) (free_from i ss)
absent-free_from i j b n [] d e fits hb shut = tt
absent-free_from i zero b n (s ∷ ss) d e fits hb shut = rw shut (absent-free_from_later (i + 1) b n ss (omega arith) (omega arith))
absent-free_from i (suc j) b n (s ∷ ss) d e fits hb shut =
    let rest = absent-free_from (i + 1) j b n ss d (omega arith) (omega arith) hb shut in
    elim (cases_Bool (is_open s)) [
      | inl o ↦ rw o (absent-with_key (key_of n b) (key_of s.size i) _ (key_of-ne s.size i n b (omega arith) hb (λ q. omega arith)) rest)
      | inr c ↦ rw c rest
    ]

absent-unused_later : (i b : ℕ) (ss : List Slot) → b < i → AllByRecursion (λ k. k ≢ b) (unused_from i ss)
absent-unused_later i b [] h = tt
absent-unused_later i b (s ∷ ss) h =
    let rest = absent-unused_later (i + 1) b ss (omega arith) in
    elim (cases_Bool (eqb s.size 0)) [ inl t ↦ rw t ((λ q. omega arith), rest) | inr f ↦ rw f rest ]

pub absent-unused_from : (i j b : ℕ) (ss : List Slot) (d : Slot) → b ≡ i + j → j < length ss → (get_or ss j d).size ≢ 0
    → AllByRecursion (λ k. k ≢ b) (unused_from i ss)
absent-unused_from i j b [] d e h some = tt
absent-unused_from i zero b (s ∷ ss) d e h some = rw (ne_eqb s.size 0 some) (absent-unused_later (i + 1) b ss (omega arith))
absent-unused_from i (suc j) b (s ∷ ss) d e h some =
    let rest = absent-unused_from (i + 1) j b ss d (omega arith) (omega arith) some in
    elim (cases_Bool (eqb s.size 0)) [ inl t ↦ rw t ((λ q. omega arith), rest) | inr f ↦ rw f rest ]
