-- How triggers, what passes and what is kept change by one more put.
use Rattle.std.specs.Prelude.{◌≡◌, ◌≢◌, ℕ, zero, suc, ◌+◌, ◌-◌, ◌<◌, ◌≤◌, ◌==◌, Bool, true, false, ◌&&◌, ◌||◌, nat_lt, nat_le, List, [], ◌∷◌, ◌++◌, length}
use Rattle.std.specs.Prelude.{take, drop, max, min, ◌⊎◌, if◌then◌else◌, refl}
use Rattle.std.specs.List.{list_any}
use Rattle.std.proofs.Common.{ap, sym, subst, ◌∙◌, arith, inl, inr, ⊎_elim, length-append, length-take, append_assoc}
use Rattle.std.proofs.lemmas.Bool.{leb-true, ltb-true, ltb-false, le-leb, lt-leb, lt-ltb, le-ltb, eqb-true, eqb-false, eq-eqb, ne_eqb, cases_eq, cases_lt}
use Rattle.std.proofs.lemmas.Bool.{cases_Bool, and_parts, and_cases, and_right, or_right, cond-true, cond-false}
use Rattle.std.proofs.lemmas.List.{append-nil, take_all, take-append-le, drop-append-le, drop-drop, drop_all, length-drop, take-append-drop, length-take-le}
use Rattle.std.proofs.lemmas.List.{length_push}
use Rattle.circular_buffer.specs.Buffer.{keep_last}
use Rattle.trig_window.specs.Windows.{firing_from, spaced, triggers, is_trigger, end_from, end_of_last, windows_from, is_passed, at_positions, passed_items}
use Rattle.trig_window.specs.Windows.{is_complete, kept, goes_out}

pub firing_from-push : (k : ℕ) (flags : List Bool) (f : Bool)
    → firing_from k (flags ++ f ∷ []) ≡ firing_from k flags ++ (if f then (k + length flags) ∷ [] else [])
firing_from-push k [] true = ap (λ n. n ∷ []) (let e : k ≡ k + 0 = omega arith in e)
firing_from-push k [] false = refl
firing_from-push k (g ∷ flags) f =
    let e : k + 1 + length flags ≡ k + suc (length flags) = omega arith in
    ap (λ ks. (if g then k ∷ [] else []) ++ ks) (firing_from-push (k + 1) flags f ∙ ap (λ n. firing_from (k + 1) flags ++ (if f then n ∷ [] else [])) e)
    ∙ sym (append_assoc (if g then k ∷ [] else []) (firing_from (k + 1) flags) (if f then (k + suc (length flags)) ∷ [] else []))

pub spaced-push : (post from : ℕ) (ks : List ℕ) (n : ℕ)
    → spaced post from (ks ++ n ∷ []) ≡ spaced post from ks ++ (if nat_le (end_from post from (spaced post from ks)) n then n ∷ [] else [])
spaced-push post from [] n = append-nil _
spaced-push post from (k ∷ ks) n =
    elim (nat_le from k) as (λ b. (if b then k ∷ [] else []) ++ spaced post (if b then k + post else from) (ks ++ n ∷ [])
    ≡ ((if b then k ∷ [] else []) ++ spaced post (if b then k + post else from) ks)
    ++ (if nat_le (end_from post from ((if b then k ∷ [] else []) ++ spaced post (if b then k + post else from) ks)) n then n ∷ [] else [])) [
      | true ↦ ap (λ ts. k ∷ ts) (spaced-push post (k + post) ks n)
      | false ↦ spaced-push post from ks n
    ]

-- each isn't before the end of the window of the one before it
abbrev pub AreSpaced : (post from : ℕ) → List ℕ → Type 0
AreSpaced post from [] = Unit {0}
AreSpaced post from (t ∷ ts) = (from ≤ t) × AreSpaced post (t + post) ts

abbrev pub AllBelow : ℕ → List ℕ → Type 0
AllBelow n [] = Unit {0}
AllBelow n (t ∷ ts) = (t < n) × AllBelow n ts

AreSpaced-split : (post from k : ℕ) (ks : List ℕ) (b : Bool) → nat_le from k ≡ b
    → AreSpaced post (if b then k + post else from) (spaced post (if b then k + post else from) ks)
    → AreSpaced post from ((if b then k ∷ [] else []) ++ spaced post (if b then k + post else from) ks)
AreSpaced-split post from k ks true e h = (leb-true from k e, h)
AreSpaced-split post from k ks false e h = h

pub AreSpaced-spaced : (post from : ℕ) (ks : List ℕ) → AreSpaced post from (spaced post from ks)
AreSpaced-spaced post from [] = tt
AreSpaced-spaced post from (k ∷ ks) =
    AreSpaced-split post from k ks (nat_le from k) refl (AreSpaced-spaced post (if nat_le from k then k + post else from) ks)

pub AreSpaced-take : (n post from : ℕ) (ts : List ℕ) → AreSpaced post from ts → AreSpaced post from (take n ts)
AreSpaced-take zero post from ts h = tt
AreSpaced-take (suc n) post from [] h = tt
AreSpaced-take (suc n) post from (t ∷ ts) h = (h.0, AreSpaced-take n post (t + post) ts h.1)

AllBelow-append : (n : ℕ) (ts us : List ℕ) → AllBelow n ts → AllBelow n us → AllBelow n (ts ++ us)
AllBelow-append n [] us h g = g
AllBelow-append n (t ∷ ts) us h g = (h.0, AllBelow-append n ts us h.1 g)

AllBelow-one : (n k : ℕ) (f : Bool) → k < n → AllBelow n (if f then k ∷ [] else [])
AllBelow-one n k true h = (h, tt)
AllBelow-one n k false h = tt

AllBelow-firing : (k n : ℕ) (flags : List Bool) → n ≡ k + length flags → AllBelow n (firing_from k flags)
AllBelow-firing k n [] e = tt
AllBelow-firing k n (f ∷ flags) e =
    AllBelow-append n (if f then k ∷ [] else []) (firing_from (k + 1) flags) (AllBelow-one n k f (omega arith)) (AllBelow-firing (k + 1) n flags (omega arith))

AllBelow-spaced : (n post from : ℕ) (ks : List ℕ) → AllBelow n ks → AllBelow n (spaced post from ks)
AllBelow-spaced n post from [] h = tt
AllBelow-spaced n post from (k ∷ ks) h =
    AllBelow-append n (if nat_le from k then k ∷ [] else []) (spaced post (if nat_le from k then k + post else from) ks) (AllBelow-one n k (nat_le from k) h.0)
    (AllBelow-spaced n post (if nat_le from k then k + post else from) ks h.1)

AllBelow-take : (m n : ℕ) (ts : List ℕ) → AllBelow n ts → AllBelow n (take m ts)
AllBelow-take zero n ts h = tt
AllBelow-take (suc m) n [] h = tt
AllBelow-take (suc m) n (t ∷ ts) h = (h.0, AllBelow-take m n ts h.1)

-- all triggers, counted or not
abbrev pub all_triggers : (post : ℕ) → List Bool → List ℕ
all_triggers post flags = spaced post 0 (firing_from 0 flags)

-- the first `preset` of them, or all
abbrev pub counted : (preset : ℕ) → List ℕ → List ℕ
counted preset all = if preset == 0 then all else take preset all

counted-at_zero : (preset : ℕ) (all : List ℕ) → preset ≡ 0 → counted preset all ≡ all
counted-at_zero preset all e = cond-true (preset == 0) all (take preset all) (eq-eqb preset 0 e)

counted-above : (preset : ℕ) (all : List ℕ) → preset ≢ 0 → counted preset all ≡ take preset all
counted-above preset all ne = cond-false (preset == 0) all (take preset all) (ne_eqb preset 0 ne)

pub triggers-spaced : (post preset : ℕ) (flags : List Bool) → AreSpaced post 0 (triggers post preset flags)
triggers-spaced post preset flags =
    ⊎_elim
    (λ e. subst (AreSpaced post 0) (sym (counted-at_zero preset (all_triggers post flags) e)) (AreSpaced-spaced post 0 (firing_from 0 flags)))
    (λ ne. subst (AreSpaced post 0) (sym (counted-above preset (all_triggers post flags) ne))
    (AreSpaced-take preset post 0 _ (AreSpaced-spaced post 0 (firing_from 0 flags))))
    (cases_eq preset 0)

pub triggers-below : (post preset : ℕ) (flags : List Bool) → AllBelow (length flags) (triggers post preset flags)
triggers-below post preset flags =
    let below : AllBelow (length flags) (all_triggers post flags) =
    AllBelow-spaced (length flags) post 0 (firing_from 0 flags) (AllBelow-firing 0 (length flags) flags (omega arith)) in
    ⊎_elim
    (λ e. subst (AllBelow (length flags)) (sym (counted-at_zero preset (all_triggers post flags) e)) below)
    (λ ne. subst (AllBelow (length flags)) (sym (counted-above preset (all_triggers post flags) ne)) (AllBelow-take preset (length flags) _ below))
    (cases_eq preset 0)

-- so many were counted as there are to count
abbrev pub is_full : (preset : ℕ) → List ℕ → Bool
is_full preset ts = nat_lt 0 preset && (length ts == preset)

-- before the last counted trigger all that came are counted
counted-open : (preset : ℕ) (all : List ℕ) → is_full preset (counted preset all) ≡ false → (preset ≡ 0) ⊎ (length all < preset)
counted-open preset all h =
    ⊎_elim inl
    (λ ne. ⊎_elim
    (λ small. absurd (omega (arith, ltb-false 0 preset small)))
    (λ other. inr (
    let differs = eqb-false (length (counted preset all)) preset other in
    let len : length (counted preset all) ≡ min preset (length all) = ap length (counted-above preset all ne) ∙ length-take preset all in
    ⊎_elim (λ lt. lt) (λ ge. absurd (differs (len ∙ (omega arith)))) (cases_lt (length all) preset)))
    (and_cases (nat_lt 0 preset) (length (counted preset all) == preset) h))
    (cases_eq preset 0)

counted-all : (preset : ℕ) (all : List ℕ) → (preset ≡ 0) ⊎ (length all ≤ preset) → counted preset all ≡ all
counted-all preset all h =
    ⊎_elim (counted-at_zero preset all)
    (λ ne. counted-above preset all ne ∙ take_all preset all (⊎_elim (λ e. absurd (ne e)) (λ le. le) h))
    (cases_eq preset 0)

counted-full : (preset : ℕ) (all xs : List ℕ) → is_full preset (counted preset all) ≡ true → counted preset (all ++ xs) ≡ counted preset all
counted-full preset all xs h =
    let parts = and_parts (nat_lt 0 preset) (length (counted preset all) == preset) h in
    let ne : preset ≢ 0 = omega (arith, ltb-true 0 preset parts.0) in
    let len : min preset (length all) ≡ preset = sym (ap length (counted-above preset all ne) ∙ length-take preset all) ∙ eqb-true _ preset parts.1 in
    counted-above preset (all ++ xs) ne ∙ take-append-le preset all xs (omega arith) ∙ sym (counted-above preset all ne)

pub end_from-push : (post before : ℕ) (ts : List ℕ) (n : ℕ) → end_from post before (ts ++ n ∷ []) ≡ n + post
end_from-push post before [] n = refl
end_from-push post before (t ∷ ts) n = end_from-push post (t + post) ts n

pub end_from-most : (post before : ℕ) (ts : List ℕ) (n : ℕ) → before ≤ n → AllBelow n ts → end_from post before ts ≤ n + post
end_from-most post before [] n h below = omega arith
end_from-most post before (t ∷ ts) n h below = end_from-shifted post (t + post) ts n (omega (arith, below.0)) below.1
  where
    end_from-shifted : (post before : ℕ) (ts : List ℕ) (n : ℕ) → before ≤ n + post → AllBelow n ts → end_from post before ts ≤ n + post
    end_from-shifted post before [] n h below = h
    end_from-shifted post before (t ∷ ts) n h below = end_from-shifted post (t + post) ts n (omega (arith, below.0)) below.1

pub end_from-least : (post before : ℕ) (ts : List ℕ) → AreSpaced post before ts → before ≤ end_from post before ts
end_from-least post before [] h = omega arith
end_from-least post before (t ∷ ts) h =
    let later : t + post ≤ end_from post (t + post) ts = end_from-least post (t + post) ts h.1 in
    omega (arith, h.0)

pub windows_from-push : (pre post before : ℕ) (ts : List ℕ) (n : ℕ)
    → windows_from pre post before (ts ++ n ∷ []) ≡ windows_from pre post before ts ++ (max (end_from post before ts) (n - pre), n + post) ∷ []
windows_from-push pre post before [] n = refl
windows_from-push pre post before (t ∷ ts) n = ap (λ ws. (max before (t - pre), t + post) ∷ ws) (windows_from-push pre post (t + post) ts n)

all_triggers-push : (post : ℕ) (flags : List Bool) (f : Bool)
    → all_triggers post (flags ++ f ∷ []) ≡ spaced post 0 (firing_from 0 flags ++ (if f then length flags ∷ [] else []))
all_triggers-push post flags f =
    let e : 0 + length flags ≡ length flags = omega arith in
    ap (spaced post 0) (firing_from-push 0 flags f ∙ ap (λ n. firing_from 0 flags ++ (if f then n ∷ [] else [])) e)

all_triggers-fired : (post : ℕ) (flags : List Bool)
    → all_triggers post (flags ++ true ∷ [])
    ≡ all_triggers post flags ++ (if nat_le (end_of_last post (all_triggers post flags)) (length flags) then length flags ∷ [] else [])
all_triggers-fired post flags = all_triggers-push post flags true ∙ spaced-push post 0 (firing_from 0 flags) (length flags)

-- a position that doesn't fire is no trigger
pub triggers-quiet : (post preset : ℕ) (flags : List Bool) → triggers post preset (flags ++ false ∷ []) ≡ triggers post preset flags
triggers-quiet post preset flags = ap (counted preset) (all_triggers-push post flags false ∙ ap (spaced post 0) (append-nil (firing_from 0 flags)))

-- once all counted triggers have come there are no more
pub triggers-complete : (post preset : ℕ) (flags : List Bool) (f : Bool) → is_complete post preset flags ≡ true
    → triggers post preset (flags ++ f ∷ []) ≡ triggers post preset flags
triggers-complete post preset flags false h = triggers-quiet post preset flags
triggers-complete post preset flags true h = ap (counted preset) (all_triggers-fired post flags) ∙ counted-full preset (all_triggers post flags) _ h

open_all : (post preset : ℕ) (flags : List Bool) → is_complete post preset flags ≡ false → triggers post preset flags ≡ all_triggers post flags
open_all post preset flags h =
    counted-all preset (all_triggers post flags) (⊎_elim inl (λ lt. inr (omega arith)) (counted-open preset (all_triggers post flags) h))

-- nor is a position inside the last window
pub triggers-inside : (post preset : ℕ) (flags : List Bool) (f : Bool) → length flags < end_of_last post (triggers post preset flags)
    → triggers post preset (flags ++ f ∷ []) ≡ triggers post preset flags
triggers-inside post preset flags false h = triggers-quiet post preset flags
triggers-inside post preset flags true h =
    ⊎_elim (triggers-complete post preset flags true)
    (λ open_still.
    let all = open_all post preset flags open_still in
    let inside : length flags < end_of_last post (all_triggers post flags) = subst (λ ts. length flags < end_of_last post ts) all h in
    ap (counted preset) (all_triggers-fired post flags ∙ ap (λ ts. all_triggers post flags ++ ts) (cond-false _ (length flags ∷ []) [] (lt-leb _ _ inside))
    ∙ append-nil (all_triggers post flags)))
    (cases_Bool (is_complete post preset flags))

-- any other that fires is one
pub triggers-fired : (post preset : ℕ) (flags : List Bool) → end_of_last post (triggers post preset flags) ≤ length flags
    → is_complete post preset flags ≡ false → triggers post preset (flags ++ true ∷ []) ≡ triggers post preset flags ++ length flags ∷ []
triggers-fired post preset flags h open_still =
    let all = open_all post preset flags open_still in
    let past : end_of_last post (all_triggers post flags) ≤ length flags = subst (λ ts. end_of_last post ts ≤ length flags) all h in
    let grown : all_triggers post (flags ++ true ∷ []) ≡ all_triggers post flags ++ length flags ∷ [] =
    all_triggers-fired post flags ∙ ap (λ ts. all_triggers post flags ++ ts) (cond-true _ (length flags ∷ []) [] (le-leb _ _ past)) in
    ap (counted preset) grown
    ∙ counted-all preset (all_triggers post flags ++ length flags ∷ []) (⊎_elim inl
    (λ lt. inr (omega (arith, length-append (all_triggers post flags) (length flags ∷ [])))) (counted-open preset (all_triggers post flags) open_still))
    ∙ ap (λ ts. ts ++ length flags ∷ []) (sym all)

or_false : (b : Bool) → (b || (false || false)) ≡ b
or_false true = refl
or_false false = refl

list_any-append : {X : Type 0} (p : X → Bool) (xs ys : List X) → list_any p (xs ++ ys) ≡ (list_any p xs || list_any p ys)
list_any-append p [] ys = refl
list_any-append p (x ∷ xs) ys =
    elim (p x) as (λ b. (b || list_any p (xs ++ ys)) ≡ ((b || list_any p xs) || list_any p ys)) [ true ↦ refl | false ↦ list_any-append p xs ys ]

passed_by : (pre post before k : ℕ) (ts : List ℕ) → before ≤ k → AreSpaced post before ts → AllBelow (k + 1) ts
    → list_any (λ w. nat_le w.0 k && nat_lt k w.1) (windows_from pre post before ts) ≡ nat_lt k (end_from post before ts)
passed_by pre post before k [] h spaced_so below = sym (le-ltb k before h)
passed_by pre post before k (t ∷ ts) h spaced_so below =
    ⊎_elim
    (λ inside.
    let first : (nat_le (max before (t - pre)) k && nat_lt k (t + post)) ≡ true =
    rw (le-leb (max before (t - pre)) k (omega (arith, spaced_so.0, below.0)), lt-ltb k (t + post) inside) refl in
    let later : t + post ≤ end_from post (t + post) ts = end_from-least post (t + post) ts spaced_so.1 in
    ap (λ b. b || list_any (λ w. nat_le w.0 k && nat_lt k w.1) (windows_from pre post (t + post) ts)) first ∙ sym (lt-ltb k _ (omega arith)))
    (λ past.
    let first : (nat_le (max before (t - pre)) k && nat_lt k (t + post)) ≡ false =
    rw (le-leb (max before (t - pre)) k (omega (arith, spaced_so.0, below.0)), le-ltb k (t + post) past) refl in
    ap (λ b. b || list_any (λ w. nat_le w.0 k && nat_lt k w.1) (windows_from pre post (t + post) ts)) first
    ∙ passed_by pre post (t + post) k ts past spaced_so.1 below.1)
    (cases_lt k (t + post))

AllBelow-more : (n : ℕ) (ts : List ℕ) → AllBelow n ts → AllBelow (n + 1) ts
AllBelow-more n [] h = tt
AllBelow-more n (t ∷ ts) h = (omega (arith, h.0), AllBelow-more n ts h.1)

is_any_below : (n : ℕ) (ts : List ℕ) → AllBelow n ts → list_any (λ t. t == n) ts ≡ false
is_any_below n [] h = refl
is_any_below n (t ∷ ts) h =
    ap (λ b. b || list_any (λ t. t == n) ts) (ne_eqb t n (λ e. omega (arith, e, h.0))) ∙ is_any_below n ts h.1

-- The newest position passes where a window of the firings so far, this one included, ends behind it.
pub passed_now : (pre post preset : ℕ) (flags : List Bool) (f : Bool)
    → is_passed pre post preset (flags ++ f ∷ []) (length flags) ≡ nat_lt (length flags) (end_of_last post (triggers post preset (flags ++ f ∷ [])))
passed_now pre post preset flags f =
    passed_by pre post 0 (length flags) (triggers post preset (flags ++ f ∷ [])) (omega arith) (triggers-spaced post preset (flags ++ f ∷ []))
    (subst (λ n. AllBelow n (triggers post preset (flags ++ f ∷ []))) (length_push flags f) (triggers-below post preset (flags ++ f ∷ [])))

module _ (pre post preset : ℕ) (flags : List Bool) (f : Bool) where
  -- no trigger has come
  module _ (same : triggers post preset (flags ++ f ∷ []) ≡ triggers post preset flags) where
    pub same-is_trigger : is_trigger post preset (flags ++ f ∷ []) (length flags) ≡ false
    same-is_trigger = ap (list_any (λ t. t == length flags)) same ∙ is_any_below (length flags) (triggers post preset flags) (triggers-below post preset flags)

    pub same-is_passed : is_passed pre post preset (flags ++ f ∷ []) (length flags) ≡ nat_lt (length flags) (end_of_last post (triggers post preset flags))
    same-is_passed = passed_now pre post preset flags f ∙ ap (λ ts. nat_lt (length flags) (end_of_last post ts)) same

    pub same-is_complete : is_complete post preset (flags ++ f ∷ []) ≡ is_complete post preset flags
    same-is_complete = ap (is_full preset) same

  -- the newest position is one
  module _ (grown : triggers post preset (flags ++ f ∷ []) ≡ triggers post preset flags ++ length flags ∷ []) where
    pub grown-is_trigger : is_trigger post preset (flags ++ f ∷ []) (length flags) ≡ true
    grown-is_trigger =
        ap (list_any (λ t. t == length flags)) grown ∙ list_any-append (λ t. t == length flags) (triggers post preset flags) (length flags ∷ [])
        ∙ ap (λ b. list_any (λ t. t == length flags) (triggers post preset flags) || (b || false)) (eq-eqb (length flags) (length flags) refl)
        ∙ ap (λ b. b || true) (is_any_below (length flags) (triggers post preset flags) (triggers-below post preset flags))

    pub grown-end : end_of_last post (triggers post preset (flags ++ f ∷ [])) ≡ length flags + post
    grown-end = ap (end_of_last post) grown ∙ end_from-push post 0 (triggers post preset flags) (length flags)

    pub grown-is_passed : 1 ≤ post → is_passed pre post preset (flags ++ f ∷ []) (length flags) ≡ true
    grown-is_passed h = passed_now pre post preset flags f ∙ ap (nat_lt (length flags)) grown-end ∙ lt-ltb (length flags) (length flags + post) (omega arith)

module _ {X : Type 0} where
  -- outside the windows and before they are complete the last ones are kept
  pub kept-open : (pre post preset : ℕ) (flags : List Bool) (xs : List X) → end_of_last post (triggers post preset flags) ≤ length xs
      → is_complete post preset flags ≡ false → kept pre post preset flags xs ≡ drop (max (end_of_last post (triggers post preset flags)) (length xs - pre)) xs
  kept-open pre post preset flags xs h open_still =
      cond-false (nat_lt (length xs) (end_of_last post (triggers post preset flags)) || is_complete post preset flags) [] _
      (rw (le-ltb (length xs) (end_of_last post (triggers post preset flags)) h) open_still)

  pub kept-inside : (pre post preset : ℕ) (flags : List Bool) (xs : List X) → length xs ≤ end_of_last post (triggers post preset flags)
      → kept pre post preset flags xs ≡ []
  kept-inside pre post preset flags xs h =
      elim (nat_lt (length xs) (end_of_last post (triggers post preset flags))
      || is_complete post preset flags) as (λ b. (if b then [] else drop (max (end_of_last post (triggers post preset flags)) (length xs - pre)) xs) ≡ []) [
        | true ↦ refl
        | false ↦ drop_all (max (end_of_last post (triggers post preset flags)) (length xs - pre)) xs (omega arith)
      ]

  pub kept-complete : (pre post preset : ℕ) (flags : List Bool) (xs : List X) → is_complete post preset flags ≡ true → kept pre post preset flags xs ≡ []
  kept-complete pre post preset flags xs h =
      cond-true (nat_lt (length xs) (end_of_last post (triggers post preset flags)) || is_complete post preset flags) [] _
      (rw h (elim (nat_lt (length xs) (end_of_last post (triggers post preset flags))) as (λ b. (b || true) ≡ true) [ true ↦ refl | false ↦ refl ]))

  keep_last-drop : (pre end n : ℕ) (xs : List X) (x : X) → length xs ≡ n → end ≤ n
      → keep_last pre (drop (max end (n - pre)) xs ++ x ∷ []) ≡ drop (max end (n + 1 - pre)) (xs ++ x ∷ [])
  keep_last-drop pre end n xs x e h =
      let within : max end (n - pre) ≤ length xs = omega arith in
      let joined : drop (max end (n - pre)) xs ++ x ∷ [] ≡ drop (max end (n - pre)) (xs ++ x ∷ []) =
      sym (drop-append-le (max end (n - pre)) xs (x ∷ []) within) in
      let len : length (drop (max end (n - pre)) (xs ++ x ∷ [])) ≡ n + 1 - max end (n - pre) =
      length-drop (max end (n - pre)) (xs ++ x ∷ []) ∙ ap (λ l. l - max end (n - pre)) (length_push xs x ∙ ap (λ l. l + 1) e) in
      let place : max end (n - pre) + (n + 1 - max end (n - pre) - pre) ≡ max end (n + 1 - pre) = omega arith in
      ap (keep_last pre) joined
      ∙ ap (λ l. drop (l - pre) (drop (max end (n - pre)) (xs ++ x ∷ []))) len
      ∙ drop-drop (n + 1 - max end (n - pre) - pre) (max end (n - pre)) (xs ++ x ∷ [])
      ∙ ap (λ l. drop l (xs ++ x ∷ [])) place

  -- Where no window has the newest position and none is complete, the newest item joins what is kept, of which
  -- `pre` are kept at most.
  pub kept-push : (pre post preset : ℕ) (flags : List Bool) (f : Bool) (xs : List X) (x : X) → length xs ≡ length flags
      → triggers post preset (flags ++ f ∷ []) ≡ triggers post preset flags → end_of_last post (triggers post preset flags) ≤ length flags
      → is_complete post preset flags ≡ false → kept pre post preset (flags ++ f ∷ []) (xs ++ x ∷ []) ≡ keep_last pre (kept pre post preset flags xs ++ x ∷ [])
  kept-push pre post preset flags f xs x len same past open_still =
      let ended : end_of_last post (triggers post preset (flags ++ f ∷ [])) ≤ length (xs ++ x ∷ []) = rw (same, length_push) (omega arith) in
      kept-open pre post preset (flags ++ f ∷ []) (xs ++ x ∷ []) ended (same-is_complete pre post preset flags f same ∙ open_still)
      ∙ ap (λ ts. drop (max (end_of_last post ts) (length (xs ++ x ∷ []) - pre)) (xs ++ x ∷ [])) same
      ∙ ap (λ l. drop (max (end_of_last post (triggers post preset flags)) (l - pre)) (xs ++ x ∷ [])) (length_push xs x)
      ∙ sym (keep_last-drop pre (end_of_last post (triggers post preset flags)) (length xs) xs x refl (omega arith))
      ∙ ap (λ ks. keep_last pre (ks ++ x ∷ [])) (sym (kept-open pre post preset flags xs (omega arith) open_still))

-- no more triggers are counted than the preset says
pub triggers-most : (post preset : ℕ) (flags : List Bool) → preset ≢ 0 → length (triggers post preset flags) ≤ preset
triggers-most post preset flags ne =
    let len : length (triggers post preset flags) ≡ min preset (length (all_triggers post flags)) =
    ap length (counted-above preset (all_triggers post flags) ne) ∙ length-take preset (all_triggers post flags) in
    omega arith

pub is_complete-true : (post preset : ℕ) (flags : List Bool) → 0 < preset → preset - length (triggers post preset flags) ≡ 0
    → is_complete post preset flags ≡ true
is_complete-true post preset flags above none =
    let most : length (triggers post preset flags) ≤ preset = triggers-most post preset flags (omega arith) in
    rw (lt-ltb 0 preset above, eq-eqb (length (triggers post preset flags)) preset (omega arith)) refl

pub is_complete-false : (post preset : ℕ) (flags : List Bool) → (0 < preset → preset - length (triggers post preset flags) ≢ 0)
    → is_complete post preset flags ≡ false
is_complete-false post preset flags some =
    ⊎_elim
    (λ full.
    let parts = and_parts (nat_lt 0 preset) (length (triggers post preset flags) == preset) full in
    let all : length (triggers post preset flags) ≡ preset = eqb-true _ preset parts.1 in
    absurd (some (ltb-true 0 preset parts.0) (omega arith)))
    (λ e. e)
    (cases_Bool (is_complete post preset flags))

module _ {X : Type 0} where
  at_positions-append : (p : ℕ → Bool) (k : ℕ) (xs ys : List X) → at_positions p k (xs ++ ys) ≡ at_positions p k xs ++ at_positions p (k + length xs) ys
  at_positions-append p k [] ys = ap (λ n. at_positions p n ys) (let e : k ≡ k + 0 = omega arith in e)
  at_positions-append p k (x ∷ xs) ys =
      let e : k + 1 + length xs ≡ k + suc (length xs) = omega arith in
      ap (λ zs. (if p k then x ∷ [] else []) ++ zs) (at_positions-append p (k + 1) xs ys ∙ ap (λ n. at_positions p (k + 1) xs ++ at_positions p n ys) e)
      ∙ sym (append_assoc (if p k then x ∷ [] else []) (at_positions p (k + 1) xs) (at_positions p (k + suc (length xs)) ys))

  at_positions-same : (p q : ℕ → Bool) (k : ℕ) (xs : List X) → ((j : ℕ) → k ≤ j → j < k + length xs → p j ≡ q j) → at_positions p k xs ≡ at_positions q k xs
  at_positions-same p q k [] h = refl
  at_positions-same p q k (x ∷ xs) h =
      let here : p k ≡ q k = h k (omega arith) (omega arith) in
      let later : at_positions p (k + 1) xs ≡ at_positions q (k + 1) xs = at_positions-same p q (k + 1) xs (λ j from to. h j (omega arith) (omega arith)) in
      ap (λ b. (if b then x ∷ [] else []) ++ at_positions p (k + 1) xs) here ∙ ap (λ zs. (if q k then x ∷ [] else []) ++ zs) later

  at_positions-all : (p : ℕ → Bool) (k : ℕ) (xs : List X) → ((j : ℕ) → k ≤ j → j < k + length xs → p j ≡ true) → at_positions p k xs ≡ xs
  at_positions-all p k [] h = refl
  at_positions-all p k (x ∷ xs) h =
      let here : p k ≡ true = h k (omega arith) (omega arith) in
      ap (λ b. (if b then x ∷ [] else []) ++ at_positions p (k + 1) xs) here
      ∙ ap (λ zs. x ∷ zs) (at_positions-all p (k + 1) xs (λ j from to. h j (omega arith) (omega arith)))

  at_positions-none : (p : ℕ → Bool) (k : ℕ) (xs : List X) → ((j : ℕ) → k ≤ j → j < k + length xs → p j ≡ false) → at_positions p k xs ≡ []
  at_positions-none p k [] h = refl
  at_positions-none p k (x ∷ xs) h =
      let here : p k ≡ false = h k (omega arith) (omega arith) in
      ap (λ b. (if b then x ∷ [] else []) ++ at_positions p (k + 1) xs) here ∙ at_positions-none p (k + 1) xs (λ j from to. h j (omega arith) (omega arith))

-- no window has a position from the end of the last one on
none_from : (pre post before k : ℕ) (ts : List ℕ) → AreSpaced post before ts → end_from post before ts ≤ k
    → list_any (λ w. nat_le w.0 k && nat_lt k w.1) (windows_from pre post before ts) ≡ false
none_from pre post before k [] h past = refl
none_from pre post before k (t ∷ ts) h past =
    let later : t + post ≤ end_from post (t + post) ts = end_from-least post (t + post) ts h.1 in
    ap (λ b. (nat_le (max before (t - pre)) k && b) || list_any (λ w. nat_le w.0 k && nat_lt k w.1) (windows_from pre post (t + post) ts))
    (le-ltb k (t + post) (omega arith))
    ∙ ap (λ b. b || list_any (λ w. nat_le w.0 k && nat_lt k w.1) (windows_from pre post (t + post) ts)) (and_right (nat_le (max before (t - pre)) k) false refl)
    ∙ none_from pre post (t + post) k ts h.1 past

-- one more window
passed_grown : (pre post preset : ℕ) (flags : List Bool) (k : ℕ) → triggers post preset (flags ++ true ∷ []) ≡ triggers post preset flags ++ length flags ∷ []
    → is_passed pre post preset (flags ++ true ∷ []) k ≡ (is_passed pre post preset flags k
    || ((nat_le (max (end_of_last post (triggers post preset flags)) (length flags - pre)) k && nat_lt k (length flags + post)) || false))
passed_grown pre post preset flags k grown =
    ap (λ ts. list_any (λ w. nat_le w.0 k && nat_lt k w.1) (windows_from pre post 0 ts)) grown
    ∙ ap (list_any (λ w. nat_le w.0 k && nat_lt k w.1)) (windows_from-push pre post 0 (triggers post preset flags) (length flags))
    ∙ list_any-append (λ w. nat_le w.0 k && nat_lt k w.1) (windows_from pre post 0 (triggers post preset flags))
    ((max (end_of_last post (triggers post preset flags)) (length flags - pre), length flags + post) ∷ [])

module _ {X : Type 0} (pre post preset : ℕ) (flags : List Bool) (xs : List X) (len : length xs ≡ length flags) where
  -- what passes of the items so far, by the windows of one more firing
  earlier_same : (f : Bool) → triggers post preset (flags ++ f ∷ []) ≡ triggers post preset flags
      → at_positions (is_passed pre post preset (flags ++ f ∷ [])) 0 xs
      ≡ passed_items pre post preset flags xs ++ (if is_trigger post preset (flags ++ f ∷ []) (length flags) then kept pre post preset flags xs else [])
  earlier_same f same =
      ap (λ ts. at_positions (λ k. list_any (λ w. nat_le w.0 k && nat_lt k w.1) (windows_from pre post 0 ts)) 0 xs) same
      ∙ sym (append-nil (passed_items pre post preset flags xs))
      ∙ ap (λ ys. passed_items pre post preset flags xs ++ ys)
      (sym (cond-false _ (kept pre post preset flags xs) [] (same-is_trigger pre post preset flags f same)))

  earlier_grown : 1 ≤ post → end_of_last post (triggers post preset flags) ≤ length flags → is_complete post preset flags ≡ false
      → triggers post preset (flags ++ true ∷ []) ≡ triggers post preset flags ++ length flags ∷ []
      → at_positions (is_passed pre post preset (flags ++ true ∷ [])) 0 xs
      ≡ passed_items pre post preset flags xs ++ (if is_trigger post preset (flags ++ true ∷ []) (length flags) then kept pre post preset flags xs else [])
  earlier_grown positive past open_still grown =
      let m : ℕ = max (end_of_last post (triggers post preset flags)) (length flags - pre) in
      let P : ℕ → Bool = is_passed pre post preset flags in
      let Q : ℕ → Bool = is_passed pre post preset (flags ++ true ∷ []) in
      let within : max (end_of_last post (triggers post preset flags)) (length flags - pre) ≤ length xs = omega arith in
      let front_len : length (take m xs) ≡ m = length-take-le m xs within in
      let back_len : length (drop m xs) ≡ length xs - m = length-drop m xs in
      let front : at_positions Q 0 (take m xs) ≡ at_positions P 0 (take m xs) =
      at_positions-same Q P 0 (take m xs) (λ j from to. passed_grown pre post preset flags j grown
      ∙ ap (λ b. P j || ((b && nat_lt j (length flags + post)) || false)) (lt-leb m j (omega arith)) ∙ or_false (P j)) in
      let back : at_positions Q (0 + length (take m xs)) (drop m xs) ≡ drop m xs =
      at_positions-all Q (0 + length (take m xs)) (drop m xs)
      (λ j from to. passed_grown pre post preset flags j grown ∙ ap (λ b. P j || ((b && nat_lt j (length flags + post)) || false)) (le-leb m j (omega arith))
      ∙ ap (λ b. P j || (b || false)) (lt-ltb j (length flags + post) (omega arith)) ∙ or_right (P j) true refl) in
      let old_back : at_positions P (0 + length (take m xs)) (drop m xs) ≡ [] =
      at_positions-none P (0 + length (take m xs)) (drop m xs)
      (λ j from to. none_from pre post 0 j (triggers post preset flags) (triggers-spaced post preset flags) (omega arith)) in
      let new_all : at_positions Q 0 xs ≡ at_positions P 0 (take m xs) ++ drop m xs =
      ap (at_positions Q 0) (sym (take-append-drop m xs)) ∙ at_positions-append Q 0 (take m xs) (drop m xs)
      ∙ ap (λ zs. zs ++ at_positions Q (0 + length (take m xs)) (drop m xs)) front ∙ ap (λ zs. at_positions P 0 (take m xs) ++ zs) back in
      let old_all : at_positions P 0 xs ≡ at_positions P 0 (take m xs) =
      ap (at_positions P 0) (sym (take-append-drop m xs)) ∙ at_positions-append P 0 (take m xs) (drop m xs)
      ∙ ap (λ zs. at_positions P 0 (take m xs) ++ zs) old_back ∙ append-nil (at_positions P 0 (take m xs)) in
      let kept_is : kept pre post preset flags xs ≡ drop m xs =
      kept-open pre post preset flags xs (omega arith) open_still ∙ ap (λ n. drop (max (end_of_last post (triggers post preset flags)) (n - pre)) xs) len in
      new_all ∙ ap (λ zs. zs ++ drop m xs) (sym old_all) ∙ ap (λ zs. passed_items pre post preset flags xs ++ zs) (sym kept_is)
      ∙ ap (λ zs. passed_items pre post preset flags xs ++ zs)
      (sym (cond-true _ (kept pre post preset flags xs) [] (grown-is_trigger pre post preset flags true grown)))

  earlier : (f : Bool) → 1 ≤ post
      → at_positions (is_passed pre post preset (flags ++ f ∷ [])) 0 xs
      ≡ passed_items pre post preset flags xs ++ (if is_trigger post preset (flags ++ f ∷ []) (length flags) then kept pre post preset flags xs else [])
  earlier false positive = earlier_same false (triggers-quiet post preset flags)
  earlier true positive =
      ⊎_elim
      (λ inside. earlier_same true (triggers-inside post preset flags true inside))
      (λ past. ⊎_elim
      (λ complete. earlier_same true (triggers-complete post preset flags true complete))
      (λ open_still. earlier_grown positive past open_still (triggers-fired post preset flags past open_still))
      (cases_Bool (is_complete post preset flags)))
      (cases_lt (length flags) (end_of_last post (triggers post preset flags)))

  -- What passes of one more item is what passed before, and then what goes out at this item.
  pub passed_items-push : (f : Bool) (x : X) → 1 ≤ post
      → passed_items pre post preset (flags ++ f ∷ []) (xs ++ x ∷ []) ≡ passed_items pre post preset flags xs ++ goes_out pre post preset flags xs f x
  passed_items-push f x positive =
      let Q : ℕ → Bool = is_passed pre post preset (flags ++ f ∷ []) in
      let place : 0 + length xs ≡ length flags = omega arith in
      at_positions-append Q 0 xs (x ∷ [])
      ∙ ap (λ zs. zs ++ at_positions Q (0 + length xs) (x ∷ [])) (earlier f positive)
      ∙ ap (λ n. (passed_items pre post preset flags xs
      ++ (if is_trigger post preset (flags ++ f ∷ []) (length flags) then kept pre post preset flags xs else [])) ++ ((if Q n then x ∷ [] else []) ++ [])) place
      ∙ ap (λ zs. (passed_items pre post preset flags xs ++ (if is_trigger post preset (flags ++ f ∷ []) (length flags) then kept pre post preset flags xs
      else [])) ++ zs) (append-nil (if Q (length flags) then x ∷ [] else []))
      ∙ append_assoc (passed_items pre post preset flags xs)
      (if is_trigger post preset (flags ++ f ∷ []) (length flags) then kept pre post preset flags xs else []) (if Q (length flags) then x ∷ [] else [])
