-- One more put at a circular node: what goes out and what is kept then is no more than what was kept, and the array.
use Rattle.std.proofs.Common.{◌≡◌, ◌≢◌, ℕ, zero, suc, ◌+◌, ◌-◌, ◌≤◌, Bool, true, false, ◌&&◌, ◌||◌, cond, eqb, ltb, max, List, [], ◌∷◌, ◌++◌, length, drop}
use Rattle.std.proofs.Common.{refl, sym, ap, ◌∙◌, subst, arith, inl, inr, length-append}
use Rattle.std.specs.List.{list_any}
use Rattle.std.proofs.lemmas.Bool.{ne_eqb, lt-ltb, le-ltb, or_from, or_right, cases_Bool, cases_lt}
use Rattle.std.proofs.lemmas.List.{drop-append-le, drop_all}
use Rattle.nd_base.specs.declared.frame.FrameName.{FrameName}
use Rattle.trig_window.specs.Windows.{triggers, is_trigger, end_of_last, is_passed, is_complete, kept}
use Rattle.trig_window.specs.WindowLaws.{AllBelow, triggers-below, end_from-push, triggers-quiet, triggers-complete, triggers-inside, triggers-fired}
use Rattle.trig_window.specs.WindowLaws.{passed_now}
use Rattle.flow_journal.proofs.EntryCounts.{count, bit, count-cons, count-append}

count-drop-le : (q : FrameName → Bool) (i j : ℕ) (xs : List FrameName) → i ≤ j → count q (drop j xs) ≤ count q (drop i xs)
count-drop-le q zero zero xs h = omega arith
count-drop-le q zero (suc j) [] h = omega arith
count-drop-le q zero (suc j) (x ∷ xs) h = omega (arith, count-drop-le q zero j xs (omega arith), count-cons q x xs)
count-drop-le q (suc i) zero xs h = absurd (omega arith)
count-drop-le q (suc i) (suc j) [] h = omega arith
count-drop-le q (suc i) (suc j) (x ∷ xs) h = count-drop-le q i j xs (omega arith)

-- what is kept of one more array, from a place on that isn't before the earlier one
count-drop-more : (q : FrameName → Bool) (i j : ℕ) (xs : List FrameName) (a : FrameName) → i ≤ j
    → count q (drop j (xs ++ a ∷ [])) ≤ count q (drop i xs) + bit (q a)
count-drop-more q i j xs a h =
    elim (cases_lt (length xs) i) [
      | inl past ↦
          let n : length (xs ++ a ∷ []) ≤ j = omega (arith, length-append xs (a ∷ [])) in
          rw (drop_all j (xs ++ a ∷ []) n) (omega arith)
      | inr within ↦
          let split : drop i (xs ++ a ∷ []) ≡ drop i xs ++ a ∷ [] = drop-append-le i xs (a ∷ []) within in
          omega (arith, count-drop-le q i j (xs ++ a ∷ []) h, ap (count q) split, count-append q (drop i xs) (a ∷ []), count-cons q a [])
    ]

none_at : (n : ℕ) (ts : List ℕ) → AllBelow n ts → list_any (λ t. eqb t n) ts ≡ false
none_at n [] h = refl
none_at n (t ∷ ts) h = let ne : t ≢ n = omega (arith, h.0) in or_from (eqb t n) _ (ne_eqb t n ne) (none_at n ts h.1)

-- what is kept after the put, inside a window: nothing
kept-inside : (pre post preset : ℕ) (flags : List Bool) (q : FrameName → Bool) (xs : List FrameName) → length xs ≤ end_of_last post (triggers post preset flags)
    → count q (kept pre post preset flags xs) ≡ 0
kept-inside pre post preset flags q xs h =
    let end : ℕ = end_of_last post (triggers post preset flags) in
    elim (ltb (length xs) end || is_complete post preset flags) as (λ b. count q (cond b [] (drop (max end (length xs - pre)) xs)) ≡ 0) [
      | true ↦ refl
      | false ↦ ap (count q) (drop_all (max end (length xs - pre)) xs (omega arith))
    ]

-- once all windows are over: nothing
kept-complete : (pre post preset : ℕ) (flags : List Bool) (q : FrameName → Bool) (xs : List FrameName) → is_complete post preset flags ≡ true
    → count q (kept pre post preset flags xs) ≡ 0
kept-complete pre post preset flags q xs h =
    let end : ℕ = end_of_last post (triggers post preset flags) in
    let t : (ltb (length xs) end || is_complete post preset flags) ≡ true = or_right (ltb (length xs) end) (is_complete post preset flags) h in
    ap (λ (b : Bool). count q (cond b [] (drop (max end (length xs - pre)) xs))) t

-- and else the last ones
kept-open : (pre post preset : ℕ) (flags : List Bool) (xs : List FrameName) → end_of_last post (triggers post preset flags) ≤ length xs
    → is_complete post preset flags ≡ false → kept pre post preset flags xs ≡ drop (max (end_of_last post (triggers post preset flags)) (length xs - pre)) xs
kept-open pre post preset flags xs le h =
    let end : ℕ = end_of_last post (triggers post preset flags) in
    let t : (ltb (length xs) end || is_complete post preset flags) ≡ false =
    or_from (ltb (length xs) end) (is_complete post preset flags) (le-ltb (length xs) end le) h in
    ap (λ (b : Bool). cond b [] (drop (max end (length xs - pre)) xs)) t

-- what is kept after the put, in any case
kept-most : (pre post preset : ℕ) (flags : List Bool) (q : FrameName → Bool) (xs : List FrameName) (a : FrameName) (i : ℕ)
    → i ≤ max (end_of_last post (triggers post preset flags)) (length xs + 1 - pre)
    → count q (kept pre post preset flags (xs ++ a ∷ [])) ≤ count q (drop i xs) + bit (q a)
kept-most pre post preset flags q xs a i h =
    let end : ℕ = end_of_last post (triggers post preset flags) in
    let long : length (xs ++ a ∷ []) ≡ length xs + 1 = omega (arith, length-append xs (a ∷ [])) in
    elim (ltb (length (xs ++ a ∷ [])) end || is_complete post preset flags) as (λ b. count q
    (cond b [] (drop (max end (length (xs ++ a ∷ []) - pre)) (xs ++ a ∷ []))) ≤ count q (drop i xs) + bit (q a)) [
      | true ↦ omega arith
      | false ↦ count-drop-more q i (max end (length (xs ++ a ∷ []) - pre)) xs a (omega (arith, long, h))
    ]

-- the claim, by whether this is a trigger and whether it passes
abbrev pub Claim : (pre post preset : ℕ) → (flags : List Bool) → Bool → (q : FrameName → Bool) → (xs : List FrameName) → FrameName → Bool → Bool → Type 0
Claim pre post preset flags f q xs a trigger passed =
    cond trigger (count q (kept pre post preset flags xs)) 0 + cond passed (bit (q a)) 0 + count q (kept pre post preset (flags ++ f ∷ []) (xs ++ a ∷ []))
    ≤ bit (q a) + count q (kept pre post preset flags xs)

-- no trigger here
quiet : (pre post preset : ℕ) (flags : List Bool) (f : Bool) (q : FrameName → Bool) (xs : List FrameName) (a : FrameName) → length flags ≡ length xs
    → triggers post preset (flags ++ f ∷ []) ≡ triggers post preset flags
    → Claim pre post preset flags f q xs a (is_trigger post preset (flags ++ f ∷ []) (length flags))
    (is_passed pre post preset (flags ++ f ∷ []) (length flags))
quiet pre post preset flags f q xs a long same =
    let none : is_trigger post preset (flags ++ f ∷ []) (length flags) ≡ false =
    ap (λ (ts : List ℕ). list_any (λ t. eqb t (length flags)) ts) same
    ∙ none_at (length flags) (triggers post preset flags) (triggers-below post preset flags) in
    let passes : is_passed pre post preset (flags ++ f ∷ []) (length flags) ≡ ltb (length flags) (end_of_last post (triggers post preset flags)) =
    passed_now pre post preset flags f ∙ ap (λ (ts : List ℕ). ltb (length flags) (end_of_last post ts)) same in
    let end_same : end_of_last post (triggers post preset (flags ++ f ∷ [])) ≡ end_of_last post (triggers post preset flags) = ap (end_of_last post) same in
    let more : length (xs ++ a ∷ []) ≡ length xs + 1 = omega (arith, length-append xs (a ∷ [])) in
    subst (λ (b : Bool). Claim pre post preset flags f q xs a b (is_passed pre post preset (flags ++ f ∷ []) (length flags))) (sym none)
    (elim (cases_lt (length flags) (end_of_last post (triggers post preset flags))) [
      | inl inside ↦
          let yes_passed : is_passed pre post preset (flags ++ f ∷ []) (length flags) ≡ true = passes ∙ lt-ltb (length flags) _ inside in
          let nothing_kept = kept-inside pre post preset (flags ++ f ∷ []) q (xs ++ a ∷ []) (omega (arith, end_same, more, long, inside)) in
          subst (λ (b : Bool). Claim pre post preset flags f q xs a false b) (sym yes_passed) (omega (arith, nothing_kept))
      | inr outside ↦
          let not_passed : is_passed pre post preset (flags ++ f ∷ []) (length flags) ≡ false = passes ∙ le-ltb (length flags) _ outside in
          subst (λ (b : Bool). Claim pre post preset flags f q xs a false b) (sym not_passed)
          (elim (cases_Bool (is_complete post preset flags)) [
            | inl whole ↦
                let still : is_complete post preset (flags ++ f ∷ []) ≡ true = ap (λ (ts : List ℕ). ltb 0 preset && eqb (length ts) preset) same ∙ whole in
                let none_kept : count q (kept pre post preset (flags ++ f ∷ []) (xs ++ a ∷ [])) ≡ 0 =
                kept-complete pre post preset (flags ++ f ∷ []) q (xs ++ a ∷ []) still in
                omega (arith, none_kept)
            | inr open_still ↦
                let was : kept pre post preset flags xs ≡ drop (max (end_of_last post (triggers post preset flags)) (length xs - pre)) xs =
                kept-open pre post preset flags xs (omega (arith, long, outside)) open_still in
                let bound =
                kept-most pre post preset (flags ++ f ∷ []) q xs a
                (max (end_of_last post (triggers post preset flags)) (length xs - pre)) (omega (arith, end_same)) in
                omega (arith, bound, ap (count q) was)
          ])
    ])

-- a trigger here
fired : (pre post preset : ℕ) (flags : List Bool) (q : FrameName → Bool) (xs : List FrameName) (a : FrameName) → length flags ≡ length xs
    → triggers post preset (flags ++ true ∷ []) ≡ triggers post preset flags ++ length flags ∷ [] → (b : Bool)
    → Claim pre post preset flags true q xs a b (is_passed pre post preset (flags ++ true ∷ []) (length flags))
fired pre post preset flags q xs a long more b =
    let end : end_of_last post (triggers post preset (flags ++ true ∷ [])) ≡ length flags + post =
    ap (end_of_last post) more ∙ end_from-push post 0 (triggers post preset flags) (length flags) in
    let passes : is_passed pre post preset (flags ++ true ∷ []) (length flags) ≡ ltb (length flags) (length flags + post) =
    passed_now pre post preset flags true ∙ ap (ltb (length flags)) end in
    let one : length (xs ++ a ∷ []) ≡ length xs + 1 = omega (arith, length-append xs (a ∷ [])) in
    let at_most : cond b (count q (kept pre post preset flags xs)) 0 ≤ count q (kept pre post preset flags xs) =
    elim b as (λ c. cond c (count q (kept pre post preset flags xs)) 0 ≤ count q (kept pre post preset flags xs)) [
      | true ↦ omega arith
      | false ↦ omega arith
    ] in
    elim (cases_lt 0 post) [
      | inl some ↦
          let passed_on : is_passed pre post preset (flags ++ true ∷ []) (length flags) ≡ true =
          passes ∙ lt-ltb (length flags) (length flags + post) (omega arith) in
          let nothing_kept = kept-inside pre post preset (flags ++ true ∷ []) q (xs ++ a ∷ []) (omega (arith, end, one, long, some)) in
          subst (λ (c : Bool). Claim pre post preset flags true q xs a b c) (sym passed_on) (omega (arith, nothing_kept, at_most))
      | inr none ↦
          let not_passed : is_passed pre post preset (flags ++ true ∷ []) (length flags) ≡ false =
          passes ∙ le-ltb (length flags) (length flags + post) (omega arith) in
          let bound = kept-most pre post preset (flags ++ true ∷ []) q xs a (length xs) (omega (arith, end, long)) in
          subst (λ (c : Bool). Claim pre post preset flags true q xs a b c) (sym not_passed)
          (omega (arith, bound, at_most, ap (count q) (drop_all (length xs) xs (omega arith))))
    ]

pub ring-push : (pre post preset : ℕ) (flags : List Bool) (f : Bool) (q : FrameName → Bool) (xs : List FrameName) (a : FrameName) → length flags ≡ length xs
    → Claim pre post preset flags f q xs a (is_trigger post preset (flags ++ f ∷ []) (length flags))
    (is_passed pre post preset (flags ++ f ∷ []) (length flags))
ring-push pre post preset flags false q xs a long = quiet pre post preset flags false q xs a long (triggers-quiet post preset flags)
ring-push pre post preset flags true q xs a long =
    elim (cases_Bool (is_complete post preset flags)) [
      | inl whole ↦ quiet pre post preset flags true q xs a long (triggers-complete post preset flags true whole)
      | inr open_still ↦ elim (cases_lt (length flags) (end_of_last post (triggers post preset flags))) [
        | inl inside ↦ quiet pre post preset flags true q xs a long (triggers-inside post preset flags true inside)
        | inr outside ↦
            fired pre post preset flags q xs a long (triggers-fired post preset flags outside open_still)
            (is_trigger post preset (flags ++ true ∷ []) (length flags))
      ]
    ]

-- of nothing nothing is kept
pub kept-nothing : {X : Type 0} (pre post preset : ℕ) → kept {X = X} pre post preset [] [] ≡ []
kept-nothing {X} pre post preset =
    let end : ℕ = end_of_last post (triggers post preset []) in
    elim (ltb 0 end || is_complete post preset []) as (λ b. cond {A = List X} b [] (drop (max end (0 - pre)) []) ≡ []) [
      | true ↦ refl
      | false ↦ drop_all (max end (0 - pre)) [] (omega arith)
    ]
