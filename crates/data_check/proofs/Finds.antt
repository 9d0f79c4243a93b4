-- The first of several files that isn't as it is to be.
use Rattle.std.proofs.Common.{◌≡◌, ℕ, zero, suc, ◌+◌, ◌-◌, ◌<◌, ◌≤◌, true, false, List, [], ◌∷◌, ◌++◌, Option, None, Some, refl, sym, ap, subst, ◌∙◌}
use Rattle.std.proofs.Common.{arith, append_assoc}
use Rattle.std.specs.Prelude.{All, is_some}
use Rattle.std.specs.List.{flat_map, range_with_len}
use Rattle.std.proofs.lemmas.List.Concat.{flat_map-append}
use Rattle.std.proofs.lemmas.List.Elements.{All-nil, All-append}
use Rattle.edge_traits.specs.Files.{Files}
use Rattle.data_check.specs.ComparedFiles.{ComparedFile, IsSame, EndsAt, IsDifference, IsFound}
use Rattle.data_check.specs.declared.difference.Difference.{Difference}

-- the numbers up to one of them, it, and those behind it
pub range-parts : (a m n : ℕ) → range_with_len a (m + n) ≡ range_with_len a m ++ range_with_len (a + m) n
range-parts a zero n =
    let none : 0 + n ≡ n = omega arith in
    let here : a ≡ a + 0 = omega arith in
    ap (range_with_len a) none ∙ ap (λ b. range_with_len b n) here
range-parts a (suc m) n =
    let more : suc m + n ≡ suc (m + n) = omega arith in
    let next : a + 1 + m ≡ a + suc m = omega arith in
    ap (range_with_len a) more ∙ ap (λ ks. a ∷ ks) (range-parts (a + 1) m n ∙ ap (λ b. range_with_len (a + 1) m ++ range_with_len b n) next)

module _ (told : Option Files) where
  module _ (Ends : ComparedFile → Type 0) where
    -- among others, where those before are as they are to be
    pub first-among : (before files after : List ComparedFile) → All (IsSame told) before → EndsAt told files Ends → EndsAt told (before ++ (files ++ after)) Ends
    first-among before files after same h =
        record {
          before = before ++ h.before;
          file = h.file;
          after = h.after ++ after;
          listed = ap (λ fs. before ++ (fs ++ after)) h.listed ∙ ap (λ fs. before ++ fs) (append_assoc h.before (h.file ∷ h.after) after)
              ∙ sym (append_assoc before h.before (h.file ∷ (h.after ++ after)));
          same = All-append (IsSame told) before h.before same h.same;
          ends = h.ends;
        }

    -- of two lists
    pub first-left : (files after : List ComparedFile) → EndsAt told files Ends → EndsAt told (files ++ after) Ends
    first-left files after h = first-among [] files after (All-nil (IsSame told)) h

    -- the first file alone
    pub first-one : (f : ComparedFile) → Ends f → EndsAt told (f ∷ []) Ends
    first-one f ends = record { before = []; file = f; after = []; listed = refl; same = All-nil (IsSame told); ends = ends }

  module _ (F : ℕ → List ComparedFile) where
    -- the files of all numbers from one on
    pub same-range : (a n : ℕ) → ((k : ℕ) → k < n → All (IsSame told) (F (a + k))) → All (IsSame told) (flat_map F (range_with_len a n))
    same-range a zero all = All-nil (IsSame told)
    same-range a (suc n) all =
        All-append (IsSame told) (F a) (flat_map F (range_with_len (a + 1) n))
        (subst (λ m. All (IsSame told) (F m)) (let e : a + 0 ≡ a = omega arith in e) (all 0 (omega arith)))
        (same-range (a + 1) n (λ k below. subst (λ m. All (IsSame told) (F m)) (let e : a + (k + 1) ≡ a + 1 + k = omega arith in e)
        (all (k + 1) (omega (arith, below)))))

    pub first-range : (Ends : ComparedFile → Type 0) (a n i : ℕ) → i < n → ((k : ℕ) → k < i → All (IsSame told) (F (a + k))) → EndsAt told (F (a + i)) Ends
        → EndsAt told (flat_map F (range_with_len a n)) Ends
    first-range Ends a n i below all h =
        let rest : ℕ = n - i - 1 in
        let whole : i + suc rest ≡ n = omega (arith, below) in
        let parts : flat_map F (range_with_len a n) ≡ flat_map F (range_with_len a i) ++ (F (a + i) ++ flat_map F (range_with_len (a + i + 1) rest)) =
        ap (λ m. flat_map F (range_with_len a m)) (sym whole) ∙ ap (flat_map F) (range-parts a i (suc rest))
        ∙ flat_map-append F (range_with_len a i) (range_with_len (a + i) (suc rest)) in
        subst (λ files. EndsAt told files Ends) (sym parts)
        (first-among Ends (flat_map F (range_with_len a i)) (F (a + i)) (flat_map F (range_with_len (a + i + 1) rest)) (same-range a i all) h)

    -- of all numbers below one
    pub same-below : (n : ℕ) → ((k : ℕ) → k < n → All (IsSame told) (F k)) → All (IsSame told) (flat_map F (range_with_len 0 n))
    same-below n all = same-range 0 n (λ k below. subst (λ m. All (IsSame told) (F m)) (let e : k ≡ 0 + k = omega arith in e) (all k below))

    pub first-below : (Ends : ComparedFile → Type 0) (n i : ℕ) → i < n → ((k : ℕ) → k < i → All (IsSame told) (F k)) → EndsAt told (F i) Ends
        → EndsAt told (flat_map F (range_with_len 0 n)) Ends
    first-below Ends n i below all h =
        first-range Ends 0 n i below (λ k low. subst (λ m. All (IsSame told) (F m)) (let e : k ≡ 0 + k = omega arith in e) (all k low))
        (subst (λ m. EndsAt told (F m) Ends) (let e : i ≡ 0 + i = omega arith in e) h)

    -- of all numbers from 1 on
    pub same-from_one : (n : ℕ) → ((k : ℕ) → 1 ≤ k → k < n + 1 → All (IsSame told) (F k)) → All (IsSame told) (flat_map F (range_with_len 1 n))
    same-from_one n all = same-range 1 n (λ k below. all (1 + k) (omega arith) (omega (arith, below)))

    pub first-from_one : (Ends : ComparedFile → Type 0) (n v : ℕ) → 1 ≤ v → v < n + 1 → ((k : ℕ) → 1 ≤ k → k < v → All (IsSame told) (F k))
        → EndsAt told (F v) Ends → EndsAt told (flat_map F (range_with_len 1 n)) Ends
    first-from_one Ends n v low high all h =
        let i : ℕ = v - 1 in
        let here : v ≡ 1 + i = omega (arith, low) in
        first-range Ends 1 n i (omega (arith, high, here)) (λ k below. all (1 + k) (omega arith) (omega (arith, below, here)))
        (subst (λ m. EndsAt told (F m) Ends) here h)

    pub found-from_one : (n v : ℕ) (o : Option Difference) → is_some o ≡ true → 1 ≤ v → v < n + 1 → ((k : ℕ) → 1 ≤ k → k < v → All (IsSame told) (F k))
        → IsFound told (F v) o → IsFound told (flat_map F (range_with_len 1 n)) o
    found-from_one n v None some low high all h = absurd (cc)
    found-from_one n v (Some d) some low high all h = first-from_one (IsDifference told d) n v low high all h

  -- nothing was found
  pub none-found : (files : List ComparedFile) (o : Option Difference) → is_some o ≡ false → IsFound told files o → All (IsSame told) files
  none-found files None none h = h
  none-found files (Some d) none h = absurd (cc)
