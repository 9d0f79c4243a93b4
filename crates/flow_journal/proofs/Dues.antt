-- The next piece of a file node, by counts.
use Rattle.std.proofs.Common.{◌≡◌, ℕ, zero, suc, ◌+◌, ◌-◌, ◌*◌, ◌/◌, ◌%◌, ◌<◌, ◌≤◌, ◌⊎◌, ◌↔◌, min, Bool, true, false, not, ◌||◌, leb, List, [], ◌∷◌, ◌++◌}
use Rattle.std.proofs.Common.{length, take, drop, refl, sym, ap, ◌∙◌, Some, inl, inr, arith, length-append}
use Rattle.std.specs.Prelude.{slice_get}
use Rattle.std.proofs.lemmas.Bool.{leb-true, le-leb}
use Rattle.std.proofs.lemmas.List.{length-take, length-drop}
use Rattle.std.proofs.Math.Seq.{take-append_seam, drop-append_seam}
use Rattle.std.proofs.Math.Nat.{add-mul, mod-lt}
use Rattle.std.proofs.lemmas.Nat.{div-add-mod'}
use Rattle.nd_base.specs.declared.frame.FrameName.{FrameName}
use Rattle.flow_journal.specs.Setting.{Setting, Work, Saves, node}
use Rattle.flow_journal.specs.Pasts.{Past}
use Rattle.flow_journal.specs.Ended.{is_settled}
use Rattle.flow_journal.specs.Puts.{puts}
use Rattle.flow_journal.specs.Unsaved.{standing_saves, unsaved, is_file, group_of, is_due}
use Rattle.flow_journal.specs.Histories.{is_legal}
use Rattle.flow_journal.specs.RowFacts.{IsFirstOf}
use Rattle.flow_journal.specs.DueLaws.{saved_count, group_at, IsPlacedPiece, DueLaws}
use Rattle.flow_journal.proofs.Rows.{save-facts}
use Rattle.flow_journal.proofs.Changes.{save_laws}

-- LISTS

get-drop : {X : Type 0} (n i : ℕ) (xs : List X) → slice_get (drop n xs) i ≡ slice_get xs (i + n)
get-drop zero i xs = ap (slice_get xs) (let e : i ≡ i + 0 = omega arith in e)
get-drop (suc n) i [] = refl
get-drop (suc n) i (x ∷ xs) = get-drop n i xs ∙ ap (slice_get (x ∷ xs)) (let e : suc (i + n) ≡ i + suc n = omega arith in e)

get-take : {X : Type 0} (n i : ℕ) (xs : List X) → i < n → slice_get (take n xs) i ≡ slice_get xs i
get-take zero i xs h = absurd (omega (arith, h))
get-take (suc n) i [] h = refl
get-take (suc n) zero (x ∷ xs) h = refl
get-take (suc n) (suc i) (x ∷ xs) h = get-take n i xs (omega (arith, h))

first-get : (a : FrameName) (xs : List FrameName) → IsFirstOf a xs ↔ (slice_get xs 0 ≡ Some a)
first-get a [] = ((λ h. cc), (λ h. cc))
first-get a (x ∷ xs) = ((λ h. let e : x ∷ xs ≡ a ∷ h.0 = h.1 in cc), (λ h. (xs, (let e : Some x ≡ Some a = h in cc))))

-- PIECES

parts : (s : Setting) (v : ℕ) (P : Past) → is_legal s P ≡ true → is_file (node s v).work ≡ true → puts v P ≡ standing_saves v P ++ unsaved s v P
parts = save_laws.front

next : (s : Setting) (v : ℕ) (a : FrameName) (P : Past) → is_legal s P ≡ true → is_file (node s v).work ≡ true
    → IsFirstOf a (unsaved s v P) ↔ (slice_get (puts v P) (saved_count v P) ≡ Some a)
next s v a P legal file =
    let n : ℕ = saved_count v P in
    let left : drop n (puts v P) ≡ unsaved s v P = ap (drop n) (parts s v P legal file) ∙ drop-append_seam (standing_saves v P) (unsaved s v P) in
    let place : n ≡ 0 + n = omega arith in
    let at : slice_get (puts v P) n ≡ slice_get (unsaved s v P) 0 =
    ap (slice_get (puts v P)) place ∙ (sym (get-drop n 0 (puts v P)) ∙ ap (λ (xs : List FrameName). slice_get xs 0) left) in
    let here = first-get a (unsaved s v P) in
    ((λ h. at ∙ here.0 h), (λ h. here.1 (sym at ∙ h)))

placed : (s : Setting) (v : ℕ) (whole : Bool) (count : ℕ) (a : FrameName) (P : Past) → (node s v).work ≡ Saves whole count → 0 < count → is_legal s P ≡ true
    → IsFirstOf a (unsaved s v P) → IsPlacedPiece count (saved_count v P / count) (saved_count v P % count) a (puts v P)
placed s v whole count a P work some legal h =
    let n = saved_count v P in
    let below : n % count < count = mod-lt n some in
    let whole_is : n % count + (n / count) * count ≡ n = omega (arith, div-add-mod' n count) in
    let at : slice_get (puts v P) n ≡ Some a = (next s v a P legal (ap is_file work)).0 h in
    record {
      within = below;
      is =
          get-take count (n % count) (drop ((n / count) * count) (puts v P)) below
          ∙ (get-drop ((n / count) * count) (n % count) (puts v P) ∙ (ap (slice_get (puts v P)) whole_is ∙ at));
    }

whole-length : (count g : ℕ) (xs : List FrameName) → ((g + 1) * count ≤ length xs) ↔ (length (group_at count g xs) ≡ count)
whole-length zero g xs = ((λ h. refl), (λ h. omega arith))
whole-length (suc c) g xs =
    let count = suc c in
    let long : length (group_at count g xs) ≡ min count (length xs - g * count) =
    length-take count (drop (g * count) xs) ∙ ap (min count) (length-drop (g * count) xs) in
    let next_group : (g + 1) * count ≡ g * count + 1 * count = add-mul g 1 count in
    let one : 1 * count ≡ count = omega arith in
    ((λ h. long ∙ omega (arith, h, next_group, one)), (λ h. omega (arith, next_group, one, sym long ∙ h)))

due_cases : (whole_groups settled ready : Bool) → ((not whole_groups || settled || ready) ≡ true) ↔ ((whole_groups ≡ false) ⊎ (settled ≡ true) ⊎ (ready ≡ true))
due_cases false settled ready = ((λ h. inl refl), (λ h. refl))
due_cases true true ready = ((λ h. inr (inl refl)), (λ h. refl))
due_cases true false ready = ((λ h. inr (inr h)), due_back)
  where
    due_back : ((true ≡ false) ⊎ (false ≡ true) ⊎ (ready ≡ true)) → ready ≡ true
    due_back (inl never) = cc
    due_back (inr (inl never)) = cc
    due_back (inr (inr h)) = h

due : (s : Setting) (v : ℕ) (whole : Bool) (count : ℕ) (P : Past) → (node s v).work ≡ Saves whole count
    → (is_due (node s v).work v P ≡ true) ↔ ((whole ≡ false) ⊎ (is_settled v P ≡ true) ⊎ (length (group_at count (saved_count v P / count) (puts v P)) ≡ count))
due s v whole count P work =
    let ready = leb ((saved_count v P / count + 1) * count) (length (puts v P)) in
    let cases = due_cases whole (is_settled v P) ready in
    let long = whole-length count (saved_count v P / count) (puts v P) in (
      (λ h. elim (cases.0 (ap (λ (w : Work). is_due w v P) (sym work) ∙ h)) [
        | inl at_once ↦ inl at_once
        | inr (inl settled) ↦ inr (inl settled)
        | inr (inr r) ↦ inr (inr (long.0 (leb-true _ _ r)))
      ]),
      (λ h. ap (λ (w : Work). is_due w v P) work ∙ cases.1 (elim h [
        | inl at_once ↦ inl at_once
        | inr (inl settled) ↦ inr (inl settled)
        | inr (inr l) ↦ inr (inr (le-leb _ _ (long.1 l)))
      ])),
    )

pub due_laws : DueLaws
due_laws = record {
  saved = λ s v P legal file. sym (ap (take (saved_count v P)) (parts s v P legal file) ∙ take-append_seam (standing_saves v P) (unsaved s v P));
  rest = λ s v P legal file. sym (ap (drop (saved_count v P)) (parts s v P legal file) ∙ drop-append_seam (standing_saves v P) (unsaved s v P));
  counts = λ s v P legal file. ap length (parts s v P legal file) ∙ length-append (standing_saves v P) (unsaved s v P);
  next = next;
  placed = placed;
  due = due;
  group = λ s r v m k g whole count P work h. (save-facts s r v m k g P h).group ∙ ap (λ (w : Work). group_of w (saved_count v P)) work;
}
