-- The blocks of the frames, after one more entry.
use Rattle.std.proofs.Common.{◌≡◌, ◌≢◌, ◌≤◌, ◌<◌, ◌∙◌, ℕ, ◌+◌, ◌*◌, true, false, Bool, List, [], ◌∷◌, ◌++◌, Some, length, set, refl, sym, ap, subst, ltb}
use Rattle.std.proofs.Common.{arith, mul-le-mul_right, inl, inr, ◌⊎◌}
use Rattle.std.specs.Prelude.{slice_index_or}
use Rattle.std.proofs.lemmas.List.{length-set, get_or-set_same, get_or-set_other}
use Rattle.std.proofs.lemmas.Bool.{cases_Bool, ltb-true, ltb-false, true≢false}
use Rattle.nd_base.specs.declared.frame.FrameName.{FrameName}
use Rattle.flow_journal.specs.declared.entry.Entry.{Entry}
use Rattle.flow_journal.specs.declared.entry.Entry.TheVariants.{Reclaim}
use Rattle.flow_journal.specs.Setting.{Setting}
use Rattle.flow_journal.specs.Pasts.{Past, frame, same}
use Rattle.flow_journal.specs.Hands.{hand, standing, takes_up, let_go}
use Rattle.flow_journal.specs.Accounts.{block_of, granted_for}
use Rattle.flow_journal.specs.Histories.{is_legal}
use Rattle.flow_journal.proofs.Steps.{same_refl, same-true}
use Rattle.std.specs.List.{flat_map}
use Rattle.std.specs.Prelude.{if◌then◌else◌}
use Rattle.std.proofs.Common.{length-append}
use Rattle.std.proofs.lemmas.List.{append-nil}
use Rattle.flow_journal.proofs.FrameBlocks.{grant-once, block-granted, none_long}
use Rattle.flow_journal.proofs.Hands.{stood}
use Rattle.run_course.specs.FrameBlocks.{place_of, AreBlocks}

-- no two frames of the run have one place
apart : (frames m i n j : ℕ) → i < frames → m < n → m * frames + i ≢ n * frames + j
apart frames m i n j hi lt e = absurd (omega (arith, e, hi, mul-le-mul_right {m = m + 1} {n = n} frames (omega (arith, lt))))

-- these two are one place's
pub one-place : (s : Setting) (a c : FrameName) → a.index < length s.ids → c.index < length s.ids → place_of s a ≡ place_of s c → a ≡ c
one-place s a c ha hc e = elim (cases_Bool (ltb a.maker c.maker)) [
  | inl less ↦ absurd (apart (length s.ids) a.maker a.index c.maker c.index ha (ltb-true a.maker c.maker less) e)
  | inr more ↦ elim (cases_Bool (ltb c.maker a.maker)) [
    | inl less ↦ absurd (apart (length s.ids) c.maker c.index a.maker a.index hc (ltb-true c.maker a.maker less) (sym e))
    | inr none ↦
        let makers : a.maker ≡ c.maker = omega (arith, ltb-false a.maker c.maker more, ltb-false c.maker a.maker none) in
        let products : a.maker * length s.ids ≡ c.maker * length s.ids = ap (λ m. m * length s.ids) makers in
        let indices : a.index ≡ c.index = omega (arith, e, products) in
        ap (λ m. frame m a.index) makers ∙ ap (frame c.maker) indices
  ]
]

pub blocks-granted : (s : Setting) (P Q : Past) (bs : List ℕ) (a : FrameName) (b : ℕ) → AreBlocks s P bs → a.index < length s.ids → a.maker ≤ length s.nodes
    → block_of Q a ≡ b ∷ [] → ((c : FrameName) → same c a ≡ false → block_of Q c ≡ block_of P c) → AreBlocks s Q (set bs (place_of s a) b)
blocks-granted s P Q bs a b are within maker is others =
    record {
      all = length-set bs (place_of s a) b ∙ are.all;
      each = λ c d has. by c d has (cases_Bool (same c a));
    } where
      room : place_of s a < length bs
      room = omega (arith, are.all, within, mul-le-mul_right {m = a.maker} {n = length s.nodes} (length s.ids) maker)

      by : (c : FrameName) (d : ℕ) → block_of Q c ≡ d ∷ [] → (same c a ≡ true) ⊎ (same c a ≡ false)
          → (c.index < length s.ids) × (slice_index_or (set bs (place_of s a) b) (place_of s c) 0 ≡ d)
      by c d has (inl this) =
          let e : c ≡ a = same-true c a this in
          let f : b ∷ [] ≡ d ∷ [] = sym is ∙ (ap (block_of Q) (sym e) ∙ has) in
          let g : b ≡ d = cc in (
            subst (λ (x : FrameName). x.index < length s.ids) (sym e) within,
            ap (λ x. slice_index_or (set bs (place_of s a) b) (place_of s x) 0) e ∙ (get_or-set_same bs (place_of s a) b 0 room ∙ g),
          )
      by c d has (inr other) =
          let was = are.each c d (sym (others c other) ∙ has) in
          let ne : place_of s c ≢ place_of s a = λ e. true≢false (sym (ap (λ x. same x a) (one-place s c a was.0 within e) ∙ same_refl a) ∙ other) in
          (was.0, get_or-set_other bs (place_of s a) (place_of s c) b 0 ne ∙ was.1)

fewer-flat : (f : Entry → List ℕ) (r : ℕ) (es : List Entry) (b : ℕ) → length (flat_map f es) ≤ 1 → flat_map f (let_go r es) ≡ b ∷ [] → flat_map f es ≡ b ∷ []
fewer-flat f r [] b few is = is
fewer-flat f r (e ∷ es) b few is = by (takes_up r e) (f e) refl refl (fewer-flat f r es b) where
  by : (t : Bool) (xs : List ℕ) → takes_up r e ≡ t → f e ≡ xs
      → (length (flat_map f es) ≤ 1 → flat_map f (let_go r es) ≡ b ∷ [] → flat_map f es ≡ b ∷ []) → f e ++ flat_map f es ≡ b ∷ []
  by true xs up one more =
      let rest : flat_map f es ≡ b ∷ [] = sym (ap (λ (t : Bool). flat_map f (if t then es else e ∷ let_go r es)) up) ∙ is in
      let none : f e ≡ [] = none_long (f e) (omega (arith, few, length-append (f e) (flat_map f es), ap length rest)) in
      ap (λ xs. xs ++ flat_map f es) none ∙ rest
  by false [] up one more =
      let rest : flat_map f (let_go r es) ≡ b ∷ [] =
      sym (ap (λ xs. xs ++ flat_map f (let_go r es)) one) ∙ (sym (ap (λ (t : Bool). flat_map f (if t then es else e ∷ let_go r es)) up) ∙ is) in
      ap (λ xs. xs ++ flat_map f es) one ∙ more (omega (arith, few, length-append (f e) (flat_map f es))) rest
  by false (x ∷ xs) up one more =
      let whole : (x ∷ xs) ++ flat_map f (let_go r es) ≡ b ∷ [] =
      sym (ap (λ xs. xs ++ flat_map f (let_go r es)) one) ∙ (sym (ap (λ (t : Bool). flat_map f (if t then es else e ∷ let_go r es)) up) ∙ is) in
      let first : x ≡ b = cc in
      let tail : xs ++ flat_map f (let_go r es) ≡ [] = cc in
      let none : xs ≡ [] = none_long xs (omega (arith, ap length tail, length-append xs (flat_map f (let_go r es)))) in
      let gone : flat_map f es ≡ [] = none_long (flat_map f es) (omega (arith, few, length-append (f e) (flat_map f es), ap length one)) in
      ap (λ ys. ys ++ flat_map f es) one ∙ (ap (λ ys. (x ∷ xs) ++ ys) gone ∙ (append-nil (x ∷ xs) ∙ (ap (λ ys. x ∷ ys) none ∙ ap (λ y. y ∷ []) first)))

pub blocks-reclaimed : (s : Setting) (P : Past) (r : ℕ) (e : Entry) (bs : List ℕ) → AreBlocks s P bs → is_legal s P ≡ true → is_legal s (Reclaim r ∷ P) ≡ true
    → hand r P ≡ Some e → AreBlocks s (Reclaim r ∷ P) bs
blocks-reclaimed s P r e bs are was legal held =
    record {
      all = are.all;
      each = λ a b has. are.each a b (before a b has);
    } where
      before : (a : FrameName) (b : ℕ) → block_of (Reclaim r ∷ P) a ≡ b ∷ [] → block_of P a ≡ b ∷ []
      before a b has =
          let now : flat_map (granted_for a) (standing (Reclaim r ∷ P)) ≡ b ∷ [] = sym (block-granted s (Reclaim r ∷ P) a legal) ∙ has in
          let left : flat_map (granted_for a) (let_go r (standing P)) ≡ b ∷ [] = sym (ap (flat_map (granted_for a)) (stood r e P held)) ∙ now in
          block-granted s P a was ∙ fewer-flat (granted_for a) r (standing P) b (grant-once s P a was) left

-- of a frame that has a block
pub found-block : (s : Setting) (P : Past) (bs : List ℕ) (a : FrameName) (b : ℕ) → AreBlocks s P bs → block_of P a ≡ b ∷ []
    → slice_index_or bs (place_of s a) 0 ≡ b
found-block s P bs a b are has = (are.each a b has).1

-- no frame's block changes
pub blocks-kept : (s : Setting) (P Q : Past) (bs : List ℕ) → AreBlocks s P bs → ((a : FrameName) → block_of Q a ≡ block_of P a) → AreBlocks s Q bs
blocks-kept s P Q bs are same = record { all = are.all; each = λ a b has. are.each a b (sym (same a) ∙ has) }
