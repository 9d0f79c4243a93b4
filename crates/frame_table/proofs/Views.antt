-- What contracts see of the places of a table.
use Rattle.std.proofs.Common.{◌≡◌, ℕ, Bool, ◌<◌, List, ◌+◌, ◌-◌, length, map, slice_set, slice_index_or, Option, Some, None, arith, ap, ◌∙◌, sym, refl}
use Rattle.std.proofs.Common.{subst, inl, inr}
use Rattle.std.proofs.lemmas.List.{map-set, map_push, length-map, set-get_or}
use Rattle.std.proofs.Math.ListN.{get_or-map}
use Rattle.std.proofs.lemmas.List.{get_or_read}
use Rattle.nd_base.specs.declared.frame.FrameName.{FrameName}
use Rattle.nd_base.specs.Parts.{Parts, SplitsOne, Unites}
use Rattle.frame_table.specs.declared.place.Place.{Place}
use Rattle.frame_table.specs.declared.place.Place.TheVariants.{Empty as no_place}
use Rattle.frame_table.specs.Kept.{Kept, Empty, kept_at, with_kept, one_less, together, IsSized, IsLeft, IsRefused, BecomesOther, Frame, Storage}
use Rattle.frame_table.specs.Places.{kept}

module _ {F B O : Type 0} (name_of : F → FrameName) (parts : F → Option Parts) (bytes_of : B → ℕ) (is_used : B
    → Bool) (ps : List (Place F B O)) (t : List Kept) where
  -- the place that was read shows what is kept there
  pub kept_read : (i : ℕ) (p : Place F B O) → map (kept name_of parts bytes_of is_used) ps ≡ t → i < length t → p ≡ slice_index_or ps i p
      → kept_at t i ≡ kept name_of parts bytes_of is_used p
  kept_read i p shown within read =
      let seen : Place F B O → Kept = kept name_of parts bytes_of is_used in
      let here : i < length ps = omega (arith, simp length-map at (ap length shown)) in
      ap (λ (u : List Kept). kept_at u i) (sym shown) ∙ (get_or-map seen ps i no_place ∙ ap seen (sym (get_or_read ps i p here read no_place)))

  -- a place was written
  pub kept_put : (i : ℕ) (q : Place F B O) → map (kept name_of parts bytes_of is_used) ps ≡ t
      → map (kept name_of parts bytes_of is_used) (slice_set ps i q) ≡ with_kept t i (kept name_of parts bytes_of is_used q)
  kept_put i q shown =
      let seen : Place F B O → Kept = kept name_of parts bytes_of is_used in
      map-set seen ps i q ∙ ap (λ (u : List Kept). slice_set u i (seen q)) shown

  -- the place that was read was changed
  pub kept_changed : (change : Kept → Kept) (i : ℕ) (p q : Place F B O) → map (kept name_of parts bytes_of is_used) ps ≡ t → i < length t
      → p ≡ slice_index_or ps i p
      → kept name_of parts bytes_of is_used q ≡ change (kept name_of parts bytes_of is_used p)
      → map (kept name_of parts bytes_of is_used) (slice_set ps i q) ≡ with_kept t i (change (kept_at t i))
  kept_changed change i p q shown within read changed =
      kept_put i q shown ∙ ap (λ (k : Kept). with_kept t i k) (changed ∙ ap change (sym (kept_read i p shown within read)))

  -- what a place keeps where no storage of the size could be made
  pub kept_left : (size i : ℕ) (p q : Place F B O) → map (kept name_of parts bytes_of is_used) ps ≡ t → i < length t → p ≡ slice_index_or ps i p
      → IsLeft size (kept name_of parts bytes_of is_used p) (kept name_of parts bytes_of is_used q)
      → IsRefused size i t (map (kept name_of parts bytes_of is_used) (slice_set ps i q))
  kept_left size i p q shown within read left =
      let seen : Place F B O → Kept = kept name_of parts bytes_of is_used in
      (seen q, subst (λ (k : Kept). IsLeft size k (seen q)) (sym (kept_read i p shown within read)) left, kept_put i q shown)

-- a frame that tells the size stays as it is
not_other : (size : ℕ) (k l : Kept) → IsSized size k → BecomesOther size k l → ⊥
not_other size (Frame a (Some p)) (Storage n used) sized other = other.1 (sym other.0.1 ∙ sized)
not_other size (Frame a None) (Storage n used) sized other = sized
not_other size Empty (Storage n used) sized other = other.0
not_other size (Storage m u) (Storage n used) sized other = other.0
not_other size k Empty sized other = other
not_other size k (Frame a p) sized other = other

sized_stays : (size : ℕ) (k l : Kept) → IsSized size k → IsLeft size k l → l ≡ k
sized_stays size k l sized left = elim left [ inl same ↦ same | inr other ↦ absurd (not_other size k l sized other) ]

pub refused_is_same : (size i : ℕ) (t u : List Kept) → IsSized size (kept_at t i) → IsRefused size i t u → u ≡ t
refused_is_same size i t u sized refused =
    refused.2 ∙ (ap (λ (k : Kept). with_kept t i k) (sized_stays size (kept_at t i) refused.0 sized refused.1) ∙ set-get_or t i Empty)

-- parts that agree in all numbers are the same
same_parts : (p q : Parts) → q.block ≡ p.block → q.size ≡ p.size → q.here ≡ p.here → Some q ≡ Some p
same_parts p q block size here =
    let told : ℕ → ℕ → ℕ → Option Parts = λ b z n. Some (record { block = b; size = z; here = n }) in
    ap (λ (b : ℕ). told b q.size q.here) block ∙ (ap (λ (z : ℕ). told p.block z q.here) size ∙ ap (λ (n : ℕ). told p.block p.size n) here)

-- what a frame keeps when one part is given away
pub one_stays : (p q one : Option Parts) → SplitsOne p q one → q ≡ one_less p
one_stays None None None s = refl
one_stays (Some p) (Some q) (Some one) s = same_parts (record p { here = p.here - 1 }) q s.2 s.4 (omega (arith, s.0))
one_stays None None (Some one) s = absurd s
one_stays None (Some q) one s = absurd s
one_stays (Some p) None one s = absurd s
one_stays (Some p) (Some q) None s = absurd s

-- what it has when parts have come back
pub all_stay : (p one q : Option Parts) → Unites p one q → q ≡ together p one
all_stay None None None s = refl
all_stay (Some p) (Some one) (Some q) s = same_parts (record p { here = p.here + one.here }) q s.1 s.2 s.0
all_stay None None (Some q) s = absurd s
all_stay None (Some one) q s = absurd s
all_stay (Some p) None q s = absurd s
all_stay (Some p) (Some one) None s = absurd s

pub ruleset views = (map-set, map_push, length-map)
