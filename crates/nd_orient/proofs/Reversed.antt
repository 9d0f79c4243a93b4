-- Sixteen bytes with their samples in reverse.
use Rattle.std.proofs.Common.{◌≡◌, ℕ, ◌+◌, ◌-◌, ◌*◌, ◌%◌, ◌<◌, ◌≤◌, List, length, map, drop, get_or, ◌⊎◌, inl, inr, ap, sym, ◌∙◌, arith}
use Rattle.std.specs.List.{range_with_len}
use Rattle.std.proofs.lemmas.Grind.{same_number_lists}
use Rattle.std.proofs.lemmas.List.{length-take-le, length-drop, length-map, get_or-take, get_or-drop}
use Rattle.std.proofs.lemmas.List.FromFn.{get_or-map-range_with_len}
use Rattle.std.proofs.lemmas.Nat.{div-mul-add, mod-mul-add}
use Rattle.std.proofs.lemmas.Simd.{map-map}
use Rattle.nd_orient.specs.Walk.{cell, turned}
use Rattle.nd_orient.proofs.Parts.{cell_end}

-- there are sixteen
pub whole : (w n : ℕ) (bytes out : List ℕ) → out ≡ map (λ i. get_or bytes i 0) (map (turned w n) (range_with_len 0 16)) → length out ≡ 16
whole w n bytes out is = ap length is ∙ length-map (map (turned w n) (range_with_len 0 16)) (λ i. get_or bytes i 0)

module _ (w n : ℕ) (bytes out : List ℕ) (size : n * w ≡ 16) (long : 16 ≤ length bytes)
    (is : out ≡ map (λ i. get_or bytes i 0) (map (turned w n) (range_with_len 0 16))) where
  byte_at : (i : ℕ) → i < 16 → get_or out i 0 ≡ get_or bytes (turned w n i) 0
  byte_at i h =
      ap (λ xs. get_or xs i 0) (is ∙ map-map (λ i. get_or bytes i 0) (turned w n) (range_with_len 0 16))
      ∙ get_or-map-range_with_len (λ i. get_or bytes (turned w n i) 0) 0 16 i i 0 h (omega arith)

  -- sample k is the k-th from the end
  pub cell-reversed : (k : ℕ) → k < n → cell w out k ≡ cell w bytes (n - 1 - k)
  cell-reversed k h =
      let end = cell_end k n w h in
      let back : n - 1 - k < n = omega arith in
      let back_end = cell_end (n - 1 - k) n w back in
      let all = whole w n bytes out is in
      let rest = length-drop (k * w) out in
      let rest_back = length-drop ((n - 1 - k) * w) bytes in
      let here : length (cell w out k) ≡ w = length-take-le w (drop (k * w) out) (omega (arith, end, size)) in
      let there : length (cell w bytes (n - 1 - k)) ≡ w = length-take-le w (drop ((n - 1 - k) * w) bytes) (omega (arith, back_end, size)) in
      same_number_lists (cell w out k) (cell w bytes (n - 1 - k)) (here ∙ sym there) (λ b g.
      let few : b < w = omega (arith, here, g) in
      get_or-take w (drop (k * w) out) b 0 few ∙ get_or-drop (k * w) out b 0
      ∙ byte_at (k * w + b) (omega (arith, end, size, few))
      ∙ ap (λ m. get_or bytes ((n - 1 - m) * w + (k * w + b) % w) 0) (div-mul-add k w b few)
      ∙ ap (λ m. get_or bytes ((n - 1 - k) * w + m) 0) (mod-mul-add k w b few)
      ∙ sym (get_or-take w (drop ((n - 1 - k) * w) bytes) b 0 few ∙ get_or-drop ((n - 1 - k) * w) bytes b 0))

-- the bytes of each of the three widths are those
pub reversed_by : (w n : ℕ) (bytes out : List ℕ) → n * w ≡ 16 → (w ≡ 1) ⊎ ((w ≡ 2) ⊎ (w ≡ 4))
    → (w ≡ 1 → out ≡ map (λ i. get_or bytes i 0) (map (turned 1 16) (range_with_len 0 16)))
    → (w ≡ 2 → out ≡ map (λ i. get_or bytes i 0) (map (turned 2 8) (range_with_len 0 16)))
    → (w ≡ 4 → out ≡ map (λ i. get_or bytes i 0) (map (turned 4 4) (range_with_len 0 16)))
    → out ≡ map (λ i. get_or bytes i 0) (map (turned w n) (range_with_len 0 16))
reversed_by w n bytes out size width one two four =
    let f : ℕ → ℕ = λ i. get_or bytes i 0 in
    elim width [
      | inl e ↦
          let count : 16 ≡ n = (let s : n * 1 ≡ 16 = rw (← e) size in omega (arith, s)) in
          one e ∙ ap (λ v. map f (map (turned v 16) (range_with_len 0 16))) (sym e) ∙ ap (λ m. map f (map (turned w m) (range_with_len 0 16))) count
      | inr (inl e) ↦
          let count : 8 ≡ n = (let s : n * 2 ≡ 16 = rw (← e) size in omega (arith, s)) in
          two e ∙ ap (λ v. map f (map (turned v 8) (range_with_len 0 16))) (sym e) ∙ ap (λ m. map f (map (turned w m) (range_with_len 0 16))) count
      | inr (inr e) ↦
          let count : 4 ≡ n = (let s : n * 4 ≡ 16 = rw (← e) size in omega (arith, s)) in
          four e ∙ ap (λ v. map f (map (turned v 4) (range_with_len 0 16))) (sym e) ∙ ap (λ m. map f (map (turned w m) (range_with_len 0 16))) count
    ]
