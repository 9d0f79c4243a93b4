-- Places and their indices.
use Rattle.std.proofs.Common.{◌≡◌, ℕ, zero, suc, ◌+◌, ◌*◌, ◌/◌, ◌%◌, ◌<◌, ◌||◌, List, [], ◌∷◌, length, drop, get_or, refl, ap, sym, ◌∙◌, arith, Bool}
use Rattle.std.proofs.Common.{true, nat_lt}
use Rattle.std.specs.List.{list_all}
use Rattle.std.proofs.Math.Nat.{suc-mul}
use Rattle.std.proofs.lemmas.Bool.{and_parts, ltb-true}
use Rattle.std.proofs.lemmas.Nat.{mod_below, div-mul-add, mod-mul-add, div-add-mod'}
use Rattle.nd_base.specs.declared.array.Dim.{Dim}
use Rattle.nd_base.specs.Places.{index_in, size_in}
use Rattle.nd_stats.specs.declared.spot.Spot.{Spot}
use Rattle.nd_stats.specs.Samples.{is_near_end, is_at_border}
use Rattle.nd_stats.specs.Spots.{IsSpot}

-- none of them is empty
abbrev pub AreSizes : List Dim → Type 0
AreSizes dims = list_all (λ d. nat_lt 0 d.size) dims ≡ true

pub border-step : (b : ℕ) (dims : List Dim) (i rest : ℕ) (d : Dim) → i < length dims
    → is_at_border b (drop i dims) rest
    ≡ (is_near_end b (get_or dims i d).size (rest % (get_or dims i d).size) || is_at_border b (drop (i + 1) dims) (rest / (get_or dims i d).size))
border-step b [] i rest d h = absurd (omega arith)
border-step b (x ∷ dims) zero rest d h = refl
border-step b (x ∷ dims) (suc i) rest d h = border-step b dims i rest d (omega arith)
    ∙ ap (λ n. is_near_end b (get_or dims i d).size (rest % (get_or dims i d).size) || is_at_border b (drop n (x ∷ dims)) (rest / (get_or dims i d).size))
    (let e : suc (i + 1) ≡ suc i + 1 = omega arith in e)

-- the next place of a line
pub next_mod : (p w : ℕ) → p % w + 1 < w → (p + 1) % w ≡ p % w + 1
next_mod p w h = let e : p + 1 ≡ p / w * w + (p % w + 1) = (let all = div-add-mod' p w in omega arith) in
    ap (λ n. n % w) e ∙ mod-mul-add (p / w) w (p % w + 1) h

pub next_div : (p w : ℕ) → p % w + 1 < w → (p + 1) / w ≡ p / w
next_div p w h = let e : p + 1 ≡ p / w * w + (p % w + 1) = (let all = div-add-mod' p w in omega arith) in
    ap (λ n. n / w) e ∙ div-mul-add (p / w) w (p % w + 1) h

-- a later place of a line, and the first place of the next one
pub along_div : (p w j : ℕ) → p % w + j < w → (p + j) / w ≡ p / w
along_div p w j h = let e : p + j ≡ p / w * w + (p % w + j) = (let all = div-add-mod' p w in omega arith) in
    ap (λ n. n / w) e ∙ div-mul-add (p / w) w (p % w + j) h

end_sum : (p w m : ℕ) → p % w + m ≡ w → p + m ≡ suc (p / w) * w + 0
end_sum p w m h = let all = div-add-mod' p w in let s = suc-mul (p / w) w in omega (arith, all, s, h)

end_mod : (p w m : ℕ) → 0 < w → p % w + m ≡ w → (p + m) % w ≡ 0
end_mod p w m some h = ap (λ n. n % w) (end_sum p w m h) ∙ mod-mul-add (suc (p / w)) w 0 some

end_div : (p w m : ℕ) → 0 < w → p % w + m ≡ w → (p + m) / w ≡ p / w + 1
end_div p w m some h = ap (λ n. n / w) (end_sum p w m h) ∙ div-mul-add (suc (p / w)) w 0 some ∙ (let e : suc (p / w) ≡ p / w + 1 = omega arith in e)

pub next_x : (dims : List Dim) (p : ℕ) → index_in dims 0 p + 1 < size_in dims 0 → index_in dims 0 (p + 1) ≡ index_in dims 0 p + 1
next_x [] p h = absurd (omega arith)
next_x (d ∷ dims) p h = next_mod p d.size h

pub next_y : (dims : List Dim) (p : ℕ) → index_in dims 0 p + 1 < size_in dims 0 → index_in dims 1 (p + 1) ≡ index_in dims 1 p
next_y [] p h = absurd (omega arith)
next_y (d ∷ dims) p h = ap (index_in dims 0) (next_div p d.size h)

pub next_row : (b : ℕ) (dims : List Dim) (p : ℕ) → index_in dims 0 p + 1 < size_in dims 0
    → is_at_border b (drop 1 dims) ((p + 1) / size_in dims 0) ≡ is_at_border b (drop 1 dims) (p / size_in dims 0)
next_row b [] p h = refl
next_row b (d ∷ dims) p h = ap (is_at_border b dims) (next_div p d.size h)

-- the border of a place by its index in dimension 0 and by its line
pub border_split : (b : ℕ) (dims : List Dim) (p : ℕ) → 0 < length dims
    → is_at_border b dims p ≡ (is_near_end b (size_in dims 0) (index_in dims 0 p) || is_at_border b (drop 1 dims) (p / size_in dims 0))
border_split b [] p h = absurd (omega arith)
border_split b (d ∷ dims) p h = refl

pub index_below : (dims : List Dim) (k p : ℕ) → AreSizes dims → index_in dims k p < size_in dims k
index_below [] k p sizes = omega arith
index_below (d ∷ dims) zero p sizes = mod_below p d.size (ltb-true 0 d.size (and_parts (nat_lt 0 d.size) (list_all (λ d. nat_lt 0 d.size) dims) sizes).0)
index_below (d ∷ dims) (suc k) p sizes = index_below dims k (p / d.size) (and_parts (nat_lt 0 d.size) (list_all (λ d. nat_lt 0 d.size) dims) sizes).1

first_some : (d : Dim) (dims : List Dim) → AreSizes (d ∷ dims) → 0 < d.size
first_some d dims sizes = ltb-true 0 d.size (and_parts (nat_lt 0 d.size) (list_all (λ d. nat_lt 0 d.size) dims) sizes).0

-- where the next line begins, of the same plane
pub line_x : (dims : List Dim) (p m : ℕ) → AreSizes dims → index_in dims 0 p + m ≡ size_in dims 0 → index_in dims 0 (p + m) ≡ 0
line_x [] p m sizes h = refl
line_x (d ∷ dims) p m sizes h = end_mod p d.size m (first_some d dims sizes) h

pub line_y : (dims : List Dim) (p m : ℕ) → AreSizes dims → index_in dims 0 p + m ≡ size_in dims 0 → index_in dims 1 p + 1 < size_in dims 1
    → index_in dims 1 (p + m) ≡ index_in dims 1 p + 1
line_y [] p m sizes h k = absurd (omega arith)
line_y (d ∷ dims) p m sizes h k = ap (index_in dims 0) (end_div p d.size m (first_some d dims sizes) h) ∙ next_x dims (p / d.size) k

pub line_row : (b : ℕ) (dims : List Dim) (p m : ℕ) (plane : Bool) → AreSizes dims → index_in dims 0 p + m ≡ size_in dims 0
    → index_in dims 1 p + 1 < size_in dims 1 → plane ≡ is_at_border b (drop 2 dims) (p / size_in dims 0 / size_in dims 1)
    → is_at_border b (drop 1 dims) ((p + m) / size_in dims 0) ≡ (is_near_end b (size_in dims 1) (index_in dims 1 p + 1) || plane)
line_row b [] p m plane sizes h k is = absurd (omega arith)
line_row b (d ∷ []) p m plane sizes h k is = absurd (omega arith)
line_row b (d ∷ e ∷ dims) p m plane sizes h k is =
    let line = p / d.size in
    ap (is_at_border b (e ∷ dims)) (end_div p d.size m (first_some d (e ∷ dims) sizes) h)
    ∙ ap (λ i. is_near_end b e.size i || is_at_border b dims ((line + 1) / e.size)) (next_mod line e.size k)
    ∙ ap (λ q. is_near_end b e.size (line % e.size + 1) || is_at_border b dims q) (next_div line e.size k)
    ∙ ap (λ r. is_near_end b e.size (line % e.size + 1) || r) (sym is)

pub line_plane : (b : ℕ) (dims : List Dim) (p m : ℕ) → AreSizes dims → index_in dims 0 p + m ≡ size_in dims 0
    → index_in dims 1 p + 1 < size_in dims 1
    → is_at_border b (drop 2 dims) ((p + m) / size_in dims 0 / size_in dims 1) ≡ is_at_border b (drop 2 dims) (p / size_in dims 0 / size_in dims 1)
line_plane b [] p m sizes h k = absurd (omega arith)
line_plane b (d ∷ []) p m sizes h k = absurd (omega arith)
line_plane b (d ∷ e ∷ dims) p m sizes h k =
    ap (λ q. is_at_border b dims (q / e.size)) (end_div p d.size m (first_some d (e ∷ dims) sizes) h)
    ∙ ap (is_at_border b dims) (next_div (p / d.size) e.size k)

-- along a line the plane stays
pub plane_along : (b : ℕ) (dims : List Dim) (p j : ℕ) → index_in dims 0 p + j < size_in dims 0
    → is_at_border b (drop 2 dims) ((p + j) / size_in dims 0 / size_in dims 1) ≡ is_at_border b (drop 2 dims) (p / size_in dims 0 / size_in dims 1)
plane_along b [] p j h = refl
plane_along b (d ∷ dims) p j h = ap (λ q. is_at_border b (drop 2 (d ∷ dims)) (q / size_in (d ∷ dims) 1)) (along_div p d.size j h)

-- the indices that a spot has
pub spot_x : (b : ℕ) (dims : List Dim) (s : Spot) (p : ℕ) → IsSpot b dims s → s.place ≡ p → s.x ≡ index_in dims 0 p
spot_x b dims s p is e = is.x ∙ ap (index_in dims 0) e

pub spot_y : (b : ℕ) (dims : List Dim) (s : Spot) (p : ℕ) → IsSpot b dims s → s.place ≡ p → s.y ≡ index_in dims 1 p
spot_y b dims s p is e = is.y ∙ ap (index_in dims 1) e
