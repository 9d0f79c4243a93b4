-- Samples side by side on a line.
use Rattle.std.proofs.Common.{◌≡◌, ℕ, zero, suc, ◌+◌, ◌/◌, ◌<◌, ◌≤◌, ◌||◌, List, [], ◌∷◌, ◌++◌, length, drop, filter, cond, refl, ap, sym, ◌∙◌, arith, ℤ}
use Rattle.std.proofs.Common.{pos, ◌+ℤ◌, Bool, true, false}
use Rattle.std.specs.Prelude.{if◌then◌else◌}
use Rattle.std.proofs.Common.{◌*◌, get_or, subst, Fits, w8}
use Rattle.std.proofs.Math.IntN.{+ℤ_idr}
use Rattle.std.proofs.lemmas.Bool.{ne_eqb, eq-eqb}
use Rattle.std.proofs.lemmas.List.{get_or-drop}
use Rattle.nd_base.specs.declared.array.Dim.{Dim}
use Rattle.nd_base.specs.declared.array.SampleType.{SampleType}
use Rattle.nd_base.specs.declared.graph.StatsRule.{StatsRule}
use Rattle.nd_base.specs.Samples.{width, numbers}
use Rattle.nd_base.specs.Places.{index_in, size_in}
use Rattle.lane_kernels.specs.Plain.{total, stored}
use Rattle.nd_stats.specs.Samples.{Sample, placed, sum_of, is_near_end, is_at_border, table}
use Rattle.nd_stats.specs.Measured.{count_where, value_where, has_index, is_on_border}
use Rattle.nd_stats.specs.Tallies.{HasRoom, HaveRoom, added_at}
use Rattle.nd_stats.specs.Running.{IsEdge, sums_along}
use Rattle.nd_stats.specs.declared.border.Edge.{Edge}
use Rattle.nd_stats.specs.MergingLaws.{length-placed}
use Rattle.nd_stats.proofs.Places.{next_x, next_y, next_row, border_split}
use Rattle.nd_stats.proofs.Sums.{sum_where-append, count-append}
use Rattle.nd_stats.proofs.Totals.{total_placed}
use Rattle.nd_stats.proofs.Tables.{get_or-table, set-table, length-table}
use Rattle.nd_stats.proofs.Bounds.{value_room, where_room}
use Rattle.nd_stats.proofs.Parts.{parts_small}
use Rattle.nd_stats.proofs.Pieces.{length-piece, piece-more}
use Rattle.nd_stats.proofs.Rooms.{profile_room}
use Rattle.nd_stats.proofs.Steps.{profile-more}

-- along a line the index in dimension 0 rises
pub x_along : (dims : List Dim) (p x j : ℕ) → index_in dims 0 p ≡ x → x + j < size_in dims 0 → index_in dims 0 (p + j) ≡ x + j
x_along dims p x zero at h = ap (index_in dims 0) (let e : p + 0 ≡ p = omega arith in e) ∙ at ∙ (let e : x ≡ x + 0 = omega arith in e)
x_along dims p x (suc j) at h =
    let before = x_along dims p x j at (omega arith) in
    ap (index_in dims 0) (let e : p + suc j ≡ p + j + 1 = omega arith in e) ∙ next_x dims (p + j) (omega (arith, before)) ∙ ap (λ n. n + 1) before
    ∙ (let e : x + j + 1 ≡ x + suc j = omega arith in e)

-- and whether the line is at the border stays
pub row_along : (b : ℕ) (dims : List Dim) (p x j : ℕ) → index_in dims 0 p ≡ x → x + j < size_in dims 0
    → is_at_border b (drop 1 dims) ((p + j) / size_in dims 0) ≡ is_at_border b (drop 1 dims) (p / size_in dims 0)
row_along b dims p x zero at h = ap (λ n. is_at_border b (drop 1 dims) (n / size_in dims 0)) (let e : p + 0 ≡ p = omega arith in e)
row_along b dims p x (suc j) at h =
    let before = x_along dims p x j at (omega arith) in
    ap (λ n. is_at_border b (drop 1 dims) (n / size_in dims 0)) (let e : p + suc j ≡ p + j + 1 = omega arith in e)
    ∙ next_row b dims (p + j) (omega (arith, before)) ∙ row_along b dims p x j at (omega arith)

pub border_along : (b : ℕ) (dims : List Dim) (p x j : ℕ) (line : Bool) → 0 < length dims → index_in dims 0 p ≡ x
    → line ≡ is_at_border b (drop 1 dims) (p / size_in dims 0) → x + j < size_in dims 0
    → is_at_border b dims (p + j) ≡ (is_near_end b (size_in dims 0) (x + j) || line)
border_along b dims p x j line some at row h =
    border_split b dims (p + j) some
    ∙ ap (λ i. is_near_end b (size_in dims 0) i || is_at_border b (drop 1 dims) ((p + j) / size_in dims 0)) (x_along dims p x j at h)
    ∙ ap (λ r. is_near_end b (size_in dims 0) (x + j) || r) (row_along b dims p x j at h ∙ sym row)

-- a test that gives the same at each of these places
filter_run : (q : Sample → Bool) (b : Bool) (p : ℕ) (vs : List ℤ)
    → ((j : ℕ) (v : ℤ) → j < length vs → (let s : Sample = record { place = p + j; value = v } in q s) ≡ b)
    → filter q (placed p vs) ≡ (if b then placed p vs else [])
filter_run q true p [] same = refl
filter_run q false p [] same = refl
filter_run q true p (v ∷ vs) same =
    let s : Sample = record { place = p; value = v } in
    let rest = placed (p + 1) vs in
    let here : q s ≡ true = ap (λ n. let t : Sample = record { place = n; value = v } in q t) (let e : p ≡ p + 0 = omega arith in e) ∙ same 0 v (omega arith) in
    ap (λ b. cond b (s ∷ filter q rest) (filter q rest)) here
    ∙ ap (λ l. s ∷ l) (filter_run q true (p + 1) vs (λ j w k. ap (λ n. let t : Sample = record { place = n; value = w } in
    q t) (let e : p + 1 + j ≡ p + suc j = omega arith in e) ∙ same (suc j) w (omega arith)))
filter_run q false p (v ∷ vs) same =
    let s : Sample = record { place = p; value = v } in
    let rest = placed (p + 1) vs in
    let here : q s ≡ false = ap (λ n. let t : Sample = record { place = n; value = v } in q t) (let e : p ≡ p + 0 = omega arith in e)
    ∙ same 0 v (omega arith) in
    ap (λ b. cond b (s ∷ filter q rest) (filter q rest)) here
    ∙ filter_run q false (p + 1) vs (λ j w k. ap (λ n. let t : Sample = record { place = n; value = w } in
    q t) (let e : p + 1 + j ≡ p + suc j = omega arith in e) ∙ same (suc j) w (omega arith))

count_if : (b : Bool) (p : ℕ) (vs : List ℤ) → length (if b then placed p vs else []) ≡ (if b then length vs else 0)
count_if true p vs = length-placed p vs
count_if false p vs = refl

sum_if : (b : Bool) (p : ℕ) (vs : List ℤ) → sum_of (λ s. s.value) (if b then placed p vs else []) ≡ (if b then total vs else pos 0)
sum_if true p vs = sym (total_placed p vs)
sum_if false p vs = refl

-- a run more, of samples that all pass a test or all don't
pub count_run : (q : Sample → Bool) (b : Bool) (xs : List Sample) (p : ℕ) (vs : List ℤ)
    → ((j : ℕ) (v : ℤ) → j < length vs → (let s : Sample = record { place = p + j; value = v } in q s) ≡ b)
    → count_where q (xs ++ placed p vs) ≡ count_where q xs + (if b then length vs else 0)
count_run q b xs p vs same = count-append q xs (placed p vs) ∙ ap (λ n. count_where q xs + n) (ap length (filter_run q b p vs same) ∙ count_if b p vs)

pub value_run : (q : Sample → Bool) (b : Bool) (xs : List Sample) (p : ℕ) (vs : List ℤ)
    → ((j : ℕ) (v : ℤ) → j < length vs → (let s : Sample = record { place = p + j; value = v } in q s) ≡ b)
    → value_where q (xs ++ placed p vs) ≡ value_where q xs +ℤ (if b then total vs else pos 0)
value_run q b xs p vs same = sum_where-append q (λ s. s.value) xs (placed p vs)
    ∙ ap (λ z. value_where q xs +ℤ z) (ap (sum_of (λ s. s.value)) (filter_run q b p vs same) ∙ sum_if b p vs)

-- the samples at the border with a run that lies there, and with one that doesn't
pub edge_in : (rule : StatsRule) (dims : List Dim) (xs : List Sample) (p : ℕ) (vs : List ℤ) (e f : Edge) → IsEdge rule dims xs e
    → ((j : ℕ) → j < length vs → is_at_border rule.border dims (p + j) ≡ true) → f.count ≡ e.count + length vs → f.sum ≡ e.sum +ℤ total vs
    → IsEdge rule dims (xs ++ placed p vs) f
edge_in rule dims xs p vs e f is same c s =
    let q = is_on_border rule dims in
    record {
      count = c ∙ ap (λ n. n + length vs) is.count ∙ sym (count_run q true xs p vs (λ j v h. same j h));
      sum = s ∙ ap (λ z. z +ℤ total vs) is.sum ∙ sym (value_run q true xs p vs (λ j v h. same j h));
    }

pub edge_out : (rule : StatsRule) (dims : List Dim) (xs : List Sample) (p : ℕ) (vs : List ℤ) (e f : Edge) → IsEdge rule dims xs e
    → ((j : ℕ) → j < length vs → is_at_border rule.border dims (p + j) ≡ false) → f.count ≡ e.count → f.sum ≡ e.sum → IsEdge rule dims (xs ++ placed p vs) f
edge_out rule dims xs p vs e f is same c s =
    let q = is_on_border rule dims in
    record {
      count = c ∙ is.count ∙ (let z : count_where q xs ≡ count_where q xs + 0 = omega arith in z) ∙ sym (count_run q false xs p vs (λ j v h. same j h));
      sum = s ∙ is.sum ∙ sym (+ℤ_idr (value_where q xs)) ∙ sym (value_run q false xs p vs (λ j v h. same j h));
    }

-- with the samples at the border of later ones
pub edges_both : (rule : StatsRule) (dims : List Dim) (xs ys : List Sample) (a b c : Edge) → IsEdge rule dims xs a → IsEdge rule dims ys b
    → c.count ≡ a.count + b.count → c.sum ≡ a.sum +ℤ b.sum → IsEdge rule dims (xs ++ ys) c
edges_both rule dims xs ys a b c one two e f =
    let q = is_on_border rule dims in
    record {
      count = e ∙ ap (λ n. n + b.count) one.count ∙ ap (λ n. count_where q xs + n) two.count ∙ sym (count-append q xs ys);
      sum = f ∙ ap (λ z. z +ℤ b.sum) one.sum ∙ ap (λ z. value_where q xs +ℤ z) two.sum ∙ sym (sum_where-append q (λ s. s.value) xs ys);
    }

-- the sum of a part has room
pub part_room : (kind : SampleType) (at m : ℕ) (bytes : List ℕ) (b : ℤ) → ((i : ℕ) → Fits w8 (get_or bytes i 0)) → m ≤ 67108864
    → b ≡ total (numbers kind m (drop at bytes)) → HasRoom b
part_room kind at m bytes b fit few e =
    let long = length-piece kind 0 m (drop at bytes) in
    subst HasRoom (sym (e ∙ total_placed 0 (numbers kind m (drop at bytes))))
    (value_room (placed 0 (numbers kind m (drop at bytes)))
    (parts_small kind 0 m (drop at bytes) (λ i. subst (Fits w8) (sym (get_or-drop at bytes i 0)) (fit (at + i)))) (omega (arith, long)))

-- and so has a sum over some samples of those before it
pub part_rooms : (q : Sample → Bool) (kind : SampleType) (from k m : ℕ) (bytes : List ℕ) (a b : ℤ) → ((i : ℕ) → Fits w8 (get_or bytes i 0))
    → k + m ≤ 67108864 → a ≡ value_where q (placed from (numbers kind k bytes)) → b ≡ total (numbers kind m (drop (k * width kind) bytes))
    → HasRoom a × HasRoom b
part_rooms q kind from k m bytes a b fit few e f =
    let long = length-piece kind from k bytes in (
      subst HasRoom (sym e) (where_room q (placed from (numbers kind k bytes)) (parts_small kind from k bytes fit) (omega (arith, long))),
      part_room kind (k * width kind) m bytes b fit (omega arith) f,
    )

-- along a line the index in dimension 1 stays
pub y_along : (dims : List Dim) (p x y j : ℕ) → index_in dims 0 p ≡ x → index_in dims 1 p ≡ y → x + j < size_in dims 0 → index_in dims 1 (p + j) ≡ y
y_along dims p x y zero at row h = ap (index_in dims 1) (let e : p + 0 ≡ p = omega arith in e) ∙ row
y_along dims p x y (suc j) at row h =
    let before = x_along dims p x j at (omega arith) in
    ap (index_in dims 1) (let e : p + suc j ≡ p + j + 1 = omega arith in e) ∙ next_y dims (p + j) (omega (arith, before))
    ∙ y_along dims p x y j at row (omega arith)

-- the sums of the rows with a part of a line
pub rows-more : (dims : List Dim) (n : ℕ) (xs : List Sample) (p x y : ℕ) (vs : List ℤ) → index_in dims 0 p ≡ x → index_in dims 1 p ≡ y
    → x + length vs ≤ size_in dims 0 → y < n → added_at (table (λ k. value_where (has_index dims 1 k) xs) 0 n) y (total vs)
    ≡ table (λ k. value_where (has_index dims 1 k) (xs ++ placed p vs)) 0 n
rows-more dims n xs p x y vs at row fits within =
    let f : ℕ → ℤ = λ k. value_where (has_index dims 1 k) xs in
    let g : ℕ → ℤ = λ k. value_where (has_index dims 1 k) (xs ++ placed p vs) in
    let there : 0 + y ≡ y = omega arith in
    let here : g (0 + y) ≡ get_or (table f 0 n) y (pos 0) +ℤ total vs =
    value_run (has_index dims 1 (0 + y)) true xs p vs
    (λ j v h. eq-eqb (index_in dims 1 (p + j)) (0 + y) (y_along dims p x y j at row (omega arith) ∙ sym there))
    ∙ ap (λ v. v +ℤ total vs) (sym (get_or-table f 0 n y (pos 0) within)) in
    set-table f g 0 n y (get_or (table f 0 n) y (pos 0) +ℤ total vs) within here
    (λ k ne. sym (value_run (has_index dims 1 k) false xs p vs
    (λ j v h. ne_eqb (index_in dims 1 (p + j)) k (λ e. ne (sym e ∙ y_along dims p x y j at row (omega arith) ∙ sym there))) ∙ +ℤ_idr (f k)))

pub length-along : (dims : List Dim) (d : ℕ) (xs : List Sample) (sums : List ℤ) → sums ≡ sums_along dims d xs → length sums ≡ size_in dims d
length-along dims d xs sums is = ap length is ∙ length-table (λ i. value_where (has_index dims d i) xs) 0 (size_in dims d)

-- so many sums along a dimension have room
pub along_room : (dims : List Dim) (d : ℕ) (kind : SampleType) (from k : ℕ) (bytes : List ℕ) (sums : List ℤ) → ((i : ℕ) → Fits w8 (get_or bytes i 0))
    → k ≤ 67108864 → sums ≡ sums_along dims d (placed from (numbers kind k bytes)) → HaveRoom sums × (length sums ≡ size_in dims d)
along_room dims d kind from k bytes sums fit few is =
    let xs = placed from (numbers kind k bytes) in
    let long = length-piece kind from k bytes in (
      subst HaveRoom (sym is) (profile_room dims d (size_in dims d) xs (parts_small kind from k bytes fit) (omega (arith, long))),
      length-along dims d xs sums is,
    )

-- the sums of the columns with one sample more
pub columns-more : (dims : List Dim) (kind : SampleType) (from k at : ℕ) (bytes : List ℕ) (sums : List ℤ) (v : ℤ)
    → sums ≡ sums_along dims 0 (placed from (numbers kind k bytes)) → index_in dims 0 (from + k) ≡ at → at < size_in dims 0 → v ≡ stored kind bytes k
    → added_at sums at v ≡ sums_along dims 0 (placed from (numbers kind (k + 1) bytes))
columns-more dims kind from k at bytes sums v is here within e =
    let s : Sample = record { place = from + k; value = stored kind bytes k } in
    ap (λ l. added_at l at v) is ∙ ap (λ i. added_at (sums_along dims 0 (placed from (numbers kind k bytes))) i v) (sym here)
    ∙ ap (added_at (sums_along dims 0 (placed from (numbers kind k bytes))) (index_in dims 0 (from + k))) e
    ∙ profile-more dims 0 (size_in dims 0) (placed from (numbers kind k bytes)) s (omega (arith, here))
    ∙ ap (sums_along dims 0) (sym (piece-more kind from k bytes))
