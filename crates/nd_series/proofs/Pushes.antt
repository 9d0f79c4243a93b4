-- What pushes keep.
use Rattle.std.proofs.Common.{◌≡◌, ℕ, ◌-◌, ◌≤◌, List, [], ◌∷◌, ◌++◌, length, drop, ap, sym, ◌∙◌, arith, append_assoc}
use Rattle.std.proofs.lemmas.List.{append-nil, drop-append-le, drop-drop, length-append, length-drop}
use Rattle.circular_buffer.specs.Buffer.{keep_last}
use Rattle.nd_series.specs.declared.row.SeriesRow.{SeriesRow}
use Rattle.nd_series.specs.Kept.{Kept, no_rows, after_pushes}

-- what fell out before falls out
pub keep_last-append : {X : Type 0} (n : ℕ) (xs ys : List X) → keep_last n (keep_last n xs ++ ys) ≡ keep_last n (xs ++ ys)
keep_last-append n xs ys =
    let a = length xs - n in
    let both = length-append xs ys in
    let same : drop a xs ++ ys ≡ drop a (xs ++ ys) = sym (drop-append-le a xs ys (omega arith)) in
    let left = length-drop a (xs ++ ys) in
    ap (keep_last n) same ∙ drop-drop (length (drop a (xs ++ ys)) - n) a (xs ++ ys) ∙ ap (λ m. drop m (xs ++ ys)) (omega (arith, both, left))

-- few rows are all kept
pub keep_last-few : {X : Type 0} (n : ℕ) (xs : List X) → length xs ≤ n → keep_last n xs ≡ xs
keep_last-few n xs few = ap (λ m. drop m xs) (let e : length xs - n ≡ 0 = omega arith in e)

rows_after : (regions most : ℕ) (pushed rows : List SeriesRow) → length rows ≤ most
    → after_pushes (record { regions = regions; most = most; rows = rows }) pushed ≡ record { regions = regions; most = most; rows = keep_last most (rows ++ pushed) }
rows_after regions most [] rows few =
    ap (λ kept. let s : Kept = record { regions = regions; most = most; rows = kept } in s) (sym (keep_last-few most rows few) ∙ ap (keep_last most) (sym (append-nil rows)))
rows_after regions most (row ∷ pushed) rows few =
    let more = rows ++ row ∷ [] in
    let long = length-drop (length more - most) more in
    rows_after regions most pushed (keep_last most more) (omega (arith, long))
    ∙ ap (λ kept. let s : Kept = record { regions = regions; most = most; rows = kept } in s)
    (keep_last-append most more pushed ∙ ap (keep_last most) (append_assoc rows (row ∷ []) pushed))

pub rows_after_pushes : (regions most : ℕ) (pushed : List SeriesRow)
    → after_pushes (no_rows regions most) pushed ≡ record { regions = regions; most = most; rows = keep_last most pushed }
rows_after_pushes regions most pushed = rows_after regions most pushed [] (omega arith)
