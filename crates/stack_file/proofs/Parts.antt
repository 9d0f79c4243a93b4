-- Parts of a list of arrays.
use Rattle.std.proofs.Common.{◌≡◌, ℕ, ◌+◌, ◌-◌, ◌≤◌, List, [], ◌∷◌, ◌++◌, Some, length, take, drop, get_or, ap, sym, ◌∙◌, arith}
use Rattle.std.specs.Prelude.{slice_get}
use Rattle.std.proofs.Math.ListN.{drop_of_length-le}
use Rattle.std.proofs.lemmas.List.{take_more, take-take, take-append-drop, drop-append-le, length-drop, length-take-le, length-take}
use Rattle.std.proofs.lemmas.Option.{slice_get_within, get_or_from_slice_get}
use Rattle.nd_base.specs.Array.{Array}
use Rattle.stack_file.specs.Gathered.{part}

-- none of them
pub part-none : (k : ℕ) (xs : List Array) → part k k xs ≡ []
part-none k xs = drop_of_length-le (take k xs) (omega (arith, length-take k xs))

-- one more at the end
pub part-more : (from k : ℕ) (xs : List Array) (x : Array) → from ≤ k → slice_get xs k ≡ Some x → part from (k + 1) xs ≡ part from k xs ++ x ∷ []
part-more from k xs x h at =
    let within = slice_get_within xs k x at in
    let size = length-take-le k xs (omega (arith, within)) in
    ap (drop from) (take_more xs k x within) ∙ drop-append-le from (take k xs) (get_or xs k x ∷ []) (omega (arith, size, h))
    ∙ ap (λ y. drop from (take k xs) ++ y ∷ []) (get_or_from_slice_get xs k x x at)

-- how many they are
pub length-part : (from to : ℕ) (xs : List Array) → to ≤ length xs → length (part from to xs) ≡ to - from
length-part from to xs h = length-drop from (take to xs) ∙ ap (λ n. n - from) (length-take-le to xs h)

-- behind those before them
pub part-join : (from to : ℕ) (xs : List Array) → from ≤ to → take from xs ++ part from to xs ≡ take to xs
part-join from to xs h = ap (λ front. front ++ drop from (take to xs)) (sym (take-take from to xs h)) ∙ take-append-drop from (take to xs)
