-- Dimensions of the same sizes.
use Rattle.std.proofs.Common.{◌≡◌, ◌≤◌, ◌*◌, ◌==◌, true, false, List, [], ◌∷◌, length, Some, refl, ap, sym, ◌∙◌, arith}
use Rattle.std.specs.Prelude.{slice_get, All}
use Rattle.std.proofs.lemmas.Bool.{and_parts, eqb-true}
use Rattle.std.proofs.lemmas.List.Elements.{All-head}
use Rattle.nd_base.specs.Array.{Array, StackValue}
use Rattle.nd_base.specs.declared.array.Dim.{Dim}
use Rattle.nd_base.specs.Shapes.{sample_count}
use Rattle.cdf_write.specs.Writable.{HasShape}
use Rattle.nd_stack.specs.KeptStacks.{IsKeptStack}
use Rattle.tool_commands.specs.Works.{same_sizes}

-- have as many samples
pub same_counts : (ds es : List Dim) → same_sizes ds es ≡ true → sample_count ds ≡ sample_count es
same_counts [] [] same = refl
same_counts (d ∷ ds) (e ∷ es) same =
    let p = and_parts (d.size == e.size) (same_sizes ds es) same in
    let first = eqb-true d.size e.size p.0 in
    ap (λ n. n * sample_count ds) first ∙ ap (λ n. e.size * n) (same_counts ds es p.1)
same_counts [] (e ∷ es) same = absurd (cc)
same_counts (d ∷ ds) [] same = absurd (cc)

-- a frame of a stack has the samples of its dimensions
pub first_count : (s : StackValue) (arrays : List Array) (a : Array) → All (HasShape s.shape) arrays → slice_get arrays 0 ≡ Some a
    → length a.samples ≡ sample_count a.dims
first_count s [] a each is = absurd (cc)
first_count s (b ∷ arrays) a each is =
    let first : b ≡ a = cc in
    let has = All-head (HasShape s.shape) b arrays each in
    rw (sym first) (has.count ∙ sym (ap sample_count has.dims))

pub dark_count : (s : StackValue) (a : Array) (dims : List Dim) → IsKeptStack s → slice_get s.arrays 0 ≡ Some a → same_sizes a.dims dims ≡ true
    → length a.samples ≡ sample_count dims
dark_count s a dims kept is same = first_count s s.arrays a kept.each is ∙ same_counts a.dims dims same

-- dimensions are no fewer
pub longer_differs : (ds es : List Dim) → 1 ≤ length ds → length es ≡ 0 → false ≡ same_sizes ds es
longer_differs [] es some none = absurd (grind (arith))
longer_differs (d ∷ ds) [] some none = refl
longer_differs (d ∷ ds) (e ∷ es) some none = absurd (cc)
